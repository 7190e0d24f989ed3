use Rattle.std.specs.Prelude.{ℕ, ◌+◌, List, [], ◌∷◌, unsigned_abs}
use Rattle.rules.specs.Vault.{headroom_of}
use Rattle.rules.specs.Listing.{sign_of}
use mathlib.Core.Path.{ap, ◌∙◌}
use native.Mathlib.Omega.{arith}
use lib.Seq.{sets}
use Rattle.rules.proofs.FitParts.{fit_parts}
use Rattle.ledger.specs.Figures.{Figures}
use Rattle.ledger.specs.Flat.{rows_of, applied_at}
use Rattle.ledger.proofs.FigureLaws.{moved-after}
use Rattle.ledger.proofs.LineLaws.{line-told}
use Rattle.ledger.proofs.RowLaws.{row-put}
use Rattle.ledger.proofs.RunLaws.{fit-after}
use Rattle.ledger.proofs.run.run_event.Goals as goal

pub entry_on-done-requires : goal.entry_on-done-requires
entry_on-done-requires c =
    rw c.from.ensures (record { book = c.requires.0; sheets = ap (λ (f : Figures). f.outstanding.0) c.requires.1; value = ap (λ (f : Figures). f.value.0) c.requires.1 })

pub figures_after-after-requires : goal.figures_after-after-requires
figures_after-after-requires c =
    let called = c.entry_on-done in
    let lent = called.new in
    let applied = applied_at called.result (rows_of lent.held lent.kinds lent.units) in
    let still-fit = fit-after _ _ _ _ c.requires.0.fits applied _ called.ensures.0 called.ensures.1 in (
      (_, record { kinds = lent.kinds; units = lent.units; few = c.requires.0.few; fits = still-fit }),
      moved-after _ _ _ _ c.requires.0.fits _ c.requires.1 applied _ called.ensures.0 called.ensures.1,
    )

pub line_of-requires : goal.line_of-requires
line_of-requires c =
    let called = c.entry_on-done in
    let lent = called.new in
    let still-fit = fit-after _ _ _ _ c.requires.0.fits (applied_at called.result (rows_of lent.held lent.kinds lent.units)) _ called.ensures.0 called.ensures.1 in
    omega (arith, (fit_parts _ _ _ still-fit).cash.sum)

pub returns : goal.returns
returns c =
    let a = c.args in
    let called = c.entry_on-done in
    let applied = rw c.decode-entry.ensures.0 at called.ensures.0 in
    let tabled = rw c.decode-entry.ensures.0 at called.ensures.1 in
    let left = called.result.scalars in
    let f = c.figures_after-after.result in
    let headroom = headroom_of left.size.0 f.value.0 f.outstanding.0 in
    let row : List ℕ =
    called.result.answer.number ∷ sign_of headroom ∷ unsigned_abs headroom ∷ f.outstanding.0 ∷ left.cash.own.0 ∷ left.cash.client.0 ∷ (left.guarantee.effective.0 + left.guarantee.arriving.0) ∷ [] in
    let told = line-told _ _ _ applied tabled c.figures_after-after.ensures in (
      ap (λ x. x.book) applied,
      tabled,
      rw (c.copy_from_slice.ensures.after ∙ c.line_of.ensures) (row-put a.lines.now a.at row c.requires.2 ∙ ap (λ line. sets a.lines.now a.at line) told),
      c.figures_after-after.ensures,
    )
