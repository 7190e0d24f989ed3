use Rattle.std.specs.Prelude.{◌≡◌, ℕ, ◌+◌, ◌-◌}
use mathlib.Core.Path.{sym, ap, ◌∙◌}
use native.Mathlib.Omega.{arith}
use Rattle.rules.specs.Trades.{outstanding}
use Rattle.rules.proofs.FitParts.{fit_parts, fit-securities, fits-cash}
use Rattle.ledger.specs.Figures.{figures_at, Moved}
use Rattle.ledger.specs.Flat.{trades_of}
use Rattle.ledger.specs.Types.{Event}
use Rattle.ledger.proofs.FitFacts.{fit-keeps, fit-in-use}
use Rattle.ledger.proofs.figures.figures_moved.Goals as goal

less : (a b c : ℕ) → a ≡ b + c → a - c ≡ b
less a b c e = omega arith

pub outstanding_of-requires : goal.outstanding_of-requires
outstanding_of-requires c =
    fit-keeps _ _ _ c.requires.0.1.fits

pub returns-in-Open : goal.returns-in-Open
returns-in-Open c =
    let told : (event : Event) → c.args.event ≡ event → Moved event c.args.before (figures_at c.args.scalars c.args.held.now (trades_of c.args.table.now)) = λ event e. rw e at c.requires.1 in
    rw (c.outstanding_of.ensures ∙ ap outstanding (sym (fit-in-use _ _ _ c.requires.0.1.fits)), told _ c.in-Open.is)

pub overflow_add-more : goal.overflow_add-more
overflow_add-more c =
    let told : (event : Event) → c.args.event ≡ event → Moved event c.args.before (figures_at c.args.scalars c.args.held.now (trades_of c.args.table.now)) = λ event e. rw e at c.requires.1 in
    let parts = fit_parts _ _ _ c.requires.0.1.fits in
    omega (arith, (told _ c.in-Initial.is).0, parts.size.within, parts.size.covers)

pub revalued-requires : goal.revalued-requires
revalued-requires c =
    let parts = fit_parts _ _ _ c.requires.0.1.fits in
    (fit-securities _ parts.securities, fits-cash _ _ parts.cash)
