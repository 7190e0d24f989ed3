use Rattle.std.proofs.Common.{◌∙◌, ◌≡◌, unsigned_abs}
use Rattle.rules.specs.Vault.{headroom_of}
use Rattle.rules.specs.Listing.{sign_of}
use Rattle.ledger.proofs.LineLaws.{sign-told, size-told}
use Rattle.ledger.proofs.line.line_of.Goals as goal

pub returns : goal.returns
returns c =
    let a = c.args in
    let headroom = headroom_of a.done.scalars.size.0 a.figures.value.0 a.figures.outstanding.0 in
    let sign : c.from-2.result ≡ sign_of headroom = rw c.smaller-covered.ensures at (c.from-2.ensures ∙ sign-told c.smaller-covered.result.0 a.figures.outstanding.0) in
    let size : c.abs_diff.result ≡ unsigned_abs headroom = rw c.smaller-covered.ensures at (c.abs_diff.ensures ∙ size-told c.smaller-covered.result.0 a.figures.outstanding.0) in
    rw (c.from.ensures, sign, size)
