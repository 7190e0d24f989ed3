-- What fitness tells of a security in its row.
-- For Pledge. Assumes nothing.
use Rattle.std.specs.Prelude.{◌≡◌, ℕ, ◌<◌, true, List}
use mathlib.Core.Path.{subst}
use Rattle.rules.specs.Fit.{securities_fit}
use Rattle.rules.proofs.FitParts.{SecurityFits, securities-fit}
use Rattle.ledger.specs.Types.{Guarantee}
use Rattle.ledger.specs.Flat.{security_in, securities_of, vault_of}
use Rattle.ledger.proofs.HeldLaws.{security-at-row}

pub row_fits : (held : List ℕ) (guarantee : Guarantee) → securities_fit (vault_of guarantee (securities_of held)) ≡ true → (kind : ℕ) → kind < 32 → SecurityFits (security_in held kind)
row_fits held guarantee e kind h = subst SecurityFits (security-at-row held guarantee kind h) (securities-fit (vault_of guarantee (securities_of held)) e kind h)
