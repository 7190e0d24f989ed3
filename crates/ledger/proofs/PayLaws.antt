-- Pay by the sign of the net: which account pays it, and what moves.
-- Assumes nothing.
use Rattle.std.specs.Prelude.{◌≡◌, ◌+◌, ◌-◌, true, false, ℤ, pos, negsuc, nat_abs}
use mathlib.Core.Path.{refl, sym}
use mathlib.Core.Bool.{false≢true}
use native.Mathlib.Omega.{arith}
use borrow.Author.Tests.{ltb-true}
use lib.Signed.{lt_z}
use Rattle.money.specs.Units.{fen}
use Rattle.rules.specs.Pay.{payer_holds, moved}
use Rattle.ledger.specs.Types.{Cash}

module _ (cash : Cash) where
  pub client-holds : (net : ℤ) → lt_z net (pos 0) ≡ true → payer_holds net cash ≡ cash.client.0
  client-holds (pos n) h = absurd (omega (arith, ltb-true n 0 h))
  client-holds (negsuc n) h = refl

  pub own-holds : (net : ℤ) → lt_z net (pos 0) ≡ false → payer_holds net cash ≡ cash.own.0
  own-holds (pos n) h = refl
  own-holds (negsuc n) h = absurd (false≢true (sym h))

  pub client-moves : (net : ℤ) → lt_z net (pos 0) ≡ true → moved net cash ≡ record { own = fen (cash.own.0 + nat_abs net); client = fen (cash.client.0 - nat_abs net) }
  client-moves (pos n) h = absurd (omega (arith, ltb-true n 0 h))
  client-moves (negsuc n) h = refl

  pub own-moves : (net : ℤ) → lt_z net (pos 0) ≡ false → moved net cash ≡ record { own = fen (cash.own.0 - nat_abs net); client = fen (cash.client.0 + nat_abs net) }
  own-moves (pos n) h = refl
  own-moves (negsuc n) h = absurd (false≢true (sym h))
