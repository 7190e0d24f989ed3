-- The first cause that applies, found cause by cause, and what none leaves: for the early returns of a call and for what stands after them.
-- Assumes nothing.
use mathlib.Core.Path.{◌≡◌, refl, ap, ◌∙◌}
use mathlib.Core.Bool.{Bool, true, false, cond}
use mathlib.Core.List.{List, [], ◌∷◌}
use mathlib.Core.Option.{Option, none, some}
use Prim.Native.Nat.{ℕ}
use native.Mathlib.Omega.{arith}
use lib.Dec.{eqb}
use Rattle.std.specs.Prelude.{Result, Ok, Err, is_ok}
use Rattle.money.specs.declared.refusal.Refusal.TheVariants.{NotFit, Undecodable, UnknownKind, WrongPhase, PermissionEnded, TradesSuspended, BadCount}
use Rattle.money.specs.declared.refusal.Refusal.TheVariants.{BadPrice, BadDueDay, BadContract, TableFull, AboveHeadroom, NotEnough, PastLimit}
use Rattle.money.specs.declared.refusal.Refusal.TheVariants.{BelowOutstanding, NoTradingDay, ListFull, BadLength, NoSuchDate, NotPosted}
use Rattle.money.specs.Causes.{Cause, ◌⇒◌, Refusal, first_of, refusal_number, refusal_of}

-- the cause in front applies
pub hit : {test : Bool} (n : ℕ) (cs : List Cause) → test ≡ true → first_of ((test ⇒ n) ∷ cs) ≡ some n
unfolding first_of
hit n cs e = ap (λ (b : Bool). cond b (some n) (first_of cs)) e

-- it does not, and the others decide
pub skip : {test : Bool} {o : Option ℕ} (n : ℕ) (cs : List Cause) → test ≡ false → first_of cs ≡ o → first_of ((test ⇒ n) ∷ cs) ≡ o
unfolding first_of
skip n cs e f = ap (λ (b : Bool). cond b (some n) (first_of cs)) e ∙ f

-- none is left
pub clear : first_of [] ≡ none
unfolding first_of
clear = refl

-- where no cause applies, the test of each failed: cited by the cause's number
abbrev pub Failed : ℕ → List Cause → Type 0
Failed n [] = Unit {0}
Failed n (c ∷ cs) = (eqb c.number n ≡ true → c.applies ≡ false) × Failed n cs

pub failed : (cs : List Cause) → first_of cs ≡ none → (n : ℕ) → Failed n cs
unfolding first_of
failed [] e n = tt
failed (c ∷ cs) e n = go c.applies refl (λ e. failed cs e n) e
  where
    go : (b : Bool) → c.applies ≡ b → (first_of cs ≡ none → Failed n cs) → cond b (some c.number) (first_of cs) ≡ none → (eqb c.number n ≡ true → c.applies ≡ false) × Failed n cs
    go true m f e = let z : ◌≡◌ {A = ℕ} 0 1 = cc in absurd (omega arith)
    go false m f e = ((λ _. m), f e)

-- 0 is no refusal's number
pub not-0 : (refusal : Refusal) → refusal_number refusal ≡ 0 → ⊥
not-0 NotFit e = omega arith
not-0 Undecodable e = omega arith
not-0 UnknownKind e = omega arith
not-0 WrongPhase e = omega arith
not-0 PermissionEnded e = omega arith
not-0 TradesSuspended e = omega arith
not-0 BadCount e = omega arith
not-0 BadPrice e = omega arith
not-0 BadDueDay e = omega arith
not-0 BadContract e = omega arith
not-0 TableFull e = omega arith
not-0 AboveHeadroom e = omega arith
not-0 NotEnough e = omega arith
not-0 PastLimit e = omega arith
not-0 BelowOutstanding e = omega arith
not-0 NoTradingDay e = omega arith
not-0 ListFull e = omega arith
not-0 BadLength e = omega arith
not-0 NoSuchDate e = omega arith
not-0 NotPosted e = omega arith

-- a call that no cause turns down tells its result
pub ok-where-none : {A : Type 0} (told : Result A Refusal) → refusal_of told ≡ none → is_ok told ≡ true
ok-where-none (Ok result) e = refl
ok-where-none (Err refusal) e = let z : ◌≡◌ {A = ℕ} 0 1 = cc in absurd (omega arith)
