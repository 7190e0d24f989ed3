-- Causes in groups: a refusal asks one group after another, each of a call that tells its cause, or none where none of it applies.
-- Assumes nothing.
use Rattle.std.specs.Prelude.{◌≡◌, ℕ, Bool, true, false, cond, List, [], ◌∷◌, ◌++◌}
use mathlib.Core.Path.{refl, sym, ap, ◌∙◌}
use mathlib.Core.Option.{Option, none, some}
use Rattle.money.specs.Causes.{Cause, first_of}
use Rattle.rules.proofs.Accepted.{Clear, all-clear}

abbrev or_else : (o p : Option ℕ) → Option ℕ
or_else none p = p
or_else (some n) p = some n

joined : (xs rest : List Cause) → first_of (xs ++ rest) ≡ or_else (first_of xs) (first_of rest)
unfolding first_of
joined [] rest = refl
joined (a ∷ xs) rest = by a.applies (joined xs rest)
  where
    by : (b : Bool) → first_of (xs ++ rest) ≡ or_else (first_of xs) (first_of rest)
        → cond b (some a.number) (first_of (xs ++ rest)) ≡ or_else (cond b (some a.number) (first_of xs)) (first_of rest)
    by true e = refl
    by false e = e

module _ (xs : List Cause) where
  -- the group refuses
  pub group-applies : (rest : List Cause) {n : ℕ} → some n ≡ first_of xs → some n ≡ first_of (xs ++ rest)
  group-applies rest e = sym (joined xs rest ∙ ap (λ o. or_else o (first_of rest)) (sym e))

  -- it does not, and the others decide
  pub group-passes : (rest : List Cause) {cause : Option ℕ} → none ≡ first_of xs → cause ≡ first_of rest → cause ≡ first_of (xs ++ rest)
  group-passes rest e f = f ∙ sym (joined xs rest ∙ ap (λ o. or_else o (first_of rest)) (sym e))

  -- and each of its tests failed, cited by number
  pub group-clear : none ≡ first_of xs → Clear xs
  group-clear e = all-clear xs (sym e)
