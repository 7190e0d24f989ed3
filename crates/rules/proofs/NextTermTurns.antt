-- The next terms, trade by trade, and what a plan of them needs: for loops over the table. (02, ask 4)
-- For the crate above. Assumes nothing.
use mathlib.Core.Path.{◌≡◌, refl, ap, ◌∙◌}
use mathlib.Core.Bool.{Bool, true, false}
use mathlib.Core.List.{List, [], ◌∷◌, ◌++◌, map}
use Prim.Native.Nat.{ℕ, ◌+◌, ◌*◌, ◌≤◌}
use native.Mathlib.Omega.{arith}
use Rattle.money.specs.Days.{Calendar}
use Rattle.money.specs.Money.{principal}
use Rattle.rules.specs.Book.{Book}
use Rattle.rules.specs.Days.{today}
use Rattle.rules.specs.Trades.{Trade, total, outstanding, maturing, matured}
use Rattle.rules.specs.NextTerm.{next_term, starts, with_started, in_slot, left_from, if_started, started_from}
use Rattle.rules.proofs.TradeLaws.{outstanding-append}

-- their principal goes by their sheets together
pub principal-by-sheets : (l : List Trade) → total (λ term. (principal term.sheets).0) l ≡ 10000 * outstanding l
unfolding outstanding total principal
principal-by-sheets [] = refl
principal-by-sheets (t ∷ l) = omega (arith, principal-by-sheets l)

module _ (calendar : Calendar) (book : Book) where
  -- ---- O before a trade counts the terms started before it

  pub left-append : (o : ℕ) (a b : List Trade) → left_from calendar book o (a ++ b) ≡ left_from calendar book o a ++ left_from calendar book (o + outstanding (started_from calendar book o a)) b
  unfolding outstanding total left_from started_from
  left-append o [] b = ap (λ n. left_from calendar book n b) (omega arith)
  left-append o (t ∷ a) b = go (starts calendar book o t) (λ o. left-append o a b)
    where
      go : (s : Bool) → ((o : ℕ) → left_from calendar book o (a ++ b) ≡ left_from calendar book o a ++ left_from calendar book (o + outstanding (started_from calendar book o a)) b)
          → in_slot s calendar book t ∷ left_from calendar book (with_started s book t o) (a ++ b)
          ≡ in_slot s calendar book t ∷ (left_from calendar book (with_started s book t o) a
          ++ left_from calendar book (o + outstanding (if_started s (next_term calendar book t) (started_from calendar book (with_started s book t o) a))) b)
      go true ih =
          let q = maturing (today book) t in
          let sum : o + q + outstanding (started_from calendar book (o + q) a) ≡ o + (q + outstanding (started_from calendar book (o + q) a)) = omega arith in
          ap (λ l. in_slot true calendar book t ∷ l) (ih (o + q) ∙ ap (λ n. left_from calendar book (o + q) a ++ left_from calendar book n b) sum)
      go false ih = ap (λ l. in_slot false calendar book t ∷ l) (ih o)

  pub started-append : (o : ℕ) (a b : List Trade) → started_from calendar book o (a ++ b) ≡ started_from calendar book o a ++ started_from calendar book (o + outstanding (started_from calendar book o a)) b
  unfolding outstanding total started_from
  started-append o [] b = ap (λ n. started_from calendar book n b) (omega arith)
  started-append o (t ∷ a) b = go (starts calendar book o t) (λ o. started-append o a b)
    where
      go : (s : Bool) → ((o : ℕ) → started_from calendar book o (a ++ b) ≡ started_from calendar book o a ++ started_from calendar book (o + outstanding (started_from calendar book o a)) b)
          → if_started s (next_term calendar book t) (started_from calendar book (with_started s book t o) (a ++ b))
          ≡ if_started s (next_term calendar book t) (started_from calendar book (with_started s book t o) a)
          ++ started_from calendar book (o + outstanding (if_started s (next_term calendar book t) (started_from calendar book (with_started s book t o) a))) b
      go true ih =
          let q = maturing (today book) t in
          let sum : o + q + outstanding (started_from calendar book (o + q) a) ≡ o + (q + outstanding (started_from calendar book (o + q) a)) = omega arith in
          ap (λ l. next_term calendar book t ∷ l) (ih (o + q) ∙ ap (λ n. started_from calendar book (o + q) a ++ started_from calendar book n b) sum)
      go false ih = ih o

  -- one more trade
  pub left-more : (o : ℕ) (a : List Trade) (t : Trade)
      → (let now = o + outstanding (started_from calendar book o a) in left_from calendar book o (a ++ (t ∷ [])) ≡ left_from calendar book o a ++ (in_slot (starts calendar book now t) calendar book t ∷ []))
  unfolding left_from
  left-more o a t = left-append o a (t ∷ [])

  one_more : (now : ℕ) (t : Trade) → now + outstanding (started_from calendar book now (t ∷ [])) ≡ with_started (starts calendar book now t) book t now
  unfolding outstanding total started_from
  one_more now t = go (starts calendar book now t)
    where
      go : (s : Bool) → now + outstanding (if_started s (next_term calendar book t) []) ≡ with_started s book t now
      go true = omega arith
      go false = omega arith

  pub outstanding-more : (o : ℕ) (a : List Trade) (t : Trade)
      → (let now = o + outstanding (started_from calendar book o a) in o + outstanding (started_from calendar book o (a ++ (t ∷ []))) ≡ with_started (starts calendar book now t) book t now)
  outstanding-more o a t =
      let now = o + outstanding (started_from calendar book o a) in
      rw (started-append o a (t ∷ []), outstanding-append (started_from calendar book o a) (started_from calendar book now (t ∷ []))) (omega (arith, one_more now t))

  -- ---- what a plan needs of them

  -- no more sheets start than mature
  pub started-at-most : (o : ℕ) (l : List Trade) → outstanding (started_from calendar book o l) ≤ total (maturing (today book)) l
  unfolding outstanding total started_from
  started-at-most o [] = omega arith
  started-at-most o (t ∷ l) = go (starts calendar book o t) (λ o. started-at-most o l)
    where
      go : (s : Bool) → ((o : ℕ) → outstanding (started_from calendar book o l) ≤ total (maturing (today book)) l)
          → outstanding (if_started s (next_term calendar book t) (started_from calendar book (with_started s book t o) l)) ≤ maturing (today book) t + total (maturing (today book)) l
      go true ih = omega (arith, ih (with_started true book t o))
      go false ih = omega (arith, ih o)

  -- where none starts, all stay matured
  pub left-matured : (o : ℕ) (l : List Trade) → started_from calendar book o l ≡ [] → left_from calendar book o l ≡ map (matured (today book)) l
  unfolding left_from started_from
  left-matured o [] e = refl
  left-matured o (t ∷ l) e = go (starts calendar book o t) (λ o. left-matured o l) e
    where
      go : (s : Bool) → ((o : ℕ) → started_from calendar book o l ≡ [] → left_from calendar book o l ≡ map (matured (today book)) l)
          → if_started s (next_term calendar book t) (started_from calendar book (with_started s book t o) l) ≡ []
          → in_slot s calendar book t ∷ left_from calendar book (with_started s book t o) l ≡ map (matured (today book)) (t ∷ l)
      go true ih e = let z : ◌≡◌ {A = ℕ} 0 1 = cc in absurd (omega arith)
      go false ih e = ap (λ l. matured (today book) t ∷ l) (ih o e)
