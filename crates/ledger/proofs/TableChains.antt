-- Chains of iterators over the places of the flat table: what they give is told by the trades that stand there.
-- For the functions that sum over the trades. Assumes nothing.
use Rattle.std.specs.Prelude.{◌≡◌, ℕ, zero, suc, ◌+◌, List, [], ◌∷◌, ◌++◌, map, Option}
use Rattle.std.specs.List.{sum_by, range_with_len}
use Rattle.std.specs.Iterator.{AlwaysYields}
use Rattle.std.specs.declared.ops.Range.{Range}
use Rattle.std.proofs.iter.Yields.{nat_range_steps}
use Rattle.std.proofs.lemmas.Iterator.{YieldsList, YieldsList-from_range}
use Rattle.std.proofs.lemmas.List.FromFn.{map-range_with_len_more}
use Rattle.std.proofs.lemmas.List.Sums.{sum_by-cons}
use mathlib.Core.Path.{refl, sym, ap, subst, ◌∙◌}
use native.Mathlib.Numerals.{add-one}
use native.Mathlib.Omega.{arith}
use Rattle.rules.specs.Trades.{total}
use Rattle.ledger.specs.Types.{Trade}
use Rattle.ledger.specs.Flat.{trade_at, trades_to}
use Rattle.ledger.proofs.FlatLaws.{no-trades, one_more}

-- ---- the places give the trades

read-by : {S A B C : Type 0} (steps : S → Option A → S → Type 0) (v : A → B) (f : B → C) (s : S) (all : List B) → AlwaysYields steps v s all → AlwaysYields steps (λ x. f (v x)) s (map f all)
read-by steps v f s [] g = g
read-by steps v f s (y ∷ all) g = (g.0, λ x j p. let m = g.1 x j p in (ap f m.0, read-by steps v f j all m.1))

trades-by-place : (table : List ℕ) (n : ℕ) → map (trade_at table) (range_with_len 0 n) ≡ trades_to table n
trades-by-place table zero = sym (no-trades table)
trades-by-place table (suc n) =
    rw add-one at
    (map-range_with_len_more (trade_at table) 0 n n (omega arith) ∙ ap (λ (front : List Trade). front ++ (trade_at table n ∷ [])) (trades-by-place table n) ∙ sym (one_more table n))

pub places-give : (table : List ℕ) {s : Range ℕ} (n : ℕ) → s ≡ record { start = 0; end = n } → YieldsList nat_range_steps (trade_at table) s (trades_to table n)
places-give table {s} n e =
    record { runs = subst (AlwaysYields nat_range_steps (trade_at table) s) (trades-by-place table n) (read-by nat_range_steps (λ x. x) (trade_at table) s _ (YieldsList-from_range 0 n n e (omega arith)).runs) }

-- ---- a number of each, summed

pub total-is-sum : (f : Trade → ℕ) (l : List Trade) → sum_by f l ≡ total f l
unfolding total
total-is-sum f [] = refl
total-is-sum f (t ∷ l) = sum_by-cons f t l ∙ ap (λ rest. f t + rest) (total-is-sum f l)
