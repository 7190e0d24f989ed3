-- Chains of trades by buckets: what is reached stays reached when a link is added, and what is on no chain is not among the trades.
-- For the proofs of chains.rt. Assumes nothing.
use Rattle.std.specs.Prelude.{◌≡◌, ℕ, zero, suc, ◌+◌, ◌<◌, ◌≤◌, true, false, ◌⊎◌, List, length, get_or, drop, set, replicate}
use mathlib.Core.Path.{refl, sym, ap, subst, ◌∙◌}
use mathlib.Core.Logic.{inl, inr}
use native.Mathlib.Numerals.{add-one}
use native.Mathlib.Nat.{mod-lt}
use native.Mathlib.Omega.{arith}
use native.Mathlib.Decide.{ℕ_discrete}
use borrow.Author.Tests.{eqb-true}
use lib.ListN.{length-set, length-replicate}
use lib.Seq.{get_or-set_same, get_or-set_other}
use Rattle.rules.specs.Trades.{same, on_table, differ}
use Rattle.rules.proofs.FoldLaws.{by-test}
use Rattle.rules.proofs.TableFit.{differ-append}
use Rattle.ledger.specs.Types.{Contract}
use Rattle.ledger.specs.Flat.{trade_at, trades_to}
use Rattle.ledger.specs.Chains.{ChainResult, Differs, Repeats, TooLong, bucket_of, Reaches, Falls, Shows, ShowsAll}
use Rattle.ledger.proofs.FlatLaws.{one_more, split-trades}
use Rattle.ledger.proofs.PlaceLaws.{off-below, on_below, differ-none, differ-not}

-- ---- along a chain

pub reaches-none : (next : List ℕ) (steps place : ℕ) → Reaches next steps 0 place → ⊥
unfolding Reaches
reaches-none next zero place r = r
reaches-none next (suc steps) place r = r

pub reaches-on : (next : List ℕ) (steps at place : ℕ) → Reaches next steps (suc at) place → (at ≡ place) ⊎ ((further : ℕ) × Reaches next further (get_or next at 0) place)
unfolding Reaches
reaches-on next zero at place r = absurd r
reaches-on next (suc steps) at place (inl e) = inl e
reaches-on next (suc steps) at place (inr r) = inr (steps, r)

pub reaches-first : (next : List ℕ) (at : ℕ) → Reaches next 1 (suc at) at
unfolding Reaches
reaches-first next at = inl refl

pub reaches_then : (next : List ℕ) (steps at place : ℕ) → Reaches next steps (get_or next at 0) place → Reaches next (suc steps) (suc at) place
unfolding Reaches
reaches_then next steps at place r = inr r

-- a link that is set at a later place changes nothing before it
pub reaches-kept : (next : List ℕ) (below : ℕ) (value : ℕ) → Falls next below → (steps link place : ℕ) → link ≤ below → Reaches next steps link place → Reaches (set next below value) steps link place
unfolding Reaches
reaches-kept next below value falls zero link place h r = r
reaches-kept next below value falls (suc steps) zero place h r = r
reaches-kept next below value falls (suc steps) (suc at) place h (inl e) = inl e
reaches-kept next below value falls (suc steps) (suc at) place h (inr r) =
    inr (rw (get_or-set_other next below at value 0 (λ e. omega (arith, h, e))) (reaches-kept next below value falls steps (get_or next at 0) place (omega (arith, h, falls at (omega (arith, h)))) r))

pub falls-kept : (next : List ℕ) (below value : ℕ) → value ≤ below → below < length next → Falls next below → Falls (set next below value) (below + 1)
falls-kept next below value h room falls at l = by (ℕ_discrete at below)
  where
    by : Dec (at ≡ below) → get_or (set next below value) at 0 ≤ at
    by (yes e) = rw (e, get_or-set_same next below value 0 room) h
    by (no e) = rw (get_or-set_other next below at value 0 e) (falls at (omega (arith, l, e)))

-- ---- the same contract falls into the same bucket

same-bucket : (buckets : ℕ) (a b : Contract) → same a b ≡ true → bucket_of buckets a ≡ bucket_of buckets b
same-bucket buckets a b h = ap (λ (n : ℕ). bucket_of buckets (record { 0 = n })) (eqb-true a.0 b.0 h)

-- ---- the first trades, all linked

pub record Linked (table : List ℕ) (count buckets : ℕ) (heads next : List ℕ) (i : ℕ) : Type 0 where
  pub high : i ≤ count
  pub some : 0 < buckets
  pub most : buckets ≤ 32749
  pub wide : length heads ≡ buckets
  pub long : count ≤ length next
  pub low : (bucket : ℕ) → get_or heads bucket 0 ≤ i
  pub falls : Falls next i
  pub reached : (place : ℕ) → place < i → (steps : ℕ) × Reaches next steps (get_or heads (bucket_of buckets (trade_at table place).contract) 0) place
  pub differing : differ (trades_to table i) ≡ true

-- ---- a look along a chain

-- what is the same and was on the chain is still ahead
abbrev pub Ahead : (table next : List ℕ) → (from : ℕ) → Contract → (link : ℕ) → Type 0
Ahead table next from contract link = (steps place : ℕ) → Reaches next steps from place → (same (trade_at table place).contract contract ≡ false) ⊎ ((further : ℕ) × Reaches next further link place)

module _ (table next : List ℕ) (from : ℕ) (contract : Contract) where
  pub ahead-next : (link at : ℕ) → link ≡ suc at → Ahead table next from contract link → same (trade_at table at).contract contract ≡ false → Ahead table next from contract (get_or next at 0)
  ahead-next link at e ahead other steps place r = by (ahead steps place r)
    where
      on : (at ≡ place) ⊎ ((further : ℕ) × Reaches next further (get_or next at 0) place) → (same (trade_at table place).contract contract ≡ false) ⊎ ((further : ℕ) × Reaches next further (get_or next at 0) place)
      on (inl q) = inl (rw (sym q) other)
      on (inr q) = inr q

      by : (same (trade_at table place).contract contract ≡ false) ⊎ ((further : ℕ) × Reaches next further link place) → (same (trade_at table place).contract contract ≡ false) ⊎ ((further : ℕ) × Reaches next further (get_or next at 0) place)
      by (inl q) = inl q
      by (inr q) = on (reaches-on next q.0 at place (rw e at q.1))

  pub ahead_none : (link : ℕ) → link ≡ 0 → Ahead table next from contract link → Shows table next from contract Differs
  ahead_none link e ahead steps place r = by (ahead steps place r)
    where
      by : (same (trade_at table place).contract contract ≡ false) ⊎ ((further : ℕ) × Reaches next further link place) → same (trade_at table place).contract contract ≡ false
      by (inl q) = q
      by (inr q) = absurd (reaches-none next q.0 place (rw e at q.1))

-- ---- one trade more

zeros-at : (n at : ℕ) → get_or (replicate {A = ℕ} n 0) at 0 ≡ 0
zeros-at zero at = refl
zeros-at (suc n) zero = refl
zeros-at (suc n) (suc at) = zeros-at n at

pub none-linked : (table : List ℕ) (count buckets : ℕ) (heads next : List ℕ) → 0 < buckets → buckets ≤ 32749 → heads ≡ replicate buckets 0 → count ≤ length next → Linked table count buckets heads next 0
none-linked table count buckets heads next some most e long = record {
  high = omega arith;
  some = some;
  most = most;
  wide = rw e (length-replicate {A = ℕ} buckets 0);
  long = long;
  low = λ bucket. rw (e, zeros-at buckets bucket) (omega arith);
  falls = λ at l. absurd (omega (arith, l));
  reached = λ place l. absurd (omega (arith, l));
  differing = differ-none table;
}

module _ (table : List ℕ) (count buckets : ℕ) (heads next : List ℕ) (i : ℕ) (linked : Linked table count buckets heads next i) (more : i < count) where
  abbrev this : Contract
  this = (trade_at table i).contract

  abbrev bucket : ℕ
  bucket = bucket_of buckets this

  abbrev first : ℕ
  first = get_or heads bucket 0

  pub inside : bucket < length heads
  inside = rw linked.wide (mod-lt this.0 linked.some)

  repeated : Shows table next first this Repeats → differ (trades_to table count) ≡ false
  repeated told =
      ap differ (split-trades table count i more)
      ∙ differ-not (trades_to table i) (trade_at table i) (drop (suc i) (trades_to table count)) (on_below this table i told.0 (omega (arith, told.1, linked.low bucket)) told.2)

  -- what is told of this trade's contract, by the contract and the bucket that the code read
  pub looked-up : {contract : Contract} {at : ℕ} (told : ChainResult) → contract ≡ this → at ≡ bucket_of buckets contract → Shows table next (get_or heads at 0) contract told → Shows table next first this told
  looked-up {contract} told its fell shown =
      subst (λ (c : Contract). Shows table next (get_or heads (bucket_of buckets c) 0) c told) its (subst (λ (b : ℕ). Shows table next (get_or heads b 0) contract told) fell shown)

  -- and of all, where it does not differ
  pub told-of-all : (told : ChainResult) → (told ≡ Differs → ⊥) → Shows table next first this told → ShowsAll table count told
  told-of-all Differs h shown = absurd (h refl)
  told-of-all Repeats h shown = repeated shown
  told-of-all TooLong h shown = tt

  new : Shows table next first this Differs → on_table this (trades_to table i) ≡ false
  new told = off-below this table i (λ place l. by-test (λ b. b ≡ false) (same (trade_at table place).contract this) (λ e. sym e ∙ known place l e) (λ e. refl))
    where
      known : (place : ℕ) → place < i → same (trade_at table place).contract this ≡ true → same (trade_at table place).contract this ≡ false
      known place l e =
          let r = linked.reached place l in
          told r.0 place (rw (same-bucket buckets (trade_at table place).contract this e) at r.1)

  pub next-linked : Shows table next first this Differs → Linked table count buckets (set heads bucket (i + 1)) (set next i first) (i + 1)
  next-linked told = record {
    high = omega arith;
    some = linked.some;
    most = linked.most;
    wide = length-set heads bucket (i + 1) ∙ linked.wide;
    long = rw (length-set next i first) linked.long;
    low = λ at. low at (ℕ_discrete at bucket);
    falls = falls-kept next i first (linked.low bucket) (omega (arith, linked.long)) linked.falls;
    reached = λ place l. reached place l (ℕ_discrete place i) (ℕ_discrete (bucket_of buckets (trade_at table place).contract) bucket);
    differing = rw (one_more table i) (differ-append (trades_to table i) (trade_at table i) linked.differing (new told));
  }
    where
      low : (at : ℕ) → Dec (at ≡ bucket) → get_or (set heads bucket (i + 1)) at 0 ≤ i + 1
      low at (yes e) = rw (e, get_or-set_same heads bucket (i + 1) 0 inside) (omega arith)
      low at (no e) = rw (get_or-set_other heads bucket at (i + 1) 0 e) (omega (arith, linked.low at))

      kept : (steps link place : ℕ) → link ≤ i → Reaches next steps link place → Reaches (set next i first) steps link place
      kept = reaches-kept next i first linked.falls

      here : get_or (set next i first) i 0 ≡ first
      here = get_or-set_same next i first 0 (omega (arith, linked.long))

      reached : (place : ℕ) → place < i + 1 → Dec (place ≡ i) → Dec (bucket_of buckets (trade_at table place).contract ≡ bucket) → (steps : ℕ) × Reaches (set next i first) steps (get_or (set heads bucket (i + 1)) (bucket_of buckets (trade_at table place).contract) 0) place
      reached place l (yes e) d = rw (e, get_or-set_same heads bucket (i + 1) 0 inside, add-one i) (1, reaches-first (set next i first) i)
      reached place l (no e) (yes q) =
          let r = linked.reached place (omega (arith, l, e)) in
          rw (q, get_or-set_same heads bucket (i + 1) 0 inside, add-one i) (suc r.0, reaches_then (set next i first) r.0 i place (rw here (kept r.0 first place (linked.low bucket) (rw q at r.1))))
      reached place l (no e) (no q) =
          let r = linked.reached place (omega (arith, l, e)) in
          rw (get_or-set_other heads bucket (bucket_of buckets (trade_at table place).contract) (i + 1) 0 q) (r.0, kept r.0 (get_or heads (bucket_of buckets (trade_at table place).contract) 0) place (linked.low (bucket_of buckets (trade_at table place).contract)) r.1)
