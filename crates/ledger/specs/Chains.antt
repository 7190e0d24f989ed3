-- Chains of trades whose contracts fall into the same bucket: for private contracts. It states no rule.
-- Assumes nothing.
use Rattle.std.specs.Prelude.{◌≡◌, ℕ, zero, suc, ◌%◌, ◌<◌, ◌≤◌, true, false, ◌⊎◌, List, slice_index}
use Rattle.rules.specs.Trades.{same, differ}
use Rattle.ledger.specs.Types.{Contract}
use Rattle.ledger.specs.Flat.{trade_at, trades_to}
pub use Rattle.ledger.specs.declared.chains.ChainResult.{ChainResult}
pub use Rattle.ledger.specs.declared.chains.ChainResult.TheVariants.{Differs, Repeats, TooLong}

-- the most buckets: eight for each slot of the largest table
abbrev pub most_buckets : ℕ
most_buckets = 32749

abbrev pub bucket_of : (buckets : ℕ) → Contract → ℕ
bucket_of buckets contract = contract.0 % buckets

-- a place is reached from a link, one more than a place or 0 at the end, in so many steps
unfoldable pub Reaches : (next : List ℕ) → (steps link place : ℕ) → Type 0
Reaches next zero link place = ⊥
Reaches next (suc steps) zero place = ⊥
Reaches next (suc steps) (suc at) place = (at ≡ place) ⊎ Reaches next steps (slice_index next at) place

-- links lead to earlier places
abbrev pub Falls : (next : List ℕ) → (below : ℕ) → Type 0
Falls next below = (at : ℕ) → at < below → slice_index next at ≤ at

-- what a look along a chain tells of a contract
abbrev pub Shows : (table next : List ℕ) → (link : ℕ) → Contract → ChainResult → Type 0
Shows table next link contract Differs = (steps place : ℕ) → Reaches next steps link place → same (trade_at table place).contract contract ≡ false
Shows table next link contract Repeats = (place : ℕ) × (place < link) × (same (trade_at table place).contract contract ≡ true)
Shows table next link contract TooLong = Unit {0}

-- and all chains of the first trades
abbrev pub ShowsAll : (table : List ℕ) → (count : ℕ) → ChainResult → Type 0
ShowsAll table count Differs = differ (trades_to table count) ≡ true
ShowsAll table count Repeats = differ (trades_to table count) ≡ false
ShowsAll table count TooLong = Unit {0}
