-- O and V together, what an event tells of how it moves them, and what one walk tells: for private contracts. It states no rule.
-- Assumes nothing.
use Rattle.std.specs.Prelude.{◌≡◌, ℕ, ◌+◌, max, Bool, true, false, cond, List, [], ◌∷◌, ◌≢◌, Option}
use Rattle.money.specs.declared.units.Sheets.{Sheets}
use Rattle.money.specs.Units.{sheets}
use Rattle.money.specs.Days.{Calendar}
use Rattle.rules.specs.Trades.{in_use, outstanding}
use Rattle.rules.specs.Vault.{value, outstanding_of}
use Rattle.rules.specs.Fit.{trade_fit, all_trades}
use Rattle.ledger.specs.Types.{Trade, Book, Event, Open, FundIn, FundOut, Size, Rate, Pledge, Freeze, Withdraw, Initial, Early, Pay, Close, Post, Entry, Some, None}
use Rattle.ledger.specs.Flat.{FitsWhole, FitsHeld, vault_of, securities_of}
use Rattle.scalars.specs.declared.state.Scalars.{Scalars}
pub use Rattle.ledger.specs.declared.figures.Figures.{Figures}
pub use Rattle.ledger.specs.declared.figures.KnownFigures.{KnownFigures}
pub use Rattle.ledger.specs.declared.trades.Summary.{Summary}

-- more than any V of a fit book: 32 kinds of 10^12 units at two sheets each, and 10^12 sheets of cash
abbrev pub value_bound : ℕ
value_bound = 67000000000000

-- of a book over its table
abbrev pub figures_of : Book → List Trade → Figures
figures_of book table = record { outstanding = sheets (outstanding_of book table); value = sheets (value book.vault) }

-- O of scalars, and both of scalars with the row that has the securities
abbrev pub outstanding_at : Scalars → List Trade → ℕ
outstanding_at scalars table = outstanding (in_use scalars.trades table)

abbrev pub figures_at : Scalars → (held : List ℕ) → List Trade → Figures
figures_at scalars held table =
    record { outstanding = sheets (outstanding_at scalars table); value = sheets (value (vault_of scalars.guarantee (securities_of held))) }

-- V, where it is known
abbrev pub IsValue : Option Sheets → (value : ℕ) → Type 0
IsValue (Some counted) value = counted.0 ≡ value
IsValue None value = Unit {0}

-- what the core may rely on where O, and V if it is known, come with the book
pub record CountedWhole (calendar : Calendar) (scalars : Scalars) (held kinds units : List ℕ) (table : List Trade) (known : KnownFigures) : Type 0 where
  pub book : FitsWhole calendar scalars held kinds units table
  pub sheets : known.outstanding.0 ≡ outstanding_at scalars table
  pub value : IsValue known.value (figures_at scalars held table).value.0

pub record CountedHeld (calendar : Calendar) (scalars : Scalars) (held : List ℕ) (table : List Trade) (known : KnownFigures) : Type 0 where
  pub book : FitsHeld calendar scalars held table
  pub sheets : known.outstanding.0 ≡ outstanding_at scalars table
  pub value : IsValue known.value (figures_at scalars held table).value.0

-- what is known of them after an event that is done
abbrev pub Moved : Event → (before after : Figures) → Type 0
Moved Open before after = after.value ≡ before.value
Moved (FundIn account amount) before after = after ≡ before
Moved (FundOut account amount) before after = after ≡ before
Moved (Size size) before after = after ≡ before
Moved (Rate kind rate) before after = after.outstanding ≡ before.outstanding
Moved (Pledge kind units) before after = after.outstanding ≡ before.outstanding
Moved (Freeze kind units) before after = after.outstanding ≡ before.outstanding
Moved (Withdraw kind units) before after = after ≡ before
Moved (Initial terms) before after = (after.outstanding.0 ≡ before.outstanding.0 + terms.sheets.0) × (after.value ≡ before.value)
Moved (Early contract count price) before after = (before.outstanding.0 ≡ after.outstanding.0 + count.0) × (after.value ≡ before.value)
Moved Pay before after = after ≡ before
Moved Close before after = Unit {0}
Moved (Post product posting) before after = after ≡ before

-- after any entry, by its number
abbrev pub MovedBy : Entry → (number : ℕ) → (before after : Figures) → Type 0
MovedBy (Some event) number before after = ((number ≢ 0) → after ≡ before) × (number ≡ 0 → Moved event before after)
MovedBy None number before after = after ≡ before

-- O of a fit book, and none of one that is not fit
abbrev pub IsFitWith : Option Sheets → (fit : Bool) → (outstanding : ℕ) → Type 0
IsFitWith (Some counted) fit outstanding = (fit ≡ true) × (counted.0 ≡ outstanding)
IsFitWith None fit outstanding = fit ≡ false

-- ---- what one walk over trades tells

unfoldable pub latest_first : List Trade → ℕ
latest_first [] = 0
latest_first (trade ∷ trades) = max trade.first (latest_first trades)

-- and nothing where a trade is past its limits
abbrev pub summary_of : List Trade → Option Summary
summary_of trades =
    cond (all_trades trade_fit trades) (Some (record { outstanding = sheets (outstanding trades); latest = latest_first trades })) None
