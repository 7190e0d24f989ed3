-- O and V after an entry: what is turned down moves neither, and an event that is done moves them as it says.
-- For the proofs of figures.rt, run.rt and lent.rt. Assumes nothing.
use Rattle.std.specs.Prelude.{◌≡◌, ℕ, ◌+◌, Bool, true, false, List, [], ◌∷◌, length, take}
use mathlib.Core.Path.{refl, sym, ap, ◌∙◌}
use mathlib.Core.Bool.{false≢true}
use mathlib.Core.Option.{Option, none, some}
use borrow.Author.Tests.{ltb-false, leb-false, not-false}
use Rattle.money.specs.declared.units.Sheets.{Sheets}
use Rattle.money.specs.declared.units.Ticks.{Ticks}
use Rattle.money.specs.Units.{signed_sheets}
use Rattle.money.specs.Causes.{first_of}
use Rattle.money.specs.Days.{Calendar}
use Rattle.rules.specs.Trades.{in_use, outstanding, take_off}
use Rattle.rules.specs.Vault.{headroom_of, outstanding_of, headroom}
use Rattle.rules.specs.Fit.{fit}
use Rattle.rules.specs.Open.{opened_book}
use Rattle.rules.specs.Funds.{funded_in, funded_out}
use Rattle.rules.specs.Size.{sized}
use Rattle.rules.specs.Rate.{rated}
use Rattle.rules.specs.Pledge.{pledged}
use Rattle.rules.specs.Freeze.{frozen}
use Rattle.rules.specs.Withdraw.{withdrawn}
use Rattle.rules.specs.Initial.{initial_causes, begun, initial_book, initial_table}
use Rattle.rules.specs.Early.{early_causes, early_book, early_table}
use Rattle.rules.specs.Pay.{fails, after_pay}
use Rattle.rules.specs.Close.{close_answer}
use Rattle.rules.specs.Post.{posted}
use Rattle.rules.specs.Step.{event_causes, entry_causes, causes, act, act_on, refuse_or, step, accepted}
use Rattle.rules.specs.Cover.{cover_counted}
use Rattle.rules.proofs.TradeLaws.{outstanding-append, outstanding-one, outstanding-take_off, length-take_off, take-over, take-begun}
use Rattle.rules.proofs.Accepted.{all-clear}
use Rattle.rules.proofs.Answers.{turned_down}
use Rattle.rules.proofs.FitParts.{fit_parts}
use Rattle.rules.proofs.StaysFit.{others-clear}
use Rattle.ledger.specs.Types.{Book, Contract, Trade, Terms, Event, Open, FundIn, FundOut, Size, Rate, Pledge, Freeze, Withdraw, Initial, Early, Pay, Close, Post, Entry, Some, None, Applied}
use Rattle.ledger.specs.Flat.{applied_of}
use Rattle.ledger.specs.Figures.{Figures, figures_of, MovedBy}

-- what a number that is not 0 tells of any entry
pub unmoved : (entry : Entry) (number : ℕ) (before after : Figures) → MovedBy entry number before after → (number ≡ 0 → ⊥) → after ≡ before
unmoved (Some event) number before after m z = m.0 z
unmoved None number before after m z = m

-- 0 is 0
never : {A : Type 0} → (◌≡◌ {A = ℕ} 0 0 → ⊥) → A
never z = absurd (z refl)

module _ (calendar : Calendar) (book : Book) (table : List Trade) (fits : fit calendar book table ≡ true) where
  -- a new last trade adds its sheets
  initial-adds : (terms : Terms) → first_of (initial_causes calendar book table terms) ≡ none
      → outstanding_of (initial_book book terms) (initial_table calendar book table terms) ≡ outstanding_of book table + terms.sheets.0
  unfolding initial_causes initial_book initial_table
  initial-adds terms e =
      let room = leb-false (length table) book.trades (all-clear (initial_causes calendar book table terms) e 11) in
      ap outstanding (take-begun book.trades table (begun calendar book terms) room)
      ∙ outstanding-append (take book.trades table) (begun calendar book terms ∷ [])
      ∙ ap (λ n. outstanding_of book table + n) (outstanding-one (begun calendar book terms))

  -- an early redemption takes its sheets off
  early-takes : (contract : Contract) (count : Sheets) (price : Ticks) → first_of (early_causes calendar book table contract count price) ≡ none
      → outstanding_of book table ≡ outstanding_of (early_book calendar book table contract count price) (early_table book table contract count) + count.0
  unfolding early_causes early_book early_table
  early-takes contract count price e =
      let clear = all-clear (early_causes calendar book table contract count price) e in
      let trades = in_use book.trades table in
      let stands = take-over book.trades (take_off contract count.0 trades) table (fit_parts calendar book table fits).capacity.room (length-take_off contract count.0 trades) in
      rw stands (sym (outstanding-take_off contract count.0 trades (not-false _ (clear 10)) (ltb-false _ _ (clear 13))))

  -- an event that is done; only a payment that fails has another number than 0
  done-moves : (event : Event) → first_of (event_causes calendar book table event) ≡ none
      → MovedBy (Some event) (act calendar book table event).answer.number (figures_of book table) (figures_of (act calendar book table event).book (act calendar book table event).table)
  unfolding event_causes act opened_book funded_in funded_out sized rated pledged frozen withdrawn initial_book early_book after_pay close_answer posted
  done-moves Open e = (never, λ _. refl)
  done-moves (FundIn account amount) e = (never, λ _. refl)
  done-moves (FundOut account amount) e = (never, λ _. refl)
  done-moves (Size size) e = (never, λ _. refl)
  done-moves (Rate kind rate) e = (never, λ _. refl)
  done-moves (Pledge kind units) e = (never, λ _. refl)
  done-moves (Freeze kind units) e = (never, λ _. refl)
  done-moves (Withdraw kind units) e = (never, λ _. refl)
  done-moves (Initial terms) e = (never, λ _. (initial-adds terms e, refl))
  done-moves (Early contract count price) e = (never, λ _. (early-takes contract count price e, refl))
  done-moves Pay e = (λ _. paid (fails book), λ _. paid (fails book))
    where
      paid : (b : Bool) → figures_of (after_pay b book) table ≡ figures_of book table
      paid true = refl
      paid false = refl
  done-moves Close e = (never, λ _. tt)
  done-moves (Post product posting) e = (never, λ _. refl)

  -- one that is turned down
  refused-moves : (entry : Entry) (n : ℕ) → accepted n ≡ false → MovedBy entry n (figures_of book table) (figures_of book table)
  refused-moves (Some event) n a = (λ _. refl, λ z. absurd (false≢true (sym a ∙ ap accepted z)))
  refused-moves None n a = refl

  acted-moves : (entry : Entry) → first_of (entry_causes calendar book table entry) ≡ none
      → MovedBy entry (act_on calendar book table entry).answer.number (figures_of book table) (figures_of (act_on calendar book table entry).book (act_on calendar book table entry).table)
  acted-moves (Some event) e = done-moves event e
  acted-moves None e = refl

  pub step-moves : (entry : Entry)
      → MovedBy entry (step calendar book table entry).answer.number (figures_of book table) (figures_of (step calendar book table entry).book (step calendar book table entry).table)
  unfolding step causes
  step-moves entry = go (first_of (causes calendar book table entry)) refl
    where
      go : (refusal : Option ℕ) → first_of (causes calendar book table entry) ≡ refusal
          → MovedBy entry (refuse_or refusal book table (act_on calendar book table entry)).answer.number (figures_of book table) (figures_of (refuse_or refusal book table (act_on calendar book table entry)).book (refuse_or refusal book table (act_on calendar book table entry)).table)
      go none e = acted-moves entry (others-clear _ (entry_causes calendar book table entry) e)
      go (some n) e = refused-moves entry n (turned_down calendar book table entry n e)

-- what the code has of an entry: its answer with the book, and the table
pub moved-after : (calendar : Calendar) (book : Book) (table : List Trade) (entry : Entry) → fit calendar book table ≡ true → (before : Figures) → before ≡ figures_of book table
    → (applied : Applied) (table' : List Trade) → applied ≡ applied_of (step calendar book table entry) → table' ≡ (step calendar book table entry).table
    → MovedBy entry applied.answer.number before (figures_of applied.book table')
moved-after calendar book table entry fits before f applied table' e t = rw (f, e, t) (step-moves calendar book table fits entry)

-- the cover that O and V give
pub counted-from : (book : Book) (table : List Trade) (figures : Figures) → figures ≡ figures_of book table
    → record { number = 0; headroom = signed_sheets (headroom_of book.size.0 figures.value.0 figures.outstanding.0); outstanding = figures.outstanding } ≡ cover_counted book table
unfolding headroom
counted-from book table figures f = rw f
