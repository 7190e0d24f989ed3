-- Headroom, the short run, the status and the listing do not see U: two books that differ in U alone. (02, ask 2; art. 43)
-- Assumes nothing.
use mathlib.Core.Path.{◌≡◌, refl, ap}
use mathlib.Core.Bool.{Bool, true, false}
use mathlib.Core.List.{List, [], ◌∷◌}
use mathlib.Core.Option.{Option, none, some}
use Prim.Native.Nat.{ℕ}
use native.Mathlib.Omega.{arith}
use Rattle.money.specs.Causes.{first_of}
use Rattle.money.specs.Days.{Calendar}
use Rattle.rules.specs.Book.{Unpaid, Book, Answer, answer, with_unpaid}
use Rattle.rules.specs.Trades.{Trade, in_use}
use Rattle.rules.specs.Vault.{headroom}
use Rattle.rules.specs.Fit.{fit}
use Rattle.rules.specs.Entry.{Event, Open, FundIn, FundOut, Size, Rate, Pledge, Freeze, Withdraw, Initial, Early, Pay, Close, Post, Some}
use Rattle.rules.specs.Open.{opened_book, opened_table}
use Rattle.rules.specs.Funds.{fund_in_causes, funded_in, fund_out_causes, funded_out}
use Rattle.rules.specs.Size.{size_causes, sized}
use Rattle.rules.specs.Rate.{rate_causes, rated}
use Rattle.rules.specs.Pledge.{pledge_causes, pledged}
use Rattle.rules.specs.Freeze.{freeze_causes, frozen}
use Rattle.rules.specs.Withdraw.{withdraw_causes, withdrawn}
use Rattle.rules.specs.Initial.{initial_causes, initial_book, initial_table}
use Rattle.rules.specs.Early.{early_book, early_table}
use Rattle.rules.specs.Pay.{fails, pay_causes, after_pay, pay_number}
use Rattle.rules.specs.Post.{post_causes, posted}
use Rattle.rules.specs.NextTerm.{starts, with_started, in_slot, left_from}
use Rattle.rules.specs.Close.{matured_trades, outstanding_matured, left_trades, evening, claims_at_close, is_short_close, closed_book}
use Rattle.rules.specs.Step.{outcome, event_causes, causes, act, unfit, refuse_or, step, accepted}
use Rattle.rules.specs.Listing.{line_of}
use Rattle.rules.proofs.TableFit.{fewer-outstanding}
use Rattle.rules.proofs.FitParts.{fit_parts}
use Rattle.rules.proofs.Answers.{accepted-only-where-none-applies}
use Rattle.rules.proofs.NextTermLaws.{left-fewer}
use Rattle.rules.proofs.EveningValue.{short-either-way}

-- ---- two books that differ in U alone

-- the events whose 14 looks at U; Close's applications do too
abbrev pub looks_at_unpaid : Event → Bool
looks_at_unpaid Open = true
looks_at_unpaid (FundIn account amount) = false
looks_at_unpaid (FundOut account amount) = false
looks_at_unpaid (Size size) = false
looks_at_unpaid (Rate kind rate) = false
looks_at_unpaid (Pledge kind units) = false
looks_at_unpaid (Freeze kind units) = false
looks_at_unpaid (Withdraw kind units) = false
looks_at_unpaid (Initial terms) = false
looks_at_unpaid (Early contract count price) = true
looks_at_unpaid Pay = false
looks_at_unpaid Close = true
looks_at_unpaid (Post product posting) = false

module _ (book : Book) (unpaid : Unpaid) where
  pub headroom-as-before : (table : List Trade) → headroom (with_unpaid unpaid book) table ≡ headroom book table
  unfolding headroom
  headroom-as-before table = refl

  -- day, phase, status and runs after an Open, and after the Close of a fit book, though its evening may end with another vault
  pub opened-as-before : (calendar : Calendar) (table : List Trade) → (opened_book calendar (with_unpaid unpaid book) table).standing ≡ (opened_book calendar book table).standing
  unfolding opened_book
  opened-as-before calendar table = refl

  pub closed-as-before : (calendar : Calendar) (table : List Trade) → fit calendar book table ≡ true
      → let left = left_trades calendar book table in (closed_book calendar (with_unpaid unpaid book) left table).standing ≡ (closed_book calendar book left table).standing
  unfolding closed_book claims_at_close left_trades is_short_close evening
  closed-as-before calendar table fits =
      let f = fit_parts calendar book table fits in
      let left = left_trades calendar book table in
      let less = fewer-outstanding (left-fewer calendar book f.postings (outstanding_matured book table) (in_use book.trades table)) in
      rw (short-either-way book left (claims_at_close calendar (with_unpaid unpaid book) left table) (claims_at_close calendar book left table) (omega (arith, less, f.size.covers)) (omega arith) (omega arith))

  -- the terms that start are the same: their test is headroom alone
  left-from-as-before : (calendar : Calendar) (o : ℕ) (l : List Trade) → left_from calendar (with_unpaid unpaid book) o l ≡ left_from calendar book o l
  unfolding left_from starts
  left-from-as-before calendar o [] = refl
  left-from-as-before calendar o (t ∷ l) =
      let started = starts calendar book o t in
      ap (λ more. in_slot started calendar book t ∷ more) (left-from-as-before calendar (with_started started book t o) l)

  pub left-as-before : (calendar : Calendar) (table : List Trade) → left_trades calendar (with_unpaid unpaid book) table ≡ left_trades calendar book table
  unfolding left_trades matured_trades
  left-as-before calendar table = left-from-as-before calendar (outstanding_matured book table) (in_use book.trades table)

  -- ---- the line of the listing

  pub line-as-before : (answer : Answer) (table : List Trade) → line_of (outcome answer (with_unpaid unpaid book) table) ≡ line_of (outcome answer book table)
  unfolding line_of headroom
  line-as-before answer table = refl

  same-causes : (calendar : Calendar) (table : List Trade) (event : Event) → looks_at_unpaid event ≡ false
      → event_causes calendar (with_unpaid unpaid book) table event ≡ event_causes calendar book table event
  unfolding event_causes fund_in_causes fund_out_causes size_causes rate_causes pledge_causes freeze_causes withdraw_causes initial_causes pay_causes post_causes headroom
  same-causes calendar table Open blind = let z : ◌≡◌ {A = ℕ} 0 1 = cc in absurd (omega arith)
  same-causes calendar table (FundIn account amount) blind = refl
  same-causes calendar table (FundOut account amount) blind = refl
  same-causes calendar table (Size size) blind = refl
  same-causes calendar table (Rate kind rate) blind = refl
  same-causes calendar table (Pledge kind units) blind = refl
  same-causes calendar table (Freeze kind units) blind = refl
  same-causes calendar table (Withdraw kind units) blind = refl
  same-causes calendar table (Initial terms) blind = refl
  same-causes calendar table (Early contract count price) blind = let z : ◌≡◌ {A = ℕ} 0 1 = cc in absurd (omega arith)
  same-causes calendar table Pay blind = refl
  same-causes calendar table Close blind = let z : ◌≡◌ {A = ℕ} 0 1 = cc in absurd (omega arith)
  same-causes calendar table (Post product posting) blind = refl

  -- what is done shows the same line, but for a Close
  same_line : (calendar : Calendar) (table : List Trade) (event : Event) → (event ≡ Close → ⊥) → line_of (act calendar (with_unpaid unpaid book) table event) ≡ line_of (act calendar book table event)
  unfolding act line_of headroom opened_book opened_table funded_in funded_out sized rated pledged frozen withdrawn initial_book initial_table early_book early_table after_pay posted
  same_line calendar table Open other = refl
  same_line calendar table (FundIn account amount) other = refl
  same_line calendar table (FundOut account amount) other = refl
  same_line calendar table (Size size) other = refl
  same_line calendar table (Rate kind rate) other = refl
  same_line calendar table (Pledge kind units) other = refl
  same_line calendar table (Freeze kind units) other = refl
  same_line calendar table (Withdraw kind units) other = refl
  same_line calendar table (Initial terms) other = refl
  same_line calendar table (Early contract count price) other = refl
  same_line calendar table Pay other = go (fails book)
    where
      go : (failing : Bool) → line_of (outcome (answer (pay_number failing)) (after_pay failing (with_unpaid unpaid book)) table) ≡ line_of (outcome (answer (pay_number failing)) (after_pay failing book) table)
      go true = refl
      go false = refl
  same_line calendar table Close other = absurd (other refl)
  same_line calendar table (Post product posting) other = refl

  module _ (calendar : Calendar) (table : List Trade) (event : Event) where
    -- so the ten events that do not look at U give fit books the same answer and line
    pub step-as-before : looks_at_unpaid event ≡ false → unfit calendar book table ≡ false → unfit calendar (with_unpaid unpaid book) table ≡ false
        → line_of (step calendar (with_unpaid unpaid book) table (Some event)) ≡ line_of (step calendar book table (Some event))
    unfolding step causes first_of
    step-as-before blind fit fit' =
        rw (fit, fit', same-causes calendar table event blind) (go (first_of (event_causes calendar book table event)))
      where
        other : (event : Event) → looks_at_unpaid event ≡ false → event ≡ Close → ⊥
        other event blind same = let z : true ≡ false = rw same at blind in let y : ◌≡◌ {A = ℕ} 0 1 = cc in omega arith

        go : (cause : Option ℕ)
            → line_of (refuse_or cause (with_unpaid unpaid book) table (act calendar (with_unpaid unpaid book) table event)) ≡ line_of (refuse_or cause book table (act calendar book table event))
        go none = same_line calendar table event (other event blind)
        go (some number) = line-as-before _ table

    -- and Open and Early too, where both books accept them: an early redemption frees headroom on the spot
    pub accepted-as-before : (event ≡ Close → ⊥) → accepted (step calendar book table (Some event)).answer.number ≡ true
        → accepted (step calendar (with_unpaid unpaid book) table (Some event)).answer.number ≡ true
        → line_of (step calendar (with_unpaid unpaid book) table (Some event)) ≡ line_of (step calendar book table (Some event))
    unfolding step
    accepted-as-before other done done' =
        rw (accepted-only-where-none-applies calendar book table (Some event) done, accepted-only-where-none-applies calendar (with_unpaid unpaid book) table (Some event) done')
        (same_line calendar table event other)
