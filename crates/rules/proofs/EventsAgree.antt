-- Each accepted event leaves the book and the tally in agreement, and demand 3's claims about that event hold.
-- For demand 3, proved over a list in Demand3Proof. Assumes nothing.
use mathlib.Core.Path.{◌≡◌, refl, sym, ap, ◌∙◌}
use mathlib.Core.Bool.{Bool, true, false, cond, not, ◌&&◌}
use mathlib.Core.List.{List, [], ◌∷◌, ◌++◌, map}
use mathlib.Core.Option.{some}
use Prim.Native.Nat.{ℕ, ◌+◌, ◌≤◌, ◌<◌, min}
use native.Mathlib.Omega.{arith}
use borrow.Author.Tests.{ltb-false, leb-false, eqb-false, not-false}
use lib.Dec.{T}
use lib.IntN.{ℤ, pos, ◌+ℤ◌, ◌-ℤ◌, +ℤ_idl, +ℤ_idr, +ℤ_invr, +ℤ_comm, +ℤ-neg_ℤ_cancel}
use lib.ListN.{length, take, length-map}
use Rattle.money.specs.declared.units.Fen.{Fen}
use Rattle.money.specs.declared.units.Sheets.{Sheets}
use Rattle.money.specs.declared.units.Ticks.{Ticks}
use Rattle.money.specs.Days.{Calendar, day_or_0}
use Rattle.money.specs.Money.{principal}
use Rattle.rules.specs.Book.{Posting, Book, answer, is_terminated}
use Rattle.rules.specs.Days.{following, to_day, day_number, payment_day}
use Rattle.rules.specs.Trades.{Contract, Terms, Trade, in_use, total, outstanding, on_table, trade_of, take_off, emptied, matured, maturity_amount, fallback_amount, remaining, packed, over}
use Rattle.rules.specs.Vault.{value, headroom}
use Rattle.rules.specs.Entry.{Account, Open, FundIn, FundOut, Size, Rate, Pledge, Freeze, Withdraw, Initial, Early, Pay, Close, Post, Some}
use Rattle.rules.specs.Open.{next_status, turns_terminated, net_with_fallbacks, opened_book, opened_table}
use Rattle.rules.specs.Funds.{funded_in, funded_out, fund_out_causes}
use Rattle.rules.specs.Size.{sized}
use Rattle.rules.specs.Rate.{rated}
use Rattle.rules.specs.Pledge.{pledged, pledge_causes}
use Rattle.rules.specs.Freeze.{frozen}
use Rattle.rules.specs.Withdraw.{withdrawn}
use Rattle.rules.specs.Initial.{begun, initial_causes, initial_book, initial_table}
use Rattle.rules.specs.Early.{early_causes, early_book, early_table}
use Rattle.rules.specs.Pay.{fails, after_pay, pay_number}
use Rattle.rules.specs.Post.{posted}
use Rattle.rules.specs.NextTerm.{left_from, started_from}
use Rattle.rules.specs.Close.{matured_trades, matured_amount, left_trades, started_terms, started_principal, closed_book, closed_table, close_answer}
use Rattle.rules.specs.Step.{event_causes, causes, act, outcome}
use Rattle.rules.specs.Tally.{Tally, day_after, paid_on, with_funds, opened, says_terminated, counted, tell}
use Rattle.rules.proofs.Signed.{same, sub_parts, diff-parts, not-lt-parts, sub-at-least-0, swap-last}
use Rattle.rules.proofs.TradeLaws.{take-begun, outstanding-append, outstanding-one, take-over, length-take_off, outstanding-take_off, take-packed, remaining-remaining, outstanding-remaining, outstanding-matured, remaining-emptied, outstanding-emptied}
use Rattle.rules.proofs.TallyRows.{without_empty-append, taken-of-contract, sheets-of-contract, amount-of-contract, sheets-due, amount-due, taken-whole, sheets-whole, amount-whole}
use Rattle.rules.proofs.TallyStarts.{sheets-started, principal-started, rows-after-starts}
use Rattle.rules.proofs.NextTermLaws.{outstanding-left, each-covered}
use Rattle.money.proofs.TwoTests.{both}
use Rattle.rules.proofs.Accepted.{Clear, within-table, contracts-differ}
use Rattle.rules.proofs.CashKept.{cash_of, funds-in-add, funds-out-take, pledge-keeps-cash, freeze-keeps-cash, payment-whole, payment-nothing, payment-keeps-cash, payment-moves-net, close-keeps-cash}
use Rattle.rules.proofs.Agree.{view, Agrees, Right, right, acted, following-is-day_after, payment_day-is-paid_on, day_number-is-day_or_0, says_terminated-is-is_terminated}

-- ---- an Open: whether it says terminated, and whether that is new

was-terminated : (s : Bool) → (not s && true) ≡ false → T s
was-terminated true e = tt
was-terminated false e = let z : ◌≡◌ {A = ℕ} 0 1 = cc in absurd (omega arith)

opened-keeps-paid : (terminated : Bool) (calendar : Calendar) (t : Tally) → t.paid ≡ (opened terminated calendar t).paid
opened-keeps-paid true calendar t = refl
opened-keeps-paid false calendar t = refl

-- ---- each event

module _ (calendar : Calendar) (book : Book) (table : List Trade) (t : Tally) (i : Agrees (view book table) t) where
  abbrev trades : List Trade
  trades = in_use book.trades table

  -- where only the cash changes
  with-cash : (cash : ℕ) (funds : ℤ) → pos cash ≡ funds → Agrees (record { cash = cash; day = book.standing.day; rows = trades; today = book.nets.today.0; cleared = book.nets.cleared.0; status = book.standing.status }) (with_funds funds t)
  with-cash cash funds e = record { day = i.day; rows = i.rows; cash = e; sheets = i.sheets; running = i.running; cleared = i.cleared; ended = i.ended }

  pub at-fund_in : (account : Account) (amount : Fen) → Right calendar t (acted calendar book table (FundIn account amount))
  unfolding act counted tell funded_in
  at-fund_in account amount =
      right calendar t _ refl refl (with-cash _ _ (ap pos (funds-in-add book account amount) ∙ ap (λ sum. sum +ℤ pos amount.0) i.cash))

  pub at-fund_out : (account : Account) (amount : Fen) → Clear (causes calendar book table (Some (FundOut account amount))) → Right calendar t (acted calendar book table (FundOut account amount))
  unfolding act counted tell funded_out causes event_causes fund_out_causes
  at-fund_out account amount clear =
      right calendar t _ refl refl
      (with-cash _ _ (rw (← i.cash) (same _ _ (omega (arith, funds-out-take book account amount (clear 13), diff-parts (pos (cash_of book)) (pos amount.0))))))

  pub at_size : (size : Sheets) → Right calendar t (acted calendar book table (Size size))
  unfolding act counted tell sized
  at_size size = right calendar t _ refl refl i

  pub at-rate : (kind rate : ℕ) → Right calendar t (acted calendar book table (Rate kind rate))
  unfolding act counted tell rated
  at-rate kind rate = right calendar t _ refl refl i

  pub at-pledge : (kind units : ℕ) → Clear (causes calendar book table (Some (Pledge kind units))) → Right calendar t (acted calendar book table (Pledge kind units))
  unfolding act counted tell pledged causes event_causes pledge_causes
  at-pledge kind units clear =
      right calendar t _ refl refl (with-cash _ _ (ap pos (pledge-keeps-cash book kind units (clear 13)) ∙ i.cash))

  pub at-freeze : (kind units : ℕ) → Right calendar t (acted calendar book table (Freeze kind units))
  unfolding act counted tell frozen
  at-freeze kind units = right calendar t _ refl refl (with-cash _ _ (ap pos (freeze-keeps-cash book kind units) ∙ i.cash))

  pub at-withdraw : (kind units : ℕ) → Right calendar t (acted calendar book table (Withdraw kind units))
  unfolding act counted tell withdrawn
  at-withdraw kind units = right calendar t _ refl refl i

  -- the same day is paid on
  payment-day : paid_on calendar t.day ≡ payment_day calendar book.standing.day
  payment-day = rw i.day (sym (payment_day-is-paid_on calendar t.day))

  pub at-initial : (terms : Terms) → Clear (causes calendar book table (Some (Initial terms))) → Right calendar t (acted calendar book table (Initial terms))
  unfolding act counted tell initial_book initial_table causes event_causes initial_causes headroom
  at-initial terms clear =
      let new : Trade = begun calendar book terms in
      let rows : take (book.trades + 1) (initial_table calendar book table terms) ≡ trades ++ (new ∷ []) = take-begun book.trades table new (leb-false (length table) book.trades (clear 11)) in
      let more : outstanding (trades ++ (new ∷ [])) ≡ outstanding trades + terms.sheets.0 = outstanding-append trades (new ∷ []) ∙ ap (λ n. outstanding trades + n) (outstanding-one new) in
      let room : ℕ = min book.size.0 (value book.vault) in
      record {
        agrees = record {
          day = i.day;
          rows = rw (i.rows, payment-day, rows) (without_empty-append trades new);
          cash = i.cash;
          sheets = rw rows (omega (arith, more, i.sheets));
          running = ap (λ net. net -ℤ pos (principal terms.sheets).0) i.running;
          cleared = i.cleared;
          ended = λ h. absurd (rw (clear 5) at h);
        };
        initial = λ _ _. rw rows (sub-at-least-0 room (outstanding (trades ++ (new ∷ []))) (omega (arith, more, not-lt-parts (headroom book table) (pos terms.sheets.0) (clear 12), sub_parts room (outstanding trades))));
        starts = λ h a. absurd h;
        payment = λ h a. absurd h;
        moves = +ℤ_idr t.paid;
      }

  pub at-early : (contract : Contract) (count : Sheets) (price : Ticks) → Clear (causes calendar book table (Some (Early contract count price))) → Right calendar t (acted calendar book table (Early contract count price))
  unfolding act counted tell early_book early_table causes event_causes early_causes
  at-early contract count price clear =
      let q : ℕ = count.0 in
      let apart = contracts-differ calendar book table (clear 1) in
      let there : on_table contract trades ≡ true = not-false (on_table contract trades) (clear 10) in
      let enough : q ≤ (trade_of contract trades).sheets.0 = ltb-false (trade_of contract trades).sheets.0 q (clear 13) in
      let left : 0 < (trade_of contract trades).sheets.0 = omega (arith, eqb-false q 0 (clear 7)) in
      let rows : take book.trades (over book.trades (take_off contract q trades) table) ≡ take_off contract q trades = take-over book.trades (take_off contract q trades) table (within-table calendar book table (clear 1)) (length-take_off contract q trades) in
      right calendar t _ refl refl
      (record {
        day = i.day;
        rows = rw (i.rows, rows) (taken-of-contract contract q trades apart);
        cash = i.cash;
        sheets = rw (i.rows, rows, sheets-of-contract contract q trades apart there left) (omega (arith, outstanding-take_off contract q trades there enough, i.sheets));
        running = rw (i.rows, payment-day, amount-of-contract contract q trades apart there left (payment_day calendar book.standing.day) price, i.running);
        cleared = i.cleared;
        ended = λ h. absurd (rw (clear 5) at h);
      })

  -- the net due is what is cleared less what is paid
  net-due : t.cleared -ℤ t.paid ≡ book.nets.cleared.0
  net-due = rw i.cleared (+ℤ-neg_ℤ_cancel book.nets.cleared.0 t.paid)

  pub at-pay : Right calendar t (acted calendar book table Pay)
  unfolding act counted tell after_pay
  at-pay = go (fails book) refl
    where
      go : (b : Bool) → fails book ≡ b → Right calendar t (record { book = book; table = table; entry = Some Pay; left = outcome (answer (pay_number b)) (after_pay b book) table })
      go true e = record {
        agrees = i;
        initial = λ h a. absurd h;
        starts = λ h a. absurd h;
        payment = λ h a. rw net-due (payment-nothing book.cash book.nets.cleared.0 e);
        moves = rw (+ℤ_invr (pos book.cash.own.0)) (+ℤ_idr t.paid);
      }
      go false e = record {
        agrees = record {
          day = i.day;
          rows = i.rows;
          cash = ap pos (payment-keeps-cash book.cash book.nets.cleared.0 book.vault.guarantee e) ∙ i.cash;
          sheets = i.sheets;
          running = i.running;
          cleared = sym (+ℤ_idl t.cleared);
          ended = i.ended;
        };
        initial = λ h a. absurd h;
        starts = λ h a. absurd h;
        payment = λ h a. rw net-due (payment-whole book.cash book.nets.cleared.0 e);
        moves = rw (payment-moves-net book.cash book.nets.cleared.0 e) (+ℤ_comm t.paid book.nets.cleared.0 ∙ sym i.cleared);
      }

  pub at-close : Clear (causes calendar book table (Some Close)) → Right calendar t (acted calendar book table Close)
  unfolding act counted tell causes closed_book closed_table close_answer matured_trades matured_amount left_trades started_terms started_principal
  at-close clear =
      let d : ℕ = day_number book.standing.day in
      let payment : ℕ = payment_day calendar book.standing.day in
      let today : day_or_0 t.day ≡ d = rw i.day (sym (day_number-is-day_or_0 t.day)) in
      let apart = contracts-differ calendar book table (clear 1) in
      let o : ℕ = outstanding (map (matured d) trades) in
      let left : List Trade = left_from calendar book o trades in
      let started : List Trade = started_from calendar book o trades in
      let rows : take (length (remaining left)) (packed book.trades (remaining left) table) ≡ remaining left = take-packed book.trades (remaining left) table in
      let renews = rows-after-starts calendar book o trades apart in
      let net = (book.nets.today.0 +ℤ pos (total (maturity_amount d payment) trades)) -ℤ pos (total (λ term. (principal term.sheets).0) started) in
      record {
        agrees = record {
          day = i.day;
          rows = rw (i.rows, today, rows) (renews ∙ sym (remaining-remaining left));
          cash = ap pos (close-keeps-cash calendar book left table) ∙ i.cash;
          sheets = rw (i.rows, today, rows) (omega (arith, outstanding-remaining left, outstanding-left calendar book o trades, outstanding-matured d trades, sheets-due d trades, sheets-started started, i.sheets));
          running = refl;
          cleared = rw (i.rows, today, payment-day, amount-due d payment trades, principal-started started, ← i.running, i.cleared) (swap-last book.nets.cleared.0 t.paid net);
          ended = λ h. rw rows (remaining-remaining left ∙ sym renews ∙ rw (i.ended h));
        };
        initial = λ h a. absurd h;
        starts = λ h a. each-covered calendar book o trades;
        payment = λ h a. absurd h;
        moves = +ℤ_idr t.paid;
      }

  pub at-post : (product : ℕ) (posting : Posting) → Right calendar t (acted calendar book table (Post product posting))
  unfolding act counted tell posted
  at-post product posting = right calendar t _ refl refl i

  -- an Open moves both days alike
  next-day : to_day (following calendar book.standing.day) ≡ to_day (day_after calendar t.day)
  next-day = rw (i.day, following-is-day_after calendar t.day)

  next-payment-day : paid_on calendar (day_after calendar t.day) ≡ payment_day calendar (to_day (following calendar book.standing.day))
  next-payment-day = rw next-day (sym (payment_day-is-paid_on calendar (day_after calendar t.day)))

  -- by the status that is told and by whether it is new: a book that was terminated before has no trades for the tally to take
  opens : book.trades ≤ length table → (terminated turns : Bool) → is_terminated (next_status book.standing) ≡ terminated → (not (is_terminated book.standing.status) && terminated) ≡ turns
      → Agrees
      (record {
        cash = cash_of book;
        day = to_day (following calendar book.standing.day);
        rows = in_use book.trades (cond turns (over book.trades (map emptied trades) table) table);
        today = book.nets.today.0;
        cleared = cond turns (net_with_fallbacks calendar book table) book.nets.cleared.0;
        status = next_status book.standing;
      })
      (opened terminated calendar t)
  opens within false true e h = let f = both (not (is_terminated book.standing.status)) false h in let z : ◌≡◌ {A = ℕ} 0 1 = cc in absurd (omega arith)
  opens within false false e h = record {
    day = next-day;
    rows = i.rows;
    cash = i.cash;
    sheets = i.sheets;
    running = i.running;
    cleared = i.cleared;
    ended = λ p. absurd (rw e at p);
  }
  opens within true false e h =
      let over-before : remaining trades ≡ [] = i.ended (was-terminated (is_terminated book.standing.status) h) in
      let no_rows : t.rows ≡ [] = i.rows ∙ over-before in
      record {
        day = next-day;
        rows = rw (no_rows, over-before);
        cash = i.cash;
        sheets = rw no_rows (omega (arith, i.sheets));
        running = i.running;
        cleared = rw (no_rows, +ℤ_idr t.cleared) i.cleared;
        ended = λ p. over-before;
      }
  opens within true true e h =
      let payment : ℕ = payment_day calendar (to_day (following calendar book.standing.day)) in
      let rows : take book.trades (over book.trades (map emptied trades) table) ≡ map emptied trades = take-over book.trades (map emptied trades) table within (length-map trades emptied) in
      record {
        day = next-day;
        rows = rw (i.rows, rows) (taken-whole trades ∙ sym (remaining-emptied trades));
        cash = i.cash;
        sheets = rw (i.rows, rows) (omega (arith, outstanding-emptied trades, sheets-whole trades, i.sheets));
        running = i.running;
        cleared = rw (i.rows, next-payment-day, amount-whole payment trades, i.cleared) (swap-last book.nets.cleared.0 t.paid (pos (total (fallback_amount payment) trades)));
        ended = λ p. rw rows (remaining-emptied trades);
      }

  pub at_open : Clear (causes calendar book table (Some Open)) → Right calendar t (acted calendar book table Open)
  unfolding act counted tell opened_book opened_table turns_terminated causes event_causes
  at_open clear =
      let terminated : Bool = is_terminated (next_status book.standing) in
      right calendar t _ refl (opened-keeps-paid (says_terminated (some (next_status book.standing))) calendar t)
      (rw (says_terminated-is-is_terminated (next_status book.standing))
      (opens (within-table calendar book table (clear 1)) terminated (not (is_terminated book.standing.status) && terminated) refl refl))
