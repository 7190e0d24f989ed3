-- What each event does to the sum of cash: only funds change it; and a payment moves the net or nothing.
-- For demand 3. Assumes nothing.
use mathlib.Core.Path.{◌≡◌, refl, ◌∙◌}
use mathlib.Core.Bool.{Bool, true, false, cond, ◌&&◌}
use mathlib.Core.List.{List}
use Prim.Native.Nat.{ℕ, suc, ◌+◌, ◌-◌, ◌≤◌}
use native.Mathlib.Omega.{arith}
use borrow.Author.Tests.{ltb-true, ltb-false}
use lib.Dec.{ltb}
use lib.IntN.{ℤ, pos, negsuc, nat_abs, ◌-ℤ◌}
use Rattle.money.specs.declared.units.Fen.{Fen}
use Rattle.money.specs.Days.{Calendar}
use Rattle.rules.specs.Book.{Cash, Guarantee, Book}
use Rattle.rules.specs.Trades.{Trade}
use Rattle.rules.specs.Vault.{is_cash, effective_of, security_at}
use Rattle.rules.specs.Fit.{all_cash}
use Rattle.rules.specs.Entry.{Account, Own, Client}
use Rattle.rules.specs.Funds.{holds, funded_in, funded_out}
use Rattle.rules.specs.Pledge.{cash_arrived, pledged}
use Rattle.rules.specs.Freeze.{cash_frozen, frozen}
use Rattle.rules.specs.Pay.{payer_holds, moved}
use Rattle.rules.specs.Close.{Evening, fewer_cash, taken_out, may_go, settle_one, settled, served, all_arrived, claims_at_close, evening, closed_book}
use Rattle.rules.specs.Demand3.{WholeOrNothing}
use Rattle.rules.proofs.EveningFit.{gone, over-evening}
use Rattle.rules.proofs.Signed.{same, sum-parts, diff-parts}

-- own, client and guarantee cash of a book
abbrev pub cash_of : Book → ℕ
cash_of book = all_cash book.cash book.vault.guarantee

-- ---- funds

pub funds-in-add : (book : Book) (account : Account) (amount : Fen) → cash_of (funded_in book account amount) ≡ cash_of book + amount.0
unfolding funded_in
funds-in-add book Own amount = omega arith
funds-in-add book Client amount = omega arith

pub funds-out-take : (book : Book) (account : Account) (amount : Fen) → ltb (holds account book.cash) amount.0 ≡ false → cash_of (funded_out book account amount) + amount.0 ≡ cash_of book
unfolding funded_out
funds-out-take book Own amount e = omega (arith, ltb-false book.cash.own.0 amount.0 e)
funds-out-take book Client amount e = omega (arith, ltb-false book.cash.client.0 amount.0 e)

-- ---- collateral

pub pledge-keeps-cash : (book : Book) (kind units : ℕ) → (is_cash kind && ltb book.cash.own.0 units) ≡ false → cash_of (pledged book kind units) ≡ cash_of book
unfolding pledged
pledge-keeps-cash book kind units e = by_kind book.cash.own.0 book.vault.guarantee (is_cash kind) e
  where
    by_kind : (own : ℕ) (guarantee : Guarantee) (cash : Bool) → (cash && ltb own units) ≡ false
        → cond cash (own - units) own + book.cash.client.0 + (cond cash (cash_arrived units guarantee) guarantee).effective.0 + (cond cash (cash_arrived units guarantee) guarantee).arriving.0 ≡ own + book.cash.client.0 + guarantee.effective.0 + guarantee.arriving.0
    by_kind own guarantee true e = omega (arith, ltb-false own units e)
    by_kind own guarantee false e = refl

pub freeze-keeps-cash : (book : Book) (kind units : ℕ) → cash_of (frozen book kind units) ≡ cash_of book
unfolding frozen
freeze-keeps-cash book kind units = by_kind book.vault.guarantee (is_cash kind)
  where
    by_kind : (guarantee : Guarantee) (cash : Bool) → all_cash book.cash (cond cash (cash_frozen units guarantee) guarantee) ≡ all_cash book.cash guarantee
    by_kind guarantee true = refl
    by_kind guarantee false = refl

-- ---- a payment

module _ (cash : Cash) where
  pub payment-whole : (net : ℤ) → ltb (payer_holds net cash) (nat_abs net) ≡ false → WholeOrNothing net cash (moved net cash) 0
  payment-whole (pos n) e =
      let h = ltb-false cash.own.0 n e in
      record {
        whole = λ k. (refl, same _ _ (omega (arith, diff-parts (pos cash.own.0) (pos n))), refl);
        nothing = λ k. absurd (omega arith);
      }
  payment-whole (negsuc n) e =
      let h = ltb-false cash.client.0 (suc n) e in
      record {
        whole = λ k. (refl, refl, same _ _ (omega (arith, sum-parts (pos cash.client.0) (negsuc n))));
        nothing = λ k. absurd (omega arith);
      }

  pub payment-nothing : (net : ℤ) → ltb (payer_holds net cash) (nat_abs net) ≡ true → WholeOrNothing net cash cash 99
  payment-nothing net e =
      let h = ltb-true (payer_holds net cash) (nat_abs net) e in
      record { whole = λ k. absurd (omega arith); nothing = λ k. (refl, refl, refl) }

  pub payment-keeps-cash : (net : ℤ) (guarantee : Guarantee) → ltb (payer_holds net cash) (nat_abs net) ≡ false → all_cash (moved net cash) guarantee ≡ all_cash cash guarantee
  payment-keeps-cash (pos n) guarantee e = omega (arith, ltb-false cash.own.0 n e)
  payment-keeps-cash (negsuc n) guarantee e = omega (arith, ltb-false cash.client.0 (suc n) e)

  pub payment-moves-net : (net : ℤ) → ltb (payer_holds net cash) (nat_abs net) ≡ false → pos cash.own.0 -ℤ pos (moved net cash).own.0 ≡ net
  payment-moves-net (pos n) e = same _ _ (omega (arith, ltb-false cash.own.0 n e, diff-parts (pos cash.own.0) (pos (cash.own.0 - n))))
  payment-moves-net (negsuc n) e = same _ _ (omega (arith, diff-parts (pos cash.own.0) (pos (cash.own.0 + suc n))))

-- ---- the evening

-- the cash that applications can move
abbrev movable : Evening → ℕ
movable evening = evening.own.0 + evening.vault.guarantee.effective.0 + evening.vault.guarantee.arriving.0

settled-keeps-cash : (served : Bool) (claims kind units : ℕ) (evening : Evening) → movable (settled served claims kind units evening) ≡ movable evening
unfolding taken_out
settled-keeps-cash served claims kind units evening =
    go (may_go served claims kind units evening.vault) (λ goes. omega (arith, (gone served claims kind units evening.vault goes).unfrozen))
  where
    by_kind : (own other : ℕ) (guarantee : Guarantee) (cash : Bool) → units ≤ cond cash guarantee.effective.0 other
        → cond cash (own + units) own + (cond cash (fewer_cash units guarantee) guarantee).effective.0 + (cond cash (fewer_cash units guarantee) guarantee).arriving.0 ≡ own + guarantee.effective.0 + guarantee.arriving.0
    by_kind own other guarantee true h = omega arith
    by_kind own other guarantee false h = refl

    go : (goes : Bool) → (goes ≡ true → units ≤ effective_of evening.vault kind) → movable (settle_one goes kind units evening) ≡ movable evening
    go true h = by_kind evening.own.0 (security_at evening.vault kind).effective evening.vault.guarantee (is_cash kind) (h refl)
    go false h = refl

evening-keeps-cash : (book : Book) (claims : ℕ) → movable (evening book claims) ≡ book.cash.own.0 + book.vault.guarantee.effective.0 + book.vault.guarantee.arriving.0
unfolding all_arrived
evening-keeps-cash book claims =
    over-evening book claims (λ e. movable e ≡ book.cash.own.0 + book.vault.guarantee.effective.0 + book.vault.guarantee.arriving.0)
    (λ kind units e kept. settled-keeps-cash (served book.standing) claims kind units e ∙ kept) (omega arith)

pub close-keeps-cash : (calendar : Calendar) (book : Book) (left table : List Trade) → cash_of (closed_book calendar book left table) ≡ cash_of book
unfolding closed_book
close-keeps-cash calendar book left table = omega (arith, evening-keeps-cash book (claims_at_close calendar book left table))
