use Rattle.std.specs.Prelude.{◌≡◌, ℕ, ◌+◌, ◌<◌, ◌≤◌, []}
use mathlib.Core.Path.{sym}
use mathlib.Core.Option.{none}
use native.Mathlib.Omega.{arith}
use borrow.Author.Rules.{rules}
use borrow.Author.Tests.{ltb-false, eq-eqb, ne_eqb}
use Rattle.money.specs.Limits.{unit_limit}
use Rattle.money.specs.Causes.{first_of}
use Rattle.rules.specs.Vault.{security_at}
use Rattle.rules.specs.Pledge.{pledge_causes, pledged, arrived}
use Rattle.rules.proofs.FitParts.{cash-fits}
use Rattle.rules.proofs.Accepted.{all-clear}
use Rattle.ledger.specs.Types.{Book}
use Rattle.ledger.specs.Flat.{security_in, rows_of, book_of}
use Rattle.ledger.proofs.HeldLaws.{security-at-row}
use Rattle.ledger.proofs.Refusing.{carried_out}
use Rattle.ledger.proofs.pledge.pledge.Goals as goal
use Rattle.ledger.proofs.pledge.pledge.Goals.{In-Security, In-Cash}

-- what no cause leaves: own cash for cash, and room for a security
module _ (book : Book) (kind units : ℕ) (e : none ≡ first_of (pledge_causes book kind units)) where
  owned : 32 ≡ kind → units ≤ book.cash.own.0
  unfolding pledge_causes
  owned cash = ltb-false book.cash.own.0 units (rw (eq-eqb kind 32 (sym cash)) at (all-clear (pledge_causes book kind units) (sym e) 13))

  room : kind < 32 → (security_at book.vault kind).effective + (security_at book.vault kind).arriving + units ≤ unit_limit
  unfolding pledge_causes
  room known =
      let security = security_at book.vault kind in
      ltb-false unit_limit (security.effective + security.arriving + units) (rw (ne_eqb kind 32 (λ e. omega arith)) at (all-clear (pledge_causes book kind units) (sym e) 14))

-- the kind that was read is the number's
security-read : (c : In-Security) → c.in-Security.at.number ≡ c.args.kind
security-read c = rw c.in-Security.is at c.in_ok-kind.ensures.read

cash-read : (c : In-Cash) → 32 ≡ c.args.kind
cash-read c = rw c.in-Cash.is at c.in_ok-kind.ensures.read

own-enough : (c : In-Cash) → c.args.units ≤ c.args.scalars.cash.own.0
own-enough c =
    let a = c.args in
    owned (book_of a.scalars (rows_of a.held.now [] [])) a.kind a.units (c.in_ok-kind.ensures.cause [] []) (cash-read c)

pub change-requires : goal.change-requires
change-requires c =
    let a = c.args in
    let at = c.in-Security.at in
    let read = security-read (goal.at.change-requires c).In-Security in
    let known : a.kind < 32 = omega (arith, read, at.known) in
    let fits = room (book_of a.scalars (rows_of a.held.now [] [])) a.kind a.units (c.in_ok-kind.ensures.cause [] []) known in
    let room-here : (security_in a.held.now at.number).arriving + a.units ≤ unit_limit = omega (arith, rw (security-at-row a.held.now a.scalars.guarantee a.kind known, ← read) at fits) in
    search rules

pub returns-in-Security : goal.returns-in-Security
unfolding pledged
returns-in-Security c kinds amounts =
    let a = c.args in
    let at = c.in-Security.at in
    let read = security-read (goal.at.returns-in-Security c).In-Security in
    let known : a.kind < 32 = omega (arith, read, at.known) in
    let row = security-at-row a.held.now a.scalars.guarantee a.kind known in
    let changed = c.change.ensures in
    let made : changed.0 ≡ arrived a.units (security_in a.held.now at.number) = search rules in
    carried_out _ _ (rows_of a.held.now kinds amounts) _ _ (c.in_ok-kind.ensures.cause kinds amounts) c.accepted.ensures
    (rw (changed.2, changed.3, made, read, ne_eqb a.kind 32 (λ e. omega arith), row))

pub overflow_sub-scalars : goal.overflow_sub-scalars
overflow_sub-scalars c = own-enough (goal.at.overflow_sub-scalars c).In-Cash

pub cash_arrived-requires : goal.cash_arrived-requires
cash_arrived-requires c =
    omega (arith, own-enough (goal.at.cash_arrived-requires c).In-Cash, (cash-fits _ _ c.requires.1).sum)
