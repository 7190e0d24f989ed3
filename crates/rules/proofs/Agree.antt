-- The relation between a book with its table and the tally, and what is to be shown of each entry.
-- For demand 3: EventsAgree shows it of each accepted event, Demand3Proof of a list. Assumes nothing.
use mathlib.Core.Path.{◌≡◌, refl, ap, ◌∙◌}
use mathlib.Core.Bool.{Bool, true, not, ◌||◌}
use mathlib.Core.List.{List, []}
use mathlib.Core.Option.{Option, none, some}
use Prim.Native.Nat.{ℕ, ◌+◌}
use borrow.Author.Tests.{not-true}
use lib.Dec.{T}
use lib.IntN.{ℤ, pos, ◌+ℤ◌, +ℤ_idr}
use Rattle.money.specs.Days.{Calendar, day_or_0}
use Rattle.rules.specs.Book.{Day, Status, Normal, Suspended, Terminated, Book, is_terminated}
use Rattle.rules.specs.Days.{following, to_day, day_number, payment_day}
use Rattle.rules.specs.Trades.{Trade, in_use, outstanding, remaining}
use Rattle.rules.specs.Entry.{Event, Entry, Some}
use Rattle.rules.specs.Step.{act}
use Rattle.rules.specs.Run.{Seen}
use Rattle.rules.specs.Tally.{Tally, day_after, paid_on, says_terminated, tell}
use Rattle.rules.specs.Demand3.{told, is_initial, is_pay, is_close, InitialCovered, StartsCovered, PaymentRight, moved_at}
use Rattle.rules.proofs.FoldLaws.{neither}
use Rattle.rules.proofs.CashKept.{cash_of}

-- ---- the relation

-- all that it sees of a book and its table: an event that changes none of it keeps the relation by computation
pub record View : Type 0 where
  pub cash : ℕ
  pub day : Day
  pub rows : List Trade
  pub today : ℤ
  pub cleared : ℤ
  pub status : Status

abbrev pub view : Book → List Trade → View
view book table = record {
  cash = cash_of book;
  day = book.standing.day;
  rows = in_use book.trades table;
  today = book.nets.today.0;
  cleared = book.nets.cleared.0;
  status = book.standing.status;
}

pub record Agrees (v : View) (t : Tally) : Type 0 where
  pub day : v.day ≡ to_day t.day
  pub rows : t.rows ≡ remaining v.rows
  pub cash : pos v.cash ≡ t.funds
  pub sheets : outstanding v.rows + t.redeemed ≡ t.begun
  pub running : v.today ≡ t.running
  pub cleared : t.cleared ≡ v.cleared +ℤ t.paid
  -- a terminated book has no trade left, so that the tally takes none again at the next Open
  pub ended : T (is_terminated v.status) → remaining v.rows ≡ []

-- what an entry leaves: the relation, and the claims about that entry
pub record Right (calendar : Calendar) (t : Tally) (seen : Seen) : Type 0 where
  pub agrees : Agrees (view seen.left.book seen.left.table) (tell calendar t (told calendar seen seen))
  pub initial : InitialCovered seen
  pub starts : StartsCovered (told calendar seen seen) seen
  pub payment : PaymentRight t seen
  pub moves : t.paid +ℤ moved_at seen ≡ (tell calendar t (told calendar seen seen)).paid

-- an entry that demand 3 claims nothing about by itself
abbrev pub plain : Entry → Bool
plain entry = not (is_initial entry || is_pay entry || is_close entry)

pub right : (calendar : Calendar) (t : Tally) (seen : Seen) → plain seen.entry ≡ true → t.paid ≡ (tell calendar t (told calendar seen seen)).paid
    → Agrees (view seen.left.book seen.left.table) (tell calendar t (told calendar seen seen)) → Right calendar t seen
right calendar t seen nothing paid agrees =
    let off = neither (is_initial seen.entry || is_pay seen.entry) (is_close seen.entry) (not-true _ nothing) in
    let others = neither (is_initial seen.entry) (is_pay seen.entry) off.0 in
    record {
      agrees = agrees;
      initial = λ h a. absurd (rw others.0 at h);
      starts = λ h a. absurd (rw off.1 at h);
      payment = λ h a. absurd (rw others.1 at h);
      moves = rw others.1 (+ℤ_idr t.paid) ∙ paid;
    }

abbrev pub acted : Calendar → Book → List Trade → Event → Seen
acted calendar book table event = record { book = book; table = table; entry = Some event; left = act calendar book table event }

-- ---- days

pub following-is-day_after : (calendar : Calendar) (o : Option ℕ) → following calendar (to_day o) ≡ day_after calendar o
unfolding following
following-is-day_after calendar none = refl
following-is-day_after calendar (some day) = refl

pub payment_day-is-paid_on : (calendar : Calendar) (o : Option ℕ) → payment_day calendar (to_day o) ≡ paid_on calendar o
unfolding payment_day
payment_day-is-paid_on calendar o = ap day_or_0 (following-is-day_after calendar o)

pub day_number-is-day_or_0 : (o : Option ℕ) → day_number (to_day o) ≡ day_or_0 o
day_number-is-day_or_0 none = refl
day_number-is-day_or_0 (some day) = refl

pub says_terminated-is-is_terminated : (s : Status) → says_terminated (some s) ≡ is_terminated s
says_terminated-is-is_terminated Normal = refl
says_terminated-is-is_terminated Suspended = refl
says_terminated-is-is_terminated Terminated = refl
