-- The book, its parts and a fresh one. (01, The book)
-- Assumes nothing.
use Rattle.std.specs.Prelude.{ℕ, zero, suc, Bool, true, false, not, List, Option, eqb, pos, get_or, replicate}
use Rattle.money.specs.declared.units.Sheets.{Sheets}
use Rattle.money.specs.Units.{fen, sheets, ticks, signed_fen}
use Rattle.rules.specs.Limits.{application_limit, product_limit}
pub use Rattle.rules.specs.declared.book.Nets.{Nets}
pub use Rattle.rules.specs.declared.book.Unpaid.{Unpaid}
pub use Rattle.rules.specs.declared.book.Sums.{Sums}
pub use Rattle.rules.specs.declared.book.Cash.{Cash}
pub use Rattle.rules.specs.declared.book.Security.{Security}
pub use Rattle.rules.specs.declared.book.Guarantee.{Guarantee}
pub use Rattle.rules.specs.declared.book.Vault.{Vault}
pub use Rattle.std.specs.Prelude.{None, Some}
pub use Rattle.rules.specs.declared.book.Phase.{Phase}
pub use Rattle.rules.specs.declared.book.Phase.TheVariants.{Closed, Trading, Paid}
pub use Rattle.rules.specs.declared.book.Status.{Status}
pub use Rattle.rules.specs.declared.book.Status.TheVariants.{Normal, Suspended, Terminated}
pub use Rattle.rules.specs.declared.book.FailedRun.{FailedRun}
pub use Rattle.rules.specs.declared.book.FailedRun.TheVariants.{NotFailed, FailedOnce, FailedTwice}
pub use Rattle.rules.specs.declared.book.ShortRun.{ShortRun}
pub use Rattle.rules.specs.declared.book.ShortRun.TheVariants.{NotShort, ShortOnce, ShortTwice, ShortThrice}
pub use Rattle.rules.specs.declared.book.Standing.{Standing}
pub use Rattle.rules.specs.declared.book.Withdrawals.{Withdrawals}
pub use Rattle.rules.specs.declared.book.Posting.{Posting}
pub use Rattle.rules.specs.declared.book.Book.{Book}
pub use Rattle.rules.specs.declared.answer.Answer.{Answer}

-- a book's day, once it has one
abbrev pub Day : Type 0
Day = Option ℕ

-- ---- tests of the cases

abbrev pub is_closed : Phase → Bool
is_closed Closed = true
is_closed Trading = false
is_closed Paid = false

abbrev pub is_trading : Phase → Bool
is_trading Closed = false
is_trading Trading = true
is_trading Paid = false

abbrev pub is_paid : Phase → Bool
is_paid Closed = false
is_paid Trading = false
is_paid Paid = true

abbrev pub is_normal : Status → Bool
is_normal Normal = true
is_normal Suspended = false
is_normal Terminated = false

abbrev pub is_suspended : Status → Bool
is_suspended Normal = false
is_suspended Suspended = true
is_suspended Terminated = false

abbrev pub is_terminated : Status → Bool
is_terminated Normal = false
is_terminated Suspended = false
is_terminated Terminated = true

abbrev pub has_failed : FailedRun → Bool
has_failed NotFailed = false
has_failed FailedOnce = true
has_failed FailedTwice = true

-- ---- the book with a part set anew

abbrev pub with_nets : Nets → Book → Book
with_nets nets book = record { nets = nets; sums = book.sums; cash = book.cash; vault = book.vault; size = book.size; standing = book.standing; withdrawals = book.withdrawals; postings = book.postings; trades = book.trades }

abbrev pub with_sums : Sums → Book → Book
with_sums sums book = record { nets = book.nets; sums = sums; cash = book.cash; vault = book.vault; size = book.size; standing = book.standing; withdrawals = book.withdrawals; postings = book.postings; trades = book.trades }

abbrev pub with_unpaid : Unpaid → Book → Book
with_unpaid unpaid book = with_sums (record { unpaid = unpaid }) book

abbrev pub with_cash : Cash → Book → Book
with_cash cash book = record { nets = book.nets; sums = book.sums; cash = cash; vault = book.vault; size = book.size; standing = book.standing; withdrawals = book.withdrawals; postings = book.postings; trades = book.trades }

abbrev pub with_vault : Vault → Book → Book
with_vault vault book = record { nets = book.nets; sums = book.sums; cash = book.cash; vault = vault; size = book.size; standing = book.standing; withdrawals = book.withdrawals; postings = book.postings; trades = book.trades }

abbrev pub with_size : Sheets → Book → Book
with_size size book = record { nets = book.nets; sums = book.sums; cash = book.cash; vault = book.vault; size = size; standing = book.standing; withdrawals = book.withdrawals; postings = book.postings; trades = book.trades }

abbrev pub with_standing : Standing → Book → Book
with_standing standing book = record { nets = book.nets; sums = book.sums; cash = book.cash; vault = book.vault; size = book.size; standing = standing; withdrawals = book.withdrawals; postings = book.postings; trades = book.trades }

abbrev pub with_withdrawals : Withdrawals → Book → Book
with_withdrawals withdrawals book = record { nets = book.nets; sums = book.sums; cash = book.cash; vault = book.vault; size = book.size; standing = book.standing; withdrawals = withdrawals; postings = book.postings; trades = book.trades }

abbrev pub with_trades : ℕ → Book → Book
with_trades trades book = record { nets = book.nets; sums = book.sums; cash = book.cash; vault = book.vault; size = book.size; standing = book.standing; withdrawals = book.withdrawals; postings = book.postings; trades = trades }

abbrev pub with_postings : List Posting → Book → Book
with_postings postings book = record { nets = book.nets; sums = book.sums; cash = book.cash; vault = book.vault; size = book.size; standing = book.standing; withdrawals = book.withdrawals; postings = postings; trades = book.trades }

-- ---- a fresh book: "Closed and normal, all numbers 0 (the cash rate isn't kept in it), table and applications empty"

abbrev pub no_sums : Sums
no_sums = record { unpaid = record { today = fen 0; cleared = fen 0 } }

abbrev pub no_security : Security
no_security = record { effective = 0; arriving = 0; frozen = 0; rate = 0 }

abbrev pub no_applications : Withdrawals
no_applications = record { kinds = replicate application_limit 0; units = replicate application_limit 0; count = 0 }

-- a term of 0 is none: nothing is posted (02, ask 4)
abbrev pub no_posting : Posting
no_posting = record { term = 0; price = ticks 0; fallback = ticks 0 }

abbrev pub no_postings : List Posting
no_postings = replicate product_limit no_posting

unfoldable pub fresh_book : Book
fresh_book = record {
  nets = record { today = signed_fen (pos 0); cleared = signed_fen (pos 0) };
  sums = no_sums;
  cash = record { own = fen 0; client = fen 0 };
  vault = record { guarantee = record { effective = fen 0; arriving = fen 0; frozen = fen 0 }; securities = replicate 32 no_security };
  size = sheets 0;
  standing = record { day = None; phase = Closed; status = Normal; failed = NotFailed; short = NotShort };
  withdrawals = no_applications;
  postings = no_postings;
  trades = 0;
}

-- ---- "gives product 0 to 15 … its term in days … and both prices for that day" (02, ask 4)

-- what is posted for a record's product, "0, or the product number plus 1": for 0 nothing is
abbrev pub posting_at : List Posting → (product : ℕ) → Posting
posting_at postings zero = no_posting
posting_at postings (suc number) = get_or postings number no_posting

abbrev pub posting_of : Book → (product : ℕ) → Posting
posting_of book product = posting_at book.postings product

-- "the product was posted today"
abbrev pub is_posted : Posting → Bool
is_posted posting = not (eqb posting.term 0)

-- ---- an answer that carries its number alone

abbrev pub answer : ℕ → Answer
answer number = record { number = number; matured = sheets 0; done = 0; dropped = 0 }
