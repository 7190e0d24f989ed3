-- Why a call is turned down: its causes in order, of which the first that applies gives the number. (01, Turned-down events)
-- Assumes nothing.
use Rattle.std.specs.Prelude.{ℕ, Bool, cond, List, [], ◌∷◌, Result, Ok, Err}
use Rattle.std.proofs.Math.Option.{Option, none, some}
pub use Rattle.money.specs.declared.refusal.Refusal.{Refusal}
use Rattle.money.specs.declared.refusal.Refusal.TheVariants.{NotFit, Undecodable, UnknownKind, WrongPhase, PermissionEnded, TradesSuspended, BadCount}
use Rattle.money.specs.declared.refusal.Refusal.TheVariants.{BadPrice, BadDueDay, BadContract, TableFull, AboveHeadroom, NotEnough, PastLimit}
use Rattle.money.specs.declared.refusal.Refusal.TheVariants.{BelowOutstanding, NoTradingDay, ListFull, BadLength, NoSuchDate, NotPosted}

-- a cause and its number
pub record Cause : Type 0 where
  pub applies : Bool
  pub number : ℕ

abbrev pub ◌⇒◌ : Bool → ℕ → Cause
applies ⇒ number = record { applies = applies; number = number }

infix 20 ◌⇒◌
-- the number of the first cause that applies
unfoldable pub first_of : List Cause → Option ℕ
first_of [] = none
first_of (c ∷ cs) = cond c.applies (some c.number) (first_of cs)

-- "Done is 0."
abbrev pub number_of : Option ℕ → ℕ
number_of none = 0
number_of (some n) = n

-- "each beside a result of 0": the result of a call that is done, else 0
abbrev pub result_of : Option ℕ → ℕ → ℕ
result_of none result = result
result_of (some n) result = 0

-- ---- a refusal by name

-- its number in the table of causes
abbrev pub refusal_number : Refusal → ℕ
refusal_number NotFit = 1
refusal_number Undecodable = 2
refusal_number UnknownKind = 3
refusal_number WrongPhase = 4
refusal_number PermissionEnded = 5
refusal_number TradesSuspended = 6
refusal_number BadCount = 7
refusal_number BadPrice = 8
refusal_number BadDueDay = 9
refusal_number BadContract = 10
refusal_number TableFull = 11
refusal_number AboveHeadroom = 12
refusal_number NotEnough = 13
refusal_number PastLimit = 14
refusal_number BelowOutstanding = 15
refusal_number NoTradingDay = 16
refusal_number ListFull = 17
refusal_number BadLength = 18
refusal_number NoSuchDate = 19
refusal_number NotPosted = 20

-- the cause that a call's answer tells, if it is turned down
abbrev pub refusal_of : {A : Type 0} → Result A Refusal → Option ℕ
refusal_of (Ok result) = none
refusal_of (Err refusal) = some (refusal_number refusal)
