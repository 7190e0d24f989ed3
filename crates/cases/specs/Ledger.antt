-- A book with its table in an array, as an event leaves them.
-- Assumes nothing.
use Rattle.rules.specs.Step.{Outcome}
use Rattle.cases.specs.declared.structs.Ledger.{Ledger}

abbrev pub ledger_of : Outcome → Ledger
ledger_of left = record { answer = left.answer; book = left.book; table = left.table }
