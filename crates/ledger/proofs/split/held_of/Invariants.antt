use Rattle.std.proofs.Common.{◌≡◌}
use Rattle.ledger.specs.Flat.{securities_of, postings_of}
use Rattle.rules.specs.Book.{no_security, no_posting}
use Rattle.ledger.proofs.RowLaws.{Filled}
use Rattle.ledger.proofs.split.held_of.Given as goal

abbrev pub invariant-loop-kind : goal.invariant-loop-kind
invariant-loop-kind l = Filled no_security (securities_of l.held) l.fn.vault.securities l.kind

abbrev pub invariant-loop-number : goal.invariant-loop-number
invariant-loop-number l = (securities_of l.held ≡ l.fn.vault.securities) × Filled no_posting (postings_of l.held) l.fn.posted l.number
