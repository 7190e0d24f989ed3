use Rattle.std.proofs.Common.{◌≡◌, ◌*◌, ◌/◌, length, drop}
use Rattle.std.specs.Slice.Iter.{chunks_exact_rest, chunks_exact_size}
use Rattle.std.specs.Iterator.Adapters.{enumerate_source, enumerate_count}
use Rattle.ledger.specs.Flat.{rows_of, book_of, trades_of}
use Rattle.ledger.specs.Figures.{figures_at}
use Rattle.ledger.proofs.RunLaws.{RunTo}
use Rattle.ledger.proofs.run.run_events.Given as goal

abbrev pub invariant-loop-k : goal.invariant-loop-k
invariant-loop-k l =
    RunTo l.calendar (book_of l.initial.turn.scalars (rows_of l.initial.held l.initial.kinds l.initial.units)) l.events l.initial.table l.initial.lines (length l.events / 40) l.table l.lines (book_of l.turn.scalars (rows_of l.held l.kinds l.units)) (enumerate_count l.k-iterator)
    × (l.turn.figures ≡ figures_at l.turn.scalars l.held (trades_of l.table))
    × (chunks_exact_size (enumerate_source l.k-iterator) ≡ 40)
    × (chunks_exact_rest (enumerate_source l.k-iterator) ≡ drop (enumerate_count l.k-iterator * 40) l.events)
