use Rattle.std.specs.Prelude.{◌≡◌, ◌*◌, ◌++◌, length, drop}
use mathlib.Core.Path.{refl, sym, ap, ◌∙◌}
use native.Mathlib.Omega.{arith}
use Rattle.std.specs.Slice.Iter.{chunks_exact_rest}
use Rattle.std.specs.Iterator.Adapters.{enumerate_source, enumerate_count}
use Rattle.ledger.proofs.RunLaws.{part-taken, rest-dropped, one-more-whole, none-whole, next-run, all-run}
use Rattle.ledger.proofs.run.run_events.Goals as goal

pub loop-k-preserved : goal.loop-k-preserved
loop-k-preserved c =
    let called = c.run_event-turn in
    let inv = c.loop-k.invariant in
    let step = c.in-Some.ensures.steps in
    let k = enumerate_count c.loop-k.k-iterator in
    let events = c.args.events.now in
    let rest = chunks_exact_rest (enumerate_source c.next.new.self) in
    let cut : drop (k * 40) events ≡ c.in-Some.bytes.now ++ rest = sym inv.3 ∙ step.0.1.0 in
    let whole : length c.in-Some.bytes.now ≡ 40 = step.0.1.1 ∙ inv.2 in
    let lines = rw step.1 at called.ensures.2 in
    rw step.2 (
      next-run _ _ _ _ _ _ _ _ _ _ inv.0 (one-more-whole events k _ _ cut whole) (omega (arith, c.requires.1)) _
          (part-taken events k _ _ cut whole)
          _ _ _ called.auto.table called.ensures.0 called.ensures.1 lines,
      called.ensures.3,
      step.0.0 ∙ inv.2,
      rest-dropped events k _ _ cut whole,
    )

pub returns : goal.returns
returns c =
    let inv = c.loop-k.invariant in
    let step = c.in-None.ensures.steps in
    all-run _ _ _ _ _ _ _ _ _ _ refl inv.0 (none-whole _ _ (omega (arith, step.0.1.0, inv.2, ap length inv.3))) (omega (arith, c.requires.1))
