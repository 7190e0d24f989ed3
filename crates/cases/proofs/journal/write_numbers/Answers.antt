use mathlib.Core.Path.{refl}
use Rattle.std.specs.Prelude.{[]}
use native.Mathlib.Omega.{arith}
use Rattle.cases.proofs.JournalLaws.{written, byte-written, bytes-written}
use Rattle.cases.proofs.journal.write_numbers.Goals as goal

pub loop-k-init : goal.loop-k-init
loop-k-init c = written _ _ [] refl

pub bounds-bytes-at : goal.bounds-bytes-at
bounds-bytes-at c = omega (arith, c.loop-k.invariant.long)

pub loop-k-preserved : goal.loop-k-preserved
loop-k-preserved c = byte-written _ _ _ _ (omega (arith, c.loop-k-test.true)) c.loop-k.invariant c.digit.ensures

pub returns : goal.returns
returns c =
    bytes-written c.args.bytes.now c.args.at c.args.numbers.now c.loop-k.k (omega (arith, c.loop-k-test.false)) c.loop-k.invariant
