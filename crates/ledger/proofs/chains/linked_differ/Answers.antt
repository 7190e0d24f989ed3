use Rattle.std.specs.Prelude.{◌≡◌}
use mathlib.Core.Path.{refl}
use native.Mathlib.Omega.{arith}
use Rattle.ledger.specs.Flat.{trade_at}
use Rattle.ledger.specs.Chains.{bucket_of}
use Rattle.ledger.proofs.ChainLaws.{none-linked, looked-up, told-of-all, next-linked}
use Rattle.ledger.proofs.chains.linked_differ.Goals as goal

pub loop-place-init : goal.loop-place-init
loop-place-init g c = none-linked _ _ _ _ _ c.requires.2 c.requires.3 refl (omega (arith, c.requires.1))

pub look_along-requires : goal.look_along-requires
look_along-requires g c =
    let linked = c.loop-place.invariant in
    let low = linked.low c.bucket_of-bucket.result in
    rw c.from.ensures (omega (arith, low, c.requires.0, c.loop-place-test.true), omega (arith, low, linked.long, c.loop-place-test.true), λ at l. linked.falls at (omega (arith, l, low)))

pub returns-in_default : goal.returns-in_default
returns-in_default g c =
    let linked = c.loop-place.invariant in
    let told = looked-up _ _ _ _ _ _ linked c.loop-place-test.true _ c.contract_at-contract.ensures c.bucket_of-bucket.ensures (rw c.from.ensures at c.look_along.ensures) in
    told-of-all _ _ _ _ _ _ linked c.loop-place-test.true _ c.in_default.not-Differs told

pub loop-place-preserved : goal.loop-place-preserved
loop-place-preserved g c =
    let here = c.loop-place in
    let linked = here.invariant in
    let told = looked-up _ _ _ _ _ _ linked c.loop-place-test.true _ c.contract_at-contract.ensures c.bucket_of-bucket.ensures (rw c.from.ensures at c.look_along.ensures) in
    let fell : c.bucket_of-bucket.result ≡ bucket_of g.row.BUCKETS (trade_at c.args.table.now here.place).contract = rw c.contract_at-contract.ensures at c.bucket_of-bucket.ensures in
    rw fell (next-linked _ _ _ _ _ _ linked c.loop-place-test.true (rw c.in-Differs.is at told))

pub returns : goal.returns
returns g c =
    let all : c.loop-place.place ≡ c.args.count = omega (arith, c.loop-place-test.false, c.loop-place.invariant.high) in
    rw all at c.loop-place.invariant.differing
