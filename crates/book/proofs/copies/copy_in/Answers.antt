use Rattle.std.proofs.Common.{arith}
use Rattle.book.proofs.TableLaws.{copied_next, copied_all}
use Rattle.book.proofs.copies.copy_in.Goals as goal

pub loop-place-preserved : goal.loop-place-preserved
loop-place-preserved c = copied_next _ _ _ _ (omega (arith, c.requires)) c.put_trade.ensures.0 c.loop-place.invariant

pub returns : goal.returns
returns c = copied_all _ _ _ (omega (arith, c.requires)) c.loop-place-test.false c.loop-place.invariant
