use Rattle.std.proofs.Common.{length, ◌≡◌, sym, arith}
use Rattle.book.proofs.TableLaws.{copied_all}
use Rattle.book.proofs.copies.copy_out.Goals as goal

pub returns : goal.returns
returns c =
    let long : length c.loop-place.table ≡ length c.args.table.now = omega arith in
    sym (rw long at (copied_all _ _ _ (omega (arith, c.requires)) (omega arith) c.loop-place.invariant))
