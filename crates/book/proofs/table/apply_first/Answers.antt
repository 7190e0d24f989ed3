use Rattle.std.proofs.Common.{◌≡◌, ℕ, ◌*◌, length, take, drop, ◌∙◌, length-take-le}
use Rattle.ledger.specs.Flat.{width, trades_to, trades_of}
use Rattle.book.proofs.TableLaws.{trades-of-front, trades-before}
use Rattle.book.proofs.table.apply_first.Goals as goal

pub returns : goal.returns
returns c =
    let a = c.args in
    let end : ℕ = a.count * width in
    let long : length c.apply_flat.new.table ≡ end = c.apply_flat.auto.table ∙ length-take-le end a.flat.now c.requires in
    let front : trades_of (take end a.flat.now) ≡ trades_to a.flat.now a.count = trades-of-front a.flat.now a.count c.requires in
    let said = rw front at c.apply_flat.ensures in
    (said.0, trades-before c.apply_flat.new.table (drop end a.flat.now) a.count long ∙ said.1)
