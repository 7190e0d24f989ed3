use Rattle.std.proofs.Common.{rules, ◌≡◌, length, ap, ◌∙◌}
use Rattle.rules.specs.Step.{Outcome, step}
use Rattle.book.specs.Types.{Book}
use Rattle.ledger.specs.Flat.{trades_of, applied_of}
use Rattle.ledger.specs.Lent.{Lent, lent}
use Rattle.ledger.proofs.LentLaws.{Lengths, all_whole, by-step}
use Rattle.ledger.proofs.SplitLaws.{whole}
use Rattle.book.proofs.numbers.apply_flat.Goals as goal

pub returns : goal.returns
returns c =
    let a = c.args in
    let held = c.held_of-held in
    let l : Lent = lent c.scalars_of-scalars.result held.result c.kinds_of-kinds.result c.units_of-units.result a.table.now in
    let held-long : length held.result ≡ 160 = search rules in
    let kinds-long : length c.kinds_of-kinds.result ≡ 128 = search rules in
    let units-long : length c.units_of-units.result ≡ 128 = search rules in
    let long : Lengths l = record { held = held-long; kinds = kinds-long; units = units-long; table = c.requires } in
    let same = whole a.book held.result c.scalars_of-scalars.ensures held.ensures.0 held.ensures.1 c.kinds_of-kinds.ensures c.units_of-units.ensures in
    let told = c.apply-done.ensures.0 ∙ by-step a.calendar.now l (all_whole l long) a.entry ∙ ap (λ (book : Book). step a.calendar.now book (trades_of a.table.now) a.entry) same in
    (rw c.book_of.ensures (ap (λ (o : Outcome). applied_of o) told), ap (λ (o : Outcome). o.table) told)
