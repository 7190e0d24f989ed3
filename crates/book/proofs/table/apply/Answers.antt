-- An entry looks at the slots in use and at the next one; a table that is too long is 1.
use Rattle.std.proofs.Common.{◌++◌, drop, ap, sym, ◌∙◌}
use Rattle.rules.specs.Step.{Outcome}
use Rattle.rules.proofs.FrontLaws.{step-used}
use Rattle.ledger.specs.Flat.{applied_of}
use Rattle.rules.specs.declared.answer.Answer.{Answer}
use Rattle.rules.specs.declared.book.Book.{Book}
use Rattle.rules.specs.Book.{answer}
use Rattle.rules.specs.declared.answer.Applied.{Applied}
use Rattle.book.proofs.TableLaws.{long-step}
use Rattle.book.proofs.table.apply.Goals as goal

abbrev told-by : Book → Answer → Applied
told-by book answered = record { answer = answered; book = book }

pub returns-then-slots-gt-CAPACITY_LIMIT : goal.returns-then-slots-gt-CAPACITY_LIMIT
returns-then-slots-gt-CAPACITY_LIMIT c =
    let told = sym (long-step c.args.calendar.now c.args.book c.args.table.now c.if-slots-gt-CAPACITY_LIMIT.true c.args.entry) in
    (ap (λ (a : Answer). told-by c.args.book a) (c.answer_of.ensures ∙ ap answer c.into.ensures) ∙ ap applied_of told, ap (λ (o : Outcome). o.table) told)

pub returns : goal.returns
returns c =
    let used = c.slots_used-used in
    let told = sym (step-used c.args.calendar.now c.args.book c.args.table.now c.if-slots-gt-CAPACITY_LIMIT.false used.result used.ensures c.args.entry) in
    (c.apply_in_numbers.ensures.0 ∙ ap applied_of told, ap (λ l. l ++ drop used.result c.args.table.now) c.apply_in_numbers.ensures.1 ∙ ap (λ (o : Outcome). o.table) told)
