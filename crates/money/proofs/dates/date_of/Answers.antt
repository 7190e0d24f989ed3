-- The month tried holds the day, or the one before it does.
use Rattle.std.proofs.Common.{rules, ◌≡◌, ◌-◌, ℕ, ◌<◌, ◌≤◌, sym, ap, ◌∙◌, refl, arith}
use Rattle.std.proofs.Math.Option.{none}
use Rattle.money.specs.Limits.{last_day}
use Rattle.money.specs.Dates.{start_after, length_after, dated}
use Rattle.money.proofs.FirstTry.{Tried, its_own, the-next, OneBack, one-back, put-together}
use Rattle.money.proofs.DateAnswers.{date-given, date-refused}
use Rattle.money.proofs.dates.date_of.Goals as goal

-- the day lies before the month tried
back : (day : ℕ) {tried start length : ℕ} (within : day ≤ last_day) → start ≡ start_after tried → Tried day tried → day < start → length ≡ length_after (tried - 1) → OneBack day within start length
back day within started near early measured = one-back day within started near early refl measured

pub returns-then-day-gt-LAST_DAY : goal.returns-then-day-gt-LAST_DAY
returns-then-day-gt-LAST_DAY c = sym (date-refused _ c.if-day-gt-LAST_DAY.true)

pub returns-then-start-day : goal.returns-then-start-day
returns-then-start-day c =
    let day = c.args.day in
    let within = c.if-day-gt-LAST_DAY.false in
    let start = c.start_after-start.ensures in
    let own = its_own day within start (search rules) c.if-start-day.true in
    ap (dated none) (c.date_at.ensures ∙ put-together day within _ own (omega (arith, start, ap start_after own))) ∙ sym (date-given day within)

pub overflow_sub-months : goal.overflow_sub-months
overflow_sub-months c = omega (arith, the-next c.args.day c.if-day-gt-LAST_DAY.false c.start_after-start.ensures (search rules) c.if-start-day.false)

pub overflow_add-into : goal.overflow_add-into
overflow_add-into c =
    let b = back c.args.day c.if-day-gt-LAST_DAY.false c.start_after-start.ensures (search rules) c.if-start-day.false c.length_after-length.ensures in
    record { fits = omega (arith, b.spans, b.to) }

pub overflow_sub-into : goal.overflow_sub-into
overflow_sub-into c =
    let b = back c.args.day c.if-day-gt-LAST_DAY.false c.start_after-start.ensures (search rules) c.if-start-day.false c.length_after-length.ensures in
    omega (arith, b.from, b.spans)

pub date_at-requires-2 : goal.date_at-requires-2
date_at-requires-2 c =
    let b = back c.args.day c.if-day-gt-LAST_DAY.false c.start_after-start.ensures (search rules) c.if-start-day.false c.length_after-length.ensures in
    omega (arith, b.from, b.spans)

pub returns : goal.returns
returns c =
    let day = c.args.day in
    let within = c.if-day-gt-LAST_DAY.false in
    let start = c.start_after-start.ensures in
    let b = back day within start (search rules) c.if-start-day.false c.length_after-length.ensures in
    let next = the-next day within start (search rules) c.if-start-day.false in
    ap (dated none) (c.date_at-2.ensures ∙ put-together day within _ (omega (arith, next)) (omega (arith, b.from, b.spans)))
    ∙ sym (date-given day within)
