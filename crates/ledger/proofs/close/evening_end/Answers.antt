use mathlib.Core.Path.{refl, ◌∙◌}
use native.Mathlib.Omega.{arith}
use Rattle.rules.specs.Close.{all_arrived, evening}
use Rattle.rules.proofs.FitParts.{cash-fits}
use Rattle.ledger.specs.Flat.{rows_of, book_of}
use Rattle.ledger.proofs.EveningLaws.{sound-of}
use Rattle.ledger.proofs.CloseLaws.{begun, evening-begins}
use Rattle.ledger.proofs.close.evening_end.Goals as goal

pub guarantee_arrived-arrived-requires : goal.guarantee_arrived-arrived-requires
guarantee_arrived-arrived-requires c =
    omega (arith, (cash-fits _ _ c.requires.cash).sum)

pub value_of-requires : goal.value_of-requires
unfolding all_arrived
value_of-requires c =
    let sound = sound-of (begun (book_of c.args.scalars (rows_of c.args.held.now c.args.kinds.now c.args.units.now))) (evening-begins (book_of c.args.scalars (rows_of c.args.held.now c.args.kinds.now c.args.units.now)) c.requires.securities c.requires.cash) in
    rw (c.guarantee_arrived-arrived.ensures, c.all_arrived.ensures.0)
    (sound.0, sound.1, sound.2)

pub applications-requires : goal.applications-requires
unfolding all_arrived
applications-requires c =
    let arrived = c.all_arrived in
    let kept = evening-begins (book_of c.args.scalars (rows_of c.args.held.now c.args.kinds.now c.args.units.now)) c.requires.securities c.requires.cash in
    let sound = sound-of (begun (book_of c.args.scalars (rows_of c.args.held.now c.args.kinds.now c.args.units.now))) kept in
    let cash = c.guarantee_arrived-arrived.ensures in
    record {
      listed = c.requires.withdrawals;
      begun = (rw (cash, arrived.ensures.0) sound.0, rw cash sound.1, rw cash sound.2, rw cash kept.cash, c.value_of.ensures, refl, refl);
    }

pub returns : goal.returns
unfolding evening all_arrived
returns c =
    (rw (c.applications.ensures.0, c.is_served.ensures, c.guarantee_arrived-arrived.ensures, c.all_arrived.ensures.0), c.applications.ensures.1, c.applications.ensures.2 ∙ c.all_arrived.ensures.1)
