use Rattle.rules.specs.Initial.{initial_causes}
use Rattle.ledger.proofs.Column.{applies, passes, asked, asked-not}
use Rattle.ledger.proofs.Groups.{group-applies, group-passes}
use Rattle.ledger.proofs.Refusing.{no_rows, told-on}
use Rattle.ledger.proofs.FitFacts.{fit-keeps}
use Rattle.ledger.proofs.InitialLaws.{today-within}
use Rattle.ledger.proofs.initial.initial_refusal.Goals as goal

pub term_refusal-requires : goal.term_refusal-requires
term_refusal-requires c =
    today-within _ _ _ c.requires.book.fits c.requires.book.few

pub slot_refusal-requires : goal.slot_refusal-requires
slot_refusal-requires c =
    (fit-keeps _ _ _ c.requires.book.fits).room

pub returns-in_err-product_refusal : goal.returns-in_err-product_refusal
unfolding initial_causes
returns-in_err-product_refusal c kinds units =
    told-on _ _ c.from_residual.ensures.1 (group-applies _ _ (c.in_err-product_refusal.ensures kinds units))

pub returns-in_err-time_refusal : goal.returns-in_err-time_refusal
unfolding initial_causes
returns-in_err-time_refusal c kinds units =
    told-on _ _ c.from_residual-in_err-time_refusal.ensures.1
    (group-passes _ _ (c.in_ok-product_refusal.ensures kinds units) (group-applies _ _ (c.in_err-time_refusal.ensures no_rows)))

pub returns-then-bad_count : goal.returns-then-bad_count
unfolding initial_causes
returns-then-bad_count c kinds units =
    group-passes _ _ (c.in_ok-product_refusal.ensures kinds units)
    (group-passes _ _ (c.in_ok-time_refusal.ensures no_rows) (applies _ _ (asked c.bad_count.ensures c.if-bad_count.true)))

pub returns-in_err-term_refusal : goal.returns-in_err-term_refusal
unfolding initial_causes
returns-in_err-term_refusal c kinds units =
    told-on _ _ c.from_residual-in_err-term_refusal.ensures.1
    (group-passes _ _ (c.in_ok-product_refusal.ensures kinds units)
    (group-passes _ _ (c.in_ok-time_refusal.ensures no_rows)
    (passes _ _ (asked-not c.bad_count.ensures c.if-bad_count.false) (group-applies _ _ (c.in_err-term_refusal.ensures no_rows)))))

pub returns-in_err-slot_refusal : goal.returns-in_err-slot_refusal
unfolding initial_causes
returns-in_err-slot_refusal c kinds units =
    told-on _ _ c.from_residual-in_err-slot_refusal.ensures.1
    (group-passes _ _ (c.in_ok-product_refusal.ensures kinds units)
    (group-passes _ _ (c.in_ok-time_refusal.ensures no_rows)
    (passes _ _ (asked-not c.bad_count.ensures c.if-bad_count.false)
    (group-passes _ _ (c.in_ok-term_refusal.ensures no_rows) (group-applies _ _ (c.in_err-slot_refusal.ensures no_rows))))))

pub returns : goal.returns
unfolding initial_causes
returns c kinds units =
    group-passes _ _ (c.in_ok-product_refusal.ensures kinds units)
    (group-passes _ _ (c.in_ok-time_refusal.ensures no_rows)
    (passes _ _ (asked-not c.bad_count.ensures c.if-bad_count.false)
    (group-passes _ _ (c.in_ok-term_refusal.ensures no_rows)
    (group-passes _ _ (c.in_ok-slot_refusal.ensures no_rows) (c.sheet_refusal.ensures kinds units)))))
