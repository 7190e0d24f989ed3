use mathlib.Core.Path.{ap, ◌∙◌}
use Rattle.rules.specs.Fit.{size_fit}
use Rattle.ledger.proofs.SumLaws.{test-fails, test-holds}
use Rattle.ledger.proofs.SummaryLaws.{summary-where}
use Rattle.ledger.proofs.FitFacts.{kept-where-fit}
use Rattle.ledger.proofs.Fitting.{fitting, refuted, upheld, by-flat-tests}
use Rattle.std.specs.Prelude.{not}
use Rattle.ledger.proofs.fit.is_fit.Goals as goal

pub returns-then-not-securities_fit : goal.returns-then-not-securities_fit
returns-then-not-securities_fit c =
    let capacity = c.requires.0 in
    let row = c.securities_fit.ensures c.args.scalars.guarantee in
    by-flat-tests _ _ _ _ (search fitting depth 12)

pub returns-then-not-cash_fit : goal.returns-then-not-cash_fit
returns-then-not-cash_fit c =
    let capacity = c.requires.0 in
    let row = c.securities_fit.ensures c.args.scalars.guarantee in
    by-flat-tests _ _ _ _ (search fitting depth 12)

pub returns-then-not-size_fit : goal.returns-then-not-size_fit
returns-then-not-size_fit c =
    let capacity = c.requires.0 in
    let row = c.securities_fit.ensures c.args.scalars.guarantee in
    let summary = summary-where _ _ c.requires.1 in
    let each = summary.0 in
    let size = rw summary.1 at c.size_fit.ensures in
    by-flat-tests _ _ _ _ (search fitting depth 12)

pub returns-then-not-postings_fit : goal.returns-then-not-postings_fit
returns-then-not-postings_fit c =
    let summary = summary-where _ _ c.requires.1 in
    let securities = upheld (c.securities_fit.ensures c.args.scalars.guarantee) (ap not c.if-not-securities_fit.false) in
    let cash = upheld c.cash_fit.ensures (ap not c.if-not-cash_fit.false) in
    let each = summary.0 in
    let size = upheld (c.size_fit.ensures ∙ ap (size_fit _) summary.1) (ap not c.if-not-size_fit.false) in
    by-flat-tests _ _ _ _
    (test-holds _ _ _ c.requires.0
    (test-holds _ _ _ securities
    (test-holds _ _ _ cash
    (test-holds _ _ _ each
    (test-holds _ _ _ size (test-fails _ _ (refuted c.postings_fit.ensures (ap not c.if-not-postings_fit.true))))))))

pub others_fit-requires : goal.others_fit-requires
others_fit-requires c =
    let summary = summary-where _ _ c.requires.1 in
    let each = summary.0 in
    (kept-where-fit _ _ c.requires.0 each, summary.2)

pub returns : goal.returns
returns c =
    let summary = summary-where _ _ c.requires.1 in
    let securities = upheld (c.securities_fit.ensures c.args.scalars.guarantee) (ap not c.if-not-securities_fit.false) in
    let cash = upheld c.cash_fit.ensures (ap not c.if-not-cash_fit.false) in
    let each = summary.0 in
    let size = upheld (c.size_fit.ensures ∙ ap (size_fit _) summary.1) (ap not c.if-not-size_fit.false) in
    by-flat-tests _ _ _ _
    (test-holds _ _ _ c.requires.0
    (test-holds _ _ _ securities
    (test-holds _ _ _ cash
    (test-holds _ _ _ each
    (test-holds _ _ _ size (test-holds _ _ _ (upheld c.postings_fit.ensures (ap not c.if-not-postings_fit.false)) c.others_fit.ensures))))))
