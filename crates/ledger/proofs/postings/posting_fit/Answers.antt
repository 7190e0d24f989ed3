use Rattle.std.proofs.Common.{rules, ◌∙◌}
use mathlib.Core.Logic.{⊎_elim}
use borrow.Author.Tests.{le-leb, lt-leb}
use Rattle.ledger.proofs.SumLaws.{test-fails, test-holds, only-test}
use Rattle.ledger.proofs.postings.posting_fit.Goals as goal

pub returns-then-posting-le-PRICE_LIMIT : goal.returns-then-posting-le-PRICE_LIMIT
returns-then-posting-le-PRICE_LIMIT c =
    let two = c.if-posting-le-PRICE_LIMIT.true in
    test-holds _ _ _ (le-leb _ 365 two.0) (test-holds _ _ _ (le-leb _ 100000 two.1) (only-test _))

pub returns-else-posting-le-PRICE_LIMIT : goal.returns-else-posting-le-PRICE_LIMIT
returns-else-posting-le-PRICE_LIMIT c =
    (search rules)
    ∙ ⊎_elim (λ two. test-holds _ _ _ (le-leb _ 365 two.0) (test-fails _ _ (lt-leb _ 100000 two.1))) (λ one. test-fails _ _ (lt-leb _ 365 one)) c.if-posting-le-PRICE_LIMIT.either
