use Rattle.std.proofs.Common.{rules, ◌∙◌}
use Rattle.rules.specs.Fit.{posting_fit}
use Rattle.ledger.specs.Flat.{posting_in}
use Rattle.ledger.proofs.PostingLaws.{fit-each}
use Rattle.ledger.proofs.RangeLaws.{all-over}
use Rattle.ledger.proofs.postings.postings_fit.Goals as goal

pub returns : goal.returns
returns c =
    let held = c.args.held.now in
    all-over 16 (λ number. posting_fit (posting_in held number)) _ c.all.ensures.ran (λ k b q called. search rules) ∙ fit-each held
