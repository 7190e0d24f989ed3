use Rattle.std.specs.Prelude.{◌≡◌, Ok, is_ok}
use mathlib.Core.Path.{ap}
use Rattle.money.specs.Collateral.{kind_value}
use Rattle.money.proofs.Answers.{worth_within}
use Rattle.ledger.specs.Kind.{kind_number}
use Rattle.ledger.proofs.KindLaws.{number_known}
use Rattle.ledger.proofs.vault.worth.Goals as goal
use Rattle.ledger.proofs.vault.worth.Goals.{After-kind_worth}

valued : (c : After-kind_worth) → c.kind_worth.result ≡ Ok (kind_value (kind_number c.args.kind) c.args.had.effective c.args.had.frozen c.args.had.rate)
valued c =
    let p = c.requires in
    worth_within _ _ _ _ _ (number_known c.args.kind) p.0 p.1 p.2 (rw c.number.ensures at c.kind_worth.ensures)

pub unwrap-requires : goal.unwrap-requires
unwrap-requires c = ap is_ok (valued (goal.at.unwrap-requires c).After-kind_worth)

pub returns : goal.returns
returns c =
    let told = valued (goal.at.returns c).After-kind_worth in
    cc
