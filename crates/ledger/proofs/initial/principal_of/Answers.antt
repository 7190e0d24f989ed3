use Rattle.std.specs.Prelude.{◌≡◌, Ok, is_ok}
use mathlib.Core.Path.{ap}
use Rattle.money.specs.Money.{principal}
use Rattle.money.proofs.Answers.{initial_within}
use Rattle.ledger.proofs.initial.principal_of.Goals as goal

pub unwrap-requires : goal.unwrap-requires
unwrap-requires c = ap is_ok (initial_within _ _ c.requires c.initial.ensures)

pub returns : goal.returns
returns c =
    let told : c.initial.result ≡ Ok (principal c.args.count) = initial_within _ _ c.requires c.initial.ensures in
    cc
