use Rattle.std.specs.Prelude.{◌≡◌, true, false}
use Rattle.std.proofs.lemmas.Iterator.{first_from_Range}
use borrow.Author.Rules.{rules}
use borrow.Author.Tests.{tests}
use Rattle.rules.specs.Trades.{same}
use Rattle.ledger.specs.Flat.{trade_at}
use Rattle.ledger.proofs.PlaceLaws.{found-first}
use Rattle.ledger.proofs.trades.place_of.Goals as goal

pub returns : goal.returns
returns c =
    let contract = c.args.contract in
    let table = c.args.table.now in
    let found = found-first contract table c.args.count c.find.result
    (first_from_Range _ _ _ _ (λ place. same (trade_at table place).contract contract ≡ true) (λ place. same (trade_at table place).contract contract ≡ false) c.find.ensures.ran (λ x q k. search (rules, tests)) (λ x q k. search (rules, tests))) in
    record { on_table = found.0; place = found.1 }
