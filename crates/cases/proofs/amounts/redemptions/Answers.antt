use borrow.Author.Tests.{eq-eqb}
use Rattle.money.specs.Causes.{first_of}
use Rattle.money.specs.Money.{principal, income, redemption, redemption_amount}
use Rattle.cases.proofs.amounts.redemptions.Goals as goal

pub expect-requires : goal.expect-requires
unfolding redemption_amount first_of redemption principal income
expect-requires c =
    eq-eqb c.redemption-m1.result.0 1000400 c.redemption-m1.ensures

pub expect-requires-2 : goal.expect-requires-2
unfolding redemption_amount first_of redemption principal income
expect-requires-2 c =
    eq-eqb c.redemption-m2.result.0 10001 c.redemption-m2.ensures

pub expect-requires-3 : goal.expect-requires-3
unfolding redemption_amount first_of redemption principal income
expect-requires-3 c =
    eq-eqb c.redemption-m3.result.0 10000 c.redemption-m3.ensures
