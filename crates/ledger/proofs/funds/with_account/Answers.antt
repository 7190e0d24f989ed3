use mathlib.Core.Path.{refl}
use Rattle.ledger.proofs.funds.with_account.Goals as goal

pub returns-in-Own : goal.returns-in-Own
returns-in-Own c =
    rw c.in-Own.is refl

pub returns-in-Client : goal.returns-in-Client
returns-in-Client c =
    rw c.in-Client.is refl
