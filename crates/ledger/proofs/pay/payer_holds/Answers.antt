use mathlib.Core.Path.{sym, ◌∙◌}
use Rattle.ledger.proofs.PayLaws.{client-holds, own-holds}
use Rattle.ledger.proofs.pay.payer_holds.Goals as goal

pub returns-then-client_pays : goal.returns-then-client_pays
returns-then-client_pays c =
    sym (client-holds c.args.cash c.args.nets.cleared.0 (sym c.client_pays.ensures ∙ c.if-client_pays.true))

pub returns : goal.returns
returns c =
    sym (own-holds c.args.cash c.args.nets.cleared.0 (sym c.client_pays.ensures ∙ c.if-client_pays.false))
