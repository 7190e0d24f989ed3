use Rattle.std.specs.Prelude.{◌≡◌, ◌≤◌, true, false, pos}
use mathlib.Core.Path.{sym, ◌∙◌}
use native.Mathlib.Omega.{arith}
use lib.Signed.{lt_z}
use Rattle.ledger.proofs.PayLaws.{client-holds, own-holds, client-moves, own-moves}
use Rattle.ledger.proofs.pay.cash_moved.Goals as goal

pub returns-then-client_pays : goal.returns-then-client_pays
returns-then-client_pays c =
    let by-client : lt_z c.args.nets.cleared.0 (pos 0) ≡ true = sym c.client_pays.ensures ∙ c.if-client_pays.true in
    let a = c.args in
    rw (client-moves a.cash a.nets.cleared.0 by-client, ← c.net_due-due.ensures)

pub returns : goal.returns
returns c =
    let by-own : lt_z c.args.nets.cleared.0 (pos 0) ≡ false = sym c.client_pays.ensures ∙ c.if-client_pays.false in
    let a = c.args in
    rw (own-moves a.cash a.nets.cleared.0 by-own, ← c.net_due-due.ensures)

pub overflow_add-own : goal.overflow_add-own
overflow_add-own c =
    let by-client : lt_z c.args.nets.cleared.0 (pos 0) ≡ true = sym c.client_pays.ensures ∙ c.if-client_pays.true in
    let client-covers : c.net_due-due.result.0 ≤ c.args.cash.client.0 = let a = c.args in
    omega (arith, c.net_due-due.ensures, client-holds a.cash a.nets.cleared.0 by-client, c.requires) in
    omega (arith, client-covers, c.requires)

pub overflow_sub-client : goal.overflow_sub-client
overflow_sub-client c =
    let by-client : lt_z c.args.nets.cleared.0 (pos 0) ≡ true = sym c.client_pays.ensures ∙ c.if-client_pays.true in
    let client-covers : c.net_due-due.result.0 ≤ c.args.cash.client.0 = let a = c.args in
    omega (arith, c.net_due-due.ensures, client-holds a.cash a.nets.cleared.0 by-client, c.requires) in
    omega (arith, client-covers)

pub overflow_sub-left : goal.overflow_sub-left
overflow_sub-left c =
    let by-own : lt_z c.args.nets.cleared.0 (pos 0) ≡ false = sym c.client_pays.ensures ∙ c.if-client_pays.false in
    let own-covers : c.net_due-due.result.0 ≤ c.args.cash.own.0 = let a = c.args in
    omega (arith, c.net_due-due.ensures, own-holds a.cash a.nets.cleared.0 by-own, c.requires) in
    omega (arith, own-covers)

pub overflow_add-raised : goal.overflow_add-raised
overflow_add-raised c =
    let by-own : lt_z c.args.nets.cleared.0 (pos 0) ≡ false = sym c.client_pays.ensures ∙ c.if-client_pays.false in
    let own-covers : c.net_due-due.result.0 ≤ c.args.cash.own.0 = let a = c.args in
    omega (arith, c.net_due-due.ensures, own-holds a.cash a.nets.cleared.0 by-own, c.requires) in
    omega (arith, own-covers, c.requires)
