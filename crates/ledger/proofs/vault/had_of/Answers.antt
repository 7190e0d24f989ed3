use Rattle.std.proofs.Common.{arith, sym, ap}
use borrow.Author.Tests.{ne_eqb}
use lib.ListN.{get_or-eq_default}
use Rattle.rules.specs.Book.{no_security}
use Rattle.ledger.specs.Types.{Security}
use Rattle.ledger.specs.Flat.{securities_of}
use Rattle.ledger.proofs.HeldLaws.{length-securities, security-at-row}
use Rattle.ledger.proofs.vault.had_of.Goals as goal

pub returns-in-Security-clause-units : goal.returns-in-Security-clause-units
returns-in-Security-clause-units c =
    let at = c.in-Security.at in
    let row = security-at-row c.args.held.now c.args.guarantee at.number at.known in
    let security = ne_eqb at.number 32 (λ e. omega (arith, at.known)) in
    rw c.in-Security.is (rw (security, row, c.security_at.ensures), rw (security, row, c.security_at.ensures))

pub returns-in-Security-clause-rate : goal.returns-in-Security-clause-rate
returns-in-Security-clause-rate c =
    let at = c.in-Security.at in
    rw (c.in-Security.is, security-at-row c.args.held.now c.args.guarantee at.number at.known, c.security_at.ensures)

-- there is no security of this kind
pub returns-in-Cash-clause-rate : goal.returns-in-Cash-clause-rate
returns-in-Cash-clause-rate c =
    let securities = securities_of c.args.held.now in
    rw c.in-Cash.is (sym (ap (λ (s : Security). s.rate) (get_or-eq_default securities no_security {n = 32} (omega (arith, length-securities c.args.held.now 32)))))
