-- The first test is made without a sum that could wrap.
use Rattle.std.proofs.Common.{arith, ◌≡◌, ◌+◌, ◌-◌, ◌≤◌, true, false, ℕ, leb, sym, ◌∙◌}
use mathlib.Core.Bool.{false≢true}
use borrow.Author.Tests.{le-leb, lt-leb, leb-true, leb-false}
use Rattle.ledger.proofs.SumLaws.{test-fails, test-holds, only-test}
use Rattle.ledger.proofs.vault.security_fit.Goals as goal
use Rattle.ledger.proofs.vault.security_fit.Goals.{then-security-le-UNIT_LIMIT, else-security-le-UNIT_LIMIT, then-security, else-security}

within : (effective arriving : ℕ) → effective ≤ 1000000000000 → leb arriving (1000000000000 - effective) ≡ true → leb (effective + arriving) 1000000000000 ≡ true
within effective arriving h k = le-leb (effective + arriving) 1000000000000 (omega (arith, h, leb-true arriving (1000000000000 - effective) k))

past : (effective arriving : ℕ) → leb arriving (1000000000000 - effective) ≡ false → leb (effective + arriving) 1000000000000 ≡ false
past effective arriving k = lt-leb (effective + arriving) 1000000000000 (omega (arith, leb-false arriving (1000000000000 - effective) k))

pub returns-then-security-le-RATE_LIMIT : goal.returns-then-security-le-RATE_LIMIT
returns-then-security-le-RATE_LIMIT c =
    let s = c.args.security in
    elim c.if-security.branch [
      | then-security w ↦ elim c.if-security-le-UNIT_LIMIT.branch [
        | then-security-le-UNIT_LIMIT v ↦
            test-holds _ _ _ (within s.effective s.arriving v.if-security-le-UNIT_LIMIT.true (sym v.value-is ∙ w.if-security.true))
            (test-holds _ _ _ (sym w.value-is ∙ c.if-security-le-RATE_LIMIT.true) (only-test _))
        | else-security-le-UNIT_LIMIT v ↦
            absurd (false≢true (sym (lt-leb s.effective 1000000000000 v.if-security-le-UNIT_LIMIT.false) ∙ sym v.value-is ∙ w.if-security.true))
      ]
      | else-security w ↦ absurd (false≢true (sym w.if-security.false ∙ sym w.value-is ∙ c.if-security-le-RATE_LIMIT.true))
    ]

pub returns-else-security-le-RATE_LIMIT : goal.returns-else-security-le-RATE_LIMIT
returns-else-security-le-RATE_LIMIT c =
    let s = c.args.security in
    c.if-security-le-RATE_LIMIT.false
    ∙ elim c.if-security.branch [
      | then-security w ↦ elim c.if-security-le-UNIT_LIMIT.branch [
        | then-security-le-UNIT_LIMIT v ↦
            test-holds _ _ _ (within s.effective s.arriving v.if-security-le-UNIT_LIMIT.true (sym v.value-is ∙ w.if-security.true))
            (test-fails _ _ (sym w.value-is ∙ c.if-security-le-RATE_LIMIT.false))
        | else-security-le-UNIT_LIMIT v ↦
            absurd (false≢true (sym (lt-leb s.effective 1000000000000 v.if-security-le-UNIT_LIMIT.false) ∙ sym v.value-is ∙ w.if-security.true))
      ]
      | else-security w ↦ elim c.if-security-le-UNIT_LIMIT.branch [
        | then-security-le-UNIT_LIMIT v ↦ test-fails _ _ (past s.effective s.arriving (sym v.value-is ∙ w.if-security.false))
        | else-security-le-UNIT_LIMIT v ↦ test-fails _ _ (lt-leb (s.effective + s.arriving) 1000000000000 (omega (arith, v.if-security-le-UNIT_LIMIT.false)))
      ]
    ]
