-- Collateral: the test of applications by its parts, what they sum to, V of a sound vault, and V after units of one kind are taken out.
-- Assumes nothing.
use Rattle.std.specs.Prelude.{◌≡◌, ℕ, ◌+◌, ◌-◌, ◌<◌, ◌≤◌, Bool, true, false, cond, eqb, length, get_or}
use mathlib.Core.Path.{refl, sym, ap, ◌∙◌}
use native.Mathlib.Decide.{ℕ_discrete}
use native.Mathlib.Omega.{arith}
use borrow.Author.Tests.{le-leb, lt-leb, eq-eqb, ne_eqb}
use lib.Seq.{get_or-set_same, get_or-set_other}
use Rattle.money.specs.Limits.{cash_limit, rate_limit}
use Rattle.money.specs.Collateral.{rate_of, unit_limit_of, kind_value}
use Rattle.money.proofs.Bounds.{value-bound}
use Rattle.rules.specs.Folds.{sum_below, all_below}
use Rattle.rules.specs.Limits.{application_limit}
use Rattle.rules.specs.Book.{no_security}
use Rattle.rules.specs.Vault.{security_at, effective_of, frozen_of, value}
use Rattle.rules.specs.Fit.{securities_fit, application_fit, withdrawals_fit}
use Rattle.rules.specs.Withdraw.{applied}
use Rattle.rules.specs.Close.{fewer, taken_out}
use Rattle.rules.proofs.FitParts.{securities-fit, withdrawals-fit}
use Rattle.ledger.specs.Types.{Vault, Withdrawals}
use Rattle.ledger.specs.Figures.{value_bound}
use Rattle.ledger.proofs.SumLaws.{sum_bound, sum-part, sum-changed}

-- ---- fit applications, and the units that are applied for

module _ (withdrawals : Withdrawals) where
  abbrev pub application_at : ℕ → Bool
  application_at i = application_fit (get_or withdrawals.kinds i 0) (get_or withdrawals.units i 0)

  -- the units of a kind in the application at a place
  abbrev pub applied_at : ℕ → ℕ → ℕ
  applied_at kind i = cond (eqb (get_or withdrawals.kinds i 0) kind) (get_or withdrawals.units i 0) 0

  pub too_many : application_limit < withdrawals.count → false ≡ withdrawals_fit withdrawals
  unfolding withdrawals_fit
  too_many h = rw (lt-leb withdrawals.count application_limit h)

  pub fit_each : withdrawals.count ≤ application_limit → all_below withdrawals.count application_at ≡ withdrawals_fit withdrawals
  unfolding withdrawals_fit
  fit_each h = rw (le-leb withdrawals.count application_limit h)

  module _ (fits : withdrawals_fit withdrawals ≡ true) where
    pub applied-at-bound : (kind i : ℕ) → i < withdrawals.count → applied_at kind i ≤ cash_limit
    applied-at-bound kind i h = by (eqb (get_or withdrawals.kinds i 0) kind)
      where
        by : (same : Bool) → cond same (get_or withdrawals.units i 0) 0 ≤ cash_limit
        by true = ((withdrawals-fit withdrawals fits).each i h).within
        by false = omega arith

    pub applied-bound : (kind : ℕ) → applied withdrawals kind ≤ 1280000000000000000
    unfolding applied
    applied-bound kind =
        omega (arith, sum_bound cash_limit withdrawals.count (applied_at kind) (applied-at-bound kind), (withdrawals-fit withdrawals fits).count)

-- ---- a vault whose value is defined

-- as the code asks for it
abbrev pub Sound : Vault → Type 0
Sound vault =
    (securities_fit vault ≡ true) × (vault.guarantee.frozen.0 ≤ vault.guarantee.effective.0) × (vault.guarantee.effective.0 ≤ 10000000000000000)

-- a kind's part of V
abbrev pub value_at : Vault → ℕ → ℕ
value_at vault kind = (kind_value kind (effective_of vault kind) (frozen_of vault kind) (security_at vault kind).rate).0

-- V is that of the securities and that of the cash
pub value-parts : (vault : Vault) → value vault ≡ sum_below 32 (value_at vault) + value_at vault 32
unfolding value sum_below
value-parts vault = refl

-- a kind's units and rate are within the limits that its value asks for
pub record KindFits (vault : Vault) (kind : ℕ) : Type 0 where
  pub free : frozen_of vault kind ≤ effective_of vault kind
  pub within : effective_of vault kind ≤ unit_limit_of kind
  pub rate : rate_of kind (security_at vault kind).rate ≤ rate_limit

module _ (vault : Vault) (sound : Sound vault) where
  pub kind_fits : (kind : ℕ) → kind ≤ 32 → KindFits vault kind
  kind_fits kind h = by (ℕ_discrete kind 32)
    where
      by : Dec (kind ≡ 32) → KindFits vault kind
      by (yes e) = let cash = eq-eqb kind 32 e in record { free = rw cash sound.1; within = rw cash sound.2; rate = rw cash (omega arith) }
      by (no other) =
          let security = ne_eqb kind 32 other in
          let fits = securities-fit vault sound.0 kind (omega arith) in
          record { free = rw security fits.free; within = rw security (omega (arith, fits.units)); rate = rw security fits.rate }

  pub value-at-bound : (kind : ℕ) → kind ≤ 32 → value_at vault kind ≤ 2000000000000
  value-at-bound kind h =
      let fits = kind_fits kind h in
      value-bound kind (effective_of vault kind) (frozen_of vault kind) (security_at vault kind).rate fits.within fits.rate

  pub value-at-part : (kind : ℕ) → kind ≤ 32 → value_at vault kind ≤ value vault
  unfolding value
  value-at-part kind h = sum-part 33 kind (value_at vault) (omega arith)

  pub value-bound-of : value vault ≤ value_bound
  unfolding value
  value-bound-of = omega (arith, sum_bound 2000000000000 33 (value_at vault) (λ kind h. value-at-bound kind (omega arith)))

-- ---- units of one kind taken out

module _ (vault : Vault) (kind units : ℕ) where
  other-kind : (j : ℕ) → (j ≡ kind → ⊥) → value_at (taken_out kind units vault) j ≡ value_at vault j
  unfolding taken_out kind_value
  other-kind j other = by (ℕ_discrete kind 32)
    where
      by : Dec (kind ≡ 32) → value_at (taken_out kind units vault) j ≡ value_at vault j
      by (yes e) = rw (eq-eqb kind 32 e, ne_eqb j 32 (λ q. other (q ∙ sym e)))
      by (no security) = rw (ne_eqb kind 32 security, get_or-set_other vault.securities kind j (fewer units (security_at vault kind)) no_security other)

  this-kind : kind ≤ 32 → length vault.securities ≡ 32 → value_at (taken_out kind units vault) kind ≡ (kind_value kind (effective_of vault kind - units) (frozen_of vault kind) (security_at vault kind).rate).0
  unfolding taken_out kind_value
  this-kind h full = by (ℕ_discrete kind 32)
    where
      by : Dec (kind ≡ 32) → value_at (taken_out kind units vault) kind ≡ (kind_value kind (effective_of vault kind - units) (frozen_of vault kind) (security_at vault kind).rate).0
      by (yes e) = rw (eq-eqb kind 32 e)
      by (no security) = rw (ne_eqb kind 32 security, get_or-set_same vault.securities kind (fewer units (security_at vault kind)) no_security (omega arith))

  -- V changes by that kind's value alone
  pub value-changed : kind ≤ 32 → length vault.securities ≡ 32
      → value (taken_out kind units vault) + value_at vault kind
      ≡ value vault + (kind_value kind (effective_of vault kind - units) (frozen_of vault kind) (security_at vault kind).rate).0
  unfolding value
  value-changed h full =
      sum-changed 33 kind (value_at (taken_out kind units vault)) (value_at vault) (omega arith) (λ j l. other-kind j)
      ∙ ap (λ part. sum_below 33 (value_at vault) + part) (this-kind h full)
