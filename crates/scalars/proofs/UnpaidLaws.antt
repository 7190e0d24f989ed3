-- U against its limit. For the sums that keep to it. Assumes nothing.
use mathlib.Core.Path.{◌≡◌, sym}
use mathlib.Core.Bool.{false, not}
use Prim.Native.Nat.{ℕ, ◌+◌, ◌≤◌}
use native.Mathlib.Omega.{arith}
use borrow.Author.Tests.{ltb-true, ltb-false, lt-leb, le-leb}
use lib.Dec.{leb}
use Rattle.rules.specs.Limits.{net_limit}
use Rattle.rules.specs.Unpaid.{unpaid_sum, passes}
use Rattle.rules.specs.declared.book.Unpaid.{Unpaid}
use Rattle.scalars.specs.Scalars.{unless_past}
use Rattle.rules.proofs.FoldLaws.{by-test}

module _ (unpaid : Unpaid) (amount : ℕ) where
  -- where it does not pass, every sum stays within the limit
  pub within : passes amount unpaid ≡ false → unpaid_sum unpaid + amount ≤ net_limit
  within h = ltb-false net_limit (unpaid_sum unpaid + amount) h

  pub not-past : (after : Unpaid) → passes amount unpaid ≡ false → unless_past amount unpaid after ≡ after
  not-past after h = rw h

-- U itself: with nothing more
pub fit-unless-past : (unpaid : Unpaid) → not (passes 0 unpaid) ≡ leb (unpaid_sum unpaid) net_limit
fit-unless-past unpaid =
    by-test (λ t. not t ≡ leb (unpaid_sum unpaid) net_limit) (passes 0 unpaid)
    (λ t. sym (lt-leb (unpaid_sum unpaid) net_limit (omega (arith, ltb-true net_limit (unpaid_sum unpaid + 0) t))))
    (λ t. sym (le-leb (unpaid_sum unpaid) net_limit (omega (arith, ltb-false net_limit (unpaid_sum unpaid + 0) t))))
