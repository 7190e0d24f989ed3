-- V through an evening: it grows as units arrive and falls as they go, and what it covers once they have arrived it covers at the end.
-- So does the short run go by it. (01, Twelve events, 12; arts. 52, 53, 69)
-- Assumes nothing.
use mathlib.Core.Path.{◌≡◌, refl, sym, ◌∙◌}
use mathlib.Core.Bool.{Bool, false, cond}
use mathlib.Core.List.{List, [], ◌∷◌}
use Prim.Native.Nat.{ℕ, zero, suc, ◌-◌, ◌*◌, ◌≤◌, ◌<◌, min}
use native.Mathlib.Omega.{arith}
use borrow.Author.Tests.{le-ltb}
use lib.ListN.{get_or, set, get_or-map}
use Rattle.money.specs.Units.{sheet_fen}
use Rattle.money.specs.Collateral.{rate_of, kind_value}
use Rattle.money.proofs.Bounds.{product}
use Rattle.rules.specs.Folds.{sum_below}
use Rattle.rules.specs.Book.{Security, Guarantee, Vault, Book, no_security}
use Rattle.rules.specs.Trades.{Trade, outstanding}
use Rattle.rules.specs.Vault.{security_at, is_cash, effective_of, frozen_of, value}
use Rattle.rules.specs.Close.{Evening, security_arrived, all_arrived, fewer, fewer_cash, taken_out, may_go, settle_one, settled, served, evening, is_short_close}
use Rattle.rules.proofs.FoldLaws.{by-test}
use Rattle.rules.proofs.EveningFit.{over-evening}
use Rattle.rules.proofs.UnpaidLaws.{evening-covered}

-- ---- V falls where effective units do

sums-fall : (n : ℕ) (f g : ℕ → ℕ) → ((k : ℕ) → f k ≤ g k) → sum_below n f ≤ sum_below n g
unfolding sum_below
sums-fall zero f g h = omega arith
sums-fall (suc n) f g h = omega (arith, h n, sums-fall n f g h)

kind-falls : (kind less effective frozen rate : ℕ) → less ≤ effective → (kind_value kind less frozen rate).0 ≤ (kind_value kind effective frozen rate).0
unfolding kind_value
kind-falls kind less effective frozen rate h =
    let free : less - frozen ≤ effective - frozen = omega arith in
    let same : rate_of kind rate ≤ rate_of kind rate = omega arith in
    omega (arith, product (less - frozen) (rate_of kind rate) free same)

-- a security with fewer effective units, or as it was; guarantee cash likewise
record FewerUnits (after before : Security) : Type 0 where
  effective : after.effective ≤ before.effective
  frozen : after.frozen ≡ before.frozen
  rate : after.rate ≡ before.rate

record FewerCash (after before : Guarantee) : Type 0 where
  effective : after.effective.0 ≤ before.effective.0
  frozen : after.frozen ≡ before.frozen

-- V where every kind has fewer effective units, or as many
value-less : (after before : Vault) → ((j : ℕ) → FewerUnits (security_at after j) (security_at before j)) → FewerCash after.guarantee before.guarantee
    → value after ≤ value before
unfolding value
value-less after before securities guarantee = sums-fall 33 _ _ each
  where
    each : (j : ℕ) → (kind_value j (effective_of after j) (frozen_of after j) (security_at after j).rate).0
        ≤ (kind_value j (effective_of before j) (frozen_of before j) (security_at before j).rate).0
    each j =
        let frozen : Bool → ℕ = λ cash. cond cash before.guarantee.frozen.0 (security_at before j).frozen in
        rw ((securities j).rate, (securities j).frozen, guarantee.frozen)
        (by-test (λ cash.
        (kind_value j (cond cash after.guarantee.effective.0 (security_at after j).effective) (frozen cash) (security_at before j).rate).0
        ≤ (kind_value j (cond cash before.guarantee.effective.0 (security_at before j).effective) (frozen cash) (security_at before j).rate).0)
        (is_cash j) (λ _. kind-falls j _ _ _ _ guarantee.effective) (λ _. kind-falls j _ _ _ _ (securities j).effective))

-- ---- where units go, and where they arrive

as_it_was : (security : Security) → FewerUnits security security
as_it_was security = record { effective = omega arith; frozen = refl; rate = refl }

set-fewer : (securities : List Security) (i j : ℕ) (security : Security) → FewerUnits security (get_or securities i no_security) → FewerUnits (get_or (set securities i security) j no_security) (get_or securities j no_security)
set-fewer [] i j security h = as_it_was no_security
set-fewer (x ∷ securities) zero zero security h = h
set-fewer (x ∷ securities) zero (suc j) security h = as_it_was (get_or securities j no_security)
set-fewer (x ∷ securities) (suc i) zero security h = as_it_was x
set-fewer (x ∷ securities) (suc i) (suc j) security h = set-fewer securities i j security h

module _ (kind units : ℕ) (vault : Vault) where
  security-fewer : (j : ℕ) → FewerUnits (security_at (taken_out kind units vault) j) (security_at vault j)
  unfolding taken_out
  security-fewer j =
      by-test (λ cash. FewerUnits (get_or (cond cash vault.securities (set vault.securities kind (fewer units (security_at vault kind)))) j no_security) (security_at vault j)) (is_cash kind)
      (λ _. as_it_was (security_at vault j))
      (λ _. set-fewer vault.securities kind j (fewer units (security_at vault kind)) (record { effective = omega arith; frozen = refl; rate = refl }))

  guarantee-fewer : FewerCash (taken_out kind units vault).guarantee vault.guarantee
  unfolding taken_out
  guarantee-fewer =
      by-test (λ cash. FewerCash (cond cash (fewer_cash units vault.guarantee) vault.guarantee) vault.guarantee) (is_cash kind)
      (λ _. record { effective = omega arith; frozen = refl }) (λ _. record { effective = omega arith; frozen = refl })

  value-falls : value (taken_out kind units vault) ≤ value vault
  value-falls = value-less (taken_out kind units vault) vault security-fewer guarantee-fewer

pub value-arrives : (vault : Vault) → value vault ≤ value (all_arrived vault)
unfolding all_arrived
value-arrives vault = value-less vault (all_arrived vault) arrives (record { effective = omega arith; frozen = refl })
  where
    arrives : (j : ℕ) → FewerUnits (security_at vault j) (security_at (all_arrived vault) j)
    arrives j = rw (get_or-map security_arrived vault.securities j no_security) (record { effective = omega arith; frozen = refl; rate = refl })

-- ---- an evening that lets anything go covers what is claimed, and one that lets nothing go has the vault as it arrived

module _ (book : Book) (claims : ℕ) where
  abbrev arrived : Vault
  arrived = all_arrived book.vault

  evening-falls : value (evening book claims).vault ≤ value arrived
  evening-falls = over-evening book claims (λ e. value e.vault ≤ value arrived) falls (omega arith)
    where
      falls : (kind units : ℕ) (e : Evening) → value e.vault ≤ value arrived → value (settled (served book.standing) claims kind units e).vault ≤ value arrived
      falls kind units e h =
          by-test (λ goes. value (settle_one goes kind units e).vault ≤ value arrived) (may_go (served book.standing) claims kind units e.vault)
          (λ _. omega (arith, value-falls kind units e.vault)) (λ _. h)

  evening-idle : (evening book claims).done ≡ 0 → (evening book claims).vault ≡ arrived
  evening-idle = over-evening book claims (λ e. e.done ≡ 0 → e.vault ≡ arrived) idle (λ _. refl)
    where
      idle : (kind units : ℕ) (e : Evening) → (e.done ≡ 0 → e.vault ≡ arrived) → (settled (served book.standing) claims kind units e).done ≡ 0 → (settled (served book.standing) claims kind units e).vault ≡ arrived
      idle kind units e h =
          by-test (λ goes. (settle_one goes kind units e).done ≡ 0 → (settle_one goes kind units e).vault ≡ arrived) (may_go (served book.standing) claims kind units e.vault)
          (λ _ none. absurd (omega arith)) (λ _. h)

  module _ (sheets : ℕ) (claimed : sheet_fen * sheets ≤ claims) where
    -- where anything goes, V has the sheets, and had them as the evening began
    arrived-enough : 0 < (evening book claims).done → sheets ≤ value arrived
    arrived-enough some-went = omega (arith, evening-covered book claims some-went, evening-falls)

    pub left-enough : sheets ≤ value arrived → sheets ≤ value (evening book claims).vault
    left-enough h = go (evening book claims).done refl
      where
        go : (done : ℕ) → (evening book claims).done ≡ done → sheets ≤ value (evening book claims).vault
        go zero e = rw (evening-idle e) h
        go (suc done) e = omega (arith, evening-covered book claims (omega arith))

-- ---- the short run

pub not_short : (book : Book) (left : List Trade) (vault : Vault) → outstanding left ≤ book.size.0 → outstanding left ≤ value vault → is_short_close book left vault ≡ false
unfolding is_short_close
not_short book left vault s v =
    let most = min book.size.0 (value vault) in
    let room : outstanding left ≤ most = omega arith in
    rw (le-ltb most (outstanding left) room) (le-ltb (most - outstanding left) 0 (omega arith))

-- whatever more is claimed, the evening ends as short or not
pub short-either-way : (book : Book) (left : List Trade) (claims claims' : ℕ) → outstanding left ≤ book.size.0 → sheet_fen * outstanding left ≤ claims → sheet_fen * outstanding left ≤ claims'
    → is_short_close book left (evening book claims).vault ≡ is_short_close book left (evening book claims').vault
short-either-way book left claims claims' s c c' = go (evening book claims).done (evening book claims').done refl refl
  where
    neither-short : outstanding left ≤ value (all_arrived book.vault) → is_short_close book left (evening book claims).vault ≡ is_short_close book left (evening book claims').vault
    neither-short enough =
        not_short book left (evening book claims).vault s (left-enough book claims (outstanding left) c enough)
        ∙ sym (not_short book left (evening book claims').vault s (left-enough book claims' (outstanding left) c' enough))

    go : (done done' : ℕ) → (evening book claims).done ≡ done → (evening book claims').done ≡ done' → is_short_close book left (evening book claims).vault ≡ is_short_close book left (evening book claims').vault
    go zero zero e e' = rw (evening-idle book claims e, evening-idle book claims' e')
    go (suc done) done' e e' = neither-short (arrived-enough book claims (outstanding left) c (omega arith))
    go zero (suc done') e e' = neither-short (arrived-enough book claims' (outstanding left) c' (omega arith))
