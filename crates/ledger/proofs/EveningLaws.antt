-- The evening: securities that arrive one after another, an application's test by its parts, one kind looked at and written back, and what
-- each application keeps.
-- Assumes nothing.
use Rattle.std.specs.Prelude.{◌≡◌, ℕ, zero, suc, ◌+◌, ◌-◌, ◌<◌, ◌≤◌, Bool, true, false, cond, List, [], ◌∷◌, map, length, get_or, set, take}
use Rattle.std.specs.List.{zip}
use Rattle.std.specs.Bool.{then_some}
use Rattle.std.specs.Option.{MatchOption}
use Rattle.std.proofs.lemmas.List.{get_or-take}
use Rattle.std.proofs.lemmas.Slice.Zip.{length-zip, get_or-zip}
use Rattle.std.proofs.lemmas.Grind.{get_or_default_zero}
use mathlib.Core.Path.{refl, sym, ap, ◌∙◌}
use native.Mathlib.Decide.{ℕ_discrete}
use native.Mathlib.Numerals.{add-one}
use native.Mathlib.Omega.{arith}
use borrow.Author.Tests.{le-leb, lt-leb, eq-eqb, ne_eqb}
use lib.ListN.{length-take}
use Rattle.money.specs.Units.{fen}
use Rattle.money.specs.declared.units.Sheets.{Sheets}
use Rattle.money.specs.Limits.{cash_limit}
use Rattle.money.specs.Collateral.{rate_of, unit_limit_of, kind_value}
use Rattle.rules.specs.Folds.{in_turn}
use Rattle.rules.specs.Book.{no_security}
use Rattle.rules.specs.Vault.{security_at, is_cash, effective_of, frozen_of, value}
use Rattle.rules.specs.Close.{Evening, fewer, fewer_cash, taken_out, covers, may_go, done_one, settle_one, settled}
use Rattle.rules.proofs.FoldLaws.{by-test, in-turn-keeps, at_set}
use Rattle.rules.proofs.EveningFit.{gone}
use Rattle.rules.proofs.FitParts.{SecurityFits, SecuritiesFit, fit-securities}
use Rattle.ledger.specs.Types.{Security, Guarantee, Vault, Withdrawals}
use Rattle.ledger.specs.Figures.{value_bound}
use Rattle.ledger.specs.Flat.{vault_of, securities_of}
use Rattle.ledger.proofs.VaultLaws.{Sound, value_at, kind_fits, value-at-part, value-bound-of, value-changed}

-- ---- a list of which the first places are mapped

module _ {A : Type 0} (f : A → A) where
  unfoldable pub map_below : ℕ → List A → List A
  map_below zero l = l
  map_below (suc n) [] = []
  map_below (suc n) (a ∷ l) = f a ∷ map_below n l

  pub map-none : (l : List A) → map_below 0 l ≡ l
  unfolding map_below
  map-none l = refl

  -- the places from n on are as they were
  pub still-there : (n : ℕ) (l : List A) (d : A) → get_or (map_below n l) n d ≡ get_or l n d
  unfolding map_below
  still-there zero l d = refl
  still-there (suc n) [] d = refl
  still-there (suc n) (a ∷ l) d = still-there n l d

  map_next : (n : ℕ) (l : List A) (d : A) → n < length l → set (map_below n l) n (f (get_or l n d)) ≡ map_below (suc n) l
  unfolding map_below
  map_next n [] d h = absurd (omega arith)
  map_next zero (a ∷ l) d h = refl
  map_next (suc n) (a ∷ l) d h = ap (λ rest. f a ∷ rest) (map_next n l d (omega arith))

  pub map_more : (n : ℕ) (l : List A) (d : A) → n < length l → set (map_below n l) n (f (get_or l n d)) ≡ map_below (n + 1) l
  map_more n l d h = rw add-one (map_next n l d h)

  pub map-all : (l : List A) → map_below (length l) l ≡ map f l
  unfolding map_below
  map-all [] = refl
  map-all (a ∷ l) = ap (λ rest. f a ∷ rest) (map-all l)

-- ---- an application's test, by its parts in order

module _ (served : Bool) (claims kind units : ℕ) (vault : Vault) where
  pub unserved : served ≡ false → may_go served claims kind units vault ≡ false
  unfolding may_go
  unserved e = rw e

  pub frozen-stay : served ≡ true → effective_of vault kind < frozen_of vault kind + units → may_go served claims kind units vault ≡ false
  unfolding may_go
  frozen-stay e h = rw (e, lt-leb (frozen_of vault kind + units) (effective_of vault kind) h)

  uncovered : served ≡ true → frozen_of vault kind + units ≤ effective_of vault kind → covers (value (taken_out kind units vault)) claims ≡ false → may_go served claims kind units vault ≡ false
  unfolding may_go
  uncovered e h k = rw (e, le-leb (frozen_of vault kind + units) (effective_of vault kind) h, k)

  may-go : served ≡ true → frozen_of vault kind + units ≤ effective_of vault kind → covers (value (taken_out kind units vault)) claims ≡ true → may_go served claims kind units vault ≡ true
  unfolding may_go
  may-go e h k = rw (e, le-leb (frozen_of vault kind + units) (effective_of vault kind) h, k)

  -- and by V afterwards, in whole
  pub judged-so : (covered : Bool) (after : Sheets) → served ≡ true → frozen_of vault kind + units ≤ effective_of vault kind → after.0 ≡ value (taken_out kind units vault) → covered ≡ covers after.0 claims
      → MatchOption (then_some covered after) (may_go served claims kind units vault ≡ false) (λ left. (may_go served claims kind units vault ≡ true) × (left.0 ≡ value (taken_out kind units vault)))
  judged-so true after e h a k = (may-go e h (rw a at (sym k)), a)
  judged-so false after e h a k = uncovered e h (rw a at (sym k))

  -- what goes was unfrozen
  pub unfrozen : may_go served claims kind units vault ≡ true → frozen_of vault kind + units ≤ effective_of vault kind
  unfrozen e = (gone served claims kind units vault e).unfrozen

-- ---- one kind looked at, and written back with units less

-- what is had of a kind, as a security
pub record Held (vault : Vault) (kind : ℕ) (had : Security) : Type 0 where
  pub effective : had.effective ≡ effective_of vault kind
  pub frozen : had.frozen ≡ frozen_of vault kind
  pub rate : had.rate ≡ (security_at vault kind).rate

module _ (vault : Vault) (kind : ℕ) (had : Security) where
  -- what the code asks for before it judges by what is had
  pub held_fits : (v : ℕ) → Sound vault → kind ≤ 32 → Held vault kind had → v ≡ value vault
      → (had.frozen ≤ had.effective) × (had.effective ≤ unit_limit_of kind) × (rate_of kind had.rate ≤ 20000)
      × ((kind_value kind had.effective had.frozen had.rate).0 ≤ v) × (v ≤ value_bound)
  held_fits v sound h held e =
      let fits = kind_fits vault sound kind h in
      rw (held.effective, held.frozen, held.rate, e) (fits.free, fits.within, fits.rate, value-at-part vault sound kind h, value-bound-of vault sound)

  -- V afterwards, by the kind's value before and after
  pub value_after : (units v : ℕ) (with without : Sheets) → Held vault kind had → kind ≤ 32 → length vault.securities ≡ 32 → v ≡ value vault
      → (kind_value kind had.effective had.frozen had.rate).0 ≤ v → with ≡ kind_value kind had.effective had.frozen had.rate → without ≡ kind_value kind (had.effective - units) had.frozen had.rate
      → v - with.0 + without.0 ≡ value (taken_out kind units vault)
  value_after units v with without held h full e part w wo =
      let was : with.0 ≡ value_at vault kind = rw (held.effective, held.frozen, held.rate) at (ap (λ (s : Sheets). s.0) w) in
      let now = rw (held.effective, held.frozen, held.rate) at (ap (λ (s : Sheets). s.0) wo) in
      omega (arith, was, now, e, part, ap (λ (s : Sheets). s.0) w, value-changed vault kind units h full)

  pub security-taken : (units : ℕ) → kind < 32 → had ≡ security_at vault kind → record { guarantee = vault.guarantee; securities = set vault.securities kind (fewer units had) } ≡ taken_out kind units vault
  unfolding taken_out
  security-taken units h e = rw (e, ne_eqb kind 32 (λ q. omega arith))

pub cash-taken : (vault : Vault) (kind units had : ℕ) → kind ≡ 32 → had ≡ vault.guarantee.effective.0
    → record { guarantee = record { effective = fen (had - units); arriving = vault.guarantee.arriving; frozen = vault.guarantee.frozen }; securities = vault.securities } ≡ taken_out kind units vault
unfolding taken_out
cash-taken vault kind units had h e = rw (eq-eqb kind 32 h, e)

-- ---- what each application keeps

-- a sound vault, and own with its cash within the limit
pub record Kept (evening : Evening) : Type 0 where
  pub securities : SecuritiesFit evening.vault
  pub free : evening.vault.guarantee.frozen.0 ≤ evening.vault.guarantee.effective.0
  pub cash : evening.own.0 + evening.vault.guarantee.effective.0 ≤ cash_limit

pub sound-of : (evening : Evening) → Kept evening → Sound evening.vault
sound-of evening kept = (fit-securities evening.vault kept.securities, kept.free, omega (arith, kept.cash))

module _ (kind units : ℕ) (evening : Evening) (kept : Kept evening) (enough : frozen_of evening.vault kind + units ≤ effective_of evening.vault kind) where
  securities-kept : SecuritiesFit (taken_out kind units evening.vault)
  unfolding taken_out
  securities-kept j h = by (ℕ_discrete kind 32)
    where
      by : Dec (kind ≡ 32) → SecurityFits (security_at (taken_out kind units evening.vault) j)
      by (yes e) = rw (eq-eqb kind 32 e) (kept.securities j h)
      by (no other) =
          let security = ne_eqb kind 32 other in
          let enough' = rw security at enough in
          rw security
          (at_set SecurityFits evening.vault.securities kind j (fewer units (security_at evening.vault kind)) no_security
          (λ e. let fits = kept.securities kind (omega arith) in record { units = omega (arith, fits.units); rate = fits.rate; free = omega arith })
          (record { units = omega arith; rate = omega arith; free = omega arith })
          (λ different. kept.securities j h))

  done-keeps : Kept (done_one kind units evening)
  unfolding taken_out
  done-keeps =
      record { securities = securities-kept; free = (by_kind (is_cash kind) enough).0; cash = (by_kind (is_cash kind) enough).1 }
    where
      guarantee : Bool → Guarantee
      guarantee cash = cond cash (fewer_cash units evening.vault.guarantee) evening.vault.guarantee

      by_kind : (cash : Bool)
          → cond cash evening.vault.guarantee.frozen.0 (security_at evening.vault kind).frozen + units ≤ cond cash evening.vault.guarantee.effective.0 (security_at evening.vault kind).effective
          → ((guarantee cash).frozen.0 ≤ (guarantee cash).effective.0)
          × (cond cash (evening.own.0 + units) evening.own.0 + (guarantee cash).effective.0 ≤ cash_limit)
      by_kind true h = (omega arith, omega (arith, kept.cash))
      by_kind false h = (kept.free, kept.cash)

module _ (served : Bool) (claims kind units : ℕ) (evening : Evening) where
  pub settled-keeps : Kept evening → Kept (settled served claims kind units evening)
  settled-keeps kept =
      by-test (λ goes. Kept (settle_one goes kind units evening)) (may_go served claims kind units evening.vault)
      (λ goes. done-keeps kind units evening kept (unfrozen served claims kind units evening.vault goes))
      (λ stays. record { securities = kept.securities; free = kept.free; cash = kept.cash })

  settled-counts : (settled served claims kind units evening).done + (settled served claims kind units evening).dropped ≡ evening.done + evening.dropped + 1
  settled-counts =
      by-test (λ goes. (settle_one goes kind units evening).done + (settle_one goes kind units evening).dropped ≡ evening.done + evening.dropped + 1)
      (may_go served claims kind units evening.vault) (λ goes. omega arith) (λ stays. omega arith)

-- ---- the applications in order

module _ (served : Bool) (claims : ℕ) (withdrawals : Withdrawals) where
  -- what the application at a place does
  abbrev pub turn : ℕ → Evening → Evening
  turn i = settled served claims (get_or withdrawals.kinds i 0) (get_or withdrawals.units i 0)

  module _ (evening : Evening) where
    pub turns-keep : (n : ℕ) → Kept evening → Kept (in_turn n turn evening)
    turns-keep n kept =
        in-turn-keeps Kept n turn evening (λ i e. settled-keeps served claims (get_or withdrawals.kinds i 0) (get_or withdrawals.units i 0) e) kept

    pub turns-count : (n : ℕ) → (in_turn n turn evening).done + (in_turn n turn evening).dropped ≡ evening.done + evening.dropped + n
    unfolding in_turn
    turns-count zero = omega arith
    turns-count (suc n) =
        omega (arith, turns-count n, settled-counts served claims (get_or withdrawals.kinds n 0) (get_or withdrawals.units n 0) (in_turn n turn evening))

-- ---- the evening that lent rows and the code's numbers make up

-- the vault and the applications of lent rows
abbrev pub vault_from : List ℕ → Guarantee → Vault
vault_from held guarantee = vault_of guarantee (securities_of held)

abbrev pub asked : List ℕ → List ℕ → ℕ → Withdrawals
asked kinds units count = record { kinds = kinds; units = units; count = count }

abbrev pub made : ℕ → Vault → ℕ → ℕ → Evening
made own vault done dropped = record { own = fen own; vault = vault; done = done; dropped = dropped }

-- ---- the application that an iterator over both rows has come to

pub record Come (kinds units : List ℕ) (count place kind amount : ℕ) : Type 0 where
  pub below : place < count
  pub kind-is : kind ≡ get_or kinds place 0
  pub amount-is : amount ≡ get_or units place 0

pub come : (kinds units : List ℕ) (count place kind amount : ℕ) → count ≤ length kinds → count ≤ length units
    → place < length (zip (take count kinds) (take count units)) → (kind, amount) ≡ get_or (zip (take count kinds) (take count units)) place (kind, amount) → Come kinds units count place kind amount
come kinds units count place kind amount k u h e =
    let below : place < count = omega (arith, h, length-zip (take count kinds) (take count units), length-take count kinds, length-take count units) in
    let in_kinds : place < length (take count kinds) = omega (arith, length-take count kinds) in
    let in_units : place < length (take count units) = omega (arith, length-take count units) in
    let kinds_long : place < length kinds = omega arith in
    let units_long : place < length units = omega arith in
    let at : (kind, amount) ≡ (get_or (take count kinds) place kind, get_or (take count units) place amount) =
    e ∙ get_or-zip (take count kinds) (take count units) place (kind, amount) in_kinds in_units in
    record {
      below = below;
      kind-is = ap (λ (p : ℕ × ℕ). p.0) at ∙ get_or-take count kinds place kind below ∙ get_or_default_zero kinds place kind kinds_long;
      amount-is = ap (λ (p : ℕ × ℕ). p.1) at ∙ get_or-take count units place amount below ∙ get_or_default_zero units place amount units_long;
    }
