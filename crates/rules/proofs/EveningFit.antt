-- The evening's collateral and cash stay fit: what arrives becomes effective, and applications take only unfrozen units. (01, Twelve events, 12)
-- Assumes nothing.
use mathlib.Core.Path.{◌≡◌, refl}
use mathlib.Core.Bool.{Bool, true, false, cond, ◌&&◌}
use Prim.Native.Nat.{ℕ, ◌+◌, ◌*◌, ◌≤◌}
use native.Mathlib.Omega.{arith}
use borrow.Author.Tests.{leb-true}
use lib.Dec.{leb}
use lib.ListN.{get_or, get_or-map}
use Rattle.money.specs.declared.units.Fen.{Fen}
use Rattle.money.specs.Units.{fen, sheet_fen}
use Rattle.rules.specs.Book.{Security, Vault, Book, no_security}
use Rattle.rules.specs.Vault.{security_at, is_cash, effective_of, frozen_of, value}
use Rattle.rules.specs.Close.{Evening, security_arrived, all_arrived, fewer, fewer_cash, taken_out, covers, may_go, settle_one, settled, served, applications, evening}
use Rattle.money.proofs.TwoTests.{both}
use Rattle.rules.proofs.FoldLaws.{by-test, in-turn-keeps}
use Rattle.rules.proofs.FitParts.{SecurityFits, SecuritiesFit, CashFits}
use Rattle.rules.proofs.KeepsFit.{kind-set-fits}

-- the vault and own cash of an evening, beside the client cash that it leaves alone
pub record EveningFits (client : Fen) (evening : Evening) : Type 0 where
  pub securities : SecuritiesFit evening.vault
  pub cash : CashFits (record { own = evening.own; client = client }) evening.vault.guarantee

-- ---- (c)

arrived-fits : (s : Security) → SecurityFits s → SecurityFits (security_arrived s)
arrived-fits s f = record { units = omega (arith, f.units); rate = f.rate; free = omega (arith, f.free) }

pub all-arrived-fit : (client own : Fen) (vault : Vault) (done dropped : ℕ) → SecuritiesFit vault → CashFits (record { own = own; client = client }) vault.guarantee
    → EveningFits client (record { own = own; vault = all_arrived vault; done = done; dropped = dropped })
unfolding all_arrived
all-arrived-fit client own vault done dropped s c = record {
  securities = λ kind h. rw (get_or-map security_arrived vault.securities kind no_security) (arrived-fits (security_at vault kind) (s kind h));
  cash = record { sum = omega (arith, c.sum); free = omega (arith, c.free) };
}

-- ---- (d)

-- units that are unfrozen leave the kind fit, and cash goes to own
taken-fits : (client own : Fen) (vault : Vault) (kind units done dropped : ℕ) → SecuritiesFit vault → CashFits (record { own = own; client = client }) vault.guarantee
    → frozen_of vault kind + units ≤ effective_of vault kind
    → EveningFits client (record { own = fen (cond (is_cash kind) (own.0 + units) own.0); vault = taken_out kind units vault; done = done; dropped = dropped })
unfolding taken_out
taken-fits client own vault kind units done dropped s c h = record {
  securities =
      kind-set-fits vault kind (fewer units (security_at vault kind)) s
      (λ b k. let enough = rw b at h in record { units = omega (arith, (s kind k).units); rate = (s kind k).rate; free = omega arith });
  cash =
      by-test (λ b. CashFits (record { own = fen (cond b (own.0 + units) own.0); client = client }) (cond b (fewer_cash units vault.guarantee) vault.guarantee)) (is_cash kind)
      (λ b. let enough = rw b at h in record { sum = omega (arith, c.sum); free = omega arith }) (λ _. c);
}

-- what goes was unfrozen, and leaves the claims covered
pub record Gone (claims kind units : ℕ) (vault : Vault) : Type 0 where
  pub unfrozen : frozen_of vault kind + units ≤ effective_of vault kind
  pub covered : claims ≤ sheet_fen * value (taken_out kind units vault)

pub gone : (served : Bool) (claims kind units : ℕ) (vault : Vault) → may_go served claims kind units vault ≡ true → Gone claims kind units vault
unfolding may_go
gone served claims kind units vault goes =
    let enough = leb (frozen_of vault kind + units) (effective_of vault kind) in
    let after = value (taken_out kind units vault) in
    let tests = both (served && enough) (covers after claims) goes in
    record {
      unfrozen = leb-true (frozen_of vault kind + units) (effective_of vault kind) (both served enough tests.0).1;
      covered = leb-true claims (sheet_fen * after) tests.1;
    }

settled-fits : (client : Fen) (served : Bool) (claims kind units : ℕ) (e : Evening) → EveningFits client e → EveningFits client (settled served claims kind units e)
settled-fits client served claims kind units e f = go (may_go served claims kind units e.vault) refl
  where
    go : (goes : Bool) → may_go served claims kind units e.vault ≡ goes → EveningFits client (settle_one goes kind units e)
    go true m =
        taken-fits client e.own e.vault kind units (e.done + 1) e.dropped f.securities f.cash (gone served claims kind units e.vault m).unfrozen
    go false m = record { securities = f.securities; cash = f.cash }

-- what each application keeps, the evening keeps
pub over-evening : (book : Book) (claims : ℕ) (P : Evening → Type 0) → ((kind units : ℕ) (e : Evening) → P e → P (settled (served book.standing) claims kind units e))
    → P (record { own = book.cash.own; vault = all_arrived book.vault; done = 0; dropped = 0 }) → P (evening book claims)
unfolding evening applications
over-evening book claims P keeps first =
    in-turn-keeps P book.withdrawals.count (λ i. settled (served book.standing) claims (get_or book.withdrawals.kinds i 0) (get_or book.withdrawals.units i 0)) _
    (λ i e p. keeps (get_or book.withdrawals.kinds i 0) (get_or book.withdrawals.units i 0) e p) first

pub evening-fits : (book : Book) (claims : ℕ) → SecuritiesFit book.vault → CashFits book.cash book.vault.guarantee → EveningFits book.cash.client (evening book claims)
evening-fits book claims s c =
    over-evening book claims (EveningFits book.cash.client) (λ kind units e f. settled-fits book.cash.client (served book.standing) claims kind units e f)
    (all-arrived-fit book.cash.client book.cash.own book.vault 0 0 s c)
