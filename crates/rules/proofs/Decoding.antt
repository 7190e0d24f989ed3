-- The number of what bytes decode to is that of the causes: 2 exactly where the code is none, the account is none, or a field strays.
-- For the decoder's promise. Assumes nothing.
use mathlib.Core.Path.{◌≡◌, refl}
use mathlib.Core.Bool.{Bool, true, false, not, cond, ◌&&◌, ◌||◌}
use mathlib.Core.List.{List, [], ◌∷◌, map}
use mathlib.Core.Option.{some}
use Prim.Native.Nat.{ℕ, ◌+◌, ◌≤◌}
use native.Mathlib.Omega.{arith}
use borrow.Author.Tests.{eqb-true, eqb-false, ne_eqb, leb-true, lt-leb}
use lib.Dec.{leb, eqb}
use lib.ListN.{length}
use Rattle.money.specs.Causes.{Cause, ◌⇒◌, first_of, number_of}
use Rattle.money.specs.Units.{fen}
use Rattle.rules.specs.Entry.{Account, Own, Client, Event, FundIn, FundOut, Entry, None, Fields, fields_of, rest_of, unless, on_account, entry_of, decoded, entry_number, among, field_causes, decoding_causes, IsEntryOf}
use Rattle.rules.proofs.FoldLaws.{by-test}

-- ---- an event and the fields that it does not use

abbrev straying : List ℕ → List Cause
straying unused = map (λ field. not (eqb field 0) ⇒ 2) unused

unless-number : (event : Event) (unused : List ℕ) → entry_number (unless event unused) ≡ number_of (first_of (straying unused))
unfolding unless first_of
unless-number event [] = refl
unless-number event (field ∷ unused) =
    by-test
    (λ zero. entry_number (cond zero (unless event unused) None) ≡ number_of (cond (not zero) (some 2) (first_of (straying unused))))
    (eqb field 0)
    (λ e. unless-number event unused)
    (λ e. refl)

client-number : (event : Event) (unused : List ℕ) (client : Bool)
    → entry_number (cond client (unless event unused) None) ≡ number_of (cond (not client) (some 2) (first_of (straying unused)))
client-number event unused true = unless-number event unused
client-number event unused false = refl

account-number : (account : ℕ) (event : Account → Event) (unused : List ℕ)
    → entry_number (on_account account event unused) ≡ number_of (first_of ((not (eqb account 0 || eqb account 1) ⇒ 2) ∷ straying unused))
unfolding first_of
account-number account event unused =
    by-test
    (λ own. entry_number (cond own (unless (event Own) unused) (cond (eqb account 1) (unless (event Client) unused) None))
    ≡ number_of (cond (not (own || eqb account 1)) (some 2) (first_of (straying unused))))
    (eqb account 0)
    (λ e. unless-number (event Own) unused)
    (λ e. client-number (event Client) unused (eqb account 1))

-- ---- the thirteen codes, and none of them

abbrev Not : (code k : ℕ) → Type 0
Not code k = code ≡ k → ⊥

past : {code : ℕ} (k : ℕ) → k ≤ code → Not code k → k + 1 ≤ code
past k low n = omega arith

no_code : (code : ℕ) → Not code 1 → Not code 2 → Not code 3 → Not code 4 → Not code 5 → Not code 6
    → Not code 7 → Not code 8 → Not code 9 → Not code 10 → Not code 11 → Not code 12 → Not code 13 → among 1 13 code ≡ false
no_code code n1 n2 n3 n4 n5 n6 n7 n8 n9 n10 n11 n12 n13 =
    by-test (λ x. (x && leb code 13) ≡ false) (leb 1 code)
    (λ low. lt-leb code 13 (at-least-14 low))
    (λ e. refl)
  where
    at-least-7 : leb 1 code ≡ true → 7 ≤ code
    at-least-7 low = past 6 (past 5 (past 4 (past 3 (past 2 (past 1 (leb-true 1 code low) n1) n2) n3) n4) n5) n6

    at-least-14 : leb 1 code ≡ true → 14 ≤ code
    at-least-14 low = past 13 (past 12 (past 11 (past 10 (past 9 (past 8 (past 7 (at-least-7 low) n7) n8) n9) n10) n11) n12) n13

module _ (f : Fields) where
  Right : Type 0
  Right = entry_number (entry_of f) ≡ number_of (first_of (field_causes f))

  -- its event is right, or it is another's
  by : (k : ℕ) → (f.code ≡ k → Right) → (Not f.code k → Right) → Right
  by k is isnt = by-test (λ x. Right) (eqb f.code k) (λ e. is (eqb-true f.code k e)) (λ e. isnt (eqb-false f.code k e))

  none : Not f.code 1 → Not f.code 2 → Not f.code 3 → Not f.code 4 → Not f.code 5 → Not f.code 6
      → Not f.code 7 → Not f.code 8 → Not f.code 9 → Not f.code 10 → Not f.code 11 → Not f.code 12 → Not f.code 13 → Right
  unfolding Right entry_of field_causes first_of
  none n1 n2 n3 n4 n5 n6 n7 n8 n9 n10 n11 n12 n13 =
      rw (ne_eqb f.code 1 n1, ne_eqb f.code 2 n2, ne_eqb f.code 3 n3, ne_eqb f.code 4 n4, ne_eqb f.code 5 n5, ne_eqb f.code 6 n6)
      (rw (ne_eqb f.code 7 n7, ne_eqb f.code 8 n8, ne_eqb f.code 9 n9, ne_eqb f.code 10 n10, ne_eqb f.code 11 n11, ne_eqb f.code 12 n12, ne_eqb f.code 13 n13)
      (rw (no_code f.code n1 n2 n3 n4 n5 n6 n7 n8 n9 n10 n11 n12 n13) refl))

  pub fields-number : entry_number (entry_of f) ≡ number_of (first_of (field_causes f))
  unfolding Right entry_of field_causes first_of
  fields-number =
      by 1 (λ e. rw e (unless-number _ _)) (λ n1.
      by 2 (λ e. rw e (account-number f.kind (λ account. FundIn account (fen f.amount)) (rest_of f))) (λ n2.
      by 3 (λ e. rw e (account-number f.kind (λ account. FundOut account (fen f.amount)) (rest_of f))) (λ n3.
      by 4 (λ e. rw e (unless-number _ _)) (λ n4.
      by 5 (λ e. rw e (unless-number _ _)) (λ n5.
      by 6 (λ e. rw e (unless-number _ _)) (λ n6.
      by 7 (λ e. rw e (unless-number _ _)) (λ n7.
      by 8 (λ e. rw e (unless-number _ _)) (λ n8.
      by 9 (λ e. rw e (unless-number _ _)) (λ n9.
      by 10 (λ e. rw e (unless-number _ _)) (λ n10.
      by 11 (λ e. rw e (unless-number _ _)) (λ n11.
      by 12 (λ e. rw e (unless-number _ _)) (λ n12.
      by 13 (λ e. rw e (unless-number _ _)) (λ n13.
      none n1 n2 n3 n4 n5 n6 n7 n8 n9 n10 n11 n12 n13)))))))))))))

whole-number : (bytes : List ℕ) (whole : Bool)
    → entry_number (cond whole (entry_of (fields_of bytes)) None) ≡ number_of (cond (not whole) (some 2) (first_of (field_causes (fields_of bytes))))
whole-number bytes true = fields-number (fields_of bytes)
whole-number bytes false = refl

pub decoded-number : (bytes : List ℕ) {entry : Entry} → entry ≡ decoded bytes → IsEntryOf bytes entry
unfolding decoded decoding_causes first_of
decoded-number bytes e = (e, rw e (whole-number bytes (eqb (length bytes) 40)))
