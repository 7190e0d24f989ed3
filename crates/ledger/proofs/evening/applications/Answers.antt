-- Each application goes, or stays: what is had of its kind, what is judged of it, and the evening after its turn.
use Rattle.std.proofs.Common.{arith, sym, ap, ◌∙◌, refl, ◌≡◌, ℕ, ◌+◌, ◌<◌, ◌≤◌, List, ◌∷◌, [], ◌++◌, Bool, true, false, length, length-append, take}
use Rattle.std.specs.Prelude.{cond}
use Rattle.std.proofs.lemmas.Iterator.{YieldsList-from_slice, YieldsList-from_zip}
use Rattle.std.proofs.lemmas.Iterator.Consumers.{YieldsList-turn, YieldsList-end}
use Rattle.std.proofs.lemmas.Slice.Zip.{length-zip}
use borrow.Author.Tests.{eq-eqb, ne_eqb}
use lib.ListN.{length-take}
use Rattle.rules.specs.Folds.{in_turn}
use Rattle.rules.specs.Vault.{security_at, is_cash, value as value_of}
use Rattle.rules.specs.Close.{Evening, taken_out, claims_of, may_go, settled, applications}
use Rattle.rules.proofs.FitParts.{ApplicationFits, securities-fit, withdrawals-fit}
use Rattle.ledger.specs.Types.{Vault, Withdrawals}
use Rattle.ledger.specs.Kind.{kind_number}
use Rattle.ledger.proofs.KindLaws.{number_known, found-known}
use Rattle.ledger.specs.Flat.{securities_of, vault_of, evening_at}
use Rattle.ledger.proofs.SumLaws.{turn-none, turn_more}
use Rattle.ledger.proofs.HeldLaws.{length-securities, security-at-row}
use Rattle.ledger.proofs.EveningLaws.{asked, made, Kept, Come, come, held_fits, security-taken, cash-taken, sound-of, turn, turns-keep, turns-count, unfrozen}
use Rattle.ledger.proofs.evening.applications.Goals as goal
use Rattle.ledger.proofs.evening.applications.Goals.{In-Some, After-unwrap-kind, In-Some-judged}

-- the evening before a turn
module _ (served : Bool) (claims : ℕ) (w : Withdrawals) (first e : Evening) (i : ℕ) (reached : e ≡ in_turn i (turn served claims w) first) where
  kept-of : Kept first → Kept e
  kept-of kept = rw reached (turns-keep served claims w first i kept)

  seen-of : first.done ≡ 0 → first.dropped ≡ 0 → e.done + e.dropped ≡ i
  seen-of d r = omega (arith, ap (λ (e : Evening). e.done + e.dropped) reached, turns-count served claims w first i, d, r)

-- it is the evening after an application that goes, or stays
module _ (served : Bool) (claims kind units : ℕ) (e : Evening) where
  went : {own : ℕ} {vault : Vault} → may_go served claims kind units e.vault ≡ true → own ≡ cond (is_cash kind) (e.own.0 + units) e.own.0
      → vault ≡ taken_out kind units e.vault
      → made own vault (e.done + 1) e.dropped ≡ settled served claims kind units e
  went goes o v = rw (goes, o, v)

  stayed : may_go served claims kind units e.vault ≡ false → made e.own.0 e.vault e.done (e.dropped + 1) ≡ settled served claims kind units e
  stayed stays = rw stays

-- a turn more, with the application that was come to
one-more : {B : Type 0} (served : Bool) (claims count kind amount : ℕ) (kinds units : List ℕ) (first e next : Evening) (ys : List B) (y : B)
    → Come kinds units count (length ys) kind amount
    → e ≡ in_turn (length ys) (turn served claims (asked kinds units count)) first → next ≡ settled served claims kind amount e
    → next ≡ in_turn (length (ys ++ (y ∷ []))) (turn served claims (asked kinds units count)) first
one-more served claims count kind amount kinds units first e next ys y at reached n =
    let turns = turn served claims (asked kinds units count) in
    let more : length (ys ++ (y ∷ [])) ≡ length ys + 1 = length-append ys (y ∷ []) in
    rw (more, turn_more turns first (length ys), ← reached, ← at.kind-is, ← at.amount-is) n

pub shared_ref_as_front-iter : goal.shared_ref_as_front-iter
shared_ref_as_front-iter c = (withdrawals-fit _ c.requires.listed).count

pub loop-kind-init : goal.loop-kind-init
loop-kind-init c = (sym (turn-none _ _), c.requires.begun.4, refl)

-- the application at hand, and the evening before its turn
module _ (c : In-Some) where
  abbrev claims : ℕ
  claims = claims_of c.args.claims.outstanding.0 c.args.claims.unpaid.0

  abbrev before : Evening
  before = evening_at c.loop-kind.evening (securities_of c.loop-kind.held)

  at-hand : Come c.args.kinds.now c.args.units.now c.args.count (length c.loop-kind.yielded) c.in-Some.field-0-0.now c.in-Some.field-0-1.now
  at-hand =
      let a = c.args in
      let few : a.count ≤ 128 = (withdrawals-fit _ c.requires.listed).count in
      let at =
      YieldsList-turn
      (YieldsList-from_zip {s = c.into_iter-kind-iterator.result} (YieldsList-from_slice (take a.count a.kinds.now) (cc)) (YieldsList-from_slice (take a.count a.units.now) (cc)))
      c.loop-kind.yielded c.loop-kind.kind-iterator c.loop-kind.yielded_by c.next.result c.next.new.self _ c.in-Some.is c.next.ensures.steps in
      come a.kinds.now a.units.now a.count _ _ _ (omega (arith, few)) (omega (arith, few)) at.0 at.1

  fits : ApplicationFits c.in-Some.field-0-0.now c.in-Some.field-0-1.now
  fits = rw (at-hand.kind-is, at-hand.amount-is) ((withdrawals-fit _ c.requires.listed).each _ at-hand.below)

  kept : Kept before
  kept =
      kept-of c.args.served claims (asked c.args.kinds.now c.args.units.now c.args.count) _ before _ c.loop-kind.invariant.0
      (record { securities = securities-fit _ c.requires.begun.0; free = c.requires.begun.1; cash = c.requires.begun.3 })

  counted : before.done + before.dropped < 128
  counted =
      omega (
        arith,
        seen-of c.args.served claims (asked c.args.kinds.now c.args.units.now c.args.count) _ before _ c.loop-kind.invariant.0 c.requires.begun.5 c.requires.begun.6,
        at-hand.below,
        (withdrawals-fit _ c.requires.listed).count,
      )

pub unwrap-kind-requires : goal.unwrap-kind-requires
unwrap-kind-requires c = found-known c.try_from.result c.in-Some.field-0-0.now (fits (goal.at.unwrap-kind-requires c).In-Some).known c.try_from.ensures

-- its kind by name
module _ (c : After-unwrap-kind) where
  abbrev number : ℕ
  number = kind_number c.unwrap-kind.result

  named : number ≡ c.in-Some.field-0-0.now
  named = rw c.unwrap-kind.ensures at c.try_from.ensures

  named-at-hand : Come c.args.kinds.now c.args.units.now c.args.count (length c.loop-kind.yielded) c.in-Some.field-0-0.now c.in-Some.field-0-1.now
      → Come c.args.kinds.now c.args.units.now c.args.count (length c.loop-kind.yielded) number c.in-Some.field-0-1.now
  named-at-hand at = record { below = at.below; kind-is = named ∙ at.kind-is; amount-is = at.amount-is }

pub judged-requires : goal.judged-requires
judged-requires c =
    let h = (goal.at.judged-requires c).In-Some in
    let had = c.had_of-had.ensures in
    held_fits (before h).vault _ c.had_of-had.result _ (sound-of (before h) (kept h)) (number_known c.unwrap-kind.result)
    (record { effective = had.units.0; frozen = had.units.1; rate = had.rate }) c.loop-kind.invariant.1

-- what was judged of it, where it goes
module _ (c : In-Some-judged) where
  abbrev vault : Vault
  vault = vault_of c.loop-kind.evening.guarantee (securities_of c.loop-kind.held)

  judged-of : (may_go c.args.served (claims_of c.args.claims.outstanding.0 c.args.claims.unpaid.0) (kind_number c.unwrap-kind.result) c.in-Some.field-0-1.now vault ≡ true)
      × (c.in-Some-judged.after.0 ≡ value_of (taken_out (kind_number c.unwrap-kind.result) c.in-Some.field-0-1.now vault))
  judged-of =
      let had = c.had_of-had.ensures in
      c.in-Some-judged.ensures _ (length-securities c.loop-kind.held 32) had.units.0 had.units.1 had.rate c.loop-kind.invariant.1

pub overflow_add-evening : goal.overflow_add-evening
overflow_add-evening c = omega (arith, counted (goal.at.overflow_add-evening c).In-Some)

pub overflow_sub-effective : goal.overflow_sub-effective
overflow_sub-effective c =
    omega (arith, c.had_of-had.ensures.units.0, unfrozen _ _ _ _ _ (judged-of (goal.at.overflow_sub-effective c).In-Some-judged).0)

pub loop-kind-preserved-in-Security : goal.loop-kind-preserved-in-Security
loop-kind-preserved-in-Security c =
    let h = (goal.at.loop-kind-preserved-in-Security c).In-Some in
    let of = (goal.at.loop-kind-preserved-in-Security c).After-unwrap-kind in
    let went-so = judged-of (goal.at.loop-kind-preserved-in-Security c).In-Some-judged in
    let kind = number of in
    let is : kind ≡ c.in-Security.at.number = ap kind_number c.in-Security.is in
    let amount = c.in-Some.field-0-1.now in
    let evening = c.loop-kind.evening in
    let security : kind < 32 = omega (arith, is, c.in-Security.at.known) in
    let row : c.had_of-had.result ≡ security_at (before h).vault kind =
    c.had_of-had.ensures.security security ∙ sym (security-at-row c.loop-kind.held evening.guarantee kind security) in
    let next : vault_of evening.guarantee (securities_of c.put_security.new.held) ≡ taken_out kind amount (before h).vault =
    ap (vault_of evening.guarantee) (rw (← is) at c.put_security.ensures.0) ∙ security-taken (before h).vault kind c.had_of-had.result amount security row in
    let own : evening.own.0 ≡ cond (is_cash kind) (evening.own.0 + amount) evening.own.0 = rw (ne_eqb kind 32 (λ e. omega arith)) in (
      one-more c.args.served (claims h) _ _ _ _ _ _ (before h) _ c.loop-kind.yielded _ (named-at-hand of (at-hand h)) c.loop-kind.invariant.0
          (went c.args.served (claims h) _ _ (before h) went-so.0 own next),
      went-so.1 ∙ sym (ap value_of next),
      c.put_security.ensures.1 ∙ c.loop-kind.invariant.2,
    )

pub overflow_add-evening-in-Cash : goal.overflow_add-evening-in-Cash
overflow_add-evening-in-Cash c =
    let h = (goal.at.overflow_add-evening-in-Cash c).In-Some in
    omega (arith, (kept h).cash, (fits h).within)

pub loop-kind-preserved-in-Cash : goal.loop-kind-preserved-in-Cash
loop-kind-preserved-in-Cash c =
    let h = (goal.at.loop-kind-preserved-in-Cash c).In-Some in
    let of = (goal.at.loop-kind-preserved-in-Cash c).After-unwrap-kind in
    let went-so = judged-of (goal.at.loop-kind-preserved-in-Cash c).In-Some-judged in
    let kind = number of in
    let cash : kind ≡ 32 = ap kind_number c.in-Cash.is in
    let amount = c.in-Some.field-0-1.now in
    let evening = c.loop-kind.evening in
    let next = cash-taken (before h).vault kind amount c.had_of-had.result.effective cash (rw (eq-eqb kind 32 cash) at c.had_of-had.ensures.units.0) in
    let own : evening.own.0 + amount ≡ cond (is_cash kind) (evening.own.0 + amount) evening.own.0 = rw (eq-eqb kind 32 cash) in (
      one-more c.args.served (claims h) _ _ _ _ _ _ (before h) _ c.loop-kind.yielded _ (named-at-hand of (at-hand h)) c.loop-kind.invariant.0
          (went c.args.served (claims h) _ _ (before h) went-so.0 own next),
      went-so.1 ∙ sym (ap value_of next),
      c.loop-kind.invariant.2,
    )

pub overflow_add-evening-in-None-judged : goal.overflow_add-evening-in-None-judged
overflow_add-evening-in-None-judged c = omega (arith, counted (goal.at.overflow_add-evening-in-None-judged c).In-Some)

pub loop-kind-preserved : goal.loop-kind-preserved
loop-kind-preserved c =
    let h = (goal.at.loop-kind-preserved c).In-Some in
    let of = (goal.at.loop-kind-preserved c).After-unwrap-kind in
    let had = c.had_of-had.ensures in
    let stays = c.in-None-judged.ensures _ (length-securities c.loop-kind.held 32) had.units.0 had.units.1 had.rate c.loop-kind.invariant.1 in (
      one-more c.args.served (claims h) _ _ _ _ _ _ (before h) _ c.loop-kind.yielded _ (named-at-hand of (at-hand h)) c.loop-kind.invariant.0
          (stayed c.args.served (claims h) _ _ (before h) stays),
      c.loop-kind.invariant.1,
      c.loop-kind.invariant.2,
    )

pub returns : goal.returns
unfolding applications
returns c =
    let a = c.args in
    let few : a.count ≤ 128 = (withdrawals-fit _ c.requires.listed).count in
    let end =
    YieldsList-end (YieldsList-from_zip {s = c.into_iter-kind-iterator.result} (YieldsList-from_slice (take a.count a.kinds.now) (cc)) (YieldsList-from_slice (take a.count a.units.now) (cc)))
    c.loop-kind.yielded c.loop-kind.kind-iterator c.loop-kind.yielded_by c.next.result c.next.new.self c.in-None.is c.next.ensures.steps in
    let e : length c.loop-kind.yielded ≡ a.count = omega (arith, end.1, few, length-zip (take a.count a.kinds.now) (take a.count a.units.now), length-take {A = ℕ}) in (
      c.loop-kind.invariant.0 ∙ ap (λ n. in_turn n (turn a.served (claims_of a.claims.outstanding.0 a.claims.unpaid.0) (asked a.kinds.now a.units.now a.count)) (evening_at a.begun (securities_of a.held.now))) e,
      c.loop-kind.invariant.1,
      c.loop-kind.invariant.2,
    )
