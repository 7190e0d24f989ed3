use Rattle.std.proofs.Common.{rules, arith, ◌≡◌, ℕ, ◌<◌, ◌≤◌, ◌+◌, List, refl, sym, ap, ◌∙◌, length}
use Rattle.std.specs.Prelude.{get_or}
use Rattle.money.specs.Limits.{unit_limit}
use Rattle.rules.specs.Book.{no_security}
use Rattle.rules.specs.Close.{security_arrived}
use Rattle.rules.proofs.FitParts.{securities-fit}
use Rattle.ledger.specs.Flat.{security_in, securities_of}
use Rattle.ledger.proofs.HeldLaws.{length-securities, security-below}
use Rattle.ledger.proofs.EveningLaws.{map_below, map-none, map_more, map-all, still-there}
use Rattle.ledger.proofs.evening.all_arrived.Goals as goal

-- the security at hand is as it was before
as-before : (held before : List ℕ) (kind : ℕ) → kind < 32 → securities_of held ≡ map_below security_arrived kind (securities_of before) → security_in held kind ≡ get_or (securities_of before) kind no_security
as-before held before kind h reached = sym (security-below held 32 kind h) ∙ rw reached (still-there security_arrived kind _ no_security)

pub loop-kind-init : goal.loop-kind-init
loop-kind-init c = (sym (map-none security_arrived _), refl)

pub change-requires : goal.change-requires
change-requires c =
    let loop = c.loop-kind in
    let here = security_in loop.held c.new.result.number in
    let fits : here.effective + here.arriving ≤ unit_limit =
    rw (c.new.ensures, as-before loop.held _ loop.kind c.loop-kind-test.true loop.invariant.0) (securities-fit _ c.requires loop.kind c.loop-kind-test.true).units in
    search rules

pub loop-kind-preserved : goal.loop-kind-preserved
loop-kind-preserved c =
    let loop = c.loop-kind in
    let before = securities_of c.args.held.now in
    let changed = c.change.ensures in
    let made : changed.0 ≡ security_arrived (security_in loop.held c.new.result.number) = search rules in
    let at-hand = as-before loop.held c.args.held.now loop.kind c.loop-kind-test.true loop.invariant.0 in (
      changed.2 ∙ rw (made, c.new.ensures, at-hand, loop.invariant.0) (map_more security_arrived loop.kind before no_security (omega (arith, length-securities c.args.held.now 32))),
      changed.3 ∙ loop.invariant.1,
    )

pub returns : goal.returns
returns c =
    let before = securities_of c.args.held.now in
    let e : c.loop-kind.kind ≡ length before = omega (arith, length-securities c.args.held.now 32) in
    (c.loop-kind.invariant.0 ∙ ap (λ n. map_below security_arrived n before) e ∙ map-all security_arrived before, c.loop-kind.invariant.1)
