use Rattle.std.proofs.Common.{rules, ◌∙◌, ◌≡◌, ap, ℕ, cond, ◌&&◌, None, List, [], ◌∷◌, ◌==◌, refl}
use Rattle.std.specs.Bool.{then_some}
use Rattle.std.specs.List.{list_all}
use Rattle.std.proofs.lemmas.Iterator.{YieldsList-from_slice}
use Rattle.std.proofs.lemmas.Iterator.Search.{all_from_yields_List}
use borrow.Author.Tests.{tests}
use Rattle.rules.specs.declared.event.Event.{Event}
use Rattle.rules.specs.Entry.{unless}
use Rattle.rules.proofs.FoldLaws.{by-test}
use Rattle.decoder.proofs.entry.unless.Goals as goal

-- the tests one by one, as the rule has them
in-turn : (event : Event) (unused : List ℕ) → then_some (list_all (λ field. field == 0) unused) event ≡ unless event unused
unfolding unless
in-turn event [] = refl
in-turn event (field ∷ unused) =
    by-test (λ b. then_some (b && list_all (λ field. field == 0) unused) event ≡ cond b (unless event unused) None) (field == 0) (λ z. in-turn event unused) (λ z. refl)

pub returns : goal.returns
returns c =
    let all = all_from_yields_List (λ field. field == 0) _ _ c.all.result c.all.ensures.ran (YieldsList-from_slice c.args.unused.now c.iter.ensures.rest) (λ x b q called. search (rules, tests)) in
    c.then_some.ensures ∙ ap (λ b. then_some b c.args.event) all ∙ in-turn c.args.event c.args.unused.now
