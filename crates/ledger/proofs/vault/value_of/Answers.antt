use Rattle.std.proofs.Common.{rules, arith, ap, refl, ◌∙◌, ◌≡◌, ◌+◌, ◌≤◌}
use Rattle.std.proofs.lemmas.Iterator.{YieldsList-from_map, YieldsList-from_range}
use Rattle.std.proofs.lemmas.Iterator.Consumers.{sum_from_yields_List, fits_from_yields_list}
use Rattle.money.specs.declared.units.Sheets.{Sheets}
use Rattle.rules.specs.Folds.{sum_below}
use Rattle.ledger.specs.Types.{Vault}
use Rattle.ledger.specs.Flat.{vault_of, securities_of}
use Rattle.ledger.specs.Figures.{value_bound}
use Rattle.ledger.proofs.RangeLaws.{sum-over}
use Rattle.ledger.proofs.VaultLaws.{value_at, value-parts, value-bound-of}
use Rattle.ledger.proofs.vault.value_of.Goals as goal
use Rattle.ledger.proofs.vault.value_of.Goals.{Start, After-sum-of_securities}

-- V, of which the securities' value is a part, is bounded
bounded : (c : Start) → sum_below 32 (value_at (vault_of c.args.guarantee (securities_of c.args.held.now))) + value_at (vault_of c.args.guarantee (securities_of c.args.held.now)) 32 ≤ value_bound
bounded c =
    let vault : Vault = vault_of c.args.guarantee (securities_of c.args.held.now) in
    let p = c.requires in
    omega (arith, value-parts vault, value-bound-of vault (p.0, p.1, p.2))

pub sum-of_securities-requires-clause-fits : goal.sum-of_securities-requires-clause-fits
sum-of_securities-requires-clause-fits c =
    let vault : Vault = vault_of c.args.guarantee (securities_of c.args.held.now) in
    fits_from_yields_list c.map.result _
    (YieldsList-from_map _ (value_at vault) (YieldsList-from_range 0 32 32 c.map.ensures.source refl) c.map.ensures.closure (λ x r q k. search rules))
    (omega (arith, sum-over (value_at vault) 32, bounded (goal.at.sum-of_securities-requires-clause-fits c).Start))

summed : (c : After-sum-of_securities) → c.sum-of_securities.result ≡ sum_below 32 (value_at (vault_of c.args.guarantee (securities_of c.args.held.now)))
summed c =
    let vault : Vault = vault_of c.args.guarantee (securities_of c.args.held.now) in
    sum_from_yields_List c.map.result _ c.sum-of_securities.ensures.ran
    (YieldsList-from_map _ (value_at vault) (YieldsList-from_range 0 32 32 c.map.ensures.source refl) c.map.ensures.closure (λ x r q k. search rules))
    ∙ sum-over (value_at vault) 32

pub overflow_add-result : goal.overflow_add-result
overflow_add-result c =
    let at = goal.at.overflow_add-result c in
    omega (arith, summed at.After-sum-of_securities, ap (λ (s : Sheets). s.0) c.value_at-of_cash.ensures, bounded at.Start)

pub returns : goal.returns
returns c =
    omega
    (arith, summed (goal.at.returns c).After-sum-of_securities, ap (λ (s : Sheets). s.0) c.value_at-of_cash.ensures, value-parts (vault_of c.args.guarantee (securities_of c.args.held.now)))
