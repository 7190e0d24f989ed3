use Rattle.std.specs.Prelude.{◌≡◌, Bool, true, false, not}
use mathlib.Core.Path.{refl, sym, ap, ◌∙◌}
use borrow.Author.Rules.{rules}
use Rattle.rules.specs.Trades.{on_table}
use Rattle.ledger.specs.Flat.{trade_at, trades_to}
use Rattle.ledger.proofs.PlaceLaws.{differ-by-place}
use Rattle.ledger.proofs.RangeLaws.{all-over}
use Rattle.ledger.proofs.trades.few_differ.Goals as goal

-- a place that was not found
not-found : {found there none : Bool} → found ≡ not none → found ≡ there → none ≡ not there
not-found {found} {there} {none} e f = twice none ∙ ap not (sym e ∙ f)
  where
    twice : (b : Bool) → b ≡ not (not b)
    twice true = refl
    twice false = refl

pub returns : goal.returns
returns c =
    let table = c.args.table.now in
    all-over c.args.count (λ place. not (on_table (trade_at table place).contract (trades_to table place))) _ c.all.ensures.ran (λ k b q called. search (rules, not-found))
    ∙ differ-by-place table c.args.count
