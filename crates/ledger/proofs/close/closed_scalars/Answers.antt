use mathlib.Core.Path.{sym}
use Rattle.rules.specs.Close.{is_short_close, closed_book}
use Rattle.ledger.proofs.close.closed_scalars.Goals as goal

pub returns : goal.returns
unfolding closed_book is_short_close
returns c =
    λ calendar rows held trades table nets unpaid end valued left kept posted.
    rw (c.closed_standing.ensures, c.short_at_close-short.ensures, c.is_short-is_short.ensures, c.with_unpaid.ensures, valued, nets, unpaid, sym end, left, kept, posted)
