use Rattle.journal.proofs.TextLaws.{then, room}
use Rattle.journal.proofs.LineLaws.{next-lines, line-fits}
use Rattle.journal.proofs.listing.put_lines.Goals as goal

pub put_line-at-requires : goal.put_line-at-requires
put_line-at-requires c =
    room _ c.loop-k.invariant (line-fits c.args.lines.now c.args.text.now c.loop-k.k c.args.count _ c.line_at.ensures c.loop-k-test.true c.requires.2)

pub loop-k-preserved : goal.loop-k-preserved
loop-k-preserved c =
    let fits = line-fits c.args.lines.now c.args.text.now c.loop-k.k c.args.count _ c.line_at.ensures c.loop-k-test.true c.requires.2 in
    rw (next-lines c.args.lines.now c.loop-k.k _ c.line_at.ensures)
    (then fits c.loop-k.invariant (record { ends = c.put_line-at.ensures.0; puts = c.put_line-at.ensures.1 }))
