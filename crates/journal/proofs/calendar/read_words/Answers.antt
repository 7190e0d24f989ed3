use Rattle.std.proofs.Common.{take}
use Rattle.journal.proofs.WordLaws.{next_word}
use Rattle.journal.proofs.calendar.read_words.Goals as goal

pub loop-k-preserved : goal.loop-k-preserved
loop-k-preserved c =
    let a = c.args in
    rw c.loop-k.invariant (next_word a.journal.now (take a.count a.words.now) a.at c.loop-k.k c.number4.result c.number4.ensures c.loop-k-test.true)
