use Rattle.std.proofs.Common.{refl}
use borrow.Author.Tests.{eq-eqb, ne_eqb}
use Rattle.rules.specs.Entry.{decoded}
use Rattle.rules.proofs.Decoding.{decoded-number}
use Rattle.decoder.proofs.entry.decode.Goals as goal

pub returns-then-bytes-ne-EVENT_BYTES : goal.returns-then-bytes-ne-EVENT_BYTES
unfolding decoded
returns-then-bytes-ne-EVENT_BYTES c = decoded-number _ (rw (ne_eqb _ 40 c.if-bytes-ne-EVENT_BYTES.true) refl)

pub returns : goal.returns
unfolding decoded
returns c = decoded-number _ (rw (eq-eqb _ 40 c.if-bytes-ne-EVENT_BYTES.false) (rw c.fields_of.ensures at c.entry_of.ensures))
