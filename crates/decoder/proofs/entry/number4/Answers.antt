use Rattle.std.proofs.Common.{◌+◌, arith}
use Rattle.rules.proofs.Bytes.{no_bytes, first_four}
use Rattle.decoder.proofs.entry.number4.Goals as goal

pub returns : goal.returns
returns c =
    let bytes = c.args.bytes.now in
    omega (arith, first_four bytes c.args.at 0 c.requires, no_bytes bytes (c.args.at + 4), c.from_le_bytes.ensures)
