use Rattle.std.proofs.Common.{arith}
use Rattle.rules.proofs.Bytes.{four_and_rest}
use Rattle.decoder.proofs.entry.number8.Goals as goal

pub returns : goal.returns
returns c = omega (arith, four_and_rest c.args.bytes.now c.args.at 4 (omega arith))
