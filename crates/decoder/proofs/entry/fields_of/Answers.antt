use Rattle.std.proofs.Common.{arith}
use Rattle.rules.proofs.Bytes.{past_three}
use Rattle.decoder.proofs.entry.fields_of.Goals as goal

pub returns : goal.returns
returns c =
    let known = c.type_inv.bytes in
    cc (past_three c.args.bytes.now 5 (omega arith) (known 0).fits (known 1).fits (known 2).fits)
