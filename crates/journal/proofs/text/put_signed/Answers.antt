use Rattle.std.specs.Prelude.{[], ◌∷◌}
use Rattle.journal.proofs.TextLaws.{signed_minus, all-due, first-put, rest-put}
use Rattle.journal.proofs.text.put_signed.Goals as goal

pub returns : goal.returns
returns c =
    let minus = signed_minus c.args.negative c.args.size.0 c.if-negative-eq0.false in
    rw minus (rest-put (first-put (32 ∷ 45 ∷ []) _ (all-due (rw minus at c.requires)) c.put-digits.ensures) c.put_number.ensures)
