use Rattle.journal.proofs.TextLaws.{line-due, first-put, rest-put}
use Rattle.journal.proofs.text.put_line.Goals as goal

pub returns : goal.returns
returns c =
    let after_place = first-put _ _ (line-due _ _ c.requires) c.put_number-answer.ensures in
    let after_answer = first-put _ _ after_place c.put_spaced-headroom.ensures in
    let after_headroom = first-put _ _ after_answer c.put_signed-outstanding.ensures in
    let after_outstanding = first-put _ _ after_headroom c.put_spaced-own.ensures in
    let after_own = first-put _ _ after_outstanding c.put_spaced-client.ensures in
    let after_client = first-put _ _ after_own c.put_spaced-guarantee.ensures in
    let after_guarantee = first-put _ _ after_client c.put_spaced-end.ensures in
    rest-put after_guarantee c.put.ensures
