use Rattle.std.proofs.Common.{◌≡◌, ℕ, ◌≤◌, ◌<◌, List, length, take, refl, sym, ap, ◌∙◌, arith}
use Rattle.std.specs.Result.{result_unwrap_or}
use Rattle.journal.specs.Limits.{journal_bytes, listing_bytes}
use Rattle.journal.specs.Listing.{listing_text}
use Rattle.journal.proofs.Bounds.{cut-listing, room-for-all}
use Rattle.daybook.specs.Input.{Lists}
use Rattle.daybook.proofs.write_input.Goals as goal

-- with more room than a journal takes, the listing of what was read is that of the whole input
listed : (room : ℕ) (read text : List ℕ) (count : ℕ) → journal_bytes < room
    → count ≡ length (listing_text read) → take (length (listing_text read)) text ≡ listing_text read → Lists room read text count
listed room read text count more counted taken input first =
    let same : listing_text read ≡ listing_text input = ap listing_text (sym first) ∙ cut-listing room input more in
    rw (counted, sym same) (refl, taken)

pub returns : goal.returns
returns c =
    let more : journal_bytes < length c.args.read.now = omega arith in
    let long : listing_bytes ≤ length c.args.text.now = omega arith in
    let all = room-for-all _ _ _ long c.write_listing.ensures.0 in
    listed _ _ _ _ more (c.unwrap_or.ensures ∙ ap (λ told. result_unwrap_or told 0) all.0) (rw c.write_listing.ensures.1 all.1)
