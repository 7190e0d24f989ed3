use Rattle.std.proofs.Common.{◌≡◌, ℕ, ◌≤◌, List, length, take, sym, ap, arith}
use Rattle.std.proofs.lemmas.List.{length-take, length-take-le, take_all}
use Rattle.daybook.specs.Input.{Lists}
use Rattle.daybook.proofs.main.Goals as goal

-- what is listed lies within the text
listing-within : (room text : List ℕ) (size count : ℕ) → Lists (length room) (take size room) text count → count ≤ length text
listing-within room text size count lists =
    let all : take (length room) (take size room) ≡ take size room = take_all (length room) (take size room) (omega (arith, length-take size room)) in
    let listed = lists (take size room) all in
    omega (arith, listed.0, ap length listed.1, length-take count text)

pub slice_bounds-text-end : goal.slice_bounds-text-end
slice_bounds-text-end c = listing-within c.read_input.new.room _ c.in-Ok.size _ c.write_input-length.ensures

pub slice_bounds-write_all-end : goal.slice_bounds-write_all-end
slice_bounds-write_all-end c =
    sym (length-take-le _ _ (listing-within c.read_input.new.room _ c.in-Ok.size _ c.write_input-length.ensures))
