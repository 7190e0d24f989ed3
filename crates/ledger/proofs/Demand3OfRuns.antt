-- Demand 3 and the code: what `lent::run`, or calls of `lent::apply` one after the other, leave of lent numbers that hold a fresh book, over
-- whatever table, meets it. The listing's is `listing-meets-demand3` of the rules. Assumes nothing.
use Rattle.std.specs.Prelude.{◌≡◌, ℕ, Bool, true, false, List, [], ◌∷◌, map}
use mathlib.Core.Path.{refl, sym, ap, ◌∙◌}
use native.Mathlib.Omega.{arith}
use Rattle.money.specs.Days.{Calendar}
use Rattle.rules.specs.declared.answer.Answer.{Answer}
use Rattle.rules.specs.Book.{fresh_book}
use Rattle.rules.specs.Step.{outcome, step}
use Rattle.rules.specs.Run.{Seen, run}
use Rattle.rules.specs.Demand3.{Demand3}
use Rattle.rules.specs.Listing.{RunOutcome, run_outcome}
use Rattle.rules.proofs.Demand3Proof.{demand3}
use Rattle.rules.proofs.Demand3OfRuns.{MeetsDemand3, run-meets-demand3}
use Rattle.ledger.specs.Types.{Book, Entry}
use Rattle.ledger.specs.Lent.{Lent, book_in, table_in, is_whole, step_in, run_in}
use Rattle.ledger.proofs.LentLaws.{not-whole, by-step, refused-run, by-run}

-- what a run of encoded events leaves: its number, the numbers lent, and the buffer
abbrev pub left_by : (number : ℕ) → (after : Lent) → (lines : List ℕ) → RunOutcome
left_by number after lines = record { ran = record { number = number; book = book_in after }; table = table_in after; lines = lines }

module _ (calendar : Calendar) (before after : Lent) (number : ℕ) (bytes buffer lines : List ℕ) where
  whole-where-0 : left_by number after lines ≡ run_in calendar before bytes buffer → number ≡ 0 → is_whole before ≡ true
  whole-where-0 promised z = go (is_whole before) refl
    where
      go : (w : Bool) → is_whole before ≡ w → w ≡ true
      go true e = refl
      go false e =
          let refused = refused-run calendar before bytes buffer (not-whole calendar before e) in
          let told : left_by number after lines ≡ left_by 1 before buffer = promised ∙ refused in
          let one : number ≡ 1 = ap (λ (left : RunOutcome). left.ran.number) told in
          absurd (omega arith)

  -- from what the call promises, and that its number is 0
  pub lent-run-meets-demand3 : book_in before ≡ fresh_book → left_by number after lines ≡ run_in calendar before bytes buffer → number ≡ 0
      → MeetsDemand3 calendar (table_in before) bytes buffer (left_by number after lines)
  lent-run-meets-demand3 fresh promised z =
      let whole = by-run calendar before bytes buffer (whole-where-0 promised z) in
      let begun = ap (λ (book : Book). run_outcome calendar book (table_in before) bytes buffer) fresh in
      let told : left_by number after lines ≡ run_outcome calendar fresh_book (table_in before) bytes buffer = promised ∙ whole ∙ begun in
      rw told (run-meets-demand3 calendar (table_in before) bytes buffer (sym (ap (λ (left : RunOutcome). left.ran.number) told) ∙ z))

-- ---- event by event

-- a call of `lent::apply`: the entry, and what it gives back and leaves
pub record Call : Type 0 where
  pub entry : Entry
  pub answer : Answer
  pub after : Lent

-- calls one after the other on whole lent numbers, of each what it promises
abbrev pub Promised : Calendar → Lent → List Call → Type 0
Promised calendar before [] = Unit {0}
Promised calendar before (call ∷ calls) =
    (is_whole before ≡ true)
    × (outcome call.answer (book_in call.after) (table_in call.after) ≡ step_in calendar before call.entry)
    × Promised calendar call.after calls

-- what is seen of them
abbrev pub seen_of : Lent → List Call → List Seen
seen_of before [] = []
seen_of before (call ∷ calls) =
    record {
      book = book_in before;
      table = table_in before;
      entry = call.entry;
      left = outcome call.answer (book_in call.after) (table_in call.after);
    }
    ∷ seen_of call.after calls

entries_put : List Call → List Entry
entries_put calls = map (λ (call : Call). call.entry) calls

seen-is-run : (calendar : Calendar) (calls : List Call) (before : Lent) → Promised calendar before calls
    → seen_of before calls ≡ run calendar (book_in before) (table_in before) (entries_put calls)
unfolding run entries_put
seen-is-run calendar [] before promised = refl
seen-is-run calendar (call ∷ calls) before promised =
    let left : outcome call.answer (book_in call.after) (table_in call.after) ≡ step calendar (book_in before) (table_in before) call.entry =
    promised.1 ∙ by-step calendar before promised.0 call.entry in
    rw (seen-is-run calendar calls call.after promised.2, ← left) refl

pub lent-calls-meet-demand3 : (calendar : Calendar) (before : Lent) (calls : List Call) → book_in before ≡ fresh_book → Promised calendar before calls
    → Demand3 calendar (table_in before) (seen_of before calls)
lent-calls-meet-demand3 calendar before calls fresh promised =
    rw (seen-is-run calendar calls before promised, fresh) (demand3 calendar (table_in before) (entries_put calls))
