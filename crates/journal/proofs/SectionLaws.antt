-- What the tests of a section and of both sections say together: for the functions of section.rt and sections.rt, and their callers.
-- Assumes nothing.
use Rattle.std.specs.Prelude.{◌≡◌, ℕ, ◌+◌, ◌*◌, ◌<◌, ◌≤◌, Bool, true, false, cond, eqb, List, [], ◌∷◌, ◌++◌, length, Option, Some, None}
use mathlib.Core.Path.{refl, sym, ap, ◌∙◌}
use mathlib.Core.Option.{Option as Maybe, none, some}
use native.Mathlib.Omega.{arith}
use denote.Ref.{Bor}
use borrow.Author.Tests.{lt-ltb, le-ltb, ltb-false, eqb-true}
use Rattle.money.specs.Causes.{Cause, first_of, number_of}
use Rattle.money.proofs.Refusals.{hit, skip, clear, failed}
use Rattle.rules.proofs.Answers.{numbers, number-passes}
use Rattle.journal.specs.Sections.{Counts}
use Rattle.journal.specs.Sections.{count_at, section_end, section_causes, section_by, section_at, section_number, IsSectionAt, past_by, past_section, left_from}
use Rattle.journal.specs.Sections.{word_count, event_count, events_at, journal_causes, sections_by, sections_of, sections_number, AreSectionsOf}

-- ---- causes in a row

stops : (a b : List Cause) {n : ℕ} → first_of a ≡ some n → first_of (a ++ b) ≡ some n
unfolding first_of
stops [] b e = let z : ◌≡◌ {A = ℕ} 0 1 = cc in absurd (omega arith)
stops (c ∷ a) b {n} e = go c.applies (stops a b) e
  where
    go : (t : Bool) → (first_of a ≡ some n → first_of (a ++ b) ≡ some n) → cond t (some c.number) (first_of a) ≡ some n → cond t (some c.number) (first_of (a ++ b)) ≡ some n
    go true f e = e
    go false f e = f e

passes : (a b : List Cause) → first_of a ≡ none → first_of (a ++ b) ≡ first_of b
unfolding first_of
passes [] b e = refl
passes (c ∷ a) b e = go c.applies (passes a b) e
  where
    go : (t : Bool) → (first_of a ≡ none → first_of (a ++ b) ≡ first_of b) → cond t (some c.number) (first_of a) ≡ none → cond t (some c.number) (first_of (a ++ b)) ≡ first_of b
    go true f e = let z : ◌≡◌ {A = ℕ} 0 1 = cc in absurd (omega arith)
    go false f e = f e

-- ---- one section

module _ (limit width at : ℕ) (bytes : List ℕ) where
  early-count-first : length bytes < at + 4 → first_of (section_causes limit width at bytes) ≡ some 18
  unfolding section_causes
  early-count-first h = hit 18 _ (lt-ltb _ _ h)

  past-limit-first : at + 4 ≤ length bytes → limit < count_at at bytes → first_of (section_causes limit width at bytes) ≡ some 18
  unfolding section_causes
  past-limit-first h l = skip 18 _ (le-ltb _ _ h) (hit 18 _ (lt-ltb _ _ l))

  early-end-first : at + 4 ≤ length bytes → count_at at bytes ≤ limit → length bytes < section_end width at bytes → first_of (section_causes limit width at bytes) ≡ some 18
  unfolding section_causes
  early-end-first h l e = skip 18 _ (le-ltb _ _ h) (skip 18 _ (le-ltb _ _ l) (hit 18 _ (lt-ltb _ _ e)))

  none_first : at + 4 ≤ length bytes → count_at at bytes ≤ limit → section_end width at bytes ≤ length bytes → first_of (section_causes limit width at bytes) ≡ none
  unfolding section_causes
  none_first h l e = skip 18 _ (le-ltb _ _ h) (skip 18 _ (le-ltb _ _ l) (skip 18 _ (le-ltb _ _ e) clear))

  malformed-by : {n : ℕ} → first_of (section_causes limit width at bytes) ≡ some n → None ≡ section_at limit width at bytes
  unfolding section_by
  malformed-by e = rw e

  whole_by : first_of (section_causes limit width at bytes) ≡ none → Some (count_at at bytes) ≡ section_at limit width at bytes
  unfolding section_by
  whole_by e = rw e

  pub early-count : length bytes < at + 4 → None ≡ section_at limit width at bytes
  early-count h = malformed-by (early-count-first h)

  pub past-limit : (n : ℕ) → n ≡ count_at at bytes → at + 4 ≤ length bytes → limit < n → None ≡ section_at limit width at bytes
  past-limit n e h l = malformed-by (past-limit-first h (rw e at l))

  pub early-end : (n : ℕ) → n ≡ count_at at bytes → at + 4 ≤ length bytes → n ≤ limit → length bytes < at + 4 + n * width → None ≡ section_at limit width at bytes
  early-end n e h l r = malformed-by (early-end-first h (rw e at l) (rw e at r))

  pub whole : (n : ℕ) → n ≡ count_at at bytes → at + 4 ≤ length bytes → n ≤ limit → at + 4 + n * width ≤ length bytes → Some n ≡ section_at limit width at bytes
  whole n e h l r = ap Some e ∙ whole_by (none_first h (rw e at l) (rw e at r))

  -- what a section that was read is
  pub record Read (n : ℕ) : Type 0 where
    pub clear : first_of (section_causes limit width at bytes) ≡ none
    pub counted : n ≡ count_at at bytes
    pub high : n ≤ limit
    pub room : at + 4 + n * width ≤ length bytes

  within : first_of (section_causes limit width at bytes) ≡ none → (count_at at bytes ≤ limit) × (section_end width at bytes ≤ length bytes)
  unfolding section_causes
  within e = (ltb-false _ _ ((failed _ e 18).1.0 refl), ltb-false _ _ ((failed _ e 18).1.1.0 refl))

  pub read : (n : ℕ) → section_at limit width at bytes ≡ Some n → Read n
  unfolding section_by
  read n e = go (first_of (section_causes limit width at bytes)) refl e
    where
      go : (o : Maybe ℕ) → first_of (section_causes limit width at bytes) ≡ o → section_by o (count_at at bytes) ≡ Some n → Read n
      go none c w =
          let counted : n ≡ count_at at bytes = cc in
          record { clear = c; counted = counted; high = rw counted (within c).0; room = rw counted (within c).1 }
      go (some k) c w = let z : ◌≡◌ {A = ℕ} 0 1 = cc in absurd (omega arith)

  pub past-whole : (n : ℕ) → section_at limit width at bytes ≡ Some n → at + 4 + n * width ≡ past_section limit width at bytes
  unfolding past_by
  past-whole n e = let r = read n e in rw (r.clear, r.counted)

  -- or why it was not
  pub record Cut : Type 0 where
    pub number : ℕ
    pub first : first_of (section_causes limit width at bytes) ≡ some number

  pub cut : section_at limit width at bytes ≡ None → Cut
  unfolding section_by
  cut e = go (first_of (section_causes limit width at bytes)) refl e
    where
      go : (o : Maybe ℕ) → first_of (section_causes limit width at bytes) ≡ o → section_by o (count_at at bytes) ≡ None → Cut
      go none c w = let z : ◌≡◌ {A = ℕ} 0 1 = cc in absurd (omega arith)
      go (some k) c w = record { number = k; first = c }

  pub past-cut : section_at limit width at bytes ≡ None → at ≡ past_section limit width at bytes
  unfolding past_by
  past-cut e = rw (cut e).first

-- ---- both sections and the end

abbrev pub both : (words events : ℕ) → Option Counts
both words events = Some (record { words = words; events = events })

module _ (bytes : List ℕ) where
  abbrev calendar-causes : List Cause
  calendar-causes = section_causes 1200 4 0 bytes

  abbrev event-causes : List Cause
  event-causes = section_causes 1500 40 (events_at bytes) bytes

  refused-by : {n : ℕ} → first_of (journal_causes bytes) ≡ some n → None ≡ sections_of bytes
  unfolding sections_by
  refused-by e = rw e

  both_by : first_of (journal_causes bytes) ≡ none → both (word_count bytes) (event_count bytes) ≡ sections_of bytes
  unfolding sections_by
  both_by e = rw e

  pub calendar-cut : section_at 1200 4 0 bytes ≡ None → None ≡ sections_of bytes
  unfolding journal_causes
  calendar-cut e = refused-by (stops (calendar-causes ++ event-causes) _ (stops calendar-causes event-causes (cut 1200 4 0 bytes e).first))

  module _ (words : ℕ) (calendar : Read 1200 4 0 bytes words) where
    pub events-from : 4 + words * 4 ≡ events_at bytes
    events-from = omega (arith, calendar.counted)

    pub events-cut : section_at 1500 40 (4 + words * 4) bytes ≡ None → None ≡ sections_of bytes
    unfolding journal_causes
    events-cut e =
        let there : section_at 1500 40 (events_at bytes) bytes ≡ None = rw events-from at e in
        refused-by (stops (calendar-causes ++ event-causes) _ (passes calendar-causes event-causes calendar.clear ∙ (cut 1500 40 (events_at bytes) bytes there).first))

    module _ (events : ℕ) (there : Read 1500 40 (4 + words * 4) bytes events) where
      events-there : Read 1500 40 (events_at bytes) bytes events
      events-there = rw events-from at there

      events-end : 4 + words * 4 + 4 + events * 40 ≡ section_end 40 (events_at bytes) bytes
      events-end = omega (arith, events-from, events-there.counted)

      both-clear : first_of (calendar-causes ++ event-causes) ≡ none
      both-clear = passes calendar-causes event-causes calendar.clear ∙ events-there.clear

      pub left_over : 4 + words * 4 + 4 + events * 40 < length bytes → None ≡ sections_of bytes
      unfolding journal_causes
      left_over h = refused-by (passes (calendar-causes ++ event-causes) _ both-clear ∙ hit 18 [] (lt-ltb _ _ (rw events-end at h)))

      pub ended : length bytes ≤ 4 + words * 4 + 4 + events * 40 → both words events ≡ sections_of bytes
      unfolding journal_causes
      ended h =
          rw (calendar.counted, events-there.counted)
          (both_by (passes (calendar-causes ++ event-causes) _ both-clear ∙ skip 18 [] (le-ltb _ _ (rw events-end at h)) clear))

  -- what a journal is
  pub record Journal (words events : ℕ) : Type 0 where
    pub none-applies : first_of (journal_causes bytes) ≡ none
    pub words-counted : words ≡ word_count bytes
    pub events-counted : events ≡ event_count bytes
    pub words-high : words ≤ 1200
    pub events-high : events ≤ 1500
    pub full : length bytes ≡ 4 + words * 4 + 4 + events * 40

  pub journal-within : first_of (journal_causes bytes) ≡ none → (word_count bytes ≤ 1200) × (event_count bytes ≤ 1500) × (section_end 40 (events_at bytes) bytes ≡ length bytes)
  unfolding journal_causes section_causes
  journal-within e =
      let f = failed _ e 18 in
      let early : section_end 40 (events_at bytes) bytes ≤ length bytes = ltb-false _ _ (f.1.1.1.1.1.0 refl) in
      let over : length bytes ≤ section_end 40 (events_at bytes) bytes = ltb-false _ _ (f.1.1.1.1.1.1.0 refl) in
      (ltb-false _ _ (f.1.0 refl), ltb-false _ _ (f.1.1.1.1.0 refl), omega arith)

  pub journal : (counts : Counts) → sections_of bytes ≡ Some counts → Journal counts.words counts.events
  unfolding sections_by
  journal counts e = go (first_of (journal_causes bytes)) refl e
    where
      go : (o : Maybe ℕ) → first_of (journal_causes bytes) ≡ o → sections_by o (word_count bytes) (event_count bytes) ≡ Some counts → Journal counts.words counts.events
      go none c w =
          let same : counts ≡ record { words = word_count bytes; events = event_count bytes } = cc in
          let w' : counts.words ≡ word_count bytes = ap (λ (n : Counts). n.words) same in
          let e' : counts.events ≡ event_count bytes = ap (λ (n : Counts). n.events) same in
          let within = journal-within c in
          record { none-applies = c; words-counted = w'; events-counted = e'; words-high = rw w' within.0; events-high = rw e' within.1; full = omega (arith, within.2, w', e') }
      go (some k) c w = let z : ◌≡◌ {A = ℕ} 0 1 = cc in absurd (omega arith)

  pub record NoJournal : Type 0 where
    pub number : ℕ
    pub first : first_of (journal_causes bytes) ≡ some number

  pub no-journal : sections_of bytes ≡ None → NoJournal
  unfolding sections_by
  no-journal e = go (first_of (journal_causes bytes)) refl e
    where
      go : (o : Maybe ℕ) → first_of (journal_causes bytes) ≡ o → sections_by o (word_count bytes) (event_count bytes) ≡ None → NoJournal
      go none c w = let z : ◌≡◌ {A = ℕ} 0 1 = cc in absurd (omega arith)
      go (some k) c w = record { number = k; first = c }

-- ---- the number of what was read is that of its causes

all-18 : (cs : List Cause) → numbers (λ k. eqb k 18) cs ≡ true → (n : ℕ) → first_of cs ≡ some n → n ≡ 18
all-18 cs p n e = eqb-true n 18 (number-passes (λ k. eqb k 18) cs n p e)

pub section-number : (limit width at : ℕ) (bytes : List ℕ) → section_number (section_at limit width at bytes) ≡ number_of (first_of (section_causes limit width at bytes))
unfolding section_by section_causes
section-number limit width at bytes = go (first_of (section_causes limit width at bytes)) refl
  where
    go : (o : Maybe ℕ) → first_of (section_causes limit width at bytes) ≡ o → section_number (section_by o (count_at at bytes)) ≡ number_of o
    go none e = refl
    go (some n) e = sym (all-18 _ refl n e)

pub sections-number : (bytes : List ℕ) → sections_number (sections_of bytes) ≡ number_of (first_of (journal_causes bytes))
unfolding sections_by section_causes journal_causes
sections-number bytes = go (first_of (journal_causes bytes)) refl
  where
    go : (o : Maybe ℕ) → first_of (journal_causes bytes) ≡ o → sections_number (sections_by o (word_count bytes) (event_count bytes)) ≡ number_of o
    go none e = refl
    go (some n) e = sym (all-18 _ refl n e)

-- ---- what is promised of an answer follows from which it is

pub told : (limit width at : ℕ) (bytes : List ℕ) {section : Option ℕ} → section ≡ section_at limit width at bytes → IsSectionAt limit width at bytes section
told limit width at bytes e = (e, rw e (section-number limit width at bytes))

pub both_told : (bytes : List ℕ) {sections : Option Counts} → sections ≡ sections_of bytes → AreSectionsOf bytes sections
both_told bytes e = (e, rw e (sections-number bytes))

-- ---- what a reader finds that goes from the first byte over both sections

module _ (journal : Bor (List ℕ)) where
  -- a reader over that journal, at a place
  abbrev pub Stands : (reader : Bor (List ℕ)) (at place : ℕ) → Type 0
  Stands reader at place = (reader ≡ journal) × (at ≡ place)

  -- the reader that has passed a section
  abbrev pub Passes : (limit width at : ℕ) (reader next : Bor (List ℕ)) (at' : ℕ) → Type 0
  Passes limit width at reader next at' = (next ≡ reader) × (at' ≡ past_section limit width at reader.now)

  pub no-calendar : (r : Bor (List ℕ)) (k : ℕ) → Stands r k 0 → IsSectionAt 1200 4 k r.now None → AreSectionsOf journal.now None
  no-calendar r k e here = both_told journal.now (calendar-cut journal.now (sym (rw (e.0, e.1) at here.0)))

  -- it stands at the events
  pub record AtEvents (words : ℕ) (r : Bor (List ℕ)) (k : ℕ) : Type 0 where
    pub calendar : Read 1200 4 0 journal.now words
    pub starts : Stands r k (4 + words * 4)

  pub to-events : (words : ℕ) (r r' : Bor (List ℕ)) (k k' : ℕ) → Stands r k 0 → IsSectionAt 1200 4 k r.now (Some words) → Passes 1200 4 k r r' k' → AtEvents words r' k'
  to-events words r r' k k' e here passed =
      let there : section_at 1200 4 0 journal.now ≡ Some words = sym (rw (e.0, e.1) at here.0) in
      let from : k' ≡ past_section 1200 4 0 journal.now = rw (e.0, e.1) at passed.1 in
      record { calendar = read 1200 4 0 journal.now words there; starts = (passed.0 ∙ e.0, omega (arith, from, past-whole 1200 4 0 journal.now words there)) }

  module _ (words : ℕ) (r : Bor (List ℕ)) (k : ℕ) (at : AtEvents words r k) where
    pub no-events : IsSectionAt 1500 40 k r.now None → AreSectionsOf journal.now None
    no-events here = both_told journal.now (events-cut journal.now words at.calendar (sym (rw (at.starts.0, at.starts.1) at here.0)))

    -- it stands behind them
    pub record AtEnd (events : ℕ) (r' : Bor (List ℕ)) (k' : ℕ) : Type 0 where
      pub events-read : Read 1500 40 (4 + words * 4) journal.now events
      pub finish : Stands r' k' (4 + words * 4 + 4 + events * 40)

    pub to_end : (events : ℕ) (r' : Bor (List ℕ)) (k' : ℕ) → IsSectionAt 1500 40 k r.now (Some events) → Passes 1500 40 k r r' k' → AtEnd events r' k'
    to_end events r' k' here passed =
        let there : section_at 1500 40 (4 + words * 4) journal.now ≡ Some events = sym (rw (at.starts.0, at.starts.1) at here.0) in
        let from : k' ≡ past_section 1500 40 (4 + words * 4) journal.now = rw (at.starts.0, at.starts.1) at passed.1 in
        record { events-read = read 1500 40 _ journal.now events there; finish = (passed.0 ∙ at.starts.0, from ∙ sym (past-whole 1500 40 _ journal.now events there)) }

    module _ (events : ℕ) (r' : Bor (List ℕ)) (k' left : ℕ) (end : AtEnd events r' k') (counted : left ≡ left_from k' r'.now) where
      left-here : left ≡ left_from (4 + words * 4 + 4 + events * 40) journal.now
      left-here = rw (end.finish.0, end.finish.1) at counted

      pub some_left : 0 < left → AreSectionsOf journal.now None
      some_left h = both_told journal.now (left_over journal.now words at.calendar events end.events-read (omega (arith, left-here)))

      pub none_left : left ≤ 0 → AreSectionsOf journal.now (both words events)
      none_left h = both_told journal.now (ended journal.now words at.calendar events end.events-read (omega (arith, left-here)))
