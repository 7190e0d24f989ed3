-- How long a journal and its listing can be: for callers that lend a buffer for either. They follow from the limits of document 01.
-- Assumes nothing.
use Rattle.std.specs.Prelude.{ℕ, ◌+◌, ◌*◌}
use Rattle.money.specs.Limits.{calendar_limit}
use Rattle.rules.specs.Entry.{event_bytes}
use Rattle.rules.specs.Listing.{event_limit}
use Rattle.journal.specs.Sections.{count_bytes, word_bytes}

-- the longest journal: both sections at their limits
abbrev pub journal_bytes : ℕ
journal_bytes = count_bytes + calendar_limit * word_bytes + count_bytes + event_limit * event_bytes

-- the longest line: seven numbers of at most 20 digits, six spaces, a minus sign and the line end
abbrev pub line_bytes : ℕ
line_bytes = 7 * 20 + 6 + 1 + 1

-- the longest listing: a line for each event of the longest journal
abbrev pub listing_bytes : ℕ
listing_bytes = event_limit * line_bytes
