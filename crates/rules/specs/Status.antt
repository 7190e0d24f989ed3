-- The status of the day that opens, read off articles 69 and 70 of the measures: a case a line, under the sentence that decides it. (01, event 1; 02, ask 3)
-- Where they say that the exchange may, document 01 says that it does; where they differ, the graver holds.
-- Assumes nothing.
use Rattle.rules.specs.Book.{Status, Normal, Suspended, Terminated, FailedRun, NotFailed, FailedOnce, FailedTwice, ShortRun, NotShort, ShortOnce, ShortTwice, ShortThrice}

-- While the permission lasts: by the run of failed payments before this day, and the run of closes at which the pledge was short (headroom below zero).
abbrev pub status_by_runs : FailedRun → ShortRun → Status
-- 69, second sentence: "Once the firm's headroom is not below zero, the exchange may accept its initial trades again."
-- 70, second clause: "where the firm completes the payment on T+2, its initial trades are accepted again on T+3"
-- or neither speaks, since nothing was short and nothing failed
status_by_runs NotFailed NotShort = Normal
-- 69, first sentence: "Where … the pledge is short, the exchange may suspend acceptance of the firm's initial trades from the next trading day on …"
status_by_runs NotFailed ShortOnce = Suspended
-- 69, first sentence, still: the two trading days of its second paragraph are not over
status_by_runs NotFailed ShortTwice = Suspended
-- 69, second paragraph: "Where within the two trading days after the day the pledge fell short the firm has taken no effective measures that bring its headroom
-- to zero or above, the exchange may end its … permission from the third trading day on."
status_by_runs NotFailed ShortThrice = Terminated
-- 70, first clause: "Where the firm's payment on T+1 fails, the exchange may suspend acceptance of its initial trades from T+2 on …"
status_by_runs FailedOnce NotShort = Suspended
-- 70, first clause; 69, first sentence, suspends too
status_by_runs FailedOnce ShortOnce = Suspended
-- 70, first clause; 69, first sentence, suspends still
status_by_runs FailedOnce ShortTwice = Suspended
-- 69, second paragraph; 70 would only suspend
status_by_runs FailedOnce ShortThrice = Terminated
-- 70, third clause: "where it does not complete the payment on T+2, the exchange ends its … permission from T+3 on", whatever 69 says
status_by_runs FailedTwice short = Terminated

-- From the old status.
unfoldable pub status_at_open : Status → FailedRun → ShortRun → Status
-- the permission lasts, and 69 and 70 go by the runs
status_at_open Normal failed short = status_by_runs failed short
-- the same, and by the runs they may lift the suspension
status_at_open Suspended failed short = status_by_runs failed short
-- 72: "After the … permission has ended …"; neither 69 nor 70 gives it back
status_at_open Terminated failed short = Terminated
