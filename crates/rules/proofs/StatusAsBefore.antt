-- The status read off the articles is the one that document 01's sentence gives, in all 36 cases: computed over the list of them, and carried to each.
-- (02, ask 3) Assumes nothing.
use mathlib.Core.Path.{◌≡◌, refl, sym, ap, ◌∙◌}
use mathlib.Core.Bool.{Bool, true, false, cond, ◌||◌}
use mathlib.Core.List.{List, [], ◌∷◌, map, head-eq_of_cons-eq, tail-eq_of_cons-eq}
use mathlib.Core.List.Memᴰ.{head as here}
use mathlib.Core.List.Memᴰ.{tail as later}
use mathlib.Core.List.{Memᴰ as Listed}
use Rattle.rules.specs.Book.{Status, Normal, Suspended, Terminated, FailedRun, NotFailed, FailedOnce, FailedTwice, ShortRun, NotShort, ShortOnce, ShortTwice, ShortThrice, is_terminated, has_failed}
use Rattle.rules.specs.Status.{status_at_open}

-- ---- as it was given before

abbrev failed_twice : FailedRun → Bool
failed_twice NotFailed = false
failed_twice FailedOnce = false
failed_twice FailedTwice = true

abbrev short_thrice : ShortRun → Bool
short_thrice NotShort = false
short_thrice ShortOnce = false
short_thrice ShortTwice = false
short_thrice ShortThrice = true

abbrev is_short : ShortRun → Bool
is_short NotShort = false
is_short ShortOnce = true
is_short ShortTwice = true
is_short ShortThrice = true

-- "Terminated if already so, or 2 failed payments, or 3 short closes; else suspended if either run is above 0; else normal (arts. 69, 70)."
abbrev pub status_before : Status → FailedRun → ShortRun → Status
status_before status failed short =
    cond (is_terminated status || failed_twice failed || short_thrice short) Terminated
    (cond (has_failed failed || is_short short) Suspended Normal)

-- ---- the 36 cases, by old status, then run of failed payments, then run of short closes

abbrev statuses : List Status
statuses = Normal ∷ Suspended ∷ Terminated ∷ []

abbrev pub failed_runs : List FailedRun
failed_runs = NotFailed ∷ FailedOnce ∷ FailedTwice ∷ []

abbrev pub short_runs : List ShortRun
short_runs = NotShort ∷ ShortOnce ∷ ShortTwice ∷ ShortThrice ∷ []

abbrev Choice : Type 0
Choice = Status → FailedRun → ShortRun → Status

-- what a choice gives in each case

abbrev over_short : Choice → Status → FailedRun → List Status
over_short choice status failed = map (choice status failed) short_runs

abbrev over_runs : Choice → Status → List (List Status)
over_runs choice status = map (over_short choice status) failed_runs

abbrev pub over_all : Choice → List (List (List Status))
over_all choice = map (over_runs choice) statuses

-- "Every status is the one given before, shown for all 36 cases."
pub status-as-before : over_all status_at_open ≡ over_all status_before
unfolding status_at_open
status-as-before = refl

-- ---- none is missing from the lists, so it holds of each

status-listed : (status : Status) → Listed status statuses
status-listed Normal = here refl
status-listed Suspended = later (here refl)
status-listed Terminated = later (later (here refl))

failed-listed : (failed : FailedRun) → Listed failed failed_runs
failed-listed NotFailed = here refl
failed-listed FailedOnce = later (here refl)
failed-listed FailedTwice = later (later (here refl))

short-listed : (short : ShortRun) → Listed short short_runs
short-listed NotShort = here refl
short-listed ShortOnce = later (here refl)
short-listed ShortTwice = later (later (here refl))
short-listed ShortThrice = later (later (later (here refl)))

-- what is the same over a list is the same of each that is listed
same_of : {A B : Type 0} (f g : A → B) {a : A} {all : List A} → Listed a all → map f all ≡ map g all → f a ≡ g a
same_of f g (here e) same = ap f e ∙ head-eq_of_cons-eq same ∙ sym (ap g e)
same_of f g (later listed) same = same_of f g listed (tail-eq_of_cons-eq same)

pub each-as-before : (status : Status) (failed : FailedRun) (short : ShortRun) → status_at_open status failed short ≡ status_before status failed short
each-as-before status failed short =
    let of-status = same_of (over_runs status_at_open) (over_runs status_before) (status-listed status) status-as-before in
    let of-failed = same_of (over_short status_at_open status) (over_short status_before status) (failed-listed failed) of-status in
    same_of (status_at_open status failed) (status_before status failed) (short-listed short) of-failed
