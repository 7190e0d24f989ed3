use Rattle.std.specs.Prelude.{◌≡◌, ℕ, ◌/◌, length, replicate}
use native.Mathlib.Omega.{arith}
use lib.ListN.{length-replicate}
use Rattle.rules.specs.Listing.{listing_of}
use Rattle.journal.specs.Listing.{lines_text}
use Rattle.journal.proofs.LineLaws.{run-clear, run-lines}
use Rattle.journal.proofs.listing.write_run.Goals as goal

pub returns : goal.returns
returns c =
    let told : (let a = c.args in lines_text (length a.events.now / 40) c.run_listing.new.lines ≡ lines_text (length a.events.now / 40) (listing_of a.calendar.now a.events.now)) = run-lines c.args.calendar.now c.args.events.now (replicate 10500 0) _
    (run-clear (length c.args.calendar.now) (length c.args.events.now) 10500 c.requires.0 c.requires.1 c.requires.2 (omega (arith, c.requires.2, length-replicate {A = ℕ} 10500 0)))
    c.run_listing.ensures.1 in
    rw told at c.write_lines.ensures
