use Rattle.std.proofs.Common.{refl}
use Rattle.rules.specs.Folds.{every}
use Rattle.exports.specs.Codes.{is_well_formed}
use Rattle.exports.proofs.RawLaws.{some_if, none_if}
use Rattle.exports.proofs.codes.read.Goals as goal

pub returns-in_err-phase : goal.returns-in_err-phase
unfolding is_well_formed every
returns-in_err-phase c =
    rw (c.from_residual.ensures, none_if _ _ c.in_err-phase.ensures) refl

pub returns-in_err-status : goal.returns-in_err-status
unfolding is_well_formed every
returns-in_err-status c =
    rw (c.from_residual-in_err-status.ensures, (some_if _ _ _ c.in_ok-phase.ensures).0, none_if _ _ c.in_err-status.ensures) refl

pub returns-in_err-failed : goal.returns-in_err-failed
unfolding is_well_formed every
returns-in_err-failed c =
    rw (c.from_residual-in_err-failed.ensures, (some_if _ _ _ c.in_ok-phase.ensures).0, (some_if _ _ _ c.in_ok-status.ensures).0, none_if _ _ c.in_err-failed.ensures) refl

pub returns-in_err-short : goal.returns-in_err-short
unfolding is_well_formed every
returns-in_err-short c =
    rw (c.from_residual-in_err-short.ensures, (some_if _ _ _ c.in_ok-phase.ensures).0, (some_if _ _ _ c.in_ok-status.ensures).0, (some_if _ _ _ c.in_ok-failed.ensures).0, none_if _ _ c.in_err-short.ensures) refl

pub returns-in_err-day : goal.returns-in_err-day
unfolding is_well_formed every
returns-in_err-day c =
    rw (c.from_residual-in_err-day.ensures, (some_if _ _ _ c.in_ok-phase.ensures).0, (some_if _ _ _ c.in_ok-status.ensures).0, (some_if _ _ _ c.in_ok-failed.ensures).0, (some_if _ _ _ c.in_ok-short.ensures).0, none_if _ _ c.in_err-day.ensures) refl

pub returns : goal.returns
unfolding is_well_formed every
returns c =
    let phase = some_if _ _ _ c.in_ok-phase.ensures in
    let status = some_if _ _ _ c.in_ok-status.ensures in
    let failed = some_if _ _ _ c.in_ok-failed.ensures in
    let short = some_if _ _ _ c.in_ok-short.ensures in
    let day = some_if _ _ _ c.in_ok-day.ensures in
    rw (phase.0, status.0, failed.0, short.0, day.0, phase.1, status.1, failed.1, short.1, day.1) refl
