use Rattle.std.proofs.lemmas.Result.{err_from_is_err_and}
use Rattle.std.specs.Prelude.{◌&&◌}
use Rattle.checks.proofs.Tests.{both}
use Rattle.voltage.specs.Check as analogs
use Rattle.scan.specs.Check.{valid_settings}
use Rattle.scan.specs.Drive.{drive_scan}
use Rattle.scan.proofs.Checks.{Called, called, passes, row_holds, passed_answer, refused_answer}
use Rattle.scan.proofs.drive.drive.Goals as goal
use Rattle.scan.proofs.drive.drive.Goals.{In_ok-lent}

pub returns-in_err-lent : goal.returns-in_err-lent
unfolding drive_scan
returns-in_err-lent c =
    let e = rw (c.valid.ensures, c.valid-2.ensures) at c.check_lent.ensures.refuses in
    let p = err_from_is_err_and c.from_residual.result c.from_residual.ensures.1 in
    rw (p.1, p.2) (refused_answer e _ _ c.in_err-lent.was)

-- what the check found
passed : (c : In_ok-lent) → Called c.args.scan (valid_settings c.args.settings && analogs.valid_settings c.args.analog) c.args.moment c.args.memory.ram.now c.args.memory.icons.now
passed c = called _ _ _ _ _ (passes (rw (c.valid.ensures, c.valid-2.ensures) at c.check_lent.ensures.refuses) c.in_ok-lent.was)

pub invariant_of-levels_of : goal.invariant_of-levels_of
invariant_of-levels_of c = record { passes = row_holds 3 (both _ _ (passed (goal.at.invariant_of-levels_of c).In_ok-lent).settings_ok_lem).1 }

pub invariant_of-driven_at : goal.invariant_of-driven_at
invariant_of-driven_at c = record { passes = (passed (goal.at.invariant_of-driven_at c).In_ok-lent).scan_passed }

pub invariant_of-driven_at-2 : goal.invariant_of-driven_at-2
invariant_of-driven_at-2 c = record { passes = row_holds 3 (both _ _ (passed (goal.at.invariant_of-driven_at-2 c).In_ok-lent).settings_ok_lem).0 }

pub invariant_of-driven_at-3 : goal.invariant_of-driven_at-3
invariant_of-driven_at-3 c = record { passes = row_holds 1 (passed (goal.at.invariant_of-driven_at-3 c).In_ok-lent).in_range_lem }

pub returns : goal.returns
unfolding drive_scan
returns c =
    let e = rw (c.valid.ensures, c.valid-2.ensures) at c.check_lent.ensures.refuses in
    let same = c.in_ok-lent.ensures.keeps in
    rw (c.driven_at.ensures, c.levels_of-levels.ensures, same.0, same.1) (passed_answer e _ _ c.in_ok-lent.was)
