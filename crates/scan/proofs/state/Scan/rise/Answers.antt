use Rattle.std.proofs.lemmas.Result.{err_from_is_err_and}
use Rattle.scan.specs.Check.{valid_settings}
use Rattle.scan.specs.Run.{rise_scan}
use Rattle.scan.proofs.Checks.{Timed, timed, passes, row_holds, passed_answer, refused_answer}
use Rattle.scan.proofs.state.Scan.rise.Goals as goal
use Rattle.scan.proofs.state.Scan.rise.Goals.{In_ok-check_moment}

pub returns-in_err-check_moment : goal.returns-in_err-check_moment
unfolding rise_scan
returns-in_err-check_moment c =
    let p = err_from_is_err_and c.from_residual.result c.from_residual.ensures.1 in
    rw (p.1, p.2) (refused_answer (simp c.valid.ensures at c.check_moment.ensures) _ _ c.in_err-check_moment.was)

pub returns : goal.returns
unfolding rise_scan
returns c =
    simp c.resumed.ensures (passed_answer (simp c.valid.ensures at c.check_moment.ensures) _ _ c.in_ok-check_moment.was)

-- what the check found
passed : (c : In_ok-check_moment) → Timed c.args.self (valid_settings c.args.settings) c.args.now
passed c = timed _ _ _ (passes (simp c.valid.ensures at c.check_moment.ensures) c.in_ok-check_moment.was)

pub invariant_of-resumed : goal.invariant_of-resumed
invariant_of-resumed c = record { passes = (passed (goal.at.invariant_of-resumed c).In_ok-check_moment).scan_passed }

pub invariant_of-resumed-2 : goal.invariant_of-resumed-2
invariant_of-resumed-2 c = record { passes = row_holds 3 (passed (goal.at.invariant_of-resumed-2 c).In_ok-check_moment).settings_ok_lem }

pub invariant_of-resumed-3 : goal.invariant_of-resumed-3
invariant_of-resumed-3 c = record { passes = row_holds 1 (passed (goal.at.invariant_of-resumed-3 c).In_ok-check_moment).in_range_lem }
