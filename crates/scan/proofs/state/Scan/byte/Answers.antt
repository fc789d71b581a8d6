use Rattle.std.proofs.lemmas.Result.{err_from_is_err_and}
use Rattle.std.specs.Prelude.{◌&&◌}
use Rattle.checks.proofs.Tests.{both}
use Rattle.scan.specs.Check.{valid_settings}
use Rattle.scan.specs.Run.{byte_scan}
use Rattle.scan.proofs.Checks.{Called, called, passes, row_holds, passed_answer, refused_answer}
use Rattle.scan.proofs.state.Scan.byte.Goals as goal
use Rattle.scan.proofs.state.Scan.byte.Goals.{In_ok-lent}

pub returns-in_err-lent : goal.returns-in_err-lent
unfolding byte_scan
returns-in_err-lent c =
    let p = err_from_is_err_and c.from_residual.result c.from_residual.ensures.1 in
    rw (p.1, p.2) (refused_answer (simp (c.valid-2.ensures, c.valid.ensures) at c.check_lent.ensures.refuses) _ _ c.in_err-lent.was)

-- what the check found
passed : (c : In_ok-lent) → Called c.args.self (valid_settings c.args.before && valid_settings c.args.after) c.args.moment c.args.memory.ram.now c.args.memory.icons.now
passed c = called _ _ _ _ _ (passes (simp (c.valid-2.ensures, c.valid.ensures) at c.check_lent.ensures.refuses) c.in_ok-lent.was)

pub invariant_of-latest : goal.invariant_of-latest
invariant_of-latest c = record { passes = (passed (goal.at.invariant_of-latest c).In_ok-lent).scan_passed }

pub invariant_of-latest-2 : goal.invariant_of-latest-2
invariant_of-latest-2 c = record { passes = row_holds 3 (both _ _ (passed (goal.at.invariant_of-latest-2 c).In_ok-lent).settings_ok_lem).0 }

pub invariant_of-moment : goal.invariant_of-moment
invariant_of-moment c = record { passes = row_holds 1 (passed (goal.at.invariant_of-moment c).In_ok-lent).in_range_lem }

pub invariant_of-after : goal.invariant_of-after
invariant_of-after c = record { passes = row_holds 3 (both _ _ (passed (goal.at.invariant_of-after c).In_ok-lent).settings_ok_lem).1 }

pub returns : goal.returns
unfolding byte_scan
returns c =
    let same = c.in_ok-lent.ensures.keeps in
    simp (c.altered.ensures, c.latest-counted.ensures, same.0, same.1)
    (passed_answer (simp (c.valid-2.ensures, c.valid.ensures) at c.check_lent.ensures.refuses) _ _ c.in_ok-lent.was)
