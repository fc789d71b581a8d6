use Rattle.checks.proofs.Chains.{row_passed}
use Rattle.checks.proofs.Tests.{test_false, test_true}
use Rattle.scan.proofs.FastPath.{fast_stopped, fast_refused, fast_check, fast_few, fast_none, fast_other, fast_moved}
use Rattle.scan.proofs.fast.counted_fast.Goals as goal

pub returns-in_default : goal.returns-in_default
returns-in_default c = fast_stopped _ _ _ c.in_default.is

pub returns-in_default-passed_to : goal.returns-in_default-passed_to
returns-in_default-passed_to c =
    fast_refused _ _ _ (row_passed 1 _ c.args.now.passes, (row_passed 3 _ c.args.settings.passes, c.requires)) c.in-Some.is _ c.passed_to.ensures c.in_default-passed_to.is

pub returns-then-passed-eq0 : goal.returns-then-passed-eq0
returns-then-passed-eq0 c =
    fast_none _ _ _ (row_passed 1 _ c.args.now.passes, (row_passed 3 _ c.args.settings.passes, c.requires)) c.in-Some.is _ c.passed_to.ensures c.in-Ok.is c.if-passed-eq0.true

pub returns-then-not-in_force : goal.returns-then-not-in_force
returns-then-not-in_force c =
    fast_other _ _ _ (row_passed 1 _ c.args.now.passes, (row_passed 3 _ c.args.settings.passes, c.requires)) c.in-Some.is _ c.passed_to.ensures c.in-Ok.is c.if-passed-eq0.false (test_false c.in_force.ensures c.if-not-in_force.true)

pub invariant_of-moved_on : goal.invariant_of-moved_on
invariant_of-moved_on c =
    record { passes = fast_check _ _ _ (row_passed 1 _ c.args.now.passes, (row_passed 3 _ c.args.settings.passes, c.requires)) c.in-Some.is _ c.passed_to.ensures c.in-Ok.is }

pub invariant_of-quanta : goal.invariant_of-quanta
invariant_of-quanta c =
    record { few = fast_few _ _ _ (row_passed 1 _ c.args.now.passes, (row_passed 3 _ c.args.settings.passes, c.requires)) c.in-Some.is _ c.passed_to.ensures c.in-Ok.is }

pub returns : goal.returns
returns c =
    fast_moved _ _ _ (row_passed 1 _ c.args.now.passes, (row_passed 3 _ c.args.settings.passes, c.requires)) c.in-Some.is _ c.passed_to.ensures c.in-Ok.is c.if-passed-eq0.false (test_true c.in_force.ensures c.if-not-in_force.false) c.moved_on.ensures
