use Rattle.std.proofs.Common.{ap, ◌∙◌}
use Rattle.checks.proofs.Tests.{test_false}
use Rattle.scan.specs.Check.{check_scan}
use Rattle.scan.proofs.Answers.{count_to_checked}
use Rattle.scan.proofs.Due.{counted_none}
use Rattle.scan.proofs.count.latest.Goals as goal

pub returns-then-not-is_due : goal.returns-then-not-is_due
returns-then-not-is_due c = counted_none _ _ _ (test_false c.is_due.ensures c.if-not-is_due.true)

pub invariant_of-result : goal.invariant_of-result
invariant_of-result c =
    let a = c.args in
    record { passes = ap check_scan c.counted_to.ensures ∙ count_to_checked _ _ _ a.scan.passes a.settings.passes a.now.passes }
