use Rattle.std.proofs.Common.{sym, ap, ◌∙◌}
use Rattle.checks.proofs.Tests.{test_false}
use Rattle.scan.specs.Check.{check_scan}
use Rattle.scan.proofs.FastPath.{shown_stays, not_shown}
use Rattle.scan.proofs.Latches.{retained_check}
use Rattle.scan.proofs.byte.altered.Goals as goal

pub returns-then-stays_shown : goal.returns-then-stays_shown
returns-then-stays_shown c = rw (← shown_stays _ _ _ _ _ (sym c.stays_shown.ensures ∙ c.if-stays_shown.true)) c.updated.ensures

pub invariant_of-retained : goal.invariant_of-retained
invariant_of-retained c =
    let a = c.args in
    let next = c.latch_retained.ensures ∙ not_shown _ _ a.page _ _ (test_false c.stays_shown.ensures c.if-stays_shown.false) in
    record { passes = ap check_scan next ∙ retained_check _ _ _ _ _ ∙ a.scan.passes }

pub returns : goal.returns
returns c =
    let a = c.args in
    let next = c.latch_retained.ensures ∙ not_shown _ _ a.page _ _ (test_false c.stays_shown.ensures c.if-stays_shown.false) in
    rw (← next) c.updated-2.ensures
