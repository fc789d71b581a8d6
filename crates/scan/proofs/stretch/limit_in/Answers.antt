use Rattle.checks.proofs.Tests.{test_false, test_true}
use Rattle.scan.specs.Count.{limit_with}
use Rattle.scan.proofs.stretch.limit_in.Goals as goal

pub returns-then-not-rate_same : goal.returns-then-not-rate_same
unfolding limit_with
returns-then-not-rate_same c = simp (test_false c.rate_same.ensures c.if-not-rate_same.true)

pub returns-then-not-row_same : goal.returns-then-not-row_same
unfolding limit_with
returns-then-not-row_same c =
    simp (test_true c.rate_same.ensures c.if-not-rate_same.false, test_false c.row_same.ensures c.if-not-row_same.true, c.row_remaining.ensures)

pub returns-then-not-frame_same : goal.returns-then-not-frame_same
unfolding limit_with
returns-then-not-frame_same c =
    simp (test_true c.rate_same.ensures c.if-not-rate_same.false, test_true c.row_same.ensures c.if-not-row_same.false, test_false c.frame_same.ensures c.if-not-frame_same.true, c.frame_remaining.ensures)

pub returns : goal.returns
unfolding limit_with
returns c =
    simp (test_true c.rate_same.ensures c.if-not-rate_same.false, test_true c.row_same.ensures c.if-not-row_same.false, test_true c.frame_same.ensures c.if-not-frame_same.false)
