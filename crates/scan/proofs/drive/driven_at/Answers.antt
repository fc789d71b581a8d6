use Rattle.std.proofs.Common.{sym}
use Rattle.checks.proofs.Tests.{test_false, test_true}
use Rattle.scan.specs.Drive.{drive_at, frame_at}
use Rattle.scan.proofs.Due.{counted_none}
use Rattle.scan.proofs.drive.driven_at.Goals as goal

pub returns-then-not-driven : goal.returns-then-not-driven
unfolding drive_at frame_at
returns-then-not-driven c = simp (test_false c.driven.ensures c.if-not-driven.true, c.undriven.ensures)

pub returns-then-not-is_due : goal.returns-then-not-is_due
unfolding drive_at frame_at
returns-then-not-is_due c =
    let a = c.args in
    let stays = sym (counted_none a.scan.value a.settings.value a.moment.value (test_false c.is_due.ensures c.if-not-is_due.true)) in
    simp (test_true c.driven.ensures c.if-not-driven.false, stays, c.driven_of.ensures)

pub returns : goal.returns
unfolding drive_at frame_at
returns c =
    simp (test_true c.driven.ensures c.if-not-driven.false, c.driven_of-2.ensures, c.counted_to-counted.ensures)
