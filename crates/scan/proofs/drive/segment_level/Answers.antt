use Rattle.scan.specs.Drive.{segment_level}
use Rattle.scan.proofs.drive.segment_level.Goals as goal

pub returns-in-true-true : goal.returns-in-true-true
unfolding segment_level
returns-in-true-true c = simp (c.in-true-true.is-0, c.in-true-true.is-1)

pub returns-in-true-false : goal.returns-in-true-false
unfolding segment_level
returns-in-true-false c = simp (c.in-true-false.is-0, c.in-true-false.is-1)

pub returns-in-false-true : goal.returns-in-false-true
unfolding segment_level
returns-in-false-true c = simp (c.in-false-true.is-0, c.in-false-true.is-1)

pub returns-in-false-false : goal.returns-in-false-false
unfolding segment_level
returns-in-false-false c = simp (c.in-false-false.is-0, c.in-false-false.is-1)
