use Rattle.scan.specs.Byte.{settled}
use Rattle.scan.proofs.Steady.{has_clock_is}
use Rattle.scan.proofs.run.settled.Goals as goal

pub returns-in-Begins : goal.returns-in-Begins
unfolding settled
returns-in-Begins c = simp c.in-Begins.is

pub returns-in-Continues : goal.returns-in-Continues
unfolding settled
returns-in-Continues c =
    simp (c.in-Continues.is, c.lines_stay-stay.ensures, c.is_some-clocked.ensures, has_clock_is, c.keeps_clock.ensures)

pub returns-in-Stands : goal.returns-in-Stands
unfolding settled
returns-in-Stands c =
    simp (c.in-Stands.is, c.lines_stay-stay.ensures, c.is_some-clocked.ensures, has_clock_is)
