use Rattle.std.proofs.Common.{sym, ◌∙◌}
use Rattle.scan.specs.Run.{updated}
use Rattle.scan.proofs.Steady.{settled_same}
use Rattle.scan.proofs.run.updated.Goals as goal

pub returns-in-Begins : goal.returns-in-Begins
unfolding updated
returns-in-Begins c =
    simp (c.in-Begins.is, c.clocked.ensures, c.begun.ensures)

pub returns-in-Continues : goal.returns-in-Continues
unfolding updated
returns-in-Continues c = simp (c.in-Continues.is, c.resumed.ensures)

pub returns-in-Stands : goal.returns-in-Stands
unfolding updated
returns-in-Stands c = simp (c.in-Stands.is, c.resumed-in-Stands.ensures)

pub returns-then-settled : goal.returns-then-settled
returns-then-settled c = sym (settled_same _ _ _ _ _ _ (sym c.settled.ensures ∙ c.if-settled.true))
