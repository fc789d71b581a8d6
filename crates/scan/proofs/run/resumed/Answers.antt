use Rattle.scan.specs.Run.{resumed}
use Rattle.scan.proofs.run.resumed.Goals as goal

pub returns-then-runs : goal.returns-then-runs
unfolding resumed
returns-then-runs c = simp (c.if-runs.true, c.clocked.ensures, c.cleared-cleared.ensures)

pub returns : goal.returns
unfolding resumed
returns c = simp (c.if-runs.false, c.stopped.ensures, c.cleared-cleared.ensures)
