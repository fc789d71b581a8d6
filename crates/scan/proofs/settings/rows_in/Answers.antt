use Rattle.scan.specs.Settings.{rows_in}
use Rattle.scan.proofs.settings.rows_in.Goals as goal

pub returns-then-frame : goal.returns-then-frame
unfolding rows_in
returns-then-frame c = simp (c.if-frame.true, c.from.ensures)

pub returns : goal.returns
unfolding rows_in
returns c = simp (c.if-frame.false, c.from-2.ensures)
