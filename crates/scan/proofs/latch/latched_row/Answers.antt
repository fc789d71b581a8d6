use Rattle.std.proofs.Common.{eq-eqb, ne_eqb}
use Rattle.scan.specs.Latch.{latched_row}
use Rattle.scan.proofs.Latches.{row_sum}
use Rattle.scan.proofs.latch.latched_row.Goals as goal

pub returns-then-scan : goal.returns-then-scan
unfolding latched_row
returns-then-scan c = simp (eq-eqb _ _ c.if-scan.true)

pub returns : goal.returns
unfolding latched_row
returns c = simp (ne_eqb _ _ c.if-scan.false) (row_sum _ _)
