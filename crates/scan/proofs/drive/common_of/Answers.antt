use Rattle.std.proofs.Common.{ℕ, ◌-◌, ap, eq-eqb, ne_eqb}
use Rattle.scan.specs.Drive.{common_of}
use Rattle.scan.proofs.Latches.{row_sum}
use Rattle.scan.proofs.drive.common_of.Goals as goal

pub returns-then-scan : goal.returns-then-scan
unfolding common_of
returns-then-scan c = simp (eq-eqb _ _ c.if-scan.true)

pub returns-then-scan-2 : goal.returns-then-scan-2
unfolding common_of
returns-then-scan-2 c = simp (ne_eqb _ _ c.if-scan.false, c.if-scan-2.true) (ap (λ (k : ℕ). 127 - k) (row_sum _ _))

pub returns : goal.returns
unfolding common_of
returns c = simp (ne_eqb _ _ c.if-scan.false, c.if-scan-2.false) (row_sum _ _)
