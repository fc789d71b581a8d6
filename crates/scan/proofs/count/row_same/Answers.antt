use Rattle.scan.specs.Count.{row_same}
use Rattle.scan.proofs.count.row_same.Goals as goal

pub returns : goal.returns
unfolding row_same
returns c =
    simp c.pwm_of.ensures
