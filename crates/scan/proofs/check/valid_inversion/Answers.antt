use Rattle.scan.specs.Check.{valid_inversion}
use Rattle.scan.proofs.check.valid_inversion.Goals as goal

pub returns : goal.returns
unfolding valid_inversion
returns c =
    simp c.lines_ok.ensures
