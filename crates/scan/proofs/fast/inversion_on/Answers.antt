use Rattle.std.proofs.Common.{refl, eq-eqb}
use Rattle.scan.specs.Fast.{inversion_on}
use Rattle.scan.proofs.fast.inversion_on.Goals as goal

pub returns : goal.returns
unfolding inversion_on
returns c = let lines = c.args.inversion.lines in simp (c.taken.ensures, eq-eqb lines lines refl)
