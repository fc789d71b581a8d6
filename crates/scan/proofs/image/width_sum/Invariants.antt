use Rattle.std.proofs.Common.{◌≡◌}
use Rattle.scan.specs.Image.{widths}
use Rattle.scan.proofs.image.width_sum.Given as goal

abbrev pub invariant-loop-phase : goal.invariant-loop-phase
invariant-loop-phase l = l.sum ≡ widths l.settings l.shade l.phase
