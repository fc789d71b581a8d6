use Rattle.std.proofs.Common.{◌≡◌, ◌*◌, ◌++◌, drop}
use Rattle.scan.specs.Image.{rows_up_to, image_row}
use Rattle.scan.proofs.paint.paint.Given as goal

abbrev pub invariant-loop-y : goal.invariant-loop-y
invariant-loop-y l = l.image ≡ rows_up_to (image_row l.settings l.lit l.ram) l.y ++ drop (l.y * 96) l.initial.image
