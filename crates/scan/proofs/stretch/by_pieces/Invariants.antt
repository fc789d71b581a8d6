use Rattle.scan.proofs.Stretches.{Taken}
use Rattle.scan.proofs.stretch.by_pieces.Given as goal

abbrev pub invariant-loop-left : goal.invariant-loop-left
invariant-loop-left l = Taken l.initial.from l.settings.value l.initial.left l.from l.left l.uses

abbrev pub decreases-loop-left : goal.decreases-loop-left
decreases-loop-left l = l.left
