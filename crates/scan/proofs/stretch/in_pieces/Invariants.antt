use Rattle.scan.specs.Count.{pieces}
use Rattle.scan.proofs.Stretches.{Left}
use Rattle.scan.proofs.stretch.in_pieces.Given as goal

abbrev pub invariant-loop-from : goal.invariant-loop-from
invariant-loop-from l = Left l.initial.from l.settings.value l.now.value l.from l.before

abbrev pub decreases-loop-from : goal.decreases-loop-from
decreases-loop-from l = pieces l.from l.settings.value l.now.value
