use Rattle.checks.proofs.Chains.{row_passed}
use Rattle.scan.specs.Run.{begun}
use Rattle.scan.proofs.Runs.{begun_passes}
use Rattle.scan.proofs.run.begun.Goals as goal

pub invariant_of-result : goal.invariant_of-result
unfolding begun
invariant_of-result c =
    let a = c.args in
    record { passes = begun_passes c.taken-taken.result a.settings.value a.lent.ram.now a.lent.icons.now (row_passed 3 _ a.settings.passes) (simp (c.latch_retained.ensures, c.taken-taken.ensures)) }

pub returns : goal.returns
unfolding begun
returns c = simp (c.latch_retained.ensures, c.taken-taken.ensures)
