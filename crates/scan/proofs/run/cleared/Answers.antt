use Rattle.std.proofs.Common.{eq-eqb, ne_eqb}
use Rattle.scan.specs.Run.{cleared}
use Rattle.scan.specs.State.{with_inversion}
use Rattle.scan.proofs.Runs.{cleared_passes}
use Rattle.scan.proofs.run.cleared.Goals as goal

pub returns-then-settings-ne0 : goal.returns-then-settings-ne0
unfolding cleared with_inversion
returns-then-settings-ne0 c = simp (ne_eqb _ _ c.if-settings-ne0.true)

pub invariant_of-result : goal.invariant_of-result
unfolding cleared with_inversion
invariant_of-result c =
    let a = c.args in record { passes = cleared_passes a.scan.value a.settings a.scan.passes (simp (eq-eqb _ _ c.if-settings-ne0.false)) }

pub returns : goal.returns
unfolding cleared with_inversion
returns c =
    simp (eq-eqb _ _ c.if-settings-ne0.false)
