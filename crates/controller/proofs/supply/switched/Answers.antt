use Rattle.controller.proofs.Checks.{timed, both_passed}
use Rattle.controller.proofs.Supplies.{chilled_timed, switched_falls, switched_rises, switched_stays}
use Rattle.controller.proofs.supply.switched.Goals as goal

pub returns-then-supplied-on : goal.returns-then-supplied-on
returns-then-supplied-on c =
    simp (c.chilled.ensures, c.fallen.ensures) (switched_falls _ c.args.millivolts _ (simp c.supplied_at-on.ensures at c.if-supplied-on.true))

pub invariant_of-risen : goal.invariant_of-risen
invariant_of-risen c =
    let checked = chilled_timed _ c.args.millivolts _ (both_passed _ _ c.args.state.passes c.args.now.passes) in
    record { passes = simp c.chilled-value.ensures (timed _ _ checked).state }

pub returns-then-on-supplied : goal.returns-then-on-supplied
returns-then-on-supplied c =
    simp (c.risen.ensures, c.chilled-value.ensures) (switched_rises _ c.args.millivolts _ (simp c.supplied_at-on.ensures at c.if-on-supplied.true))

pub returns : goal.returns
returns c =
    let said = c.supplied_at-on.ensures in
    simp c.chilled-2.ensures (switched_stays _ c.args.millivolts _ (simp said at c.if-supplied-on.false) (simp said at c.if-on-supplied.false))
