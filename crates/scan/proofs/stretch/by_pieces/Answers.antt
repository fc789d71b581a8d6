use Rattle.std.proofs.Common.{min, ap, ◌∙◌, arith}
use Rattle.scan.proofs.Stretches.{checked, taken_none, taken_check, taken_some, taken_next}
use Rattle.scan.proofs.stretch.by_pieces.Goals as goal

pub loop-left-init : goal.loop-left-init
loop-left-init c = taken_none _ _ _ (checked _ _ c.args.scan.passes c.args.settings.passes c.args.quanta.few)

pub invariant_of-advanced : goal.invariant_of-advanced
invariant_of-advanced c =
    let a = c.args in record { passes = taken_check _ _ _ (checked _ _ a.scan.passes a.settings.passes a.quanta.few) c.loop-left.invariant }

pub invariant_of-advanced-in-loop-left : goal.invariant_of-advanced-in-loop-left
invariant_of-advanced-in-loop-left c =
    record { few = omega (arith, c.min-count.ensures, c.loop-left.invariant.sum, c.args.quanta.few) }

pub loop-left-smaller : goal.loop-left-smaller
loop-left-smaller c =
    let a = c.args in
    let some = taken_some _ _ _ (checked _ _ a.scan.passes a.settings.passes a.quanta.few) c.loop-left.invariant c.loop-left-test.true (c.min-count.ensures ∙ ap (min c.loop-left.left) c.limit_in.ensures) in
    omega (arith, c.loop-left-test.true)

pub loop-left-preserved : goal.loop-left-preserved
loop-left-preserved c =
    let a = c.args in
    taken_next _ _ _ (checked _ _ a.scan.passes a.settings.passes a.quanta.few) c.loop-left.invariant c.loop-left-test.true (c.min-count.ensures ∙ ap (min c.loop-left.left) c.limit_in.ensures) c.advanced-from.ensures
