use Rattle.std.proofs.Common.{sym, ap, ◌∙◌, arith}
use Rattle.std.specs.Prelude.{Ok}
use Rattle.checks.proofs.Chains.{row_passed}
use Rattle.std.proofs.lemmas.Result.{err_from_is_err_and}
use Rattle.scan.specs.declared.count.Counted.{Counted}
use Rattle.scan.specs.Count.{answered_count}
use Rattle.scan.proofs.Stretches.{left_all, left_few, left_stopped, left_refused, left_passes, left_zero, left_asked, left_next, left_less, left_room, left_last}
use Rattle.scan.proofs.stretch.in_pieces.Goals as goal

pub loop-from-init : goal.loop-from-init
loop-from-init c = left_all _ _ _ (rw c.rebuilt-from.ensures (row_passed 1 _ c.args.now.passes, (row_passed 3 _ c.args.settings.passes, c.requires)))

pub counted_as-requires : goal.counted_as-requires
counted_as-requires c =
    (left_stopped c.loop-from.invariant c.in_default.is).0

pub returns-in_default : goal.returns-in_default
returns-in_default c =
    rw (sym c.rebuilt-from.ensures) (ap (λ (r : Counted). answered_count c.args.scan (Ok r)) c.counted_as.ensures ∙ (left_stopped c.loop-from.invariant c.in_default.is).1)

pub returns-in_err-passed : goal.returns-in_err-passed
returns-in_err-passed c =
    let p = err_from_is_err_and c.from_residual.result c.from_residual.ensures.1 in
    rw (p.1, p.2, sym c.rebuilt-from.ensures)
    (left_refused c.loop-from.invariant c.in-Some.is c.stretch_limit-limit.ensures _ c.passed_to.ensures c.in_err-passed.was)

pub counted_as-requires-then-passed-eq0 : goal.counted_as-requires-then-passed-eq0
counted_as-requires-then-passed-eq0 c =
    let a = c.loop-from.invariant in
    left_few a (left_passes a c.in-Some.is c.stretch_limit-limit.ensures _ c.passed_to.ensures c.in_ok-passed.was)

pub returns-then-passed-eq0 : goal.returns-then-passed-eq0
returns-then-passed-eq0 c =
    rw (sym c.rebuilt-from.ensures)
    (ap (λ (r : Counted). answered_count c.args.scan (Ok r)) c.counted_as-then-passed-eq0.ensures
    ∙ left_zero c.loop-from.invariant c.in-Some.is c.stretch_limit-limit.ensures _ c.passed_to.ensures c.in_ok-passed.was c.if-passed-eq0.true)

pub invariant_of-due : goal.invariant_of-due
invariant_of-due c =
    record { few = (left_asked c.loop-from.invariant c.in-Some.is c.stretch_limit-limit.ensures _ c.passed_to.ensures c.in_ok-passed.was c.if-passed-eq0.false).1.1.0 }

pub invariant_of-due-in-loop-from : goal.invariant_of-due-in-loop-from
invariant_of-due-in-loop-from c =
    record { at_in_range = (left_asked c.loop-from.invariant c.in-Some.is c.stretch_limit-limit.ensures _ c.passed_to.ensures c.in_ok-passed.was c.if-passed-eq0.false).1.1.1 }

pub invariant_of-stretch : goal.invariant_of-stretch
invariant_of-stretch c =
    record { passes = (left_asked c.loop-from.invariant c.in-Some.is c.stretch_limit-limit.ensures _ c.passed_to.ensures c.in_ok-passed.was c.if-passed-eq0.false).0 }

pub overflow_add-before : goal.overflow_add-before
overflow_add-before c =
    let room = left_room c.loop-from.invariant c.in-Some.is c.stretch_limit-limit.ensures _ c.passed_to.ensures c.in_ok-passed.was c.if-passed-eq0.false c.stretch-run.ensures in
    record { fits = omega arith }

pub counted_as-requires-then-passed-limit : goal.counted_as-requires-then-passed-limit
counted_as-requires-then-passed-limit c =
    let room = left_room c.loop-from.invariant c.in-Some.is c.stretch_limit-limit.ensures _ c.passed_to.ensures c.in_ok-passed.was c.if-passed-eq0.false c.stretch-run.ensures in
    omega arith

pub returns-then-passed-limit : goal.returns-then-passed-limit
returns-then-passed-limit c =
    rw (sym c.rebuilt-from.ensures)
    (ap (λ (r : Counted). answered_count c.args.scan (Ok r)) c.counted_as-then-passed-limit.ensures
    ∙ left_last c.loop-from.invariant c.in-Some.is c.stretch_limit-limit.ensures _ c.passed_to.ensures c.in_ok-passed.was c.if-passed-eq0.false c.stretch-run.ensures c.if-passed-limit.true)

pub loop-from-smaller : goal.loop-from-smaller
loop-from-smaller c =
    left_less c.loop-from.invariant c.in-Some.is c.stretch_limit-limit.ensures _ c.passed_to.ensures c.in_ok-passed.was c.if-passed-eq0.false c.stretch-run.ensures

pub loop-from-preserved : goal.loop-from-preserved
loop-from-preserved c =
    left_next c.loop-from.invariant c.in-Some.is c.stretch_limit-limit.ensures _ c.passed_to.ensures c.in_ok-passed.was c.if-passed-eq0.false c.stretch-run.ensures
