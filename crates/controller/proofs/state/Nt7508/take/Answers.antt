use mathlib.Core.Path.{sym, ◌∙◌, ap, ap₂}
use Prim.Native.Nat.{ℕ}
use Rattle.std.specs.Prelude.{None}
use Rattle.std.proofs.lemmas.Result.{err_from_is_err_and}
use Rattle.checks.proofs.Results.{refused_at_ok, refused_at_err}
use Rattle.checks.proofs.Tests.{both}
use Rattle.controller.specs.Check.{number}
use Rattle.controller.specs.Bits.{Outcome, edges, unpacked, quiet}
use Rattle.controller.proofs.Groups.{group_passed}
use Rattle.controller.proofs.Whole.{group_refused, group_registers, registers_passed, second_fails}
use Rattle.controller.proofs.state.Nt7508.take.Goals as goal

pub invariant_of-whole : goal.invariant_of-whole
invariant_of-whole c =
    let passed = (both _ _ c.if-registers_ok-completes.true).0 in
    record { fits = (registers_passed _ _ _ _ _ _ (sym c.registers_ok.ensures ∙ passed)).group_ok_lem }

pub returns-in_err-group : goal.returns-in_err-group
returns-in_err-group c =
    let p = err_from_is_err_and c.from_residual.result c.from_residual.ensures.1 in
    rw (p.1, p.2) (group_refused _ _ _ _ _ _ _ (refused_at_err number _ c.check_group.ensures.refuses c.in_err-group.was))

pub short-requires : goal.short-requires
short-requires c =
    let checked = refused_at_ok number _ c.check_group.ensures.refuses c.in_ok-group.was in
    rw c.in_ok-group.ensures.keeps.1
    (second_fails c.registers_ok.ensures c.completes.ensures (group_registers _ _ _ _ _ _ checked) c.if-registers_ok-completes.false)

pub returns : goal.returns
returns c =
    let checked = refused_at_ok number _ c.check_group.ensures.refuses c.in_ok-group.was in
    let given = c.in_ok-group.ensures.keeps in
    let now = c.args.moment in
    let start = quiet c.args.self c.args.memory.ram.now c.args.memory.icons.now in
    simp c.unstored.ensures
    (ap (λ (o : Outcome). (None, o)) (sym (c.short.ensures _ _ _) ∙ ap₂ (λ (bits count : ℕ). edges (unpacked count bits) now start) given.0 given.1)
    ∙ sym (group_passed _ _ _ _ _ _ checked))
