use Prim.Native.Nat.{ℕ, suc, ◌+◌, ◌-◌}
use mathlib.Core.Path.{◌≡◌, refl, sym, ◌∙◌, ap}
use native.Mathlib.Omega.{arith}
use lib.ListN.{length, length-set}
use Rattle.std.proofs.lemmas.List.{set-get_or}
use Rattle.decimal.specs.Decimal.{line_at, separator}
use Rattle.decimal.specs.Rest.{field_in, line_rest, line_in}
use Rattle.decimal.proofs.Rests.{field_shorter, line_step, line_fails}
use Rattle.decimal.proofs.read_line.Goals as goal

pub loop-i-init : goal.loop-i-init
unfolding line_in
loop-i-init c =
    let a = c.args in
    let all : length a.out.now - 0 ≡ length a.out.now = omega arith in
    (refl, (omega arith, ap (λ (n : ℕ). line_rest a.text.now (line_at n a.text.now 0 0 a.out.now)) all))

pub returns-in_err-number-clause-line : goal.returns-in_err-number-clause-line
returns-in_err-number-clause-line c =
    let l = c.loop-i in
    let left = length c.args.out.now - 1 - l.i in
    let field = c.in_err-number.ensures ∙ ap (field_in l.rest.now) c.byte_after.ensures in
    let one_more : length c.args.out.now - l.i ≡ suc left = omega arith in
    rw (c.from_residual.ensures, set-get_or)
    (sym (line_fails l.rest.now left l.i l.out field) ∙ ap (λ (n : ℕ). line_rest l.rest.now (line_at n l.rest.now 0 l.i l.out)) (sym one_more) ∙ l.invariant.1.1)

pub loop-i-preserved : goal.loop-i-preserved
loop-i-preserved c =
    let l = c.loop-i in
    let left = length c.args.out.now - 1 - l.i in
    let number = c.in_ok-number.number in
    let field = c.in_ok-number.ensures ∙ ap (field_in l.rest.now) c.byte_after.ensures in
    let one_more : length c.args.out.now - l.i ≡ suc left = omega arith in
    let others : length c.args.out.now - (l.i + 1) ≡ left = omega arith in (
      rw length-set l.invariant.0,
      (
        omega (arith, l.invariant.1.0, field_shorter l.rest.now (separator left) number.value number.rest.now field),
        rw others
            (sym (line_step l.rest.now left l.i l.out number.value number.rest.now field)
            ∙ ap (λ (n : ℕ). line_rest l.rest.now (line_at n l.rest.now 0 l.i l.out)) (sym one_more)
            ∙ l.invariant.1.1),
      ),
    )

pub returns-clause-line : goal.returns-clause-line
unfolding line_at
returns-clause-line c =
    let l = c.loop-i in
    let none : length c.args.out.now - l.i ≡ 0 = omega arith in
    ap (λ (n : ℕ). line_rest l.rest.now (line_at n l.rest.now 0 l.i l.out)) (sym none) ∙ l.invariant.1.1
