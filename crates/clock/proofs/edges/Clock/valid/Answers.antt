use mathlib.Core.Bool.{◌&&◌}
use mathlib.Core.Path.{refl, sym}
use Rattle.checks.proofs.Tests.{test_true}
use Rattle.clock.specs.Position.{position}
use Rattle.clock.specs.Check.{valid_clock}
use Rattle.clock.proofs.Positions.{ordinal_test, ordinal_above}
use Rattle.clock.proofs.Checks.{lcd_passed}
use Rattle.clock.proofs.edges.Clock.valid.Goals as goal

pub returns-then-self-position : goal.returns-then-self-position
unfolding valid_clock position
returns-then-self-position c =
    let a = c.args in
    let b = lcd_passed a.rate.value a.rate.passes in
    let e = test_true {r = c.is_of_rate.result && _ && c.in_range.result} refl c.if-not-is_of_rate-is_below.false in
    rw (← c.is_of_rate.ensures, ← c.in_range.ensures, e)
    (sym (ordinal_above a.self.ordinal _ a.rate.value.denominator b.denominator_low (rw c.position_of-position.ensures at c.if-self-position.true)))

pub returns : goal.returns
unfolding valid_clock position
returns c =
    let a = c.args in
    let e = test_true {r = c.is_of_rate.result && _ && c.in_range.result} refl c.if-not-is_of_rate-is_below.false in
    rw (← c.is_of_rate.ensures, ← c.in_range.ensures, e, c.position_of-position.ensures)
    (ordinal_test a.self.ordinal _ a.rate.value.denominator)
