use Prim.Native.Nat.{ℕ, ◌+◌, ◌*◌}
use mathlib.Core.Bool.{◌&&◌}
use mathlib.Core.Path.{◌≡◌, ◌∙◌, ap}
use native.Mathlib.Omega.{arith}
use lib.Dec.{eqb, ltb}
use borrow.Author.Tests.{ltb-true, eqb-true}
use Rattle.std.proofs.lemmas.Bool.{and_parts}
use Rattle.checks.proofs.Tests.{refutes}
use Rattle.clock.specs.Position.{period}
use Rattle.clock.specs.Wide.{value}
use Rattle.clock.proofs.Positions.{of_rate_small, of_rate_by_product}
use Rattle.clock.proofs.Checks.{lcd_passed}
use Rattle.clock.proofs.edges.Clock.is_of_rate.Goals as goal

pub returns-then-not-self-rate : goal.returns-then-not-self-rate
returns-then-not-self-rate c =
    refutes (of_rate_small c.args.self c.args.rate.value (lcd_passed _ c.args.rate.passes)) c.if-not-self-rate.true

pub returns : goal.returns
returns c =
    let a = c.args in
    let small = and_parts (eqb a.self.denominator a.rate.value.numerator && ltb a.self.remainder a.rate.value.numerator) (eqb a.self.whole.high 0) c.if-not-self-rate.false in
    let rest = and_parts (eqb a.self.denominator a.rate.value.numerator) (ltb a.self.remainder a.rate.value.numerator) small.0 in
    let low : a.self.whole.low ≡ value a.self.whole = omega (arith, eqb-true a.self.whole.high 0 small.1) in
    c.product_is.ensures
    ∙ ap (λ (n : ℕ). eqb (n * a.rate.value.numerator + a.self.remainder) (period a.rate.value)) low
    ∙ of_rate_by_product a.self a.rate.value (lcd_passed _ c.args.rate.passes) rest.0 (ltb-true _ _ rest.1)
