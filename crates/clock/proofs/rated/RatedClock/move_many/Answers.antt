use Prim.Native.Nat.{ℕ, ◌+◌, ◌*◌, ◌^◌}
use mathlib.Core.Path.{◌∙◌, ap}
use native.Mathlib.Nat.{mul-le-mul}
use native.Mathlib.Omega.{arith}
use Rattle.clock.specs.declared.wide.Quotient.{Quotient}
use Rattle.clock.specs.declared.wide.Wide.{Wide}
use Rattle.clock.specs.Wide.{quotient_of}
use Rattle.clock.specs.Position.{position, position_after}
use Rattle.clock.specs.Edges.{edge, moved_by}
use Rattle.clock.proofs.Positions.{high_lt, ordinal_lt, moved_words}
use Rattle.clock.proofs.Checks.{rated_bounds, rated_valid}
use Rattle.clock.proofs.rated.RatedClock.move_many.Goals as goal

pub overflow_add-end : goal.overflow_add-end
unfolding position
overflow_add-end c =
    let a = c.args in
    let b = rated_bounds a.self.clock a.self.rate a.self.passes in
    let v = rated_valid a.self.clock a.self.rate a.self.passes in
    let h = high_lt a.self.clock a.self.rate b v in
    simp c.position_of-begin.ensures
    (omega (arith, mul-le-mul {n₁ = a.edges} {m₁ = a.self.rate.denominator} {n₂ = 2 ^ 50} {m₂ = 8} c.requires b.denominator_high, h))

pub standing-requires : goal.standing-requires
standing-requires c =
    let a = c.args in
    let b = rated_bounds a.self.clock a.self.rate a.self.passes in
    let v = rated_valid a.self.clock a.self.rate a.self.passes in
    omega (arith, ordinal_lt a.self.clock a.self.rate b v, c.requires)

pub returns : goal.returns
unfolding moved_by edge position_after position
returns c =
    let a = c.args in
    let words = c.div-q.ensures ∙ ap (λ (n : ℕ). quotient_of n a.self.rate.numerator) (ap (λ (w : Wide). (w.high + a.edges * a.self.rate.denominator) * 2 ^ 64 + w.low) c.position_of-begin.ensures ∙ moved_words (position a.self.clock a.self.rate) a.edges a.self.rate.denominator) in
    c.standing.ensures
    ∙ ap (λ (q : Quotient). record {
      at = record { seconds = q.quotient.high; fraction = q.quotient.low };
      whole = a.self.clock.whole;
      remainder = a.self.clock.remainder;
      denominator = a.self.clock.denominator;
      fraction = q.remainder;
      ordinal = a.self.clock.ordinal + a.edges;
    })
    words
