use Prim.Native.Nat.{ℕ, ◌+◌, ◌*◌, ◌/◌, ◌<◌}
use mathlib.Core.Path.{◌∙◌, ap}
use native.Mathlib.Omega.{arith}
use Rattle.clock.specs.declared.wide.Wide.{Wide}
use Rattle.clock.specs.Wide.{value, wide_of}
use Rattle.clock.specs.Time.{raw}
use Rattle.clock.specs.Position.{period as period_of, position, position_after}
use Rattle.clock.specs.Edges.{edge, moved_by}
use Rattle.clock.proofs.Positions.{value_words, after_div, after_mod, few}
use Rattle.clock.proofs.rated.RatedClock.move_few.Goals as goal

pub overflow_mul-parts : goal.overflow_mul-parts
overflow_mul-parts c =
    let f = few c.args.self.clock c.args.self.rate c.args.edges c.args.self.passes c.requires in omega arith

pub overflow_add-parts : goal.overflow_add-parts
overflow_add-parts c =
    let f = few c.args.self.clock c.args.self.rate c.args.edges c.args.self.passes c.requires in omega arith

pub mul_add-span-requires-clause-high_bound : goal.mul_add-span-requires-clause-high_bound
mul_add-span-requires-clause-high_bound c =
    let f = few c.args.self.clock c.args.self.rate c.args.edges c.args.self.passes c.requires in omega arith

pub sum-requires : goal.sum-requires
sum-requires c =
    let f = few c.args.self.clock c.args.self.rate c.args.edges c.args.self.passes c.requires in
    simp (c.mul_add-span.ensures, c.from.ensures) f.room

pub returns : goal.returns
unfolding moved_by edge position_after position
returns c =
    let a = c.args in
    let f = few a.self.clock a.self.rate a.edges a.self.passes c.requires in
    let pos : 0 < a.self.rate.numerator = omega (arith, f.numerator_low) in
    let time = raw a.self.clock.at in
    let span = ap value c.mul_add-span.ensures ∙ value_words (value a.self.clock.whole * a.edges + (a.self.clock.fraction + a.edges * a.self.clock.remainder) / a.self.rate.numerator) in
    let begin = ap (λ (w : Wide). wide_of (value w + value c.mul_add-span.result)) c.from.ensures in
    let last = c.sum.ensures ∙ begin ∙ ap (λ (n : ℕ). wide_of (time + n)) span ∙ ap wide_of (after_div time a.self.clock.fraction a.edges (value a.self.clock.whole) a.self.clock.remainder a.self.rate.numerator (period_of a.self.rate) pos f.period_parts) in
    let rest = after_mod time a.self.clock.fraction a.edges (value a.self.clock.whole) a.self.clock.remainder a.self.rate.numerator (period_of a.self.rate) pos f.period_parts in
    c.standing.ensures
    ∙ (λ i. record {
      at = record { seconds = (last i).high; fraction = (last i).low };
      whole = a.self.clock.whole;
      remainder = a.self.clock.remainder;
      denominator = a.self.clock.denominator;
      fraction = rest i;
      ordinal = a.self.clock.ordinal + a.edges;
    })
