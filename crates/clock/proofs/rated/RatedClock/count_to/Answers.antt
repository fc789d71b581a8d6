use borrow.Author.Rules.{rules}
use mathlib.Core.Path.{sym, ◌∙◌}
use borrow.Author.Tests.{ltb-false}
use Rattle.clock.proofs.Positions.{value_words, edge_count}
use Rattle.clock.proofs.Checks.{rated_bounds, rated_valid}
use Rattle.clock.proofs.Laws.{edges_formula}
use Rattle.clock.proofs.Order.{time_lt}
use Rattle.clock.specs.Position.{position}
use Rattle.clock.specs.Time.{raw}
use Rattle.clock.proofs.rated.RatedClock.count_to.Goals as goal

pub returns-then-lt : goal.returns-then-lt
returns-then-lt c =
    let a = c.args in
    let before = c.lt.ensures ∙ time_lt a.now.value a.self.clock.at (search rules) (search rules) in
    simp (edges_formula a.self.clock a.self.rate (rated_bounds a.self.clock a.self.rate a.self.passes) a.now.value, sym before ∙ c.if-lt.true)

pub returns : goal.returns
unfolding position
returns c =
    let a = c.args in
    let v = rated_valid a.self.clock a.self.rate a.self.passes in
    let before = c.lt.ensures ∙ time_lt a.now.value a.self.clock.at (search rules) (search rules) in
    let after = sym before ∙ c.if-lt.false in
    simp (edges_formula a.self.clock a.self.rate (rated_bounds a.self.clock a.self.rate a.self.passes) a.now.value, after, c.over.ensures, c.mul_add-passed.ensures, c.difference-span.ensures, value_words, c.from.ensures, c.from-2.ensures)
    (edge_count (raw a.now.value) (raw a.self.clock.at) a.self.rate.numerator a.self.clock.fraction a.self.rate.denominator (ltb-false _ _ after) v.fraction_lt)
