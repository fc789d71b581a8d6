use mathlib.Core.Path.{ap, ◌∙◌}
use borrow.Author.Rules.{rules}
use Rattle.std.specs.Prelude.{option_map, option_and_then, pos}
use Rattle.session.specs.declared.line.Action.{Action}
use Rattle.session.specs.Line.{below_zero, temperature_at}
use Rattle.session.proofs.Read.{value_behind, minus_there}
use Rattle.session.proofs.line.temperature_of.Goals as goal

pub returns-in_err-value : goal.returns-in_err-value
unfolding temperature_at
returns-in_err-value c =
    let s = c.args.text.now in
    rw (c.from_residual.ensures, minus_there s c.in-Some.ensures.cases.0)
    (ap (option_and_then below_zero) (c.in_err-value.ensures.value ∙ value_behind s 1 2147483648 c.in-Some.rest.now c.in-Some.ensures.cases.1))

pub returns-in-Some : goal.returns-in-Some
unfolding temperature_at
returns-in-Some c =
    let s = c.args.text.now in
    rw (c.below_zero.ensures, minus_there s c.in-Some.ensures.cases.0)
    (ap (option_and_then below_zero) (c.in_ok-value.ensures.value ∙ value_behind s 1 2147483648 c.in-Some.rest.now c.in-Some.ensures.cases.1))

pub returns-in_err-value-2 : goal.returns-in_err-value-2
unfolding temperature_at
returns-in_err-value-2 c =
    let s = c.args.text.now in
    rw (c.from_residual-in_err-value-2.ensures, minus_there s c.in_default.ensures.cases)
    (ap (option_map (λ value. Action.Temperature (pos value))) c.in_err-value-2.ensures.value)

pub returns : goal.returns
unfolding temperature_at
returns c =
    let s = c.args.text.now in
    rw (minus_there s c.in_default.ensures.cases, ← c.in_ok-value-2.ensures.value) (search rules)
