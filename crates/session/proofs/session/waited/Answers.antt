use mathlib.Core.Bool.{true, false}
use mathlib.Core.Path.{sym, ap, ◌∙◌}
use Rattle.std.specs.Prelude.{Option}
use Rattle.clock.specs.declared.time.Time.{Time}
use Rattle.session.proofs.Turns.{waited_due}
use Rattle.session.specs.Closed.{waited_of}
use Rattle.session.proofs.session.waited.Goals as goal

pub returns-in_default : goal.returns-in_default
unfolding waited_of
returns-in_default c = sym (ap (λ (r : Option Time). waited_of c.args.state r c.args.moment) c.in_default.is)

pub returns-then-is_due : goal.returns-then-is_due
returns-then-is_due c =
    c.at_deadline.ensures ∙ waited_due c.args.state c.args.moment {b = true} c.in-Some.is (sym c.is_due.ensures ∙ c.if-is_due.true)

pub returns : goal.returns
returns c =
    waited_due c.args.state c.args.moment {b = false} c.in-Some.is (sym c.is_due.ensures ∙ c.if-is_due.false)
