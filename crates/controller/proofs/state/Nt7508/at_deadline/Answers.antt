use mathlib.Core.Path.{sym, ap, ◌∙◌}
use Rattle.std.specs.Prelude.{◌≡◌, ℕ, Option, None}
use Rattle.controller.specs.declared.state.Nt7508.{Nt7508}
use Rattle.controller.specs.declared.state.Power.{Power}
use Rattle.controller.specs.Supply.{at_deadline}
use Rattle.controller.specs.State.{with_power}
use Rattle.controller.proofs.Checks.{passes}
use Rattle.controller.proofs.Supplies.{wait_met}
use Rattle.controller.proofs.state.Nt7508.at_deadline.Goals as goal

-- written out, so that at a wait that is ended at another time a fact fails, and not a limit of the search
pub returns-then-eq : goal.returns-then-eq
unfolding at_deadline with_power
returns-then-eq c =
    let left : Power → Option ℕ × Nt7508 = λ p. (None, with_power c.args.self p) in
    rw (passes c.check_moment.ensures c.in_ok-check_moment.was) (ap left (wait_met _ _ _ (sym c.eq.ensures ∙ c.if-eq.true)))
