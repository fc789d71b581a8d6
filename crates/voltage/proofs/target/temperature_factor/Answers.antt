use mathlib.Core.Path.{sym, ◌∙◌}
use mir.Facts.{to_z-of_z}
use borrow.Author.Tests.{eq-eqb, ne_eqb}
use Rattle.voltage.specs.Voltage.{temperature_factor}
use Rattle.voltage.proofs.Numbers.{factor_is}
use Rattle.voltage.proofs.target.temperature_factor.Goals as goal

pub returns-then-slope-eq0-clause-exact : goal.returns-then-slope-eq0-clause-exact
unfolding temperature_factor
returns-then-slope-eq0-clause-exact c =
    let e = rw (to_z-of_z c.ranges.temperature) at c.from_lowest-above.ensures in rw (eq-eqb _ _ c.if-slope-eq0.true) (c.falling.ensures ∙ sym (factor_is _ 125 c.args.temperature e))

pub returns-clause-exact : goal.returns-clause-exact
unfolding temperature_factor
returns-clause-exact c =
    let e = rw (to_z-of_z c.ranges.temperature) at c.from_lowest-above.ensures in rw (ne_eqb _ _ c.if-slope-eq0.false) (c.falling-2.ensures ∙ sym (factor_is _ 50 c.args.temperature e))
