use Rattle.voltage.proofs.Laws.{answer_valid}
use Rattle.controller.specs.Look.{voltages_of}
use Rattle.controller.proofs.Checks.{ok_value, valid, passes}
use Rattle.controller.proofs.state.Nt7508.voltages.Goals as goal

pub returns-in_err-levels : goal.returns-in_err-levels
returns-in_err-levels c =
    let checked = passes c.check.ensures c.in_ok-check.was in
    let is = answer_valid _ _ c.voltages.result c.voltages.ensures (valid _ checked).analog in
    let was = c.in_err-levels.was in
    absurd cc

pub returns : goal.returns
unfolding voltages_of
returns c =
    let checked = passes c.check.ensures c.in_ok-check.was in
    let is = answer_valid _ _ c.voltages.result c.voltages.ensures (valid _ checked).analog in
    rw (checked, ok_value c.in_ok-levels.was is, c.conditions_of.ensures)
