use mathlib.Core.Bool.{false≢true}
use mathlib.Core.Path.{sym, ◌∙◌}
use Rattle.controller.proofs.Checks.{valid, passes}
use Rattle.controller.proofs.state.Nt7508.find_setting.Goals as goal

pub returns-in_err-found : goal.returns-in_err-found
returns-in_err-found c =
    let checked = passes c.check.ensures c.in_ok-check.was in
    let said = c.in_err-found.ensures in
    absurd (false≢true (sym said.0 ∙ (valid _ checked).analog))
