use mathlib.Core.Path.{◌≡◌, sym, ◌∙◌}
use Rattle.std.proofs.lemmas.Result.{err_from_is_err_and}
use Rattle.session.specs.declared.session.Why.{Why}
use Rattle.session.specs.Closed.{machine_of}
use Rattle.session.proofs.Runs.{malformed_step, refused_step}
use Rattle.session.proofs.session.next_line.Goals as goal

pub returns-in_err-line-clause-steps : goal.returns-in_err-line-clause-steps
returns-in_err-line-clause-steps c =
    let a = c.args in
    let p = err_from_is_err_and c.from_residual.result c.from_residual.ensures.1 in
    let none = c.in_err-line.ensures.ok_part in
    let given = rw none at c.in_err-line.ensures.value in
    let why : c.in_err-line.field-0.0 ≡ Why.Line = cc in
    rw (p.1, p.2 ∙ why, sym c.line_of.ensures ∙ none) (malformed_step (machine_of a.state.now a.ram.now a.icons.now) (a.w.now.out.now, a.w.now.at))

pub returns-in_err-shown-clause-steps : goal.returns-in_err-shown-clause-steps
returns-in_err-shown-clause-steps c =
    let a = c.args in
    let p = err_from_is_err_and c.from_residual-in_err-shown.result c.from_residual-in_err-shown.ensures.1 in
    let line = sym c.line_of.ensures ∙ c.in_ok-line.ensures.ok_part in
    rw (p.1, p.2, line) (refused_step c.in_ok-line.line.us c.in_err-shown.field-0.0 _ (a.w.now.out.now, a.w.now.at) c.in_err-shown.ensures)
