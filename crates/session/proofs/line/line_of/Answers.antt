use Rattle.session.proofs.Read.{no_line, line_read}
use Rattle.session.proofs.line.line_of.Goals as goal

pub returns-in_err-us : goal.returns-in_err-us
returns-in_err-us c = rw c.from_residual.ensures (no_line c.args.text.now c.in_err-us.ensures)

pub returns-in_err-action : goal.returns-in_err-action
returns-in_err-action c =
    let n = c.in_ok-us.field-0 in
    rw c.from_residual-in_err-action.ensures (line_read c.args.text.now n.value n.rest.now c.in_ok-us.ensures c.in_err-action.ensures)

pub returns : goal.returns
returns c =
    let n = c.in_ok-us.field-0 in
    line_read c.args.text.now n.value n.rest.now c.in_ok-us.ensures c.in_ok-action.ensures
