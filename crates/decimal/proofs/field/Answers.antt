use borrow.Author.Rules.{rules}
use Rattle.decimal.proofs.Rests.{no_number, no_byte, ended_as}
use Rattle.decimal.proofs.field.Goals as goal

pub returns-in_err-value : goal.returns-in_err-value
returns-in_err-value c = rw c.from_residual.ensures (no_number c.args.text.now c.args.end c.in_err-value.ensures)

pub returns-in_err-byte : goal.returns-in_err-byte
returns-in_err-byte c =
    let n = c.in_ok-value.field-0 in
    rw c.from_residual-in_err-byte.ensures (no_byte c.args.text.now c.args.end n.value n.rest.now c.in_ok-value.ensures c.in_err-byte.ensures.cases)

pub returns : goal.returns
returns c =
    let n = c.in_ok-value.field-0 in
    ended_as c.args.text.now c.args.end n.value n.rest.now c.in_ok-value.ensures c.in_ok-byte.field-0-0.now c.in_ok-byte.rest (search rules) c.then_some.result c.then_some.ensures
