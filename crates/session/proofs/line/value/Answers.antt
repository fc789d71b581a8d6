use mathlib.Core.Path.{◌∙◌}
use Rattle.session.proofs.Read.{no_value, value_read}
use Rattle.session.proofs.line.value.Goals as goal

pub returns-in_err-value-clause-value : goal.returns-in_err-value-clause-value
returns-in_err-value-clause-value c = rw c.from_residual.ensures (no_value c.args.text.now c.args.most c.in_err-value.ensures)

pub returns-clause-value : goal.returns-clause-value
returns-clause-value c =
    let n = c.in_ok-value.field-0 in
    c.then_some.ensures ∙ value_read c.args.text.now c.args.most n.value n.rest.now c.in_ok-value.ensures
