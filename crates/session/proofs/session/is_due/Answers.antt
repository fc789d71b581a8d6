use mathlib.Core.Path.{◌∙◌}
use native.Mathlib.Omega.{arith}
use Rattle.clock.proofs.Order.{time_le}
use Rattle.session.proofs.session.is_due.Goals as goal

pub returns : goal.returns
returns c = c.le.ensures ∙ time_le c.args.end c.args.moment (omega arith) (omega arith)
