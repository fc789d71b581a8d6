use Rattle.std.proofs.Common.{◌∙◌}
use Rattle.scan.proofs.stretch.row_remaining.Goals as goal

pub returns : goal.returns
returns c = c.from.ensures ∙ c.saturating_sub.ensures
