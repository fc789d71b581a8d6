use Rattle.std.proofs.Common.{rules}
use Rattle.voltage.proofs.levels.is_above.Goals as goal

-- so that a wrong body fails by a fact, and not by a limit of the search that the check tries
pub returns : goal.returns
returns c = search rules
