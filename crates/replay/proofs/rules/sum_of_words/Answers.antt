use Rattle.std.proofs.Common.{rules}
use Rattle.replay.proofs.rules.sum_of_words.Goals as goal

-- so that a wrong body fails by a fact, and not by a limit of the search that the check tries
pub returns : goal.returns
returns c = search rules
