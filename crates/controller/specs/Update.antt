-- Document 01, 'Scan': the update call keeps the scan as counted to its moment, and answers how many pieces it counted.
use Rattle.std.specs.Prelude.{ℕ, Option, Some, None, Result, Ok, Err}
use Rattle.checks.specs.Checks.{changed}
use Rattle.clock.specs.declared.time.Time.{Time}
use Rattle.scan.specs.Count.{count_to, pieces}
use Rattle.controller.specs.declared.state.Nt7508.{Nt7508}
use Rattle.controller.specs.declared.check.Refusal.{Refusal}
use Rattle.controller.specs.declared.update.Updated.{Updated}
use Rattle.controller.specs.State.{with_scan}
use Rattle.controller.specs.Check.{number, check_moment}

-- the state counted to now
unfoldable pub counted_to : Nt7508 → Time → Nt7508
counted_to x now = with_scan x (count_to x.scan x.display now)

-- the answer: the number of the refusal, the state and the pieces; turned down, the state given and none
abbrev pub answered_update : (given : Nt7508) → Result Updated Refusal → Option ℕ × (Nt7508 × ℕ)
answered_update given (Ok u) = (None, (u.state, u.pieces))
answered_update given (Err why) = (Some (number why), (given, 0))

-- the call; refused, no rule was used
unfoldable pub update : Nt7508 → Time → Option ℕ × (Nt7508 × ℕ)
update x now = changed (check_moment x now) (counted_to x now, pieces x.scan x.display now) (x, 0)
