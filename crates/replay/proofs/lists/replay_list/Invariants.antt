use Rattle.std.proofs.Common.{◌≡◌, ◌+◌, ◌≤◌, ℕ, Bool, List, length}
use Rattle.replay.specs.Lists.{Replays, tally_from, tally_of}
use Rattle.replay.proofs.lists.replay_list.Given as goal

-- what is still to come goes with what has been to answers of the whole list
abbrev pub invariant-loop-rest : goal.invariant-loop-rest
invariant-loop-rest g l =
    (l.tally.cases + length l.rest ≤ length l.list)
    × ((l.tally.differ ≤ l.tally.cases)
    × ((answers : List (List ℕ × Bool)) (last : _) → Replays g.C.Cases.gives answers l.cases l.rest last
    → (all : List (List ℕ × Bool)) × Replays g.C.Cases.gives all l.initial.cases l.list last × (tally_from l.tally answers ≡ tally_of all)))

abbrev pub decreases-loop-rest : goal.decreases-loop-rest
decreases-loop-rest g l = length l.rest
