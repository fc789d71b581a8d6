-- A list is replayed: its cases one after another.
use Rattle.std.specs.Prelude.{ℕ, Bool, List, [], ◌∷◌, ◌≡◌, ◌<◌, length, fold, Option, Some, None}
use Rattle.replay.specs.declared.lists.Replayed.{Replayed}
use Rattle.replay.specs.declared.tally.Tally.{Tally}
use Rattle.replay.specs.Tally.{started, counted}

-- what follows a case, and whether ours answers as it says
abbrev pub replayed_view : Option Replayed → Option (List ℕ × Bool)
replayed_view None = None
replayed_view (Some case) = Some (case.rest.now, case.agrees)

-- where a list ends, or where it has no case
abbrev pub Ends : {S : Type 0} → (gives : S → List ℕ → Option (List ℕ × Bool) → S → Type 0) → S → List ℕ → S → Type 0
Ends gives s [] s' = s ≡ s'
Ends gives s (b ∷ list) s' = gives s (b ∷ list) None s'

-- these are the answers to a list's cases, and s' is what they leave
abbrev pub Replays : {S : Type 0} → (gives : S → List ℕ → Option (List ℕ × Bool) → S → Type 0) → List (List ℕ × Bool) → S → List ℕ → S → Type 0
Replays gives [] s list s' = Ends gives s list s'
Replays {S} gives (a ∷ answers) s list s' =
    (0 < length list) × (next : S) × gives s list (Some a) next × Replays gives answers next a.0 s'

-- each counted
abbrev pub tally_from : Tally → List (List ℕ × Bool) → Tally
tally_from t answers = fold (λ t a. counted t a.1) t answers

abbrev pub tally_of : List (List ℕ × Bool) → Tally
tally_of answers = tally_from started answers
