-- A list, a case more and at its end.
use Rattle.std.proofs.Common.{ℕ, ◌<◌, ◌≡◌, Bool, List, [], ◌∷◌, length, refl, arith, Option, None}
use Rattle.replay.specs.Lists.{Ends}

module _ {S : Type 0} (gives : S → List ℕ → Option (List ℕ × Bool) → S → Type 0) (s : S) where
  pub at_end : (rest : List ℕ) → length rest ≡ 0 → Ends gives s rest s
  at_end [] h = refl
  at_end (b ∷ rest) h = absurd (omega arith)

  pub at_none : (rest : List ℕ) (left : S) → 0 < length rest → gives s rest None left → Ends gives s rest left
  at_none [] left h k = absurd (omega arith)
  at_none (b ∷ rest) left h k = k
