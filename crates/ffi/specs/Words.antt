-- The status of a call from another language, and the words that it leaves: 0 and the words of its value, or the number of its
-- refusal and the words as they were.
use Rattle.std.specs.Prelude.{ℕ, ◌⊎◌, List, [], ◌∷◌, Option, Some, None}
use Rattle.std.proofs.Common.{inl, inr}

abbrev pub status : {A : Type 0} → ℕ ⊎ A → ℕ
status (inl n) = n
status (inr a) = 0

-- the status of a check
abbrev pub check_status : Option ℕ → ℕ
check_status None = 0
check_status (Some n) = n

-- lent memory after a call that puts its value there by `words`; `before` is the memory before it
abbrev pub stored : {A B : Type 0} → (words : A → B) → ℕ ⊎ A → (before : B) → B
stored words (inl n) before = before
stored words (inr a) before = words a

-- whether a number is there, and which; 0 where it is not
abbrev pub optional_words : Option ℕ → List ℕ
optional_words None = 0 ∷ 0 ∷ []
optional_words (Some n) = 1 ∷ n ∷ []

-- so of a value of two words
abbrev pub optional_two : {A : Type 0} → (words : A → List ℕ) → Option A → List ℕ
optional_two words None = 0 ∷ 0 ∷ 0 ∷ []
optional_two words (Some a) = 1 ∷ words a
