-- Document 01, 'Session program': a text is bytes. Its first line is exactly `us call value`; a newline stands after each line.
use Rattle.std.specs.Prelude.{ℕ, ◌+◌, Bool, cond, ◌&&◌, List, [], ◌∷◌, leb, eqb, nat_eq, length, drop, Option, Some, None}
use Rattle.std.specs.List.{starts_with}

-- `us call value` and its newline
abbrev pub names_line : List ℕ
names_line = 117 ∷ 115 ∷ 32 ∷ 99 ∷ 97 ∷ 108 ∷ 108 ∷ 32 ∷ 118 ∷ 97 ∷ 108 ∷ 117 ∷ 101 ∷ 10 ∷ []

-- a text that is read: at most 65,536 bytes, the names line first
unfoldable pub opens : List ℕ → Bool
opens text = leb (length text) 65536 && starts_with nat_eq text names_line

-- what follows the names line there
abbrev pub opened : List ℕ → Option (List ℕ)
opened text = cond (opens text) (Some (drop 14 text)) None

-- the lines of what follows, each with its newline; the last may lack one
unfoldable pub longer : ℕ → List (List ℕ) → List (List ℕ)
longer b [] = (b ∷ []) ∷ []
longer b (l ∷ ls) = (b ∷ l) ∷ ls

unfoldable pub lines_of : List ℕ → List (List ℕ)
lines_of [] = []
lines_of (b ∷ rest) = cond (eqb b 10) ((b ∷ []) ∷ lines_of rest) (longer b (lines_of rest))

-- how many bytes the first of them has
unfoldable pub line_length : List ℕ → ℕ
line_length [] = 0
line_length (b ∷ rest) = cond (eqb b 10) 1 (1 + line_length rest)
