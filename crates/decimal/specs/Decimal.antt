-- Decimals of a text, which is a list of bytes. Document 01, 'Session program': decimals have no leading zero; one space
-- between two, and a newline after the last of a line.
use Rattle.std.specs.Prelude.{ℕ, zero, suc, ◌+◌, ◌-◌, ◌*◌, ◌^◌, Bool, cond, not, ◌&&◌, ◌||◌, List, [], ◌∷◌, leb, ltb, eqb, length, get_or, drop, set, Option, Some, None}

-- a number that was read, and the place after it
pub record Read : Type 0 where
  pub value : ℕ
  pub next : ℕ

-- the digits 0 to 9
abbrev pub is_digit : ℕ → Bool
is_digit b = leb 48 b && leb b 57

-- how many digits a text starts with
unfoldable pub digits : List ℕ → ℕ
digits [] = 0
digits (b ∷ rest) = cond (is_digit b) (1 + digits rest) 0

-- the number that they spell, behind those of n
unfoldable pub spelt : List ℕ → ℕ → ℕ
spelt [] n = n
spelt (b ∷ rest) n = cond (is_digit b) (spelt rest (n * 10 + (b - 48))) n

-- whether so many digits with this first one are a decimal: at least one, and no zero before another
abbrev pub well_formed : (first count : ℕ) → Bool
well_formed first count = ltb 0 count && (not (eqb first 48) || eqb count 1)

-- the number that they spell, if they are a decimal
abbrev pub number_of : (first count value next : ℕ) → Option Read
number_of first count value next = cond (well_formed first count) (Some (record { value = value; next = next })) None

-- the number at a place, where there is one that 64 bits hold; it ends where its digits do
unfoldable pub number_at : List ℕ → ℕ → Option Read
number_at s at =
    cond (ltb (spelt (drop at s) 0) (2 ^ 64))
    (number_of (get_or s at 0) (digits (drop at s)) (spelt (drop at s) 0) (at + digits (drop at s)))
    None

-- a number with this byte after it
abbrev pub ended_by : List ℕ → ℕ → Option Read → Option Read
ended_by s end None = None
ended_by s end (Some n) =
    cond (ltb n.next (length s) && eqb (get_or s n.next 0) end) (Some (record { value = n.value; next = n.next + 1 })) None

unfoldable pub field_at : List ℕ → ℕ → ℕ → Option Read
field_at s at end = ended_by s end (number_at s at)

-- the byte after a number that has so many behind it: a newline after the last, else a space
abbrev pub separator : ℕ → ℕ
separator left = cond (eqb left 0) 10 32

-- a line of so many numbers from a place on: where it ends, and what w, from i on, holds after them; what follows a
-- malformed one stays
abbrev pub line_next : Option Read → List ℕ → (Read → Option ℕ × List ℕ) → Option ℕ × List ℕ
line_next None w rest = (None, w)
line_next (Some n) w rest = rest n

unfoldable pub line_at : ℕ → List ℕ → ℕ → ℕ → List ℕ → Option ℕ × List ℕ
line_at zero s at i w = (Some at, w)
line_at (suc left) s at i w =
    line_next (field_at s at (separator left)) w (λ n. line_at left s n.next (i + 1) (set w i n.value))
