-- A text that is read from its start, and the rest of it. At a place a text is read as what stands there is from its start
-- (`number_there`, `field_there`, `line_there`, proofs/Rests.antt).
use Rattle.std.specs.Prelude.{ℕ, ◌-◌, cond, List, [], ◌∷◌, length, get_or, drop, Option, Some, None, option_map}
use Rattle.std.specs.Borrow.{Bor}
use Rattle.decimal.specs.declared.Read as lent
use Rattle.decimal.specs.Decimal.{Read, is_digit, well_formed, number_at, field_at, line_at}

-- the value that was read of a text, and what follows
abbrev pub read_of : List ℕ → Option Read → Option (ℕ × List ℕ)
read_of s None = None
read_of s (Some n) = Some (n.value, drop n.next s)

unfoldable pub number_in : List ℕ → Option (ℕ × List ℕ)
number_in s = read_of s (number_at s 0)

unfoldable pub field_in : List ℕ → (end : ℕ) → Option (ℕ × List ℕ)
field_in s end = read_of s (field_at s 0 end)

-- what follows a line, and what w holds after it
abbrev pub line_rest : List ℕ → Option ℕ × List ℕ → Option (List ℕ) × List ℕ
line_rest s r = (option_map (λ at. drop at s) r.0, r.1)

unfoldable pub line_in : List ℕ → (w : List ℕ) → Option (List ℕ) × List ℕ
line_in s w = line_rest s (line_at (length w) s 0 0 w)

-- the digit that a text starts with, and what follows
abbrev pub digit_in : List ℕ → Option (ℕ × List ℕ)
digit_in [] = None
digit_in (b ∷ rest) = cond (is_digit b) (Some (b - 48, rest)) None

-- the number that these digits spell, if they are a decimal, and what follows
abbrev pub decimal_of : (digits : List ℕ) → (value : ℕ) → (rest : List ℕ) → Option (ℕ × List ℕ)
decimal_of digits value rest = cond (well_formed (get_or digits 0 0) (length digits)) (Some (value, rest)) None

-- what a function read, with the text behind the reference
abbrev pub read_view : Option lent.Read → Option (ℕ × List ℕ)
read_view None = None
read_view (Some n) = Some (n.value, n.rest.now)

abbrev pub rest_view : Option (Bor (List ℕ)) → Option (List ℕ)
rest_view None = None
rest_view (Some s) = Some s.now
