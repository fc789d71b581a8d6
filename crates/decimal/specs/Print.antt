-- Numbers printed into lent bytes. Document 01, 'Session program': decimals have no leading zero.
use Rattle.std.specs.Prelude.{ℕ, zero, suc, ◌+◌, ◌/◌, ◌%◌, cond, List, [], ◌∷◌, ◌++◌, ltb, length, set}

-- the digits of a number, the highest first: the last one, and before it as many more as there are
unfoldable pub digits_up_to : (more : ℕ) → ℕ → List ℕ
digits_up_to zero n = (48 + n % 10) ∷ []
digits_up_to (suc more) n = cond (ltb n 10) ((48 + n) ∷ []) (digits_up_to more (n / 10) ++ ((48 + n % 10) ∷ []))

-- a number of 64 bits has 20 digits at the most
unfoldable pub decimal : ℕ → List ℕ
decimal n = digits_up_to 19 n

-- a byte put at a place of lent bytes, if there is one, and the place behind it
abbrev pub put_byte : List ℕ × ℕ → ℕ → List ℕ × ℕ
put_byte p b = cond (ltb p.1 (length p.0)) (set p.0 p.1 b, p.1 + 1) p

-- bytes put one behind another
unfoldable pub put : List ℕ × ℕ → List ℕ → List ℕ × ℕ
put p [] = p
put p (b ∷ bs) = put (put_byte p b) bs
