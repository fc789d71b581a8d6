-- The rules of a list.
use Rattle.std.specs.Prelude.{ℕ, zero, suc, ◌+◌, ◌*◌, ◌/◌, ◌%◌, List, length, fold, slice_set}

-- one number more in a sum
abbrev pub added : (sum x : ℕ) → ℕ
added sum x = (31 * sum + x) % 4294967296

-- the sum of some bytes
abbrev pub sum_of : List ℕ → ℕ
sum_of bytes = fold added 0 bytes

-- the halves of a word in a sum, the high half and then the low half
abbrev pub added_halves : (sum word : ℕ) → ℕ
added_halves sum word = added (added sum (word / 4294967296)) (word % 4294967296)

abbrev pub sum_of_words : List ℕ → ℕ
sum_of_words words = fold added_halves 0 words

-- byte i of memory that two numbers make
abbrev pub byte_at : (step first i : ℕ) → ℕ
byte_at step first i = (step * i + first) % 251

-- memory whose first n bytes are made so
unfoldable pub filled_to : ℕ → (step first : ℕ) → List ℕ → List ℕ
filled_to zero step first memory = memory
filled_to (suc n) step first memory = slice_set (filled_to n step first memory) n (byte_at step first n)

unfoldable pub filled : (step first : ℕ) → List ℕ → List ℕ
filled step first memory = filled_to (length memory) step first memory
