-- Definitions that contracts of src/planes.rt cite: a row's bits, the shade that two of them show, and the planes of eight segments
-- in a word. Nothing here is a rule.
use Rattle.std.specs.Prelude.{ℕ, ◌+◌, ◌-◌, ◌*◌, ◌<◌, Bool, cond, List, ◌==◌, slice_index}
use Rattle.scan.specs.declared.settings.Settings.{Settings}
use Rattle.scan.specs.Shade.{column_of, bit_of}
use Rattle.scan.specs.Latch.{word}
use Rattle.scan.specs.Image.{up_to}

-- a row's bit of each of its 256 bytes
unfoldable pub row_bits : (part : List ℕ) → (place : ℕ) → List ℕ
row_bits part place = up_to (λ (k : ℕ). bit_of (slice_index part k) place) 256

abbrev pub AreBits : List ℕ → Type 0
AreBits bits = (k : ℕ) → slice_index bits k < 2

-- the two planes of a column, from the row's bits
abbrev pub planes_in : (bits : List ℕ) → (column : ℕ) → ℕ
planes_in bits column = 2 * slice_index bits (2 * column) + slice_index bits (2 * column + 1)

-- the shade that two planes show
abbrev pub shown_shade : Settings → (planes : ℕ) → ℕ
shown_shade s n = cond s.entire_on 3 (cond s.reverse (3 - n) n)

-- the high plane's bit of a row's segments, and the low one's
abbrev pub in_high : (bits : List ℕ) → (reversed : Bool) → (segment : ℕ) → Bool
in_high bits reversed segment = slice_index bits (2 * column_of reversed segment) == 1

abbrev pub in_low : (bits : List ℕ) → (reversed : Bool) → (segment : ℕ) → Bool
in_low bits reversed segment = slice_index bits (2 * column_of reversed segment + 1) == 1

-- eight bits as digits of base 256
abbrev pub eight_from : (bits : List ℕ) → (from : ℕ) → ℕ
eight_from bits from =
    slice_index bits from
    + slice_index bits (from + 1) * 256
    + slice_index bits (from + 2) * 65536
    + slice_index bits (from + 3) * 16777216
    + slice_index bits (from + 4) * 4294967296
    + slice_index bits (from + 5) * 1099511627776
    + slice_index bits (from + 6) * 281474976710656
    + slice_index bits (from + 7) * 72057594037927936

-- both planes of eight segments, the high one in the lower byte
unfoldable pub planes_from : (bits : List ℕ) → (reversed : Bool) → (segment : ℕ) → ℕ
planes_from bits reversed segment = word (in_high bits reversed) segment 8 + word (in_low bits reversed) segment 8 * 256
