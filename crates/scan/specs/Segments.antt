-- Definitions that contracts of src/segments.rt cite: the activity of a row's segments from its planes, as words. Nothing here is a
-- rule; that it comes to the latch of the rule is a law (proofs/Latches.antt, Packing.antt).
use Rattle.std.specs.Prelude.{ℕ, ◌/◌, ◌%◌, Bool, false, cond, List, [], ◌∷◌, ◌==◌, bit_and, bit_xor, slice_index_or}
use Rattle.scan.specs.declared.settings.Settings.{Settings}
use Rattle.scan.specs.declared.state.Scan.{Scan}
use Rattle.scan.specs.Shade.{column_of, page_of}
use Rattle.scan.specs.Latch.{shade_active, words}
use Rattle.scan.specs.Planes.{row_bits, planes_in, shown_shade}

-- the activity of what the planes 0 to 3 show
abbrev pub active_shades : Scan → Settings → List Bool
active_shades x s =
    shade_active x s (shown_shade s 0) ∷ shade_active x s (shown_shade s 1) ∷ shade_active x s (shown_shade s 2) ∷ shade_active x s (shown_shade s 3) ∷ []

-- the activity of a row's segments, from its bits and from that of the planes
abbrev pub row_active : (active : List Bool) → (bits : List ℕ) → (reversed : Bool) → (segment : ℕ) → Bool
row_active active bits reversed segment = slice_index_or active (planes_in bits (column_of reversed segment)) false

-- all 64 bits, or none
abbrev pub mask_of : Bool → ℕ
mask_of on = cond on 18446744073709551615 0

-- the bits of `on` where `by` has one, else those of `off`
unfoldable pub pick : (by on off : ℕ) → ℕ
pick by on off = bit_xor off (bit_and by (bit_xor on off))

-- the activity of a word's segments, from their planes
abbrev pub active_word : (high low : ℕ) → (active : List Bool) → ℕ
active_word high low active =
    pick high (pick low (mask_of (slice_index_or active 3 false)) (mask_of (slice_index_or active 2 false))) (pick low (mask_of (slice_index_or active 1 false)) (mask_of (slice_index_or active 0 false)))

-- the bits of a row of RAM, or of the icons, row 128
abbrev pub bits_at : (row : ℕ) → (ram icons : List ℕ) → List ℕ
bits_at row ram icons = cond (row == 128) (row_bits icons 0) (row_bits (page_of ram (row / 8)) (row % 8))

-- the latch of such a row
abbrev pub row_words : (row : ℕ) → (active : List Bool) → (reversed : Bool) → (ram icons : List ℕ) → List ℕ
row_words row active reversed ram icons = words (row_active active (bits_at row ram icons) reversed)
