-- Document 01, 'Session program': the listing. Its names line precedes everything; a drive is a line of six fields, a refusal a
-- line of its own.
use Rattle.std.specs.Prelude.{ℕ, zero, suc, ◌+◌, Bool, cond, List, [], ◌∷◌, ◌++◌, Option, Some, None, option_map}
use Rattle.scan.specs.declared.drive.LcdDrive.{LcdDrive}
use Rattle.scan.specs.Drive.{active_in}
use Rattle.decimal.specs.Print.{decimal}
use Rattle.session.specs.declared.listing.Row.{Row}

-- `us common inverted v0 lit frame` and its newline
abbrev pub listing_names : List ℕ
listing_names =
    117 ∷ 115 ∷ 32 ∷ 99 ∷ 111 ∷ 109 ∷ 109 ∷ 111 ∷ 110 ∷ 32 ∷ 105 ∷ 110 ∷ 118 ∷ 101 ∷ 114 ∷ 116 ∷ 101 ∷ 100 ∷ 32
    ∷ 118 ∷ 48 ∷ 32 ∷ 108 ∷ 105 ∷ 116 ∷ 32 ∷ 102 ∷ 114 ∷ 97 ∷ 109 ∷ 101 ∷ 10 ∷ []

-- a field, a number or `-`, and the byte behind it
abbrev pub field_text : Option ℕ → (end : ℕ) → List ℕ
field_text (Some n) end = decimal n ++ (end ∷ [])
field_text None end = 45 ∷ end ∷ []

-- inverted 0 or 1
abbrev pub inverted_field : Bool → Option ℕ
inverted_field inverted = Some (cond inverted 1 0)

-- lit the active segments
unfoldable pub active_below : List ℕ → ℕ → ℕ
active_below words zero = 0
active_below words (suc n) = active_below words n + cond (active_in words n) 1 0

unfoldable pub lit_of : List ℕ → ℕ
lit_of words = active_below words 128

-- frame duty × PWM of the scan shown; undriven it is `-`
abbrev pub frame_field : (common : Option ℕ) → (frame : ℕ) → Option ℕ
frame_field common frame = option_map (λ n. frame) common

-- the fields that are printed of a drive
abbrev pub row_of : LcdDrive → (frame : ℕ) → Row
row_of d frame = record { common = d.common; inverted = d.inverted; v0 = d.voltages.v0; lit = lit_of d.segments; frame = frame }

-- the line of a drive. The common is 0 to 128, v0 microvolts; undriven the common is `-`, and so is v0 where it is absent
unfoldable pub drive_line : (us : ℕ) → Row → List ℕ
drive_line us r =
    field_text (Some us) 32
    ++ (field_text r.common 32
    ++ (field_text (inverted_field r.inverted) 32
    ++ (field_text r.v0 32
    ++ (field_text (Some r.lit) 32
    ++ field_text (frame_field r.common r.frame) 10))))

-- `refused N line L`
unfoldable pub refusal_line : (number line : ℕ) → List ℕ
refusal_line number line =
    (114 ∷ 101 ∷ 102 ∷ 117 ∷ 115 ∷ 101 ∷ 100 ∷ 32 ∷ [])
    ++ (field_text (Some number) 32
    ++ ((108 ∷ 105 ∷ 110 ∷ 101 ∷ 32 ∷ [])
    ++ field_text (Some line) 10))

unfoldable pub refusal_text : Option (ℕ × ℕ) → List ℕ
refusal_text None = []
refusal_text (Some at) = refusal_line at.0 at.1
