-- Definitions that contracts of src/paint.rt cite: the levels of a row's segments from its bits. Nothing here is a rule; that they
-- come to the image of the rule is a law (proofs/Images.antt).
use Rattle.std.specs.Prelude.{ℕ, Bool, List, [], ◌∷◌, slice_index}
use Rattle.scan.specs.declared.settings.Settings.{Settings}
use Rattle.scan.specs.Shade.{column_of}
use Rattle.scan.specs.Image.{level_of}
use Rattle.scan.specs.Planes.{planes_in, shown_shade}

-- the levels in the image of what the planes 0 to 3 show
unfoldable pub levels_of : Settings → List ℕ
levels_of s = level_of s (shown_shade s 0) ∷ level_of s (shown_shade s 1) ∷ level_of s (shown_shade s 2) ∷ level_of s (shown_shade s 3) ∷ []

-- the levels of a row's segments, from its bits and from those of the planes
abbrev pub row_level : (levels bits : List ℕ) → (reversed : Bool) → (segment : ℕ) → ℕ
row_level levels bits reversed segment = slice_index levels (planes_in bits (column_of reversed segment))
