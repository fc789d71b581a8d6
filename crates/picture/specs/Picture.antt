-- The panel at the end of a session, as the bytes of a PGM picture. PGM counts grays from 0, black, and has the rows from
-- the upper one down, each from left to right, as the image has.
use Rattle.std.specs.Prelude.{ℕ, ◌-◌, List, [], ◌∷◌, ◌++◌, map, length, drop, Option, None, Some}
use Rattle.scan.specs.Drive.{driven}
use Rattle.scan.specs.Image.{image}
use Rattle.controller.specs.Byte.{conditions_of}
use Rattle.controller.specs.Supply.{zeros}
use Rattle.strike.specs.Calls.{Machine, start}
use Rattle.session.specs.Listing.{refusal_line}
use Rattle.session.specs.Session.{run_of}

-- `P5`, `96 64` and `255`, each with a newline: a byte for each pixel, 96 columns, 64 rows, white is 255
abbrev pub head : List ℕ
head = 80 ∷ 53 ∷ 10 ∷ 57 ∷ 54 ∷ 32 ∷ 54 ∷ 52 ∷ 10 ∷ 50 ∷ 53 ∷ 53 ∷ 10 ∷ []

-- dark where the drive is high
abbrev pub gray_of : (level : ℕ) → ℕ
gray_of level = 255 - level

-- the picture of a controller and its memory
unfoldable pub picture_of : Machine → List ℕ
picture_of m = head ++ map gray_of (image m.state.display (driven (conditions_of m.state.power)) m.ram)

-- a session that was refused has no picture, only the line of its refusal
abbrev pub shown_at : (refusal : Option (ℕ × ℕ)) → Machine → List ℕ
shown_at None m = picture_of m
shown_at (Some at) m = refusal_line at.0 at.1

-- power-on with memory 0
abbrev pub fresh : Machine
fresh = start (zeros 4096) (zeros 256)

-- a text from there
unfoldable pub drawn : (text : List ℕ) → List ℕ
drawn text = let r = run_of text fresh in shown_at r.refusal r.machine

-- bytes written at the start of lent ones, the others as they were, and how many were written
unfoldable pub written : (out bytes : List ℕ) → List ℕ × ℕ
written out bytes = (bytes ++ drop (length bytes) out, length bytes)
