-- Document 01, 'Scan': the latch of 128 segments, what is shown of it, and when it is retained.
use Rattle.std.specs.Prelude.{ℕ, zero, suc, ◌+◌, ◌*◌, ◌/◌, ◌%◌, Bool, true, cond, not, ◌&&◌, ◌||◌, List, [], ◌∷◌, ◌==◌, nat_lt, Option, Some, None}
use Rattle.scan.specs.declared.settings.Settings.{Settings}
use Rattle.scan.specs.declared.state.Scan.{Scan}
use Rattle.scan.specs.State.{with_latch}
use Rattle.scan.specs.Shade.{shade_at, pulse_width}

-- the row that is latched: the icons', row 128, where the row equals duty, else a row of RAM
unfoldable pub latched_row : Scan → ℕ
latched_row x = cond (x.row == x.frame.duty) 128 ((x.frame.start_line + x.row) % 128)

-- a shade is active while step is below its width in the phase
unfoldable pub shade_active : Scan → Settings → (shade : ℕ) → Bool
shade_active x s shade = nat_lt x.step (pulse_width s shade x.frc x.pwm)

-- a segment is active as its shade at the latched row is
unfoldable pub segment_active : Scan → Settings → (ram icons : List ℕ) → (segment : ℕ) → Bool
segment_active x s ram icons segment = shade_active x s (shade_at s ram icons (latched_row x) segment)

abbrev pub bit : Bool → ℕ
bit on = cond on 1 0

-- n bits from `at` on, the first one lowest
unfoldable pub word : (ℕ → Bool) → (at n : ℕ) → ℕ
word f at zero = 0
word f at (suc n) = bit (f at) + 2 * word f (at + 1) n

-- 128 segments: bit n % 64 of word n / 64 is segment n
abbrev pub words : (ℕ → Bool) → List ℕ
words f = word f 0 64 ∷ word f 64 64 ∷ []

-- the latch of present memory and settings
unfoldable pub present_latch : Scan → Settings → (ram icons : List ℕ) → List ℕ
present_latch x s ram icons = words (segment_active x s ram icons)

-- the segments shown: the latch that is retained, else that of present memory and settings
unfoldable pub shown : Scan → Settings → (ram icons : List ℕ) → List ℕ
shown x s ram icons = cond x.latch.latched x.latch.segments (present_latch x s ram icons)

-- whether a change could alter a row, as `retain_latch` has it: a data byte alters the rows of its page, a command any row
unfoldable pub affects : (page : Option ℕ) → (row : ℕ) → Bool
affects None row = true
affects (Some page) row = cond (page == 16) (row == 128) (not (row == 128) && row / 8 == page % 16)

-- the scan with the latch of present memory and settings retained
unfoldable pub latch_retained : Scan → Settings → (ram icons : List ℕ) → Scan
latch_retained x s ram icons = with_latch x (record { segments = present_latch x s ram icons; latched = true })

-- the latch is retained before a change (document 01: kept) that could alter the row being shown
unfoldable pub retained : Scan → Settings → (page : Option ℕ) → (ram icons : List ℕ) → Scan
retained x s page ram icons = cond (x.latch.latched || not (affects page (latched_row x))) x (latch_retained x s ram icons)
