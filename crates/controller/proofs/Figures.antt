-- The edge figures of document 01 hold, P1 to P8: each row of the table of specs/Figures.antt computes, but for the edges of P8,
-- which the clock's closed form counts.
use Prim.Native.Nat.{ℕ}
use mathlib.Core.Bool.{true, false}
use mathlib.Core.Path.{◌≡◌, refl}
use Rattle.clock.specs.Rate.{is_lcd}
use Rattle.clock.specs.Position.{position}
use Rattle.clock.specs.Edges.{started}
use Rattle.clock.proofs.Rates.{Bounds, lcd_bounds}
use Rattle.clock.proofs.Laws.{edges_formula}
use Rattle.voltage.specs.Voltage.{temperature_factor, trim, ev, gain, rounded, target_at, target, pump_present, pump, v0_present, share, levels, voltages}
use Rattle.controller.specs.State.{power_on, with_serial}
use Rattle.controller.specs.Check.{between, awaits}
use Rattle.controller.specs.Command.{lines_of, display_with, analog_with, parameter_taken, command_step}
use Rattle.controller.specs.Figures.{levels_are, lines_are, duty_ignored, duty_taken, figures, levels_at, sent, Holds, AllHold, done, ◌and◌}

bounds : Bounds (record { numerator = 129024; denominator = 1 })
unfolding is_lcd
bounds = lcd_bounds (record { numerator = 129024; denominator = 1 }) refl

levels_hold : Holds (levels_are 1 53 0 3001 7 5500000 5000000 1000000 500000)
unfolding Holds levels_at voltages levels target target_at rounded temperature_factor ev trim gain pump pump_present v0_present share power_on
levels_hold = (refl, refl, refl, refl)

-- the rows on bytes, for any parameter
lines_hold : (b n : ℕ) → lines_of b ≡ n → Holds (lines_are b n)
unfolding Holds sent command_step awaits with_serial parameter_taken display_with
lines_hold b n h x now = h

ignored_holds : (b : ℕ) → between 16 128 b ≡ false → Holds (duty_ignored b)
unfolding Holds sent command_step awaits with_serial parameter_taken display_with analog_with
ignored_holds b h x now = rw h

taken_holds : (b : ℕ) → between 16 128 b ≡ true → Holds (duty_taken b)
unfolding Holds sent command_step awaits with_serial parameter_taken display_with
taken_holds b h x now = (rw h, refl)

pub figures_hold : AllHold figures
unfolding figures Holds levels_at voltages levels target target_at rounded temperature_factor ev trim gain pump pump_present v0_present share power_on started position
figures_hold =
    refl
    and refl
    and refl
    and refl
    and refl
    and refl
    and refl
    and refl
    and refl
    and levels_hold
    and lines_hold 0 0 refl
    and lines_hold 1 3 refl
    and lines_hold 31 33 refl
    and lines_hold 32 0 refl
    and ignored_holds 15 refl
    and ignored_holds 129 refl
    and taken_holds 16 refl
    and taken_holds 128 refl
    and edges_formula _ _ bounds _
    and edges_formula _ _ bounds _
    and done
