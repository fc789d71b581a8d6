-- Document 01, 'Edge figures', and 'The tightness of contracts', d: the P cases as one table, in the paper's order and with its
-- numbers, and what each row says over the definitions. proofs/Figures.antt proves every row of it (`figures_hold`).
use Rattle.std.specs.Prelude.{ℕ, false, List, [], ◌∷◌, ◌≡◌, pos, Option, Some, None}
use Rattle.clock.specs.declared.time.Time.{Time}
use Rattle.clock.specs.declared.rate.Rate.{Rate}
use Rattle.clock.specs.Time.{zero}
use Rattle.clock.specs.Edges.{started, edges_to}
use Rattle.voltage.specs.declared.LcdVoltages.{LcdVoltages}
use Rattle.voltage.specs.Voltage.{voltages}
use Rattle.controller.specs.declared.state.Nt7508.{Nt7508}
use Rattle.controller.specs.declared.event.Event.{Event}
use Rattle.controller.specs.declared.event.Stepped.{Stepped}
use Rattle.controller.specs.State.{power_on, with_serial}
use Rattle.controller.specs.Command.{with_pending, command_step}

-- a row of the table. T is in millidegrees, supplies are in millivolts, levels in microvolts
pub data Figure : Type 0 where
  -- the target at T, with this slope, regulator and contrast
  target_is : (t slope regulator contrast target : ℕ) → Figure
  -- V0 at T 25,000, with this regulator, contrast, booster and supply
  v0_is : (regulator contrast booster supply : ℕ) → (v0 : Option ℕ) → Figure
  -- V1 to V4 there, with this bias too
  levels_are : (regulator contrast booster supply bias : ℕ) → (v1 v2 v3 v4 : ℕ) → Figure
  -- the inversion lines after this parameter
  lines_are : (parameter lines : ℕ) → Figure
  -- a duty parameter that changes nothing and yet gives an event, and one that is taken
  duty_ignored : (parameter : ℕ) → Figure
  duty_taken : (parameter : ℕ) → Figure
  -- the edges at a rate over 1 from time 0 to this moment, in seconds and fraction units
  edges_are : (rate seconds fraction edges : ℕ) → Figure

-- the table
unfoldable pub figures : List Figure
figures =
    -- P1: T 25,000, slope 0, regulator 0, contrast 32
    target_is 25000 0 0 32 4117000
    -- P2: T 20,000
    ∷ target_is 20000 0 0 32 4142731
    -- P3: T 25,000, regulator 7, contrast 61 and 62. The pump is as high as it can be, so that only the target is in V0's way
    ∷ target_is 25000 0 7 61 14976000
    ∷ v0_is 7 61 11 3600 (Some 14976000)
    ∷ target_is 25000 0 7 62 15048000
    ∷ v0_is 7 62 11 3600 None
    -- P4: regulator 1, contrast 53, booster 0, 3000 mV and 3001 mV
    ∷ target_is 25000 0 1 53 6000000
    ∷ v0_is 1 53 0 3000 None
    ∷ v0_is 1 53 0 3001 (Some 6000000)
    -- P5: bias 7 there
    ∷ levels_are 1 53 0 3001 7 5500000 5000000 1000000 500000
    -- P6: inversion parameter 0, 1, 31, 32
    ∷ lines_are 0 0
    ∷ lines_are 1 3
    ∷ lines_are 31 33
    ∷ lines_are 32 0
    -- P7: duty 15, 129, 16, 128
    ∷ duty_ignored 15
    ∷ duty_ignored 129
    ∷ duty_taken 16
    ∷ duty_taken 128
    -- P8: rate 129024 from 0, at 1 s and one fraction unit earlier
    ∷ edges_are 129024 1 0 129024
    ∷ edges_are 129024 0 18446744073709551615 129023
    ∷ []

-- the voltages with these settings; power control is 7 (pump, V0 and V1 to V4), all else is as at power-on, which has no trim
unfoldable pub levels_at : (t slope regulator contrast booster bias supply : ℕ) → LcdVoltages
levels_at t slope regulator contrast booster bias supply =
    voltages
    (record {
      contrast = contrast;
      contrast_trim = power_on.analog.contrast_trim;
      otp_control = power_on.analog.otp_control;
      regulator = regulator;
      power_control = 7;
      booster = booster;
      bias = bias;
      temperature_slope = slope;
    })
    (record { supply_millivolts = supply; temperature_millicelsius = pos t; power_save = power_on.power.power_save; waiting = false })

-- a command that awaits a parameter, and the parameter
unfoldable pub sent : Nt7508 → (command parameter : ℕ) → Time → Stepped
sent x command parameter now =
    let s = (command_step x None command now).state in
    command_step s s.serial.pending parameter now

-- the event that the parameter gives
abbrev pub command_event : (command parameter : ℕ) → Time → Option Event
command_event command parameter now = Some (Event.Control now command (Some parameter))

-- the meaning of a row. Inversion is command 4C, duty is 48. Either is sent to any state, at any moment
unfoldable pub Holds : Figure → Type 0
Holds (target_is t slope regulator contrast v) =
    (levels_at t slope regulator contrast power_on.analog.booster power_on.analog.bias power_on.power.supply_millivolts).target ≡ v
Holds (v0_is regulator contrast booster supply v) = (levels_at 25000 0 regulator contrast booster power_on.analog.bias supply).v0 ≡ v
Holds (levels_are regulator contrast booster supply bias v1 v2 v3 v4) =
    let v = levels_at 25000 0 regulator contrast booster bias supply in
    (v.v1 ≡ Some v1) × (v.v2 ≡ Some v2) × (v.v3 ≡ Some v3) × (v.v4 ≡ Some v4)
Holds (lines_are b lines) = (x : Nt7508) (now : Time) → (sent x 0x4c b now).state.display.inversion_lines ≡ lines
Holds (duty_ignored b) =
    (x : Nt7508) (now : Time) → sent x 0x48 b now ≡ record { state = with_serial x (with_pending x.serial None); event = command_event 0x48 b now; store = None }
Holds (duty_taken b) = (x : Nt7508) (now : Time) → ((sent x 0x48 b now).state.display.duty ≡ b) × ((sent x 0x48 b now).event ≡ command_event 0x48 b now)
Holds (edges_are p seconds fraction n) =
    let r : Rate = record { numerator = p; denominator = 1 } in
    edges_to (started zero r) r (record { seconds = seconds; fraction = fraction }) ≡ n

-- every row of a table holds
infixr 5 ◌and◌
pub data AllHold : List Figure → Type 0 where
  done : AllHold []
  ◌and◌ : {f : Figure} {fs : List Figure} → Holds f → AllHold fs → AllHold (f ∷ fs)
