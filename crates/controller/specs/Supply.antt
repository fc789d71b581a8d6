-- Document 01, 'Controller': selecting, the data line, supply, temperature, the start-up wait and the loss of memory.
use Rattle.std.specs.Prelude.{ℕ, ◌+◌, Bool, true, false, cond, ◌||◌, List, eqb, ℤ, length, replicate, Option, Some, None, Result}
use Rattle.std.specs.Bool.{beq}
use Rattle.checks.specs.Checks.{changed}
use Rattle.clock.specs.declared.time.Time.{Time}
use Rattle.clock.specs.Time.{raw, time_of, micros_raw}
use Rattle.scan.specs.Count.{count_to}
use Rattle.scan.specs.Run.{stopped, resumed}
use Rattle.scan.specs.Drive.{runs}
use Rattle.controller.specs.declared.state.Nt7508.{Nt7508}
use Rattle.controller.specs.declared.state.Serial.{Serial}
use Rattle.controller.specs.declared.state.Power.{Power}
use Rattle.controller.specs.State.{power_on, with_scan, with_power, with_serial}
use Rattle.controller.specs.declared.check.Refusal.{Refusal}
use Rattle.controller.specs.Check.{answered, supplied_at, check_state, check_moment, check_memory}
use Rattle.controller.specs.Byte.{conditions_of}

-- a change of selection drops the bits under way; an awaited parameter stays
unfoldable pub selected_as : Serial → Bool → Serial
selected_as l on = record {
  selected = on;
  «data» = l.«data»;
  shift = cond (beq l.selected on) l.shift 0;
  bits = cond (beq l.selected on) l.bits 0;
  pending = l.pending;
}

abbrev pub with_data : Serial → Bool → Serial
with_data l on = record { selected = l.selected; «data» = on; shift = l.shift; bits = l.bits; pending = l.pending }

abbrev pub with_temperature : Power → ℤ → Power
with_temperature p t = record {
  display_on = p.display_on;
  power_save = p.power_save;
  oscillator_enabled = p.oscillator_enabled;
  supplied = p.supplied;
  supply_millivolts = p.supply_millivolts;
  temperature_millicelsius = t;
  cold = p.cold;
  ready = p.ready;
}

-- cold or not, and the wait
abbrev pub with_ready : Power → (cold : Bool) → Option Time → Power
with_ready p cold ready = record {
  display_on = p.display_on;
  power_save = p.power_save;
  oscillator_enabled = p.oscillator_enabled;
  supplied = p.supplied;
  supply_millivolts = p.supply_millivolts;
  temperature_millicelsius = p.temperature_millicelsius;
  cold = cold;
  ready = ready;
}

abbrev pub with_rail : Power → (millivolts : ℕ) → Power
with_rail p millivolts = record {
  display_on = p.display_on;
  power_save = p.power_save;
  oscillator_enabled = p.oscillator_enabled;
  supplied = supplied_at millivolts;
  supply_millivolts = millivolts;
  temperature_millicelsius = p.temperature_millicelsius;
  cold = p.cold;
  ready = p.ready;
}

-- a fall counts the scan, stops its clock, deselects and drops the wait
unfoldable pub fallen : Nt7508 → Time → Nt7508
fallen x now = record {
  scan = stopped (count_to x.scan x.display now);
  display = x.display;
  analog = x.analog;
  power = with_ready x.power x.power.cold None;
  address = x.address;
  serial = selected_as x.serial false;
}

-- rail 0 marks cold, supplied before or not
abbrev pub chilled : Nt7508 → (millivolts : ℕ) → Nt7508
chilled x millivolts = with_power x (with_ready x.power (x.power.cold || eqb millivolts 0) x.power.ready)

-- a cold rise returns to power-on settings, keeps T, stays cold and waits 21 µs
unfoldable pub cold_risen : Nt7508 → Time → Nt7508
cold_risen x now =
    with_power power_on (with_ready (with_temperature power_on.power x.power.temperature_millicelsius) true (Some (time_of (raw now + micros_raw 21))))

-- a warm rise keeps settings and updates the clock; no scan begins
unfoldable pub warm_risen : Nt7508 → Time → Nt7508
warm_risen x now = with_scan x (resumed x.scan x.display now (runs (conditions_of x.power)))

unfoldable pub risen : Nt7508 → Time → Nt7508
risen x now = cond x.power.cold (cold_risen x now) (warm_risen x now)

-- the rail: a fall, cold at 0, a rise
unfoldable pub switched : Nt7508 → (millivolts : ℕ) → Time → Nt7508
switched x millivolts now =
    cond x.power.supplied
    (chilled (cond (supplied_at millivolts) x (fallen x now)) millivolts)
    (cond (supplied_at millivolts) (risen (chilled x millivolts) now) (chilled x millivolts))

-- and then the supply itself
unfoldable pub railed : Nt7508 → (millivolts : ℕ) → Time → Nt7508
railed x millivolts now = let after = switched x millivolts now in with_power after (with_rail after.power millivolts)

-- only a deadline call at the exact time ends the wait, and only then is cold cleared
unfoldable pub deadline_met : Power → Option Time → Time → Power
deadline_met p None now = p
deadline_met p (Some t) now = cond (eqb (raw t) (raw now)) (with_ready p false None) p

-- the calls: the number of the refusal, and the state
unfoldable pub select : Nt7508 → Bool → Option ℕ × Nt7508
select x on = changed (check_state x) (with_serial x (selected_as x.serial on)) x

unfoldable pub command_data : Nt7508 → Bool → Option ℕ × Nt7508
command_data x on = changed (check_state x) (with_serial x (with_data x.serial on)) x

unfoldable pub set_temperature : Nt7508 → ℤ → Option ℕ × Nt7508
set_temperature x t = changed (check_state x) (with_power x (with_temperature x.power t)) x

unfoldable pub set_supply : Nt7508 → (millivolts : ℕ) → Time → Option ℕ × Nt7508
set_supply x millivolts now = changed (check_moment x now) (railed x millivolts now) x

unfoldable pub at_deadline : Nt7508 → Time → Option ℕ × Nt7508
at_deadline x now = changed (check_moment x now) (with_power x (deadline_met x.power x.power.ready now)) x

-- so many bytes that are all 0
unfoldable pub zeros : ℕ → List ℕ
zeros n = replicate n 0

-- a loss of memory: RAM and icons all 0, and cold; a retained latch stays, none is made
abbrev pub lost_by : (given : Nt7508) → Result Nt7508 Refusal → (ram icons : List ℕ) → Option ℕ × (Nt7508 × (List ℕ × List ℕ))
lost_by given r ram icons = let left = answered given r in (left.0, (left.1, (ram, icons)))

unfoldable pub lose_volatile : Nt7508 → (ram icons : List ℕ) → Option ℕ × (Nt7508 × (List ℕ × List ℕ))
lose_volatile x ram icons =
    changed (check_memory x ram icons)
    (with_power x (with_ready x.power true x.power.ready), (zeros (length ram), zeros (length icons)))
    (x, (ram, icons))
