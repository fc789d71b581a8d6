-- Document 01, 'Controller': a data byte, and a whole byte. The scan is counted and its latch retained by the settings before the
-- byte, the byte acts, and inversion, start and clock go by the settings and memory after it.
use Rattle.std.specs.Prelude.{ℕ, ◌+◌, ◌*◌, ◌%◌, Bool, true, false, cond, List, leb, eqb, Option, Some, None}
use Rattle.clock.specs.declared.time.Time.{Time}
use Rattle.scan.specs.declared.drive.Conditions.{Conditions}
use Rattle.scan.specs.Count.{count_to}
use Rattle.scan.specs.Latch.{retained}
use Rattle.scan.specs.Run.{running_after, updated}
use Rattle.scan.specs.Drive.{runs}
use Rattle.controller.specs.declared.state.Nt7508.{Nt7508}
use Rattle.controller.specs.declared.state.Address.{Address}
use Rattle.controller.specs.declared.state.Power.{Power}
use Rattle.controller.specs.declared.event.Event.{Event}
use Rattle.controller.specs.declared.event.Store.{Store}
use Rattle.controller.specs.declared.event.Stepped.{Stepped}
use Rattle.controller.specs.State.{with_scan, with_address}
use Rattle.controller.specs.Event.{ram_after, icons_after}
use Rattle.controller.specs.Command.{command_step}

-- the start-up wait lasts
abbrev pub waiting : Option Time → Bool
waiting None = false
waiting (Some t) = true

-- the conditions that decide whether the scan runs and the glass is driven
abbrev pub conditions_of : Power → Conditions
conditions_of p = record {
  display_on = p.display_on;
  oscillator_enabled = p.oscillator_enabled;
  supply = record {
    supply_millivolts = p.supply_millivolts;
    temperature_millicelsius = p.temperature_millicelsius;
    power_save = p.power_save;
    waiting = waiting p.ready;
  };
}

-- the column stops at 255, which later data overwrites
abbrev pub next_column : Address → Address
next_column a = record { page = a.page; column_byte = cond (leb 255 a.column_byte) 255 (a.column_byte + 1); saved_column = a.saved_column }

-- data goes to RAM or, at page 16, icon bit 0; the event has page, column and value as they were
unfoldable pub store_of : Address → (b : ℕ) → Store
store_of a b = cond (eqb a.page 16) (Store.Icon (a.column_byte % 256) (b % 2)) (Store.Ram (a.page % 16 * 256 + a.column_byte % 256) b)

unfoldable pub data_step : Nt7508 → (b : ℕ) → Time → Stepped
data_step x b now = record {
  state = with_address x (next_column x.address);
  event = Some (Event.Write now x.address.page x.address.column_byte b);
  store = Some (store_of x.address b);
}

-- the page that a byte could alter, if it carries data
abbrev pub page_sent : Nt7508 → Option ℕ
page_sent x = cond x.serial.«data» (Some x.address.page) None

-- counted to the moment, the latch retained where the byte could alter the row shown
unfoldable pub found : Nt7508 → Time → (ram icons : List ℕ) → Nt7508
found x now ram icons = with_scan x (retained (count_to x.scan x.display now) x.display (page_sent x) ram icons)

unfoldable pub step_of : Nt7508 → (b : ℕ) → Time → Stepped
step_of x b now = cond x.serial.«data» (data_step x b now) (command_step x x.serial.pending b now)

-- inversion, start and clock by what the byte left and memory after it; `was` says whether the scan ran before it
unfoldable pub settled_by : (was : Bool) → Stepped → Time → (ram icons : List ℕ) → Stepped
settled_by was s now ram icons = record {
  state = with_scan s.state (updated s.state.scan s.state.display now (running_after was (runs (conditions_of s.state.power))) ram icons);
  event = s.event;
  store = s.store;
}

-- a whole byte
unfoldable pub byte_taken : Nt7508 → (b : ℕ) → Time → (ram icons : List ℕ) → Stepped
byte_taken x b now ram icons =
    let s = step_of (found x now ram icons) b now in
    settled_by (runs (conditions_of x.power)) s now (ram_after s.store ram) (icons_after s.store icons)
