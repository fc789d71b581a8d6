-- Document 01, 'Controller': the state at power-on, and the state with one group replaced.
use Rattle.std.specs.Prelude.{ℕ, true, false, List, [], ◌∷◌, pos, None}
use Rattle.scan.specs.declared.state.Scan.{Scan}
use Rattle.scan.specs.State as scans
use Rattle.scan.specs.declared.settings.Settings as display
use Rattle.voltage.specs.declared.Settings as analog
use Rattle.controller.specs.declared.state.Nt7508.{Nt7508}
use Rattle.controller.specs.declared.state.Serial.{Serial}
use Rattle.controller.specs.declared.state.Address.{Address}
use Rattle.controller.specs.declared.state.Power.{Power}

-- the palette at power-on and after a reset
abbrev pub palette : List ℕ
palette = 0 ∷ 0 ∷ 0 ∷ 0 ∷ 255 ∷ 255 ∷ 255 ∷ 255 ∷ []

-- the controller at power-on
unfoldable pub power_on : Nt7508
power_on = record {
  scan = scans.power_on;
  display = record {
    start_line = 0;
    icon_enabled = false;
    entire_on = false;
    reverse = false;
    segment_reverse = false;
    common_reverse = false;
    initial_com = 0;
    duty = 128;
    inversion_lines = 0;
    gray_mode = 0;
    palette = palette;
    oscillator_control = 0;
    oscillator_frequency = 0;
  };
  analog = record {
    contrast = 32;
    contrast_trim = 0;
    otp_control = 0;
    regulator = 0;
    power_control = 0;
    booster = 0;
    bias = 7;
    temperature_slope = 0;
  };
  power = record {
    display_on = false;
    power_save = false;
    oscillator_enabled = false;
    supplied = true;
    supply_millivolts = 3000;
    temperature_millicelsius = pos 20000;
    cold = false;
    ready = None;
  };
  address = record { page = 0; column_byte = 0; saved_column = None };
  serial = record { selected = false; «data» = false; shift = 0; bits = 0; pending = None };
}

-- the state with another group
unfoldable pub with_scan : Nt7508 → Scan → Nt7508
with_scan x s = record { scan = s; display = x.display; analog = x.analog; power = x.power; address = x.address; serial = x.serial }

unfoldable pub with_display : Nt7508 → display.Settings → Nt7508
with_display x d = record { scan = x.scan; display = d; analog = x.analog; power = x.power; address = x.address; serial = x.serial }

unfoldable pub with_analog : Nt7508 → analog.Settings → Nt7508
with_analog x a = record { scan = x.scan; display = x.display; analog = a; power = x.power; address = x.address; serial = x.serial }

unfoldable pub with_power : Nt7508 → Power → Nt7508
with_power x p = record { scan = x.scan; display = x.display; analog = x.analog; power = p; address = x.address; serial = x.serial }

unfoldable pub with_address : Nt7508 → Address → Nt7508
with_address x a = record { scan = x.scan; display = x.display; analog = x.analog; power = x.power; address = a; serial = x.serial }

unfoldable pub with_serial : Nt7508 → Serial → Nt7508
with_serial x l = record { scan = x.scan; display = x.display; analog = x.analog; power = x.power; address = x.address; serial = l }
