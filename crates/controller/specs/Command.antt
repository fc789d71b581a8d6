-- Document 01, 'Controller': command bytes act as `command` lists them. For each register, the bytes that set it and what they
-- set; a byte that sets none, E3 and E8 and the unassigned ones among them, leaves every register as it was.
use Rattle.std.specs.Prelude.{ℕ, ◌+◌, ◌-◌, ◌*◌, ◌/◌, ◌%◌, Bool, true, false, cond, ◌&&◌, ◌||◌, leb, eqb, set, Option, Some, None}
use Rattle.clock.specs.declared.time.Time.{Time}
use Rattle.scan.specs.declared.settings.Settings as display
use Rattle.voltage.specs.declared.Settings as analog
use Rattle.controller.specs.declared.state.Nt7508.{Nt7508}
use Rattle.controller.specs.declared.state.Serial.{Serial}
use Rattle.controller.specs.declared.state.Address.{Address}
use Rattle.controller.specs.declared.state.Power.{Power}
use Rattle.controller.specs.declared.event.Event.{Event}
use Rattle.controller.specs.declared.event.Stepped.{Stepped}
use Rattle.controller.specs.State.{palette, with_serial}
use Rattle.controller.specs.Check.{between, awaits}

-- a flag that one byte clears and another sets
abbrev pub flag_after : (off on b : ℕ) → Bool → Bool
flag_after off on b present = cond (eqb b off) false (cond (eqb b on) true present)

-- a register of a few bits that a run of bytes sets by their low ones
abbrev pub low_bits : (low high size b : ℕ) → ℕ → ℕ
low_bits low high size b present = cond (between low high b) (b % size) present

-- E2: what the Rust resets, and no more
abbrev pub is_reset : ℕ → Bool
is_reset b = eqb b 0xe2

abbrev pub reset_to : {A : Type 0} → (b : ℕ) → (first present : A) → A
reset_to b first present = cond (is_reset b) first present

-- A0 and A1; A2 and A3; A4 and A5; A6 and A7; C0 to CF; E2; E4; 90 to 97
unfoldable pub display_after : display.Settings → (b : ℕ) → display.Settings
display_after d b = record {
  start_line = reset_to b 0 d.start_line;
  icon_enabled = flag_after 0xa2 0xa3 b d.icon_enabled;
  entire_on = flag_after 0xa4 0xa5 b d.entire_on;
  reverse = flag_after 0xa6 0xa7 b d.reverse;
  segment_reverse = flag_after 0xa0 0xa1 b d.segment_reverse;
  common_reverse = cond (between 0xc0 0xc7 b) false (cond (between 0xc8 0xcf b) true d.common_reverse);
  initial_com = d.initial_com;
  duty = d.duty;
  inversion_lines = cond (eqb b 0xe4) 0 d.inversion_lines;
  gray_mode = reset_to b 0 (low_bits 0x90 0x97 8 b d.gray_mode);
  palette = reset_to b palette d.palette;
  oscillator_control = d.oscillator_control;
  oscillator_frequency = d.oscillator_frequency;
}

-- the booster's bits 0, 1 and 3, by 64 to 67 and 6C to 6F
abbrev pub booster_after : (b : ℕ) → ℕ → ℕ
booster_after b present = cond (between 0x64 0x67 b) (b % 4) (cond (between 0x6c 0x6f b) (8 + b % 4) present)

-- 20 to 27; 28 to 2F; 64 to 67 and 6C to 6F; 50 to 57; E2
unfoldable pub analog_after : analog.Settings → (b : ℕ) → analog.Settings
analog_after a b = record {
  contrast = reset_to b 32 a.contrast;
  contrast_trim = a.contrast_trim;
  otp_control = a.otp_control;
  regulator = reset_to b 0 (low_bits 0x20 0x27 8 b a.regulator);
  power_control = low_bits 0x28 0x2f 8 b a.power_control;
  booster = booster_after b a.booster;
  bias = low_bits 0x50 0x57 8 b a.bias;
  temperature_slope = a.temperature_slope;
}

-- A8, A9 and E1; AB; AE and AF
unfoldable pub power_after : Power → (b : ℕ) → Power
power_after p b = record {
  display_on = flag_after 0xae 0xaf b p.display_on;
  power_save = cond (eqb b 0xe1) false (flag_after 0xa8 0xa9 b p.power_save);
  oscillator_enabled = cond (eqb b 0xab) true p.oscillator_enabled;
  supplied = p.supplied;
  supply_millivolts = p.supply_millivolts;
  temperature_millicelsius = p.temperature_millicelsius;
  cold = p.cold;
  ready = p.ready;
}

-- the column in half bytes: 00 to 0F sets its low four bits, 10 to 17 the three above; either clears its plane
abbrev pub column_set : (b column : ℕ) → ℕ
column_set b column =
    cond (leb b 0x0f) ((column / 32 % 8 * 16 + b) * 2)
    (cond (between 0x10 0x17 b) ((b % 8 * 16 + column / 2 % 16) * 2) column)

-- EE: a saved column comes back, once
unfoldable pub column_or : Option ℕ → ℕ → ℕ
column_or None column = column
column_or (Some saved) column = saved

-- 00 to 17; B0 to BF; A3, which selects page 16, and A2, which leaves it; E0 saves the column, EE restores it; E2
unfoldable pub address_after : Address → (b : ℕ) → Address
address_after a b = record {
  page = reset_to b 0 (cond (eqb b 0xa3) 16 (low_bits 0xb0 0xbf 16 b a.page));
  column_byte = reset_to b 0 (cond (eqb b 0xee) (column_or a.saved_column a.column_byte) (column_set b a.column_byte));
  saved_column = cond (is_reset b || eqb b 0xee) None (cond (eqb b 0xe0) (Some a.column_byte) a.saved_column);
}

-- a parameter and the command that awaited it: 40 to 43, 44 to 47, 48 to 4B (from 16 to 128 only), 4C to 4F, 88 to 8F, F6, F7
abbrev pub duty_with : (c b : ℕ) → ℕ → ℕ
duty_with c b present = cond (between 0x48 0x4b c && between 16 128 b) b present

-- inversion: 0 by frame, else 3 to 33 lines
abbrev pub lines_of : ℕ → ℕ
lines_of b = cond (eqb (b % 32) 0) 0 (b % 32 + 2)

unfoldable pub display_with : display.Settings → (c b : ℕ) → display.Settings
display_with d c b = record {
  start_line = cond (between 0x40 0x43 c) (b % 128) d.start_line;
  icon_enabled = d.icon_enabled;
  entire_on = d.entire_on;
  reverse = d.reverse;
  segment_reverse = d.segment_reverse;
  common_reverse = d.common_reverse;
  initial_com = cond (between 0x44 0x47 c) (b % 128) d.initial_com;
  duty = duty_with c b d.duty;
  inversion_lines = cond (between 0x4c 0x4f c) (lines_of b) d.inversion_lines;
  gray_mode = d.gray_mode;
  palette = cond (between 0x88 0x8f c) (set d.palette (c - 0x88) b) d.palette;
  oscillator_control = cond (eqb c 0xf7) (b % 4) d.oscillator_control;
  oscillator_frequency = cond (eqb c 0xf6) (b % 32) d.oscillator_frequency;
}

-- 81, F1, F3, F4
unfoldable pub analog_with : analog.Settings → (c b : ℕ) → analog.Settings
analog_with a c b = record {
  contrast = cond (eqb c 0x81) (b % 64) a.contrast;
  contrast_trim = cond (eqb c 0xf3) (b % 16) a.contrast_trim;
  otp_control = cond (eqb c 0xf4) (b % 4) a.otp_control;
  regulator = a.regulator;
  power_control = a.power_control;
  booster = a.booster;
  bias = a.bias;
  temperature_slope = cond (eqb c 0xf1) (b % 2) a.temperature_slope;
}

-- the awaited command
abbrev pub with_pending : Serial → Option ℕ → Serial
with_pending l p = record { selected = l.selected; «data» = l.«data»; shift = l.shift; bits = l.bits; pending = p }

-- every register after a byte that awaits no parameter
unfoldable pub acted : Nt7508 → (b : ℕ) → Nt7508
acted x b = record {
  scan = x.scan;
  display = display_after x.display b;
  analog = analog_after x.analog b;
  power = power_after x.power b;
  address = address_after x.address b;
  serial = with_pending x.serial None;
}

-- every register after a parameter
unfoldable pub parameter_taken : Nt7508 → (c b : ℕ) → Nt7508
parameter_taken x c b = record {
  scan = x.scan;
  display = display_with x.display c b;
  analog = analog_with x.analog c b;
  power = x.power;
  address = x.address;
  serial = with_pending x.serial None;
}

-- a byte that awaits a parameter gives no event, every other byte one
unfoldable pub command_step : Nt7508 → Option ℕ → (b : ℕ) → Time → Stepped
command_step x (Some c) b now = record { state = parameter_taken x c b; event = Some (Event.Control now c (Some b)); store = None }
command_step x None b now =
    cond (awaits b)
    (record { state = with_serial x (with_pending x.serial (Some b)); event = None; store = None })
    (record { state = acted x b; event = Some (Event.Control now b None); store = None })
