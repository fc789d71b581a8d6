-- The controller's state as a block of 75 words, one for each field in the order of declaration; src/state_words.rt lists them.
use Rattle.std.specs.Prelude.{ℕ, ◌%◌, ◌^◌, Bool, true, cond, ◌&&◌, List, [], ◌∷◌, ◌++◌, ltb, eqb, ℤ, pos, nat_abs, ◌+ℤ◌, ◌-ℤ◌, length, get_or, Option, Some, None}
use Rattle.std.proofs.Math.Seq.{paste}
use mir.Val.{bool_byte}
use Rattle.scan.specs.declared.settings.Settings as display
use Rattle.scan.specs.declared.state.Scan.{Scan}
use Rattle.voltage.specs.declared.Settings as analog
use Rattle.controller.specs.declared.state.Nt7508.{Nt7508}
use Rattle.controller.specs.declared.state.Serial.{Serial}
use Rattle.controller.specs.declared.state.Address.{Address}
use Rattle.controller.specs.declared.state.Power.{Power}
use Rattle.clock.specs.declared.time.Time.{Time}
use Rattle.clock.specs.declared.edges.Clock.{Clock}
use Rattle.ffi.specs.Words.{optional_words}
use Rattle.ffi.specs.ClockWords.{time, rate, deadline_words}
use Rattle.ffi.specs.ScanWords.{flag, running_of, running_words}

-- each word fits its field: a yes or no, a byte, two bytes, or the four of the temperature; other words may be anything
abbrev pub scan_fits : List ℕ → Bool
scan_fits w =
    ltb (get_or w 0 0) 2
    && ltb (get_or w 13 0) 2
    && ltb (get_or w 14 0) 256
    && ltb (get_or w 15 0) 2
    && ltb (get_or w 16 0) 256
    && ltb (get_or w 17 0) 2
    && ltb (get_or w 18 0) 256
    && ltb (get_or w 19 0) 256
    && ltb (get_or w 20 0) 256
    && ltb (get_or w 21 0) 256
    && ltb (get_or w 22 0) 256
    && ltb (get_or w 23 0) 256
    && ltb (get_or w 24 0) 256
    && ltb (get_or w 25 0) 256
    && ltb (get_or w 26 0) 2

abbrev pub display_fits : List ℕ → Bool
display_fits w =
    ltb (get_or w 27 0) 256
    && ltb (get_or w 28 0) 2
    && ltb (get_or w 29 0) 2
    && ltb (get_or w 30 0) 2
    && ltb (get_or w 31 0) 2
    && ltb (get_or w 32 0) 2
    && ltb (get_or w 33 0) 256
    && ltb (get_or w 34 0) 256
    && ltb (get_or w 35 0) 256
    && ltb (get_or w 36 0) 256
    && ltb (get_or w 37 0) 256
    && ltb (get_or w 38 0) 256
    && ltb (get_or w 39 0) 256
    && ltb (get_or w 40 0) 256
    && ltb (get_or w 41 0) 256
    && ltb (get_or w 42 0) 256
    && ltb (get_or w 43 0) 256
    && ltb (get_or w 44 0) 256
    && ltb (get_or w 45 0) 256
    && ltb (get_or w 46 0) 256

abbrev pub analog_fits : List ℕ → Bool
analog_fits w =
    ltb (get_or w 47 0) 256
    && ltb (get_or w 48 0) 256
    && ltb (get_or w 49 0) 256
    && ltb (get_or w 50 0) 256
    && ltb (get_or w 51 0) 256
    && ltb (get_or w 52 0) 256
    && ltb (get_or w 53 0) 256
    && ltb (get_or w 54 0) 256

abbrev pub power_fits : List ℕ → Bool
power_fits w =
    ltb (get_or w 55 0) 2
    && ltb (get_or w 56 0) 2
    && ltb (get_or w 57 0) 2
    && ltb (get_or w 58 0) 2
    && ltb (get_or w 59 0) 65536
    && ltb (get_or w 60 0) (2 ^ 32)
    && ltb (get_or w 61 0) 2
    && ltb (get_or w 62 0) 2

abbrev pub line_fits : List ℕ → Bool
line_fits w =
    ltb (get_or w 65 0) 256
    && ltb (get_or w 66 0) 65536
    && ltb (get_or w 67 0) 2
    && ltb (get_or w 68 0) 65536
    && ltb (get_or w 69 0) 2
    && ltb (get_or w 70 0) 2
    && ltb (get_or w 71 0) 256
    && ltb (get_or w 72 0) 256
    && ltb (get_or w 73 0) 2
    && ltb (get_or w 74 0) 256

-- a block holds a state
unfoldable pub holds_state : List ℕ → Bool
holds_state w = eqb (length w) 75 && (scan_fits w && display_fits w && analog_fits w && power_fits w && line_fits w)

-- the same tests by their kinds, as src/state_words.rt makes them
abbrev pub below : Bool → (limit : ℕ) → (places w : List ℕ) → Bool
below b limit [] w = b
below b limit (k ∷ ks) w = below (b && ltb (get_or w k 0) limit) limit ks w

abbrev pub flags_fit : List ℕ → Bool
flags_fit w = below true 2 (0 ∷ 13 ∷ 15 ∷ 17 ∷ 26 ∷ 28 ∷ 29 ∷ 30 ∷ 31 ∷ 32 ∷ 55 ∷ 56 ∷ 57 ∷ 58 ∷ 61 ∷ 62 ∷ 67 ∷ 69 ∷ 70 ∷ 73 ∷ []) w

abbrev pub bytes_fit : List ℕ → Bool
bytes_fit w = below true 256 (14 ∷ 16 ∷ 18 ∷ 19 ∷ 20 ∷ 21 ∷ 22 ∷ 23 ∷ 24 ∷ 25 ∷ 27 ∷ 33 ∷ 34 ∷ 35 ∷ 36 ∷ 37 ∷ 38 ∷ 39 ∷ 40 ∷ 41 ∷ 42 ∷ 43 ∷ 44 ∷ 45 ∷ 46 ∷ 47 ∷ 48 ∷ 49 ∷ 50 ∷ 51 ∷ 52 ∷ 53 ∷ 54 ∷ 65 ∷ 71 ∷ 72 ∷ 74 ∷ []) w

abbrev pub wider_fit : List ℕ → Bool
wider_fit w = ltb (get_or w 59 0) 65536 && ltb (get_or w 60 0) (2 ^ 32) && ltb (get_or w 66 0) 65536 && ltb (get_or w 68 0) 65536

-- the state of a block
unfoldable pub clock_in : List ℕ → Option Clock
clock_in w = running_of (get_or w 0 0) (get_or w 1 0 ∷ get_or w 2 0 ∷ get_or w 3 0 ∷ get_or w 4 0 ∷ get_or w 5 0 ∷ get_or w 6 0 ∷ get_or w 7 0 ∷ get_or w 8 0 ∷ [])

abbrev pub scan_with : Option Clock → List ℕ → Scan
scan_with clock w = record {
  ticking = record { clock = clock; rate = rate (get_or w 9 0) (get_or w 10 0) };
  latch = record { segments = get_or w 11 0 ∷ get_or w 12 0 ∷ []; latched = flag (get_or w 13 0) };
  frame = record {
    duty = get_or w 14 0 % 256;
    icon = flag (get_or w 15 0);
    initial_com = get_or w 16 0 % 256;
    common_reverse = flag (get_or w 17 0);
    start_line = get_or w 18 0 % 256;
    frc_count = get_or w 19 0 % 256;
  };
  pwm = get_or w 20 0 % 256;
  row = get_or w 21 0 % 256;
  step = get_or w 22 0 % 256;
  frc = get_or w 23 0 % 256;
  inversion = record { lines = get_or w 24 0 % 256; count = get_or w 25 0 % 256; inverted = flag (get_or w 26 0) };
}

unfoldable pub scan_in : List ℕ → Scan
scan_in w = scan_with (clock_in w) w

abbrev pub display_in : List ℕ → display.Settings
display_in w = record {
  start_line = get_or w 27 0 % 256;
  icon_enabled = flag (get_or w 28 0);
  entire_on = flag (get_or w 29 0);
  reverse = flag (get_or w 30 0);
  segment_reverse = flag (get_or w 31 0);
  common_reverse = flag (get_or w 32 0);
  initial_com = get_or w 33 0 % 256;
  duty = get_or w 34 0 % 256;
  inversion_lines = get_or w 35 0 % 256;
  gray_mode = get_or w 36 0 % 256;
  palette =
      get_or w 37 0 % 256
      ∷ get_or w 38 0 % 256
      ∷ get_or w 39 0 % 256
      ∷ get_or w 40 0 % 256
      ∷ get_or w 41 0 % 256
      ∷ get_or w 42 0 % 256
      ∷ get_or w 43 0 % 256
      ∷ get_or w 44 0 % 256
      ∷ [];
  oscillator_control = get_or w 45 0 % 256;
  oscillator_frequency = get_or w 46 0 % 256;
}

abbrev pub analog_in : List ℕ → analog.Settings
analog_in w = record {
  contrast = get_or w 47 0 % 256;
  contrast_trim = get_or w 48 0 % 256;
  otp_control = get_or w 49 0 % 256;
  regulator = get_or w 50 0 % 256;
  power_control = get_or w 51 0 % 256;
  booster = get_or w 52 0 % 256;
  bias = get_or w 53 0 % 256;
  temperature_slope = get_or w 54 0 % 256;
}

-- a temperature, counted from the lowest
abbrev pub temperature_of : ℕ → ℤ
temperature_of n = pos (n % 2 ^ 32) -ℤ pos 2147483648

unfoldable pub ready_in : List ℕ → Option Time
ready_in w = cond (eqb (get_or w 62 0) 0) None (Some (time (get_or w 63 0) (get_or w 64 0)))

abbrev pub power_with : (temperature : ℤ) → Option Time → List ℕ → Power
power_with temperature ready w = record {
  display_on = flag (get_or w 55 0);
  power_save = flag (get_or w 56 0);
  oscillator_enabled = flag (get_or w 57 0);
  supplied = flag (get_or w 58 0);
  supply_millivolts = get_or w 59 0 % 65536;
  temperature_millicelsius = temperature;
  cold = flag (get_or w 61 0);
  ready = ready;
}

unfoldable pub power_in : List ℕ → Power
power_in w = power_with (temperature_of (get_or w 60 0)) (ready_in w) w

unfoldable pub saved_in : List ℕ → Option ℕ
saved_in w = cond (eqb (get_or w 67 0) 0) None (Some (get_or w 68 0 % 65536))

abbrev pub address_with : Option ℕ → List ℕ → Address
address_with saved w = record { page = get_or w 65 0 % 256; column_byte = get_or w 66 0 % 65536; saved_column = saved }

unfoldable pub address_in : List ℕ → Address
address_in w = address_with (saved_in w) w

unfoldable pub pending_in : List ℕ → Option ℕ
pending_in w = cond (eqb (get_or w 73 0) 0) None (Some (get_or w 74 0 % 256))

abbrev pub serial_with : Option ℕ → List ℕ → Serial
serial_with pending w = record { selected = flag (get_or w 69 0); «data» = flag (get_or w 70 0); shift = get_or w 71 0 % 256; bits = get_or w 72 0 % 256; pending = pending }

unfoldable pub serial_in : List ℕ → Serial
serial_in w = serial_with (pending_in w) w

unfoldable pub state_of : List ℕ → Nt7508
state_of w = record { scan = scan_in w; display = display_in w; analog = analog_in w; power = power_in w; address = address_in w; serial = serial_in w }

-- the words of a state; what is not there has words of 0
abbrev pub scan_part_with : (clock : List ℕ) → Scan → List ℕ
scan_part_with c x =
    get_or c 0 0
    ∷ get_or c 1 0
    ∷ get_or c 2 0
    ∷ get_or c 3 0
    ∷ get_or c 4 0
    ∷ get_or c 5 0
    ∷ get_or c 6 0
    ∷ get_or c 7 0
    ∷ get_or c 8 0
    ∷ x.ticking.rate.numerator
    ∷ x.ticking.rate.denominator
    ∷ get_or x.latch.segments 0 0
    ∷ get_or x.latch.segments 1 0
    ∷ bool_byte x.latch.latched
    ∷ x.frame.duty
    ∷ bool_byte x.frame.icon
    ∷ x.frame.initial_com
    ∷ bool_byte x.frame.common_reverse
    ∷ x.frame.start_line
    ∷ x.frame.frc_count
    ∷ x.pwm
    ∷ x.row
    ∷ x.step
    ∷ x.frc
    ∷ x.inversion.lines
    ∷ x.inversion.count
    ∷ bool_byte x.inversion.inverted
    ∷ []

unfoldable pub scan_part : Scan → List ℕ
scan_part x = scan_part_with (running_words x.ticking.clock) x

abbrev pub palette_words : List ℕ → List ℕ
palette_words p = get_or p 0 0 ∷ get_or p 1 0 ∷ get_or p 2 0 ∷ get_or p 3 0 ∷ get_or p 4 0 ∷ get_or p 5 0 ∷ get_or p 6 0 ∷ get_or p 7 0 ∷ []

abbrev pub display_part_with : (palette : List ℕ) → display.Settings → List ℕ
display_part_with p d =
    d.start_line
    ∷ bool_byte d.icon_enabled
    ∷ bool_byte d.entire_on
    ∷ bool_byte d.reverse
    ∷ bool_byte d.segment_reverse
    ∷ bool_byte d.common_reverse
    ∷ d.initial_com
    ∷ d.duty
    ∷ d.inversion_lines
    ∷ d.gray_mode
    ∷ get_or p 0 0
    ∷ get_or p 1 0
    ∷ get_or p 2 0
    ∷ get_or p 3 0
    ∷ get_or p 4 0
    ∷ get_or p 5 0
    ∷ get_or p 6 0
    ∷ get_or p 7 0
    ∷ d.oscillator_control
    ∷ d.oscillator_frequency
    ∷ []

unfoldable pub display_part : display.Settings → List ℕ
display_part d = display_part_with (palette_words d.palette) d

abbrev pub analog_part : analog.Settings → List ℕ
analog_part a =
    a.contrast
    ∷ a.contrast_trim
    ∷ a.otp_control
    ∷ a.regulator
    ∷ a.power_control
    ∷ a.booster
    ∷ a.bias
    ∷ a.temperature_slope
    ∷ []

abbrev pub temperature_word : ℤ → ℕ
temperature_word t = nat_abs (t +ℤ pos 2147483648)

abbrev pub power_part_with : (temperature : ℕ) → (ready : List ℕ) → Power → List ℕ
power_part_with t r p =
    bool_byte p.display_on
    ∷ bool_byte p.power_save
    ∷ bool_byte p.oscillator_enabled
    ∷ bool_byte p.supplied
    ∷ p.supply_millivolts
    ∷ t
    ∷ bool_byte p.cold
    ∷ get_or r 0 0
    ∷ get_or r 1 0
    ∷ get_or r 2 0
    ∷ []

unfoldable pub power_part : Power → List ℕ
power_part p = power_part_with (temperature_word p.temperature_millicelsius) (deadline_words p.ready) p

abbrev pub address_part_with : (saved : List ℕ) → Address → List ℕ
address_part_with s a = a.page ∷ a.column_byte ∷ get_or s 0 0 ∷ get_or s 1 0 ∷ []

unfoldable pub address_part : Address → List ℕ
address_part a = address_part_with (optional_words a.saved_column) a

abbrev pub serial_part_with : (pending : List ℕ) → Serial → List ℕ
serial_part_with p l = bool_byte l.selected ∷ bool_byte l.«data» ∷ l.shift ∷ l.bits ∷ get_or p 0 0 ∷ get_or p 1 0 ∷ []

unfoldable pub serial_part : Serial → List ℕ
serial_part l = serial_part_with (optional_words l.pending) l

-- words at a place of a block
unfoldable pub pasted : (w : List ℕ) → (at : ℕ) → (words : List ℕ) → List ℕ
pasted w at words = paste w at words (length words)

unfoldable pub state_words : Nt7508 → List ℕ
state_words x =
    scan_part x.scan
    ++ display_part x.display
    ++ analog_part x.analog
    ++ power_part x.power
    ++ address_part x.address
    ++ serial_part x.serial
