-- A state whose numbers fit their types, as those of a value always do, comes back from its words, and its words hold it.
use Prim.Native.Nat.{ℕ, suc, ◌+◌, ◌-◌, ◌%◌, ◌<◌, ◌^◌}
use mathlib.Core.Bool.{Bool, true, false, cond, ◌&&◌}
use mathlib.Core.List.{List, [], ◌∷◌}
use mathlib.Core.Path.{◌≡◌, refl, ap, sym, ◌∙◌}
use native.Mathlib.Nat.{mod-eq_of_lt}
use native.Mathlib.Omega.{arith}
use lib.Dec.{ltb, eqb}
use lib.IntN.{ℤ, pos, negsuc}
use lib.ListN.{length, get_or, drop_of_length-le}
use lib.Seq.{drop-cons}
use lib.Signed.{mag}
use mir.Val.{bool_byte}
use borrow.Author.Tests.{lt-ltb, le-ltb, eq-eqb}
use Rattle.scan.specs.declared.settings.Settings as display
use Rattle.scan.specs.declared.state.Scan.{Scan}
use Rattle.voltage.specs.declared.Settings as analog
use Rattle.controller.specs.declared.state.Nt7508.{Nt7508}
use Rattle.controller.specs.declared.state.Serial.{Serial}
use Rattle.controller.specs.declared.state.Address.{Address}
use Rattle.controller.specs.declared.state.Power.{Power}
use Rattle.clock.specs.declared.time.Time.{Time}
use Rattle.clock.specs.declared.edges.Clock.{Clock}
use Rattle.std.specs.Prelude.{Option, Some, None}
use Rattle.ffi.specs.Words.{optional_words}
use Rattle.ffi.specs.ClockWords.{time, deadline_words}
use Rattle.ffi.specs.ScanWords.{flag, running_of, running_words}
use Rattle.ffi.specs.StateWords.{scan_fits, display_fits, analog_fits, power_fits, line_fits, holds_state, clock_in, scan_in, display_in, analog_in, temperature_of, ready_in, power_in, saved_in, address_in, pending_in, serial_in, state_of, scan_part, display_part, temperature_word, power_part, address_part, serial_part, state_words}
use Rattle.ffi.proofs.Temperatures.{positive}

-- ---- numbers that fit their types
pub record ScanOk (s : Scan) : Type 0 where
  pub segments : length s.latch.segments ≡ 2
  pub duty : s.frame.duty < 256
  pub initial : s.frame.initial_com < 256
  pub start : s.frame.start_line < 256
  pub phases : s.frame.frc_count < 256
  pub pwm : s.pwm < 256
  pub row : s.row < 256
  pub step : s.step < 256
  pub frc : s.frc < 256
  pub lines : s.inversion.lines < 256
  pub count : s.inversion.count < 256

pub record DisplayOk (d : display.Settings) : Type 0 where
  pub start : d.start_line < 256
  pub initial : d.initial_com < 256
  pub duty : d.duty < 256
  pub lines : d.inversion_lines < 256
  pub gray : d.gray_mode < 256
  pub shades : length d.palette ≡ 8
  pub widths : (k : ℕ) → get_or d.palette k 0 < 256
  pub control : d.oscillator_control < 256
  pub frequency : d.oscillator_frequency < 256

pub record AnalogOk (a : analog.Settings) : Type 0 where
  pub contrast : a.contrast < 256
  pub contrast_trim : a.contrast_trim < 256
  pub otp_control : a.otp_control < 256
  pub regulator : a.regulator < 256
  pub power_control_lem : a.power_control < 256
  pub booster : a.booster < 256
  pub bias : a.bias < 256
  pub temperature_slope : a.temperature_slope < 256

pub record PowerOk (p : Power) : Type 0 where
  pub supply : p.supply_millivolts < 65536
  pub temperature : mag p.temperature_millicelsius < 2 ^ 31

pub record AddressOk (a : Address) : Type 0 where
  pub page : a.page < 256
  pub column : a.column_byte < 65536
  pub saved : get_or (optional_words a.saved_column) 1 0 < 65536

pub record SerialOk (l : Serial) : Type 0 where
  pub shift : l.shift < 256
  pub bits : l.bits < 256
  pub pending : get_or (optional_words l.pending) 1 0 < 256

pub record StateOk (x : Nt7508) : Type 0 where
  pub scan : ScanOk x.scan
  pub display : DisplayOk x.display
  pub analog : AnalogOk x.analog
  pub power : PowerOk x.power
  pub address : AddressOk x.address
  pub serial : SerialOk x.serial

-- ---- one word
flag_back : (b : Bool) → flag (bool_byte b) ≡ b
flag_back true = refl
flag_back false = refl

temperature_back : (z : ℤ) → mag z < 2 ^ 31 → temperature_of (temperature_word z) ≡ z
temperature_back (pos n) h =
    let small : n + 2147483648 < 2 ^ 32 = omega arith in
    rw (mod-eq_of_lt small, le-ltb (n + 2147483648) 2147483648 (omega arith)) (ap pos (omega arith))
temperature_back (negsuc n) h =
    let small : 2147483648 - suc n < 2 ^ 32 = omega arith in
    rw (le-ltb 2147483648 (suc n) (omega arith), mod-eq_of_lt small, lt-ltb (2147483648 - suc n) 2147483648 (omega arith)) (ap negsuc (omega arith))

-- ---- what may not be there
clock_back : (c : Option Clock) → running_of (get_or (running_words c) 0 0) (get_or (running_words c) 1 0 ∷ get_or (running_words c) 2 0 ∷ get_or (running_words c) 3 0 ∷ get_or (running_words c) 4 0 ∷ get_or (running_words c) 5 0 ∷ get_or (running_words c) 6 0 ∷ get_or (running_words c) 7 0 ∷ get_or (running_words c) 8 0 ∷ []) ≡ c
clock_back (Some k) = refl
clock_back None = refl

ready_back : (r : Option Time) → cond (eqb (get_or (deadline_words r) 0 0) 0) None (Some (time (get_or (deadline_words r) 1 0) (get_or (deadline_words r) 2 0))) ≡ r
ready_back None = refl
ready_back (Some t) = refl

optional_back : (o : Option ℕ) (m : ℕ) → get_or (optional_words o) 1 0 < m → cond (eqb (get_or (optional_words o) 0 0) 0) None (Some (get_or (optional_words o) 1 0 % m)) ≡ o
optional_back None m h = refl
optional_back (Some n) m h = ap Some (mod-eq_of_lt h)

-- ---- lists of two and of eight
two : (l : List ℕ) → length l ≡ 2 → get_or l 0 0 ∷ get_or l 1 0 ∷ [] ≡ l
two l e =
    sym (drop-cons l 0 0 (omega (arith, e))
    ∙ ap (λ (r : List ℕ). get_or l 0 0 ∷ r) (drop-cons l 1 0 (omega (arith, e))
    ∙ ap (λ (r : List ℕ). get_or l 1 0 ∷ r) (drop_of_length-le l {i = 2} (omega (arith, e)))))

eight : (l : List ℕ) → length l ≡ 8 → get_or l 0 0 ∷ get_or l 1 0 ∷ get_or l 2 0 ∷ get_or l 3 0 ∷ get_or l 4 0 ∷ get_or l 5 0 ∷ get_or l 6 0 ∷ get_or l 7 0 ∷ [] ≡ l
eight l e =
    sym (drop-cons l 0 0 (omega (arith, e))
    ∙ ap (λ (r : List ℕ). get_or l 0 0 ∷ r) (drop-cons l 1 0 (omega (arith, e))
    ∙ ap (λ (r : List ℕ). get_or l 1 0 ∷ r) (drop-cons l 2 0 (omega (arith, e))
    ∙ ap (λ (r : List ℕ). get_or l 2 0 ∷ r) (drop-cons l 3 0 (omega (arith, e))
    ∙ ap (λ (r : List ℕ). get_or l 3 0 ∷ r) (drop-cons l 4 0 (omega (arith, e))
    ∙ ap (λ (r : List ℕ). get_or l 4 0 ∷ r) (drop-cons l 5 0 (omega (arith, e))
    ∙ ap (λ (r : List ℕ). get_or l 5 0 ∷ r) (drop-cons l 6 0 (omega (arith, e))
    ∙ ap (λ (r : List ℕ). get_or l 6 0 ∷ r) (drop-cons l 7 0 (omega (arith, e))
    ∙ ap (λ (r : List ℕ). get_or l 7 0 ∷ r) (drop_of_length-le l {i = 8} (omega (arith, e)))))))))))

-- ---- the groups
scan_back : (x : Nt7508) → ScanOk x.scan → scan_in (state_words x) ≡ x.scan
unfolding state_words scan_part display_part power_part address_part serial_part scan_in clock_in
scan_back x ok = λ i. record {
  ticking = record { clock = clock_back x.scan.ticking.clock i; rate = x.scan.ticking.rate };
  latch = record { segments = two x.scan.latch.segments ok.segments i; latched = flag_back x.scan.latch.latched i };
  frame = record {
    duty = mod-eq_of_lt ok.duty i;
    icon = flag_back x.scan.frame.icon i;
    initial_com = mod-eq_of_lt ok.initial i;
    common_reverse = flag_back x.scan.frame.common_reverse i;
    start_line = mod-eq_of_lt ok.start i;
    frc_count = mod-eq_of_lt ok.phases i;
  };
  pwm = mod-eq_of_lt ok.pwm i;
  row = mod-eq_of_lt ok.row i;
  step = mod-eq_of_lt ok.step i;
  frc = mod-eq_of_lt ok.frc i;
  inversion = record { lines = mod-eq_of_lt ok.lines i; count = mod-eq_of_lt ok.count i; inverted = flag_back x.scan.inversion.inverted i };
}

widths_back : (p : List ℕ) → ((k : ℕ) → get_or p k 0 < 256) → get_or p 0 0 % 256 ∷ get_or p 1 0 % 256 ∷ get_or p 2 0 % 256 ∷ get_or p 3 0 % 256 ∷ get_or p 4 0 % 256 ∷ get_or p 5 0 % 256 ∷ get_or p 6 0 % 256 ∷ get_or p 7 0 % 256 ∷ [] ≡ get_or p 0 0 ∷ get_or p 1 0 ∷ get_or p 2 0 ∷ get_or p 3 0 ∷ get_or p 4 0 ∷ get_or p 5 0 ∷ get_or p 6 0 ∷ get_or p 7 0 ∷ []
widths_back p ok = λ i. mod-eq_of_lt (ok 0) i ∷ mod-eq_of_lt (ok 1) i ∷ mod-eq_of_lt (ok 2) i ∷ mod-eq_of_lt (ok 3) i ∷ mod-eq_of_lt (ok 4) i ∷ mod-eq_of_lt (ok 5) i ∷ mod-eq_of_lt (ok 6) i ∷ mod-eq_of_lt (ok 7) i ∷ []

display_back : (x : Nt7508) → DisplayOk x.display → display_in (state_words x) ≡ x.display
unfolding state_words scan_part display_part power_part address_part serial_part
display_back x ok = λ i. record {
  start_line = mod-eq_of_lt ok.start i;
  icon_enabled = flag_back x.display.icon_enabled i;
  entire_on = flag_back x.display.entire_on i;
  reverse = flag_back x.display.reverse i;
  segment_reverse = flag_back x.display.segment_reverse i;
  common_reverse = flag_back x.display.common_reverse i;
  initial_com = mod-eq_of_lt ok.initial i;
  duty = mod-eq_of_lt ok.duty i;
  inversion_lines = mod-eq_of_lt ok.lines i;
  gray_mode = mod-eq_of_lt ok.gray i;
  palette = (widths_back x.display.palette ok.widths ∙ eight x.display.palette ok.shades) i;
  oscillator_control = mod-eq_of_lt ok.control i;
  oscillator_frequency = mod-eq_of_lt ok.frequency i;
}

analog_back : (x : Nt7508) → AnalogOk x.analog → analog_in (state_words x) ≡ x.analog
unfolding state_words scan_part display_part power_part address_part serial_part
analog_back x ok = λ i. record {
  contrast = mod-eq_of_lt ok.contrast i;
  contrast_trim = mod-eq_of_lt ok.contrast_trim i;
  otp_control = mod-eq_of_lt ok.otp_control i;
  regulator = mod-eq_of_lt ok.regulator i;
  power_control = mod-eq_of_lt ok.power_control_lem i;
  booster = mod-eq_of_lt ok.booster i;
  bias = mod-eq_of_lt ok.bias i;
  temperature_slope = mod-eq_of_lt ok.temperature_slope i;
}

power_back : (x : Nt7508) → PowerOk x.power → power_in (state_words x) ≡ x.power
unfolding state_words scan_part display_part power_part address_part serial_part power_in ready_in
power_back x ok = λ i. record {
  display_on = flag_back x.power.display_on i;
  power_save = flag_back x.power.power_save i;
  oscillator_enabled = flag_back x.power.oscillator_enabled i;
  supplied = flag_back x.power.supplied i;
  supply_millivolts = mod-eq_of_lt ok.supply i;
  temperature_millicelsius = temperature_back x.power.temperature_millicelsius ok.temperature i;
  cold = flag_back x.power.cold i;
  ready = ready_back x.power.ready i;
}

address_back : (x : Nt7508) → AddressOk x.address → address_in (state_words x) ≡ x.address
unfolding state_words scan_part display_part power_part address_part serial_part address_in saved_in
address_back x ok = λ i. record {
  page = mod-eq_of_lt ok.page i;
  column_byte = mod-eq_of_lt ok.column i;
  saved_column = optional_back x.address.saved_column 65536 ok.saved i;
}

serial_back : (x : Nt7508) → SerialOk x.serial → serial_in (state_words x) ≡ x.serial
unfolding state_words scan_part display_part power_part address_part serial_part serial_in pending_in
serial_back x ok = λ i. record {
  selected = flag_back x.serial.selected i;
  «data» = flag_back x.serial.«data» i;
  shift = mod-eq_of_lt ok.shift i;
  bits = mod-eq_of_lt ok.bits i;
  pending = optional_back x.serial.pending 256 ok.pending i;
}

-- ---- the state comes back
pub round_trip : (x : Nt7508) → StateOk x → state_of (state_words x) ≡ x
unfolding state_of
round_trip x ok = λ i. record {
  scan = scan_back x ok.scan i;
  display = display_back x ok.display i;
  analog = analog_back x ok.analog i;
  power = power_back x ok.power i;
  address = address_back x ok.address i;
  serial = serial_back x ok.serial i;
}

-- ---- its words hold a state
both_hold : {a b : Bool} → a ≡ true → b ≡ true → a && b ≡ true
both_hold {a} {b} p q = ap (λ (t : Bool). t && b) p ∙ q

flag_fits : (b : Bool) → ltb (bool_byte b) 2 ≡ true
flag_fits true = refl
flag_fits false = refl

clock_fits : (c : Option Clock) → ltb (get_or (running_words c) 0 0) 2 ≡ true
clock_fits (Some k) = refl
clock_fits None = refl

ready_fits : (r : Option Time) → ltb (get_or (deadline_words r) 0 0) 2 ≡ true
ready_fits None = refl
ready_fits (Some t) = refl

optional_fits : (o : Option ℕ) → ltb (get_or (optional_words o) 0 0) 2 ≡ true
optional_fits None = refl
optional_fits (Some n) = refl

scan_fits_lem : (x : Nt7508) → ScanOk x.scan → scan_fits (state_words x) ≡ true
unfolding state_words scan_part display_part power_part address_part serial_part
scan_fits_lem x ok = both_hold (both_hold (both_hold (both_hold (both_hold (both_hold (both_hold (both_hold (both_hold (both_hold (both_hold (both_hold (both_hold (both_hold (clock_fits x.scan.ticking.clock) (flag_fits x.scan.latch.latched)) (lt-ltb _ _ ok.duty)) (flag_fits x.scan.frame.icon)) (lt-ltb _ _ ok.initial)) (flag_fits x.scan.frame.common_reverse)) (lt-ltb _ _ ok.start)) (lt-ltb _ _ ok.phases)) (lt-ltb _ _ ok.pwm)) (lt-ltb _ _ ok.row)) (lt-ltb _ _ ok.step)) (lt-ltb _ _ ok.frc)) (lt-ltb _ _ ok.lines)) (lt-ltb _ _ ok.count)) (flag_fits x.scan.inversion.inverted)

display_fits_lem : (x : Nt7508) → DisplayOk x.display → display_fits (state_words x) ≡ true
unfolding state_words scan_part display_part power_part address_part serial_part
display_fits_lem x ok = both_hold (both_hold (both_hold (both_hold (both_hold (both_hold (both_hold (both_hold (both_hold (both_hold (both_hold (both_hold (both_hold (both_hold (both_hold (both_hold (both_hold (both_hold (both_hold (lt-ltb _ _ ok.start) (flag_fits x.display.icon_enabled)) (flag_fits x.display.entire_on)) (flag_fits x.display.reverse)) (flag_fits x.display.segment_reverse)) (flag_fits x.display.common_reverse)) (lt-ltb _ _ ok.initial)) (lt-ltb _ _ ok.duty)) (lt-ltb _ _ ok.lines)) (lt-ltb _ _ ok.gray)) (lt-ltb _ _ (ok.widths 0))) (lt-ltb _ _ (ok.widths 1))) (lt-ltb _ _ (ok.widths 2))) (lt-ltb _ _ (ok.widths 3))) (lt-ltb _ _ (ok.widths 4))) (lt-ltb _ _ (ok.widths 5))) (lt-ltb _ _ (ok.widths 6))) (lt-ltb _ _ (ok.widths 7))) (lt-ltb _ _ ok.control)) (lt-ltb _ _ ok.frequency)

analog_fits_lem : (x : Nt7508) → AnalogOk x.analog → analog_fits (state_words x) ≡ true
unfolding state_words scan_part display_part power_part address_part serial_part
analog_fits_lem x ok = both_hold (both_hold (both_hold (both_hold (both_hold (both_hold (both_hold (lt-ltb _ _ ok.contrast) (lt-ltb _ _ ok.contrast_trim)) (lt-ltb _ _ ok.otp_control)) (lt-ltb _ _ ok.regulator)) (lt-ltb _ _ ok.power_control_lem)) (lt-ltb _ _ ok.booster)) (lt-ltb _ _ ok.bias)) (lt-ltb _ _ ok.temperature_slope)

power_fits_lem : (x : Nt7508) → PowerOk x.power → power_fits (state_words x) ≡ true
unfolding state_words scan_part display_part power_part address_part serial_part
power_fits_lem x ok = both_hold (both_hold (both_hold (both_hold (both_hold (both_hold (both_hold (flag_fits x.power.display_on) (flag_fits x.power.power_save)) (flag_fits x.power.oscillator_enabled)) (flag_fits x.power.supplied)) (lt-ltb _ _ ok.supply)) (lt-ltb _ _ (positive x.power.temperature_millicelsius ok.temperature).1)) (flag_fits x.power.cold)) (ready_fits x.power.ready)

line_fits_lem : (x : Nt7508) → AddressOk x.address → SerialOk x.serial → line_fits (state_words x) ≡ true
unfolding state_words scan_part display_part power_part address_part serial_part
line_fits_lem x a l = both_hold (both_hold (both_hold (both_hold (both_hold (both_hold (both_hold (both_hold (both_hold (lt-ltb _ _ a.page) (lt-ltb _ _ a.column)) (optional_fits x.address.saved_column)) (lt-ltb _ _ a.saved)) (flag_fits x.serial.selected)) (flag_fits x.serial.«data»)) (lt-ltb _ _ l.shift)) (lt-ltb _ _ l.bits)) (optional_fits x.serial.pending)) (lt-ltb _ _ l.pending)

length_words : (x : Nt7508) → length (state_words x) ≡ 75
unfolding state_words scan_part display_part power_part address_part serial_part
length_words x = refl

pub words_hold : (x : Nt7508) → StateOk x → holds_state (state_words x) ≡ true
unfolding holds_state
words_hold x ok = both_hold (eq-eqb _ _ (length_words x)) (both_hold (both_hold (both_hold (both_hold (scan_fits_lem x ok.scan) (display_fits_lem x ok.display)) (analog_fits_lem x ok.analog)) (power_fits_lem x ok.power)) (line_fits_lem x ok.address ok.serial))
