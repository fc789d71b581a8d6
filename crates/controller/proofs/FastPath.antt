-- The fast path of a byte: src/fast.rt answers what a group of its eight bits leaves.
use Prim.Native.Nat.{ℕ, ◌≤◌, ◌<◌}
use mathlib.Core.Bool.{Bool, true, false, cond, ◌&&◌, ◌||◌, false≢true, and-false}
use mathlib.Core.List.{List}
use mathlib.Core.Logic.{◌⊎◌, inl, inr}
use mathlib.Core.Path.{◌≡◌, refl, sym, ◌∙◌, ap, ap₂}
use native.Mathlib.Omega.{arith}
use lib.Dec.{leb, eqb}
use borrow.Author.Tests.{lt-leb, leb-true, eqb-true}
use Rattle.std.specs.Prelude.{Option, Some, None, is_none}
use Rattle.std.proofs.lemmas.Option.{none-some, same_Some, cond_some}
use Rattle.checks.specs.Checks.{unless_refused, changed}
use Rattle.checks.proofs.Tests.{both, either}
use Rattle.clock.specs.declared.time.Time.{Time}
use Rattle.scan.specs.declared.settings.Settings as display
use Rattle.scan.specs.declared.state.Scan.{Scan}
use Rattle.scan.specs.Check.{check_scan}
use Rattle.scan.specs.Drive.{runs}
use Rattle.scan.specs.Run.{running_after, byte_scan}
use Rattle.scan.specs.Fast.{is_fast, fast_byte}
use Rattle.scan.proofs.Leaves.{lasting}
use Rattle.scan.proofs.FastPath.{fast_passes, fast_lasts}
use Rattle.voltage.specs.declared.Settings as analog
use Rattle.controller.specs.declared.state.Nt7508.{Nt7508}
use Rattle.controller.specs.declared.state.Serial.{Serial}
use Rattle.controller.specs.declared.state.Address.{Address}
use Rattle.controller.specs.declared.state.Power.{Power}
use Rattle.controller.specs.declared.event.Event.{Event}
use Rattle.controller.specs.declared.event.Stepped.{Stepped}
use Rattle.controller.specs.declared.fast.FastStep.{FastStep}
use Rattle.controller.specs.State.{with_scan, with_address, with_serial}
use Rattle.controller.specs.Check.{between, awaits}
use Rattle.controller.specs.Event.{ram_after, icons_after}
use Rattle.controller.specs.Command.{display_after, analog_after, power_after, address_after, with_pending, acted}
use Rattle.controller.specs.Byte.{conditions_of, data_step, page_sent, step_of, byte_taken}
use Rattle.controller.specs.Bits.{Outcome, with_bits, quiet, performed, edges, unpacked, shift_in}
use Rattle.controller.specs.Closed.{registers_ok, completes, display_then, power_then}
use Rattle.controller.specs.Fast.{addressing, keeps, staying, registers_stay, is_fast_byte, fast_step, fast_step_of}
use Rattle.controller.proofs.Registers.{in_run}
use Rattle.controller.proofs.Groups.{edges_whole, group_passed}
use Rattle.controller.proofs.Parts.{command_taken, step_is, scan_after, beside_scan, byte_parts}
use Rattle.controller.proofs.Whole.{step_display, step_power, bits_registers, scan_byte, registers_passed, group_scan, completed}

-- ---- a byte that sets the address or nothing is none of those that set another register
below_run : (low high b : ℕ) → b < low → between low high b ≡ false
below_run low high b h = simp (lt-leb low b h)

above_run : (low high b : ℕ) → high < b → between low high b ≡ false
above_run low high b h = simp (lt-leb b high h, and-false)

module _ (b : ℕ) (h : addressing b ≡ true) where
  apart : (k : ℕ) → addressing k ≡ false → eqb b k ≡ false
  apart k f = go (eqb b k) refl
    where
      go : (t : Bool) → eqb b k ≡ t → t ≡ false
      go true e = sym h ∙ ap addressing (eqb-true b k e) ∙ f
      go false e = refl

  by_place : {A : Type 0} → (b ≤ 0x1f → A) → (0xb0 ≤ b → b ≤ 0xbf → A) → (b ≡ 0xe3 → A) → A
  by_place {A} column page empty = last (either (leb b 0x1f || between 0xb0 0xbf b) (eqb b 0xe3) h)
    where
      first : (leb b 0x1f ≡ true) ⊎ (between 0xb0 0xbf b ≡ true) → A
      first (inl e) = column (leb-true b 0x1f e)
      first (inr e) = let r = in_run 0xb0 0xbf b e in page r.0 r.1

      last : (leb b 0x1f || between 0xb0 0xbf b ≡ true) ⊎ (eqb b 0xe3 ≡ true) → A
      last (inl e) = first (either (leb b 0x1f) (between 0xb0 0xbf b) e)
      last (inr e) = empty (eqb-true b 0xe3 e)

  -- a run of bytes between those of columns and pages, and one above those of pages
  between_places : (low high : ℕ) → 0x1f < low → high < 0xb0 → between low high b ≡ false
  between_places low high l u =
      by_place
      (λ p. below_run low high b (omega arith))
      (λ p q. above_run low high b (omega arith))
      (λ e. above_run low high b (omega arith))

  above_pages : (low high : ℕ) → 0xbf < low → high < 0xe3 → between low high b ≡ false
  above_pages low high l u =
      by_place
      (λ p. below_run low high b (omega arith))
      (λ p q. below_run low high b (omega arith))
      (λ e. above_run low high b (omega arith))

  awaits_none : awaits b ≡ false
  unfolding awaits
  awaits_none = simp (between_places 0x40 0x4f (omega arith) (omega arith), between_places 0x88 0x8f (omega arith) (omega arith), apart 0x81 refl, apart 0xf1 refl, apart 0xf3 refl, apart 0xf4 refl, apart 0xf6 refl, apart 0xf7 refl)

  display_stays : (d : display.Settings) → display_after d b ≡ d
  unfolding display_after
  display_stays d =
      simp (
        apart 0xa0 refl,
        apart 0xa1 refl,
        apart 0xa2 refl,
        apart 0xa3 refl,
        apart 0xa4 refl,
        apart 0xa5 refl,
        apart 0xa6 refl,
        apart 0xa7 refl,
        apart 0xe2 refl,
        apart 0xe4 refl,
        between_places 0x90 0x97 (omega arith) (omega arith),
        above_pages 0xc0 0xc7 (omega arith) (omega arith),
        above_pages 0xc8 0xcf (omega arith) (omega arith),
      )

  analog_stays : (a : analog.Settings) → analog_after a b ≡ a
  unfolding analog_after
  analog_stays a =
      simp (
        apart 0xe2 refl,
        between_places 0x20 0x27 (omega arith) (omega arith),
        between_places 0x28 0x2f (omega arith) (omega arith),
        between_places 0x50 0x57 (omega arith) (omega arith),
        between_places 0x64 0x67 (omega arith) (omega arith),
        between_places 0x6c 0x6f (omega arith) (omega arith),
      )

  power_stays : (p : Power) → power_after p b ≡ p
  unfolding power_after
  power_stays p = simp (apart 0xa8 refl, apart 0xa9 refl, apart 0xab refl, apart 0xae refl, apart 0xaf refl, apart 0xe1 refl)

  acted_stays : (x : Nt7508) → x.serial.pending ≡ None → acted x b ≡ with_address x (address_after x.address b)
  unfolding acted with_address
  acted_stays x e = λ i. record {
    scan = x.scan;
    display = display_stays x.display i;
    analog = analog_stays x.analog i;
    power = power_stays x.power i;
    address = address_after x.address b;
    serial = with_pending x.serial (sym e i);
  }

-- ---- what a byte that keeps the registers does
abbrev as_step : Nt7508 → FastStep → Stepped
as_step x s = record { state = with_address x s.address; event = Some s.event; store = s.store }

module _ (x : Nt7508) (b : ℕ) (now : Time) (z : Scan) where
  command_fast : (p : Option ℕ) → x.serial.pending ≡ p → is_none p && addressing b ≡ true → command_taken x p b now (awaits b) ≡ record { state = with_address x (address_after x.address b); event = Some (Event.Control now b None); store = None }
  command_fast (Some c) e h = absurd (false≢true h)
  command_fast None e h =
      ap (command_taken x None b now) (awaits_none b h)
      ∙ ap (λ (y : Nt7508). record { state = y; event = Some (Event.Control now b None); store = None }) (acted_stays b h x e)

  step_fast : keeps x.serial b ≡ true → step_of x b now ≡ as_step x (fast_step_of z x.serial x.address b now)
  unfolding fast_step_of data_step
  step_fast h = step_is x b now ∙ go x.serial.«data» refl
    where
      go : (d : Bool) → x.serial.«data» ≡ d → cond x.serial.«data» (data_step x b now) (command_taken x x.serial.pending b now (awaits b)) ≡ as_step x (fast_step_of z x.serial x.address b now)
      go true e = simp e
      go false e = simp e (command_fast x.serial.pending refl (simp e at h))

-- the scan is as given
fast_parts : (z : Scan) (l : Serial) (a : Address) (b : ℕ) (now : Time) → let s = fast_step_of z l a b now in s ≡ record { scan = z; address = s.address; event = s.event; store = s.store }
unfolding fast_step_of
fast_parts z l a b now = go l.«data» refl
  where
    go : (d : Bool) → l.«data» ≡ d → let s = fast_step_of z l a b now in s ≡ record { scan = z; address = s.address; event = s.event; store = s.store }
    go true e = simp e
    go false e = simp e

-- ---- the conditions of a byte of the fast path
pub record Stays (x : Nt7508) (b : ℕ) (now : Time) (ram icons : List ℕ) : Type 0 where
  pub registers_ok_lem : registers_ok x b 8 now ram icons ≡ true
  pub whole : completes x 8 ≡ true
  pub none_under_way : x.serial.bits ≡ 0
  pub keeps_registers : keeps x.serial b ≡ true

module _ (x : Nt7508) (b : ℕ) (now : Time) (ram icons : List ℕ) where
  pub stays : registers_stay x b now ram icons ≡ true → Stays x b now ram icons
  unfolding registers_stay
  stays h =
      let p = both _ _ h in
      let q = both _ _ p.0 in
      let r = both _ _ q.0 in
      record { registers_ok_lem = r.0; whole = r.1; none_under_way = eqb-true x.serial.bits 0 q.1; keeps_registers = p.1 }

  module _ (h : is_fast_byte x b now ram icons ≡ true) where
    fast_stays : Stays x b now ram icons
    unfolding is_fast_byte
    fast_stays = stays (both _ _ h).0

    scan_is_fast : is_fast x.scan x.display now (staying x.power) ram icons ≡ true
    unfolding is_fast_byte
    scan_is_fast = (both (registers_stay x b now ram icons) (is_fast x.scan x.display now (staying x.power) ram icons) h).1

-- ---- what it leaves
-- the scan after such a byte, by the rule
abbrev pub scan_fast : Nt7508 → Time → (ram icons : List ℕ) → Scan
scan_fast x now ram icons = (byte_scan x.scan x.display x.display now (page_sent x) (staying x.power) ram icons).1

-- the state with its byte begun
abbrev cleared : Nt7508 → Nt7508
cleared x = with_serial x (with_bits x.serial 0 0)

-- what is left of the state and lent memory
abbrev pub left_by : Nt7508 → FastStep → (ram icons : List ℕ) → Outcome
left_by x s ram icons = record {
  state = record { scan = s.scan; display = x.display; analog = x.analog; power = x.power; address = s.address; serial = with_bits x.serial 0 0 };
  event = Some s.event;
  ram = ram_after s.store ram;
  icons = icons_after s.store icons;
}

module _ (x : Nt7508) (b : ℕ) (now : Time) (ram icons : List ℕ) where
  pub fast_step_is : is_fast_byte x b now ram icons ≡ true → fast_step x b now ram icons ≡ Some (fast_step_of (scan_fast x now ram icons) x.serial x.address b now)
  unfolding fast_step with_address
  fast_step_is h =
      let z = scan_fast x now ram icons in
      simp (h, step_fast x b now z (fast_stays x b now ram icons h).keeps_registers) (ap Some (sym (fast_parts z x.serial x.address b now)))

  -- an answer is of a byte that takes it
  pub fast_is : {s : FastStep} → fast_step x b now ram icons ≡ Some s → is_fast_byte x b now ram icons ≡ true
  unfolding fast_step
  fast_is {s} e = go (is_fast_byte x b now ram icons) _ e
    where
      go : (t : Bool) (full : Option FastStep) → cond t full None ≡ Some s → t ≡ true
      go true full e = refl
      go false full e = absurd (none-some s e)

  -- and is as the code puts it together
  pub fast_answer : {s : FastStep} → fast_step x b now ram icons ≡ Some s → s ≡ fast_step_of (scan_fast x now ram icons) x.serial x.address b now
  fast_answer {s} e = same_Some _ _ (sym e ∙ fast_step_is (fast_is e))

  module _ (l : b < 256) (h : is_fast_byte x b now ram icons ≡ true) where
    same_step : step_of (cleared x) b now ≡ as_step (cleared x) (fast_step_of (scan_fast x now ram icons) x.serial x.address b now)
    unfolding with_serial fast_step_of
    same_step = step_fast (cleared x) b now (scan_fast x now ram icons) (fast_stays x b now ram icons h).keeps_registers

    display_same : display_then (cleared x).serial (cleared x).display b ≡ x.display
    unfolding with_serial with_address
    display_same = sym (step_display (cleared x) b now) ∙ ap (λ (s : Stepped). s.state.display) same_step

    power_same : power_then (cleared x).serial (cleared x).power b ≡ x.power
    unfolding with_serial with_address
    power_same = sym (step_power (cleared x) b now) ∙ ap (λ (s : Stepped). s.state.power) same_step

    -- the scan that the byte leaves
    scan_by_rule : byte_scan x.scan x.display x.display now (page_sent x) (staying x.power) ram icons ≡ changed (check_scan x.scan) (scan_after (cleared x) b now ram icons) x.scan
    unfolding with_serial
    scan_by_rule =
        let g = registers_passed x b 8 now ram icons (fast_stays x b now ram icons h).registers_ok_lem in
        sym (ap₂ (λ (d : display.Settings) (p : Power). byte_scan x.scan x.display d now (page_sent x) (running_after (runs (conditions_of x.power)) (runs (conditions_of p))) ram icons) display_same power_same)
        ∙ scan_byte (cleared x) b now ram icons g.memory g.in_range_lem (bits_registers x 0 0 (omega arith) g.registers_ok_lem) l

    scan_passes : check_scan x.scan ≡ None
    scan_passes = sym (ap (λ (a : Option ℕ × Scan). a.0) scan_by_rule) ∙ fast_passes x.scan x.display now (staying x.power) ram icons (scan_is_fast x b now ram icons h) (page_sent x)

    scan_fast_lem : scan_after (cleared x) b now ram icons ≡ scan_fast x now ram icons
    scan_fast_lem = sym (ap (λ (a : Option ℕ × Scan). a.1) scan_by_rule ∙ ap (λ (c : Option ℕ). unless_refused c (scan_after (cleared x) b now ram icons) x.scan) scan_passes)

    -- its eight bits are the byte
    eight_bits : edges (unpacked 8 b) now (quiet x ram icons) ≡ performed (byte_taken (cleared x) b now ram icons) ram icons
    eight_bits =
        let k = fast_stays x b now ram icons h in
        edges_whole 8 b now (quiet x ram icons) (completed x 8 k.whole).0 (omega (arith, k.none_under_way)) (omega arith) l refl
        ∙ ap (λ (v : ℕ). performed (byte_taken (cleared x) v now ram icons) ram icons) (omega arith)

    byte_left : performed (byte_taken (cleared x) b now ram icons) ram icons ≡ left_by x (fast_step_of (scan_fast x now ram icons) x.serial x.address b now) ram icons
    unfolding with_serial with_address with_scan
    byte_left =
        let z = scan_fast x now ram icons in
        ap (λ (s : Stepped). performed s ram icons) (byte_parts (cleared x) b now ram icons)
        ∙ ap₂ (λ (s : Stepped) (z : Scan). performed (beside_scan s z) ram icons) same_step (scan_fast_lem ∙ sym (ap (λ (s : FastStep). s.scan) (fast_parts z x.serial x.address b now)))

-- the fast path answers what a group of its eight bits does
pub fast_shift : (x : Nt7508) (b : ℕ) (now : Time) (ram icons : List ℕ) {s : FastStep} → b < 256 → fast_step x b now ram icons ≡ Some s → shift_in x b 8 now ram icons ≡ (None, left_by x s ram icons)
fast_shift x b now ram icons l e =
    let h = fast_is x b now ram icons e in
    let k = fast_stays x b now ram icons h in
    group_passed x b 8 now ram icons (group_scan x b 8 now ram icons k.registers_ok_lem ∙ scan_passes x b now ram icons l h)
    ∙ ap (λ (o : Outcome). (None, o)) (eight_bits x b now ram icons l h ∙ byte_left x b now ram icons l h ∙ ap (λ (s : FastStep). left_by x s ram icons) (sym (fast_answer x b now ram icons e)))

-- ---- by what its parts answered
none_fast : {A : Type 0} (t : Bool) (z : A) → cond t (Some z) None ≡ None → t ≡ false
none_fast true z e = absurd (none-some z (sym e))
none_fast false z e = refl

module _ (x : Nt7508) (b : ℕ) (now : Time) (ram icons : List ℕ) where
  pub registers_other : registers_stay x b now ram icons ≡ false → None ≡ fast_step x b now ram icons
  unfolding fast_step is_fast_byte
  registers_other h = simp h

  module _ (r : registers_stay x b now ram icons ≡ true) {q : Option Scan} (e : q ≡ fast_byte x.scan x.display now (page_sent x) (staying x.power) ram icons) where
    pub scan_other : q ≡ None → None ≡ fast_step x b now ram icons
    unfolding fast_step is_fast_byte fast_byte
    scan_other h = simp (r, none_fast (is_fast x.scan x.display now (staying x.power) ram icons) _ (sym e ∙ h))

    pub fast_by_scan : {z : Scan} → q ≡ Some z → Some (fast_step_of z x.serial x.address b now) ≡ fast_step x b now ram icons
    unfolding is_fast_byte fast_byte
    fast_by_scan {z} h =
        let p = cond_some (is_fast x.scan x.display now (staying x.power) ram icons) (scan_fast x now ram icons) z (sym e ∙ h) in
        ap (λ (z : Scan). Some (fast_step_of z x.serial x.address b now)) (sym p.1)
        ∙ sym (fast_step_is x b now ram icons (simp (r, p.0)))

-- ---- what it leaves as it is: of the scan all but clock, counters and latch, and of the address the saved column
saved_stays : (a : Address) (b : ℕ) → addressing b ≡ true → (address_after a b).saved_column ≡ a.saved_column
unfolding address_after
saved_stays a b h = simp (apart b h 0xe2 refl, apart b h 0xee refl, apart b h 0xe0 refl)

fast_saved : (z : Scan) (l : Serial) (a : Address) (b : ℕ) (now : Time) → keeps l b ≡ true → (fast_step_of z l a b now).address.saved_column ≡ a.saved_column
unfolding fast_step_of
fast_saved z l a b now h = go l.«data» refl
  where
    go : (d : Bool) → l.«data» ≡ d → (fast_step_of z l a b now).address.saved_column ≡ a.saved_column
    go true e = simp e
    go false e = simp e (saved_stays a b (both (is_none l.pending) (addressing b) (simp e at h)).1)

module _ (x : Nt7508) (b : ℕ) (now : Time) (ram icons : List ℕ) {s : FastStep} (e : fast_step x b now ram icons ≡ Some s) where
  pub scan_lasts : lasting s.scan ≡ lasting x.scan
  scan_lasts =
      ap (λ (s : FastStep). lasting s.scan) (fast_answer x b now ram icons e ∙ fast_parts (scan_fast x now ram icons) x.serial x.address b now)
      ∙ fast_lasts x.scan x.display now (staying x.power) ram icons (scan_is_fast x b now ram icons (fast_is x b now ram icons e)) (page_sent x)

  pub saved_lasts : s.address.saved_column ≡ x.address.saved_column
  saved_lasts =
      ap (λ (s : FastStep). s.address.saved_column) (fast_answer x b now ram icons e)
      ∙ fast_saved (scan_fast x now ram icons) x.serial x.address b now (fast_stays x b now ram icons (fast_is x b now ram icons e)).keeps_registers
