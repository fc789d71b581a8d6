-- A byte in one call of the scan: what it does to the registers that the scan reads, the scan after it by memory that does not hold
-- the byte yet, and the refusals of a group in the order in which its code meets them.
use Prim.Native.Nat.{ℕ, ◌+◌, ◌-◌, ◌*◌, ◌/◌, ◌%◌, ◌^◌, ◌≤◌, ◌<◌}
use mathlib.Core.Bool.{Bool, true, false, cond, ◌&&◌}
use mathlib.Core.List.{List}
use mathlib.Core.Path.{◌≡◌, refl, sym, ◌∙◌, ap, ap₂}
use native.Mathlib.Omega.{arith}
use lib.Dec.{leb, ltb}
use borrow.Author.Tests.{lt-ltb, ltb-true, leb-true, leb-false}
use Rattle.std.specs.Prelude.{Option, Some, None, Result, Ok, Err}
use Rattle.checks.specs.Checks.{row, first_of, changed, left_by}
use Rattle.checks.proofs.Chains.{first_passed, row_passed}
use Rattle.checks.proofs.Results.{left_at_ok, left_at_err}
use Rattle.checks.proofs.Tests.{both}
use Rattle.clock.specs.declared.time.Time.{Time}
use Rattle.clock.specs.Time.{in_range}
use Rattle.scan.specs.declared.check.Refusal as scans
use Rattle.scan.specs.declared.settings.Settings.{Settings}
use Rattle.scan.specs.declared.state.Scan.{Scan}
use Rattle.scan.specs.Check as display
use Rattle.scan.specs.Check.{memory_ok, check_scan}
use Rattle.scan.specs.Count.{count_to, pieces, count_scan}
use Rattle.scan.specs.Drive.{runs, drive_at, frame_at, off, drive_scan}
use Rattle.voltage.specs.Check as analog
use Rattle.scan.specs.Run.{running_after, updated, byte_scan}
use Rattle.controller.specs.declared.check.Refusal.{Refusal}
use Rattle.controller.specs.declared.state.Nt7508.{Nt7508}
use Rattle.controller.specs.declared.state.Power.{Power}
use Rattle.controller.specs.declared.event.Stepped.{Stepped}
use Rattle.controller.specs.State.{power_on, with_scan, with_address, with_serial}
use Rattle.controller.specs.Check.{number, awaits, valid_pending, valid_serial, valid_state, check_state, group_ok, in_order, check_moment, check_group}
use Rattle.controller.specs.Event.{unstored, ram_after, icons_after}
use Rattle.controller.specs.Command.{display_after, power_after, acted, parameter_taken}
use Rattle.controller.specs.Byte.{conditions_of, data_step, page_sent, step_of, byte_taken}
use Rattle.controller.specs.Bits.{Outcome, taking, with_bits, performed, taken, shift_in}
use Rattle.controller.specs.Look.{levels_of, drive_of}
use Rattle.controller.specs.Update.{counted_to, update}
use Rattle.controller.specs.Closed.{check_registers, check_but_scan, registers_ok, completes, display_by, display_then, power_by, power_then, running_by}
use Rattle.controller.proofs.Checks.{Valid, valid, called, grouped, first_none, first_first, lent_chain}
use Rattle.controller.proofs.PowerOn.{power_on_valid}
use Rattle.controller.proofs.Bytes.{updated_unread, step_valid}
use Rattle.controller.proofs.Groups.{grown_by, whole_byte, byte_bits, edges_over, group_bounds, cut_ok, group_passed}
use Rattle.controller.proofs.Parts.{command_taken, step_is, scan_before, scan_after, step_scan, step_data, step_stores, byte_parts}

-- ---- the registers that the scan reads
module _ (x : Nt7508) (b : ℕ) (now : Time) where
  awaited_display : (t : Bool) → (command_taken x None b now t).state.display ≡ cond t x.display (display_after x.display b)
  unfolding acted with_serial
  awaited_display true = refl
  awaited_display false = refl

  pub step_display : (step_of x b now).state.display ≡ display_then x.serial x.display b
  unfolding data_step parameter_taken with_address display_then display_by
  step_display = ap (λ (s : Stepped). s.state.display) (step_is x b now) ∙ go x.serial.«data» x.serial.pending
    where
      go : (d : Bool) (p : Option ℕ) → (cond d (data_step x b now) (command_taken x p b now (awaits b))).state.display ≡ cond d x.display (display_by p x.display b)
      go true p = refl
      go false (Some c) = refl
      go false None = awaited_display (awaits b)

  awaited_power : (t : Bool) → (command_taken x None b now t).state.power ≡ cond t x.power (power_after x.power b)
  unfolding acted with_serial
  awaited_power true = refl
  awaited_power false = refl

  pub step_power : (step_of x b now).state.power ≡ power_then x.serial x.power b
  unfolding data_step parameter_taken with_address power_then power_by
  step_power = ap (λ (s : Stepped). s.state.power) (step_is x b now) ∙ go x.serial.«data» x.serial.pending
    where
      go : (d : Bool) (p : Option ℕ) → (cond d (data_step x b now) (command_taken x p b now (awaits b))).state.power ≡ cond d x.power (power_by p x.power b)
      go true p = refl
      go false (Some c) = refl
      go false None = awaited_power (awaits b)

-- ---- a state whose registers pass, with a scan that passes
registers_scan : (x : Nt7508) (z : Scan) → valid_state (with_scan x z) ≡ valid_state x
unfolding valid_state with_scan
registers_scan x z = refl

scan_of_lem : (x : Nt7508) (z : Scan) → check_scan z ≡ None → check_scan (with_scan x z).scan ≡ None
unfolding with_scan
scan_of_lem x z e = e

registers_check : (x : Nt7508) → valid_state x ≡ true → check_scan x.scan ≡ None → check_state x ≡ None
unfolding check_state
registers_check x h e = ap₂ (λ (t : Bool) (c : Option ℕ). first_of (row 3 t) c) h e

registers : (x : Nt7508) → valid_state x ≡ true → Valid (with_scan x power_on.scan)
registers x h = let z = power_on.scan in valid (with_scan x z) (registers_check (with_scan x z) (registers_scan x z ∙ h) (scan_of_lem x z power_on_valid.scan))

-- the bits under way have no part in it
pub bits_registers : (x : Nt7508) (s k : ℕ) → k < 8 → valid_state x ≡ true → valid_state (with_serial x (with_bits x.serial s k)) ≡ true
unfolding valid_state valid_serial with_serial with_scan
bits_registers x s k l h =
    let v = registers x h in
    let p = both (ltb x.serial.bits 8) (valid_pending x.serial.pending) v.serial in
    simp (lt-ltb k 8 l, p.1, v.address, v.display, v.analog, v.power)

-- the display registers after a byte are valid, whatever the scan
display_valid : (x : Nt7508) (b : ℕ) (now : Time) → b < 256 → valid_state x ≡ true → display.valid_settings (step_of x b now).state.display ≡ true
unfolding with_scan
display_valid x b now l h =
    let z = power_on.scan in
    let v = registers x h in
    ap (λ (s : Stepped). display.valid_settings s.state.display) (sym (step_scan x z b now)) ∙ (step_valid (with_scan x z) b now l v).display

-- ---- the scan after a byte
module _ (x : Nt7508) (b : ℕ) (now : Time) (ram icons : List ℕ) where
  -- by memory that does not hold the byte yet
  unread : (z : Scan) →
      let s = step_of x b now in
      let running = running_after (runs (conditions_of x.power)) (runs (conditions_of s.state.power)) in
      updated z s.state.display now running (ram_after s.store ram) (icons_after s.store icons) ≡ updated z s.state.display now running ram icons
  unfolding data_step with_address
  unread z = go x.serial.«data» refl
    where
      go : (d : Bool) → x.serial.«data» ≡ d →
          let s = step_of x b now in
          let running = running_after (runs (conditions_of x.power)) (runs (conditions_of s.state.power)) in
          updated z s.state.display now running (ram_after s.store ram) (icons_after s.store icons) ≡ updated z s.state.display now running ram icons
      go true e = rw (step_data x b now e) (updated_unread z x.display now (runs (conditions_of x.power)) _ _ ram icons)
      go false e = rw (step_stores x b now e)

  scan_after_lem : scan_after x b now ram icons ≡ updated (scan_before x now ram icons) (display_then x.serial x.display b) now (running_by x.serial x.power b) ram icons
  unfolding scan_after
  scan_after_lem =
      unread (scan_before x now ram icons)
      ∙ ap₂ (λ (d : Settings) (p : Power). updated (scan_before x now ram icons) d now (running_after (runs (conditions_of x.power)) (runs (conditions_of p))) ram icons) (step_display x b now) (step_power x b now)

  module _ (m : memory_ok ram icons ≡ true) (r : in_range now ≡ true) (h : valid_state x ≡ true) (l : b < 256) where
    scan_check : display.check_lent x.scan (display.valid_settings x.display && display.valid_settings (display_then x.serial x.display b)) now ram icons ≡ check_scan x.scan
    unfolding display.check_lent display.in_order with_scan
    scan_check =
        let after = ap display.valid_settings (sym (step_display x b now)) ∙ display_valid x b now l h in
        simp (m, r, (registers x h).display, after)

    -- the scan's call then is turned down for the scan alone
    pub scan_byte : byte_scan x.scan x.display (display_then x.serial x.display b) now (page_sent x) (running_by x.serial x.power b) ram icons ≡ changed (check_scan x.scan) (scan_after x b now ram icons) x.scan
    unfolding byte_scan
    scan_byte = ap₂ (λ (c : Option ℕ) (z : Scan). changed c z x.scan) scan_check (sym scan_after_lem)

  -- and the byte is
  module _ {r : Result Scan scans.Refusal} (e : display.answered x.scan r ≡ changed (check_scan x.scan) (scan_after x b now ram icons) x.scan) where
    pub byte_refused : {why : scans.Refusal} (by : Refusal) → r ≡ Err why → number by ≡ display.number why → left_by number (unstored x) (Err by) ≡ changed (check_scan x.scan) (byte_taken x b now ram icons) (unstored x)
    byte_refused by h n =
        ap (λ (c : Option ℕ). (c, unstored x)) (ap Some n)
        ∙ sym (ap (λ (c : Option ℕ). changed c (byte_taken x b now ram icons) (unstored x)) (left_at_err display.number r _ (scan_after x b now ram icons) x.scan e h))

    pub byte_passed : {y : Scan} → r ≡ Ok y → left_by number (unstored x) (Ok (step_of (with_scan x y) b now)) ≡ changed (check_scan x.scan) (byte_taken x b now ram icons) (unstored x)
    byte_passed h =
        let p = left_at_ok display.number r _ (scan_after x b now ram icons) x.scan e h in
        ap (λ (s : Stepped). (None, s)) (ap (λ (z : Scan). step_of (with_scan x z) b now) p.1 ∙ step_scan x (scan_after x b now ram icons) b now ∙ sym (byte_parts x b now ram icons))
        ∙ sym (ap (λ (c : Option ℕ). changed c (byte_taken x b now ram icons) (unstored x)) p.0)

-- ---- groups
pub record RegistersOk (x : Nt7508) (bits count : ℕ) (now : Time) (ram icons : List ℕ) : Type 0 where
  pub memory : memory_ok ram icons ≡ true
  pub in_range_lem : in_range now ≡ true
  pub registers_ok_lem : valid_state x ≡ true
  pub group_ok_lem : group_ok bits count ≡ true

module _ (x : Nt7508) (bits count : ℕ) (now : Time) (ram icons : List ℕ) where
  pub registers_passed : registers_ok x bits count now ram icons ≡ true → RegistersOk x bits count now ram icons
  unfolding registers_ok
  registers_passed h =
      let a = both _ _ h in
      let b = both _ _ a.0 in
      let c = both _ _ b.0 in
      record { memory = c.0; in_range_lem = c.1; registers_ok_lem = b.1; group_ok_lem = a.1 }

  -- a group whose other rows pass is turned down for the scan alone
  pub group_scan : registers_ok x bits count now ram icons ≡ true → check_group x bits count now ram icons ≡ check_scan x.scan
  unfolding check_group in_order check_state
  group_scan h = let g = registers_passed h in simp (g.memory, g.in_range_lem, g.registers_ok_lem, g.group_ok_lem) (first_none (check_scan x.scan))

  -- and the other rows of one that is not turned down pass
  pub group_registers : check_group x bits count now ram icons ≡ None → registers_ok x bits count now ram icons ≡ true
  unfolding registers_ok check_state
  group_registers h =
      let g = grouped x bits count now ram icons h in
      let k = called x now ram icons g.lent in
      simp (k.memory, k.in_range_lem, row_passed 3 (valid_state x) (first_passed _ _ k.state).0, g.group_ok_lem)

-- seven bits at the most are under way
pub bits_under : (x : Nt7508) → valid_state x ≡ true → x.serial.bits < 8
unfolding valid_serial with_scan
bits_under x h = ltb-true _ _ (both (ltb x.serial.bits 8) (valid_pending x.serial.pending) (registers x h).serial).0

-- a group that completes a byte
pub completed : (x : Nt7508) (count : ℕ) → completes x count ≡ true → (taking x ≡ true) × (8 ≤ x.serial.bits + count)
unfolding completes
completed x count h = let p = both (taking x) (leb 8 (x.serial.bits + count)) h in (p.0, leb-true _ _ p.1)

-- and one that completes none
pub not_completed : (x : Nt7508) (count : ℕ) → completes x count ≡ false → taking x ≡ true → x.serial.bits + count < 8
unfolding completes
not_completed x count h t = leb-false _ _ (simp t at h)

-- a test of two that fails, where the first holds
pub second_fails : {a b r s : Bool} → r ≡ a → s ≡ b → a ≡ true → r && s ≡ false → b ≡ false
second_fails er es h f = sym (ap₂ ◌&&◌ (er ∙ h) es) ∙ f

-- a group goes on by less than a byte after the one that it completes
pub rest_below : (x : Nt7508) (bits count : ℕ) (now : Time) (ram icons : List ℕ) → registers_ok x bits count now ram icons ≡ true → count - (8 - x.serial.bits) < 8
rest_below x bits count now ram icons h =
    let g = registers_passed x bits count now ram icons h in
    omega (arith, bits_under x g.registers_ok_lem, (group_bounds bits count g.group_ok_lem).0)

-- both parts of such a group are groups: what completes the byte, and what is left
pub group_parts : (x : Nt7508) (bits count : ℕ) (now : Time) (ram icons : List ℕ) → registers_ok x bits count now ram icons ≡ true → completes x count ≡ true →
    let rest = count - (8 - x.serial.bits) in
    (group_ok (bits / 2 ^ rest) (8 - x.serial.bits) ≡ true) × (group_ok (bits % 2 ^ rest) rest ≡ true)
group_parts x bits count now ram icons h hc =
    let g = registers_passed x bits count now ram icons h in
    let c = completed x count hc in
    cut_ok bits (8 - x.serial.bits) (count - (8 - x.serial.bits)) (ap (group_ok bits) (omega (arith, c.1)) ∙ g.group_ok_lem)

-- a group that is turned down
pub group_refused : (x : Nt7508) (bits count : ℕ) (now : Time) (ram icons : List ℕ) (why : Refusal) → check_group x bits count now ram icons ≡ Some (number why) → taken x (Err why) ram icons ≡ shift_in x bits count now ram icons
unfolding shift_in
group_refused x bits count now ram icons why h = rw h

-- a group that completes a byte, by what the byte answered
module _ (x : Nt7508) (bits count : ℕ) (now : Time) (ram icons : List ℕ) (h : registers_ok x bits count now ram icons ≡ true) {y : Nt7508} (ey : y ≡ with_serial x (with_bits x.serial 0 0)) where
  same_scan : check_scan y.scan ≡ check_scan x.scan
  unfolding with_serial
  same_scan = ap (λ (y : Nt7508). check_scan y.scan) ey

  module _ (v : ℕ) {r : Result Stepped Refusal} (e : left_by number (unstored y) r ≡ changed (check_scan y.scan) (byte_taken y v now ram icons) (unstored y)) where
    pub whole_refused : {why : Refusal} → r ≡ Err why → taken x (Err why) ram icons ≡ shift_in x bits count now ram icons
    whole_refused {why} hk = group_refused x bits count now ram icons why (group_scan x bits count now ram icons h ∙ sym same_scan ∙ left_at_err number r _ (byte_taken y v now ram icons) (unstored y) e hk)

    module _ {s : Stepped} (hk : r ≡ Ok s) where
      answer_is : (check_scan y.scan ≡ None) × (s ≡ byte_taken y v now ram icons)
      answer_is = left_at_ok number r _ (byte_taken y v now ram icons) (unstored y) e hk

      module _ (n b : ℕ) (ev : v ≡ (x.serial.shift * 2 ^ n + b) % 256) where
        byte_done : s ≡ whole_byte x n b now ram icons
        byte_done = answer_is.1 ∙ ap₂ (λ (y : Nt7508) (v : ℕ). byte_taken y v now ram icons) ey ev

        pub whole_bits : s.state.serial.bits ≡ 0
        whole_bits = ap (λ (s : Stepped). s.state.serial.bits) byte_done ∙ byte_bits x ((x.serial.shift * 2 ^ n + b) % 256) now ram icons

      pub whole_passed : completes x count ≡ true → v ≡ (x.serial.shift * 2 ^ (8 - x.serial.bits) + bits / 2 ^ (count - (8 - x.serial.bits))) % 256 →
          let rest = count - (8 - x.serial.bits) in
          (None, performed (record { state = grown_by s.state rest (bits % 2 ^ rest); event = s.event; store = s.store }) ram icons) ≡ shift_in x bits count now ram icons
      whole_passed hc ev =
          let rest = count - (8 - x.serial.bits) in
          let g = registers_passed x bits count now ram icons h in
          let c = completed x count hc in
          let under = bits_under x g.registers_ok_lem in
          let b = group_bounds bits count g.group_ok_lem in
          ap (λ (s : Stepped). (None, performed (record { state = grown_by s.state rest (bits % 2 ^ rest); event = s.event; store = s.store }) ram icons)) (byte_done (8 - x.serial.bits) (bits / 2 ^ rest) ev)
          ∙ ap (λ (o : Outcome). (None, o)) (sym (edges_over x count bits now ram icons c.0 under (omega (arith, c.1)) b.0 b.1))
          ∙ sym (group_passed x bits count now ram icons (group_scan x bits count now ram icons h ∙ sym same_scan ∙ answer_is.0))

-- ---- a drive, whose scan is checked by the scan's own call
module _ (x : Nt7508) (now : Time) (ram icons : List ℕ) where
  module _ (h : check_but_scan x now ram icons ≡ None) where
    drive_rows : display.check_lent x.scan (display.valid_settings x.display && analog.valid_settings x.analog) now ram icons ≡ check_scan x.scan
    unfolding check_but_scan display.check_lent display.in_order with_scan
    drive_rows =
        let p = first_passed (row 2 (memory_ok ram icons)) _ h in
        let q = first_passed (row 1 (in_range now)) _ p.1 in
        let v = registers x (row_passed 3 (valid_state x) q.1) in
        simp (row_passed 2 (memory_ok ram icons) p.0, row_passed 1 (in_range now) q.0, v.display, v.analog)

    pub drive_by_scan : drive_scan x.scan x.display x.analog (conditions_of x.power) now ram icons ≡ drive_of x now ram icons
    unfolding drive_scan drive_of
    drive_by_scan =
        ap (λ (c : Option ℕ). changed c (drive_at x.scan x.display (levels_of x) (conditions_of x.power) now ram icons, frame_at x.scan x.display (conditions_of x.power) now) (off, 0))
        (drive_rows ∙ sym (lent_chain x now ram icons ∙ ap (λ (c : Option ℕ). first_of c (check_scan x.scan)) h))

  pub drive_refused : {n : ℕ} → Some n ≡ check_but_scan x now ram icons → (Some n, (off, 0)) ≡ drive_of x now ram icons
  unfolding drive_of
  drive_refused h = rw (lent_chain x now ram icons, ← h)

-- ---- an update, whose scan is checked by the scan's own call
-- what the scan's call leaves, with the state around it
abbrev counted_state : Nt7508 → Option ℕ × (Scan × ℕ) → Option ℕ × (Nt7508 × ℕ)
counted_state x r = (r.0, (with_scan x r.1.0, r.1.1))

counted_changed : (x : Nt7508) (check : Option ℕ) (z : Scan) (n : ℕ) → counted_state x (changed check (z, n) (x.scan, 0)) ≡ changed check (with_scan x z, n) (x, 0)
unfolding with_scan
counted_changed x None z n = refl
counted_changed x (Some k) z n = refl

module _ (x : Nt7508) (now : Time) where
  moment_chain : check_moment x now ≡ first_of (check_registers x now) (check_scan x.scan)
  unfolding check_moment check_registers in_order check_state
  moment_chain =
      let time = row 1 (in_range now) in
      let state = row 3 (valid_state x) in
      ap (first_of time) (first_none (first_of state (check_scan x.scan))) ∙ sym (first_first time state (check_scan x.scan))

  module _ (h : check_registers x now ≡ None) where
    count_rows : display.check_moment x.scan (display.valid_settings x.display) now ≡ check_scan x.scan
    unfolding check_registers display.check_moment display.in_order with_scan
    count_rows =
        let q = first_passed (row 1 (in_range now)) _ h in
        let v = registers x (row_passed 3 (valid_state x) q.1) in
        simp (row_passed 1 (in_range now) q.0, v.display)

    update_by_scan : counted_state x (count_scan x.scan x.display now) ≡ update x now
    unfolding count_scan update counted_to
    update_by_scan =
        let z = count_to x.scan x.display now in
        let n = pieces x.scan x.display now in
        counted_changed x (display.check_moment x.scan (display.valid_settings x.display) now) z n
        ∙ ap (λ (c : Option ℕ). changed c (with_scan x z, n) (x, 0)) (count_rows ∙ sym (moment_chain ∙ ap (λ (c : Option ℕ). first_of c (check_scan x.scan)) h))

    pub update_counted : {z : Scan} {n : ℕ} → (None, (z, n)) ≡ count_scan x.scan x.display now → (None, (with_scan x z, n)) ≡ update x now
    update_counted e = ap (counted_state x) e ∙ update_by_scan

    pub count_refused : {k : ℕ} → (Some k, (x.scan, 0)) ≡ count_scan x.scan x.display now → (Some k, (x, 0)) ≡ update x now
    unfolding with_scan
    count_refused e = ap (counted_state x) e ∙ update_by_scan

  pub update_refused : {k : ℕ} → Some k ≡ check_registers x now → (Some k, (x, 0)) ≡ update x now
  unfolding update
  update_refused h = rw (moment_chain, ← h)
