-- What command bytes do to registers: a state that passes numbers 3 to 5 passes them after any byte, and E3 leaves every
-- register as it was.
use Prim.Native.Nat.{ℕ, suc, ◌+◌, ◌*◌, ◌/◌, ◌%◌, ◌≤◌, ◌<◌}
use mathlib.Core.Bool.{Bool, true, false, cond, ◌&&◌, ◌||◌}
use mathlib.Core.Path.{◌≡◌, refl, sym}
use native.Mathlib.Nat.{mod-lt, zero-lt-suc}
use native.Mathlib.Omega.{arith}
use lib.Dec.{leb, ltb, eqb}
use borrow.Author.Tests.{lt-ltb, le-leb, leb-true, ne_eqb, eqb-false}
use Rattle.std.specs.Prelude.{Option, Some, None}
use Rattle.checks.proofs.Tests.{both}
use Rattle.clock.specs.declared.time.Time.{Time}
use Rattle.scan.specs.declared.settings.Settings as scan
use Rattle.scan.specs.Check.{lines_ok}
use Rattle.scan.specs.Check as display
use Rattle.voltage.specs.declared.Settings as voltage
use Rattle.voltage.specs.Check.{valid_booster}
use Rattle.voltage.specs.Check as analog
use Rattle.controller.specs.declared.state.Nt7508.{Nt7508}
use Rattle.controller.specs.declared.state.Address.{Address}
use Rattle.controller.specs.Check.{between, awaits, valid_pending, valid_serial, valid_saved, valid_address, valid_power}
use Rattle.controller.specs.Command.{is_reset, display_after, analog_after, power_after, column_set, column_or, address_after, lines_of, display_with, analog_with, with_pending, acted, parameter_taken, command_step}
use Rattle.controller.specs.State.{with_serial}
use Rattle.controller.proofs.Checks.{Valid}

-- a number in a run
pub in_run : (low high n : ℕ) → between low high n ≡ true → (low ≤ n) × (n ≤ high)
in_run low high n h = let p = both _ _ h in (leb-true low n p.0, leb-true n high p.1)

-- a register that a test sets or leaves
stays : {A : Type 0} (ok : A → Bool) (t : Bool) (new old : A) → (t ≡ true → ok new ≡ true) → ok old ≡ true → ok (cond t new old) ≡ true
stays ok true new old n o = n refl
stays ok false new old n o = o

-- two tests that each hold after as before
infixl 30 ◌and◌
◌and◌ : {a b m n : Bool} → (a ≡ true → m ≡ true) → (b ≡ true → n ≡ true) → a && b ≡ true → m && n ≡ true
◌and◌ f g h = let p = both _ _ h in simp (f p.0, g p.1)

same : {a : Bool} → a ≡ true → a ≡ true
same h = h

-- a register of the low bits of a byte
masked : (top : ℕ) (t : Bool) (b present : ℕ) → leb present top ≡ true → leb (cond t (b % suc top) present) top ≡ true
masked top t b present = stays (λ n. leb n top) t (b % suc top) present (λ e. le-leb (b % suc top) top (omega (arith, mod-lt b (zero-lt-suc top))))

lines_ok_lem : (b : ℕ) → lines_ok (lines_of b) ≡ true
unfolding lines_ok
lines_ok_lem b = go (eqb (b % 32) 0) refl
  where
    go : (t : Bool) → eqb (b % 32) 0 ≡ t → lines_ok (cond t 0 (b % 32 + 2)) ≡ true
    go true e = refl
    go false e =
        let some : b % 32 ≡ 0 → ⊥ = eqb-false (b % 32) 0 e in
        simp (ne_eqb (b % 32 + 2) 0 (λ z. omega arith), le-leb 3 (b % 32 + 2) (omega arith), le-leb (b % 32 + 2) 33 (omega arith))

-- the booster's bits 0 and 1, without and with bit 3
booster_low : (b : ℕ) → valid_booster (b % 4) ≡ true
booster_low b = simp (le-leb (b % 4) 11 (omega arith), ne_eqb (b % 4 / 4 % 2) 1 (λ z. omega arith))

booster_high : (b : ℕ) → valid_booster (8 + b % 4) ≡ true
booster_high b = simp (le-leb (8 + b % 4) 11 (omega arith), ne_eqb ((8 + b % 4) / 4 % 2) 1 (λ z. omega arith))

module _ (d : scan.Settings) where
  display_after_lem : (b : ℕ) → display.valid_settings d ≡ true → display.valid_settings (display_after d b) ≡ true
  unfolding display.valid_settings display_after lines_ok
  display_after_lem b =
      stays (λ n. ltb n 128) (is_reset b) 0 d.start_line (λ e. refl)
      and same
      and same
      and same
      and stays lines_ok (eqb b 0xe4) 0 d.inversion_lines (λ e. refl)
      and (λ h. stays (λ n. leb n 7) (is_reset b) 0 _ (λ e. refl) (masked 7 (between 0x90 0x97 b) b d.gray_mode h))
      and same
      and same

  display_with_lem : (c b : ℕ) → display.valid_settings d ≡ true → display.valid_settings (display_with d c b) ≡ true
  unfolding display.valid_settings display_with
  display_with_lem c b =
      line (between 0x40 0x43 c) d.start_line
      and line (between 0x44 0x47 c) d.initial_com
      and stays (λ n. leb 16 n) (between 0x48 0x4b c && between 16 128 b) b d.duty (λ e. (duty e).0)
      and stays (λ n. leb n 128) (between 0x48 0x4b c && between 16 128 b) b d.duty (λ e. (duty e).1)
      and stays lines_ok (between 0x4c 0x4f c) (lines_of b) d.inversion_lines (λ e. lines_ok_lem b)
      and same
      and masked 3 (eqb c 0xf7) b d.oscillator_control
      and masked 31 (eqb c 0xf6) b d.oscillator_frequency
    where
      line : (t : Bool) (present : ℕ) → ltb present 128 ≡ true → ltb (cond t (b % 128) present) 128 ≡ true
      line t present = stays (λ n. ltb n 128) t (b % 128) present (λ e. lt-ltb (b % 128) 128 (omega arith))

      duty : between 0x48 0x4b c && between 16 128 b ≡ true → (leb 16 b ≡ true) × (leb b 128 ≡ true)
      duty e = both (leb 16 b) (leb b 128) (both (between 0x48 0x4b c) (between 16 128 b) e).1

module _ (a : voltage.Settings) where
  analog_after_lem : (b : ℕ) → analog.valid_settings a ≡ true → analog.valid_settings (analog_after a b) ≡ true
  unfolding analog.valid_settings analog_after
  analog_after_lem b =
      stays (λ n. leb n 63) (is_reset b) 32 a.contrast (λ e. refl)
      and (λ h. stays (λ n. leb n 7) (is_reset b) 0 _ (λ e. refl) (masked 7 (between 0x20 0x27 b) b a.regulator h))
      and masked 7 (between 0x28 0x2f b) b a.power_control
      and (λ h. stays valid_booster (between 0x64 0x67 b) (b % 4) _ (λ e. booster_low b) (stays valid_booster (between 0x6c 0x6f b) (8 + b % 4) a.booster (λ e. booster_high b) h))
      and masked 7 (between 0x50 0x57 b) b a.bias
      and same
      and same
      and same

  analog_with_lem : (c b : ℕ) → analog.valid_settings a ≡ true → analog.valid_settings (analog_with a c b) ≡ true
  unfolding analog.valid_settings analog_with
  analog_with_lem c b =
      masked 63 (eqb c 0x81) b a.contrast
      and same
      and same
      and same
      and same
      and masked 1 (eqb c 0xf1) b a.temperature_slope
      and masked 15 (eqb c 0xf3) b a.contrast_trim
      and masked 3 (eqb c 0xf4) b a.otp_control

-- a column that a byte sets, and one that comes back
column_below : (b column : ℕ) → ltb column 256 ≡ true → ltb (column_set b column) 256 ≡ true
column_below b column h =
    stays (λ n. ltb n 256) (leb b 0x0f) ((column / 32 % 8 * 16 + b) * 2) _ (λ e. lt-ltb ((column / 32 % 8 * 16 + b) * 2) 256 (omega (arith, leb-true b 15 e)))
    (stays (λ n. ltb n 256) (between 0x10 0x17 b) ((b % 8 * 16 + column / 2 % 16) * 2) column (λ e. lt-ltb ((b % 8 * 16 + column / 2 % 16) * 2) 256 (omega arith)) h)

back_below : (saved : Option ℕ) (column : ℕ) → valid_saved saved ≡ true → ltb column 256 ≡ true → ltb (column_or saved column) 256 ≡ true
unfolding valid_saved column_or
back_below None column s h = h
back_below (Some c) column s h = s

module _ (a : Address) (b : ℕ) (ok : valid_address a ≡ true) where
  address_after_lem : valid_address (address_after a b) ≡ true
  unfolding valid_address valid_saved address_after
  address_after_lem =
      let p = both _ _ ok in
      let q = both _ _ p.0 in
      simp (page q.0, column q.1 p.1, saved q.1 p.1)
    where
      page : leb a.page 16 ≡ true → leb (address_after a b).page 16 ≡ true
      page present =
          stays (λ n. leb n 16) (is_reset b) 0 _ (λ e. refl)
          (stays (λ n. leb n 16) (eqb b 0xa3) 16 _ (λ e. refl)
          (stays (λ n. leb n 16) (between 0xb0 0xbf b) (b % 16) a.page (λ e. le-leb (b % 16) 16 (omega arith)) present))

      column : ltb a.column_byte 256 ≡ true → valid_saved a.saved_column ≡ true → ltb (address_after a b).column_byte 256 ≡ true
      column below s =
          stays (λ n. ltb n 256) (is_reset b) 0 _ (λ e. refl)
          (stays (λ n. ltb n 256) (eqb b 0xee) (column_or a.saved_column a.column_byte) _ (λ e. back_below a.saved_column a.column_byte s below) (column_below b a.column_byte below))

      saved : ltb a.column_byte 256 ≡ true → valid_saved a.saved_column ≡ true → valid_saved (address_after a b).saved_column ≡ true
      saved below s =
          stays valid_saved (is_reset b || eqb b 0xee) None _ (λ e. refl)
          (stays valid_saved (eqb b 0xe0) (Some a.column_byte) a.saved_column (λ e. below) s)

module _ (x : Nt7508) (v : Valid x) where
  with_pending_lem : (p : Option ℕ) → valid_pending p ≡ true → valid_serial (with_pending x.serial p) ≡ true
  unfolding valid_serial
  with_pending_lem p h = simp ((both (ltb x.serial.bits 8) _ v.serial).0, h)

  acted_valid : (b : ℕ) → Valid (acted x b)
  unfolding acted valid_pending valid_power power_after
  acted_valid b = record {
    serial = with_pending_lem None refl;
    address = address_after_lem x.address b v.address;
    display = display_after_lem x.display b v.display;
    analog = analog_after_lem x.analog b v.analog;
    power = v.power;
    scan = v.scan;
  }

  parameter_valid : (c b : ℕ) → Valid (parameter_taken x c b)
  unfolding parameter_taken valid_pending
  parameter_valid c b = record {
    serial = with_pending_lem None refl;
    address = v.address;
    display = display_with_lem x.display c b v.display;
    analog = analog_with_lem x.analog c b v.analog;
    power = v.power;
    scan = v.scan;
  }

  awaiting_valid : (b : ℕ) → awaits b ≡ true → Valid (with_serial x (with_pending x.serial (Some b)))
  unfolding with_serial valid_pending
  awaiting_valid b h = record {
    serial = with_pending_lem (Some b) h;
    address = v.address;
    display = v.display;
    analog = v.analog;
    power = v.power;
    scan = v.scan;
  }

-- a property after a parameter, after a byte that awaits one and after any other byte is one after a command byte
module _ (x : Nt7508) (b : ℕ) (now : Time) where
  stepped : (P : Nt7508 → Type 0) → ((c : ℕ) → P (parameter_taken x c b)) → (awaits b ≡ true → P (with_serial x (with_pending x.serial (Some b)))) → P (acted x b) → P (command_step x x.serial.pending b now).state
  unfolding command_step
  stepped P taken awaiting other = go x.serial.pending
    where
      by_await : (t : Bool) → awaits b ≡ t → P (command_step x None b now).state
      by_await true e = rw e (awaiting e)
      by_await false e = rw e other

      go : (p : Option ℕ) → P (command_step x p b now).state
      go (Some c) = taken c
      go None = by_await (awaits b) refl

  pub command_valid : b < 256 → Valid x → Valid (command_step x x.serial.pending b now).state
  command_valid fits v = stepped Valid (λ c. parameter_valid x v c b) (awaiting_valid x v b) (acted_valid x v b)

-- E3 leaves every register as it was
pub nop_acted : (x : Nt7508) → x.serial.pending ≡ None → acted x 0xe3 ≡ x
unfolding acted display_after analog_after power_after address_after
nop_acted x h = λ i. record {
  scan = x.scan;
  display = x.display;
  analog = x.analog;
  power = x.power;
  address = x.address;
  serial = with_pending x.serial (sym h i);
}
