-- One edge on a state by its registers, its bits and its scan: not taken, one more bit, or a whole byte.
use Prim.Native.Nat.{ℕ, suc, ◌+◌, ◌*◌, ◌%◌, ◌^◌, ◌≤◌, ◌<◌}
use mathlib.Core.Bool.{Bool, true, false, cond, not, ◌&&◌}
use mathlib.Core.List.{List, [], ◌∷◌}
use Rattle.std.specs.Prelude.{Option, None, Some}
use mathlib.Core.Path.{◌≡◌, refl, ◌∙◌, ap}
use native.Mathlib.Nat.{mod-eq_of_lt, pow-suc}
use native.Mathlib.Numerals.{add-one}
use native.Mathlib.Omega.{arith}
use lib.Dec.{ltb, eqb}
use lib.ListN.{length}
use lib.Pow.{pow_mono}
use borrow.Author.Tests.{lt-ltb, ltb-true}
use Rattle.checks.proofs.Tests.{both}
use Rattle.clock.specs.declared.time.Time.{Time}
use Rattle.scan.specs.declared.state.Scan.{Scan}
use Rattle.scan.proofs.Checks as scans
use Rattle.controller.specs.declared.state.Nt7508.{Nt7508}
use Rattle.controller.specs.State.{with_scan, with_serial}
use Rattle.controller.specs.Check.{valid_pending, valid_serial, check_state}
use Rattle.controller.specs.Event.{unstored}
use Rattle.controller.specs.Byte.{waiting, byte_taken}
use Rattle.controller.specs.Bits.{Outcome, taking, with_bits, quiet, performed, bit_taken, edge}
use Rattle.controller.proofs.Checks.{valid, valid_check}
use Rattle.strike.specs.Line.{Line, ready, takes, is_whole, value}
use Rattle.strike.proofs.Bytes.{state_of, Tied}

-- bits are taken as the line says
ready_is : (r : Option Time) → not (waiting r) ≡ ready r
ready_is None = refl
ready_is (Some t) = refl

pub taking_is : (l : Line) (c : Nt7508) (bits : List Bool) (x : Scan) → Tied l c → taking (state_of c bits x) ≡ takes l
unfolding taking takes state_of with_scan with_serial
taking_is l c bits x t =
    ap (λ (w : Bool). c.serial.selected && c.power.supplied && w) (ready_is c.power.ready)
    ∙ (λ i. t.selected i && t.supplied i && ready (t.wait i))

-- the number of some bits has no more
value_lt : (bits : List Bool) → value bits < 2 ^ length bits
unfolding value
value_lt [] = omega arith
value_lt (true ∷ bits) = let h = value_lt bits in omega (arith, pow-suc 2 (length bits))
value_lt (false ∷ bits) = let h = value_lt bits in omega (arith, pow-suc 2 (length bits))

pub value_byte : (bits : List Bool) → length bits ≤ 8 → value bits < 256
value_byte bits h = let v = value_lt bits in omega (arith, pow_mono {i = length bits} {j = 8} h)

-- a state that passes its checks has seven bits under way at most, and passes them with any such bits
module _ (c : Nt7508) (bits : List Bool) (x : Scan) (ok : check_state (state_of c bits x) ≡ None) where
  pub few_bits : length bits < 8
  unfolding state_of with_scan with_serial valid_serial
  few_bits = ltb-true (length bits) 8 (both _ (valid_pending c.serial.pending) (valid (state_of c bits x) ok).serial).0

  pub other_bits : (bs : List Bool) → length bs < 8 → check_state (state_of c bs x) ≡ None
  unfolding state_of with_scan with_serial valid_serial
  other_bits bs h = let v = valid (state_of c bits x) ok in valid_check (state_of c bs x) (record {
    serial = rw (lt-ltb (length bs) 8 h) (both (ltb (length bits) 8) _ v.serial).1;
    address = v.address;
    display = v.display;
    analog = v.analog;
    power = v.power;
    scan = v.scan;
  })

  pub settings_valid : scans.ValidSettings c.display
  unfolding state_of with_scan with_serial
  settings_valid = scans.valid_settings_lem c.display (valid (state_of c bits x) ok).display

  pub scan_valid : scans.Valid x
  unfolding state_of with_scan with_serial
  scan_valid = scans.valid_scan_lem x (valid (state_of c bits x) ok).scan

-- one edge
module _ (l : Line) (c : Nt7508) (bits : List Bool) (x : Scan) (t : Tied l c) (b : Bool) (now : Time) (ram icons : List ℕ) where
  pub edge_idle : takes l ≡ false → edge (state_of c bits x) b now ram icons ≡ quiet (state_of c bits x) ram icons
  unfolding edge
  edge_idle h = rw (taking_is l c bits x t ∙ h)

  module _ (h : takes l ≡ true) (few : length bits < 8) where
    taken : edge (state_of c bits x) b now ram icons ≡ performed (bit_taken (state_of c bits x) b now ram icons) ram icons
    unfolding edge
    taken = rw (taking_is l c bits x t ∙ h)

    -- the number with the bit
    shifted : (value bits * 2 + cond b 1 0) % 256 ≡ value (b ∷ bits)
    unfolding value
    shifted = mod-eq_of_lt (value_byte (b ∷ bits) (omega arith))

    -- what it does, by whether it is the last of its byte, the number with it, and how many bits there are
    abbrev doing : Bool → (v n : ℕ) → Outcome
    doing whole v n =
        performed (cond whole (byte_taken (state_of c [] x) v now ram icons) (unstored (with_scan (with_serial c (with_bits c.serial v n)) x))) ram icons

    done : {whole : Bool} → is_whole (b ∷ bits) ≡ whole → edge (state_of c bits x) b now ram icons ≡ doing whole (value (b ∷ bits)) (suc (length bits))
    unfolding is_whole bit_taken state_of with_scan with_serial value
    done w = taken ∙ (λ i. doing ((ap (λ (n : ℕ). eqb n 8) (add-one (length bits)) ∙ w) i) (shifted i) (add-one (length bits) i))

    pub edge_more : is_whole (b ∷ bits) ≡ false → edge (state_of c bits x) b now ram icons ≡ quiet (state_of c (b ∷ bits) x) ram icons
    unfolding state_of
    edge_more w = done w

    pub edge_whole : is_whole (b ∷ bits) ≡ true → edge (state_of c bits x) b now ram icons ≡ performed (byte_taken (state_of c [] x) (value (b ∷ bits)) now ram icons) ram icons
    edge_whole w = done w
