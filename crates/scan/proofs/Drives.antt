-- The drive: that a counted scan passes, what the call reads of the scan, and the bounds of the common.
use Rattle.std.proofs.Common.{◌≡◌, ℕ, ◌<◌, ◌≤◌, Bool, true, false, cond, eqb, List, refl, ap, ◌∙◌, arith}
use Rattle.std.specs.Prelude.{Some, None}
use Rattle.clock.specs.declared.time.Time.{Time}
use Rattle.clock.specs.Time.{in_range}
use Rattle.voltage.specs.declared.LcdVoltages.{LcdVoltages}
use Rattle.voltage.specs.Voltage.{voltages}
use Rattle.scan.specs.declared.settings.Settings.{Settings}
use Rattle.scan.specs.declared.state.Scan.{Scan}
use Rattle.scan.specs.declared.drive.Conditions.{Conditions}
use Rattle.scan.specs.declared.drive.LcdDrive.{LcdDrive}
use Rattle.scan.specs.Check.{valid_settings, check_scan, check_lent}
use Rattle.scan.specs.Count.{count_to}
use Rattle.scan.specs.Drive.{driven, common_of, undriven, drive_of, drive_at, quanta_of, frame_at, drive_scan, active_in}
use Rattle.scan.specs.Latch.{segment_active, bit, present_latch, shown}
use Rattle.scan.proofs.Checks.{valid_scan_lem, valid_check, valid_settings_lem}
use Rattle.scan.proofs.Counting.{count_to_valid}
use Rattle.scan.proofs.Latches.{segment_bit, cond_le}
use Rattle.voltage.specs.declared.Settings as analog

-- the scan counted to a moment passes its check
pub counted_passes : (x : Scan) (s : Settings) (now : Time) → in_range now ≡ true → valid_settings s ≡ true → check_scan x ≡ None → check_scan (count_to x s now) ≡ None
counted_passes x s now i v p = valid_check (count_to x s now) (count_to_valid s (valid_settings_lem s v) now i x (valid_scan_lem x p))

pub common_of_le : (x : Scan) → common_of x ≤ 128
unfolding common_of
common_of_le x = cond_le (eqb x.row x.frame.duty) (omega arith) (cond_le x.frame.common_reverse (omega arith) (omega arith))

-- an electrode's segment is active as its shade at the latched row is
pub active_latch : (x : Scan) (s : Settings) (ram icons : List ℕ) (n : ℕ) → n < 128 → active_in (present_latch x s ram icons) n ≡ segment_active x s ram icons n
unfolding active_in
active_latch x s ram icons n h = ap (λ (k : ℕ). eqb k 1) (segment_bit x s ram icons n h) ∙ one (segment_active x s ram icons n)
  where
    one : (t : Bool) → eqb (bit t) 1 ≡ t
    one true = refl
    one false = refl

-- what a drive reads of a scan
pub record SameDrive (x y : Scan) (s : Settings) (ram icons : List ℕ) : Type 0 where
  pub common : common_of x ≡ common_of y
  pub inverted : x.inversion.inverted ≡ y.inversion.inverted
  pub segments : shown x s ram icons ≡ shown y s ram icons
  pub quanta : quanta_of x ≡ quanta_of y

module _ (x y : Scan) (s : Settings) (c : Conditions) (now : Time) (ram icons : List ℕ) (d : SameDrive (count_to x s now) (count_to y s now) s ram icons) where
  -- scans whose counted scans agree in that have the same drive
  pub drive_alike : (v : LcdVoltages) → drive_at x s v c now ram icons ≡ drive_at y s v c now ram icons
  unfolding drive_at drive_of
  drive_alike v =
      ap (λ (k : LcdDrive). cond (driven c) k (undriven c v))
      (λ i. record { common = Some (d.common i); segments = d.segments i; inverted = d.inverted i; voltages = v; grounded = false })

  pub frame_alike : frame_at x s c now ≡ frame_at y s c now
  unfolding frame_at
  frame_alike = ap (λ (n : ℕ). cond (driven c) n 0) d.quanta

  -- and where both pass their checks, or both fail them alike, the calls answer the same
  pub drive_scan_alike : (a : analog.Settings) → check_scan x ≡ check_scan y → drive_scan x s a c now ram icons ≡ drive_scan y s a c now ram icons
  unfolding drive_scan check_lent
  drive_scan_alike a k = rw (k, drive_alike (voltages a c.supply), frame_alike)
