-- Drive, image and voltages answer the same in both runs.
use Prim.Native.Nat.{ℕ, ◌≤◌}
use mathlib.Core.Bool.{Bool, true, false}
use mathlib.Core.List.{List}
use Rattle.std.specs.Prelude.{Option, None}
use mathlib.Core.Path.{◌≡◌, refl, sym, ◌∙◌, ap}
use lib.ListN.{length}
use Rattle.checks.specs.Checks.{row, first_of, answer, changed}
use Rattle.clock.specs.declared.time.Time.{Time}
use Rattle.clock.specs.Time.{raw, in_range}
use Rattle.scan.specs.declared.drive.LcdDrive.{LcdDrive}
use Rattle.scan.specs.Drive.{driven, drive_at, frame_at, off}
use Rattle.scan.specs.Image.{image}
use Rattle.scan.proofs.Agree.{agree_drive}
use Rattle.scan.proofs.Drives.{drive_alike, frame_alike}
use Rattle.controller.specs.declared.state.Nt7508.{Nt7508}
use Rattle.controller.specs.State.{with_scan, with_serial}
use Rattle.controller.specs.Byte.{conditions_of}
use Rattle.controller.specs.Look.{levels_of, voltages_of, drive_of, render_of}
use Rattle.controller.proofs.Checks.{lent_alone, image_alone}
use Rattle.strike.specs.Calls.{Machine}
use Rattle.strike.specs.Line.{Line}
use Rattle.strike.proofs.Bytes.{state_of}
use Rattle.strike.proofs.Bits.{settings_valid, scan_valid}
use Rattle.strike.proofs.Runs.{Runs, kept_under, agree_at}

module _ {ok : Bool} {at : Time} {l : Line} {m n : Machine} (w : Runs ok at l m n) where
  abbrev full_state : Nt7508
  full_state = state_of w.c l.bits w.x

  abbrev kept_state : Nt7508
  kept_state = state_of w.c (kept_under l) w.y

  -- what a drive that is not refused gives
  abbrev drives : Nt7508 → Time → LcdDrive × ℕ
  drives s now =
      (drive_at s.scan s.display (levels_of s) (conditions_of s.power) now w.ram w.icons, frame_at s.scan s.display (conditions_of s.power) now)

  drives_same : (now : Time) → raw at ≤ raw now → in_range now ≡ true → drives kept_state now ≡ drives full_state now
  unfolding state_of with_scan with_serial
  drives_same now le i =
      let d =
      agree_drive w.c.display w.ram w.icons (settings_valid w.c l.bits w.x w.full_ok) now i w.x w.y
      (scan_valid w.c l.bits w.x w.full_ok) (scan_valid w.c (kept_under l) w.y w.kept_ok) (agree_at now w le i)
      in
      sym (λ j. (
        drive_alike w.x w.y w.c.display (conditions_of w.c.power) now w.ram w.icons d (levels_of w.c) j,
        frame_alike w.x w.y w.c.display (conditions_of w.c.power) now w.ram w.icons d j,
      ))

  drive_on : (now : Time) → raw at ≤ raw now → drive_of kept_state now w.ram w.icons ≡ drive_of full_state now w.ram w.icons
  unfolding drive_of
  drive_on now le =
      ap (λ (k : Option ℕ). changed k (drives kept_state now) (off, 0)) (lent_alone kept_state w.kept_ok w.ram w.icons w.memory now)
      ∙ go ok (in_range now) refl
      ∙ sym (ap (λ (k : Option ℕ). changed k (drives full_state now) (off, 0)) (lent_alone full_state w.full_ok w.ram w.icons w.memory now))
    where
      go : (ok i : Bool) → in_range now ≡ i → changed (first_of (row 2 ok) (row 1 i)) (drives kept_state now) (off, 0) ≡ changed (first_of (row 2 ok) (row 1 i)) (drives full_state now) (off, 0)
      go false i e = refl
      go true false e = refl
      go true true e = ap (λ (d : LcdDrive × ℕ). changed None d (off, 0)) (drives_same now le e)

  pub drive_same : (now : Time) → raw at ≤ raw now → drive_of n.state now n.ram n.icons ≡ drive_of m.state now m.ram m.icons
  drive_same now le =
      ap (λ (m : Machine). drive_of m.state now m.ram m.icons) w.kept_is
      ∙ drive_on now le
      ∙ sym (ap (λ (m : Machine). drive_of m.state now m.ram m.icons) w.full_is)

  image_on : (pixels : List ℕ) → render_of kept_state w.ram w.icons pixels ≡ render_of full_state w.ram w.icons pixels
  unfolding render_of state_of with_scan with_serial
  image_on pixels =
      ap (λ (k : Option ℕ). changed k (image w.c.display (driven (conditions_of w.c.power)) w.ram) pixels)
      (image_alone kept_state w.kept_ok w.ram w.icons w.memory (length pixels) ∙ sym (image_alone full_state w.full_ok w.ram w.icons w.memory (length pixels)))

  pub image_same : (pixels : List ℕ) → render_of n.state n.ram n.icons pixels ≡ render_of m.state m.ram m.icons pixels
  image_same pixels =
      ap (λ (m : Machine). render_of m.state m.ram m.icons pixels) w.kept_is
      ∙ image_on pixels
      ∙ sym (ap (λ (m : Machine). render_of m.state m.ram m.icons pixels) w.full_is)

  voltages_on_lem : voltages_of kept_state ≡ voltages_of full_state
  unfolding voltages_of state_of with_scan with_serial
  voltages_on_lem = ap (λ (k : Option ℕ). answer k (levels_of w.c)) (w.kept_ok ∙ sym w.full_ok)

  pub voltages_same : voltages_of n.state ≡ voltages_of m.state
  voltages_same = ap (λ (m : Machine). voltages_of m.state) w.kept_is ∙ voltages_on_lem ∙ sym (ap (λ (m : Machine). voltages_of m.state) w.full_is)
