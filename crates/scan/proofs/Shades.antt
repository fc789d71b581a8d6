-- A row's bits, the bound of a pulse width, and that a width beyond PWM gives no pulse.
use Rattle.std.proofs.Common.{◌≡◌, ℕ, ◌+◌, ◌*◌, ◌<◌, ◌≤◌, Bool, true, false, cond, ltb, leb, List, length, get_or, sym, refl, ◌∙◌, arith, ltb-false, ltb-true, leb-true}
use native.Mathlib.Nat.{zero-div}
use lib.ListN.{get_or-eq_default}
use borrow.Author.Tests.{lt-leb}
use Rattle.scan.specs.declared.settings.Settings.{Settings}
use Rattle.scan.specs.Planes.{row_bits, AreBits, planes_in}
use Rattle.scan.specs.Image.{up_to}
use Rattle.scan.specs.Shade.{bit_of, planes, palette_width, pulse_width}
use Rattle.scan.proofs.Rows.{length_up_to, get_d_up_to}

-- a row's bits, of 256 bytes
module _ (part : List ℕ) (place : ℕ) (whole : length part ≡ 256) where
  bit_at : (k : ℕ) → get_or (row_bits part place) k 0 ≡ bit_of (get_or part k 0) place
  unfolding row_bits
  bit_at k = go (ltb k 256) refl
    where
      go : (t : Bool) → ltb k 256 ≡ t → get_or (up_to (λ (i : ℕ). bit_of (get_or part i 0) place) 256) k 0 ≡ bit_of (get_or part k 0) place
      go true h = get_d_up_to (λ (i : ℕ). bit_of (get_or part i 0) place) 256 k (ltb-true k 256 h)
      go false h =
          let l = ltb-false k 256 h in
          get_or-eq_default (up_to (λ (i : ℕ). bit_of (get_or part i 0) place) 256) 0 {n = k} (omega (arith, length_up_to (λ (i : ℕ). bit_of (get_or part i 0) place) 256))
          ∙ sym (rw (get_or-eq_default part 0 {n = k} (omega arith), zero-div))

  pub are_bits : AreBits (row_bits part place)
  are_bits k = rw bit_at (omega arith)

  pub planes_in_lem : (column : ℕ) → planes_in (row_bits part place) column ≡ planes part place column
  planes_in_lem column = λ i. 2 * bit_at (2 * column) i + bit_at (2 * column + 1) i

-- a pulse is no wider than the PWM
pub pulse_le : (s : Settings) (shade phase pwm : ℕ) → pulse_width s shade phase pwm ≤ pwm
unfolding pulse_width
pulse_le s shade phase pwm = go _ (leb (palette_width s.palette shade phase) pwm) refl
  where
    go : (n : ℕ) (t : Bool) → leb n pwm ≡ t → cond t n 0 ≤ pwm
    go n true h = leb-true n pwm h
    go n false h = omega arith

-- every palette width above PWM gives no pulse
pub no_pulse : (s : Settings) (shade phase pwm : ℕ) → pwm < palette_width s.palette shade phase → pulse_width s shade phase pwm ≡ 0
unfolding pulse_width
no_pulse s shade phase pwm h = simp (lt-leb (palette_width s.palette shade phase) pwm h)
