-- Laws of the voltages, for the crates above: what an answer is, when V0 is absent, that the levels fall from V0 to
-- V4, and that the target rises with the contrast and the regulator setting.
use Prim.Native.Nat.{ℕ, suc, ◌+◌, ◌-◌, ◌*◌, ◌/◌, ◌<◌, ◌≤◌}
use mathlib.Core.Bool.{Bool, true, false, cond, ◌&&◌, and-false}
use mathlib.Core.Logic.{◌⊎◌, inl, inr, ◌↔◌}
use mathlib.Core.Path.{◌≡◌, refl, sym, ◌∙◌, ap}
use native.Mathlib.Nat.{le_trans, mul-le-mul, mul-le-mul_left, le-div_iff_mul-le, div-mul-le_self, mul-add-div_right, div-eq_of_lt}
use native.Mathlib.Omega.{arith}
use lib.Dec.{leb}
use lib.IntN.{ℤ, pos, negsuc}
use borrow.Author.Tests.{leb-true, leb-false, le-leb, lt-leb}
use Rattle.checks.proofs.Tests.{fails}
use Rattle.voltage.specs.declared.Settings.{Settings}
use Rattle.voltage.specs.declared.Supply.{Supply}
use Rattle.voltage.specs.declared.LcdVoltages.{LcdVoltages}
use Rattle.voltage.specs.declared.check.Refusal.{Refusal}
use Rattle.std.specs.Prelude.{Option, None, Result, Ok, Err}
use Rattle.std.proofs.lemmas.Option.{none-some}
use Rattle.voltage.specs.Check.{has_bit, valid_settings}
use Rattle.voltage.specs.Voltage.{at_most, level_at, above, rounded, gain, ev, temperature_factor, trim, target_at, share, v0_present, levels, target, pump, voltages}
use Rattle.voltage.specs.Answers.{microvolts, answered, answer_of}
use Rattle.voltage.proofs.Numbers.{gain_is, diff_cut, at_most_limit}

-- ---- what an answer to `voltages` is
pub answer_valid : (s : Settings) (x : Supply) (r : Result LcdVoltages Refusal) → answered r ≡ answer_of s x → valid_settings s ≡ true → r ≡ Ok (voltages s x)
unfolding answer_of
answer_valid s x (Ok v) e valid = let q = rw valid at e in cc
answer_valid s x (Err why) e valid = let q = rw valid at e in cc

pub answer_invalid : (s : Settings) (x : Supply) (r : Result LcdVoltages Refusal) → answered r ≡ answer_of s x → valid_settings s ≡ false → r ≡ Err Refusal.Settings
unfolding answer_of
answer_invalid s x (Ok v) e invalid = let q = rw invalid at e in cc
answer_invalid s x (Err Refusal.Settings) e invalid = refl

-- ---- shares of the target
module _ (v n : ℕ) (some : 0 < n) where
  share_rises : {f g : ℕ} → f ≤ g → share v n f ≤ share v n g
  unfolding share
  share_rises {f} {g} h =
      (le-div_iff_mul-le some).1
      (le_trans (div-mul-le_self (v * f + n / 2) n) (omega (arith, mul-le-mul_left v h)))

  share_whole : share v n n ≡ v
  unfolding share
  share_whole = mul-add-div_right some v (n / 2) ∙ rw (div-eq_of_lt {n = n / 2} {m = n} (omega arith)) (omega arith)

  pub share_within : {f : ℕ} → f ≤ n → share v n f ≤ v
  share_within h = omega (arith, share_rises h, share_whole)

-- ---- V0 is absent exactly if one of its conditions fails
absent_not : (present : Bool) (v : ℕ) → level_at present v ≡ None → present ≡ false
absent_not true v e = absurd (none-some v (sym e))
absent_not false v e = refl

-- what V0 can lack: its bit of the power control, a target from 4,000,000 to 15,000,000, a pump that is high enough
abbrev pub V0Lacks : ℕ → ℕ → Option ℕ → Type 0
V0Lacks power_control v from =
    (has_bit power_control 1 ≡ false) ⊎ ((v < 4000000) ⊎ ((15000000 < v) ⊎ (above from (v + 3000000) ≡ false)))

lacks : (power_control v : ℕ) (from : Option ℕ) → v0_present power_control v from ≡ false → V0Lacks power_control v from
unfolding v0_present
lacks power_control v from e = last (fails _ _ e)
  where
    first : (has_bit power_control 1 ≡ false) ⊎ (leb 4000000 v ≡ false) → V0Lacks power_control v from
    first (inl h) = inl h
    first (inr h) = inr (inl (leb-false _ _ h))

    middle : (has_bit power_control 1 && leb 4000000 v ≡ false) ⊎ (leb v 15000000 ≡ false) → V0Lacks power_control v from
    middle (inl h) = first (fails _ _ h)
    middle (inr h) = inr (inr (inl (leb-false _ _ h)))

    last : (has_bit power_control 1 && leb 4000000 v && leb v 15000000 ≡ false) ⊎ (above from (v + 3000000) ≡ false) → V0Lacks power_control v from
    last (inl h) = middle (fails _ _ h)
    last (inr h) = inr (inr (inr h))

lacking : (power_control v : ℕ) (from : Option ℕ) → V0Lacks power_control v from → v0_present power_control v from ≡ false
unfolding v0_present
lacking power_control v from (inl h) = rw h
lacking power_control v from (inr (inl h)) = rw (lt-leb 4000000 v h) (simp and-false)
lacking power_control v from (inr (inr (inl h))) = rw (lt-leb v 15000000 h) (simp and-false)
lacking power_control v from (inr (inr (inr h))) = rw h (simp and-false)

pub v0_absent : (s : Settings) (x : Supply) → ((voltages s x).v0 ≡ None) ↔ V0Lacks s.power_control (target s x.temperature_millicelsius) (pump s x)
unfolding voltages levels
v0_absent s x =
    let v = target s x.temperature_millicelsius in (
      (λ e. lacks s.power_control v (pump s x) (absent_not (v0_present s.power_control v (pump s x)) v e)),
      (λ h. ap (λ (t : Bool). level_at t v) (lacking s.power_control v (pump s x) h)),
    )

-- ---- the levels fall from V0 to V4 and lie within the target
pub record Falls (v : LcdVoltages) : Type 0 where
  pub v0_within : microvolts v.v0 ≤ v.target
  pub v1_below : microvolts v.v1 ≤ microvolts v.v0
  pub v2_below : microvolts v.v2 ≤ microvolts v.v1
  pub v3_below : microvolts v.v3 ≤ microvolts v.v2
  pub v4_below : microvolts v.v4 ≤ microvolts v.v3

level_within : (t : Bool) (v : ℕ) → microvolts (level_at t v) ≤ v
level_within true v = omega arith
level_within false v = omega arith

level_rises : (t : Bool) {v w : ℕ} → v ≤ w → microvolts (level_at t v) ≤ microvolts (level_at t w)
level_rises true h = h
level_rises false h = omega arith

level_less : (t u : Bool) {v w : ℕ} → v ≤ w → microvolts (level_at (t && u) v) ≤ microvolts (level_at t w)
level_less true u {v} {w} h = omega (arith, level_within u v)
level_less false u h = omega arith

pub falls : (s : Settings) (x : Supply) → Falls (voltages s x)
unfolding voltages levels
falls s x =
    let v = target s x.temperature_millicelsius in
    let n = s.bias + 5 in
    let some : 0 < n = omega arith in
    let present = v0_present s.power_control v (pump s x) in
    let low = has_bit s.power_control 0 in
    record {
      v0_within = level_within present v;
      v1_below = level_less present low (share_within v n some {f = n - 1} (omega arith));
      v2_below = level_rises (present && low) (share_rises v n some {f = n - 2} {g = n - 1} (omega arith));
      v3_below = level_rises (present && low) (share_rises v n some {f = 2} {g = n - 2} (omega arith));
      v4_below = level_rises (present && low) (share_rises v n some {f = 1} {g = 2} (omega arith));
    }

-- ---- the target rises with the contrast and with the regulator setting
rounded_rises : {a b : ℕ} → a ≤ b → rounded a ≤ rounded b
unfolding rounded
rounded_rises {a} {b} h = capped ((a + 750000) / 1500000) ((b + 750000) / 1500000) (omega arith)
  where
    capped : (x y : ℕ) → x ≤ y → at_most 4294967295 x ≤ at_most 4294967295 y
    capped x y l = go (leb y 4294967295) refl
      where
        go : (t : Bool) → leb y 4294967295 ≡ t → at_most 4294967295 x ≤ cond t y 4294967295
        go true k = let m : y ≤ 4294967295 = leb-true _ _ k in rw (le-leb x 4294967295 (omega arith)) l
        go false k = at_most_limit 4294967295 x

volume_rises : {c d : ℕ} (z : ℤ) → c ≤ d → ev c z ≤ ev d z
unfolding ev
volume_rises (pos n) h = omega arith
volume_rises {c} {d} (negsuc n) h =
    rw (diff_cut (147 + c) (suc n), diff_cut (147 + d) (suc n)) (omega arith)

pub target_rises : (s : Settings) (temperature : ℤ) {r q c d : ℕ} → r ≤ q → q < 8 → c ≤ d → target_at s temperature r c ≤ target_at s temperature q d
unfolding target_at
target_rises s temperature {r} {q} {c} {d} h k l =
    let g : gain r ≤ gain q = omega (arith, gain_is r (omega arith), gain_is q k) in
    rounded_rises
    (mul-le-mul
    (mul-le-mul_left (temperature_factor s.temperature_slope temperature)
    (volume_rises (trim s.otp_control s.contrast_trim) l)) g)
