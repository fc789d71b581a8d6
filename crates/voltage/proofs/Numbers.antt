-- Arithmetic that the proofs of several functions share.
use Prim.Native.Nat.{ℕ, zero, suc, ◌+◌, ◌-◌, ◌*◌, ◌^◌, ◌<◌, ◌≤◌}
use mathlib.Core.Bool.{Bool, true, false, cond}
use mathlib.Core.List.{List, [], ◌∷◌}
use mathlib.Core.Path.{◌≡◌, refl, ◌∙◌, ap}
use native.Mathlib.Nat.{add-mul, mul_right_comm, mul-le-mul, le_of_lt}
use native.Mathlib.Omega.{arith}
use lib.Dec.{leb, ltb}
use lib.IntN.{ℤ, pos, negsuc, nat_abs, sub_ℕ, pos-ne-negsuc, neg_ℤ-neg_ℤ, ◌+ℤ◌, ◌-ℤ◌, ◌*ℤ◌}
use lib.ListN.{get_or}
use lib.Signed.{mag}
use borrow.Author.Tests.{lt-ltb, le-ltb, ltb-true, ltb-false, leb-true}
use Rattle.voltage.specs.declared.Settings.{Settings}
use Rattle.voltage.specs.Voltage.{at_least_zero, at_most, temperature_factor, trim, ev, gain, rounded, target_at}

-- ---- differences that are not negative
pub diff_is : (a n b : ℕ) → pos b ≡ sub_ℕ a (suc n) → (suc n ≤ a) × (b ≡ a - suc n)
diff_is a n b e = go (ltb a (suc n)) refl e
  where
    go : (t : Bool) → ltb a (suc n) ≡ t → pos b ≡ cond t (negsuc (suc n - suc a)) (pos (a - suc n)) → (suc n ≤ a) × (b ≡ a - suc n)
    go true h q = absurd (pos-ne-negsuc b (suc n - suc a) q)
    go false h q = (ltb-false _ _ h, ap nat_abs q)

pub diff_cut : (a b : ℕ) → at_least_zero (pos a -ℤ pos b) ≡ a - b
diff_cut a zero = omega arith
diff_cut a (suc b) = go (ltb a (suc b)) refl
  where
    go : (t : Bool) → ltb a (suc b) ≡ t → at_least_zero (cond t (negsuc (suc b - suc a)) (pos (a - suc b))) ≡ a - suc b
    go true h = let l : a < suc b = ltb-true _ _ h in omega arith
    go false h = refl

-- ---- the temperature, counted from the lowest of its type
pub from_lowest : (z : ℤ) → mag z < 2 ^ 31 → (n : ℕ) × ((z +ℤ pos 2147483648 ≡ pos n) × (n < 2 ^ 32))
from_lowest (pos n) h = (n + 2147483648, (refl, omega arith))
from_lowest (negsuc n) h = (2147483648 - suc n, (rw (le-ltb 2147483648 (suc n) (omega arith)) refl, omega arith))

-- so many of c as u is short of 25,000 millidegrees
module _ (u c : ℕ) where
  short : (k : ℕ) → k + u ≡ 2147508648 → 100000000 + k * c ≡ 100000000 + 2147508648 * c - u * c
  short k e = omega (arith, add-mul k u c, ap (λ (x : ℕ). x * c) e)

  over : (k : ℕ) → u ≡ k + 2147508648 → 100000000 - k * c ≡ 100000000 + 2147508648 * c - u * c
  over k e = omega (arith, add-mul k 2147508648 c, ap (λ (x : ℕ). x * c) e)

  pub factor_is : (z : ℤ) → pos u ≡ z +ℤ pos 2147483648 → at_least_zero (pos 100000000 -ℤ (z -ℤ pos 25000) *ℤ pos c) ≡ 100000000 + 2147508648 * c - u * c
  factor_is (pos n) e = go (ltb n 25000) refl
    where
      un : u ≡ n + 2147483648
      un = ap nat_abs e

      go : (t : Bool) → ltb n 25000 ≡ t → at_least_zero (pos 100000000 -ℤ cond t (negsuc (25000 - suc n)) (pos (n - 25000)) *ℤ pos c) ≡ 100000000 + 2147508648 * c - u * c
      go true h =
          let l : n < 25000 = ltb-true _ _ h in
          rw neg_ℤ-neg_ℤ (short (suc (25000 - suc n)) (omega (arith, un)))
      go false h =
          let l : 25000 ≤ n = ltb-false _ _ h in
          diff_cut 100000000 ((n - 25000) * c) ∙ over (n - 25000) (omega (arith, un))
  factor_is (negsuc n) e =
      let d : (suc n ≤ 2147483648) × (u ≡ 2147483648 - suc n) = diff_is 2147483648 n u e in
      rw neg_ℤ-neg_ℤ (short (suc (suc (n + 24999))) (omega arith))

-- ---- e, from the contrast and what it is added to
pub volume_is : (b contrast : ℕ) (z : ℤ) → pos b ≡ pos 147 +ℤ z → ev contrast z ≡ b + contrast
unfolding ev
volume_is b contrast (pos n) e = let q : b ≡ 147 + n = ap nat_abs e in omega arith
volume_is b contrast (negsuc n) e =
    let d : (suc n ≤ 147) × (b ≡ 147 - suc n) = diff_is 147 n b e in
    rw (le-ltb (147 + contrast) (suc n) (omega arith)) (omega arith)

-- 147 and the trims 8 to 15
pub negative_trim : (t : ℕ) → 8 ≤ t → t ≤ 15 → pos (147 + t - 16) ≡ pos 147 +ℤ (pos t -ℤ pos 16)
negative_trim t l h =
    rw (lt-ltb t 16 (omega arith), le-ltb 147 (suc (16 - suc t)) (omega arith)) (ap pos (omega arith))

-- ---- the gains rise by 105
steps : ℕ → ℕ → List ℕ
steps a zero = []
steps a (suc n) = a ∷ steps (a + 105) n

at_step : (r n a : ℕ) → r < n → get_or (steps a n) r 0 ≡ a + 105 * r
unfolding steps
at_step r zero a h = absurd (omega arith)
at_step zero (suc n) a h = omega arith
at_step (suc r) (suc n) a h = at_step r n (a + 105) (omega arith) ∙ omega arith

pub gain_is : (r : ℕ) → r < 8 → gain r ≡ 345 + 105 * r
unfolding gain steps
gain_is r h = at_step r 8 345 h

pub gain_below : (r : ℕ) → r < 8 → gain r ≤ 1080
gain_below r h = omega (arith, gain_is r h)

-- ---- bounds
pub scaled_below : (t g : ℕ) → t < 2 ^ 38 → g ≤ 1080 → t * g < 2 ^ 49
scaled_below t g h k = omega (arith, mul-le-mul (le_of_lt h) k)

pub at_most_limit : (limit n : ℕ) → at_most limit n ≤ limit
at_most_limit limit n = go (leb n limit) refl
  where
    go : (t : Bool) → leb n limit ≡ t → cond t n limit ≤ limit
    go true h = leb-true _ _ h
    go false h = omega arith

-- ---- the target, as it is computed: the gain before e
pub target_is : (s : Settings) (z : ℤ) (t g b r contrast : ℕ) → t ≡ temperature_factor s.temperature_slope z → g ≡ gain r → pos b ≡ pos 147 +ℤ trim s.otp_control s.contrast_trim → rounded (t * g * (b + contrast)) ≡ target_at s z r contrast
unfolding target_at
target_is s z t g b r contrast et eg eb =
    ap rounded
    (mul_right_comm t g (b + contrast)
    ∙ cc (et, eg, volume_is b contrast (trim s.otp_control s.contrast_trim) eb))

-- the target of a pair, as the finder computes it
abbrev pub computed : (factor base regulator contrast : ℕ) → ℕ
computed factor base regulator contrast = rounded (factor * gain regulator * (base + contrast))

pub computed_is : (s : Settings) (z : ℤ) {t b : ℕ} → t ≡ temperature_factor s.temperature_slope z → pos b ≡ pos 147 +ℤ trim s.otp_control s.contrast_trim → (r k : ℕ) → computed t b r k ≡ target_at s z r k
computed_is s z et eb r k = target_is s z _ _ _ r k et refl eb
