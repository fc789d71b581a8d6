-- Times as numbers: their order, a time from its parts, and the sum with a duration.
use Prim.Native.Nat.{ℕ, ◌+◌, ◌*◌, ◌/◌, ◌%◌, ◌^◌, ◌≤◌, ◌<◌}
use mathlib.Core.Bool.{Bool, true, false, ◌&&◌, ◌||◌}
use mathlib.Core.Path.{◌≡◌, refl, sym, ◌∙◌, ap}
use native.Mathlib.Nat.{le_trans, le-add_right, mul-le-mul_right}
use native.Mathlib.Omega.{arith}
use lib.Arith.{digits_div, digits_mod, digits_lt}
use Rattle.std.specs.Prelude.{Some, None}
use lib.Dec.{leb, ltb, eqb}
use borrow.Author.Tests.{lt-ltb, le-ltb, le-leb, lt-leb, ne_eqb, ltb-true, ltb-false, eqb-true, eqb-false}
use Rattle.checks.proofs.Tests.{ltb_same, leb_same, eqb_same}
use Rattle.clock.specs.declared.time.Time.{Time}
use Rattle.clock.specs.declared.time.Duration.{Duration}
use Rattle.clock.specs.Time.{raw, time_of, in_range, raw_duration, sum}

-- a time is in range by its seconds
pub in_range_seconds : (t : Time) → t.fraction < 2 ^ 64 → ltb t.seconds (2 ^ 32) ≡ in_range t
in_range_seconds t h = ltb_same t.seconds (2 ^ 32) (raw t) (2 ^ 32 * 2 ^ 64) (λ k. omega arith) (λ k. omega arith)

-- two times, by their seconds and, where these are equal, by their fractions
module _ (s t : Time) (s_lt : s.fraction < 2 ^ 64) (t_lt : t.fraction < 2 ^ 64) where
  pub before : ltb s.seconds t.seconds || (eqb s.seconds t.seconds && ltb s.fraction t.fraction) ≡ ltb (raw s) (raw t)
  before = go (ltb s.seconds t.seconds) (eqb s.seconds t.seconds) refl refl
    where
      go : (l e : Bool) → ltb s.seconds t.seconds ≡ l → eqb s.seconds t.seconds ≡ e → l || (e && ltb s.fraction t.fraction) ≡ ltb (raw s) (raw t)
      go true e h k = sym (lt-ltb (raw s) (raw t) (omega (arith, ltb-true)))
      go false true h k = ltb_same s.fraction t.fraction (raw s) (raw t) (λ l. omega (arith, eqb-true)) (λ l. omega (arith, eqb-true))
      go false false h k = sym (le-ltb (raw s) (raw t) (omega (arith, ltb-false, eqb-false)))

  pub not_later : ltb s.seconds t.seconds || (eqb s.seconds t.seconds && leb s.fraction t.fraction) ≡ leb (raw s) (raw t)
  not_later = go (ltb s.seconds t.seconds) (eqb s.seconds t.seconds) refl refl
    where
      go : (l e : Bool) → ltb s.seconds t.seconds ≡ l → eqb s.seconds t.seconds ≡ e → l || (e && leb s.fraction t.fraction) ≡ leb (raw s) (raw t)
      go true e h k = sym (le-leb (raw s) (raw t) (omega (arith, ltb-true)))
      go false true h k = leb_same s.fraction t.fraction (raw s) (raw t) (λ l. omega (arith, eqb-true)) (λ l. omega (arith, eqb-true))
      go false false h k = sym (lt-leb (raw s) (raw t) (omega (arith, ltb-false, eqb-false)))

  pub same_time : eqb s.seconds t.seconds && eqb s.fraction t.fraction ≡ eqb (raw s) (raw t)
  same_time = go (eqb s.seconds t.seconds) refl
    where
      go : (e : Bool) → eqb s.seconds t.seconds ≡ e → e && eqb s.fraction t.fraction ≡ eqb (raw s) (raw t)
      go true k = eqb_same s.fraction t.fraction (raw s) (raw t) (λ l. omega (arith, eqb-true)) (λ l. omega (arith, eqb-true))
      go false k = sym (ne_eqb (raw s) (raw t) (λ e. omega (arith, eqb-false)))

-- a time from its seconds and fraction
pub time_of_lem : (s : ℕ) {f n : ℕ} → f < 2 ^ 64 → n ≡ s * 2 ^ 64 + f → record { seconds = s; fraction = f } ≡ time_of n
time_of_lem s b e = λ i. record {
  seconds = (sym (ap (λ (k : ℕ). k / 2 ^ 64) e ∙ digits_div s b)) i;
  fraction = (sym (ap (λ (k : ℕ). k % 2 ^ 64) e ∙ digits_mod s b)) i;
}

module _ (t : Time) (d : Duration) (s f : ℕ) (parts : raw t + raw_duration d ≡ s * 2 ^ 64 + f) where
  pub sum_at : s < 2 ^ 64 → f < 2 ^ 64 → Some (record { seconds = s; fraction = f }) ≡ sum t d
  sum_at a b = rw (lt-ltb (raw t + raw_duration d) (2 ^ 128) (rw parts (digits_lt a b))) (ap Some (time_of_lem s b parts))

  pub sum_past : 2 ^ 64 ≤ s → None ≡ sum t d
  sum_past h = rw (le-ltb (raw t + raw_duration d) (2 ^ 128) (rw parts (le_trans (mul-le-mul_right (2 ^ 64) h) (le-add_right (s * 2 ^ 64) f))))
