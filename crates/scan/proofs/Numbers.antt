-- Quotient and remainder of the next number, the parity of a count of flips, and picks by a test against 0.
use Rattle.std.proofs.Common.{◌≡◌, ℕ, ◌+◌, ◌-◌, ◌*◌, ◌/◌, ◌%◌, ◌<◌, ◌≤◌, Bool, true, false, cond, not, eqb, leb, ◌⊎◌, sym, refl, ap, ◌∙◌, inl, inr, add-zero, add_assoc, mod-lt, mod-eq_of_lt, add-mul, mul-le-mul, div-add-mod', arith, eq-eqb, ne_eqb, eqb-true, leb-false, leb-true}
use mathlib.Core.Bool.{beq, not-not, false≢true}
use native.Mathlib.Nat.{mod-add-mod, div-eq_of_lt}
use lib.Arith.{digits_div, digits_mod}
use borrow.Author.Tests.{eqb-false}
use Rattle.scan.specs.Closed.{flipped, flips_in, count_in, count_after}

module _ (a b : ℕ) {a' : ℕ} (next : a' ≡ a + 1) where
  at_in : a' ≡ a / b * b + (a % b + 1)
  at_in = omega (arith, div-add-mod' a b)

  pub div_in : a % b + 1 < b → a' / b ≡ a / b
  div_in h = ap (λ (k : ℕ). k / b) at_in ∙ digits_div (a / b) h

  pub mod_in : a % b + 1 < b → a' % b ≡ a % b + 1
  mod_in h = ap (λ (k : ℕ). k % b) at_in ∙ digits_mod (a / b) h

  at_out : 0 < b → b ≤ a % b + 1 → a' ≡ (a / b + 1) * b + 0
  at_out z h = omega (arith, div-add-mod' a b, mod-lt a z, add-mul (a / b) 1 b)

  pub div_out : 0 < b → b ≤ a % b + 1 → a' / b ≡ a / b + 1
  div_out z h = ap (λ (k : ℕ). k / b) (at_out z h) ∙ digits_div (a / b + 1) z

  pub mod_out : 0 < b → b ≤ a % b + 1 → a' % b ≡ 0
  mod_out z h = ap (λ (k : ℕ). k % b) (at_out z h) ∙ digits_mod (a / b + 1) z

flip_next : (b : Bool) (n : ℕ) → flipped b (n + 1) ≡ not (flipped b n)
flip_next b n = go (eqb (n % 2) 0) refl
  where
    go : (t : Bool) → eqb (n % 2) 0 ≡ t → flipped b (n + 1) ≡ not (flipped b n)
    go true h =
        let z : n % 2 ≡ 0 = eqb-true _ _ h in
        simp (h, ne_eqb ((n + 1) % 2) 0 (omega arith))
    go false h =
        let z : (n % 2 ≡ 0 → ⊥) = eqb-false _ _ h in
        simp (h, eq-eqb ((n + 1) % 2) 0 (omega (arith, z)), not-not)

pub cond_same : {A : Type 0} (t : Bool) (a : A) → cond t a a ≡ a
cond_same true a = refl
cond_same false a = refl

pub keep : {A : Type 0} (f : ℕ) {a b : A} → (f ≡ 0) ⊎ (b ≡ a) → cond (eqb f 0) a b ≡ a
keep f (inl z) = rw (eq-eqb f 0 z)
keep f {a} (inr e) = rw e (cond_same (eqb f 0) a)

pub not_zero : (f : ℕ) → eqb (f + 1) 0 ≡ false
not_zero f = ne_eqb (f + 1) 0 (omega arith)

-- no row has ended, or the row end takes the lines in force
pub count_held : (lines taken count e : ℕ) → (lines ≡ 0) ⊎ (count < lines) → (e ≡ 0) ⊎ (taken ≡ lines) → count_after lines taken count e ≡ count_in lines count e
count_held lines taken count e v (inl z) = rw (eq-eqb e 0 z, z) (go v)
  where
    go : (lines ≡ 0) ⊎ (count < lines) → count ≡ count_in lines count 0
    go (inl z) = rw (eq-eqb lines 0 z)
    go (inr h) = simp (add-zero, ne_eqb lines 0 (omega arith), mod-eq_of_lt h)
count_held lines taken count e v (inr same) = simp (same, eq-eqb lines lines refl) (go (eqb e 0) refl v)
  where
    go : (t : Bool) → eqb e 0 ≡ t → (lines ≡ 0) ⊎ (count < lines) → cond t count (count_in lines count e) ≡ count_in lines count e
    go false h v = refl
    go true h (inl z) = rw (eq-eqb lines 0 z)
    go true h (inr k) =
        let z : e ≡ 0 = eqb-true _ _ h in
        simp (z, add-zero, ne_eqb lines 0 (omega arith), mod-eq_of_lt k)

module _ (lines count e : ℕ) where
  pub count_next : cond (eqb lines 0) (count_in lines count e) (cond (leb lines (count_in lines count e + 1)) 0 (count_in lines count e + 1)) ≡ count_in lines count (e + 1)
  count_next = go (eqb lines 0) refl
    where
      inner : (lines ≡ 0 → ⊥) → (t : Bool) → leb lines ((count + e) % lines + 1) ≡ t → cond t 0 ((count + e) % lines + 1) ≡ (count + (e + 1)) % lines
      inner nz true h = sym (mod_out (count + e) lines (omega arith) (omega (arith, nz)) (leb-true _ _ h))
      inner nz false h = sym (mod_in (count + e) lines (omega arith) (leb-false _ _ h))

      go : (t : Bool) → eqb lines 0 ≡ t → cond t (cond t count ((count + e) % lines)) (cond (leb lines (cond t count ((count + e) % lines) + 1)) 0 (cond t count ((count + e) % lines) + 1)) ≡ cond t count ((count + (e + 1)) % lines)
      go true h = refl
      go false h = inner (eqb-false _ _ h) (leb lines ((count + e) % lines + 1)) refl

  pub flips_next : (f : ℕ) (i b : Bool) → cond (cond (eqb lines 0) b (leb lines (count_in lines count e + 1))) (not (flipped i (flips_in lines count e f))) (flipped i (flips_in lines count e f)) ≡ flipped i (flips_in lines count (e + 1) (cond b (f + 1) f))
  flips_next f i b = go (eqb lines 0) refl
    where
      zeroth : (b : Bool) → cond b (not (flipped i f)) (flipped i f) ≡ flipped i (cond b (f + 1) f)
      zeroth true = sym (flip_next i f)
      zeroth false = refl

      inner : (lines ≡ 0 → ⊥) → (t : Bool) → leb lines ((count + e) % lines + 1) ≡ t → cond t (not (flipped i ((count + e) / lines))) (flipped i ((count + e) / lines)) ≡ flipped i ((count + (e + 1)) / lines)
      inner nz true h = rw (div_out (count + e) lines {a' = count + (e + 1)} (omega arith) (omega (arith, nz)) (leb-true _ _ h)) (sym (flip_next i ((count + e) / lines)))
      inner nz false h = rw (div_in (count + e) lines {a' = count + (e + 1)} (omega arith) (leb-false _ _ h))

      go : (t : Bool) → eqb lines 0 ≡ t → cond (cond t b (leb lines (cond t count ((count + e) % lines) + 1))) (not (flipped i (cond t f ((count + e) / lines)))) (flipped i (cond t f ((count + e) / lines))) ≡ flipped i (cond t (cond b (f + 1) f) ((count + (e + 1)) / lines))
      go true h = zeroth b
      go false h = inner (eqb-false _ _ h) (leb lines ((count + e) % lines + 1)) refl

-- the phase: no frame has ended, or the frame end takes the count in force
pub frc_held : (frc count taken f : ℕ) → frc < count → (f ≡ 0) ⊎ (taken ≡ count) → cond (eqb f 0) frc ((frc + f) % taken) ≡ (frc + f) % count
frc_held frc count taken f v (inl z) = simp (z, add-zero, mod-eq_of_lt v)
frc_held frc count taken f v (inr same) = rw same (go (eqb f 0) refl)
  where
    go : (t : Bool) → eqb f 0 ≡ t → cond t frc ((frc + f) % count) ≡ (frc + f) % count
    go false h = refl
    go true h = let z : f ≡ 0 = eqb-true _ _ h in simp (z, add-zero, mod-eq_of_lt v)

pub frc_next : (frc count taken f : ℕ) → frc < count → (f ≡ 0) ⊎ (taken ≡ count) → ((frc + f) % count + 1) % taken ≡ (frc + (f + 1)) % taken
frc_next frc count taken f v (inl z) = simp (z, add-zero, mod-eq_of_lt v)
frc_next frc count taken f v (inr same) = rw same (mod-add-mod (frc + f) count 1 ∙ simp add_assoc)

pub flips_none : (lines count : ℕ) → (lines ≡ 0) ⊎ (count < lines) → cond (eqb lines 0) 0 (count / lines) ≡ 0
flips_none lines count (inl z) = rw (eq-eqb lines 0 z)
flips_none lines count (inr h) = rw (div-eq_of_lt h) (cond_same (eqb lines 0) 0)

pub count_none : (lines count : ℕ) → (lines ≡ 0) ⊎ (count < lines) → cond (eqb lines 0) count (count % lines) ≡ count
count_none lines count (inl z) = rw (eq-eqb lines 0 z)
count_none lines count (inr h) = rw (mod-eq_of_lt h) (cond_same (eqb lines 0) count)

pub beq_true : (a b : Bool) → beq a b ≡ true → a ≡ b
beq_true true true h = refl
beq_true false false h = refl
beq_true true false h = absurd (false≢true h)
beq_true false true h = absurd (false≢true h)

pub beq_left : (a b : Bool) → a ≡ true → b ≡ beq a b
beq_left true true h = refl
beq_left true false h = refl
beq_left false b h = absurd (false≢true h)

pub beq_right : (a b : Bool) → a ≡ false → not b ≡ beq a b
beq_right false true h = refl
beq_right false false h = refl
beq_right true b h = absurd (false≢true (sym h))

pub beq_refl : (a : Bool) → beq a a ≡ true
beq_refl true = refl
beq_refl false = refl

-- bounds of the code's numbers
pub mod_fits : (a b : ℕ) → 0 < b → b ≤ 256 → a % b < 256
mod_fits a b z h = omega (arith, mod-lt a z)

-- a row that is left has as many quanta as PWM
pub row_left : (rows row pwm : ℕ) → row < rows → pwm ≤ (rows - row) * pwm
row_left rows row pwm h = omega (arith, mul-le-mul {n₁ = 1} {m₁ = pwm} {n₂ = rows - row} {m₂ = pwm} (omega arith) (omega arith))
