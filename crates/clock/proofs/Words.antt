-- Two-word numbers: a product and a quotient by halves of 32 bits, a difference and a sum, and bounds of the parts.
use Prim.Native.Nat.{ℕ, ◌+◌, ◌-◌, ◌*◌, ◌/◌, ◌%◌, ◌^◌, ◌<◌, ◌≤◌}
use mathlib.Core.Bool.{◌&&◌}
use mathlib.Core.Path.{◌≡◌, sym, ◌∙◌, ap}
use native.Mathlib.Omega.{arith}
use native.Mathlib.Nat.{div-add-mod', mod-lt, mul-le-mul, mul-add-div_right, mul-add-mod_self_right, div-lt_iff_lt-mul}
use lib.Arith.{digits_div, digits_mod}
use lib.Dec.{eqb}
use borrow.Author.Tests.{eq-eqb, eqb-true}
use Rattle.std.proofs.lemmas.Bool.{and_parts}
use Rattle.checks.proofs.Tests.{same}
use Rattle.clock.specs.Wide.{wide_of, quotient_of}

-- a number's words, from its words
pub words : (h : ℕ) {l n : ℕ} → l < 2 ^ 64 → n ≡ h * 2 ^ 64 + l → record { high = h; low = l } ≡ wide_of n
words h {l} {n} b e = λ i. record {
  high = (sym (ap (λ (k : ℕ). k / 2 ^ 64) e ∙ digits_div h b)) i;
  low = (sym (ap (λ (k : ℕ). k % 2 ^ 64) e ∙ digits_mod h b)) i;
}

-- a product of two halves
pub half_product : {a m : ℕ} → a < 2 ^ 32 → m < 2 ^ 32 → a * m ≤ (2 ^ 32 - 1) * (2 ^ 32 - 1)
half_product {a} {m} h k = mul-le-mul {n₁ = a} {m₁ = m} {n₂ = 2 ^ 32 - 1} {m₂ = 2 ^ 32 - 1} (omega arith) (omega arith)

module _ (h l m c : ℕ) where
  -- the low and the middle column of (h · 2^64 + l) · m + c
  abbrev low_column : ℕ
  low_column = l % 2 ^ 32 * m + c

  abbrev middle_column : ℕ
  middle_column = l / 2 ^ 32 * m + low_column / 2 ^ 32

  pub columns : (h * 2 ^ 64 + l) * m + c ≡ (h * m + middle_column / 2 ^ 32) * 2 ^ 64 + (middle_column % 2 ^ 32 * 2 ^ 32 + low_column % 2 ^ 32)
  columns = omega (arith, ap (λ (k : ℕ). k * m) (div-add-mod' l (2 ^ 32)))

  module _ (mb : m < 2 ^ 32) (cb : c < 2 ^ 32) where
    pub low_column_le : low_column ≤ (2 ^ 32 - 1) * 2 ^ 32
    low_column_le = omega (arith, half_product {a = l % 2 ^ 32} (omega arith) mb)

    pub middle_column_le : l < 2 ^ 64 → middle_column ≤ (2 ^ 32 - 1) * 2 ^ 32
    middle_column_le b = omega (arith, half_product {a = l / 2 ^ 32} (omega arith) mb, low_column_le)

-- a product against q · 2^64, by its columns
pub by_columns : (l m c q : ℕ) → eqb (middle_column 0 l m c) (q * 2 ^ 32) && eqb (low_column 0 l m c % 2 ^ 32) 0 ≡ eqb (l * m + c) (q * 2 ^ 64)
by_columns l m c q =
    let e : l * m + c ≡ middle_column 0 l m c * 2 ^ 32 + low_column 0 l m c % 2 ^ 32 = omega (arith, columns 0 l m c) in
    same _ _
    (λ h. let z = and_parts (eqb (middle_column 0 l m c) (q * 2 ^ 32)) _ h in eq-eqb (l * m + c) (q * 2 ^ 64) (omega (arith, eqb-true (middle_column 0 l m c) (q * 2 ^ 32) z.0, eqb-true (low_column 0 l m c % 2 ^ 32) 0 z.1)))
    (λ h. let z = eqb-true (l * m + c) (q * 2 ^ 64) h in simp (eq-eqb (middle_column 0 l m c) (q * 2 ^ 32) (omega arith), eq-eqb (low_column 0 l m c % 2 ^ 32) 0 (omega arith)))

-- one digit of a long division
module _ (x y d b : ℕ) (pos : 0 < d) where
  at_digit : x * b + y ≡ x / d * b * d + (x % d * b + y)
  at_digit = omega (arith, ap (λ (k : ℕ). k * b) (div-add-mod' x d))

  pub digit_div : (x * b + y) / d ≡ x / d * b + (x % d * b + y) / d
  digit_div = ap (λ (k : ℕ). k / d) at_digit ∙ mul-add-div_right pos (x / d * b) (x % d * b + y)

  pub digit_mod : (x * b + y) % d ≡ (x % d * b + y) % d
  digit_mod = ap (λ (k : ℕ). k % d) at_digit ∙ mul-add-mod_self_right (x / d * b) d (x % d * b + y)

  pub digit_lt : y < b → x % d * b + y < d * b
  digit_lt h = omega (arith, mul-le-mul {n₁ = x % d + 1} {m₁ = b} {n₂ = d} {m₂ = b} (omega (arith, mod-lt x pos)) (omega arith))

  pub digit_fits : y < b → (x % d * b + y) / d < b
  digit_fits h = (div-lt_iff_lt-mul pos).1 (omega (arith, digit_lt h))

-- two digits
pub long_division : (h l d : ℕ) → 0 < d → l < 2 ^ 64 → record {
  quotient = record { high = h / d; low = (h % d * 2 ^ 32 + l / 2 ^ 32) / d * 2 ^ 32 + ((h % d * 2 ^ 32 + l / 2 ^ 32) % d * 2 ^ 32 + l % 2 ^ 32) / d };
  remainder = ((h % d * 2 ^ 32 + l / 2 ^ 32) % d * 2 ^ 32 + l % 2 ^ 32) % d;
} ≡ quotient_of (h * 2 ^ 64 + l) d
long_division h l d pos b = λ i. record { quotient = (words (h / d) low_lt quotients) i; remainder = (sym remainders) i }
  where
    t : ℕ
    t = h % d * 2 ^ 32 + l / 2 ^ 32

    u : ℕ
    u = t % d * 2 ^ 32 + l % 2 ^ 32

    whole : h * 2 ^ 64 + l ≡ (h * 2 ^ 32 + l / 2 ^ 32) * 2 ^ 32 + l % 2 ^ 32
    whole = omega arith

    upper : (h * 2 ^ 32 + l / 2 ^ 32) / d ≡ h / d * 2 ^ 32 + t / d
    upper = digit_div h (l / 2 ^ 32) d (2 ^ 32) pos

    upper_rest : (h * 2 ^ 32 + l / 2 ^ 32) % d ≡ t % d
    upper_rest = digit_mod h (l / 2 ^ 32) d (2 ^ 32) pos

    quotients : (h * 2 ^ 64 + l) / d ≡ h / d * 2 ^ 64 + (t / d * 2 ^ 32 + u / d)
    quotients =
        ap (λ (k : ℕ). k / d) whole
        ∙ digit_div (h * 2 ^ 32 + l / 2 ^ 32) (l % 2 ^ 32) d (2 ^ 32) pos
        ∙ rw (upper, upper_rest) (omega arith)

    remainders : (h * 2 ^ 64 + l) % d ≡ u % d
    remainders =
        ap (λ (k : ℕ). k % d) whole
        ∙ digit_mod (h * 2 ^ 32 + l / 2 ^ 32) (l % 2 ^ 32) d (2 ^ 32) pos
        ∙ rw upper_rest

    low_lt : t / d * 2 ^ 32 + u / d < 2 ^ 64
    low_lt = omega (arith, digit_fits h (l / 2 ^ 32) d (2 ^ 32) pos (omega arith), digit_fits t (l % 2 ^ 32) d (2 ^ 32) pos (omega arith))

-- the words of a difference, with and without a borrow
module _ (ha la hb lb : ℕ) (le : hb * 2 ^ 64 + lb ≤ ha * 2 ^ 64 + la) (a_lt : la < 2 ^ 64) (b_lt : lb < 2 ^ 64) where
  pub high_le : hb ≤ ha
  high_le = omega arith

  pub high_lt : la < lb → 1 ≤ ha - hb
  high_lt h = omega arith

  pub borrowed : la < lb → record { high = ha - hb - 1; low = 18446744073709551615 - lb + la + 1 } ≡ wide_of (ha * 2 ^ 64 + la - (hb * 2 ^ 64 + lb))
  borrowed h = words (ha - hb - 1) (omega arith) (omega arith)

  pub unborrowed : lb ≤ la → record { high = ha - hb; low = la - lb } ≡ wide_of (ha * 2 ^ 64 + la - (hb * 2 ^ 64 + lb))
  unborrowed h = words (ha - hb) (omega arith) (omega arith)

-- the words of a sum, with and without a carry
module _ (ha la hb lb : ℕ) (a_lt : la < 2 ^ 64) (b_lt : lb < 2 ^ 64) where
  pub uncarried : la ≤ 18446744073709551615 - lb → record { high = ha + hb; low = la + lb } ≡ wide_of (ha * 2 ^ 64 + la + (hb * 2 ^ 64 + lb))
  uncarried h = words (ha + hb) (omega arith) (omega arith)

  pub carried : 18446744073709551615 - lb < la → record { high = ha + hb + 1; low = la - (18446744073709551615 - lb) - 1 } ≡ wide_of (ha * 2 ^ 64 + la + (hb * 2 ^ 64 + lb))
  carried h = words (ha + hb + 1) (omega arith) (omega arith)
