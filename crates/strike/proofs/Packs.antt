-- Bits as a list and as a group: packing undoes unpacking and is undone by it.
use Prim.Native.Nat.{ℕ, zero, suc, ◌+◌, ◌*◌, ◌/◌, ◌%◌, ◌^◌, ◌≤◌, ◌<◌}
use mathlib.Core.Bool.{Bool, true, false, cond}
use mathlib.Core.List.{List, [], ◌∷◌}
use mathlib.Core.Path.{◌≡◌, refl, sym, ◌∙◌, ap, ap₂}
use native.Mathlib.Nat.{le_refl, mod-lt, mod-eq_of_lt, mod-one, pow-suc}
use native.Mathlib.Numerals.{add-one}
use native.Mathlib.Omega.{arith}
use lib.Dec.{leb, ltb, eqb}
use lib.ListN.{length}
use lib.Pow.{high, low, mod-pow-add}
use borrow.Author.Tests.{lt-ltb, ltb-true, le-leb, leb-true, eqb-true, eqb-false}
use Rattle.checks.proofs.Tests.{both}
use Rattle.controller.specs.Check.{group_ok}
use Rattle.controller.specs.Bits.{bit_at, unpacked}
use Rattle.controller.proofs.Groups.{unpacked_length, unpacked_low}
use Rattle.strike.specs.Marks.{packed}

-- a bit as a number
abbrev one : Bool → ℕ
one b = cond b 1 0

packed_cons : (b : Bool) (bs : List Bool) → packed (b ∷ bs) ≡ one b * 2 ^ length bs + packed bs
unfolding packed
packed_cons true bs = omega arith
packed_cons false bs = omega arith

packed_lt : (bs : List Bool) → packed bs < 2 ^ length bs
unfolding packed
packed_lt [] = omega arith
packed_lt (true ∷ bs) = let h = packed_lt bs in omega (arith, pow-suc 2 (length bs))
packed_lt (false ∷ bs) = let h = packed_lt bs in omega (arith, pow-suc 2 (length bs))

pub packed_ok : (bs : List Bool) → length bs ≤ 8 → group_ok (packed bs) (length bs) ≡ true
unfolding group_ok
packed_ok bs h = simp (le-leb (length bs) 8 h, lt-ltb (packed bs) (2 ^ length bs) (packed_lt bs))

pub group_few : (bits count : ℕ) → group_ok bits count ≡ true → count ≤ 8
unfolding group_ok
group_few bits count h = leb-true count 8 (both _ (ltb bits (2 ^ count)) h).0

-- the bits of a packed list are the list
one_bit : (b : Bool) → eqb (one b % 2) 1 ≡ b
one_bit true = refl
one_bit false = refl

pub unpacked_packed : (bs : List Bool) → unpacked (length bs) (packed bs) ≡ bs
unfolding unpacked packed
unpacked_packed [] = refl
unpacked_packed (b ∷ bs) =
    ap (λ (v : ℕ). bit_at v (length bs) ∷ unpacked (length bs) v) (packed_cons b bs)
    ∙ ap₂ ◌∷◌
    (ap (λ (v : ℕ). eqb (v % 2) 1) (high (one b) (length bs) (packed_lt bs)) ∙ one_bit b)
    (sym (unpacked_low (length bs) (length bs) (one b * 2 ^ length bs + packed bs) (le_refl (length bs)))
    ∙ ap (unpacked (length bs)) (low (one b) (length bs) (packed_lt bs))
    ∙ unpacked_packed bs)

-- a group of its own bits is the group
bit_one : (n : ℕ) → one (eqb (n % 2) 1) ≡ n % 2
bit_one n = go (eqb (n % 2) 1) refl
  where
    go : (t : Bool) → eqb (n % 2) 1 ≡ t → one t ≡ n % 2
    go true h = sym (eqb-true (n % 2) 1 h)
    go false h = let l = mod-lt n {m = 2} (omega arith) in let d = eqb-false (n % 2) 1 h in go_zero (n % 2) l d
      where
        go_zero : (k : ℕ) → k < 2 → (k ≡ 1 → ⊥) → 0 ≡ k
        go_zero zero l d = refl
        go_zero (suc zero) l d = absurd (d refl)
        go_zero (suc (suc k)) l d = absurd (omega arith)

packed_unpacked : (n bits : ℕ) → packed (unpacked n bits) ≡ bits % 2 ^ n
unfolding unpacked packed
packed_unpacked zero bits = sym (mod-one bits)
packed_unpacked (suc n) bits =
    packed_cons (bit_at bits n) (unpacked n bits)
    ∙ ap₂ (λ (v w : ℕ). v * 2 ^ w + packed (unpacked n bits)) (bit_one (bits / 2 ^ n)) (unpacked_length n bits)
    ∙ ap (λ (v : ℕ). bits / 2 ^ n % 2 * 2 ^ n + v) (packed_unpacked n bits)
    ∙ sym (ap (λ (v : ℕ). bits % 2 ^ v) (sym (add-one n) ∙ omega arith) ∙ mod-pow-add bits 1 n)

pub packed_group : (bits count : ℕ) → group_ok bits count ≡ true → packed (unpacked count bits) ≡ bits
unfolding group_ok
packed_group bits count h = packed_unpacked count bits ∙ mod-eq_of_lt (ltb-true bits (2 ^ count) (both (leb count 8) _ h).1)
