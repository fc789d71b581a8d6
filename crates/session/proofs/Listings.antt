-- Lines of the listing put field by field, and active segments counted by words.
use Prim.Native.Nat.{ℕ, zero, suc, ◌+◌, ◌/◌, ◌%◌, ◌^◌, ◌≤◌, ◌<◌}
use mathlib.Core.Bool.{cond}
use mathlib.Core.List.{List, [], ◌∷◌, ◌++◌}
use mathlib.Core.Path.{◌≡◌, refl, sym, ◌∙◌, ap, ap₂}
use native.Mathlib.Nat.{mod-lt, mod-eq_of_lt, zero-lt-suc, mod-one, add-suc}
use native.Mathlib.Omega.{arith}
use lib.Count.{ones, ones_cat}
use lib.Dec.{eqb}
use lib.ListN.{get_or}
use lib.Pow.{mod-pow-add, pow_pos}
use Rattle.decimal.specs.Print.{decimal, put_byte, put}
use Rattle.decimal.proofs.Printing.{put_append, put_one}
use Rattle.scan.specs.Drive.{active_in}
use Rattle.std.specs.Prelude.{Some, None}
use Rattle.session.specs.Listing.{field_text, active_below, lit_of}

module _ (p : List ℕ × ℕ) where
  pub dash_put : (end : ℕ) → put_byte (put_byte p 45) end ≡ put p (field_text None end)
  unfolding put
  dash_put end = refl

  pub number_put : (n end : ℕ) → put_byte (put p (decimal n)) end ≡ put p (field_text (Some n) end)
  number_put n end = sym (put_one (put p (decimal n)) end) ∙ sym (put_append p (decimal n) (end ∷ []))

  pub put_four : (a b c d : List ℕ) → put (put (put (put p a) b) c) d ≡ put p (a ++ (b ++ (c ++ d)))
  put_four a b c d = simp put_append

  pub put_six : (a b c d e f : List ℕ) → put (put (put (put (put (put p a) b) c) d) e) f ≡ put p (a ++ (b ++ (c ++ (d ++ (e ++ f)))))
  put_six a b c d e f = simp put_append

-- the set bits of a word below a place
bits_below : ℕ → ℕ → ℕ
bits_below w zero = 0
bits_below w (suc k) = bits_below w k + cond (eqb (w / 2 ^ k % 2) 1) 1 0

bit_ones : (b : ℕ) → b < 2 → cond {A = ℕ} (eqb b 1) 1 0 ≡ ones b
unfolding ones
bit_ones zero h = refl
bit_ones (suc zero) h = refl
bit_ones (suc (suc b)) h = absurd (omega arith)

bits_ones : (w k : ℕ) → bits_below w k ≡ ones (w % 2 ^ k)
unfolding bits_below ones
bits_ones w zero = ap ones (sym (mod-one w))
bits_ones w (suc k) =
    ap₂ (λ (a b : ℕ). a + b) (bits_ones w k) (bit_ones (w / 2 ^ k % 2) (mod-lt (w / 2 ^ k) (zero-lt-suc 1)))
    ∙ swapped (ones (w % 2 ^ k)) (ones (w / 2 ^ k % 2))
    ∙ sym (ones_cat k (w / 2 ^ k % 2) (w % 2 ^ k) (mod-lt w (pow_pos k)))
    ∙ ap ones (sym (mod-pow-add w 1 k) ∙ ap (λ (n : ℕ). w % 2 ^ n) (one_more_lem k))
  where
    swapped : (a b : ℕ) → a + b ≡ b + a
    swapped a b = omega arith

    one_more_lem : (k : ℕ) → 1 + k ≡ suc k
    one_more_lem k = omega arith

-- segments 0 to 63 are the bits of the first word, 64 to 127 those of the second
module _ (words : List ℕ) where
  first_word : (n : ℕ) → n ≤ 64 → active_below words n ≡ bits_below (get_or words 0 0) n
  unfolding active_below bits_below active_in
  first_word zero h = refl
  first_word (suc n) h =
      let place : n / 64 ≡ 0 = omega arith in
      let bit : n % 64 ≡ n = omega arith in
      rw (place, bit, first_word n (omega arith))

  second_word : (k : ℕ) → k ≤ 64 → active_below words (64 + k) ≡ bits_below (get_or words 0 0) 64 + bits_below (get_or words 1 0) k
  unfolding active_below bits_below active_in
  second_word zero h = first_word 64 (omega arith) ∙ none_more (bits_below (get_or words 0 0) 64)
    where
      none_more : (a : ℕ) → a ≡ a + 0
      none_more a = omega arith
  second_word (suc k) h =
      let place : (64 + k) / 64 ≡ 1 = omega arith in
      let bit : (64 + k) % 64 ≡ k = omega arith in
      rw (add-suc 64 k, place, bit, second_word k (omega arith)) (regroup (bits_below (get_or words 0 0) 64) (bits_below (get_or words 1 0) k) (cond (eqb (get_or words 1 0 / 2 ^ k % 2) 1) 1 0))
    where
      regroup : (a b c : ℕ) → (a + b) + c ≡ a + (b + c)
      regroup a b c = omega arith

  by_words : lit_of words ≡ bits_below (get_or words 0 0) 64 + bits_below (get_or words 1 0) 64
  unfolding lit_of
  by_words = second_word 64 (omega arith)

pub lit_pair : (words : List ℕ) → lit_of words ≡ lit_of (get_or words 0 0 ∷ get_or words 1 0 ∷ [])
lit_pair words = by_words words ∙ sym (by_words (get_or words 0 0 ∷ get_or words 1 0 ∷ []))

pub lit_ones : (low high : ℕ) → low < 2 ^ 64 → high < 2 ^ 64 → ones low + ones high ≡ lit_of (low ∷ high ∷ [])
lit_ones low high f g =
    sym (by_words (low ∷ high ∷ [])
    ∙ ap₂ (λ (a b : ℕ). a + b) (bits_ones low 64 ∙ ap ones (mod-eq_of_lt f)) (bits_ones high 64 ∙ ap ones (mod-eq_of_lt g)))
