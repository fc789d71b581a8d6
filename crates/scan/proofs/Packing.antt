-- The planes of a row: eight segments of both by sums of shifted digits, words of them, and the activity picked by them.
use Rattle.std.proofs.Common.{◌≡◌, ℕ, zero, suc, ◌+◌, ◌-◌, ◌*◌, ◌/◌, ◌%◌, ◌^◌, ◌<◌, ◌≤◌, Bool, true, false, cond, eqb, List, get_or, sym, refl, ap, ◌∙◌, lt_of_lt_of_le, add-zero, add_assoc, suc-add, pow-suc, zero-add, arith, pow_mono}
use lib.Arith.{digits_div, digits_mod}
use lib.Bits.{bit_and, bit_xor, and_le_l, and_block, xor_block}
use Rattle.scan.specs.Planes.{AreBits, in_high, in_low, eight_from, planes_from}
use Rattle.scan.specs.Segments.{row_active, mask_of, pick, active_word}
use Rattle.scan.specs.Latch.{bit, word}
use Rattle.scan.specs.Shade.{column_of}
use Rattle.scan.proofs.Latches.{word_lt}

quotient : {x m : ℕ} (n r : ℕ) → x ≡ n * m + r → r < m → x / m ≡ n
quotient {x} {m} n r e l = ap (λ (k : ℕ). k / m) e ∙ digits_div n l

rest : {x m : ℕ} (n r : ℕ) → x ≡ n * m + r → r < m → x % m ≡ r
rest {x} {m} n r e l = ap (λ (k : ℕ). k % m) e ∙ digits_mod n l

-- four digits of base 2^16 shifted together, in their order and against it
module _ (a b c d : ℕ) (la : a ≤ 4369) (lb : b ≤ 4369) (lc : c ≤ 4369) (ld : d ≤ 4369) where
  fold_ahead : (y : ℕ) → y ≡ a + b * 65536 + c * 4294967296 + d * 281474976710656 → (y + y / 32768 + (y + y / 32768) / 1073741824) % 65536 ≡ a + 2 * b + 4 * c + 8 * d
  fold_ahead y e =
      let p : y / 32768 ≡ 2 * b + 131072 * c + 8589934592 * d = quotient (2 * b + 131072 * c + 8589934592 * d) a (e ∙ omega arith) (omega arith) in
      let q : (y + (2 * b + 131072 * c + 8589934592 * d)) / 1073741824 ≡ 4 * c + 262152 * d =
      quotient (4 * c + 262152 * d) (a + 2 * b + (b + 2 * c) * 65536) (omega arith) (omega arith) in
      rw (p, q) (rest (b + 2 * c + 65536 * c + 131076 * d + 4294967296 * d) (a + 2 * b + 4 * c + 8 * d) (omega arith) (omega arith))

  fold_back : (y : ℕ) → y ≡ a + b * 65536 + c * 4294967296 + d * 281474976710656 → ((y * 2 + y / 65536) * 4 + (y * 2 + y / 65536) / 4294967296) % 65536 ≡ 8 * a + 4 * b + 2 * c + d
  fold_back y e =
      let p : y / 65536 ≡ b + 65536 * c + 4294967296 * d = quotient (b + 65536 * c + 4294967296 * d) a (e ∙ omega arith) (omega arith) in
      let q : (y * 2 + (b + 65536 * c + 4294967296 * d)) / 4294967296 ≡ 2 * c + d + 131072 * d =
      quotient (2 * c + d + 131072 * d) (2 * a + b + (2 * b + c) * 65536) (omega arith) (omega arith) in
      rw (p, q) (rest (8 * b + 4 * c + 524288 * c + 262144 * d + 2 * d + 34359738368 * d) (8 * a + 4 * b + 2 * c + d) (omega arith) (omega arith))

-- sixteen bits b: those of the high plane stand at even places, those of the low one at odd ones
module _ (b : ℕ → ℕ) (ok : (k : ℕ) → b k < 2) where
  abbrev digit : ℕ → ℕ
  digit c = b (2 * c) + b (2 * c + 1) * 256 + b (2 * c + 8) * 16 + b (2 * c + 9) * 4096

  -- the same with the halves exchanged
  abbrev digit' : ℕ → ℕ
  digit' c = b (2 * c + 8) + b (2 * c + 9) * 256 + b (2 * c) * 16 + b (2 * c + 1) * 4096

  digit_le : (c : ℕ) → digit c ≤ 4369
  digit_le c = omega (arith, ok (2 * c), ok (2 * c + 1), ok (2 * c + 8), ok (2 * c + 9))

  digit'_le : (c : ℕ) → digit' c ≤ 4369
  digit'_le c = omega (arith, ok (2 * c), ok (2 * c + 1), ok (2 * c + 8), ok (2 * c + 9))

  abbrev eight_at : ℕ → ℕ
  eight_at k = b k + b (k + 1) * 256 + b (k + 2) * 65536 + b (k + 3) * 16777216 + b (k + 4) * 4294967296 + b (k + 5) * 1099511627776 + b (k + 6) * 281474976710656 + b (k + 7) * 72057594037927936

  abbrev plane : ℕ → ℕ
  plane k = b k + 2 * b (k + 2) + 4 * b (k + 4) + 8 * b (k + 6) + 16 * b (k + 8) + 32 * b (k + 10) + 64 * b (k + 12) + 128 * b (k + 14)

  abbrev plane' : ℕ → ℕ
  plane' k = b (k + 14) + 2 * b (k + 12) + 4 * b (k + 10) + 8 * b (k + 8) + 16 * b (k + 6) + 32 * b (k + 4) + 64 * b (k + 2) + 128 * b k

  ahead_is : (y : ℕ) → y ≡ eight_at 0 + eight_at 8 * 16 → (y + y / 32768 + (y + y / 32768) / 1073741824) % 65536 ≡ plane 0 + plane 1 * 256
  ahead_is y e = fold_ahead (digit 0) (digit 1) (digit 2) (digit 3) (digit_le 0) (digit_le 1) (digit_le 2) (digit_le 3) y (e ∙ omega arith) ∙ omega arith

  back_is : (y : ℕ) → y ≡ eight_at 8 + eight_at 0 * 16 → ((y * 2 + y / 65536) * 4 + (y * 2 + y / 65536) / 4294967296) % 65536 ≡ plane' 0 + plane' 1 * 256
  back_is y e = fold_back (digit' 0) (digit' 1) (digit' 2) (digit' 3) (digit'_le 0) (digit'_le 1) (digit'_le 2) (digit'_le 3) y (e ∙ omega arith) ∙ omega arith

bit_is : (b : ℕ) → b < 2 → bit (eqb b 1) ≡ b
bit_is zero h = refl
bit_is (suc zero) h = refl
bit_is (suc (suc b)) h = absurd (omega arith)

-- a word by its parts
pub word_join : (f : ℕ → Bool) (m at n : ℕ) → word f at (m + n) ≡ word f at m + 2 ^ m * word f (at + m) n
unfolding word
word_join f zero at n = rw (zero-add, add-zero) (omega arith)
word_join f (suc m) at n =
    let e : at + 1 + m ≡ at + suc m = omega arith in
    rw (suc-add, word_join f m (at + 1) n, e, pow-suc) (omega arith)

word_8 : (f : ℕ → Bool) (at : ℕ) → word f at 8 ≡ bit (f at) + 2 * bit (f (at + 1)) + 4 * bit (f (at + 2)) + 8 * bit (f (at + 3)) + 16 * bit (f (at + 4)) + 32 * bit (f (at + 5)) + 64 * bit (f (at + 6)) + 128 * bit (f (at + 7))
unfolding word
word_8 f at =
    let e2 : at + 1 + 1 ≡ at + 2 = omega arith in
    let e3 : at + 2 + 1 ≡ at + 3 = omega arith in
    let e4 : at + 3 + 1 ≡ at + 4 = omega arith in
    let e5 : at + 4 + 1 ≡ at + 5 = omega arith in
    let e6 : at + 5 + 1 ≡ at + 6 = omega arith in
    let e7 : at + 6 + 1 ≡ at + 7 = omega arith in
    rw (e2, e3, e4, e5, e6, e7) (omega arith)

-- picking, word by word
pick_bit : (p q r : Bool) → pick (bit p) (bit q) (bit r) ≡ bit (cond p q r)
unfolding pick
pick_bit true true true = refl
pick_bit true true false = refl
pick_bit true false true = refl
pick_bit true false false = refl
pick_bit false true true = refl
pick_bit false true false = refl
pick_bit false false true = refl
pick_bit false false false = refl

bit_lt : (p : Bool) → bit p < 2 ^ 1
bit_lt true = omega arith
bit_lt false = omega arith

xor_bit : (p q : Bool) → bit_xor (bit p) (bit q) < 2 ^ 1
xor_bit true true = omega arith
xor_bit true false = omega arith
xor_bit false true = omega arith
xor_bit false false = omega arith

-- a lowest digit and the others apart
pick_blocks : (a b c : ℕ) (p q r : Bool) → pick (a * 2 ^ 1 + bit p) (b * 2 ^ 1 + bit q) (c * 2 ^ 1 + bit r) ≡ pick a b c * 2 ^ 1 + pick (bit p) (bit q) (bit r)
unfolding pick
pick_blocks a b c p q r =
    (λ i. bit_xor (c * 2 ^ 1 + bit r) (bit_and (a * 2 ^ 1 + bit p) (xor_block 1 b c (bit q) (bit r) (bit_lt q) (bit_lt r) i)))
    ∙ (λ i. bit_xor (c * 2 ^ 1 + bit r) (and_block 1 a (bit_xor b c) (bit p) (bit_xor (bit q) (bit r)) (bit_lt p) (xor_bit q r) i))
    ∙ xor_block 1 c (bit_and a (bit_xor b c)) (bit r) (bit_and (bit p) (bit_xor (bit q) (bit r))) (bit_lt r) (omega (arith, and_le_l (bit p) (bit_xor (bit q) (bit r)), bit_lt p))

pick_step : (a b c : ℕ) (p q r : Bool) → pick (bit p + 2 * a) (bit q + 2 * b) (bit r + 2 * c) ≡ bit (cond p q r) + 2 * pick a b c
pick_step a b c p q r =
    (λ i. pick (turned a p i) (turned b q i) (turned c r i))
    ∙ pick_blocks a b c p q r
    ∙ (λ i. pick a b c * 2 ^ 1 + pick_bit p q r i)
    ∙ omega arith
  where
    turned : (n : ℕ) (t : Bool) → bit t + 2 * n ≡ n * 2 ^ 1 + bit t
    turned n t = omega arith

pick_word : (f g h : ℕ → Bool) (at n : ℕ) → pick (word f at n) (word g at n) (word h at n) ≡ word (λ (k : ℕ). cond (f k) (g k) (h k)) at n
unfolding word pick
pick_word f g h at zero = refl
pick_word f g h at (suc n) =
    pick_step (word f (at + 1) n) (word g (at + 1) n) (word h (at + 1) n) (f at) (g at) (h at)
    ∙ ap (λ (w : ℕ). bit (cond (f at) (g at) (h at)) + 2 * w) (pick_word f g h (at + 1) n)

ones_word : (at n : ℕ) → word (λ (k : ℕ). true) at n + 1 ≡ 2 ^ n
unfolding word
ones_word at zero = refl
ones_word at (suc n) = omega (arith, pow-suc 2 n, ones_word (at + 1) n)

zeros_word : (at n : ℕ) → word (λ (k : ℕ). false) at n ≡ 0
unfolding word
zeros_word at zero = refl
zeros_word at (suc n) = omega (arith, zeros_word (at + 1) n)

mask_word : (t : Bool) (at : ℕ) → mask_of t ≡ word (λ (k : ℕ). t) at 64
mask_word true at = omega (arith, ones_word at 64)
mask_word false at = sym (zeros_word at 64)

chosen : (active : List Bool) (h l : ℕ) → h < 2 → l < 2
    → cond (eqb h 1) (cond (eqb l 1) (get_or active 3 false) (get_or active 2 false)) (cond (eqb l 1) (get_or active 1 false) (get_or active 0 false)) ≡ get_or active (2 * h + l) false
chosen active zero zero p q = refl
chosen active zero (suc zero) p q = refl
chosen active (suc zero) zero p q = refl
chosen active (suc zero) (suc zero) p q = refl
chosen active zero (suc (suc l)) p q = absurd (omega arith)
chosen active (suc zero) (suc (suc l)) p q = absurd (omega arith)
chosen active (suc (suc h)) l p q = absurd (omega arith)

-- room for eight segments more, and their place below the others
pub word_room : (f : ℕ → Bool) (at left : ℕ) → 1 ≤ left → word f at (64 - 8 * left) < 2 ^ 56
word_room f at left h = lt_of_lt_of_le (word_lt f at (64 - 8 * left)) (pow_mono {j = 56} (omega arith))

module _ (bits : List ℕ) (reversed : Bool) where
  planes_high : (s : ℕ) → planes_from bits reversed s % 256 ≡ word (in_high bits reversed) s 8
  unfolding planes_from
  planes_high s = omega (arith, word_lt (in_high bits reversed) s 8)

  planes_low : (s : ℕ) → planes_from bits reversed s / 256 ≡ word (in_low bits reversed) s 8
  unfolding planes_from
  planes_low s = omega (arith, word_lt (in_high bits reversed) s 8)

  pub low_lt : {x : ℕ} (s : ℕ) → x ≡ planes_from bits reversed s → x / 256 < 256
  low_lt s e = rw (e, planes_low) (word_lt (in_low bits reversed) s 8)

  more : (f : ℕ → Bool) (at at' n n' : ℕ) → at' + 8 ≡ at → n' ≡ 8 + n → word f at' 8 + 256 * word f at n ≡ word f at' n'
  more f at at' n n' e d = rw (sym e, d) (sym (word_join f 8 at' n))

  pub high_more : {x w : ℕ} (at n at' n' : ℕ) → x ≡ planes_from bits reversed at' → w ≡ word (in_high bits reversed) at n → at' + 8 ≡ at → n' ≡ 8 + n → x % 256 + 256 * w ≡ word (in_high bits reversed) at' n'
  high_more at n at' n' p q e d = rw (p, q, planes_high) (more (in_high bits reversed) at at' n n' e d)

  pub low_more : {x w : ℕ} (at n at' n' : ℕ) → x ≡ planes_from bits reversed at' → w ≡ word (in_low bits reversed) at n → at' + 8 ≡ at → n' ≡ 8 + n → x / 256 + 256 * w ≡ word (in_low bits reversed) at' n'
  low_more at n at' n' p q e d = rw (p, q, planes_low) (more (in_low bits reversed) at at' n n' e d)

module _ (bits : List ℕ) (ok : AreBits bits) where
  -- the activity of 64 segments, from their planes
  pub active_word_lem : (reversed : Bool) (active : List Bool) (at : ℕ) → active_word (word (in_high bits reversed) at 64) (word (in_low bits reversed) at 64) active ≡ word (row_active active bits reversed) at 64
  active_word_lem reversed active at =
      (λ i. pick (word (in_high bits reversed) at 64) (pick (word (in_low bits reversed) at 64) (mask_word (get_or active 3 false) at i) (mask_word (get_or active 2 false) at i)) (pick (word (in_low bits reversed) at 64) (mask_word (get_or active 1 false) at i) (mask_word (get_or active 0 false) at i)))
      ∙ (λ i. pick (word (in_high bits reversed) at 64) (by_low 3 2 i) (by_low 1 0 i))
      ∙ pick_word (in_high bits reversed) _ _ at 64
      ∙ (λ i. word (λ (k : ℕ). chosen active (get_or bits (2 * column_of reversed k) 0) (get_or bits (2 * column_of reversed k + 1) 0) (ok _) (ok _) i) at 64)
    where
      by_low : (m n : ℕ) → pick (word (in_low bits reversed) at 64) (word (λ (k : ℕ). get_or active m false) at 64) (word (λ (k : ℕ). get_or active n false) at 64) ≡ word (λ (k : ℕ). cond (in_low bits reversed k) (get_or active m false) (get_or active n false)) at 64
      by_low m n = pick_word (in_low bits reversed) _ _ at 64

  high_is : (reversed : Bool) (segment place : ℕ) → 2 * column_of reversed segment ≡ place → bit (in_high bits reversed segment) ≡ get_or bits place 0
  high_is reversed segment place e = bit_is _ (ok _) ∙ ap (λ (k : ℕ). get_or bits k 0) e

  low_is : (reversed : Bool) (segment place : ℕ) → 2 * column_of reversed segment + 1 ≡ place → bit (in_low bits reversed segment) ≡ get_or bits place 0
  low_is reversed segment place e = bit_is _ (ok _) ∙ ap (λ (k : ℕ). get_or bits k 0) e

  eights : (at k : ℕ) → eight_from bits (at + k) ≡ eight_at (λ (j : ℕ). get_or bits (at + j) 0) (λ j. ok (at + j)) k
  eights at k = simp add_assoc

  -- eight segments of both planes, as the code packs them
  pub planes_ahead : (s : ℕ) (y : ℕ) → y ≡ eight_from bits (2 * s) + eight_from bits (2 * s + 8) * 16 → (y + y / 32768 + (y + y / 32768) / 1073741824) % 65536 ≡ planes_from bits false s
  unfolding planes_from
  planes_ahead s y e =
      let at : ℕ = 2 * s in
      let b : ℕ → ℕ = λ k. get_or bits (at + k) 0 in
      let high : word (in_high bits false) s 8 ≡ plane b (λ k. ok (at + k)) 0 = word_8 _ s ∙ (λ i. high_is false s (at + 0) (omega arith) i + 2 * high_is false (s + 1) (at + 2) (omega arith) i + 4 * high_is false (s + 2) (at + 4) (omega arith) i + 8 * high_is false (s + 3) (at + 6) (omega arith) i + 16 * high_is false (s + 4) (at + 8) (omega arith) i + 32 * high_is false (s + 5) (at + 10) (omega arith) i + 64 * high_is false (s + 6) (at + 12) (omega arith) i + 128 * high_is false (s + 7) (at + 14) (omega arith) i) in
      let low : word (in_low bits false) s 8 ≡ plane b (λ k. ok (at + k)) 1 = word_8 _ s ∙ (λ i. low_is false s (at + 1) (omega arith) i + 2 * low_is false (s + 1) (at + 3) (omega arith) i + 4 * low_is false (s + 2) (at + 5) (omega arith) i + 8 * low_is false (s + 3) (at + 7) (omega arith) i + 16 * low_is false (s + 4) (at + 9) (omega arith) i + 32 * low_is false (s + 5) (at + 11) (omega arith) i + 64 * low_is false (s + 6) (at + 13) (omega arith) i + 128 * low_is false (s + 7) (at + 15) (omega arith) i) in
      ahead_is b (λ k. ok (at + k)) y (e ∙ (λ i. eight_from bits (sym (add-zero at) i) + eights at 8 i * 16) ∙ (λ i. eights at 0 i + eight_at b (λ k. ok (at + k)) 8 * 16))
      ∙ (λ i. sym high i + sym low i * 256)

  pub planes_back : (s : ℕ) → s + 8 ≤ 128 → (y : ℕ) → y ≡ eight_from bits (240 - 2 * s + 8) + eight_from bits (240 - 2 * s) * 16 → ((y * 2 + y / 65536) * 4 + (y * 2 + y / 65536) / 4294967296) % 65536 ≡ planes_from bits true s
  unfolding planes_from
  planes_back s l y e =
      let at : ℕ = 240 - 2 * s in
      let b : ℕ → ℕ = λ k. get_or bits (at + k) 0 in
      let high : word (in_high bits true) s 8 ≡ plane' b (λ k. ok (at + k)) 0 = word_8 _ s ∙ (λ i. high_is true s (at + 14) (omega arith) i + 2 * high_is true (s + 1) (at + 12) (omega arith) i + 4 * high_is true (s + 2) (at + 10) (omega arith) i + 8 * high_is true (s + 3) (at + 8) (omega arith) i + 16 * high_is true (s + 4) (at + 6) (omega arith) i + 32 * high_is true (s + 5) (at + 4) (omega arith) i + 64 * high_is true (s + 6) (at + 2) (omega arith) i + 128 * high_is true (s + 7) (at + 0) (omega arith) i) in
      let low : word (in_low bits true) s 8 ≡ plane' b (λ k. ok (at + k)) 1 = word_8 _ s ∙ (λ i. low_is true s (at + 15) (omega arith) i + 2 * low_is true (s + 1) (at + 13) (omega arith) i + 4 * low_is true (s + 2) (at + 11) (omega arith) i + 8 * low_is true (s + 3) (at + 9) (omega arith) i + 16 * low_is true (s + 4) (at + 7) (omega arith) i + 32 * low_is true (s + 5) (at + 5) (omega arith) i + 64 * low_is true (s + 6) (at + 3) (omega arith) i + 128 * low_is true (s + 7) (at + 1) (omega arith) i) in
      back_is b (λ k. ok (at + k)) y (e ∙ (λ i. eights at 8 i + eight_from bits (sym (add-zero at) i) * 16) ∙ (λ i. eight_at b (λ k. ok (at + k)) 8 + eights at 0 i * 16))
      ∙ (λ i. sym high i + sym low i * 256)
