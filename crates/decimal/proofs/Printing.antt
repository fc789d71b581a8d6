-- Bytes put one behind another, and the digits of a number one by one.
use Prim.Native.Nat.{ℕ, zero, suc, ◌+◌, ◌/◌, ◌%◌, ◌^◌, ◌≤◌, ◌<◌}
use mathlib.Core.Bool.{Bool, true, false, cond}
use mathlib.Core.List.{List, [], ◌∷◌, ◌++◌, append_assoc, append-nil}
use mathlib.Core.Path.{◌≡◌, refl, sym, ◌∙◌, ap}
use native.Mathlib.Nat.{add-zero, pow-suc, div-lt_iff_lt-mul, mod-eq_of_lt, zero-lt-suc}
use native.Mathlib.Numerals.{add-one}
use native.Mathlib.Omega.{arith}
use lib.Dec.{ltb}
use lib.ListN.{length, get_or, take, drop, set, length-set, length-append, drop_of_length-le}
use lib.Seq.{drop-cons, sets, sets-eq}
use borrow.Author.Tests.{ltb-true, ltb-false, lt-ltb, le-ltb, ne_eqb}
use Rattle.std.specs.Fmt.{digit_glyph, digits_onto}
use Rattle.std.specs.Fmt as fmt
use Rattle.decimal.specs.Print.{digits_up_to, decimal, put_byte, put}

pub put_append : (p : List ℕ × ℕ) (a b : List ℕ) → put p (a ++ b) ≡ put (put p a) b
unfolding put
put_append p [] b = refl
put_append p (x ∷ a) b = put_append (put_byte p x) a b

pub put_one : (p : List ℕ × ℕ) (b : ℕ) → put p (b ∷ []) ≡ put_byte p b
unfolding put
put_one p b = refl

-- the lent bytes stay as many, and no place passes their end
byte_length : (p : List ℕ × ℕ) (b : ℕ) → length (put_byte p b).0 ≡ length p.0
byte_length p b = go (ltb p.1 (length p.0))
  where
    next : Bool → List ℕ × ℕ
    next t = cond t (set p.0 p.1 b, p.1 + 1) p

    go : (t : Bool) → length (next t).0 ≡ length p.0
    go true = length-set p.0 p.1 b
    go false = refl

pub put_length : (p : List ℕ × ℕ) (bytes : List ℕ) → length (put p bytes).0 ≡ length p.0
unfolding put
put_length p [] = refl
put_length p (b ∷ bytes) = put_length (put_byte p b) bytes ∙ byte_length p b

byte_within : (p : List ℕ × ℕ) (b : ℕ) → p.1 ≤ length p.0 → (put_byte p b).1 ≤ length p.0
byte_within p b h = go (ltb p.1 (length p.0)) refl
  where
    next : Bool → List ℕ × ℕ
    next t = cond t (set p.0 p.1 b, p.1 + 1) p

    go : (t : Bool) → ltb p.1 (length p.0) ≡ t → (next t).1 ≤ length p.0
    go true k = omega (arith, ltb-true p.1 (length p.0) k)
    go false k = h

pub put_within : (p : List ℕ × ℕ) (bytes : List ℕ) → p.1 ≤ length p.0 → (put p bytes).1 ≤ length p.0
unfolding put
put_within p [] h = h
put_within p (b ∷ bytes) h = rw (← byte_length p b) (put_within (put_byte p b) bytes (rw (byte_length p b) (byte_within p b h)))

-- where they fit, they stand from the place on, and nothing else changes
put_sets : (bytes out : List ℕ) (at : ℕ) → at + length bytes ≤ length out → put (out, at) bytes ≡ (sets out at bytes, at + length bytes)
unfolding put
put_sets [] out at h = let e = sym (add-zero at) in λ i. (out, e i)
put_sets (b ∷ bytes) out at h =
    let e : at + 1 + length bytes ≡ at + length (b ∷ bytes) = omega arith in
    rw (lt-ltb at (length out) (omega arith))
    (put_sets bytes (set out at b) (at + 1) (rw length-set (omega arith)) ∙ (λ i. (sets (set out at b) (add-one at i) bytes, e i)))

pub put_whole :
    (bytes out : List ℕ) (at : ℕ) → at + length bytes ≤ length out
    → put (out, at) bytes ≡ (take at out ++ bytes ++ drop (at + length bytes) out, at + length bytes)
put_whole bytes out at h = put_sets bytes out at h ∙ (λ i. (sets-eq bytes out at h i, at + length bytes))

-- the bytes from i on
module _ (p : List ℕ × ℕ) (bytes : List ℕ) (i : ℕ) where
  pub put_next : i < length bytes → put p (drop i bytes) ≡ put (put_byte p (get_or bytes i 0)) (drop (i + 1) bytes)
  unfolding put
  put_next h = rw (add-one i, drop-cons bytes i 0 h)

  pub put_done : length bytes ≤ i → put p (drop i bytes) ≡ p
  unfolding put
  put_done h = rw (drop_of_length-le bytes h)

-- more digits than a number has change nothing
enough : (k n : ℕ) → n < 10 ^ suc k → digits_up_to k n ≡ digits_up_to (suc k) n
unfolding digits_up_to
enough zero n h = rw (lt-ltb n 10 (omega arith), mod-eq_of_lt {n = n} {m = 10} (omega arith))
enough (suc k) n h = go (ltb n 10) (enough k (n / 10) ((div-lt_iff_lt-mul (zero-lt-suc 9)).1 (rw (← pow-suc 10 (suc k)) h)))
  where
    go :
        (t : Bool) → digits_up_to k (n / 10) ≡ digits_up_to (suc k) (n / 10)
        → cond t ((48 + n) ∷ []) (digits_up_to k (n / 10) ++ ((48 + n % 10) ∷ [])) ≡ cond t ((48 + n) ∷ []) (digits_up_to (suc k) (n / 10) ++ ((48 + n % 10) ∷ []))
    go true e = refl
    go false e = ap (λ (l : List ℕ). l ++ ((48 + n % 10) ∷ [])) e

pub decimal_small : (n : ℕ) → n < 10 → decimal n ≡ (48 + n) ∷ []
unfolding decimal digits_up_to
decimal_small n h = rw (lt-ltb n 10 h)

-- the digits before the last, and the last
split : (k n : ℕ) → 10 ≤ n → digits_up_to (suc k) n ≡ digits_up_to k (n / 10) ++ ((48 + n % 10) ∷ [])
unfolding digits_up_to
split k n h = rw (le-ltb n 10 h)

pub decimal_more : (n : ℕ) → 10 ≤ n → n < 2 ^ 64 → decimal n ≡ decimal (n / 10) ++ ((48 + n % 10) ∷ [])
unfolding decimal
decimal_more n h fits = split 18 n h ∙ ap (λ (l : List ℕ). l ++ ((48 + n % 10) ∷ [])) (enough 18 (n / 10) (omega arith))

-- a number put digit by digit
module _ (p : List ℕ × ℕ) (n : ℕ) where
  pub put_small : n < 10 → put_byte p (48 + n) ≡ put p (decimal n)
  put_small h = sym (put_one p (48 + n)) ∙ ap (put p) (sym (decimal_small n h))

  pub put_more : 10 ≤ n → n < 2 ^ 64 → put_byte (put p (decimal (n / 10))) (48 + n % 10) ≡ put p (decimal n)
  put_more h fits =
      sym (put_one (put p (decimal (n / 10))) (48 + n % 10))
      ∙ sym (put_append p (decimal (n / 10)) ((48 + n % 10) ∷ []))
      ∙ ap (put p) (sym (decimal_more n h fits))

-- the digits that the library prints are these
module _ where
  glyph : (d : ℕ) → d < 10 → digit_glyph false d ≡ 48 + d
  glyph d h = rw (lt-ltb d 10 h)

  onto_lem : (k m n : ℕ) (acc : List ℕ) → n < 10 ^ suc k → suc k ≤ m → digits_onto m 10 false n acc ≡ digits_up_to k n ++ acc
  unfolding digits_up_to
  onto_lem k zero n acc h enough = absurd (omega arith)
  onto_lem zero (suc m) n acc h enough =
      let none : n / 10 ≡ 0 = omega arith in
      rw (none, glyph (n % 10) (omega arith))
  onto_lem (suc k) (suc m) n acc h enough =
      go (ltb n 10) refl (onto_lem k m (n / 10) ((48 + n % 10) ∷ acc) ((div-lt_iff_lt-mul (zero-lt-suc 9)).1 (rw (← pow-suc 10 (suc k)) h)) (omega arith))
    where
      go :
          (t : Bool) → ltb n 10 ≡ t → digits_onto m 10 false (n / 10) ((48 + n % 10) ∷ acc) ≡ digits_up_to k (n / 10) ++ ((48 + n % 10) ∷ acc)
          → digits_onto (suc m) 10 false n acc ≡ cond t ((48 + n) ∷ []) (digits_up_to k (n / 10) ++ ((48 + n % 10) ∷ [])) ++ acc
      go true e on =
          let small : n < 10 = ltb-true n 10 e in
          let none : n / 10 ≡ 0 = omega arith in
          let same : n % 10 ≡ n = omega arith in
          rw (none, same, glyph n small)
      go false e on =
          let large : 10 ≤ n = ltb-false n 10 e in
          rw (ne_eqb (n / 10) 0 (λ h. omega (arith, h, large)), glyph (n % 10) (omega arith)) (on ∙ sym (append_assoc (digits_up_to k (n / 10)) ((48 + n % 10) ∷ []) acc))

pub printed : (n : ℕ) → n < 2 ^ 64 → fmt.decimal n ≡ decimal n
unfolding decimal fmt.digits
printed n fits = onto_lem 19 64 n [] (omega arith) (omega arith) ∙ append-nil (digits_up_to 19 n)

-- a number has no more digits than that
digits_few : (k n : ℕ) → length (digits_up_to k n) ≤ suc k
unfolding digits_up_to
digits_few zero n = omega arith
digits_few (suc k) n = go (ltb n 10) (digits_few k (n / 10))
  where
    go : (t : Bool) → length (digits_up_to k (n / 10)) ≤ suc k → length (cond t ((48 + n) ∷ []) (digits_up_to k (n / 10) ++ ((48 + n % 10) ∷ []))) ≤ suc (suc k)
    go true h = omega arith
    go false h = omega (arith, length-append (digits_up_to k (n / 10)) ((48 + n % 10) ∷ []))

pub decimal_few : (n : ℕ) → length (decimal n) ≤ 20
unfolding decimal
decimal_few n = digits_few 19 n

-- one below 1000 has three at the most
pub decimal_three : (n : ℕ) → n < 1000 → length (decimal n) ≤ 3
decimal_three n h = go (ltb n 10) refl
  where
    tens : (m : ℕ) → m < 100 → length (decimal m) ≤ 2
    tens m k = part (ltb m 10) refl
      where
        part : (t : Bool) → ltb m 10 ≡ t → length (decimal m) ≤ 2
        part true e = rw (decimal_small m (ltb-true m 10 e)) (omega arith)
        part false e =
            let high : m / 10 < 10 = omega arith in
            rw (decimal_more m (ltb-false m 10 e) (omega arith), decimal_small (m / 10) high) (omega arith)

    go : (t : Bool) → ltb n 10 ≡ t → length (decimal n) ≤ 3
    go true e = rw (decimal_small n (ltb-true n 10 e)) (omega arith)
    go false e =
        let high : n / 10 < 100 = omega arith in
        rw (decimal_more n (ltb-false n 10 e) (omega arith), length-append (decimal (n / 10)) ((48 + n % 10) ∷ [])) (omega (arith, tens (n / 10) high))
