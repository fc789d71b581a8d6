-- A printed number reads back as the same number.
use Prim.Native.Nat.{ℕ, zero, suc, ◌+◌, ◌-◌, ◌*◌, ◌/◌, ◌%◌, ◌^◌, ◌≤◌, ◌<◌}
use mathlib.Core.Bool.{Bool, true, false, cond}
use mathlib.Core.List.{List, [], ◌∷◌, ◌++◌, append_assoc}
use mathlib.Core.Path.{◌≡◌, refl, sym, ◌∙◌, ap}
use native.Mathlib.Nat.{add-zero, pow-suc, div-lt_iff_lt-mul, zero-lt-suc}
use native.Mathlib.Omega.{arith}
use lib.Dec.{ltb, eqb}
use lib.ListN.{length, get_or, drop, length-append, get_or-append}
use lib.Seq.{drop-append_seam, get_or-append-add}
use borrow.Author.Tests.{lt-ltb, le-leb, ne_eqb, ltb-true, ltb-false}
use Rattle.decimal.proofs.Laws.{found}
use Rattle.std.specs.Prelude.{Some}
use Rattle.decimal.specs.Decimal.{is_digit, digits, spelt, well_formed, number_at}
use Rattle.decimal.specs.Print.{digits_up_to, decimal}

-- a digit before others
module _ (d : ℕ) (h : d < 10) (rest : List ℕ) where
  is_digit_lem : is_digit (48 + d) ≡ true
  is_digit_lem = rw (le-leb 48 (48 + d) (omega arith), le-leb (48 + d) 57 (omega arith))

  digit_counts : digits ((48 + d) ∷ rest) ≡ 1 + digits rest
  unfolding digits
  digit_counts = rw is_digit_lem

  digit_spells : (n : ℕ) → spelt ((48 + d) ∷ rest) n ≡ spelt rest (n * 10 + d)
  unfolding spelt
  digit_spells n =
      let e : 48 + d - 48 ≡ d = omega arith in
      rw (is_digit_lem, e)

  first_spells : spelt ((48 + d) ∷ rest) 0 ≡ spelt rest d
  first_spells =
      let e : 0 * 10 + d ≡ d = omega arith in
      digit_spells 0 ∙ ap (spelt rest) e

-- how many they are and what they spell, of a number of up to k + 1 digits
record Reads (k n : ℕ) (rest : List ℕ) : Type 0 where
  counts : digits (digits_up_to k n ++ rest) ≡ length (digits_up_to k n) + digits rest
  spells : spelt (digits_up_to k n ++ rest) 0 ≡ spelt rest n

reads : (k n : ℕ) (rest : List ℕ) → n < 10 ^ suc k → Reads k n rest
unfolding digits_up_to
reads zero n rest h =
    let small : n % 10 ≡ n = omega arith in
    record {
      counts = rw small (digit_counts n (omega arith) rest);
      spells = rw small (first_spells n (omega arith) rest);
    }
reads (suc k) n rest h =
    let r = go (ltb n 10) refl (reads k (n / 10) ((48 + n % 10) ∷ rest) ((div-lt_iff_lt-mul (zero-lt-suc 9)).1 (rw (← pow-suc 10 (suc k)) h))) in
    record { counts = r.0; spells = r.1 }
  where
    text : Bool → List ℕ
    text t = cond t ((48 + n) ∷ []) (digits_up_to k (n / 10) ++ ((48 + n % 10) ∷ []))

    go :
        (t : Bool) → ltb n 10 ≡ t → Reads k (n / 10) ((48 + n % 10) ∷ rest)
        → (digits (text t ++ rest) ≡ length (text t) + digits rest) × (spelt (text t ++ rest) 0 ≡ spelt rest n)
    go true e r = (digit_counts n (ltb-true n 10 e) rest, first_spells n (ltb-true n 10 e) rest)
    go false e r =
        let last : n % 10 < 10 = omega arith in
        let whole : n / 10 * 10 + n % 10 ≡ n = omega arith in (
          rw (append_assoc, length-append) (r.counts ∙ rw (digit_counts (n % 10) last rest) (omega arith)),
          rw append_assoc (r.spells ∙ digit_spells (n % 10) last rest (n / 10) ∙ ap (spelt rest) whole),
        )

-- the first of them, which is 0 only where it is alone
record First (text : List ℕ) : Type 0 where
  some_digit : 0 < length text
  above : 49 ≤ get_or text 0 0

first_of : (k n : ℕ) → 0 < n → n < 10 ^ suc k → First (digits_up_to k n)
unfolding digits_up_to
first_of zero n p h = record { some_digit = omega arith; above = omega arith }
first_of (suc k) n p h = go (ltb n 10) refl (λ (more : 10 ≤ n). first_of k (n / 10) (omega arith) ((div-lt_iff_lt-mul (zero-lt-suc 9)).1 (rw (← pow-suc 10 (suc k)) h)))
  where
    go : (t : Bool) → ltb n 10 ≡ t → (10 ≤ n → First (digits_up_to k (n / 10))) → First (cond t ((48 + n) ∷ []) (digits_up_to k (n / 10) ++ ((48 + n % 10) ∷ [])))
    go true e f = record { some_digit = omega arith; above = omega arith }
    go false e f =
        let r = f (ltb-false n 10 e) in
        record {
          some_digit = omega (arith, r.some_digit, length-append (digits_up_to k (n / 10)) ((48 + n % 10) ∷ []));
          above = rw (get_or-append (digits_up_to k (n / 10)) ((48 + n % 10) ∷ []) 0 0 r.some_digit) r.above;
        }

well_formed_lem : (n : ℕ) (rest : List ℕ) → n < 2 ^ 64 → well_formed (get_or (decimal n ++ rest) 0 0) (length (decimal n)) ≡ true
unfolding decimal digits_up_to
well_formed_lem zero rest h = refl
well_formed_lem (suc n) rest h =
    let f = first_of 19 (suc n) (omega arith) (omega arith) in
    let first : get_or (digits_up_to 19 (suc n) ++ rest) 0 0 ≡ get_or (digits_up_to 19 (suc n)) 0 0 = get_or-append (digits_up_to 19 (suc n)) rest 0 0 f.some_digit in
    let other : get_or (digits_up_to 19 (suc n)) 0 0 ≡ 48 → ⊥ = λ e. omega (arith, f.above, e) in
    tests _ (get_or (digits_up_to 19 (suc n)) 0 0) (length (digits_up_to 19 (suc n))) first (ne_eqb (get_or (digits_up_to 19 (suc n)) 0 0) 48 other) (lt-ltb 0 (length (digits_up_to 19 (suc n))) f.some_digit)
  where
    tests : (a b c : ℕ) → a ≡ b → eqb b 48 ≡ false → ltb 0 c ≡ true → well_formed a c ≡ true
    tests a b c e f g = rw (e, f, g)

-- where no digit follows, what is spelt is the number
nothing_more : (rest : List ℕ) (n : ℕ) → digits rest ≡ 0 → spelt rest n ≡ n
unfolding digits spelt
nothing_more [] n h = refl
nothing_more (b ∷ rest) n h = go (is_digit b) h
  where
    go : (t : Bool) → cond t (1 + digits rest) 0 ≡ 0 → cond t (spelt rest (n * 10 + (b - 48))) n ≡ n
    go true e = absurd (omega arith)
    go false e = refl

-- a number of 64 bits, printed anywhere in a text and with no digit behind it, is read as itself, and ends where it was printed
pub read_back :
    (front : List ℕ) (n : ℕ) (rest : List ℕ) → n < 2 ^ 64 → digits rest ≡ 0
    → number_at (front ++ (decimal n ++ rest)) (length front) ≡ Some (record { value = n; next = length front + length (decimal n) })
unfolding decimal
read_back front n rest h none =
    let here : drop (length front) (front ++ (decimal n ++ rest)) ≡ decimal n ++ rest = drop-append_seam front (decimal n ++ rest) in
    let first : get_or (decimal n ++ rest) 0 0 ≡ get_or (front ++ (decimal n ++ rest)) (length front) 0 =
    sym (ap (λ (k : ℕ). get_or (front ++ (decimal n ++ rest)) k 0) (sym (add-zero (length front))) ∙ get_or-append-add front (decimal n ++ rest) 0 0) in
    let r = all n rest h in
    sym (found (front ++ (decimal n ++ rest)) (length front) _ (length (decimal n)) n (length front + length (decimal n)) first
    (rw here (sym (r.0 ∙ ap (λ (k : ℕ). length (decimal n) + k) none ∙ add-zero (length (decimal n)))))
    (rw here (sym (r.1 ∙ nothing_more rest n none))) h refl)
    ∙ rw (well_formed_lem n rest h)
  where
    all : (n : ℕ) (rest : List ℕ) → n < 2 ^ 64 → (digits (decimal n ++ rest) ≡ length (decimal n) + digits rest) × (spelt (decimal n ++ rest) 0 ≡ spelt rest n)
    all n rest h = let r = reads 19 n rest (omega arith) in (r.counts, r.spells)
