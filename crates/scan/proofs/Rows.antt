-- Lists made byte by byte and row by row, as a loop stores them.
use Rattle.std.proofs.Common.{◌≡◌, ℕ, zero, suc, ◌+◌, ◌-◌, ◌*◌, ◌<◌, ◌≤◌, List, [], ◌∷◌, ◌++◌, length, get_or, take, drop, replicate, sym, refl, ap, ◌∙◌, ⊎_elim, append_assoc, append-nil, le_of_suc-le-suc, not-suc-le-zero, eq-or-lt_of_le, add-one, arith, length-append, length-drop, drop_of_length-le, length-take-le, take_all, drop-drop, take_at, drop_at}
use Rattle.std.proofs.lemmas.List.{ext_get_or, replicate-append-replicate}
use lib.ListN.{get_or-append}
use lib.Seq.{get_or_at, take-append-le, drop-append-le}
use Rattle.scan.specs.Image.{up_to, rows_up_to}

-- bytes one after another
module _ (f : ℕ → ℕ) where
  pub length_up_to : (n : ℕ) → length (up_to f n) ≡ n
  unfolding up_to
  length_up_to zero = refl
  length_up_to (suc n) = simp (length-append, length_up_to n, add-one)

  pub get_d_up_to : (n i : ℕ) → i < n → get_or (up_to f n) i 0 ≡ f i
  unfolding up_to
  get_d_up_to zero i l = absurd (not-suc-le-zero l)
  get_d_up_to (suc n) i l =
      ⊎_elim
      (λ e. get_or_at (up_to f n) (f n) [] 0 i (length_up_to n ∙ sym e) ∙ ap f (sym e))
      (λ k. get_or-append (up_to f n) (f n ∷ []) 0 i (omega (arith, length_up_to n)) ∙ get_d_up_to n i k)
      (eq-or-lt_of_le (le_of_suc-le-suc l))

  -- a list that holds f k at each place k
  pub up_to_filled : (n : ℕ) (xs : List ℕ) → length xs ≡ n → ((k : ℕ) → k < n → get_or xs k 0 ≡ f k) → xs ≡ up_to f n
  up_to_filled n xs e h =
      ext_get_or 0 xs (up_to f n) (e ∙ sym (length_up_to n)) (λ k l. let below : k < n = omega (arith, e) in h k below ∙ sym (get_d_up_to n k below))

-- n times the same byte
pub up_to_same : (v n : ℕ) → up_to (λ _. v) n ≡ replicate n v
unfolding up_to
up_to_same v zero = refl
up_to_same v (suc n) = ap (λ (l : List ℕ). l ++ (v ∷ [])) (up_to_same v n) ∙ replicate-append-replicate n 1 v ∙ rw add-one

-- a part of a list, as `&l[a..a + k]` has it
pub length_part : (l : List ℕ) (a k : ℕ) → a + k ≤ length l → length (take (a + k - a) (drop a l)) ≡ k
length_part l a k h = length-take-le (a + k - a) (drop a l) (rw length-drop (omega arith)) ∙ omega arith

-- rows of 96 bytes one after another
module _ (f : ℕ → List ℕ) (row_length : (y : ℕ) → length (f y) ≡ 96) where
  pub length_rows : (n : ℕ) → length (rows_up_to f n) ≡ n * 96
  unfolding rows_up_to
  length_rows zero = refl
  length_rows (suc n) = length-append (rows_up_to f n) (f n) ∙ omega (arith, length_rows n, row_length n)

  -- the row y
  pub row_of_rows : (n y : ℕ) → y < n → take 96 (drop (y * 96) (rows_up_to f n)) ≡ f y
  unfolding rows_up_to
  row_of_rows zero y l = absurd (not-suc-le-zero l)
  row_of_rows (suc n) y l = ⊎_elim last (λ k. before k ∙ row_of_rows n y k) (eq-or-lt_of_le (le_of_suc-le-suc l))
    where
      last : y ≡ n → take 96 (drop (y * 96) (rows_up_to f n ++ f n)) ≡ f y
      last e = rw (e, drop_at (rows_up_to f n) (f n) (n * 96) (length_rows n)) (take_all 96 (f n) (omega (arith, row_length n)))

      before : y < n → take 96 (drop (y * 96) (rows_up_to f n ++ f n)) ≡ take 96 (drop (y * 96) (rows_up_to f n))
      before k =
          ap (take 96) (drop-append-le (y * 96) (rows_up_to f n) (f n) (omega (arith, length_rows n)))
          ∙ take-append-le 96 (drop (y * 96) (rows_up_to f n)) (f n) (rw length-drop (omega (arith, length_rows n)))

  -- a loop that stores f n as the part of 96 bytes from n × 96, from the front: one row more, the length, and all
  pub rows_more : (n : ℕ) (d : List ℕ) {whole part : List ℕ}
      → whole ≡ rows_up_to f n ++ drop (n * 96) d
      → part ≡ f n
      → take (n * 96) whole ++ (part ++ drop (n * 96 + 96 - n * 96) (drop (n * 96) whole)) ≡ rows_up_to f (n + 1) ++ drop ((n + 1) * 96) d
  unfolding rows_up_to
  rows_more n d ew ep =
      let width : n * 96 + 96 - n * 96 ≡ 96 = omega arith in
      let next : n * 96 + 96 ≡ suc n * 96 = omega arith in
      rw (width, ew, ep, add-one n, take_at (rows_up_to f n) (drop (n * 96) d) (n * 96) (length_rows n), drop_at (rows_up_to f n) (drop (n * 96) d) (n * 96) (length_rows n), drop-drop 96 (n * 96) d, next)
      (sym (append_assoc (rows_up_to f n) (f n) (drop (suc n * 96) d)))

  pub rows_all : {n m : ℕ} (d : List ℕ) → n ≡ m → length d ≡ m * 96 → rows_up_to f n ++ drop (n * 96) d ≡ rows_up_to f m
  rows_all {n} d e h = rw (drop_of_length-le d {i = n * 96} (omega arith), append-nil, e)

-- a page of 256 bytes is whole
pub length_page : (l : List ℕ) (page : ℕ) → page * 256 + 256 ≤ length l → length (take 256 (drop (page * 256) l)) ≡ 256
length_page l page h = length-take-le 256 (drop (page * 256) l) (rw length-drop (omega arith))
