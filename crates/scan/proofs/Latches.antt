-- The latch: what its words hold, what it depends on, and that keeping it or writing elsewhere changes nothing that is shown.
use Rattle.std.proofs.Common.{◌≡◌, ℕ, zero, suc, ◌+◌, ◌-◌, ◌*◌, ◌/◌, ◌%◌, ◌^◌, ◌<◌, ◌≤◌, Bool, true, false, cond, not, ◌&&◌, ◌||◌, eqb, ltb, Option, Some, None, List, [], ◌∷◌, length, get_or, take, drop, set, sym, refl, ap, ◌∙◌, ⊎_elim, add-zero, pow-suc, one-add, arith, length-drop, length-take-le, drop-set-lt, shr-shr, ltb-false, ltb-true, ne_eqb, eqb-true}
use mathlib.Core.Bool.{or-true}
use lib.Seq.{drop-set-add, take-set-le}
use borrow.Author.Tests.{eqb-false}
use Rattle.checks.proofs.Tests.{either}
use Rattle.scan.specs.declared.settings.Settings.{Settings}
use Rattle.scan.specs.declared.state.Scan.{Scan}
use Rattle.scan.specs.Check.{frc_count_ok, valid_scan, check_scan}
use Rattle.scan.specs.Planes.{row_bits, AreBits, planes_in, shown_shade}
use Rattle.scan.specs.Segments.{active_shades, row_active, bits_at, row_words}
use Rattle.scan.specs.Latch.{latched_row, shade_active, segment_active, bit, word, words, present_latch, shown, affects, latch_retained, retained}
use Rattle.scan.specs.Quantum.{quantum}
use Rattle.scan.specs.Shade.{column_of, bit_of, planes, shade_of, page_of, shade_at, pulse_width}
use Rattle.scan.specs.State.{with_latch}
use Rattle.scan.proofs.Checks.{valid_scan_lem}
use Rattle.scan.proofs.Rows.{get_d_up_to}
use Rattle.scan.proofs.Shades.{are_bits}

-- the activity of what two planes show, and so of a row's segments from its bits
active_at : (x : Scan) (s : Settings) (n : ℕ) → n < 4 → get_or (active_shades x s) n false ≡ shade_active x s (shown_shade s n)
active_at x s zero h = refl
active_at x s (suc zero) h = refl
active_at x s (suc (suc zero)) h = refl
active_at x s (suc (suc (suc zero))) h = refl
active_at x s (suc (suc (suc (suc n)))) h = absurd (omega arith)

-- of the 128 segments of a row, whatever the length of its part
column_lt : (reversed : Bool) (k : ℕ) → k < 128 → column_of reversed k < 128
column_lt true k h = omega arith
column_lt false k h = h

bit_read : (part : List ℕ) (place k : ℕ) → k < 256 → get_or (row_bits part place) k 0 ≡ bit_of (get_or part k 0) place
unfolding row_bits
bit_read part place k h = get_d_up_to (λ (i : ℕ). bit_of (get_or part i 0) place) 256 k h

planes_read : (part : List ℕ) (place column : ℕ) → column < 128 → planes_in (row_bits part place) column ≡ planes part place column
planes_read part place column h =
    λ i. 2 * bit_read part place (2 * column) (omega arith) i + bit_read part place (2 * column + 1) (omega arith) i

active_read : (x : Scan) (s : Settings) (part : List ℕ) (place k : ℕ) → k < 128 → row_active (active_shades x s) (row_bits part place) s.segment_reverse k ≡ shade_active x s (shade_of s part place k)
unfolding shade_of
active_read x s part place k h =
    let column = column_of s.segment_reverse k in
    ap (λ (n : ℕ). get_or (active_shades x s) n false) (planes_read part place column (column_lt s.segment_reverse k h)) ∙ active_at x s (planes part place column) (omega arith)

-- segments that agree make the same words
word_same : (f g : ℕ → Bool) (at n : ℕ) → ((k : ℕ) → k < at + n → f k ≡ g k) → word f at n ≡ word g at n
unfolding word
word_same f g at zero h = refl
word_same f g at (suc n) h = λ i. bit (h at (omega arith) i) + 2 * word_same f g (at + 1) n (λ k l. h k (omega arith)) i

words_same : (f g : ℕ → Bool) → ((k : ℕ) → k < 128 → f k ≡ g k) → words f ≡ words g
words_same f g h = λ i. word_same f g 0 64 (λ k l. h k (omega arith)) i ∷ word_same f g 64 64 (λ k l. h k (omega arith)) i ∷ []

bit_le : (on : Bool) → bit on ≤ 1
bit_le true = omega arith
bit_le false = omega arith

pub word_lt : (f : ℕ → Bool) (at n : ℕ) → word f at n < 2 ^ n
unfolding word
word_lt f at zero = omega arith
word_lt f at (suc n) = omega (arith, pow-suc 2 n, word_lt f (at + 1) n, bit_le (f at))

pub word_at : (f : ℕ → Bool) {at at' n n' : ℕ} → at ≡ at' → n ≡ n' → word f at n ≡ word f at' n'
word_at f e d = λ i. word f (e i) (d i)

-- a bit is read back by / and %
word_bit : (f : ℕ → Bool) (at n i : ℕ) → i < n → word f at n / 2 ^ i % 2 ≡ bit (f (at + i))
unfolding word
word_bit f at zero i h = absurd (omega arith)
word_bit f at (suc n) zero h = rw add-zero (omega (arith, bit_le (f at)))
word_bit f at (suc n) (suc i) h =
    ap (λ (p : ℕ). (bit (f at) + 2 * word f (at + 1) n) / 2 ^ p % 2) (sym (one-add i))
    ∙ ap (λ (w : ℕ). w % 2) (sym (shr-shr (bit (f at) + 2 * word f (at + 1) n) 1 i))
    ∙ ap (λ (w : ℕ). w / 2 ^ i % 2) (omega (arith, bit_le (f at)))
    ∙ word_bit f (at + 1) n i (omega arith)
    ∙ ap (λ (a : ℕ). bit (f a)) (omega arith)

-- bit n % 64 of word n / 64 is segment n
words_bit : (f : ℕ → Bool) (n : ℕ) → n < 128 → get_or (words f) (n / 64) 0 / 2 ^ (n % 64) % 2 ≡ bit (f n)
words_bit f n h = go (ltb n 64) refl
  where
    in_word : (w : ℕ) → n / 64 ≡ w → word f (w * 64) 64 / 2 ^ (n % 64) % 2 ≡ bit (f n)
    in_word w e = word_bit f (w * 64) 64 (n % 64) (omega arith) ∙ ap (λ (k : ℕ). bit (f k)) (omega arith)

    go : (t : Bool) → ltb n 64 ≡ t → get_or (words f) (n / 64) 0 / 2 ^ (n % 64) % 2 ≡ bit (f n)
    go true l = let e : n / 64 ≡ 0 = omega (arith, ltb-true n 64 l) in rw e (in_word 0 e)
    go false l = let e : n / 64 ≡ 1 = omega (arith, ltb-false n 64 l) in rw e (in_word 1 e)

module _ (x : Scan) (s : Settings) (ram icons : List ℕ) where
  pub latch_lt : (k : ℕ) → get_or (present_latch x s ram icons) k 0 < 2 ^ 64
  unfolding present_latch
  latch_lt zero = word_lt _ 0 64
  latch_lt (suc zero) = word_lt _ 64 64
  latch_lt (suc (suc k)) = omega arith

  pub segment_bit : (n : ℕ) → n < 128 → get_or (present_latch x s ram icons) (n / 64) 0 / 2 ^ (n % 64) % 2 ≡ bit (segment_active x s ram icons n)
  unfolding present_latch
  segment_bit n h = words_bit (segment_active x s ram icons) n h

  icon_shade : latched_row x ≡ 128 → (k : ℕ) → shade_of s icons 0 k ≡ shade_at s ram icons (latched_row x) k
  unfolding shade_at
  icon_shade h k = rw h

  ram_shade : (latched_row x ≡ 128 → ⊥) → (k : ℕ) → shade_of s (page_of ram (latched_row x / 8)) (latched_row x % 8) k ≡ shade_at s ram icons (latched_row x) k
  unfolding shade_at
  ram_shade h k = simp (ne_eqb (latched_row x) 128 h)

  pub latch_of_icons : latched_row x ≡ 128 → words (λ (k : ℕ). shade_active x s (shade_of s icons 0 k)) ≡ present_latch x s ram icons
  unfolding present_latch segment_active
  latch_of_icons h = λ i. words (λ (k : ℕ). shade_active x s (icon_shade h k i))

  -- the row's page, as the n bytes from its start
  pub latch_of_ram : (row n : ℕ) → row ≡ latched_row x → (row ≡ 128 → ⊥) → n ≡ 256 → words (λ (k : ℕ). shade_active x s (shade_of s (take n (drop (row / 8 * 256) ram)) (row % 8) k)) ≡ present_latch x s ram icons
  unfolding present_latch segment_active
  latch_of_ram row n e h d =
      (λ i. words (λ (k : ℕ). shade_active x s (shade_of s (take (d i) (drop (e i / 8 * 256) ram)) (e i % 8) k)))
      ∙ (λ i. words (λ (k : ℕ). shade_active x s (ram_shade (λ q. h (e ∙ q)) k i)))

-- the row in eight bits
pub row_sum : (a b : ℕ) → (a % 128 + b % 128) % 128 ≡ (a + b) % 128
row_sum a b = omega arith

pub cond_le : (t : Bool) {a b m : ℕ} → a ≤ m → b ≤ m → cond t a b ≤ m
cond_le true p q = p
cond_le false p q = q

pub row_le : (x : Scan) → latched_row x ≤ 128
unfolding latched_row
row_le x = cond_le (eqb x.row x.frame.duty) (omega arith) (omega arith)

-- a row's page is whole
page_length : (ram : List ℕ) (row : ℕ) → length ram ≡ 4096 → row ≤ 128 → (row ≡ 128 → ⊥) → length (page_of ram (row / 8)) ≡ 256
page_length ram row whole l other =
    let fits : row / 8 * 256 + 256 ≤ length ram = omega arith in
    length-take-le 256 (drop (row / 8 * 256) ram) (rw length-drop (omega arith))

pub bits_at_lem : (row : ℕ) (ram icons : List ℕ) → row ≤ 128 → length ram ≡ 4096 → length icons ≡ 256 → AreBits (bits_at row ram icons)
bits_at_lem row ram icons l whole icons_whole = go (eqb row 128) refl
  where
    go : (t : Bool) → eqb row 128 ≡ t → AreBits (cond t (row_bits icons 0) (row_bits (page_of ram (row / 8)) (row % 8)))
    go true h = are_bits icons 0 icons_whole
    go false h = are_bits (page_of ram (row / 8)) (row % 8) (page_length ram row whole l (eqb-false row 128 h))

module _ (x : Scan) (s : Settings) (ram icons : List ℕ) where
  from_bits : row_words (latched_row x) (active_shades x s) s.segment_reverse ram icons ≡ present_latch x s ram icons
  from_bits = go (eqb (latched_row x) 128) refl
    where
      go : (t : Bool) → eqb (latched_row x) 128 ≡ t
          → words (row_active (active_shades x s) (cond t (row_bits icons 0) (row_bits (page_of ram (latched_row x / 8)) (latched_row x % 8))) s.segment_reverse) ≡ present_latch x s ram icons
      go true h = words_same _ _ (λ k l. active_read x s icons 0 k l) ∙ latch_of_icons x s ram icons (eqb-true (latched_row x) 128 h)
      go false h =
          words_same _ _ (λ k l. active_read x s (page_of ram (latched_row x / 8)) (latched_row x % 8) k l)
          ∙ latch_of_ram x s ram icons (latched_row x) 256 refl (eqb-false (latched_row x) 128 h) refl

  -- the latch as the code makes it: from a row's bits, and from the activity of what two of them show
  pub latch_by : {row : ℕ} {active : List Bool} → row ≡ latched_row x → active ≡ active_shades x s → row_words row active s.segment_reverse ram icons ≡ present_latch x s ram icons
  latch_by e d = (λ i. row_words (e i) (d i) s.segment_reverse ram icons) ∙ from_bits

-- what the latch reads of a scan
pub record Alike (x y : Scan) : Type 0 where
  pub step : x.step ≡ y.step
  pub row : x.row ≡ y.row
  pub frame : x.frame ≡ y.frame
  pub frc : x.frc ≡ y.frc
  pub pwm : x.pwm ≡ y.pwm

row_alike : {x y : Scan} → Alike x y → latched_row x ≡ latched_row y
unfolding latched_row
row_alike a = simp (a.row, a.frame)

-- two scans that agree in that have the same latch
pub latch_alike : {x y : Scan} (s : Settings) (ram icons : List ℕ) → Alike x y → present_latch x s ram icons ≡ present_latch y s ram icons
unfolding present_latch segment_active shade_active
latch_alike s ram icons a = λ i. words (λ (k : ℕ). ltb (a.step i) (pulse_width s (shade_at s ram icons (row_alike a i) k) (a.frc i) (a.pwm i)))

-- a byte outside a page leaves the page as it is
page_same : (ram : List ℕ) (at v page : ℕ) → (at / 256 ≡ page → ⊥) → page_of (set ram at v) page ≡ page_of ram page
page_same ram at v page ne = go (ltb at (page * 256)) refl
  where
    go : (t : Bool) → ltb at (page * 256) ≡ t → page_of (set ram at v) page ≡ page_of ram page
    go true h = ap (take 256) (drop-set-lt (page * 256) ram at v (ltb-true at (page * 256) h))
    go false h =
        let l = ltb-false at (page * 256) h in
        let e : at ≡ page * 256 + (at - page * 256) = omega arith in
        ap (λ (i : ℕ). page_of (set ram i v) page) e
        ∙ ap (take 256) (drop-set-add (page * 256) ram (at - page * 256) v)
        ∙ take-set-le 256 (drop (page * 256) ram) (at - page * 256) v (omega (arith, ne))

module _ (x : Scan) (s : Settings) (ram icons : List ℕ) where
  -- memory that holds the same shades at the shown row shows the same
  shown_by_row : (ram' icons' : List ℕ) → ((k : ℕ) → shade_at s ram' icons' (latched_row x) k ≡ shade_at s ram icons (latched_row x) k) → shown x s ram' icons' ≡ shown x s ram icons
  unfolding shown present_latch segment_active
  shown_by_row ram' icons' h = λ i. cond x.latch.latched x.latch.segments (words (λ (k : ℕ). shade_active x s (h k i)))

  -- a data byte outside the shown row's page changes nothing that is shown
  pub data_outside : (page at v : ℕ) → (page ≡ 16 → ⊥) → at / 256 ≡ page % 16 → affects (Some page) (latched_row x) ≡ false → shown x s (set ram at v) icons ≡ shown x s ram icons
  unfolding affects shade_at
  data_outside page at v ne e h = shown_by_row (set ram at v) icons (go (eqb (latched_row x) 128) (eqb (latched_row x / 8) (page % 16)) refl (simp (ne_eqb page 16 ne) at h))
    where
      go : (icon here : Bool) → eqb (latched_row x / 8) (page % 16) ≡ here → not icon && here ≡ false → (k : ℕ)
          → cond icon (shade_of s icons 0 k) (shade_of s (page_of (set ram at v) (latched_row x / 8)) (latched_row x % 8) k)
          ≡ cond icon (shade_of s icons 0 k) (shade_of s (page_of ram (latched_row x / 8)) (latched_row x % 8) k)
      go true here q n k = refl
      go false here q n k = ap (λ (part : List ℕ). shade_of s part (latched_row x % 8) k) (page_same ram at v (latched_row x / 8) (λ r. eqb-false (latched_row x / 8) (page % 16) (q ∙ n) (sym r ∙ e)))

  pub icon_outside : (at v : ℕ) → affects (Some 16) (latched_row x) ≡ false → shown x s ram (set icons at v) ≡ shown x s ram icons
  unfolding affects shade_at
  icon_outside at v h = shown_by_row ram (set icons at v) (λ k. simp h)

  -- where the latch is retained, no later memory or setting changes what is shown
  pub retained_holds : (page : Option ℕ) (s' : Settings) (ram' icons' : List ℕ) → affects page (latched_row x) ≡ true → shown (retained x s page ram icons) s' ram' icons' ≡ shown x s ram icons
  unfolding shown retained latch_retained with_latch
  retained_holds page s' ram' icons' h = rw h (go x.latch.latched refl)
    where
      go : (t : Bool) → x.latch.latched ≡ t → shown (cond (t || false) x (latch_retained x s ram icons)) s' ram' icons' ≡ cond t x.latch.segments (present_latch x s ram icons)
      go true k = simp k
      go false k = refl

  pub unaffected : (page : Option ℕ) → affects page (latched_row x) ≡ false → retained x s page ram icons ≡ x
  unfolding retained
  unaffected page h = simp (h, or-true)

  pub retained_is : (page : Option ℕ) → x.latch.latched ≡ false → affects page (latched_row x) ≡ true → retained x s page ram icons ≡ latch_retained x s ram icons
  unfolding retained
  retained_is page l h = simp (l, h)

  -- with the latch retained for a change, the change does not alter what is shown
  change_retained : (page : Option ℕ) (ram' icons' : List ℕ) → (affects page (latched_row x) ≡ false → shown x s ram' icons' ≡ shown x s ram icons) → shown (retained x s page ram icons) s ram' icons' ≡ shown x s ram icons
  change_retained page ram' icons' outside = go (affects page (latched_row x)) refl
    where
      go : (a : Bool) → affects page (latched_row x) ≡ a → shown (retained x s page ram icons) s ram' icons' ≡ shown x s ram icons
      go true h = retained_holds page s ram' icons' h
      go false h = rw (unaffected page h) (outside h)

  pub retained_shown : (page : Option ℕ) → shown (retained x s page ram icons) s ram icons ≡ shown x s ram icons
  retained_shown page = change_retained page ram icons (λ h. refl)

  pub data_retained : (page at v : ℕ) → (page ≡ 16 → ⊥) → at / 256 ≡ page % 16 → shown (retained x s (Some page) ram icons) s (set ram at v) icons ≡ shown x s ram icons
  data_retained page at v ne e = change_retained (Some page) (set ram at v) icons (data_outside page at v ne e)

  pub icon_retained : (at v : ℕ) → shown (retained x s (Some 16) ram icons) s ram (set icons at v) ≡ shown x s ram icons
  icon_retained at v = change_retained (Some 16) ram (set icons at v) (icon_outside at v)

  -- a quantum latches anew: what is shown after it is the latch of present memory and settings
  pub quantum_shown : (s' : Settings) → shown (quantum x s') s ram icons ≡ present_latch (quantum x s') s ram icons
  unfolding shown quantum
  quantum_shown s' = refl

  -- keeping the latch leaves the counters, and so the checks of the scan
  pub retained_check : (page : Option ℕ) → check_scan (retained x s page ram icons) ≡ check_scan x
  unfolding retained latch_retained with_latch check_scan valid_scan
  retained_check page = go (x.latch.latched || not (affects page (latched_row x)))
    where
      go : (t : Bool) → check_scan (cond t x (latch_retained x s ram icons)) ≡ check_scan x
      go true = refl
      go false = refl

-- a scan that passes has a phase that the palette holds
pub phase_lt : (x : Scan) → check_scan x ≡ None → x.frc < 4
unfolding frc_count_ok
phase_lt x h =
    let v = valid_scan_lem x h in
    let l = v.frc_below in
    ⊎_elim (λ e. omega (arith, eqb-true x.frame.frc_count 3 e)) (λ e. omega (arith, eqb-true x.frame.frc_count 4 e)) (either (eqb x.frame.frc_count 3) _ v.frame.frc_count_ok_lem)
