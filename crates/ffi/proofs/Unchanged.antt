-- Words that stay where they are: those of a block that holds a state are the words of what they hold, if what is not there has words
-- of 0.
use Prim.Native.Nat.{ℕ, zero, suc, ◌+◌, ◌-◌, ◌%◌, ◌≤◌, ◌<◌, ◌^◌}
use mathlib.Core.Bool.{Bool, true, false, cond, not, ◌&&◌, ◌||◌}
use mathlib.Core.List.{List, [], ◌∷◌, ◌++◌}
use mathlib.Core.Path.{◌≡◌, refl, ap, sym, ◌∙◌}
use native.Mathlib.Nat.{mod-eq_of_lt}
use native.Mathlib.Omega.{arith}
use lib.Dec.{ltb, eqb}
use lib.IntN.{pos, negsuc, nat_abs, ◌+ℤ◌}
use lib.ListN.{length, get_or, drop, replicate}
use lib.Seq.{drop-cons}
use mir.Val.{bool_byte}
use borrow.Author.Tests.{ltb-true, ltb-false, le-ltb, eqb-true}
use Rattle.checks.proofs.Tests.{both}
use Rattle.std.specs.Prelude.{Some, None}
use Rattle.ffi.specs.Words.{optional_words}
use Rattle.ffi.specs.ClockWords.{time}
use Rattle.ffi.specs.ScanWords.{flag, running_of, running_words}
use Rattle.ffi.specs.StateWords.{scan_fits, display_fits, analog_fits, power_fits, line_fits, holds_state, clock_in, scan_in, display_in, analog_in, temperature_of, ready_in, power_with, power_in, saved_in, address_in, pending_in, serial_in, state_of, scan_part, display_part, analog_part, temperature_word, power_part, address_part, serial_part, state_words}
use Rattle.ffi.specs.FastWords.{there_or_zero, rest_zero, eight_zero, clock_zero}
use Rattle.ffi.proofs.Blocks.{filled_none, filled_same, filled_all, length_scan, length_display, length_power, length_address, length_serial}
use Rattle.ffi.proofs.OnBlock.{block_length}

-- ---- one word
flag_again : (n : ℕ) → n < 2 → bool_byte (flag n) ≡ n
flag_again zero h = refl
flag_again (suc zero) h = refl
flag_again (suc (suc n)) h = absurd (omega arith)

temperature_again : (n : ℕ) → n < 2 ^ 32 → temperature_word (temperature_of n) ≡ n
temperature_again n h = rw (mod-eq_of_lt h) (go (ltb n 2147483648) refl)
  where
    go : (t : Bool) → ltb n 2147483648 ≡ t → nat_abs (cond t (negsuc (2147483648 - suc n)) (pos (n - 2147483648)) +ℤ pos 2147483648) ≡ n
    go true k =
        let below : n < 2147483648 = ltb-true n 2147483648 k in
        rw (le-ltb 2147483648 (suc (2147483648 - suc n)) (omega arith)) (omega arith)
    go false k =
        let above : 2147483648 ≤ n = ltb-false n 2147483648 k in
        omega arith

-- what is below m as it comes back: a yes or no, the temperature, or a number
abbrev again : (m n : ℕ) → ℕ
again m n = cond (eqb m 2) (bool_byte (flag n)) (cond (eqb m (2 ^ 32)) (temperature_word (temperature_of n)) (n % m))

again_same : (m n : ℕ) → n < m → again m n ≡ n
again_same m n h = go (eqb m 2) refl (eqb m (2 ^ 32)) refl
  where
    go : (t : Bool) → eqb m 2 ≡ t → (u : Bool) → eqb m (2 ^ 32) ≡ u → cond t (bool_byte (flag n)) (cond u (temperature_word (temperature_of n)) (n % m)) ≡ n
    go true e u k = flag_again n (omega (arith, h, eqb-true m 2 e))
    go false e true k = temperature_again n (omega (arith, h, eqb-true m (2 ^ 32) k))
    go false e false k = mod-eq_of_lt h

-- ---- words from k on, each below its bound
abbrev fits_by : (before : Bool) → (bounds : List ℕ) → (k : ℕ) → (w : List ℕ) → Bool
fits_by t [] k w = t
fits_by t (m ∷ ms) k w = fits_by (t && ltb (get_or w k 0) m) ms (suc k) w

abbrev all_again : (bounds : List ℕ) → (k : ℕ) → (w rest : List ℕ) → List ℕ
all_again [] k w rest = rest
all_again (m ∷ ms) k w rest = again m (get_or w k 0) ∷ all_again ms (suc k) w rest

abbrev up_to : (bounds : List ℕ) → (k : ℕ) → ℕ
up_to [] k = k
up_to (m ∷ ms) k = up_to ms (suc k)

words_same : (ms : List ℕ) (k : ℕ) (w : List ℕ) (t : Bool) → fits_by t ms k w ≡ true → k + length ms ≤ length w → (t ≡ true) × (drop k w ≡ all_again ms k w (drop (up_to ms k) w))
words_same [] k w t h l = (h, refl)
words_same (m ∷ ms) k w t h l =
    let rest = words_same ms (suc k) w (t && ltb (get_or w k 0) m) h (omega (arith, l)) in
    let fits = both t (ltb (get_or w k 0) m) rest.0 in (
      fits.0,
      drop-cons w k 0 (omega (arith, l))
          ∙ ap (λ (n : ℕ). n ∷ drop (suc k) w) (sym (again_same m (get_or w k 0) (ltb-true (get_or w k 0) m fits.1)))
          ∙ ap (λ (r : List ℕ). again m (get_or w k 0) ∷ r) rest.1,
    )

zero_same : (k : ℕ) (w : List ℕ) → k < length w → get_or w k 0 ≡ 0 → drop k w ≡ 0 ∷ drop (suc k) w
zero_same k w l e = drop-cons w k 0 l ∙ ap (λ (n : ℕ). n ∷ drop (suc k) w) e

-- ---- words from k on, whatever they are, and those that are 0
abbrev pub from : (n k : ℕ) → (w rest : List ℕ) → List ℕ
from zero k w rest = rest
from (suc n) k w rest = get_or w k 0 ∷ from n (suc k) w rest

abbrev past : (n k : ℕ) → ℕ
past zero k = k
past (suc n) k = past n (suc k)

stay : (n k : ℕ) (w : List ℕ) → k + n ≤ length w → drop k w ≡ from n k w (drop (past n k) w)
stay zero k w l = refl
stay (suc n) k w l = drop-cons w k 0 (omega (arith, l)) ∙ ap (λ (r : List ℕ). get_or w k 0 ∷ r) (stay n (suc k) w (omega (arith, l)))

abbrev zeros_by : (before : Bool) → (n k : ℕ) → (w : List ℕ) → Bool
zeros_by t zero k w = t
zeros_by t (suc n) k w = zeros_by (t && eqb (get_or w k 0) 0) n (suc k) w

zeros : (n k : ℕ) (w rest : List ℕ) (t : Bool) → zeros_by t n k w ≡ true → (t ≡ true) × (from n k w rest ≡ replicate n 0 ++ rest)
zeros zero k w rest t h = (h, refl)
zeros (suc n) k w rest t h =
    let behind = zeros n (suc k) w rest (t && eqb (get_or w k 0) 0) h in
    let is = both t (eqb (get_or w k 0) 0) behind.0 in
    (is.0, λ i. eqb-true (get_or w k 0) 0 is.1 i ∷ behind.1 i)

-- ---- what may not be there: its words are read, or are 0
clock_same : (w rest : List ℕ) → get_or w 0 0 < 2 → clock_zero w ≡ true → from 9 0 w rest ≡ from 9 0 (running_words (clock_in w)) rest
unfolding clock_in clock_zero
clock_same w rest h z = go (get_or w 0 0) h z
  where
    go : (n : ℕ) → n < 2 → cond (eqb n 0) (eight_zero w) true ≡ true → n ∷ from 8 1 w rest ≡ from 9 0 (running_words (running_of n (from 8 1 w []))) rest
    go zero h z = ap (λ (r : List ℕ). 0 ∷ r) (zeros 8 1 w rest true z).1
    go (suc zero) h z = refl
    go (suc (suc n)) h z = absurd (omega arith)

optional_same : (m : ℕ) → 0 % m ≡ 0 → (there n : ℕ) → there_or_zero there n ≡ true → bool_byte (flag there) ∷ n % m ∷ [] ≡ optional_words (cond (eqb there 0) None (Some (n % m)))
optional_same m zero_mod there n h = go (eqb there 0) h
  where
    go : (t : Bool) → not t || eqb n 0 ≡ true → bool_byte (not t) ∷ n % m ∷ [] ≡ optional_words (cond t None (Some (n % m)))
    go true h = ap (λ (k : ℕ). 0 ∷ k % m ∷ []) (eqb-true n 0 h) ∙ ap (λ (k : ℕ). 0 ∷ k ∷ []) zero_mod
    go false h = refl

-- ---- the groups
module _ (w : List ℕ) (long : length w ≡ 75) where
  scan_same : scan_fits w ≡ true → clock_zero w ≡ true → drop 0 w ≡ scan_part (scan_in w) ++ drop 27 w
  unfolding scan_part scan_in
  scan_same h z =
      let rest = words_same (2 ∷ 256 ∷ 2 ∷ 256 ∷ 2 ∷ (replicate 8 256 ++ (2 ∷ []))) 13 w (ltb (get_or w 0 0) 2) h (omega (arith, long)) in
      stay 13 0 w (omega (arith, long))
      ∙ clock_same w (from 4 9 w (drop 13 w)) (ltb-true (get_or w 0 0) 2 rest.0) z
      ∙ ap (λ (r : List ℕ). from 9 0 (running_words (clock_in w)) (from 4 9 w r)) rest.1

  display_same : display_fits w ≡ true → drop 27 w ≡ display_part (display_in w) ++ drop 47 w
  unfolding display_part
  display_same h = (words_same (256 ∷ (replicate 5 2 ++ replicate 14 256)) 27 w true h (omega (arith, long))).1

  analog_same : analog_fits w ≡ true → drop 47 w ≡ analog_part (analog_in w) ++ drop 55 w
  analog_same h = (words_same (replicate 8 256) 47 w true h (omega (arith, long))).1

  power_same : power_fits w ≡ true → get_or w 62 0 ≡ 0 → get_or w 63 0 ≡ 0 → get_or w 64 0 ≡ 0 → drop 55 w ≡ power_part (power_in w) ++ drop 65 w
  unfolding power_part power_in ready_in
  power_same h a b c =
      (words_same (replicate 4 2 ++ (65536 ∷ 2 ^ 32 ∷ 2 ∷ [])) 55 w true (both _ _ h).0 (omega (arith, long))).1
      ∙ ap (λ (r : List ℕ). all_again (replicate 4 2 ++ (65536 ∷ 2 ^ 32 ∷ 2 ∷ [])) 55 w r) (zero_same 62 w (omega (arith, long)) a
      ∙ ap (λ (r : List ℕ). 0 ∷ r) (zero_same 63 w (omega (arith, long)) b
      ∙ ap (λ (r : List ℕ). 0 ∷ r) (zero_same 64 w (omega (arith, long)) c)))
      ∙ ap (λ (n : ℕ). power_part (power_with (temperature_of (get_or w 60 0)) (cond (eqb n 0) None (Some (time (get_or w 63 0) (get_or w 64 0)))) w) ++ drop 65 w) (sym a)

  serial_same : (t : Bool) → fits_by t (2 ∷ 2 ∷ 256 ∷ 256 ∷ 2 ∷ 256 ∷ []) 69 w ≡ true → there_or_zero (get_or w 73 0) (get_or w 74 0) ≡ true → (t ≡ true) × (drop 69 w ≡ serial_part (serial_in w) ++ drop 75 w)
  unfolding serial_part serial_in pending_in
  serial_same t h z =
      let line = words_same (2 ∷ 2 ∷ 256 ∷ 256 ∷ 2 ∷ 256 ∷ []) 69 w t h (omega (arith, long)) in (
        line.0,
        line.1 ∙ ap (λ (p : List ℕ). bool_byte (flag (get_or w 69 0)) ∷ bool_byte (flag (get_or w 70 0)) ∷ get_or w 71 0 % 256 ∷ get_or w 72 0 % 256 ∷ from 2 0 p (drop 75 w)) (optional_same 256 refl (get_or w 73 0) (get_or w 74 0) z),
      )

  address_same : fits_by true (256 ∷ 65536 ∷ 2 ∷ 65536 ∷ []) 65 w ≡ true → there_or_zero (get_or w 67 0) (get_or w 68 0) ≡ true → drop 65 w ≡ address_part (address_in w) ++ drop 69 w
  unfolding address_part address_in saved_in
  address_same h z =
      (words_same (256 ∷ 65536 ∷ 2 ∷ 65536 ∷ []) 65 w true h (omega (arith, long))).1
      ∙ ap (λ (s : List ℕ). get_or w 65 0 % 256 ∷ get_or w 66 0 % 65536 ∷ from 2 0 s (drop 69 w)) (optional_same 65536 refl (get_or w 67 0) (get_or w 68 0) z)

-- ---- the block
record Fit (w : List ℕ) : Type 0 where
  scan_fits_lem : scan_fits w ≡ true
  display_fits_lem : display_fits w ≡ true
  analog_fits_lem : analog_fits w ≡ true
  power_fits_lem : power_fits w ≡ true
  line_fits_lem : line_fits w ≡ true

fit : (w : List ℕ) → holds_state w ≡ true → Fit w
unfolding holds_state
fit w h =
    let all = both (scan_fits w && display_fits w && analog_fits w && power_fits w) (line_fits w) (both (eqb (length w) 75) _ h).1 in
    let to_power = both (scan_fits w && display_fits w && analog_fits w) (power_fits w) all.0 in
    let to_analog = both (scan_fits w && display_fits w) (analog_fits w) to_power.0 in
    let to_display = both (scan_fits w) (display_fits w) to_analog.0 in
    record { scan_fits_lem = to_display.0; display_fits_lem = to_display.1; analog_fits_lem = to_analog.1; power_fits_lem = to_power.1; line_fits_lem = all.1 }

record Zero (w : List ℕ) : Type 0 where
  seconds : get_or w 63 0 ≡ 0
  fraction : get_or w 64 0 ≡ 0
  saved : there_or_zero (get_or w 67 0) (get_or w 68 0) ≡ true
  pending : there_or_zero (get_or w 73 0) (get_or w 74 0) ≡ true

rest_zero_lem : (w : List ℕ) → rest_zero w ≡ true → Zero w
rest_zero_lem w h =
    let all = both (eqb (get_or w 63 0) 0 && eqb (get_or w 64 0) 0 && there_or_zero (get_or w 67 0) (get_or w 68 0)) (there_or_zero (get_or w 73 0) (get_or w 74 0)) h in
    let to_saved = both (eqb (get_or w 63 0) 0 && eqb (get_or w 64 0) 0) (there_or_zero (get_or w 67 0) (get_or w 68 0)) all.0 in
    let wait = both (eqb (get_or w 63 0) 0) (eqb (get_or w 64 0) 0) to_saved.0 in
    record { seconds = eqb-true _ _ wait.0; fraction = eqb-true _ _ wait.1; saved = to_saved.1; pending = all.1 }

-- all of its words, where it does not wait
pub whole : (w : List ℕ) → holds_state w ≡ true → get_or w 62 0 ≡ 0 → rest_zero w ≡ true → clock_zero w ≡ true → w ≡ state_words (state_of w)
unfolding state_words state_of
whole w holds ready rest clock =
    let long = block_length w holds in
    let fits = fit w holds in
    let none = rest_zero_lem w rest in
    let line = serial_same w long _ fits.line_fits_lem none.pending in
    filled_all long
    (filled_same (serial_part (serial_in w)) 6 (length_serial (serial_in w)) line.1
    (filled_same (address_part (address_in w)) 4 (length_address (address_in w)) (address_same w long line.0 none.saved)
    (filled_same (power_part (power_in w)) 10 (length_power (power_in w)) (power_same w long fits.power_fits_lem ready none.seconds none.fraction)
    (filled_same (analog_part (analog_in w)) 8 refl (analog_same w long fits.analog_fits_lem)
    (filled_same (display_part (display_in w)) 20 (length_display (display_in w)) (display_same w long fits.display_fits_lem)
    (filled_same (scan_part (scan_in w)) 27 (length_scan (scan_in w)) (scan_same w long fits.scan_fits_lem clock) (filled_none w)))))))
