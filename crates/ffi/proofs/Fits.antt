-- A block holds a state: the tests of its words field by field are those of the same words kind by kind.
use Prim.Native.Nat.{ℕ, suc, ◌^◌}
use mathlib.Core.Bool.{Bool, true, false, cond, ◌&&◌}
use mathlib.Core.List.{List, [], ◌∷◌, ◌++◌}
use mathlib.Core.Path.{◌≡◌, refl, sym, ◌∙◌, ap}
use lib.Dec.{ltb, eqb}
use lib.ListN.{length, get_or, replicate}
use Rattle.ffi.proofs.Orders.{Tests, every, zeros, ones, others, chain_every, every_append, every_sorted}
use Rattle.ffi.specs.StateWords.{scan_fits, display_fits, analog_fits, power_fits, line_fits, flags_fit, bytes_fit, wider_fit, holds_state}

-- the test of a word, with its kind: a yes or no, a byte, or wider
abbrev test : (m : ℕ) → (k : ℕ) → (w : List ℕ) → ℕ × Bool
test m k w = (cond (eqb m 2) 0 (cond (eqb m 256) 1 2), ltb (get_or w k 0) m)

-- of words from k on with these bounds
abbrev tests : (bounds : List ℕ) → (k : ℕ) → (w : List ℕ) → Tests
tests [] k w = []
tests (m ∷ ms) k w = test m k w ∷ tests ms (suc k) w

abbrev scans : List ℕ → Tests
scans w = test 2 0 w ∷ tests (2 ∷ 256 ∷ 2 ∷ 256 ∷ 2 ∷ (replicate 8 256 ++ (2 ∷ []))) 13 w

abbrev displays : List ℕ → Tests
displays w = tests (256 ∷ (replicate 5 2 ++ replicate 14 256)) 27 w

abbrev analogs : List ℕ → Tests
analogs w = tests (replicate 8 256) 47 w

abbrev powers : List ℕ → Tests
powers w = tests (replicate 4 2 ++ (65536 ∷ 2 ^ 32 ∷ 2 ∷ 2 ∷ [])) 55 w

abbrev lines : List ℕ → Tests
lines w = tests (256 ∷ 65536 ∷ 2 ∷ 65536 ∷ 2 ∷ 2 ∷ 256 ∷ 256 ∷ 2 ∷ 256 ∷ []) 65 w

abbrev all : List ℕ → Tests
all w = scans w ++ (displays w ++ (analogs w ++ (powers w ++ lines w)))

nested : (a b c d e : Bool) → a && b && c && d && e ≡ a && (b && (c && (d && e)))
nested true true true d e = refl
nested true true false d e = refl
nested true false c d e = refl
nested false b c d e = refl

by_field : (w : List ℕ) → scan_fits w && display_fits w && analog_fits w && power_fits w && line_fits w ≡ every (all w)
by_field w =
    (λ i. chain_every true (scans w) i && chain_every true (displays w) i && chain_every true (analogs w) i && chain_every true (powers w) i && chain_every true (lines w) i)
    ∙ nested (every (scans w)) (every (displays w)) (every (analogs w)) (every (powers w)) (every (lines w))
    ∙ sym (every_append (scans w) (displays w ++ (analogs w ++ (powers w ++ lines w)))
    ∙ ap (λ (b : Bool). every (scans w) && b) (every_append (displays w) (analogs w ++ (powers w ++ lines w))
    ∙ ap (λ (b : Bool). every (displays w) && b) (every_append (analogs w) (powers w ++ lines w)
    ∙ ap (λ (b : Bool). every (analogs w) && b) (every_append (powers w) (lines w)))))

by_kind : (w : List ℕ) → flags_fit w && bytes_fit w && wider_fit w ≡ every (zeros (all w)) && every (ones (all w)) && every (others (all w))
by_kind w = λ i. chain_every true (zeros (all w)) i && chain_every true (ones (all w)) i && chain_every true (others (all w)) i

pub fits_hold : (w : List ℕ) {a b c : Bool} → eqb (length w) 75 ≡ true → a ≡ flags_fit w → b ≡ bytes_fit w → c ≡ wider_fit w → a && b && c ≡ holds_state w
unfolding holds_state
fits_hold w l ea eb ec = rw l ((λ i. ea i && eb i && ec i) ∙ by_kind w ∙ sym (every_sorted (all w)) ∙ sym (by_field w))
