use Prim.Native.Nat.{ℕ}
use mathlib.Core.Bool.{Bool, true, false, ◌&&◌}
use mathlib.Core.List.{List, [], ◌∷◌}
use mathlib.Core.Path.{◌≡◌, refl, ◌∙◌}
use lib.ListN.{get_or, length}
use lib.Dec.{eqb}
use Rattle.std.proofs.Common.{arith}
use lib.Pointwise.{pointwise}
use borrow.Rule.Slice.PartMut.{mid_of}
use borrow.Author.Tests.{eq-eqb, ne_eqb}
use Rattle.ffi.specs.FastWords.{eight_zero, clock_zero}
use Rattle.ffi.proofs.fast_words.clock_zero.Goals as goal

-- tests one after another from the left
regroup : (a b c d e f g h : Bool) → a && (b && (c && (d && (e && (f && (g && (h && true))))))) ≡ a && b && c && d && e && f && g && h
regroup false b c d e f g h = refl
regroup true false c d e f g h = refl
regroup true true false d e f g h = refl
regroup true true true false e f g h = refl
regroup true true true true false f g h = refl
regroup true true true true true false g h = refl
regroup true true true true true true false h = refl
regroup true true true true true true true false = refl
regroup true true true true true true true true = refl

compared : (w : List ℕ) → length w ≡ 75 → pointwise eqb (mid_of 1 8 w) (0 ∷ 0 ∷ 0 ∷ 0 ∷ 0 ∷ 0 ∷ 0 ∷ 0 ∷ []) ≡ eight_zero w
compared [] long = absurd (omega (arith, long))
compared (a ∷ []) long = absurd (omega (arith, long))
compared (a ∷ b ∷ []) long = absurd (omega (arith, long))
compared (a ∷ b ∷ c ∷ []) long = absurd (omega (arith, long))
compared (a ∷ b ∷ c ∷ d ∷ []) long = absurd (omega (arith, long))
compared (a ∷ b ∷ c ∷ d ∷ e ∷ []) long = absurd (omega (arith, long))
compared (a ∷ b ∷ c ∷ d ∷ e ∷ f ∷ []) long = absurd (omega (arith, long))
compared (a ∷ b ∷ c ∷ d ∷ e ∷ f ∷ g ∷ []) long = absurd (omega (arith, long))
compared (a ∷ b ∷ c ∷ d ∷ e ∷ f ∷ g ∷ h ∷ []) long = absurd (omega (arith, long))
compared (a ∷ b ∷ c ∷ d ∷ e ∷ f ∷ g ∷ h ∷ i ∷ w) long = regroup (eqb b 0) (eqb c 0) (eqb d 0) (eqb e 0) (eqb f 0) (eqb g 0) (eqb h 0) (eqb i 0)

stopped : (w : List ℕ) → get_or w 0 0 ≡ 0 → eight_zero w ≡ clock_zero w
unfolding clock_zero
stopped w e = rw (eq-eqb _ _ e)

pub returns-then-w-ne0 : goal.returns-then-w-ne0
unfolding clock_zero
returns-then-w-ne0 c = simp (ne_eqb _ _ c.if-w-ne0.true)

pub returns : goal.returns
returns c = c.eq.ensures ∙ compared c.args.w.now c.told-w ∙ stopped _ c.if-w-ne0.false
