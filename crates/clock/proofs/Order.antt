-- The orders and the equalities that the derives give say what the definitions of specs/ say: `c.lt.ensures` of `a < b` goes on
-- by `time_lt a b`, `c.le.ensures` of `a <= b` by `time_le a b`, and `c.eq.ensures` of `a == b` by `time_eq a b` or `rate_eq a b`.
use Prim.Native.Nat.{ℕ, ◌^◌, ◌<◌}
use mathlib.Core.Bool.{Bool, true, false, cond, ◌&&◌, ◌||◌}
use mathlib.Core.Path.{◌≡◌, refl, ◌∙◌, ap}
use native.Mathlib.Omega.{arith}
use lib.Dec.{ltb, leb, eqb}
use Rattle.std.proofs.lemmas.Bool.Decides.{nat_tests}
use Rattle.std.specs.Prelude.{Option, Some}
use Rattle.std.specs.declared.cmp.Ordering.{Ordering}
use Rattle.std.specs.declared.cmp.Ordering.TheVariants.{Less, Equal, Greater}
use Rattle.std.specs.Ordering.{is_some_and, is_lt, is_le, nat_cmp, partial_ordering_then, partial_lt, partial_le}
use Rattle.clock.specs.contracts.time.TimePartialOrd.TheImpl as time_order
use Rattle.clock.specs.declared.time.Time.{Time}
use Rattle.clock.specs.declared.rate.Rate.{Rate}
use Rattle.clock.specs.Time.{raw}
use Rattle.clock.specs.Rate.{same_rate}
use Rattle.clock.proofs.Times.{before, not_later, same_time}

-- how times compare, as derived: by their seconds, then by their fractions
abbrev pub time_cmp : Time → Time → Option Ordering
time_cmp = (time_order.ghosts).partial_cmp

-- what a number's comparison answers, by its tests
abbrev by_tests : (less same : Bool) → Ordering
by_tests less same = cond less Less (cond same Equal Greater)

lt_by_tests : (l e m n : Bool) → is_some_and is_lt (partial_ordering_then (Some (by_tests l e)) (Some (by_tests m n))) ≡ l || (e && m)
lt_by_tests true e m n = refl
lt_by_tests false true true n = refl
lt_by_tests false true false true = refl
lt_by_tests false true false false = refl
lt_by_tests false false m n = refl

le_by_tests : (l e : Bool) (o : Ordering) → is_some_and is_le (partial_ordering_then (Some (by_tests l e)) (Some o)) ≡ l || (e && is_le o)
le_by_tests true e o = refl
le_by_tests false true o = refl
le_by_tests false false o = refl

le_cmp : (a b : ℕ) → is_le (nat_cmp a b) ≡ leb a b
le_cmp a b = grind (arith, nat_tests)

module _ (s t : Time) (s_lt : s.fraction < 2 ^ 64) (t_lt : t.fraction < 2 ^ 64) where
  pub time_lt : partial_lt time_cmp s t ≡ ltb (raw s) (raw t)
  time_lt = lt_by_tests (ltb s.seconds t.seconds) (eqb s.seconds t.seconds) (ltb s.fraction t.fraction) (eqb s.fraction t.fraction) ∙ before s t s_lt t_lt

  pub time_le : partial_le time_cmp s t ≡ leb (raw s) (raw t)
  time_le =
      le_by_tests (ltb s.seconds t.seconds) (eqb s.seconds t.seconds) (nat_cmp s.fraction t.fraction)
      ∙ ap (λ (m : Bool). ltb s.seconds t.seconds || (eqb s.seconds t.seconds && m)) (le_cmp s.fraction t.fraction)
      ∙ not_later s t s_lt t_lt

  pub time_eq : eqb s.seconds t.seconds && eqb s.fraction t.fraction ≡ eqb (raw s) (raw t)
  time_eq = same_time s t s_lt t_lt

pub rate_eq : (r t : Rate) → eqb r.numerator t.numerator && eqb r.denominator t.denominator ≡ same_rate r t
unfolding same_rate
rate_eq r t = refl
