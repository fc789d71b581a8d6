-- Where a number ends: behind its place, and within the text.
use Prim.Native.Nat.{ℕ, ◌+◌, ◌^◌, ◌≤◌, ◌<◌}
use mathlib.Core.Bool.{Bool, true, false, cond, ◌&&◌}
use mathlib.Core.List.{List, [], ◌∷◌}
use mathlib.Core.Path.{◌≡◌, refl}
use native.Mathlib.Omega.{arith}
use lib.Dec.{ltb, eqb}
use lib.ListN.{length, get_or, drop, length-drop}
use borrow.Author.Tests.{ltb-true}
use Rattle.std.proofs.lemmas.Option.{none-some}
use Rattle.checks.proofs.Tests.{both}
use Rattle.std.specs.Prelude.{Option, Some, None}
use Rattle.decimal.specs.Decimal.{Read}
use Rattle.decimal.specs.Decimal.{is_digit, digits, spelt, well_formed, number_at, ended_by, field_at}

pub digits_within : (l : List ℕ) → digits l ≤ length l
unfolding digits
digits_within [] = omega arith
digits_within (b ∷ l) = go (is_digit b) (digits_within l)
  where
    go : (t : Bool) → digits l ≤ length l → cond t (1 + digits l) 0 ≤ length (b ∷ l)
    go true h = omega arith
    go false h = omega arith

pub record Ends (s : List ℕ) (at value next : ℕ) : Type 0 where
  pub behind : at < next
  pub within : next ≤ length s
  pub fits : value < 2 ^ 64

pub number_ends : (s : List ℕ) (at : ℕ) (r : Read) → number_at s at ≡ Some r → Ends s at r.value r.next
unfolding number_at
number_ends s at r h = go (ltb n (2 ^ 64)) refl (well_formed (get_or s at 0) d) refl h
  where
    n : ℕ
    n = spelt (drop at s) 0

    d : ℕ
    d = digits (drop at s)

    go :
        (t : Bool) → ltb n (2 ^ 64) ≡ t → (u : Bool) → well_formed (get_or s at 0) d ≡ u
        → cond t (cond u (Some (record { value = n; next = at + d })) None) None ≡ Some r → Ends s at r.value r.next
    go true k true m e =
        let same_value : n ≡ r.value = cc in
        let same_next : at + d ≡ r.next = cc in
        let some : 0 < d = ltb-true 0 d (both (ltb 0 d) _ m).0 in
        let all : d ≤ length (drop at s) = digits_within (drop at s) in
        record {
          behind = omega arith;
          within = omega (arith, length-drop at s);
          fits = omega (arith, ltb-true n (2 ^ 64) k);
        }
    go true k false m e = absurd (none-some r e)
    go false k u m e = absurd (none-some r e)

-- the same of a number with a byte after it
pub field_ends : (s : List ℕ) (at end : ℕ) (r : Read) → field_at s at end ≡ Some r → Ends s at r.value r.next
unfolding field_at
field_ends s at end r h = go (number_at s at) refl h
  where
    go : (o : Option Read) → number_at s at ≡ o → ended_by s end o ≡ Some r → Ends s at r.value r.next
    go None k e = absurd (none-some r e)
    go (Some n) k e = ended (ltb n.next (length s) && eqb (get_or s n.next 0) end) refl e
      where
        ended : (t : Bool) → (ltb n.next (length s) && eqb (get_or s n.next 0) end) ≡ t → cond t (Some (record { value = n.value; next = n.next + 1 })) None ≡ Some r → Ends s at r.value r.next
        ended true m f =
            let same_value : n.value ≡ r.value = cc in
            let same_next : n.next + 1 ≡ r.next = cc in
            let number = number_ends s at n k in
            let inside = ltb-true n.next (length s) (both (ltb n.next (length s)) _ m).0 in
            record {
              behind = omega (arith, number.behind);
              within = omega (arith, inside);
              fits = omega (arith, number.fits);
            }
        ended false m f = absurd (none-some r f)

-- a number with a byte after it is two bytes at least
pub field_behind : (s : List ℕ) (at end : ℕ) (r : Read) → field_at s at end ≡ Some r → at + 2 ≤ r.next
unfolding field_at
field_behind s at end r h = go (number_at s at) refl h
  where
    go : (o : Option Read) → number_at s at ≡ o → ended_by s end o ≡ Some r → at + 2 ≤ r.next
    go None k e = absurd (none-some r e)
    go (Some n) k e = ended (ltb n.next (length s) && eqb (get_or s n.next 0) end) e
      where
        ended : (t : Bool) → cond t (Some (record { value = n.value; next = n.next + 1 })) None ≡ Some r → at + 2 ≤ r.next
        ended true f = let same_next : n.next + 1 ≡ r.next = cc in omega (arith, (number_ends s at n k).behind)
        ended false f = absurd (none-some r f)
