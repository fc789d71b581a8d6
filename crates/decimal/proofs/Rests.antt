-- A text that is read at a place is read as what stands there is from its start.
use Prim.Native.Nat.{ℕ, zero, suc, ◌+◌, ◌-◌, ◌*◌, ◌^◌, ◌≤◌, ◌<◌}
use mathlib.Core.Bool.{Bool, true, false, cond, ◌&&◌}
use mathlib.Core.List.{List, [], ◌∷◌}
use mathlib.Core.Path.{◌≡◌, refl, sym, ◌∙◌, ap}
use native.Mathlib.Nat.{add-zero, zero-add}
use native.Mathlib.Numerals.{add-one}
use native.Mathlib.Omega.{arith}
use lib.Dec.{ltb, eqb}
use lib.ListN.{length, get_or, take, drop, set, drop_of_length-le, length-drop}
use lib.Seq.{drop-cons, length-take-le}
use borrow.Author.Tests.{ltb-true, ltb-false, lt-ltb, le-ltb}
use Rattle.std.proofs.lemmas.Option.{none-some}
use Rattle.std.proofs.lemmas.List.{drop-drop, get_or-drop}
use Rattle.std.specs.Prelude.{Option, Some, None}
use Rattle.decimal.specs.Decimal.{Read, is_digit, digits, spelt, well_formed, number_at, ended_by, field_at, separator, line_next, line_at}
use Rattle.std.specs.Bool.{then_some}
use Rattle.std.specs.Borrow.{Bor}
use Rattle.decimal.specs.declared.Read as lent
use Rattle.decimal.specs.Rest.{read_view, read_of, digit_in, decimal_of, number_in, field_in, line_rest, line_in}
use Rattle.decimal.proofs.Ends.{digits_within, field_ends}

-- ---- numbers
module _ (s : List ℕ) (at : ℕ) where
  first_there : get_or (drop at s) 0 0 ≡ get_or s at 0
  first_there = get_or-drop at s 0 0 ∙ ap (λ (k : ℕ). get_or s k 0) (add-zero at)

  pub number_there : read_of s (number_at s at) ≡ number_in (drop at s)
  unfolding number_at number_in
  number_there = rw first_there (go (ltb (spelt (drop at s) 0) (2 ^ 64)) (well_formed (get_or s at 0) (digits (drop at s))))
    where
      n : ℕ
      n = spelt (drop at s) 0

      d : ℕ
      d = digits (drop at s)

      same : drop (at + d) s ≡ drop (0 + d) (drop at s)
      same = sym (drop-drop d at s) ∙ ap (λ (k : ℕ). drop k (drop at s)) (sym (zero-add d))

      go :
          (t u : Bool)
          → read_of s (cond t (cond u (Some (record { value = n; next = at + d })) None) None)
          ≡ read_of (drop at s) (cond t (cond u (Some (record { value = n; next = 0 + d })) None) None)
      go true true = ap (λ (l : List ℕ). Some (n, l)) same
      go true false = refl
      go false u = refl

-- what was read, in its two parts
abbrev pub part : Option (ℕ × List ℕ) → ℕ × List ℕ
part None = (0, [])
part (Some p) = p

pub same_value : (p q : ℕ × List ℕ) → Some p ≡ Some q → p.0 ≡ q.0
same_value p q e = ap (λ (o : Option (ℕ × List ℕ)). (part o).0) e

pub same_rest : (p q : ℕ × List ℕ) → Some p ≡ Some q → p.1 ≡ q.1
same_rest p q e = ap (λ (o : Option (ℕ × List ℕ)). (part o).1) e

-- past a digit
pub record Past (l : List ℕ) (value : ℕ) (rest : List ℕ) : Type 0 where
  pub shorter : length l ≡ 1 + length rest
  pub behind : drop 1 l ≡ rest
  pub counts : digits l ≡ 1 + digits rest
  pub spells : (n : ℕ) → spelt l n ≡ spelt rest (n * 10 + value)

pub digit_past : (l : List ℕ) (value : ℕ) (rest : List ℕ) → ◌≡◌ {A = Option (ℕ × List ℕ)} (Some (value, rest)) (digit_in l) → Past l value rest
unfolding digits spelt
digit_past [] value rest h = absurd (none-some (value, rest) (sym h))
digit_past (b ∷ l) value rest h = go (is_digit b) refl h
  where
    go : (t : Bool) → is_digit b ≡ t → ◌≡◌ {A = Option (ℕ × List ℕ)} (Some (value, rest)) (cond t (Some (b - 48, l)) None) → Past (b ∷ l) value rest
    go true k e =
        let the_value : b - 48 ≡ value = sym (same_value (value, rest) (b - 48, l) e) in
        let the_rest : l ≡ rest = sym (same_rest (value, rest) (b - 48, l) e) in
        record {
          shorter = rw the_rest (omega arith);
          behind = the_rest;
          counts = rw (k, the_rest);
          spells = λ n. rw (k, the_rest, the_value);
        }
    go false k e = absurd (none-some (value, rest) (sym e))

pub no_digit : (l : List ℕ) → None ≡ digit_in l → (digits l ≡ 0) × ((n : ℕ) → spelt l n ≡ n)
unfolding digits spelt
no_digit [] h = (refl, λ n. refl)
no_digit (b ∷ l) h = go (is_digit b) h
  where
    go : (t : Bool) → ◌≡◌ {A = Option (ℕ × List ℕ)} None (cond t (Some (b - 48, l)) None) → (cond t (1 + digits l) 0 ≡ 0) × ((n : ℕ) → cond t (spelt l (n * 10 + (b - 48))) n ≡ n)
    go true e = absurd (none-some (b - 48, l) e)
    go false e = (refl, λ n. refl)

-- more digits make no number smaller
pub grows : (l : List ℕ) (n : ℕ) → n ≤ spelt l n
unfolding spelt
grows [] n = omega arith
grows (b ∷ l) n = go (is_digit b) (grows l (n * 10 + (b - 48)))
  where
    go : (t : Bool) → n * 10 + (b - 48) ≤ spelt l (n * 10 + (b - 48)) → n ≤ cond t (spelt l (n * 10 + (b - 48))) n
    go true h = omega arith
    go false h = omega arith

-- a number that 64 bits do not hold is none
pub too_large : (s : List ℕ) → 2 ^ 64 ≤ spelt s 0 → None ≡ number_in s
unfolding number_in number_at
too_large s h = rw (le-ltb (spelt s 0) (2 ^ 64) h)

-- the digits of a text, cut off
pub found :
    (s : List ℕ) (d value : ℕ) (rest : List ℕ) → d ≡ digits s → value ≡ spelt s 0 → value < 2 ^ 64 → drop d s ≡ rest
    → decimal_of (take d s) value rest ≡ number_in s
unfolding number_in number_at
found s d value rest of_digits of_value fits behind =
    rw (← of_value, ← of_digits, lt-ltb value (2 ^ 64) fits, zero-add d, cut_length, ← behind, heads d s) (go (well_formed (get_or s 0 0) d))
  where
    cut_length : length (take d s) ≡ d
    cut_length = length-take-le d s (omega (arith, digits_within s))

    heads : (d : ℕ) (s : List ℕ) → well_formed (get_or (take d s) 0 0) d ≡ well_formed (get_or s 0 0) d
    heads zero s = refl
    heads (suc d) [] = refl
    heads (suc d) (b ∷ s) = refl

    go : (u : Bool) → cond u (Some (value, drop d s)) None ≡ read_of s (cond u (Some (record { value = value; next = d })) None)
    go true = refl
    go false = refl

-- ---- fields
-- a value whose rest starts with this byte, and what follows that
abbrev ended : (end value : ℕ) → (rest : List ℕ) → Option (ℕ × List ℕ)
ended end value [] = None
ended end value (b ∷ rest) = cond (eqb b end) (Some (value, rest)) None

abbrev cut : (end : ℕ) → Option (ℕ × List ℕ) → Option (ℕ × List ℕ)
cut end None = None
cut end (Some p) = ended end p.0 p.1

cut_there : (s : List ℕ) (end : ℕ) (r : Option Read) → read_of s (ended_by s end r) ≡ cut end (read_of s r)
cut_there s end None = refl
cut_there s end (Some n) = go (ltb n.next (length s)) refl
  where
    tested : (t : Bool) → Option Read
    tested t = cond t (Some (record { value = n.value; next = n.next + 1 })) None

    byte : (u : Bool) → read_of s (tested u) ≡ cond u (Some (n.value, drop (suc n.next) s)) None
    byte true = ap (λ (k : ℕ). Some (n.value, drop k s)) (add-one n.next)
    byte false = refl

    go : (t : Bool) → ltb n.next (length s) ≡ t → read_of s (tested (t && eqb (get_or s n.next 0) end)) ≡ ended end n.value (drop n.next s)
    go true k = rw (drop-cons s n.next 0 (ltb-true n.next (length s) k)) (byte (eqb (get_or s n.next 0) end))
    go false k = rw (drop_of_length-le s (ltb-false n.next (length s) k))

-- a field at a place and at the start is the number there, cut
field_cut : (s : List ℕ) (at end : ℕ) → read_of s (field_at s at end) ≡ cut end (number_in (drop at s))
unfolding field_at
field_cut s at end = cut_there s end (number_at s at) ∙ ap (cut end) (number_there s at)

module _ (s : List ℕ) (end : ℕ) where
  starts : cut end (number_in s) ≡ field_in s end
  unfolding field_in
  starts = sym (field_cut s 0 end)

  pub no_number : None ≡ number_in s → None ≡ field_in s end
  no_number h = ap (cut end) h ∙ starts

  module _ (value : ℕ) (rest : List ℕ) (number : ◌≡◌ {A = Option (ℕ × List ℕ)} (Some (value, rest)) (number_in s)) where
    at_end : (rest : List ℕ) → length rest ≡ 0 → None ≡ ended end value rest
    at_end [] h = refl
    at_end (b ∷ l) h = absurd (omega (arith, h))

    pub no_byte : length rest ≡ 0 → None ≡ field_in s end
    no_byte h = at_end rest h ∙ ap (cut end) number ∙ starts

    pub ended_as :
        (b : ℕ) (behind : Bor (List ℕ)) → rest ≡ b ∷ behind.now → (o : Option lent.Read)
        → o ≡ then_some (eqb b end) (record { value = value; rest = behind }) → read_view o ≡ field_in s end
    ended_as b behind e o h = ap read_view h ∙ seen (eqb b end) ∙ sym (ap (ended end value) e) ∙ ap (cut end) number ∙ starts
      where
        seen : (t : Bool) → read_view (then_some t (record { value = value; rest = behind })) ≡ cond t (Some (value, behind.now)) None
        seen true = refl
        seen false = refl

pub field_there : (s : List ℕ) (at end : ℕ) → read_of s (field_at s at end) ≡ field_in (drop at s) end
field_there s at end = field_cut s at end ∙ starts (drop at s) end

-- a field is a byte at least
pub field_shorter : (s : List ℕ) (end value : ℕ) (rest : List ℕ) → ◌≡◌ {A = Option (ℕ × List ℕ)} (Some (value, rest)) (field_in s end) → length rest < length s
unfolding field_in
field_shorter s end value rest h = go (field_at s 0 end) refl h
  where
    go : (r : Option Read) → field_at s 0 end ≡ r → ◌≡◌ {A = Option (ℕ × List ℕ)} (Some (value, rest)) (read_of s r) → length rest < length s
    go None k e = absurd (none-some (value, rest) (sym e))
    go (Some r) k e =
        let p : ℕ × List ℕ = (value, rest) in
        let o : ℕ × List ℕ = (r.value, drop r.next s) in
        let ends = field_ends s 0 end r k in
        rw (same_rest p o e) (omega (arith, ends.behind, ends.within, length-drop r.next s))

-- ---- lines
-- where the same stands at two places of two texts, the same line is read there
pub line_same :
    (left : ℕ) (s t : List ℕ) (a b i : ℕ) (w : List ℕ) → drop a s ≡ drop b t
    → line_rest s (line_at left s a i w) ≡ line_rest t (line_at left t b i w)
unfolding line_at
line_same zero s t a b i w e = ap (λ (l : List ℕ). (Some l, w)) e
line_same (suc left) s t a b i w e =
    go (field_at s a (separator left)) (field_at t b (separator left))
    (field_there s a (separator left) ∙ ap (λ (l : List ℕ). field_in l (separator left)) e ∙ sym (field_there t b (separator left)))
    (line_same left s t)
  where
    on : (s : List ℕ) → Option Read → Option (List ℕ) × List ℕ
    on s r = line_rest s (line_next r w (λ n. line_at left s n.next (i + 1) (set w i n.value)))

    go :
        (r q : Option Read) → read_of s r ≡ read_of t q
        → ((a b i : ℕ) (w : List ℕ) → drop a s ≡ drop b t → line_rest s (line_at left s a i w) ≡ line_rest t (line_at left t b i w))
        → on s r ≡ on t q
    go None None f h = refl
    go None (Some q) f h = absurd (none-some (q.value, drop q.next t) f)
    go (Some r) None f h = absurd (none-some (r.value, drop r.next s) (sym f))
    go (Some r) (Some q) f h =
        let p : ℕ × List ℕ = (r.value, drop r.next s) in
        let o : ℕ × List ℕ = (q.value, drop q.next t) in
        rw (same_value p o f) (h r.next q.next (i + 1) (set w i q.value) (same_rest p o f))

pub line_there : (s : List ℕ) (at : ℕ) (w : List ℕ) → line_rest s (line_at (length w) s at 0 w) ≡ line_in (drop at s) w
unfolding line_in
line_there s at w = line_same (length w) s (drop at s) at 0 0 w refl

-- a line, of whose numbers so many are left behind the next one
module _ (s : List ℕ) (left i : ℕ) (w : List ℕ) where
  pub line_step :
      (value : ℕ) (rest : List ℕ) → ◌≡◌ {A = Option (ℕ × List ℕ)} (Some (value, rest)) (field_in s (separator left))
      → line_rest s (line_at (suc left) s 0 i w) ≡ line_rest rest (line_at left rest 0 (i + 1) (set w i value))
  unfolding line_at field_in
  line_step value rest h = go (field_at s 0 (separator left)) h
    where
      go :
          (r : Option Read) → ◌≡◌ {A = Option (ℕ × List ℕ)} (Some (value, rest)) (read_of s r)
          → line_rest s (line_next r w (λ n. line_at left s n.next (i + 1) (set w i n.value))) ≡ line_rest rest (line_at left rest 0 (i + 1) (set w i value))
      go None e = absurd (none-some (value, rest) (sym e))
      go (Some r) e =
          let p : ℕ × List ℕ = (value, rest) in
          let o : ℕ × List ℕ = (r.value, drop r.next s) in
          rw (← same_value p o e) (line_same left s rest r.next 0 (i + 1) (set w i value) (sym (same_rest p o e)))

  pub line_fails : None ≡ field_in s (separator left) → line_rest s (line_at (suc left) s 0 i w) ≡ (None, w)
  unfolding line_at field_in
  line_fails h = go (field_at s 0 (separator left)) h
    where
      go : (r : Option Read) → None ≡ read_of s r → line_rest s (line_next r w (λ n. line_at left s n.next (i + 1) (set w i n.value))) ≡ (None, w)
      go None e = refl
      go (Some r) e = absurd (none-some (r.value, drop r.next s) e)
