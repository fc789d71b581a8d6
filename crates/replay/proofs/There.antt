-- A case at a place of a text is the case that the text behind that place starts with.
use Rattle.std.proofs.Common.{◌≡◌, ℕ, List, ◌++◌, length, take, drop, refl, sym, ap, ◌∙◌, Option, Some, None, Bool, true, false, cond, nat_lt}
use Rattle.std.specs.Prelude.{◌==◌}
use Rattle.std.proofs.lemmas.Option.{none-some}
use Rattle.decimal.specs.Decimal.{Read, field_at, line_at}
use Rattle.decimal.specs.Rest.{read_of, field_in, line_rest}
use Rattle.decimal.proofs.Rests.{same_value, same_rest, field_there, line_same}
use Rattle.replay.specs.Cases.{Case, length_of, case_of, numbers_in, kind_in, case_at, behind, case_in}

-- what is given of a case whose line is read
abbrev given : (text : List ℕ) → Option Case × List ℕ → Option (ℕ × List ℕ) × List ℕ
given text q = (behind text q.0, q.1)

abbrev lined : (kind : ℕ) (more : List ℕ) → Option (List ℕ) × List ℕ → Option (ℕ × List ℕ) × List ℕ
lined kind more (None, w) = (None, w ++ more)
lined kind more (Some rest, w) = (Some (kind, rest), w ++ more)

by_line : (text : List ℕ) (kind : ℕ) (more : List ℕ) (l : Option ℕ × List ℕ) → given text (case_of kind l.0, l.1 ++ more) ≡ lined kind more (line_rest text l)
by_line text kind more (None, w) = refl
by_line text kind more (Some next, w) = refl

module _ (s t : List ℕ) (a b : ℕ) (same : drop a s ≡ drop b t) (w : List ℕ) where
  lines : (kind n : ℕ) → given s (case_of kind (line_at n s a 0 (take n w)).0, (line_at n s a 0 (take n w)).1 ++ drop n w) ≡ given t (case_of kind (line_at n t b 0 (take n w)).0, (line_at n t b 0 (take n w)).1 ++ drop n w)
  lines kind n =
      by_line s kind (drop n w) (line_at n s a 0 (take n w))
      ∙ ap (lined kind (drop n w)) (line_same n s t a b 0 (take n w) same)
      ∙ sym (by_line t kind (drop n w) (line_at n t b 0 (take n w)))

  numbers : (kind n : ℕ) → given s (numbers_in kind n s a w) ≡ given t (numbers_in kind n t b w)
  numbers kind n = go (n == 0) (nat_lt (length w) n)
    where
      go :
          (u v : Bool)
          → given s (cond u (None, w) (cond v (None, w) (case_of kind (line_at n s a 0 (take n w)).0, (line_at n s a 0 (take n w)).1 ++ drop n w)))
          ≡ given t (cond u (None, w) (cond v (None, w) (case_of kind (line_at n t b 0 (take n w)).0, (line_at n t b 0 (take n w)).1 ++ drop n w)))
      go true v = refl
      go false true = refl
      go false false = lines kind n

kinds : (s t : List ℕ) (w : List ℕ) (p q : Option Read) → read_of s p ≡ read_of t q → given s (kind_in p s w) ≡ given t (kind_in q t w)
kinds s t w None None e = refl
kinds s t w None (Some q) e = absurd (none-some (q.value, drop q.next t) e)
kinds s t w (Some p) None e = absurd (none-some (p.value, drop p.next s) (sym e))
kinds s t w (Some p) (Some q) e =
    numbers s t p.next q.next (same_rest _ _ e) w p.value (length_of p.value)
    ∙ ap (λ (kind : ℕ). given t (numbers_in kind (length_of kind) t q.next w)) (same_value _ _ e)

by_field : (text : List ℕ) (at : ℕ) → read_of text (field_at text at 32) ≡ read_of (drop at text) (field_at (drop at text) 0 32)
unfolding field_in
by_field text at = field_there text at 32

pub case_there : (text : List ℕ) (at : ℕ) (w : List ℕ) → (behind text (case_at text at w).0, (case_at text at w).1) ≡ case_in (drop at text) w
unfolding case_at case_in
case_there text at w = kinds text (drop at text) w (field_at text at 32) (field_at (drop at text) 0 32) (by_field text at)
