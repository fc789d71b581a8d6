-- A line's words and values, as they are read: each from the start of what is left of the line.
use Prim.Native.Nat.{ℕ, ◌+◌, ◌≤◌, ◌<◌}
use mathlib.Core.Bool.{Bool, true, false, cond, ◌&&◌}
use mathlib.Core.List.{List, [], ◌∷◌}
use mathlib.Core.Path.{◌≡◌, refl, sym, ◌∙◌, ap}
use native.Mathlib.Nat.{add-zero}
use native.Mathlib.Omega.{arith}
use lib.Dec.{leb, eqb}
use lib.ListN.{length, get_or, take, drop}
use Rattle.std.proofs.lemmas.List.{drop-drop, get_or-drop}
use Rattle.std.proofs.lemmas.Option.{none-some}
use Rattle.std.specs.Borrow.{Bor}
use Rattle.std.specs.Prelude.{MatchOption, Option, Some, None, option_map, nat_eq}
use borrow.Author.Tests.{le-leb, leb-true, eqb-true, eqb-false, eq-eqb, ne_eqb}
use Rattle.std.specs.Bool.{then_some}
use Rattle.std.specs.List.{starts_with}
use Rattle.std.specs.Cmp.Lexicographic.{pointwise}
use Rattle.decimal.specs.Decimal.{Read, field_at}
use Rattle.decimal.specs.Rest.{rest_view, read_of, field_in}
use Rattle.decimal.proofs.Rests.{field_there}
use Rattle.session.specs.Text.{names_line, opens, opened}
use Rattle.session.specs.declared.line.Action.{Action}
use Rattle.session.specs.declared.line.Line.{Line}
use Rattle.session.specs.Line.{up_to, value_at, temperature_at, action_of, line_with, line_of}

-- a value, by what was read
limited : (most : ℕ) → Option (ℕ × List ℕ) → Option ℕ
limited most None = None
limited most (Some p) = cond (leb p.0 most) (Some p.0) None

limits : (s : List ℕ) (most : ℕ) (r : Option Read) → up_to most r ≡ limited most (read_of s r)
unfolding limited
limits s most None = refl
limits s most (Some n) = refl

module _ (s : List ℕ) (at most : ℕ) where
  value_limited : value_at s at most ≡ limited most (field_in (drop at s) 10)
  unfolding value_at
  value_limited = limits s most (field_at s at 10) ∙ ap (limited most) (field_there s at 10)

-- a value at a place is the one that what stands there starts with
pub value_there : (s : List ℕ) (at most : ℕ) → value_at s at most ≡ value_at (drop at s) 0 most
value_there s at most = value_limited s at most ∙ sym (value_limited (drop at s) 0 most)

pub no_value : (s : List ℕ) (most : ℕ) → ◌≡◌ {A = Option (ℕ × List ℕ)} None (field_in s 10) → None ≡ value_at s 0 most
unfolding limited
no_value s most h = ap (limited most) h ∙ sym (value_limited s 0 most)

pub value_read :
    (s : List ℕ) (most value : ℕ) (rest : List ℕ) → ◌≡◌ {A = Option (ℕ × List ℕ)} (Some (value, rest)) (field_in s 10)
    → then_some (leb value most) value ≡ value_at s 0 most
unfolding limited
value_read s most value rest h = given (leb value most) ∙ ap (limited most) h ∙ sym (value_limited s 0 most)
  where
    given : (t : Bool) → then_some t value ≡ cond t (Some value) None
    given true = refl
    given false = refl

pub temperature_there : (s : List ℕ) (at : ℕ) → temperature_at s at (at + 1) ≡ temperature_at (drop at s) 0 1
unfolding temperature_at
temperature_there s at =
    let first : get_or (drop at s) 0 0 ≡ get_or s at 0 = get_or-drop at s 0 0 ∙ ap (λ (k : ℕ). get_or s k 0) (add-zero at) in
    let behind : value_at s (at + 1) 2147483648 ≡ value_at (drop at s) 1 2147483648 =
    value_there s (at + 1) 2147483648 ∙ ap (λ (l : List ℕ). value_at l 0 2147483648) (sym (drop-drop 1 at s)) ∙ sym (value_there (drop at s) 1 2147483648)
    in
    rw (first, behind, ← value_there s at 2147483647)

pub value_behind : (s : List ℕ) (at most : ℕ) (rest : List ℕ) → rest ≡ drop at s → value_at rest 0 most ≡ value_at s at most
value_behind s at most rest e = ap (λ (l : List ℕ). value_at l 0 most) e ∙ sym (value_there s at most)

-- ---- words
same_either_way : (a b : ℕ) → nat_eq a b ≡ nat_eq b a
same_either_way a b = go (eqb a b) refl
  where
    go : (t : Bool) → eqb a b ≡ t → eqb a b ≡ eqb b a
    go true e = e ∙ sym (eq-eqb b a (sym (eqb-true a b e)))
    go false e = e ∙ sym (ne_eqb b a (λ h. eqb-false a b e (sym h)))

turned : (a b : List ℕ) → pointwise nat_eq a b ≡ pointwise nat_eq b a
turned [] [] = refl
turned [] (y ∷ b) = refl
turned (x ∷ a) [] = refl
turned (x ∷ a) (y ∷ b) = rw (same_either_way x y, turned a b)

-- a word that a text starts with, or does not
pub word_there : (s word : List ℕ) {t : Bool} → pointwise nat_eq (take (length word) s) word ≡ t → starts_with nat_eq s word ≡ t
word_there s word e = turned word (take (length word) s) ∙ e

pub minus_there : (s : List ℕ) {t : Bool} → pointwise nat_eq (take 1 s) (45 ∷ []) ≡ t → eqb (get_or s 0 0) 45 ≡ t
minus_there [] e = e
minus_there (b ∷ s) {t} e = go (eqb b 45) e
  where
    go : (u : Bool) → (u && true) ≡ t → u ≡ t
    go true e = e
    go false e = e

-- ---- lines
by_field : Option (ℕ × List ℕ) → Option Line
by_field None = None
by_field (Some p) = option_map (λ action. record { us = p.0; action = action }) (action_of p.1)

line_by_field : (s : List ℕ) → line_of s ≡ by_field (field_in s 32)
unfolding line_of field_in by_field
line_by_field s = go (field_at s 0 32)
  where
    go : (r : Option Read) → line_with s r ≡ by_field (read_of s r)
    go None = refl
    go (Some n) = refl

pub no_line : (s : List ℕ) → ◌≡◌ {A = Option (ℕ × List ℕ)} None (field_in s 32) → None ≡ line_of s
unfolding by_field
no_line s h = ap by_field h ∙ sym (line_by_field s)

pub line_read :
    (s : List ℕ) (us : ℕ) (rest : List ℕ) → ◌≡◌ {A = Option (ℕ × List ℕ)} (Some (us, rest)) (field_in s 32) → {action : Option Action} → action ≡ action_of rest
    → option_map (λ action. record { us = us; action = action }) action ≡ line_of s
unfolding by_field
line_read s us rest h e = ap (option_map (λ action. record { us = us; action = action })) e ∙ ap by_field h ∙ sym (line_by_field s)

-- ---- the names line
pub too_many : (text : List ℕ) → 65536 < length text → None ≡ opened text
unfolding opens
too_many text h = go (leb (length text) 65536) refl
  where
    go : (t : Bool) → leb (length text) 65536 ≡ t → ◌≡◌ {A = Option (List ℕ)} None (cond (t && starts_with nat_eq text names_line) (Some (drop 14 text)) None)
    go true e = absurd (omega (arith, h, leb-true (length text) 65536 e))
    go false e = refl

pub opened_by :
    (text : List ℕ) → length text ≤ 65536 → (r : Option (Bor (List ℕ)))
    → MatchOption r (pointwise nat_eq (take 14 text) names_line ≡ false) (λ x. (pointwise nat_eq (take 14 text) names_line ≡ true) × (x.now ≡ drop 14 text) × (length x.now + 14 ≡ length text))
    → rest_view r ≡ opened text
unfolding opens
opened_by text h None e = rw (le-leb (length text) 65536 h, word_there text names_line e)
opened_by text h (Some rest) e = rw (le-leb (length text) 65536 h, word_there text names_line e.0) (ap (λ (l : List ℕ). Some l) e.1)

pub not_opened : (text : List ℕ) → ◌≡◌ {A = Option (List ℕ)} None (opened text) → opens text ≡ false
not_opened text h = go (opens text) refl h
  where
    go : (t : Bool) → opens text ≡ t → ◌≡◌ {A = Option (List ℕ)} None (cond t (Some (drop 14 text)) None) → opens text ≡ false
    go true e f = absurd (none-some (drop 14 text) f)
    go false e f = e

abbrev rest_or : Option (List ℕ) → List ℕ
rest_or None = []
rest_or (Some l) = l

pub is_opened : (text rest : List ℕ) → ◌≡◌ {A = Option (List ℕ)} (Some rest) (opened text) → (opens text ≡ true) × (rest ≡ drop 14 text)
is_opened text rest h = go (opens text) refl h
  where
    go : (t : Bool) → opens text ≡ t → ◌≡◌ {A = Option (List ℕ)} (Some rest) (cond t (Some (drop 14 text)) None) → (opens text ≡ true) × (rest ≡ drop 14 text)
    go true e f = (e, ap rest_or f)
    go false e f = absurd (none-some rest (sym f))
