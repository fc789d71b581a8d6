-- A text line by line.
use Prim.Native.Nat.{ℕ, suc, ◌+◌, ◌≤◌, ◌<◌}
use mathlib.Core.Bool.{Bool, true, false, cond, not}
use mathlib.Core.List.{List, [], ◌∷◌}
use mathlib.Core.Path.{◌≡◌, refl, sym}
use native.Mathlib.Numerals.{one-add}
use native.Mathlib.Omega.{arith}
use lib.Dec.{eqb, ltb}
use lib.ListN.{length, take, drop, drop_of_length-le}
use borrow.Author.Tests.{ltb-true, ltb-false}
use Rattle.std.specs.Prelude.{Some, None}
use Rattle.std.specs.List.{position, position_or_len}
use Rattle.std.proofs.lemmas.Option.{none-some, cond_some}
use Rattle.session.specs.Text.{longer, lines_of, line_length}

-- how far the first line goes: behind its newline, or to the end
abbrev is_newline : ℕ → Bool
is_newline b = eqb b 10

behind_newline : (s : List ℕ) (i : ℕ) → position_or_len is_newline s ≡ i → i < length s → line_length s ≡ i + 1
unfolding line_length
behind_newline [] i e h = absurd (omega arith)
behind_newline (b ∷ s) i e h = go (eqb b 10) (behind_newline s (position_or_len is_newline s) refl) e
  where
    n : ℕ
    n = position_or_len is_newline s

    go : (t : Bool) → (n < length s → line_length s ≡ n + 1) → cond (not t) (1 + n) 0 ≡ i → cond t 1 (1 + line_length s) ≡ i + 1
    go true on e = omega arith
    go false on e = omega (arith, on (omega arith))

to_end : (s : List ℕ) → length s ≤ position_or_len is_newline s → line_length s ≡ length s
unfolding line_length
to_end [] h = refl
to_end (b ∷ s) h = go (eqb b 10) (to_end s) h
  where
    n : ℕ
    n = position_or_len is_newline s

    go : (t : Bool) → (length s ≤ n → line_length s ≡ length s) → suc (length s) ≤ cond (not t) (1 + n) 0 → cond t 1 (1 + line_length s) ≡ suc (length s)
    go true on h = absurd (omega arith)
    go false on h = omega (arith, on (omega arith))

pub line_newline : (s : List ℕ) (i : ℕ) → position is_newline s ≡ Some i → line_length s ≡ i + 1
line_newline s i h =
    let p = cond_some (ltb (position_or_len is_newline s) (length s)) (position_or_len is_newline s) i h in
    behind_newline s i p.1 (rw (← p.1) (ltb-true _ _ p.0))

pub line_last : (s : List ℕ) → position is_newline s ≡ None → line_length s ≡ length s
line_last s h = go (ltb (position_or_len is_newline s) (length s)) refl h
  where
    n : ℕ
    n = position_or_len is_newline s

    go : (u : Bool) → ltb n (length s) ≡ u → cond u (Some n) None ≡ None → line_length s ≡ length s
    go true f e = absurd (none-some n (sym e))
    go false f e = to_end s (ltb-false _ _ f)

pub line_within : (l : List ℕ) → line_length l ≤ length l
unfolding line_length
line_within [] = omega arith
line_within (b ∷ l) = go (eqb b 10) (line_within l)
  where
    go : (t : Bool) → line_length l ≤ length l → cond t 1 (1 + line_length l) ≤ suc (length l)
    go true h = omega arith
    go false h = omega arith

line_some : (b : ℕ) (l : List ℕ) → 0 < line_length (b ∷ l)
unfolding line_length
line_some b l = go (eqb b 10)
  where
    go : (t : Bool) → 0 < cond t 1 (1 + line_length l)
    go true = omega arith
    go false = omega arith

-- the first line and the others
lines_first : (b : ℕ) (l : List ℕ) → lines_of (b ∷ l) ≡ take (line_length (b ∷ l)) (b ∷ l) ∷ lines_of (drop (line_length (b ∷ l)) (b ∷ l))
unfolding lines_of longer line_length
lines_first b [] = go (eqb b 10)
  where
    go : (t : Bool) → cond t ((b ∷ []) ∷ []) ((b ∷ []) ∷ []) ≡ take (cond t 1 (1 + 0)) (b ∷ []) ∷ lines_of (drop (cond t 1 (1 + 0)) (b ∷ []))
    go true = refl
    go false = refl
lines_first b (d ∷ l) = go (eqb b 10) (lines_first d l)
  where
    n : ℕ
    n = line_length (d ∷ l)

    go :
        (t : Bool) → lines_of (d ∷ l) ≡ take n (d ∷ l) ∷ lines_of (drop n (d ∷ l))
        → cond t ((b ∷ []) ∷ lines_of (d ∷ l)) (longer b (lines_of (d ∷ l)))
        ≡ take (cond t 1 (1 + n)) (b ∷ d ∷ l) ∷ lines_of (drop (cond t 1 (1 + n)) (b ∷ d ∷ l))
    go true e = refl
    go false e = rw (one-add n, e)

-- the same of a text that is not at its end
pub line_positive : (l : List ℕ) → 0 < length l → 0 < line_length l
line_positive [] h = absurd (omega arith)
line_positive (b ∷ l) h = line_some b l

lines_split : (l : List ℕ) → 0 < length l → lines_of l ≡ take (line_length l) l ∷ lines_of (drop (line_length l) l)
lines_split [] h = absurd (omega arith)
lines_split (b ∷ l) h = lines_first b l

pub no_lines : (l : List ℕ) → length l ≡ 0 → lines_of l ≡ []
unfolding lines_of
no_lines [] h = refl
no_lines (b ∷ l) h = absurd (omega arith)

-- the same behind the end of a text
pub no_lines_lem : (s : List ℕ) (place : ℕ) → length s ≤ place → lines_of (drop place s) ≡ []
unfolding lines_of
no_lines_lem s place h = rw (drop_of_length-le s h)

-- a text cut behind its first line
pub next_lines : (l : List ℕ) → 0 < length l → (first others : List ℕ) → first ≡ take (line_length l) l → others ≡ drop (line_length l) l → first ∷ lines_of others ≡ lines_of l
next_lines l h first others e f = rw (e, f) (sym (lines_split l h))
