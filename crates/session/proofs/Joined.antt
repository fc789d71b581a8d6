-- The lines of a text joined again, and what is left when some of them are struck: its lines are the lines that stay.
use Prim.Native.Nat.{ℕ, ◌≤◌}
use mathlib.Core.Bool.{Bool, true, false, cond, not, ◌&&◌, false≢true}
use mathlib.Core.List.{List, [], ◌∷◌, ◌++◌, append-nil}
use mathlib.Core.Logic.{◌⊎◌, inl, inr}
use mathlib.Core.Path.{◌≡◌, refl, ◌∙◌, ap}
use native.Mathlib.Nat.{le_refl}
use native.Mathlib.Omega.{arith}
use lib.Dec.{leb, eqb}
use lib.ListN.{length, drop, length-append, length-drop}
use lib.Seq.{drop-append_seam}
use borrow.Author.Tests.{leb-true, le-leb, eq-eqb, not-true}
use Rattle.checks.proofs.Tests.{both}
use Rattle.std.specs.Prelude.{nat_eq}
use Rattle.std.specs.List.{starts_with}
use Rattle.session.specs.Text.{names_line, opens, longer, lines_of}
use Rattle.session.specs.Struck.{first, others, kept_lines, joined, lines_behind, struck_text}

-- ---- lines: a newline at the end of each and nowhere else; the last may lack it
no_newline : List ℕ → Bool
no_newline [] = true
no_newline (b ∷ l) = not (eqb b 10) && no_newline l

is_empty : List ℕ → Bool
is_empty [] = true
is_empty (b ∷ l) = false

ended : List ℕ → Bool
ended [] = false
ended (b ∷ l) = cond (eqb b 10) (is_empty l) (ended l)

unended : List ℕ → Bool
unended [] = false
unended (b ∷ l) = no_newline (b ∷ l)

Lines : List (List ℕ) → Type 0
Lines [] = Unit
Lines (l ∷ ls) = ((ended l ≡ true) × Lines ls) ⊎ ((unended l ≡ true) × (ls ≡ []))

-- an ended line is the first line of what it begins
ended_first : (l s : List ℕ) → ended l ≡ true → lines_of (l ++ s) ≡ l ∷ lines_of s
unfolding lines_of longer ended is_empty
ended_first [] s h = absurd (false≢true h)
ended_first (b ∷ l) s h = go (eqb b 10) l h (ended_first l s)
  where
    go : (t : Bool) (l : List ℕ) → cond t (is_empty l) (ended l) ≡ true → (ended l ≡ true → lines_of (l ++ s) ≡ l ∷ lines_of s)
        → cond t ((b ∷ []) ∷ lines_of (l ++ s)) (longer b (lines_of (l ++ s))) ≡ (b ∷ l) ∷ lines_of s
    go true [] h on = refl
    go true (c ∷ l) h on = absurd (false≢true h)
    go false l h on = ap (longer b) (on h)

-- an unended line is the only one
unended_only : (l : List ℕ) → unended l ≡ true → lines_of l ≡ l ∷ []
unfolding lines_of longer unended no_newline
unended_only [] h = absurd (false≢true h)
unended_only (b ∷ []) h = rw (not-true (eqb b 10) (both (not (eqb b 10)) true h).0)
unended_only (b ∷ c ∷ l) h =
    let p = both (not (eqb b 10)) (no_newline (c ∷ l)) h in
    rw (not-true (eqb b 10) p.0) (ap (longer b) (unended_only (c ∷ l) p.1))

-- ---- the lines of a text are lines
longer_lines : (b : ℕ) (ls : List (List ℕ)) → eqb b 10 ≡ false → Lines ls → Lines (longer b ls)
unfolding longer Lines ended unended no_newline
longer_lines b [] e g = inr (rw e, refl)
longer_lines b (l ∷ ls) e (inl p) = inl (rw e p.0, p.1)
longer_lines b ([] ∷ ls) e (inr p) = absurd (false≢true p.0)
longer_lines b ((c ∷ l) ∷ ls) e (inr p) = inr (rw e p.0, p.1)

lines_of_lem : (s : List ℕ) → Lines (lines_of s)
unfolding lines_of Lines ended is_empty
lines_of_lem [] = tt
lines_of_lem (b ∷ s) = go (eqb b 10) refl (lines_of_lem s)
  where
    go : (t : Bool) → eqb b 10 ≡ t → Lines (lines_of s) → Lines (cond t ((b ∷ []) ∷ lines_of s) (longer b (lines_of s)))
    go true e g = inl (rw e, g)
    go false e g = longer_lines b (lines_of s) e g

-- and so are those that stay
kept_lines_lem : (ls : List (List ℕ)) (ks : List Bool) → Lines ls → Lines (kept_lines ls ks)
unfolding kept_lines Lines
kept_lines_lem [] ks g = tt
kept_lines_lem (l ∷ ls) ks g = go (first ks) g (kept_lines_lem ls (others ks))
  where
    go : (k : Bool) → Lines (l ∷ ls) → (Lines ls → Lines (kept_lines ls (others ks))) → Lines (cond k (kept_lines ls (others ks)) (l ∷ kept_lines ls (others ks)))
    go true (inl p) on = on p.1
    go true (inr p) on = rw p.1 tt
    go false (inl p) on = inl (p.0, on p.1)
    go false (inr p) on = inr (p.0, rw p.1)

lines_joined : (ls : List (List ℕ)) → Lines ls → lines_of (joined ls) ≡ ls
unfolding Lines lines_of joined
lines_joined [] g = refl
lines_joined (l ∷ ls) (inl p) = ended_first l (joined ls) p.0 ∙ ap (λ (r : List (List ℕ)). l ∷ r) (lines_joined ls p.1)
lines_joined (l ∷ ls) (inr p) = rw (p.1, append-nil l) (unended_only l p.0)

-- ---- how long it is
joined_longer : (b : ℕ) (ls : List (List ℕ)) → joined (longer b ls) ≡ b ∷ joined ls
unfolding joined longer
joined_longer b [] = refl
joined_longer b (l ∷ ls) = refl

joined_lines : (s : List ℕ) → joined (lines_of s) ≡ s
unfolding joined lines_of
joined_lines [] = refl
joined_lines (b ∷ s) = go (eqb b 10) ∙ ap (λ (r : List ℕ). b ∷ r) (joined_lines s)
  where
    go : (t : Bool) → joined (cond t ((b ∷ []) ∷ lines_of s) (longer b (lines_of s))) ≡ b ∷ joined (lines_of s)
    go true = refl
    go false = joined_longer b (lines_of s)

kept_shorter : (ls : List (List ℕ)) (ks : List Bool) → length (joined (kept_lines ls ks)) ≤ length (joined ls)
unfolding joined kept_lines
kept_shorter [] ks = le_refl 0
kept_shorter (l ∷ ls) ks = go (first ks) (kept_shorter ls (others ks))
  where
    go : (k : Bool) → length (joined (kept_lines ls (others ks))) ≤ length (joined ls) → length (joined (cond k (kept_lines ls (others ks)) (l ∷ kept_lines ls (others ks)))) ≤ length (l ++ joined ls)
    go true h = omega (arith, length-append l (joined ls))
    go false h = omega (arith, length-append l (joined ls), length-append l (joined (kept_lines ls (others ks))))

-- ---- the text that is left
starts_itself : (word s : List ℕ) → starts_with nat_eq (word ++ s) word ≡ true
starts_itself [] s = refl
starts_itself (w ∷ ws) s = rw (eq-eqb w w refl) (starts_itself ws s)

starts_long : (s word : List ℕ) → starts_with nat_eq s word ≡ true → length word ≤ length s
starts_long s [] h = omega arith
starts_long [] (w ∷ ws) h = absurd (false≢true h)
starts_long (b ∷ s) (w ∷ ws) h = let le = starts_long s ws (both (eqb w b) (starts_with nat_eq s ws) h).1 in omega arith

module _ (text : List ℕ) (ks : List Bool) where
  pub struck_lines : lines_behind (struck_text text ks) ≡ kept_lines (lines_behind text) ks
  unfolding struck_text
  struck_lines =
      ap lines_of (drop-append_seam names_line (joined (kept_lines (lines_behind text) ks)))
      ∙ lines_joined (kept_lines (lines_behind text) ks) (kept_lines_lem (lines_behind text) ks (lines_of_lem (drop (length names_line) text)))

  pub struck_opens : opens text ≡ true → opens (struck_text text ks) ≡ true
  unfolding opens struck_text
  struck_opens h =
      let p = both (leb (length text) 65536) (starts_with nat_eq text names_line) h in
      let rest = drop (length names_line) text in
      let kept = joined (kept_lines (lines_behind text) ks) in
      let few : length (names_line ++ kept) ≤ 65536 =
      omega (arith, leb-true (length text) 65536 p.0, starts_long text names_line p.1, kept_shorter (lines_behind text) ks, ap length (joined_lines rest), length-drop (length names_line) text, length-append names_line kept) in
      rw (le-leb (length (names_line ++ kept)) 65536 few, starts_itself names_line kept)
