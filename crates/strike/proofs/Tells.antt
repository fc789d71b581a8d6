-- A group ends one byte at the most, so that the struck byte's event is all that it tells.
use Prim.Native.Nat.{suc, ◌+◌, ◌≤◌, ◌<◌}
use mathlib.Core.Bool.{Bool, true, false, cond, not, ◌&&◌, ◌||◌, false≢true}
use mathlib.Core.List.{List, [], ◌∷◌}
use mathlib.Core.Path.{◌≡◌, refl, sym, ◌∙◌, ap}
use native.Mathlib.Omega.{arith}
use lib.ListN.{length}
use borrow.Author.Tests.{eqb-true, ne_eqb}
use Rattle.std.specs.Prelude.{Option, None}
use Rattle.checks.proofs.Tests.{both}
use Rattle.clock.specs.declared.time.Time.{Time}
use Rattle.controller.specs.declared.event.Event.{Event}
use Rattle.controller.specs.declared.event.Stepped.{Stepped}
use Rattle.controller.specs.Bits.{Outcome, or_else, edge}
use Rattle.strike.specs.Calls.{Machine}
use Rattle.strike.specs.Marks.{Bit, bit, kept_bits}
use Rattle.strike.specs.Line.{Line, takes, is_whole, value, past, amid, goes_on, may_strike, allowed_taken, is_struck, taken_bit, follow_bit, allowed_bit, allowed_bits}
use Rattle.strike.specs.Strike.{ends_struck}
use Rattle.strike.proofs.Bytes.{state_of, byte_on}
use Rattle.strike.proofs.Bits.{few_bits, edge_idle, edge_more, edge_whole}
use Rattle.strike.proofs.Runs.{Runs, kept_under, machine, goes_on_lem, move, all_bits, one_bit}

-- what an edge tells, and edges one after another
abbrev pub say : Bool → Time → Machine → Option Event
say b now m = (edge m.state b now m.ram m.icons).event

unfoldable pub tells : List Bool → Time → Machine → Option Event
tells [] now m = None
tells (b ∷ bs) now m = or_else (say b now m) (tells bs now (move b now m))

-- a bit ends a byte
abbrev ends : Line → Bool → Bool
ends l b = is_whole (b ∷ l.bits) && takes l

module _ (now : Time) (l : Line) (m n : Machine) (w : Runs true now l m n) (b : Bool) where
  full_few : length l.bits < 8
  full_few = few_bits w.c l.bits w.x w.full_ok

  -- a bit that ends no byte tells nothing
  silent : ends l b ≡ false → say b now m ≡ None
  silent e = ap (say b now) w.full_is ∙ go (takes l) (is_whole (b ∷ l.bits)) refl refl e
    where
      go : (t v : Bool) → takes l ≡ t → is_whole (b ∷ l.bits) ≡ v → v && t ≡ false → say b now (machine (state_of w.c l.bits w.x) w.ram w.icons) ≡ None
      go false v h q e = ap (λ (o : Outcome). o.event) (edge_idle l w.c l.bits w.x w.alike.tied b now w.ram w.icons h)
      go true false h q e = ap (λ (o : Outcome). o.event) (edge_more l w.c l.bits w.x w.alike.tied b now w.ram w.icons h full_few q)
      go true true h q e = absurd (false≢true (sym e))

  -- a bit that stays tells the same in both runs
  same_event : allowed_bit l (bit b false) ≡ true → say b now n ≡ say b now m
  unfolding allowed_bit allowed_taken is_struck
  same_event ok = ap (say b now) w.kept_is ∙ go (takes l) (is_whole (b ∷ l.bits)) refl refl ok ∙ sym (ap (say b now) w.full_is)
    where
      full : Machine
      full = machine (state_of w.c l.bits w.x) w.ram w.icons

      kept : List Bool → Machine
      kept bits = machine (state_of w.c bits w.y) w.ram w.icons

      event_of : Outcome → Option Event
      event_of o = o.event

      go : (t v : Bool) → takes l ≡ t → is_whole (b ∷ l.bits) ≡ v → cond t (goes_on l.bits l.struck false && (not (false && v) || may_strike l (value (b ∷ l.bits)))) true ≡ true
          → say b now (kept (kept_under l)) ≡ say b now full
      go false v h q ok =
          ap event_of (edge_idle l w.c (kept_under l) w.y w.alike.tied b now w.ram w.icons h)
          ∙ sym (ap event_of (edge_idle l w.c l.bits w.x w.alike.tied b now w.ram w.icons h))
      go true false h q ok =
          ap (λ (bs : List Bool). say b now (kept bs)) (goes_on_lem l.bits l.struck false (both _ true ok).0)
          ∙ ap event_of (edge_more l w.c l.bits w.y w.alike.tied b now w.ram w.icons h full_few q)
          ∙ sym (ap event_of (edge_more l w.c l.bits w.x w.alike.tied b now w.ram w.icons h full_few q))
      go true true h q ok =
          let v = value (b ∷ l.bits) in
          ap (λ (bs : List Bool). say b now (kept bs)) (goes_on_lem l.bits l.struck false (both _ true ok).0)
          ∙ ap event_of (edge_whole l w.c l.bits w.y w.alike.tied b now w.ram w.icons h full_few q)
          ∙ ap (λ (r : Stepped). r.event) (byte_on w.c v now w.ram w.icons w.y)
          ∙ sym (ap event_of (edge_whole l w.c l.bits w.x w.alike.tied b now w.ram w.icons h full_few q)
          ∙ ap (λ (r : Stepped). r.event) (byte_on w.c v now w.ram w.icons w.x))

-- ---- how many bits are under way
module _ (l : Line) (b k : Bool) where
  grown : length (follow_bit l (bit b k)).bits ≤ suc (length l.bits)
  unfolding follow_bit taken_bit past amid
  grown = go (takes l) (is_whole (b ∷ l.bits))
    where
      go : (on w : Bool) → length (cond on (cond w (past l (value (b ∷ l.bits))) (amid l (b ∷ l.bits) k)) l).bits ≤ suc (length l.bits)
      go true true = omega arith
      go true false = omega arith
      go false w = omega arith

  -- a byte that ends had seven, and leaves none
  ended : ends l b ≡ true → (length l.bits ≡ 7) × (length (follow_bit l (bit b k)).bits ≡ 0)
  unfolding follow_bit taken_bit past is_whole
  ended h = let h' = both (is_whole (b ∷ l.bits)) (takes l) h in let seven = eqb-true (suc (length l.bits)) 8 h'.0 in (omega arith, rw (h'.1, h'.0))

  not_yet : length l.bits ≤ 6 → ends l b ≡ false
  unfolding is_whole
  not_yet h = rw (ne_eqb (suc (length l.bits)) 8 (λ e. omega arith))

module _ (now : Time) where
  -- a group that is too short to end a byte
  record Quiet (l : Line) (bs : List Bit) (m n : Machine) : Type 0 where
    line : ends_struck l bs ≡ false
    full : tells (all_bits bs) now m ≡ None
    kept : tells (kept_bits bs) now n ≡ None

  quiet : (bs : List Bit) (l : Line) (m n : Machine) → Runs true now l m n → allowed_bits l bs ≡ true → length l.bits + length bs ≤ 7 → Quiet l bs m n
  unfolding ends_struck tells all_bits kept_bits allowed_bits or_else
  quiet [] l m n w h few = record { line = refl; full = refl; kept = refl }
  quiet (bit b k ∷ bs) l m n w h few =
      let h' = both (allowed_bit l (bit b k)) _ h in
      go k h'.0 (quiet bs (follow_bit l (bit b k)) (move b now m) (cond k n (move b now n)) (one_bit now l m n w b k h'.0) h'.1 (omega (arith, grown l b k)))
    where
      no_end : ends l b ≡ false
      no_end = not_yet l b false (omega arith)

      unsaid : say b now m ≡ None
      unsaid = silent now l m n w b no_end

      go : (k : Bool) → allowed_bit l (bit b k) ≡ true → Quiet (follow_bit l (bit b k)) bs (move b now m) (cond k n (move b now n)) → Quiet l (bit b k ∷ bs) m n
      go true ok q = record { line = rw no_end q.line; full = rw unsaid q.full; kept = q.kept }
      go false ok q = record { line = rw no_end q.line; full = rw unsaid q.full; kept = rw (same_event now l m n w b ok, unsaid) q.kept }

  pub told : (bs : List Bit) (l : Line) (m n : Machine) → Runs true now l m n → allowed_bits l bs ≡ true → length l.bits + length bs ≤ 15
      → tells (kept_bits bs) now n ≡ cond (ends_struck l bs) None (tells (all_bits bs) now m)
  unfolding ends_struck tells all_bits kept_bits allowed_bits or_else
  told [] l m n w h few = refl
  told (bit b k ∷ bs) l m n w h few =
      let h' = both (allowed_bit l (bit b k)) _ h in
      let on = one_bit now l m n w b k h'.0 in
      go k (ends l b) refl h'.0
      (λ e. quiet bs _ _ _ on h'.1 (let z = ended l b k e in omega arith))
      (told bs (follow_bit l (bit b k)) (move b now m) (cond k n (move b now n)) on h'.1 (omega (arith, grown l b k)))
    where
      go : (k : Bool) (e : Bool) → ends l b ≡ e → allowed_bit l (bit b k) ≡ true
          → (ends l b ≡ true → Quiet (follow_bit l (bit b k)) bs (move b now m) (cond k n (move b now n)))
          → tells (kept_bits bs) now (cond k n (move b now n)) ≡ cond (ends_struck (follow_bit l (bit b k)) bs) None (tells (all_bits bs) now (move b now m))
          → tells (kept_bits (bit b k ∷ bs)) now n ≡ cond ((e && k) || ends_struck (follow_bit l (bit b k)) bs) None (or_else (say b now m) (tells (all_bits bs) now (move b now m)))
      go true true e ok q next = (q e).kept
      go false true e ok q next = let z = q e in rw (z.line, z.full, z.kept, same_event now l m n w b ok)
      go true false e ok q next = rw (silent now l m n w b e) next
      go false false e ok q next = rw (same_event now l m n w b ok, silent now l m n w b e) next
