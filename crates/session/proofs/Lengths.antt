-- No listing is longer than `room`: a drive line of ten bytes or more gives ninety at the most. So what a session writes is its
-- whole listing, and a caller may lend just that part of its bytes on.
use Prim.Native.Nat.{ℕ, zero, suc, ◌+◌, ◌*◌, ◌≤◌, ◌<◌}
use mathlib.Core.Bool.{Bool, true, false, cond}
use mathlib.Core.List.{List, [], ◌∷◌, ◌++◌}
use Rattle.std.specs.Prelude.{Option, None, Some, option_map, option_and_then, nat_eq}
use lib.IntN.{pos}
use mathlib.Core.Path.{◌≡◌, refl, sym, ◌∙◌, ap, subst}
use native.Mathlib.Nat.{zero-add}
use native.Mathlib.Omega.{arith}
use lib.Dec.{leb, eqb}
use lib.ListN.{length, get_or, drop, length-append, length-drop}
use borrow.Author.Tests.{leb-true, le-leb}
use Rattle.checks.specs.Checks.{unless_refused}
use Rattle.checks.proofs.Tests.{both}
use Rattle.clock.specs.declared.time.Time.{Time}
use Rattle.clock.specs.Time.{raw}
use Rattle.scan.specs.Drive.{active_in}
use Rattle.controller.specs.Look.{drive_of}
use Rattle.strike.specs.Calls.{Call, Machine, start, reply}
use Rattle.decimal.specs.Decimal.{Read}
use Rattle.decimal.specs.Decimal.{field_at}
use Rattle.decimal.specs.Print.{decimal, put}
use Rattle.decimal.proofs.Printing.{decimal_small, decimal_few, decimal_three, put_length, put_within, put_whole}
use Rattle.decimal.proofs.Ends.{field_ends, field_behind}
use Rattle.session.specs.declared.line.Action.{Action}
use Rattle.session.specs.declared.line.Line.{Line}
use Rattle.session.specs.declared.listing.Row.{Row}
use Rattle.session.specs.declared.session.Ended.{Ended}
use Rattle.std.specs.List.{starts_with}
use Rattle.session.specs.Text.{names_line, opens, longer, lines_of}
use Rattle.session.specs.Line.{byte_word, dc_word, select_word, supply_word, temp_word, deadline_word, update_word, drive_word, up_to, value_at, below_zero, temperature_at, look_of, action_of, line_with, line_of}
use Rattle.session.specs.Listing.{field_text, inverted_field, frame_field, active_below, lit_of, row_of, drive_line, refusal_line, refusal_text, listing_names}
use Rattle.session.specs.Session.{Turn, Run, Answer, room, check_of, wait_of, call_of, due_call, shown_of, moment_of, turn_of, onward, run_from, run_of, listing, laid, session, answered}

-- fields
field_few : (f : Option ℕ) (end : ℕ) → length (field_text f end) ≤ 21
field_few (Some n) end = omega (arith, decimal_few n, length-append (decimal n) (end ∷ []))
field_few None end = omega arith

number_few : (n : ℕ) (end : ℕ) → n < 1000 → length (field_text (Some n) end) ≤ 4
number_few n end h = omega (arith, decimal_three n h, length-append (decimal n) (end ∷ []))

lit_few : (words : List ℕ) (n : ℕ) → active_below words n ≤ n
unfolding active_below
lit_few words zero = omega arith
lit_few words (suc n) = go (active_in words n) (lit_few words n)
  where
    go : (t : Bool) → active_below words n ≤ n → active_below words n + cond t 1 0 ≤ suc n
    go true h = omega arith
    go false h = omega arith

lit_small : (words : List ℕ) → lit_of words < 1000
unfolding lit_of
lit_small words = omega (arith, lit_few words 128)

inverted_few : (t : Bool) (end : ℕ) → length (field_text (inverted_field t) end) ≤ 2
inverted_few true end = rw (decimal_small 1 (omega arith)) (omega arith)
inverted_few false end = rw (decimal_small 0 (omega arith)) (omega arith)

sum_six : (a b c d e f : List ℕ) → length (a ++ (b ++ (c ++ (d ++ (e ++ f))))) ≡ length a + (length b + (length c + (length d + (length e + length f))))
sum_six a b c d e f = simp length-append

sum_four : (a b c d : List ℕ) → length (a ++ (b ++ (c ++ d))) ≡ length a + (length b + (length c + length d))
sum_four a b c d = simp length-append

drive_few : (us : ℕ) (r : Row) → r.lit < 1000 → length (drive_line us r) ≤ 90
unfolding drive_line
drive_few us r h =
    rw sum_six
    (omega (arith, field_few (Some us) 32, field_few r.common 32, inverted_few r.inverted 32, field_few r.v0 32, number_few r.lit 32 h, field_few (frame_field r.common r.frame) 10))

pub refusal_few : (r : Option (ℕ × ℕ)) → length (refusal_text r) ≤ 55
unfolding refusal_text refusal_line
refusal_few None = omega arith
refusal_few (Some at) = rw sum_four (omega (arith, field_few (Some at.0) 32, field_few (Some at.1) 10))

-- what an action may add to the listing
ninety : Action → ℕ
ninety (Action.Byte value) = 0
ninety (Action.Data on) = 0
ninety (Action.Select on) = 0
ninety (Action.Supply millivolts) = 0
ninety (Action.Temperature millicelsius) = 0
ninety Action.Deadline = 0
ninety Action.Update = 0
ninety Action.Drive = 90

-- and what is read; a malformed line adds nothing
by_action : Option Action → ℕ
by_action None = 0
by_action (Some a) = ninety a

by_line : Option Line → ℕ
by_line None = 0
by_line (Some l) = ninety l.action

-- it is little beside its line: a drive has ten bytes, two of them before its word
record Fair (s : List ℕ) (a : Option Action) : Type 0 where
  fair : by_action a ≤ 9 * (length s + 2)

module _ (s : List ℕ) where
  pick : (t : Bool) {a b : Option Action} → Fair s a → Fair s b → Fair s (cond t a b)
  pick true f g = f
  pick false f g = g

  malformed : Fair s None
  unfolding by_action
  malformed = record { fair = omega arith }

  idle : {a : Action} → ninety a ≡ 0 → Fair s (Some a)
  unfolding by_action
  idle h = record { fair = rw h (omega arith) }

  idle_of : (f : ℕ → Action) → ((value : ℕ) → ninety (f value) ≡ 0) → (o : Option ℕ) → Fair s (option_map f o)
  idle_of f h None = malformed
  idle_of f h (Some value) = idle (h value)

  below_fair : (o : Option ℕ) → Fair s (option_and_then below_zero o)
  unfolding ninety
  below_fair None = malformed
  below_fair (Some value) = pick (eqb value 0) malformed (idle refl)

  drive_fair : (o : Option Read) → field_at s 6 10 ≡ o → Fair s (option_map (λ value. Action.Drive) (up_to 0 o))
  unfolding ninety by_action
  drive_fair None e = malformed
  drive_fair (Some n) e = go (leb n.value 0)
    where
      go : (t : Bool) → Fair s (option_map (λ value. Action.Drive) (cond t (Some n.value) None))
      go true = record { fair = omega (arith, field_behind s 6 10 n e, (field_ends s 6 10 n e).within) }
      go false = malformed

  action_fair : Fair s (action_of s)
  unfolding action_of look_of temperature_at value_at ninety
  action_fair =
      pick (starts_with nat_eq s byte_word) (idle_of Action.Byte (λ value. refl) (value_at s 5 255))
      (pick (starts_with nat_eq s dc_word) (idle_of (λ value. Action.Data (eqb value 1)) (λ value. refl) (value_at s 3 1))
      (pick (starts_with nat_eq s select_word) (idle_of (λ value. Action.Select (eqb value 1)) (λ value. refl) (value_at s 7 1))
      (pick (starts_with nat_eq s supply_word) (idle_of Action.Supply (λ value. refl) (value_at s 7 65535))
      (pick (starts_with nat_eq s temp_word)
      (pick (eqb (get_or s 5 0) 45) (below_fair (value_at s 6 2147483648)) (idle_of (λ value. Action.Temperature (pos value)) (λ value. refl) (value_at s 5 2147483647)))
      (pick (starts_with nat_eq s deadline_word) (idle_of (λ value. Action.Deadline) (λ value. refl) (value_at s 9 0))
      (pick (starts_with nat_eq s update_word) (idle_of (λ value. Action.Update) (λ value. refl) (value_at s 7 0))
      (pick (starts_with nat_eq s drive_word) (drive_fair (field_at s 6 10) refl) malformed)))))))

line_fair : (l : List ℕ) → by_line (line_of l) ≤ 9 * length l
unfolding line_of by_line by_action
line_fair l = go (field_at l 0 32) refl
  where
    go : (o : Option Read) → field_at l 0 32 ≡ o → by_line (line_with l o) ≤ 9 * length l
    go None e = omega arith
    go (Some n) e =
        fair (action_of (drop n.next l)) (omega (arith, length-drop n.next l, field_behind l 0 32 n e, (field_ends l 0 32 n e).within)) (action_fair (drop n.next l))
      where
        fair : (a : Option Action) → length (drop n.next l) + 2 ≤ length l → Fair (drop n.next l) a → by_line (option_map (λ (action : Action). record { us = n.value; action = action }) a) ≤ 9 * length l
        fair None h f = omega arith
        fair (Some a) h f = omega (arith, h, f.fair)

-- what a line adds
shown_few : (us : ℕ) (m : Machine) (now : Time) (a : Action) → length (shown_of us (call_of (wait_of m) now a) m) ≤ ninety a
unfolding call_of due_call reply ninety
shown_few us m now (Action.Byte value) = omega arith
shown_few us m now (Action.Data on) = omega arith
shown_few us m now (Action.Select on) = omega arith
shown_few us m now (Action.Supply millivolts) = omega arith
shown_few us m now (Action.Temperature millicelsius) = omega arith
shown_few us m now Action.Deadline = due (wait_of m)
  where
    due : (wait : Option Time) → length (shown_of us (due_call wait now) m) ≤ 0
    due None = omega arith
    due (Some t) = ended (leb (raw t) (raw now))
      where
        ended : (b : Bool) → length (shown_of us (cond b (Some (Call.Deadline t)) None) m) ≤ 0
        ended true = omega arith
        ended false = omega arith
shown_few us m now Action.Update = omega arith
shown_few us m now Action.Drive =
    let d = drive_of m.state now m.ram m.icons in
    drive_few us (row_of d.1.0 d.1.1) (lit_small d.1.0.segments)

turn_few : (l : Option Line) (m : Machine) → length (turn_of l m).shown ≤ by_line l
unfolding turn_of by_line
turn_few None m = omega arith
turn_few (Some l) m = go (check_of m (moment_of l.us) l.action) _ _ (shown_few l.us m (moment_of l.us) l.action)
  where
    go : (c : Option ℕ) (shown : List ℕ) (n : ℕ) → length shown ≤ n → length (unless_refused c shown []) ≤ n
    go None shown n h = h
    go (Some k) shown n h = omega arith

-- all lines
total : List (List ℕ) → ℕ
total [] = 0
total (l ∷ ls) = length l + total ls

total_lines : (s : List ℕ) → total (lines_of s) ≡ length s
unfolding total lines_of longer
total_lines [] = refl
total_lines (b ∷ s) = go (eqb b 10) (total_lines s)
  where
    more : (ls : List (List ℕ)) → total (longer b ls) ≡ 1 + total ls
    more [] = refl
    more (l ∷ ls) = omega arith

    go : (t : Bool) → total (lines_of s) ≡ length s → total (cond t ((b ∷ []) ∷ lines_of s) (longer b (lines_of s))) ≡ suc (length s)
    go true e = omega arith
    go false e = omega (arith, more (lines_of s))

rows_few : (line : ℕ) (ls : List (List ℕ)) (m : Machine) → length (run_from line ls m).rows ≤ 9 * total ls
unfolding total run_from
rows_few line [] m = omega arith
rows_few line (l ∷ ls) m =
    let t = turn_of (line_of l) m in
    go t.refusal t (omega (arith, turn_few (line_of l) m, line_fair l)) (rows_few (line + 1) ls t.machine)
  where
    go :
        (c : Option ℕ) (t : Turn) → length t.shown ≤ 9 * length l → length (run_from (line + 1) ls t.machine).rows ≤ 9 * total ls
        → length (onward c line t (run_from (line + 1) ls)).rows ≤ 9 * (length l + total ls)
    go None t h k = omega (arith, length-append t.shown (run_from (line + 1) ls t.machine).rows)
    go (Some number) t h k = omega arith

short : (text : List ℕ) → opens text ≡ true → length text ≤ 65536
unfolding opens
short text h = leb-true (length text) 65536 (both (leb (length text) 65536) (starts_with nat_eq text names_line) h).0

-- no listing is longer than `room`
pub listing_fits : (text : List ℕ) (m : Machine) → length (listing (run_of text m)) ≤ room
unfolding listing run_of
listing_fits text m = go (opens text) refl
  where
    run : Bool → Run
    run t = cond t (run_from 2 (lines_of (drop (length names_line) text)) m) (record { machine = m; rows = []; refusal = Some (9, 1) })

    go : (t : Bool) → opens text ≡ t → length (listing_names ++ (run t).rows ++ refusal_text (run t).refusal) ≤ 589824
    go true h =
        let rest = drop 14 text in
        let r = run_from 2 (lines_of rest) m in
        simp length-append (omega (arith, short text h, rows_few 2 (lines_of rest) m, total_lines rest, length-drop 14 text, refusal_few r.refusal))
    go false h = simp length-append (omega (arith, refusal_few (Some (9, 1))))

-- so it stands whole at the start of lent bytes that are enough, the others as they were
pub listing_whole :
    (text ram icons out : List ℕ) → room ≤ length out
    → ((session text ram icons out).out ≡ listing (run_of text (start ram icons)) ++ drop (length (listing (run_of text (start ram icons)))) out)
    × ((session text ram icons out).written ≡ length (listing (run_of text (start ram icons))))
unfolding session laid
listing_whole text ram icons out h =
    let l = listing (run_of text (start ram icons)) in
    let e = put_whole l out 0 (omega (arith, listing_fits text (start ram icons))) in
    rw (le-leb room (length out) h)
    (ap (λ (p : List ℕ × ℕ). p.0) e ∙ ap (λ (n : ℕ). l ++ drop n out) (zero-add (length l)), ap (λ (p : List ℕ × ℕ). p.1) e ∙ zero-add (length l))

-- the bytes written lie within the lent ones
within : (text ram icons out : List ℕ) → (session text ram icons out).written ≤ length (session text ram icons out).out
unfolding session laid
within text ram icons out = go (leb room (length out))
  where
    p : List ℕ × ℕ
    p = put (out, 0) (listing (run_of text (start ram icons)))

    r : Run
    r = run_of text (start ram icons)

    answer : Bool → Answer
    answer t = cond t (record { refusal = r.refusal; machine = r.machine; out = p.0; written = p.1 }) (record { refusal = Some (19, 1); machine = start ram icons; out = out; written = 0 })

    go : (t : Bool) → (answer t).written ≤ length (answer t).out
    go true = rw (put_length (out, 0) (listing r)) (put_within (out, 0) (listing r) (omega arith))
    go false = omega arith

pub written_fits :
    (r : Ended) (text ram icons out : List ℕ) {ram' icons' out' : List ℕ} → answered r ram' icons' out' ≡ session text ram icons out
    → r.written ≤ length out'
written_fits r text ram icons out e = subst (λ (a : Answer). a.written ≤ length a.out) (sym e) (within text ram icons out)
