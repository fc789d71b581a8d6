-- The law over texts: striking update lines, and lines `byte 227` where demand 3 allows it, leaves the listing as it is but for the
-- line number of a refusal.
use Prim.Native.Nat.{ℕ, ◌+◌, ◌*◌, ◌^◌, ◌≤◌}
use mathlib.Core.Bool.{Bool, true, false, cond, not, ◌&&◌, ◌||◌, false≢true}
use mathlib.Core.List.{List, [], ◌∷◌, ◌++◌}
use Rattle.std.specs.Prelude.{Option, None, Some}
use mathlib.Core.Path.{◌≡◌, refl, sym, ◌∙◌, ap, ap₂, subst}
use native.Mathlib.Omega.{arith}
use lib.Dec.{leb}
use lib.ListN.{replicate}
use borrow.Author.Tests.{leb-true, ltb-true, lt-ltb, not-true}
use Rattle.checks.specs.Checks.{row, first_of, unless_refused}
use Rattle.checks.proofs.Chains.{never, first_passed, row_passed}
use Rattle.checks.proofs.Tests.{both}
use Rattle.clock.specs.declared.time.Time.{Time}
use Rattle.clock.specs.Time.{raw, in_range}
use Rattle.scan.specs.Check.{memory_ok}
use Rattle.controller.specs.Check.{group_ok, check_state}
use Rattle.controller.specs.Bits.{unpacked, shift_in}
use Rattle.controller.specs.Supply.{select, command_data, set_supply, set_temperature, at_deadline}
use Rattle.controller.specs.Update.{update}
use Rattle.controller.specs.Look.{drive_of}
use Rattle.controller.proofs.Checks.{moment_alone, lent_alone, group_alone}
use Rattle.strike.specs.Calls.{Call, Reply, Machine, start, reply, after}
use Rattle.strike.specs.Marks.{Marked, marked, group_of, all_struck, emptied, plain, gone}
use Rattle.strike.specs.Line.{line_on, accepted, follow_call, follow, unmarked, allowed_group, allowed_call, allowed_one}
use Rattle.strike.specs.Line as calls
use Rattle.strike.specs.Strike.{compared, refusal, time_of}
use Rattle.strike.proofs.Struck.{Beside, at_start, step_call, step_gone, same_call, deadline_any, deadlines_same, full_wait, full_state, full_lengths, waits_same, memory_same}
use Rattle.session.specs.declared.line.Action.{Action}
use Rattle.session.specs.declared.line.Line.{Line}
use Rattle.session.specs.Line.{line_of}
use Rattle.session.specs.Listing.{listing_names, refusal_text}
use Rattle.session.specs.Session.{moment_of, wait_of, due_call, call_of, gives_moment, refusal_of, after_of, shown_by, shown_of, check_of, Turn, turn_of, Run, onward, run_from, run_of, listing}
use Rattle.session.specs.Struck.{first, others, kept_lines, lines_behind, struck_text, struck_of, stays, mark_of, may_mark, follow_mark, last_by, passes, allowed_line, allowed_lines, at_line, StruckText}
use Rattle.session.proofs.Joined.{struck_opens, struck_lines}

-- ---- replies that are compared refuse and show the same
refusal_compared : (r : Reply) → refusal (compared r) ≡ refusal r
unfolding compared
refusal_compared (Reply.Told r e) = refl
refusal_compared (Reply.Done r) = refl
refusal_compared (Reply.Counted r pieces) = refl
refusal_compared (Reply.Driven r d frame) = refl
refusal_compared (Reply.Painted r pixels) = refl
refusal_compared (Reply.Levels l) = refl

shown_compared : (us : ℕ) (r : Reply) → shown_by us (compared r) ≡ shown_by us r
unfolding compared
shown_compared us (Reply.Told r e) = refl
shown_compared us (Reply.Done r) = refl
shown_compared us (Reply.Counted r pieces) = refl
shown_compared us (Reply.Driven r d frame) = refl
shown_compared us (Reply.Painted r pixels) = refl
shown_compared us (Reply.Levels l) = refl

-- a moment not later than one in range is in range
earlier_in_range : (t now : Time) → raw t ≤ raw now → in_range now ≡ true → in_range t ≡ true
earlier_in_range t now le i = let h = ltb-true (raw now) (2 ^ 32 * 2 ^ 64) i in lt-ltb (raw t) (2 ^ 32 * 2 ^ 64) (omega arith)

-- a number by which a line is refused
record Stopped (r : Option ℕ) : Type 0 where
  number : ℕ
  is : r ≡ Some number

-- ---- a line in both runs
module _ (ok : Bool) (last : ℕ) (l : calls.Line) (m n : Machine) (w : Beside ok last l m n) (us : ℕ) where
  abbrev now : Time
  now = moment_of us

  abbrev line : Action → Option Line
  line a = Some (record { us = us; action = a })

  call_same : (a : Action) → call_of (wait_of n) now a ≡ call_of (wait_of m) now a
  unfolding call_of
  call_same (Action.Byte value) = refl
  call_same (Action.Data on) = refl
  call_same (Action.Select on) = refl
  call_same (Action.Supply millivolts) = refl
  call_same (Action.Temperature millicelsius) = refl
  call_same Action.Deadline = ap (λ (wait : Option Time). due_call wait now) (waits_same ok last l m n w)
  call_same Action.Update = refl
  call_same Action.Drive = refl

  -- what a call, or none, does in both
  record Both (a : Action) (c : Option Call) : Type 0 where
    refusals : refusal_of c n ≡ refusal_of c m
    shows : shown_of us c n ≡ shown_of us c m
    next : (gives_moment a || in_range now) ≡ true → Beside ok (last_by a now last) (follow_mark ok l (stays c)) (after_of c m) (after_of c n)

  by_call : (a : Action) (c : Call) → time_of c last ≡ last_by a now last → last ≤ last_by a now last → allowed_call ok l c ≡ true → Both a (Some c)
  unfolding follow_mark follow
  by_call a c e le h =
      let same = same_call ok last l m n w c (subst (λ (t : ℕ). last ≤ t) (sym e) le) h in
      record {
        refusals = sym (refusal_compared (reply c n)) ∙ ap refusal same ∙ refusal_compared (reply c m);
        shows = sym (shown_compared us (reply c n)) ∙ ap (shown_by us) same ∙ shown_compared us (reply c m);
        next = λ i. subst (λ (t : ℕ). Beside ok t (follow_call ok l c) (after c m) (after c n)) e (step_call ok last l m n w c (subst (λ (t : ℕ). last ≤ t) (sym e) le) h);
      }

  -- a line that makes no call
  idle : (a : Action) → gives_moment a ≡ false → Both a None
  unfolding follow_mark
  idle a g = record { refusals = refl; shows = refl; next = λ i. subst (λ (t : Bool). Beside ok (cond t (raw now) last) l m n) (sym g) w }

  -- the deadline call at the ready time
  at_ready : (t : Time) → raw t ≤ raw now → Both Action.Deadline (Some (Call.Deadline t))
  unfolding follow_mark follow follow_call reply
  at_ready t le =
      let same = deadlines_same ok last l m n w t in
      record {
        refusals = ap refusal same;
        shows = refl;
        next = λ i. rw (earlier_in_range t now le i) (deadline_any ok last l m n w t (earlier_in_range t now le i));
      }

  due : (wait : Option Time) → Both Action.Deadline (due_call wait now)
  unfolding due_call
  due None = idle Action.Deadline refl
  due (Some t) = go (leb (raw t) (raw now)) refl
    where
      go : (b : Bool) → leb (raw t) (raw now) ≡ b → Both Action.Deadline (cond b (Some (Call.Deadline t)) None)
      go true e = at_ready t (leb-true (raw t) (raw now) e)
      go false e = idle Action.Deadline refl

  made : (a : Action) → last ≤ last_by a now last → may_mark ok l false (stays (call_of (wait_of m) now a)) ≡ true → Both a (call_of (wait_of m) now a)
  unfolding call_of may_mark allowed_one time_of
  made (Action.Byte value) le h = by_call (Action.Byte value) (Call.Bits now 8 value) refl le h
  made (Action.Data on) le h = by_call (Action.Data on) (Call.Data on) refl le h
  made (Action.Select on) le h = by_call (Action.Select on) (Call.Select on) refl le h
  made (Action.Supply millivolts) le h = by_call (Action.Supply millivolts) (Call.Supply millivolts now) refl le h
  made (Action.Temperature t) le h = by_call (Action.Temperature t) (Call.Temperature t) refl le h
  made Action.Deadline le h = due (wait_of m)
  made Action.Update le h = by_call Action.Update (Call.Update now) refl le h
  made Action.Drive le h = by_call Action.Drive (Call.Drive now) refl le h

  -- whether a line passes is passes_is from the line and the lengths of memory
  abbrev is_none : Option ℕ → Bool
  is_none None = true
  is_none (Some number) = false

  single : (i : Bool) → is_none (row 1 i) ≡ i
  single true = refl
  single false = refl

  timed : (i : Bool) → is_none (first_of (row 1 i) None) ≡ i
  timed true = refl
  timed false = refl

  lent : (ok i : Bool) → is_none (first_of (row 2 ok) (row 1 i)) ≡ ok && i
  lent true true = refl
  lent true false = refl
  lent false i = refl

  grouped : (ok i g : Bool) → is_none (first_of (row 2 ok) (first_of (row 1 i) (row 7 g))) ≡ ok && i && g
  grouped true true true = refl
  grouped true true false = refl
  grouped true false g = refl
  grouped false i g = refl

  good : check_state m.state ≡ None
  good = full_state ok last l m n w

  passes_deadline : (i : Bool) → in_range now ≡ i → is_none (first_of (row 1 i) (refusal_of (due_call (wait_of m) now) m)) ≡ i
  unfolding due_call reply at_deadline
  passes_deadline false e = refl
  passes_deadline true e = go (wait_of m)
    where
      ready : (t : Time) (b : Bool) → leb (raw t) (raw now) ≡ b → is_none (refusal_of (cond b (Some (Call.Deadline t)) None) m) ≡ true
      ready t false h = refl
      ready t true h = rw (moment_alone m.state good t, earlier_in_range t now (leb-true (raw t) (raw now) h) e)

      go : (wait : Option Time) → is_none (refusal_of (due_call wait now) m) ≡ true
      go None = refl
      go (Some t) = ready t (leb (raw t) (raw now)) refl

  passes_is : (a : Action) → is_none (check_of m now a) ≡ passes ok now a
  unfolding check_of call_of passes accepted reply shift_in command_data select set_supply set_temperature update drive_of
  passes_is (Action.Byte value) = ap is_none (group_alone m.state good m.ram m.icons (full_lengths ok last l m n w) value 8 now) ∙ grouped ok (in_range now) (group_ok value 8)
  passes_is (Action.Data on) = rw good (timed (in_range now))
  passes_is (Action.Select on) = rw good (timed (in_range now))
  passes_is (Action.Supply millivolts) = ap is_none (moment_alone m.state good now) ∙ single (in_range now)
  passes_is (Action.Temperature t) = rw good (timed (in_range now))
  passes_is Action.Deadline = passes_deadline (in_range now) refl
  passes_is Action.Update = ap is_none (moment_alone m.state good now) ∙ single (in_range now)
  passes_is Action.Drive = ap is_none (lent_alone m.state good m.ram m.icons (full_lengths ok last l m n w) now) ∙ lent ok (in_range now)

  passed_line : (a : Action) → passes ok now a ≡ true → (turn_of (line a) m).refusal ≡ None
  unfolding turn_of
  passed_line a h = go (check_of m now a) (passes_is a ∙ h)
    where
      go : (r : Option ℕ) → is_none r ≡ true → r ≡ None
      go None h = refl
      go (Some number) h = absurd (false≢true h)

  refused_line : (a : Action) → passes ok now a ≡ false → Stopped (turn_of (line a) m).refusal
  unfolding turn_of
  refused_line a h = go (check_of m now a) (passes_is a ∙ h)
    where
      go : (r : Option ℕ) → is_none r ≡ false → Stopped r
      go None h = absurd (false≢true (sym h))
      go (Some number) h = record { number = number; is = refl }

  -- a line that stays
  module _ (a : Action) (le : last ≤ last_by a now last) (h : may_mark ok l false (stays (call_of (wait_of m) now a)) ≡ true) where
    turn_refusal : (turn_of (line a) n).refusal ≡ (turn_of (line a) m).refusal
    unfolding turn_of check_of
    turn_refusal =
        ap (λ (r : Option ℕ). first_of (row 1 (gives_moment a || in_range now)) r)
        (ap (λ (c : Option Call). refusal_of c n) (call_same a) ∙ (made a le h).refusals)

    turn_shown : (turn_of (line a) n).shown ≡ (turn_of (line a) m).shown
    unfolding turn_of
    turn_shown = ap₂ (λ (r : Option ℕ) (s : List ℕ). unless_refused r s []) turn_refusal (ap (λ (c : Option Call). shown_of us c n) (call_same a) ∙ (made a le h).shows)

    turn_next :
        (turn_of (line a) m).refusal ≡ None
        → Beside ok (last_by a now last) (follow_mark ok l (stays (call_of (wait_of m) now a))) (turn_of (line a) m).machine (turn_of (line a) n).machine
    unfolding turn_of check_of
    turn_next e =
        let p = first_passed (row 1 (gives_moment a || in_range now)) _ e in
        let i = row_passed 1 (gives_moment a || in_range now) p.0 in
        rw (e, turn_refusal ∙ e, call_same a) ((made a le h).next i)

  -- ---- a line that is struck
  all_gone : (value : ℕ) → allowed_group ok l now 8 value (replicate 8 true) ≡ true → emptied (group_of 8 value (replicate 8 true)) ≡ true
  unfolding allowed_group accepted group_of unmarked marked unpacked emptied all_struck
  all_gone value h = go (group_ok value 8) h
    where
      go : (g : Bool)
          → cond (ok && in_range now && g) (calls.allowed_bits l (cond g (marked (unpacked 8 value) (replicate 8 true)) [])) false ≡ true
          → emptied (cond g (marked (unpacked 8 value) (replicate 8 true)) []) ≡ true
      go true h = refl
      go false h = absurd (false≢true (none_struck (ok && in_range now) h))
        where
          none_struck : (b : Bool) → cond (b && false) (calls.allowed_bits l []) false ≡ true → false ≡ true
          none_struck true h = h
          none_struck false h = h

  record Gone (a : Action) (k : Option Marked) : Type 0 where
    silent : shown_of us (call_of (wait_of m) now a) m ≡ []
    next : Beside ok (last_by a now last) (follow_mark ok l k) (after_of (call_of (wait_of m) now a) m) n

  struck : (a : Action) → last ≤ last_by a now last → may_mark ok l true (struck_of now a) ≡ true → Gone a (struck_of now a)
  unfolding call_of may_mark follow_mark allowed_one gone plain time_of reply
  struck (Action.Byte value) le h = record { silent = refl; next = step_gone ok last l m n w (Marked.Bits now 8 value (replicate 8 true)) (all_gone value h) le h }
  struck (Action.Data on) le h = absurd (false≢true h)
  struck (Action.Select on) le h = absurd (false≢true h)
  struck (Action.Supply millivolts) le h = absurd (false≢true h)
  struck (Action.Temperature t) le h = absurd (false≢true h)
  struck Action.Deadline le h = absurd (false≢true h)
  struck Action.Update le h = record { silent = refl; next = step_gone ok last l m n w (Marked.Update now) refl le h }
  struck Action.Drive le h = absurd (false≢true h)

  module _ (a : Action) (le : last ≤ last_by a now last) (h : may_mark ok l true (struck_of now a) ≡ true) (e : (turn_of (line a) m).refusal ≡ None) where
    gone_next : Beside ok (last_by a now last) (follow_mark ok l (struck_of now a)) (turn_of (line a) m).machine n
    unfolding turn_of
    gone_next = rw e (struck a le h).next

    gone_shown : (turn_of (line a) m).shown ≡ []
    unfolding turn_of
    gone_shown = rw e (struck a le h).silent

-- ---- the lines
abbrev number_of : Option (ℕ × ℕ) → Option ℕ
number_of None = None
number_of (Some at) = Some at.0

record Same (full kept : Run) : Type 0 where
  rows : kept.rows ≡ full.rows
  number : number_of kept.refusal ≡ number_of full.refusal
  ram : kept.machine.ram ≡ full.machine.ram
  icons : kept.machine.icons ≡ full.machine.icons

-- a line that is read, and the rest behind it
module _ (text : List ℕ) (t : Line) (read : line_of text ≡ Some t) (ts : List (List ℕ)) (ok : Bool) (last : ℕ) (l : calls.Line) (m n : Machine) (ks : List Bool) (i j : ℕ) (w : Beside ok last l m n) where
  abbrev act : Action
  act = t.action

  abbrev moment : Time
  moment = moment_of t.us

  abbrev next_last : ℕ
  next_last = last_by act moment last

  -- what is struck of the line's call, by the line of calls and by the state
  abbrev mark : Option Time → Bool → Option Marked
  mark wait k = mark_of k moment act (call_of wait moment act)

  abbrev turn : Machine → Turn
  turn x = turn_of (Some t) x

  abbrev kept : List (List ℕ)
  kept = kept_lines ts (others ks)

  module _ (le : last ≤ next_last)
      (rest : (k : Bool) (n' : Machine) (j' : ℕ) → Beside ok next_last (follow_mark ok l (mark (wait_of m) k)) (turn m).machine n'
      → allowed_lines ok (follow_mark ok l (mark (wait_of m) k)) next_last ts (others ks) ≡ true → Same (run_from (i + 1) ts (turn m).machine) (run_from j' kept n')) where
    abbrev Onward : Bool → Type 0
    Onward k = allowed_lines ok (follow_mark ok l (mark (wait_of m) k)) next_last ts (others ks) ≡ true

    struck_line : may_mark ok l true (mark (wait_of m) true) ≡ true → (turn m).refusal ≡ None → Onward true → Same (onward None i (turn m) (run_from (i + 1) ts)) (run_from j kept n)
    struck_line may e h =
        let s = rest true n j (gone_next ok last l m n w t.us act le may e) h in
        record {
          rows = s.rows ∙ sym (ap (λ (r : List ℕ). r ++ (run_from (i + 1) ts (turn m).machine).rows) (gone_shown ok last l m n w t.us act le may e));
          number = s.number;
          ram = s.ram;
          icons = s.icons;
        }

    module _ (may : may_mark ok l false (mark (wait_of m) false) ≡ true) where
      same_turn : (turn n).refusal ≡ (turn m).refusal
      same_turn = turn_refusal ok last l m n w t.us act le may

      kept_line : (turn m).refusal ≡ None → Onward false → Same (onward None i (turn m) (run_from (i + 1) ts)) (onward None j (turn n) (run_from (j + 1) kept))
      kept_line e h =
          let s = rest false (turn n).machine (j + 1) (turn_next ok last l m n w t.us act le may e) h in
          record { rows = ap₂ ◌++◌ (turn_shown ok last l m n w t.us act le may) s.rows; number = s.number; ram = s.ram; icons = s.icons }

      -- a refused line leaves what it was given
      module _ (number : ℕ) (e : (turn m).refusal ≡ Some number) where
        left_alone : (f : Machine → List ℕ) → f n ≡ f m → f (turn n).machine ≡ f (turn m).machine
        unfolding turn_of
        left_alone f same = rw (same_turn ∙ e, e) same

        stopping_line : Same (onward (Some number) i (turn m) (run_from (i + 1) ts)) (onward (Some number) j (turn n) (run_from (j + 1) kept))
        stopping_line =
            let same = memory_same ok last l m n w in
            record { rows = refl; number = refl; ram = left_alone (λ (x : Machine). x.ram) same.0; icons = left_alone (λ (x : Machine). x.icons) same.1 }

    one_line : (k p : Bool) → passes ok moment act ≡ p → may_mark ok l k (mark (wait_of m) k) ≡ true
        → cond p (allowed_lines ok (follow_mark ok l (mark (wait_of m) k)) next_last ts (others ks)) (not k) ≡ true
        → Same (onward (turn m).refusal i (turn m) (run_from (i + 1) ts)) (run_from j (cond k kept (text ∷ kept)) n)
    unfolding run_from
    one_line true true e may h = let passed = passed_line ok last l m n w t.us act e in rw passed (struck_line may passed h)
    one_line true false e may h = absurd (false≢true h)
    one_line false true e may h = let passed = passed_line ok last l m n w t.us act e in rw (read, same_turn may ∙ passed, passed) (kept_line may passed h)
    one_line false false e may h = let stop = refused_line ok last l m n w t.us act e in rw (read, same_turn may ∙ stop.is, stop.is) (stopping_line may stop.number stop.is)

from : (ts : List (List ℕ)) (ok : Bool) (last : ℕ) (l : calls.Line) (m n : Machine) (ks : List Bool) (i j : ℕ) → Beside ok last l m n → allowed_lines ok l last ts ks ≡ true
    → Same (run_from i ts m) (run_from j (kept_lines ts ks) n)
unfolding run_from kept_lines allowed_lines turn_of
from [] ok last l m n ks i j w h = let e = memory_same ok last l m n w in record { rows = refl; number = refl; ram = e.0; icons = e.1 }
from (text ∷ ts) ok last l m n ks i j w h =
    go (line_of text) refl h (λ last' l' m' n' i' j' w' h'. from ts ok last' l' m' n' (others ks) i' j' w' h')
  where
    go : (o : Option Line) → line_of text ≡ o → allowed_line ok l last (first ks) o (λ l last. allowed_lines ok l last ts (others ks)) ≡ true
        → ((last' : ℕ) (l' : calls.Line) (m' n' : Machine) (i' j' : ℕ) → Beside ok last' l' m' n' → allowed_lines ok l' last' ts (others ks) ≡ true
        → Same (run_from i' ts m') (run_from j' (kept_lines ts (others ks)) n'))
        → Same (onward (turn_of o m).refusal i (turn_of o m) (run_from (i + 1) ts)) (run_from j (cond (first ks) (kept_lines ts (others ks)) (text ∷ kept_lines ts (others ks))) n)
    go None read h on =
        let e = memory_same ok last l m n w in
        let stays = not-true (first ks) h in
        rw (stays, read) (record { rows = refl; number = refl; ram = e.0; icons = e.1 })
    go (Some t) read h on =
        let marked = mark text t read ts ok last l m n ks i j w (wait_of m) (first ks) in
        let last' = next_last text t read ts ok last l m n ks i j w in
        let by_state : leb last last' && (may_mark ok l (first ks) marked && cond (passes ok (moment_of t.us) t.action) (allowed_lines ok (follow_mark ok l marked) last' ts (others ks)) (not (first ks))) ≡ true = rw (full_wait ok last l m n w) h in
        let p = both (leb last last') _ by_state in
        let q = both (may_mark ok l (first ks) _) _ p.1 in
        one_line text t read ts ok last l m n ks i j w (leb-true last _ p.0)
        (λ k n' j' w' h'. on last' (follow_mark ok l (mark text t read ts ok last l m n ks i j w (wait_of m) k)) (turn_of (Some t) m).machine n' (i + 1) j' w' h')
        (first ks) (passes ok (moment_of t.us) t.action) refl q.0 q.1

-- ---- the text
listing_same : {full kept : Run} → Same full kept → (line : ℕ) → listing (at_line line kept) ≡ listing (at_line line full)
unfolding listing
listing_same {full} {kept} s line = ap₂ (λ (rows refused : List ℕ). listing_names ++ rows ++ refused) s.rows (go kept.refusal full.refusal s.number)
  where
    go : (r s : Option (ℕ × ℕ)) → number_of r ≡ number_of s → refusal_text (at_line line (record { machine = kept.machine; rows = []; refusal = r })).refusal ≡ refusal_text (at_line line (record { machine = full.machine; rows = []; refusal = s })).refusal
    go None None e = refl
    go None (Some at) e = absurd (never (sym e))
    go (Some at) None e = absurd (never e)
    go (Some at) (Some at') e = ap (λ (r : Option ℕ). refusal_text (numbered r)) e
      where
        numbered : Option ℕ → Option (ℕ × ℕ)
        numbered None = None
        numbered (Some number) = Some (number, line)

pub struck_text_lem : StruckText
unfolding run_of
struck_text_lem text ram icons ks o h =
    let s = from (lines_behind text) (memory_ok ram icons) 0 line_on (start ram icons) (start ram icons) ks 2 2 (at_start ram icons) h in
    let same : Same (run_of text (start ram icons)) (run_of (struck_text text ks) (start ram icons)) = rw (o, struck_opens text ks o, struck_lines text ks) s in
    (listing_same same, (same.ram, same.icons))
