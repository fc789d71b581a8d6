-- Demand 3, by one induction over the marked list.
use Prim.Native.Nat.{ℕ, ◌≤◌}
use mathlib.Core.Bool.{Bool, true, false, cond, ◌&&◌, false≢true}
use mathlib.Core.List.{List, [], ◌∷◌, map}
use Rattle.std.specs.Prelude.{Option, None, Some}
use mathlib.Core.Path.{◌≡◌, refl, sym, ◌∙◌, ap, ap₂}
use native.Mathlib.Nat.{le_refl, le_trans}
use lib.Dec.{leb}
use borrow.Author.Tests.{leb-true}
use Rattle.checks.specs.Checks.{row, changed}
use Rattle.checks.proofs.Tests.{both}
use Rattle.clock.specs.declared.time.Time.{Time}
use Rattle.clock.specs.Time.{raw, in_range}
use Rattle.scan.specs.declared.drive.LcdDrive.{LcdDrive}
use Rattle.scan.specs.State as scan
use Rattle.scan.specs.Check.{memory_ok}
use Rattle.scan.specs.Count.{pieces}
use Rattle.scan.specs.Drive.{runs}
use Rattle.scan.proofs.Runs.{power_on_quiet}
use Rattle.controller.specs.declared.state.Nt7508.{Nt7508}
use Rattle.controller.specs.declared.event.Event.{Event}
use Rattle.controller.specs.Check.{check_state, check_moment}
use Rattle.controller.specs.State.{power_on, with_scan, with_power, with_serial}
use Rattle.controller.specs.Supply.{railed, deadline_met, select, command_data, set_temperature, set_supply, at_deadline}
use Rattle.controller.specs.Update.{counted_to, update}
use Rattle.controller.proofs.Checks.{moment_alone}
use Rattle.controller.proofs.PowerOn.{power_on_passes}
use Rattle.strike.specs.Calls.{Call, Reply, Machine, start, with_state, reply, after, run, end}
use Rattle.strike.specs.Marks.{Marked, plain, full, gone, left, kept, group_of}
use Rattle.strike.specs.Line.{Line, line_on, value, accepted, follow_supply, follow_deadline, follow_call, follow, unmarked, allowed_group, allowed_call, allowed_one, allowed}
use Rattle.strike.specs.Strike.{compared, ends_struck, eventless, without, expected, time_of, never_fall, electrodes, Same, SameMemory, SameElectrodes, Demand3}
use Rattle.strike.proofs.Bytes.{state_of}
use Rattle.strike.proofs.Runs.{Runs, carried, runs_later}
use Rattle.strike.proofs.Groups.{Next, full_good, kept_good, full_memory, whole_left, step_group, gone_group, same_group, whole_group}
use Rattle.strike.proofs.Calls.{data_runs, temperature_runs, select_runs, update_runs, update_gone, deadline_runs}
use Rattle.strike.proofs.Supply.{supply_runs}
use Rattle.strike.proofs.Looks.{drive_same, image_same, voltages_same}

-- two runs beside each other: `last` is the last moment, `l` the line
abbrev pub Beside : (ok : Bool) → (last : ℕ) → Line → (m n : Machine) → Type 0
Beside ok last l m n = Next ok last l m n

-- a call that is refused for its time leaves the machine
module _ (now : Time) (m : Machine) (h : check_moment m.state now ≡ row 1 (in_range now)) (i : in_range now ≡ false) where
  late : check_moment m.state now ≡ Some 1
  late = h ∙ ap (row 1) i

  supply_late : (millivolts : ℕ) → after (Call.Supply millivolts now) m ≡ m
  unfolding after set_supply
  supply_late millivolts = ap (λ (k : Option ℕ). with_state m (changed k (railed m.state millivolts now) m.state).1) late

  deadline_late : after (Call.Deadline now) m ≡ m
  unfolding after at_deadline
  deadline_late = ap (λ (k : Option ℕ). with_state m (changed k (with_power m.state (deadline_met m.state.power m.state.power.ready now)) m.state).1) late

  update_late : after (Call.Update now) m ≡ m
  unfolding after update
  update_late = ap (λ (k : Option ℕ). with_state m (changed {A = Nt7508 × ℕ} k (counted_to m.state now, pieces m.state.scan m.state.display now) (m.state, 0)).1.0) late

module _ (ok : Bool) (last : ℕ) (l : Line) (m n : Machine) (w : Next ok last l m n) where
  -- a call that leaves line and moment
  stays_at : {l' : Line} {m' n' : Machine} (next : ℕ) → last ≤ next → Runs ok w.at l' m' n' → Next ok next l' m' n'
  stays_at next le r = record { at = w.at; runs = r; early = le_trans w.early le }

  -- a call with a moment: in range it is made at that moment, else it is refused
  module _ (now : Time) (le : last ≤ raw now) where
    at_now : in_range now ≡ true → Runs ok now l m n
    at_now i = runs_later now w.runs (le_trans w.early le) i

    made_at : {l' : Line} {m' n' : Machine} → Runs ok now l' m' n' → Next ok (raw now) l' m' n'
    made_at r = record { at = now; runs = r; early = le_refl (raw now) }

    full_moment : check_moment m.state now ≡ row 1 (in_range now)
    full_moment = moment_alone m.state (full_good w.runs) now

    kept_moment : check_moment n.state now ≡ row 1 (in_range now)
    kept_moment = moment_alone n.state (kept_good w.runs) now

    supply_step : (millivolts : ℕ) → Next ok (raw now) (cond (in_range now) (follow_supply l millivolts now) l) (after (Call.Supply millivolts now) m) (after (Call.Supply millivolts now) n)
    supply_step millivolts = go (in_range now) refl
      where
        go : (i : Bool) → in_range now ≡ i → Next ok (raw now) (cond i (follow_supply l millivolts now) l) (after (Call.Supply millivolts now) m) (after (Call.Supply millivolts now) n)
        go true i = made_at (supply_runs now (at_now i) i millivolts)
        go false i = stays_at (raw now) le (carried refl (supply_late now m full_moment i millivolts) (supply_late now n kept_moment i millivolts) w.runs)

    deadline_step : Next ok (raw now) (cond (in_range now) (follow_deadline l now) l) (after (Call.Deadline now) m) (after (Call.Deadline now) n)
    deadline_step = go (in_range now) refl
      where
        go : (i : Bool) → in_range now ≡ i → Next ok (raw now) (cond i (follow_deadline l now) l) (after (Call.Deadline now) m) (after (Call.Deadline now) n)
        go true i = made_at (deadline_runs now (at_now i) i)
        go false i = stays_at (raw now) le (carried refl (deadline_late now m full_moment i) (deadline_late now n kept_moment i) w.runs)

    update_step : Next ok (raw now) l (after (Call.Update now) m) (after (Call.Update now) n)
    update_step = go (in_range now) refl
      where
        go : (i : Bool) → in_range now ≡ i → Next ok (raw now) l (after (Call.Update now) m) (after (Call.Update now) n)
        go true i = made_at (update_runs now (at_now i) i)
        go false i = stays_at (raw now) le (carried refl (update_late now m full_moment i) (update_late now n kept_moment i) w.runs)

    update_struck : Next ok (raw now) l (after (Call.Update now) m) n
    update_struck = go (in_range now) refl
      where
        go : (i : Bool) → in_range now ≡ i → Next ok (raw now) l (after (Call.Update now) m) n
        go true i = made_at (update_gone now (at_now i) i)
        go false i = stays_at (raw now) le (carried refl (update_late now m full_moment i) refl w.runs)

  -- a deadline call may come at any moment in range
  pub deadline_any : (now : Time) → in_range now ≡ true → Next ok last (follow_deadline l now) (after (Call.Deadline now) m) (after (Call.Deadline now) n)
  deadline_any now i = stays_at last (le_refl last) (deadline_runs now w.runs i)

  -- a call that both runs have
  pub step_call : (c : Call) → last ≤ time_of c last → allowed_call ok l c ≡ true → Next ok (time_of c last) (follow_call ok l c) (after c m) (after c n)
  unfolding time_of allowed_call follow_call after unmarked
  step_call (Call.Bits now count bits) le h =
      let r = step_group ok last l m n w now count bits [] le h in
      record { at = r.at; runs = carried refl refl (ap (λ (c : Call). after c n) (sym (whole_left now count bits [] refl))) r.runs; early = r.early }
  step_call (Call.Data on) le h = stays_at last le (data_runs w.runs on)
  step_call (Call.Select on) le h = stays_at last le (select_runs w.runs on)
  step_call (Call.Supply millivolts now) le h = supply_step now le millivolts
  step_call (Call.Temperature t) le h = stays_at last le (temperature_runs w.runs t)
  step_call (Call.Deadline now) le h = deadline_step now le
  step_call (Call.Update now) le h = update_step now le
  step_call (Call.Drive now) le h = stays_at (raw now) le w.runs
  step_call (Call.Image pixels) le h = stays_at last le w.runs
  step_call Call.Voltages le h = stays_at last le w.runs

  step_left : (k : Marked) → last ≤ time_of (plain k) last → allowed_one ok l k ≡ true → Next ok (time_of (plain k) last) (follow ok l k) (after (plain k) m) (after (left k) n)
  unfolding plain left follow allowed_one time_of
  step_left (Marked.Whole c) le h = step_call c le h
  step_left (Marked.Update now) le h = update_step now le
  step_left (Marked.Bits now count bits marks) le h = step_group ok last l m n w now count bits marks le h

  -- a call that the full run alone has
  pub step_gone : (k : Marked) → gone k ≡ true → last ≤ time_of (plain k) last → allowed_one ok l k ≡ true → Next ok (time_of (plain k) last) (follow ok l k) (after (plain k) m) n
  unfolding plain gone follow allowed_one time_of
  step_gone (Marked.Whole c) g le h = absurd (false≢true g)
  step_gone (Marked.Update now) g le h = update_struck now le
  step_gone (Marked.Bits now count bits marks) g le h = gone_group ok last l m n w now count bits marks le h g

  -- ---- what both runs have
  -- the full run is as the line says: its wait, a state that passes, and the lengths of memory
  pub full_wait : m.state.power.ready ≡ l.wait
  unfolding state_of with_scan with_serial
  full_wait = ap (λ (m : Machine). m.state.power.ready) w.runs.full_is ∙ w.runs.alike.tied.wait

  pub full_state : check_state m.state ≡ None
  full_state = full_good w.runs

  pub full_lengths : memory_ok m.ram m.icons ≡ ok
  full_lengths = full_memory w.runs

  pub waits_same : n.state.power.ready ≡ m.state.power.ready
  unfolding state_of with_scan with_serial
  waits_same = ap (λ (n : Machine). n.state.power.ready) w.runs.kept_is ∙ sym (ap (λ (m : Machine). m.state.power.ready) w.runs.full_is)

  pub memory_same : (n.ram ≡ m.ram) × (n.icons ≡ m.icons)
  memory_same = (
    ap (λ (n : Machine). n.ram) w.runs.kept_is ∙ sym (ap (λ (m : Machine). m.ram) w.runs.full_is),
    ap (λ (n : Machine). n.icons) w.runs.kept_is ∙ sym (ap (λ (m : Machine). m.icons) w.runs.full_is),
  )

  -- ---- the replies
  done : {a b : Option ℕ} → a ≡ b → Reply.Done a ≡ Reply.Done b
  done e = ap Reply.Done e

  states_same : check_state n.state ≡ check_state m.state
  states_same = kept_good w.runs ∙ sym (full_good w.runs)

  moments_same : (now : Time) → check_moment n.state now ≡ check_moment m.state now
  moments_same now = moment_alone n.state (kept_good w.runs) now ∙ sym (moment_alone m.state (full_good w.runs) now)

  pub deadlines_same : (now : Time) → reply (Call.Deadline now) n ≡ reply (Call.Deadline now) m
  unfolding reply at_deadline
  deadlines_same now = done (moments_same now)

  eventless_compared : (e : Bool) (r : Option ℕ) (v : Option Event) → compared (cond e (eventless (Reply.Told r v)) (Reply.Told r v)) ≡ cond e (eventless (Reply.Told r v)) (Reply.Told r v)
  unfolding compared
  eventless_compared true r v = refl
  eventless_compared false r v = refl

  same_bits : (now : Time) (count bits : ℕ) (marks : List Bool) → last ≤ raw now → allowed_group ok l now count bits marks ≡ true
      → compared (reply (left (Marked.Bits now count bits marks)) n)
      ≡ cond (accepted ok now count bits && ends_struck l (group_of count bits marks)) (eventless (compared (reply (Call.Bits now count bits) m))) (compared (reply (Call.Bits now count bits) m))
  unfolding reply compared
  same_bits now count bits marks le h =
      ap compared (same_group ok last l m n w now count bits marks le h)
      ∙ eventless_compared (accepted ok now count bits && ends_struck l (group_of count bits marks)) _ _

  pub same_call : (c : Call) → last ≤ time_of c last → allowed_call ok l c ≡ true → compared (reply c n) ≡ compared (reply c m)
  unfolding time_of allowed_call reply compared command_data select set_supply set_temperature at_deadline update unmarked
  same_call (Call.Bits now count bits) le h =
      ap (λ (c : Call). compared (reply c n)) (sym (whole_left now count bits [] refl))
      ∙ same_bits now count bits [] le h
      ∙ ap (λ (t : Bool). cond t (eventless (compared (reply (Call.Bits now count bits) m))) (compared (reply (Call.Bits now count bits) m))) (whole_group l ok now count bits)
  same_call (Call.Data on) le h = done states_same
  same_call (Call.Select on) le h = done states_same
  same_call (Call.Supply millivolts now) le h = done (moments_same now)
  same_call (Call.Temperature t) le h = done states_same
  same_call (Call.Deadline now) le h = deadlines_same now
  same_call (Call.Update now) le h = ap (λ (k : Option ℕ). Reply.Counted k 0) (moments_same now)
  same_call (Call.Drive now) le h = ap (λ (r : Option ℕ × (LcdDrive × ℕ)). Reply.Driven r.0 r.1.0 r.1.1) (drive_same w.runs now (le_trans w.early le))
  same_call (Call.Image pixels) le h = ap (λ (r : Option ℕ × List ℕ). Reply.Painted r.0 r.1) (image_same w.runs pixels)
  same_call Call.Voltages le h = ap Reply.Levels (voltages_same w.runs)

  same_reply : (k : Marked) → last ≤ time_of (plain k) last → allowed_one ok l k ≡ true → compared (reply (left k) n) ≡ without ok l k (compared (reply (plain k) m))
  unfolding plain left without allowed_one allowed_call time_of
  same_reply (Marked.Whole c) le h = same_call c le h
  same_reply (Marked.Update now) le h = same_call (Call.Update now) le refl
  same_reply (Marked.Bits now count bits marks) le h = same_bits now count bits marks le h

-- ---- call times that never fall, fact by fact. Each is by cases, so that it asks nothing of how `never_fall` is written
module _ (last : ℕ) (c : Call) (cs : List Call) (times : never_fall last (c ∷ cs) ≡ true) where
  -- the first call is not before the last moment
  first_in_order : last ≤ time_of c last
  unfolding never_fall
  first_in_order = go (leb last (time_of c last)) (never_fall (time_of c last) cs) refl refl
    where
      go : (f r : Bool) → leb last (time_of c last) ≡ f → never_fall (time_of c last) cs ≡ r → last ≤ time_of c last
      go true r hf hr = leb-true last (time_of c last) hf
      go false true hf hr = absurd (false≢true (simp (hf, hr) at times))
      go false false hf hr = absurd (false≢true (simp (hf, hr) at times))

  -- nor are the others before the first
  rest_in_order : never_fall (time_of c last) cs ≡ true
  unfolding never_fall
  rest_in_order = go (leb last (time_of c last)) (never_fall (time_of c last) cs) refl refl
    where
      go : (f r : Bool) → leb last (time_of c last) ≡ f → never_fall (time_of c last) cs ≡ r → r ≡ true
      go f true hf hr = refl
      go true false hf hr = absurd (false≢true (simp (hf, hr) at times))
      go false false hf hr = absurd (false≢true (simp (hf, hr) at times))

-- ---- the whole list
record Result (ok : Bool) (l : Line) (ms : List Marked) (m n : Machine) : Type 0 where
  replies : map compared (run (kept ms) n) ≡ expected ok l ms (map compared (run (full ms) m))
  ram_same : (end (kept ms) n).ram ≡ (end (full ms) m).ram
  icons_same : (end (kept ms) n).icons ≡ (end (full ms) m).icons

-- the first call of a list, gone or left
module _ (k : Marked) (ms : List Marked) (ok : Bool) (l : Line) (m n : Machine) where
  one_gone : gone k ≡ true → Result ok (follow ok l k) ms (after (plain k) m) n → Result ok l (k ∷ ms) m n
  unfolding run end kept full expected
  one_gone g r = record { replies = rw g r.replies; ram_same = rw g r.ram_same; icons_same = rw g r.icons_same }

  one_left : gone k ≡ false → compared (reply (left k) n) ≡ without ok l k (compared (reply (plain k) m)) → Result ok (follow ok l k) ms (after (plain k) m) (after (left k) n) → Result ok l (k ∷ ms) m n
  unfolding run end kept full expected
  one_left g e r = record { replies = rw g (ap₂ ◌∷◌ e r.replies); ram_same = rw g r.ram_same; icons_same = rw g r.icons_same }

from : (ms : List Marked) (ok : Bool) (l : Line) (last : ℕ) (m n : Machine) → Next ok last l m n → never_fall last (full ms) ≡ true → allowed ok l ms ≡ true → Result ok l ms m n
unfolding run end kept full expected allowed
from [] ok l last m n w times h = record {
  replies = refl;
  ram_same = (memory_same ok last l m n w).0;
  icons_same = (memory_same ok last l m n w).1;
}
from (k ∷ ms) ok l last m n w times h =
    let a = both (allowed_one ok l k) _ h in
    let le = first_in_order last (plain k) (full ms) times in
    go (gone k) refl le a.0 (λ n' w'. from ms ok (follow ok l k) (time_of (plain k) last) (after (plain k) m) n' w' (rest_in_order last (plain k) (full ms) times) a.1)
  where
    go : (g : Bool) → gone k ≡ g → last ≤ time_of (plain k) last → allowed_one ok l k ≡ true
        → ((n' : Machine) → Next ok (time_of (plain k) last) (follow ok l k) (after (plain k) m) n' → Result ok (follow ok l k) ms (after (plain k) m) n')
        → Result ok l (k ∷ ms) m n
    go true g le a rest = one_gone k ms ok l m n g (rest n (step_gone ok last l m n w k g le a))
    go false g le a rest = one_left k ms ok l m n g (same_reply ok last l m n w k le a) (rest (after (left k) n) (step_left ok last l m n w k le a))

-- at power-on both runs are one
pub at_start : (ram icons : List ℕ) → Next (memory_ok ram icons) 0 line_on (start ram icons) (start ram icons)
unfolding state_of with_scan with_serial value power_on runs
at_start ram icons = record {
  at = record { seconds = 0; fraction = 0 };
  runs = record {
    c = power_on;
    x = scan.power_on;
    y = scan.power_on;
    ram = ram;
    icons = icons;
    alike = record {
      tied = record { selected = refl; is_data = refl; awaiting = refl; supplied = refl; cold = refl; wait = refl };
      agree = refl;
      quiet = λ s. (power_on_quiet power_on.display, power_on_quiet power_on.display);
      still = λ s. absurd (false≢true (sym s));
    };
    full_is = refl;
    kept_is = refl;
    full_ok = power_on_passes;
    kept_ok = power_on_passes;
    memory = refl;
    in_range_lem = refl;
  };
  early = le_refl 0;
}

-- demand 3 without the premise on numbers 3 to 5
pub struck : (ram icons : List ℕ) (ms : List Marked) → never_fall 0 (full ms) ≡ true → allowed (memory_ok ram icons) line_on ms ≡ true
    → Same ram icons ms × (SameMemory ram icons ms × SameElectrodes ram icons ms)
struck ram icons ms times h =
    let r = from ms (memory_ok ram icons) line_on 0 (start ram icons) (start ram icons) (at_start ram icons) times h in
    (r.replies, ((r.ram_same, r.icons_same), λ e. ap (map (electrodes e)) r.replies))

-- and as the user has it
pub demand_3 : Demand3
demand_3 ram icons ms p = struck ram icons ms p.times p.struck
