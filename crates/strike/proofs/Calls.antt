-- The calls that are no groups of bits, in both runs: each keeps the runs beside the line, and answers the same.
use Prim.Native.Nat.{ℕ}
use mathlib.Core.Bool.{Bool, true, false, cond, beq}
use mathlib.Core.List.{List, []}
use Rattle.std.specs.Prelude.{Option, None, Some}
use mathlib.Core.Path.{◌≡◌, refl, sym, ◌∙◌, ap}
use lib.IntN.{ℤ}
use lib.ListN.{length}
use Rattle.checks.specs.Checks.{changed}
use Rattle.clock.specs.declared.time.Time.{Time}
use Rattle.clock.specs.Time.{in_range}
use Rattle.scan.specs.declared.state.Scan.{Scan}
use Rattle.scan.specs.Count.{count_to}
use Rattle.scan.specs.Drive.{runs}
use Rattle.scan.proofs.Checks as scans
use Rattle.scan.specs.Byte.{has_clock}
use Rattle.scan.proofs.Runs.{count_to_quiet}
use Rattle.scan.proofs.Agree.{no_clock, agree_both, agree_counted}
use Rattle.scan.proofs.Drives.{counted_passes}
use Rattle.controller.specs.declared.state.Nt7508.{Nt7508}
use Rattle.controller.specs.declared.state.Power.{Power}
use Rattle.controller.specs.State.{with_scan, with_power, with_serial}
use Rattle.controller.specs.Check.{check_state, check_moment}
use Rattle.controller.specs.Supply.{selected_as, with_data, with_temperature, with_ready, deadline_met, select, command_data, set_temperature, at_deadline}
use Rattle.controller.specs.Update.{counted_to, update}
use Rattle.controller.proofs.Checks.{valid, valid_check, with_scan_valid, timed_check}
use Rattle.controller.proofs.Supplies.{select_valid, line_valid, temperature_valid, deadline_valid}
use Rattle.strike.specs.Calls.{Call, Machine, after}
use Rattle.strike.specs.Line.{Line, value, clears, follow_select, follow_data, is_at, follow_deadline}
use Rattle.strike.specs.Line as line
use Rattle.strike.proofs.Bytes.{state_of, Alike, running}
use Rattle.strike.proofs.Bits.{settings_valid, scan_valid}
use Rattle.strike.proofs.Runs.{Runs, kept_under, machine}

-- what a call leaves and answers where its check passes
pub new_of : {A : Type 0} {check : Option ℕ} (new given : A) → check ≡ None → (changed check new given).1 ≡ new
new_of {A} new given h = ap (λ (c : Option ℕ). (changed c new given).1) h

given_of : {A : Type 0} {check : Option ℕ} {n : ℕ} (new given : A) → check ≡ Some n → (changed check new given).1 ≡ given
given_of {A} new given h = ap (λ (c : Option ℕ). (changed c new given).1) h

-- ---- a call that does f to a state that passes
module _ {ok : Bool} {at : Time} {l : Line} {m n : Machine} (w : Runs ok at l m n) (call : Call) (f : Nt7508 → Nt7508)
    (does : (s : Nt7508) (ram icons : List ℕ) → check_state s ≡ None → after call (machine s ram icons) ≡ machine (f s) ram icons)
    (keeps : (s : Nt7508) → check_state s ≡ None → check_state (f s) ≡ None) where
  pub both_do : (l' : Line) (c' : Nt7508) (x' y' : Scan)
      → f (state_of w.c l.bits w.x) ≡ state_of c' l'.bits x'
      → f (state_of w.c (kept_under l) w.y) ≡ state_of c' (kept_under l') y'
      → Alike at l' c' x' y' w.ram w.icons
      → Runs ok at l' (after call m) (after call n)
  both_do l' c' x' y' fx fy a = record {
    c = c';
    x = x';
    y = y';
    ram = w.ram;
    icons = w.icons;
    alike = a;
    full_is = ap (after call) w.full_is ∙ does (state_of w.c l.bits w.x) w.ram w.icons w.full_ok ∙ ap (λ (s : Nt7508). machine s w.ram w.icons) fx;
    kept_is = ap (after call) w.kept_is ∙ does (state_of w.c (kept_under l) w.y) w.ram w.icons w.kept_ok ∙ ap (λ (s : Nt7508). machine s w.ram w.icons) fy;
    full_ok = ap check_state (sym fx) ∙ keeps (state_of w.c l.bits w.x) w.full_ok;
    kept_ok = ap check_state (sym fy) ∙ keeps (state_of w.c (kept_under l) w.y) w.kept_ok;
    memory = w.memory;
    in_range_lem = w.in_range_lem;
  }

module _ {ok : Bool} {at : Time} {l : Line} {m n : Machine} (w : Runs ok at l m n) where
  abbrev c : Nt7508
  c = w.c

  -- the data line
  pub data_runs : (on : Bool) → Runs ok at (follow_data l on) (after (Call.Data on) m) (after (Call.Data on) n)
  unfolding after command_data follow_data state_of with_scan with_serial
  data_runs on =
      both_do w (Call.Data on) (λ (s : Nt7508). with_serial s (with_data s.serial on))
      (λ s ram icons h. ap (λ (s : Nt7508). machine s ram icons) (new_of (with_serial s (with_data s.serial on)) s h))
      (λ s h. valid_check (with_serial s (with_data s.serial on)) (line_valid s on (valid s h)))
      (follow_data l on) (with_serial c (with_data c.serial on)) w.x w.y refl refl
      (let a = w.alike in record {
        tied = record { selected = a.tied.selected; is_data = refl; awaiting = a.tied.awaiting; supplied = a.tied.supplied; cold = a.tied.cold; wait = a.tied.wait };
        agree = a.agree;
        quiet = a.quiet;
        still = a.still;
      })

  pub temperature_runs : (t : ℤ) → Runs ok at l (after (Call.Temperature t) m) (after (Call.Temperature t) n)
  unfolding after set_temperature state_of with_scan with_serial with_power runs
  temperature_runs t =
      both_do w (Call.Temperature t) (λ (s : Nt7508). with_power s (with_temperature s.power t))
      (λ s ram icons h. ap (λ (s : Nt7508). machine s ram icons) (new_of (with_power s (with_temperature s.power t)) s h))
      (λ s h. valid_check (with_power s (with_temperature s.power t)) (temperature_valid s t (valid s h)))
      l (with_power c (with_temperature c.power t)) w.x w.y refl refl
      (let a = w.alike in record {
        tied = record { selected = a.tied.selected; is_data = a.tied.is_data; awaiting = a.tied.awaiting; supplied = a.tied.supplied; cold = a.tied.cold; wait = a.tied.wait };
        agree = a.agree;
        quiet = a.quiet;
        still = a.still;
      })

  -- selecting: a change drops the bits under way
  pub dropped : (on : Bool) (bits : List Bool) (z : Scan)
      → with_serial (state_of c bits z) (selected_as (state_of c bits z).serial on) ≡ state_of (with_serial c (selected_as c.serial on)) (clears c.serial.selected on bits) z
  unfolding selected_as state_of with_scan with_serial value
  dropped on bits z = go (beq c.serial.selected on)
    where
      go : (t : Bool) →
          with_scan (with_serial c (record { selected = on; «data» = c.serial.«data»; shift = cond t (value bits) 0; bits = cond t (length bits) 0; pending = c.serial.pending })) z
          ≡ with_scan (with_serial c (record { selected = on; «data» = c.serial.«data»; shift = value (cond t bits []); bits = length (cond t bits []); pending = c.serial.pending })) z
      go true = refl
      go false = refl

  pub clears_kept : (t struck : Bool) (bits : List Bool) → cond t (cond struck [] bits) [] ≡ cond struck [] (cond t bits [])
  clears_kept true struck bits = refl
  clears_kept false true bits = refl
  clears_kept false false bits = refl

  select_full : (on : Bool) → with_serial (state_of c l.bits w.x) (selected_as (state_of c l.bits w.x).serial on) ≡ state_of (with_serial c (selected_as c.serial on)) (follow_select l on).bits w.x
  unfolding follow_select
  select_full on = dropped on l.bits w.x ∙ ap (λ (s : Bool). state_of (with_serial c (selected_as c.serial on)) (clears s on l.bits) w.x) w.alike.tied.selected

  select_kept : (on : Bool) → with_serial (state_of c (kept_under l) w.y) (selected_as (state_of c (kept_under l) w.y).serial on) ≡ state_of (with_serial c (selected_as c.serial on)) (kept_under (follow_select l on)) w.y
  unfolding follow_select
  select_kept on =
      dropped on (kept_under l) w.y
      ∙ ap (λ (s : Bool). state_of (with_serial c (selected_as c.serial on)) (clears s on (kept_under l)) w.y) w.alike.tied.selected
      ∙ ap (λ (bits : List Bool). state_of (with_serial c (selected_as c.serial on)) bits w.y) (clears_kept (beq l.selected on) l.struck l.bits)

  pub select_runs : (on : Bool) → Runs ok at (follow_select l on) (after (Call.Select on) m) (after (Call.Select on) n)
  unfolding after select follow_select selected_as with_serial
  select_runs on =
      both_do w (Call.Select on) (λ (s : Nt7508). with_serial s (selected_as s.serial on))
      (λ s ram icons h. ap (λ (s : Nt7508). machine s ram icons) (new_of (with_serial s (selected_as s.serial on)) s h))
      (λ s h. valid_check (with_serial s (selected_as s.serial on)) (select_valid s on (valid s h)))
      (follow_select l on) (with_serial c (selected_as c.serial on)) w.x w.y (select_full on) (select_kept on)
      (let a = w.alike in record {
        tied = record { selected = refl; is_data = a.tied.is_data; awaiting = a.tied.awaiting; supplied = a.tied.supplied; cold = a.tied.cold; wait = a.tied.wait };
        agree = a.agree;
        quiet = a.quiet;
        still = a.still;
      })

-- ---- calls with a moment, in range
module _ {ok : Bool} (now : Time) {l : Line} {m n : Machine} (w : Runs ok now l m n) (i : in_range now ≡ true) where
  pub timely : (s : Nt7508) → check_state s ≡ None → check_moment s now ≡ None
  timely s h = timed_check s now (record { in_range_lem = i; state = h })

  pub vs : scans.ValidSettings w.c.display
  vs = settings_valid w.c l.bits w.x w.full_ok

  pub vx : scans.Valid w.x
  vx = scan_valid w.c l.bits w.x w.full_ok

  pub vy : scans.Valid w.y
  vy = scan_valid w.c (kept_under l) w.y w.kept_ok

  no_clock_counted : (z : Scan) → has_clock z.ticking.clock ≡ false → has_clock (count_to z w.c.display now).ticking.clock ≡ false
  no_clock_counted z h = ap (λ (z : Scan). has_clock z.ticking.clock) (no_clock w.c.display w.ram w.icons z now h) ∙ h

  -- an update counts for good
  counted_ok : (s : Nt7508) → check_state s ≡ None → check_state (counted_to s now) ≡ None
  unfolding counted_to
  counted_ok s h =
      let v = valid s h in
      valid_check (with_scan s (count_to s.scan s.display now)) (with_scan_valid s v (count_to s.scan s.display now) (counted_passes s.scan s.display now i v.display v.scan))

  counts : (s : Nt7508) (ram icons : List ℕ) → check_state s ≡ None → after (Call.Update now) (machine s ram icons) ≡ machine (counted_to s now) ram icons
  unfolding after update
  counts s ram icons h = ap (λ (r : Nt7508 × ℕ). machine r.0 ram icons) (new_of (counted_to s now, _) (s, 0) (timely s h))

  pub update_runs : Runs ok now l (after (Call.Update now) m) (after (Call.Update now) n)
  unfolding counted_to state_of with_scan with_serial
  update_runs =
      both_do w (Call.Update now) (λ (s : Nt7508). counted_to s now) counts counted_ok l w.c (count_to w.x w.c.display now) (count_to w.y w.c.display now) refl refl
      (let a = w.alike in record {
        tied = a.tied;
        agree = agree_both w.c.display w.ram w.icons vs now i w.x w.y vx vy a.agree;
        quiet = λ s. (count_to_quiet w.c.display (running w.c) w.x now (a.quiet s).0, count_to_quiet w.c.display (running w.c) w.y now (a.quiet s).1);
        still = λ s. (no_clock_counted w.x (a.still s).0, no_clock_counted w.y (a.still s).1);
      })

  -- the full run alone counts
  pub update_gone : Runs ok now l (after (Call.Update now) m) n
  unfolding counted_to state_of with_scan with_serial
  update_gone = let a = w.alike in record {
    c = w.c;
    x = count_to w.x w.c.display now;
    y = w.y;
    ram = w.ram;
    icons = w.icons;
    alike = record {
      tied = a.tied;
      agree = agree_counted w.c.display w.ram w.icons vs now i w.x w.y vx vy a.agree;
      quiet = λ s. (count_to_quiet w.c.display (running w.c) w.x now (a.quiet s).0, (a.quiet s).1);
      still = λ s. (no_clock_counted w.x (a.still s).0, (a.still s).1);
    };
    full_is = ap (after (Call.Update now)) w.full_is ∙ counts (state_of w.c l.bits w.x) w.ram w.icons w.full_ok;
    kept_is = w.kept_is;
    full_ok = counted_ok (state_of w.c l.bits w.x) w.full_ok;
    kept_ok = w.kept_ok;
    memory = w.memory;
    in_range_lem = i;
  }

-- ---- the deadline call: it counts nothing, so its moment need not be later than the last one
module _ {ok : Bool} {at : Time} (now : Time) {l : Line} {m n : Machine} (w : Runs ok at l m n) (i : in_range now ≡ true) where
  met : (p : Power) (r : Option Time) → deadline_met p r now ≡ cond (is_at r now) (with_ready p false None) p
  unfolding deadline_met is_at
  met p None = refl
  met p (Some t) = refl

  -- it ends the wait, or leaves all
  line_met : Bool → Line
  line_met t = cond t (line.with_power l l.supplied false None) l

  met_registers : Bool → Nt7508
  met_registers t = with_power w.c (cond t (with_ready w.c.power false None) w.c.power)

  ends_wait : Nt7508 → Nt7508
  ends_wait s = with_power s (deadline_met s.power s.power.ready now)

  ends_is : (t : Bool) → is_at l.wait now ≡ t → (bits : List Bool) (z : Scan) → ends_wait (state_of w.c bits z) ≡ state_of (met_registers t) bits z
  unfolding ends_wait met_registers state_of with_scan with_serial with_power
  ends_is t e bits z =
      ap (λ (p : Power). with_power (state_of w.c bits z) p)
      (met w.c.power w.c.power.ready ∙ ap (λ (t : Bool). cond t (with_ready w.c.power false None) w.c.power) (ap (λ (d : Option Time). is_at d now) w.alike.tied.wait ∙ e))

  met_alike : (t : Bool) → Alike at (line_met t) (met_registers t) w.x w.y w.ram w.icons
  unfolding line_met met_registers with_power runs
  met_alike true = let a = w.alike in record {
    tied = record { selected = a.tied.selected; is_data = a.tied.is_data; awaiting = a.tied.awaiting; supplied = a.tied.supplied; cold = refl; wait = refl };
    agree = a.agree;
    quiet = a.quiet;
    still = a.still;
  }
  met_alike false = w.alike

  met_bits : (t : Bool) → ((line_met t).bits ≡ l.bits) × (kept_under (line_met t) ≡ kept_under l)
  unfolding line_met
  met_bits true = (refl, refl)
  met_bits false = (refl, refl)

  does_end : (s : Nt7508) (ram icons : List ℕ) → check_state s ≡ None → after (Call.Deadline now) (machine s ram icons) ≡ machine (ends_wait s) ram icons
  unfolding after at_deadline ends_wait
  does_end s ram icons h = ap (λ (s : Nt7508). machine s ram icons) (new_of (ends_wait s) s (timed_check s now (record { in_range_lem = i; state = h })))

  keeps_end : (s : Nt7508) → check_state s ≡ None → check_state (ends_wait s) ≡ None
  unfolding ends_wait
  keeps_end s h = valid_check (ends_wait s) (deadline_valid s now (valid s h))

  pub deadline_runs : Runs ok at (follow_deadline l now) (after (Call.Deadline now) m) (after (Call.Deadline now) n)
  unfolding follow_deadline line_met
  deadline_runs = go (is_at l.wait now) refl
    where
      go : (t : Bool) → is_at l.wait now ≡ t → Runs ok at (line_met t) (after (Call.Deadline now) m) (after (Call.Deadline now) n)
      go t e =
          both_do w (Call.Deadline now) ends_wait does_end
          (λ s h. keeps_end s h)
          (line_met t) (met_registers t) w.x w.y
          (ends_is t e l.bits w.x ∙ ap (λ (bs : List Bool). state_of (met_registers t) bs w.x) (sym (met_bits t).0))
          (ends_is t e (kept_under l) w.y ∙ ap (λ (bs : List Bool). state_of (met_registers t) bs w.y) (sym (met_bits t).1))
          (met_alike t)
