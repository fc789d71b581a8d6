-- The supply in both runs: a fall stops both scans, a cold rise returns both to power-on, a warm rise resumes both.
use Prim.Native.Nat.{ℕ, ◌+◌}
use mathlib.Core.Bool.{Bool, true, false, cond, ◌||◌, beq, false≢true}
use mathlib.Core.List.{List, []}
use Rattle.std.specs.Prelude.{None, Some}
use mathlib.Core.Path.{◌≡◌, refl, sym, ◌∙◌, ap, subst⁻¹}
use lib.Dec.{eqb}
use lib.ListN.{length}
use Rattle.clock.specs.declared.time.Time.{Time}
use Rattle.clock.specs.Time.{raw, time_of, micros_raw, in_range}
use Rattle.scan.specs.declared.state.Scan.{Scan}
use Rattle.scan.specs.State as scan
use Rattle.scan.specs.Count.{count_to}
use Rattle.scan.specs.Run.{stopped, resumed}
use Rattle.scan.specs.Drive.{runs}
use Rattle.scan.proofs.Runs.{resumed_quiet, power_on_quiet, stopped_clock}
use Rattle.scan.proofs.Agree.{agree_stopped, agree_resumed}
use Rattle.controller.specs.declared.state.Nt7508.{Nt7508}
use Rattle.controller.specs.State.{power_on, with_scan, with_power, with_serial}
use Rattle.controller.specs.Check.{supplied_at, check_state}
use Rattle.controller.specs.Supply.{selected_as, with_ready, with_rail, fallen, chilled, cold_risen, warm_risen, risen, switched, railed, set_supply}
use Rattle.controller.proofs.Checks.{valid_check}
use Rattle.controller.proofs.Supplies.{railed_valid}
use Rattle.strike.specs.Calls.{Call, Machine, after}
use Rattle.strike.specs.Line.{Line, line_on, value, clears, follow_select, falls, chills, rises, follow_supply}
use Rattle.strike.specs.Line as line
use Rattle.strike.proofs.Bytes.{state_of, Alike, running}
use Rattle.strike.proofs.Runs.{Runs, kept_under, machine}
use Rattle.strike.proofs.Calls.{new_of, both_do, timely, vs, vx, vy, clears_kept}

module _ {ok : Bool} (now : Time) {l : Line} {m n : Machine} (w : Runs ok now l m n) (i : in_range now ≡ true) (millivolts : ℕ) where
  abbrev c : Nt7508
  c = w.c

  -- the rule with its tests given: supplied before, supplied after, cold
  ruled : (was on cold : Bool) → Nt7508 → Nt7508
  ruled was on cold s =
      cond was
      (chilled (cond on s (fallen s now)) millivolts)
      (cond on (cond cold (cold_risen (chilled s millivolts) now) (warm_risen (chilled s millivolts) now)) (chilled s millivolts))

  set_to : Nt7508 → Nt7508
  set_to s = with_power s (with_rail s.power millivolts)

  railed_by : (s : Nt7508) → railed s millivolts now ≡ set_to (ruled s.power.supplied (supplied_at millivolts) (s.power.cold || eqb millivolts 0) s)
  unfolding railed switched risen ruled set_to with_power
  railed_by s = refl

  -- and of the line
  line_ruled : (was on cold : Bool) → Line
  line_ruled was on cold =
      cond was
      (chills (cond on l (falls l)) millivolts)
      (cond on (cond cold (line.with_power line_on true true (Some (time_of (raw now + micros_raw 21)))) (chills l millivolts)) (chills l millivolts))

  line_set : Line → Line
  line_set k = line.with_power k (supplied_at millivolts) k.cold k.wait

  line_by : follow_supply l millivolts now ≡ line_set (line_ruled l.supplied (supplied_at millivolts) (l.cold || eqb millivolts 0))
  unfolding follow_supply rises line_ruled line_set chills
  line_by = refl

  -- what one way of it does to both runs
  record Way (was on cold : Bool) : Type 0 where
    c' : Nt7508
    x' : Scan
    y' : Scan
    full : set_to (ruled was on cold (state_of c l.bits w.x)) ≡ state_of c' (line_set (line_ruled was on cold)).bits x'
    kept : set_to (ruled was on cold (state_of c (kept_under l) w.y)) ≡ state_of c' (kept_under (line_set (line_ruled was on cold))) y'
    alike : Alike now (line_set (line_ruled was on cold)) c' x' y' w.ram w.icons

  -- neither a fall nor a rise
  stays_on : (cold : Bool) → l.supplied ≡ true → supplied_at millivolts ≡ true → Way true true cold
  unfolding ruled set_to line_ruled line_set chills state_of with_scan with_serial with_power runs
  stays_on cold hs ho = let a = w.alike in record {
    c' = set_to (chilled c millivolts);
    x' = w.x;
    y' = w.y;
    full = refl;
    kept = refl;
    alike = record {
      tied = record { selected = a.tied.selected; is_data = a.tied.is_data; awaiting = a.tied.awaiting; supplied = refl; cold = ap (λ (k : Bool). k || eqb millivolts 0) a.tied.cold; wait = a.tied.wait };
      agree = a.agree;
      quiet = λ s. a.quiet hs;
      still = λ s. absurd (false≢true (sym s ∙ ho));
    };
  }

  stays_off : (cold : Bool) → l.supplied ≡ false → supplied_at millivolts ≡ false → Way false false cold
  unfolding ruled set_to line_ruled line_set chills state_of with_scan with_serial with_power runs
  stays_off cold hs ho = let a = w.alike in record {
    c' = set_to (chilled c millivolts);
    x' = w.x;
    y' = w.y;
    full = refl;
    kept = refl;
    alike = record {
      tied = record { selected = a.tied.selected; is_data = a.tied.is_data; awaiting = a.tied.awaiting; supplied = refl; cold = ap (λ (k : Bool). k || eqb millivolts 0) a.tied.cold; wait = a.tied.wait };
      agree = a.agree;
      quiet = λ s. absurd (false≢true (sym ho ∙ s));
      still = λ s. a.still hs;
    };
  }

  -- a warm rise
  warm_rise : l.supplied ≡ false → supplied_at millivolts ≡ true → Way false true false
  unfolding ruled set_to line_ruled line_set chills warm_risen state_of with_scan with_serial with_power runs
  warm_rise hs ho = let a = w.alike in record {
    c' = set_to (chilled c millivolts);
    x' = resumed w.x c.display now (running c);
    y' = resumed w.y c.display now (running c);
    full = refl;
    kept = refl;
    alike = record {
      tied = record { selected = a.tied.selected; is_data = a.tied.is_data; awaiting = a.tied.awaiting; supplied = refl; cold = ap (λ (k : Bool). k || eqb millivolts 0) a.tied.cold; wait = a.tied.wait };
      agree = agree_resumed c.display w.ram w.icons (vs now w i) now i w.x w.y (vx now w i) (vy now w i) a.agree (running c) (a.still hs).0 (a.still hs).1;
      quiet = λ s. (resumed_quiet w.x c.display now (running c), resumed_quiet w.y c.display now (running c));
      still = λ s. absurd (false≢true (sym s ∙ ho));
    };
  }

  -- a cold rise
  cold_rise : supplied_at millivolts ≡ true → Way false true true
  unfolding ruled set_to line_ruled line_set cold_risen state_of with_scan with_serial with_power power_on value runs
  cold_rise ho = record {
    c' = set_to (cold_risen (chilled c millivolts) now);
    x' = scan.power_on;
    y' = scan.power_on;
    full = refl;
    kept = refl;
    alike = record {
      tied = record { selected = refl; is_data = refl; awaiting = refl; supplied = refl; cold = refl; wait = refl };
      agree = refl;
      quiet = λ s. (power_on_quiet power_on.display, power_on_quiet power_on.display);
      still = λ s. absurd (false≢true (sym s ∙ ho));
    };
  }

  -- a fall: both scans counted and stopped, the bits under way dropped where it deselects
  deselected : (bits : List Bool) (z : Scan)
      → set_to (chilled (fallen (state_of c bits z) now) millivolts) ≡ state_of (set_to (chilled (fallen c now) millivolts)) (clears c.serial.selected false bits) (stopped (count_to z c.display now))
  unfolding set_to fallen selected_as state_of with_scan with_serial with_power value
  deselected bits z = go (beq c.serial.selected false)
    where
      with_bits_lem : (shift count : ℕ) → Nt7508
      with_bits_lem shift count = record {
        scan = stopped (count_to z c.display now);
        display = c.display;
        analog = c.analog;
        power = with_rail (with_ready (with_ready c.power c.power.cold None) (c.power.cold || eqb millivolts 0) None) millivolts;
        address = c.address;
        serial = record { selected = false; «data» = c.serial.«data»; shift = shift; bits = count; pending = c.serial.pending };
      }

      go : (t : Bool) → with_bits_lem (cond t (value bits) 0) (cond t (length bits) 0) ≡ with_bits_lem (value (cond t bits [])) (length (cond t bits []))
      go true = refl
      go false = refl

  fall : supplied_at millivolts ≡ false → (cold : Bool) → Way true false cold
  unfolding ruled line_ruled line_set set_to chills falls follow_select fallen selected_as with_power runs
  fall ho cold = let a = w.alike in let x = w.x in let y = w.y in record {
    c' = set_to (chilled (fallen c now) millivolts);
    x' = stopped (count_to x c.display now);
    y' = stopped (count_to y c.display now);
    full = deselected l.bits x ∙ ap (λ (s : Bool). state_of (set_to (chilled (fallen c now) millivolts)) (clears s false l.bits) (stopped (count_to x c.display now))) a.tied.selected;
    kept =
        deselected (kept_under l) y
        ∙ ap (λ (s : Bool). state_of (set_to (chilled (fallen c now) millivolts)) (clears s false (kept_under l)) (stopped (count_to y c.display now))) a.tied.selected
        ∙ ap (λ (bits : List Bool). state_of (set_to (chilled (fallen c now) millivolts)) bits (stopped (count_to y c.display now))) (clears_kept w (beq l.selected false) l.struck l.bits);
    alike = record {
      tied = record { selected = refl; is_data = a.tied.is_data; awaiting = a.tied.awaiting; supplied = refl; cold = ap (λ (k : Bool). k || eqb millivolts 0) a.tied.cold; wait = refl };
      agree = agree_stopped c.display w.ram w.icons (vs now w i) now i x y (vx now w i) (vy now w i) a.agree;
      quiet = λ s. absurd (false≢true (sym ho ∙ s));
      still = λ s. (stopped_clock (count_to x c.display now), stopped_clock (count_to y c.display now));
    };
  }

  way : (was on cold : Bool) → l.supplied ≡ was → supplied_at millivolts ≡ on → Way was on cold
  way true true cold hs ho = stays_on cold hs ho
  way true false cold hs ho = fall ho cold
  way false true true hs ho = cold_rise ho
  way false true false hs ho = warm_rise hs ho
  way false false cold hs ho = stays_off cold hs ho

  -- the call is that rule, on what the line knows
  sets : (s : Nt7508) (ram icons : List ℕ) → check_state s ≡ None → after (Call.Supply millivolts now) (machine s ram icons) ≡ machine (railed s millivolts now) ram icons
  unfolding after set_supply
  sets s ram icons h = ap (λ (s : Nt7508). machine s ram icons) (new_of (railed s millivolts now) s (timely now w i s h))

  by_line : (bits : List Bool) (z : Scan) → railed (state_of c bits z) millivolts now ≡ set_to (ruled l.supplied (supplied_at millivolts) (l.cold || eqb millivolts 0) (state_of c bits z))
  unfolding state_of with_scan with_serial
  by_line bits z =
      railed_by (state_of c bits z)
      ∙ (λ j. set_to (ruled (w.alike.tied.supplied j) (supplied_at millivolts) (w.alike.tied.cold j || eqb millivolts 0) (state_of c bits z)))

  pub supply_runs : Runs ok now (follow_supply l millivolts now) (after (Call.Supply millivolts now) m) (after (Call.Supply millivolts now) n)
  supply_runs =
      subst⁻¹ (λ (k : Line). Runs ok now k (after (Call.Supply millivolts now) m) (after (Call.Supply millivolts now) n)) line_by
      (let v = way l.supplied (supplied_at millivolts) (l.cold || eqb millivolts 0) refl refl in
      both_do w (Call.Supply millivolts now) (λ (s : Nt7508). railed s millivolts now) sets
      (λ s h. valid_check (railed s millivolts now) (railed_valid s millivolts now (timely now w i s h)))
      (line_set (line_ruled l.supplied (supplied_at millivolts) (l.cold || eqb millivolts 0))) v.c' v.x' v.y'
      (by_line l.bits w.x ∙ v.full) (by_line (kept_under l) w.y ∙ v.kept) v.alike)
