-- What selecting, the data line, supply, temperature, the start-up wait and the loss of memory leave: a state that passed its
-- checks passes them still.
use Prim.Native.Nat.{ℕ}
use mathlib.Core.Bool.{Bool, true, false, cond, not, ◌&&◌, ◌||◌, beq, false≢true}
use Rattle.std.specs.Prelude.{Option, Some, None}
use mathlib.Core.Path.{◌≡◌, refl, sym}
use lib.Dec.{ltb, eqb}
use borrow.Author.Tests.{eqb-true, eq-eqb}
use Rattle.std.specs.Option.{option_eq}
use lib.IntN.{ℤ}
use Rattle.checks.proofs.Tests.{both}
use Rattle.clock.specs.declared.time.Time.{Time}
use Rattle.clock.specs.Time.{raw}
use Rattle.scan.specs.Count.{count_to}
use Rattle.scan.specs.Run.{stopped, resumed}
use Rattle.scan.specs.Drive.{runs}
use Rattle.scan.proofs.Checks.{valid_scan_lem, valid_check, valid_settings_lem}
use Rattle.scan.proofs.Counting.{count_to_valid}
use Rattle.scan.proofs.Runs.{stopped_valid, resumed_valid}
use Rattle.controller.specs.declared.state.Nt7508.{Nt7508}
use Rattle.controller.specs.declared.state.Serial.{Serial}
use Rattle.controller.specs.declared.state.Power.{Power}
use Rattle.controller.specs.State.{power_on, with_power, with_serial}
use Rattle.controller.specs.Check.{valid_pending, valid_serial, supplied_at, valid_power, valid_state, check_state, check_moment}
use Rattle.controller.specs.Byte.{conditions_of}
use Rattle.controller.specs.Supply.{selected_as, with_data, with_temperature, with_ready, with_rail, fallen, chilled, cold_risen, warm_risen, risen, switched, railed, deadline_met}
use Rattle.controller.proofs.Checks.{Valid, valid, timed, with_serial_valid, with_power_valid, with_scan_valid}
use Rattle.controller.proofs.PowerOn.{power_on_valid}

-- ---- the calls that set one group
selected_serial : (l : Serial) (on : Bool) → valid_serial l ≡ true → valid_serial (selected_as l on) ≡ true
unfolding selected_as valid_serial
selected_serial l on h = go (beq l.selected on)
  where
    go : (t : Bool) → ltb (cond t l.bits 0) 8 && valid_pending l.pending ≡ true
    go true = h
    go false = (both (ltb l.bits 8) (valid_pending l.pending) h).1

-- a wait that ends at the moment, by the equality of times that the derive gives
abbrev same_parts : Time → Time → Bool
same_parts s t = eqb s.seconds t.seconds && eqb s.fraction t.fraction

pub wait_met : (p : Power) (ready : Option Time) (now : Time) → option_eq same_parts ready (Some now) ≡ true → with_ready p false None ≡ deadline_met p ready now
unfolding deadline_met
wait_met p None now h = absurd (false≢true h)
wait_met p (Some t) now h =
    let parts = both _ _ h in
    let seconds = eqb-true t.seconds now.seconds parts.0 in
    let fraction = eqb-true t.fraction now.fraction parts.1 in
    rw (eq-eqb (raw t) (raw now) (rw (seconds, fraction)))

deadline_power : (p : Power) (ready : Option Time) (now : Time) → valid_power p ≡ true → valid_power (deadline_met p ready now) ≡ true
unfolding deadline_met valid_power
deadline_power p None now h = h
deadline_power p (Some t) now h = go (eqb (raw t) (raw now))
  where
    go : (met : Bool) → valid_power (cond met (with_ready p false None) p) ≡ true
    go true = h
    go false = h

module _ (x : Nt7508) where
  pub select_valid : (on : Bool) → Valid x → Valid (with_serial x (selected_as x.serial on))
  select_valid on v = with_serial_valid x v (selected_as x.serial on) (selected_serial x.serial on v.serial)

  pub line_valid : (on : Bool) → Valid x → Valid (with_serial x (with_data x.serial on))
  unfolding valid_serial
  line_valid on v = with_serial_valid x v (with_data x.serial on) v.serial

  pub temperature_valid : (millicelsius : ℤ) → Valid x → Valid (with_power x (with_temperature x.power millicelsius))
  unfolding valid_power
  temperature_valid millicelsius v = with_power_valid x v (with_temperature x.power millicelsius) v.power

  pub deadline_valid : (now : Time) → Valid x → Valid (with_power x (deadline_met x.power x.power.ready now))
  deadline_valid now v = with_power_valid x v (deadline_met x.power x.power.ready now) (deadline_power x.power x.power.ready now v.power)

  -- cold and the wait are not checked
  ready_valid : (cold : Bool) (ready : Option Time) → Valid x → Valid (with_power x (with_ready x.power cold ready))
  unfolding valid_power
  ready_valid cold ready v = with_power_valid x v (with_ready x.power cold ready) v.power

  pub lost_valid : Valid x → Valid (with_power x (with_ready x.power true x.power.ready))
  lost_valid v = ready_valid true x.power.ready v

-- ---- the supply
chilled_valid : (x : Nt7508) (millivolts : ℕ) → Valid x → Valid (chilled x millivolts)
chilled_valid x millivolts v = ready_valid x (x.power.cold || eqb millivolts 0) x.power.ready v

-- the checks of a rise pass where those of the call do
pub chilled_timed : (x : Nt7508) (millivolts : ℕ) (now : Time) → check_moment x now ≡ None → check_moment (chilled x millivolts) now ≡ None
unfolding check_moment check_state valid_state valid_power with_power
chilled_timed x millivolts now h = h

-- the rail by whether it was supplied and is: a fall, a rise, or neither
module _ (x : Nt7508) (millivolts : ℕ) (now : Time) where
  abbrev switched_by : (was on : Bool) → Nt7508
  switched_by was on = cond was (chilled (cond on x (fallen x now)) millivolts) (cond on (risen (chilled x millivolts) now) (chilled x millivolts))

  pub switched_falls : x.power.supplied && not (supplied_at millivolts) ≡ true → chilled (fallen x now) millivolts ≡ switched x millivolts now
  unfolding switched
  switched_falls h = go x.power.supplied (supplied_at millivolts) h
    where
      go : (was on : Bool) → was && not on ≡ true → chilled (fallen x now) millivolts ≡ switched_by was on
      go true true h = absurd (false≢true h)
      go true false h = refl
      go false on h = absurd (false≢true h)

  pub switched_rises : supplied_at millivolts && not x.power.supplied ≡ true → risen (chilled x millivolts) now ≡ switched x millivolts now
  unfolding switched
  switched_rises h = go x.power.supplied (supplied_at millivolts) h
    where
      go : (was on : Bool) → on && not was ≡ true → risen (chilled x millivolts) now ≡ switched_by was on
      go true true h = absurd (false≢true h)
      go true false h = absurd (false≢true h)
      go false true h = refl
      go false false h = absurd (false≢true h)

  pub switched_stays : x.power.supplied && not (supplied_at millivolts) ≡ false → supplied_at millivolts && not x.power.supplied ≡ false → chilled x millivolts ≡ switched x millivolts now
  unfolding switched
  switched_stays f r = go x.power.supplied (supplied_at millivolts) f r
    where
      go : (was on : Bool) → was && not on ≡ false → on && not was ≡ false → chilled x millivolts ≡ switched_by was on
      go true true f r = refl
      go true false f r = absurd (false≢true (sym f))
      go false true f r = absurd (false≢true (sym r))
      go false false f r = refl

module _ (x : Nt7508) (now : Time) (h : check_moment x now ≡ None) where
  fallen_valid : Valid (fallen x now)
  unfolding fallen valid_power
  fallen_valid =
      let t = timed x now h in
      let v = valid x t.state in
      let counted = count_to_valid x.display (valid_settings_lem x.display v.display) now t.in_range_lem x.scan (valid_scan_lem x.scan v.scan) in
      record {
        serial = selected_serial x.serial false v.serial;
        address = v.address;
        display = v.display;
        analog = v.analog;
        power = v.power;
        scan = valid_check (stopped (count_to x.scan x.display now)) (stopped_valid (count_to x.scan x.display now) counted);
      }

  cold_risen_valid : Valid (cold_risen x now)
  unfolding cold_risen valid_power
  cold_risen_valid = with_power_valid power_on power_on_valid _ power_on_valid.power

  warm_risen_valid : Valid (warm_risen x now)
  unfolding warm_risen
  warm_risen_valid =
      let t = timed x now h in
      let v = valid x t.state in
      let on = runs (conditions_of x.power) in
      with_scan_valid x v (resumed x.scan x.display now on) (valid_check (resumed x.scan x.display now on) (resumed_valid x.scan x.display now on (valid_scan_lem x.scan v.scan) (valid_settings_lem x.display v.display) t.in_range_lem))

  risen_valid : Valid (risen x now)
  unfolding risen
  risen_valid = go x.power.cold
    where
      go : (cold : Bool) → Valid (cond cold (cold_risen x now) (warm_risen x now))
      go true = cold_risen_valid
      go false = warm_risen_valid

rail_fits : (millivolts : ℕ) → beq (supplied_at millivolts) (supplied_at millivolts) ≡ true
rail_fits millivolts = go (supplied_at millivolts)
  where
    go : (on : Bool) → beq on on ≡ true
    go true = refl
    go false = refl

module _ (x : Nt7508) (millivolts : ℕ) (now : Time) (h : check_moment x now ≡ None) where
  switched_valid : Valid (switched x millivolts now)
  unfolding switched
  switched_valid = go x.power.supplied (supplied_at millivolts)
    where
      v : Valid x
      v = valid x (timed x now h).state

      go : (was on : Bool) → Valid (switched_by x millivolts now was on)
      go true true = chilled_valid x millivolts v
      go true false = chilled_valid (fallen x now) millivolts (fallen_valid x now h)
      go false true = risen_valid (chilled x millivolts) now (chilled_timed x millivolts now h)
      go false false = chilled_valid x millivolts v

  pub railed_valid : Valid (railed x millivolts now)
  unfolding railed valid_power
  railed_valid = with_power_valid (switched x millivolts now) switched_valid (with_rail (switched x millivolts now).power millivolts) (rail_fits millivolts)
