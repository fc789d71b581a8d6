-- No list from power-on is ever answered 3 to 5, whatever its times: every call leaves a state that passes its checks.
use Prim.Native.Nat.{ℕ}
use mathlib.Core.Bool.{Bool, true, false}
use mathlib.Core.List.{List, [], ◌∷◌}
use Rattle.std.specs.Prelude.{Option, None, Some}
use mathlib.Core.Path.{◌≡◌, refl, ◌∙◌, ap}
use lib.ListN.{length}
use Rattle.checks.specs.Checks.{row, first_of, answer, changed}
use Rattle.clock.specs.declared.time.Time.{Time}
use Rattle.clock.specs.Time.{in_range}
use Rattle.scan.specs.Check.{memory_ok, image_ok}
use Rattle.scan.specs.Count.{count_to, pieces}
use Rattle.scan.proofs.Drives.{counted_passes}
use Rattle.controller.specs.declared.state.Nt7508.{Nt7508}
use Rattle.controller.specs.State.{with_scan, with_power, with_serial}
use Rattle.controller.specs.Check.{group_ok, check_state, check_moment, check_group}
use Rattle.controller.specs.Bits.{Outcome, quiet, edges, unpacked, shift_in}
use Rattle.controller.specs.Supply.{selected_as, with_data, with_temperature, railed, deadline_met, select, command_data, set_temperature, set_supply, at_deadline}
use Rattle.controller.specs.Update.{counted_to, update}
use Rattle.controller.specs.Look.{levels_of, voltages_of, drive_of, render_of}
use Rattle.controller.proofs.Checks.{valid, valid_check, with_scan_valid, timed, called, grouped, moment_alone, lent_alone, group_alone, image_alone}
use Rattle.controller.proofs.PowerOn.{power_on_passes}
use Rattle.controller.proofs.Groups.{edges_valid}
use Rattle.controller.proofs.Supplies.{select_valid, line_valid, temperature_valid, deadline_valid, railed_valid}
use Rattle.strike.specs.Calls.{Call, Reply, Machine, start, reply, after, run}
use Rattle.strike.specs.Strike.{for_state, refusal, none_for_state}

module _ (m : Machine) (h : check_state m.state ≡ None) where
  -- a call that passes its check leaves what the law says, one that is refused the state given
  either_way : (check : Option ℕ) (new : Nt7508) → (check ≡ None → check_state new ≡ None) → check_state (changed check new m.state).1 ≡ None
  either_way check new f = go check refl
    where
      go : (k : Option ℕ) → check ≡ k → check_state (changed k new m.state).1 ≡ None
      go None e = f e
      go (Some n) e = h

  counted : (now : Time) → check_moment m.state now ≡ None → check_state (counted_to m.state now) ≡ None
  unfolding counted_to
  counted now k =
      let v = valid m.state h in
      valid_check (with_scan m.state (count_to m.state.scan m.state.display now))
      (with_scan_valid m.state v (count_to m.state.scan m.state.display now) (counted_passes m.state.scan m.state.display now (timed m.state now k).in_range_lem v.display v.scan))

  group : (now : Time) (count bits : ℕ) → check_state (after (Call.Bits now count bits) m).state ≡ None
  unfolding after shift_in
  group now count bits = go (check_group m.state bits count now m.ram m.icons) refl
    where
      o : Outcome
      o = quiet m.state m.ram m.icons

      go : (k : Option ℕ) → check_group m.state bits count now m.ram m.icons ≡ k → check_state (changed k (edges (unpacked count bits) now o) o).1.state ≡ None
      go (Some n) e = h
      go None e =
          let g = grouped m.state bits count now m.ram m.icons e in
          (called (edges (unpacked count bits) now o).state now (edges (unpacked count bits) now o).ram (edges (unpacked count bits) now o).icons (edges_valid (unpacked count bits) now o g.lent)).state

  update_left : (now : Time) → check_state (after (Call.Update now) m).state ≡ None
  unfolding after update
  update_left now = go (check_moment m.state now) refl
    where
      go : (k : Option ℕ) → check_moment m.state now ≡ k → check_state (changed {A = Nt7508 × ℕ} k (counted_to m.state now, pieces m.state.scan m.state.display now) (m.state, 0)).1.0 ≡ None
      go None e = counted now e
      go (Some n) e = h

  pub after_passes : (c : Call) → check_state (after c m).state ≡ None
  unfolding after command_data select set_supply set_temperature at_deadline
  after_passes (Call.Bits now count bits) = group now count bits
  after_passes (Call.Data on) = either_way (check_state m.state) (with_serial m.state (with_data m.state.serial on)) (λ k. valid_check _ (line_valid m.state on (valid m.state h)))
  after_passes (Call.Select on) = either_way (check_state m.state) (with_serial m.state (selected_as m.state.serial on)) (λ k. valid_check _ (select_valid m.state on (valid m.state h)))
  after_passes (Call.Supply millivolts now) = either_way (check_moment m.state now) (railed m.state millivolts now) (λ k. valid_check _ (railed_valid m.state millivolts now k))
  after_passes (Call.Temperature t) = either_way (check_state m.state) (with_power m.state (with_temperature m.state.power t)) (λ k. valid_check _ (temperature_valid m.state t (valid m.state h)))
  after_passes (Call.Deadline now) =
      either_way (check_moment m.state now) (with_power m.state (deadline_met m.state.power m.state.power.ready now)) (λ k. valid_check _ (deadline_valid m.state now (valid m.state h)))
  after_passes (Call.Update now) = update_left now
  after_passes (Call.Drive now) = h
  after_passes (Call.Image pixels) = h
  after_passes Call.Voltages = h

  -- a call is refused for its arguments alone
  moment_number : (i : Bool) → for_state (row 1 i) ≡ false
  moment_number true = refl
  moment_number false = refl

  lent_number : (ok i : Bool) → for_state (first_of (row 2 ok) (row 1 i)) ≡ false
  lent_number false i = refl
  lent_number true true = refl
  lent_number true false = refl

  group_number : (ok i g : Bool) → for_state (first_of (row 2 ok) (first_of (row 1 i) (row 7 g))) ≡ false
  group_number false i g = refl
  group_number true false g = refl
  group_number true true true = refl
  group_number true true false = refl

  image_number : (ok s : Bool) → for_state (first_of (row 2 ok) (row 8 s)) ≡ false
  image_number false s = refl
  image_number true true = refl
  image_number true false = refl

  by_state : for_state (check_state m.state) ≡ false
  by_state = ap for_state h

  by_moment : (now : Time) → for_state (check_moment m.state now) ≡ false
  by_moment now = ap for_state (moment_alone m.state h now) ∙ moment_number (in_range now)

  pub not_for_state : (c : Call) → for_state (refusal (reply c m)) ≡ false
  unfolding reply shift_in command_data select set_supply set_temperature at_deadline update drive_of render_of voltages_of
  not_for_state (Call.Bits now count bits) =
      ap for_state (group_alone m.state h m.ram m.icons refl bits count now) ∙ group_number (memory_ok m.ram m.icons) (in_range now) (group_ok bits count)
  not_for_state (Call.Data on) = by_state
  not_for_state (Call.Select on) = by_state
  not_for_state (Call.Supply millivolts now) = by_moment now
  not_for_state (Call.Temperature t) = by_state
  not_for_state (Call.Deadline now) = by_moment now
  not_for_state (Call.Update now) = by_moment now
  not_for_state (Call.Drive now) = ap for_state (lent_alone m.state h m.ram m.icons refl now) ∙ lent_number (memory_ok m.ram m.icons) (in_range now)
  not_for_state (Call.Image pixels) = ap for_state (image_alone m.state h m.ram m.icons refl (length pixels)) ∙ image_number (memory_ok m.ram m.icons) (image_ok (length pixels))
  not_for_state Call.Voltages = ap (λ (k : Option ℕ). for_state (refusal (Reply.Levels (answer k (levels_of m.state))))) h

-- a list on a state that passes
never_from : (cs : List Call) (m : Machine) → check_state m.state ≡ None → none_for_state (run cs m) ≡ true
unfolding run none_for_state
never_from [] m h = refl
never_from (c ∷ cs) m h = rw (not_for_state m h c) (never_from cs (after c m) (after_passes m h c))

pub never : (ram icons : List ℕ) (cs : List Call) → none_for_state (run cs (start ram icons)) ≡ true
never ram icons cs = never_from cs (start ram icons) power_on_passes
