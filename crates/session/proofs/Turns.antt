-- Each call leaves what the line asks for: a law for each action.
use Prim.Native.Nat.{ℕ}
use mathlib.Core.Bool.{Bool, true, false, cond}
use mathlib.Core.List.{List, []}
use mathlib.Core.Path.{◌≡◌, refl, sym, ◌∙◌, ap}
use lib.Dec.{leb}
use lib.IntN.{ℤ}
use Rattle.std.specs.Prelude.{Option, None, Some, Result, Ok, Err}
use Rattle.checks.specs.Checks.{row, first_of, unless_refused, changed}
use Rattle.clock.specs.declared.time.Time.{Time}
use Rattle.clock.specs.Time.{raw, in_range}
use Rattle.clock.specs.declared.check.Refusal as clocks
use Rattle.clock.specs.Check as clocks-check
use Rattle.scan.specs.Check.{by_clock}
use Rattle.scan.specs.declared.drive.LcdDrive.{LcdDrive}
use Rattle.scan.specs.declared.drive.Driven.{Driven}
use Rattle.controller.specs.declared.state.Nt7508.{Nt7508}
use Rattle.controller.specs.declared.check.Refusal.{Refusal}
use Rattle.controller.specs.declared.bits.Received.{Received}
use Rattle.controller.specs.declared.update.Updated.{Updated}
use Rattle.controller.specs.Check.{of_scan, refused, answered, check_state, check_moment, check_group}
use Rattle.controller.specs.Bits.{Outcome, quiet, edges, unpacked, received, shift_in}
use Rattle.controller.specs.Supply.{select, command_data, set_supply, set_temperature, at_deadline}
use Rattle.controller.specs.Update.{answered_update, update}
use Rattle.controller.specs.Look.{answered_drive, drive_of}
use Rattle.strike.specs.Calls.{Call, Machine, reply, after, with_state, outcome}
use Rattle.session.specs.declared.line.Action.{Action}
use Rattle.session.specs.declared.line.Line.{Line}
use Rattle.session.specs.declared.listing.Row.{Row}
use Rattle.session.specs.declared.session.Why.{Why}
use Rattle.session.specs.Listing.{row_of, drive_line}
use Rattle.session.specs.Session.{Turn, number, moment_of, refusal_of, after_of, shown_of, due_call, call_of, check_of, turn_of}
use Rattle.session.specs.Closed.{printed_text, waited_of, machine_of, turned}

-- the time check's refusal is a call's of the same number
pub same_number : (why : clocks.Refusal) {r : Option ℕ} → Some (clocks-check.number why) ≡ r → refused {A = Unit} (Err (of_scan (by_clock why))) ≡ r
same_number clocks.Refusal.Time e = e
same_number clocks.Refusal.Rate e = e
same_number clocks.Refusal.Clock e = e

-- a refused call leaves what it was given
left_back : {A B : Type 0} (f : A → B) (c : Option ℕ) (new given : A) → f (unless_refused c new given) ≡ unless_refused c (f (unless_refused c new given)) (f given)
left_back f None new given = refl
left_back f (Some n) new given = refl

given_left : {A : Type 0} (c : Option ℕ) (a : A) → a ≡ unless_refused c a a
given_left None a = refl
given_left (Some n) a = refl

-- the deadline call, due or not
pub waited_due :
    (x : Nt7508) {ready : Option Time} {t : Time} (now : Time) {b : Bool} → ready ≡ Some t → leb (raw t) (raw now) ≡ b
    → cond b (at_deadline x t) (None, x) ≡ waited_of x ready now
unfolding waited_of
waited_due x now e f = rw (e, f)

-- what a call says of its line, and the state that it leaves
abbrev pub told_by : {A : Type 0} → (A → Option Row) → Result A Refusal → Result (Option Row) Why
told_by shows (Ok a) = Ok (shows a)
told_by shows (Err why) = Err (Why.Call why)

abbrev pub left_by : {A : Type 0} → (A → Nt7508) → (given : Nt7508) → Result A Refusal → Nt7508
left_by state x (Ok a) = state a
left_by state x (Err why) = x

-- a line that is refused or not, and what it leaves and shows
abbrev pub line_turn : Option ℕ → (after before : Machine) → (shown : List ℕ) → Turn
line_turn c after before shown = record { refusal = c; machine = unless_refused c after before; shown = unless_refused c shown [] }

module _ (us : ℕ) (x : Nt7508) (ram icons : List ℕ) where
  abbrev m : Machine
  m = machine_of x ram icons

  passed_turn :
      (shown : Option Row) (left : Machine) (c : Option ℕ) (after before : Machine) {text : List ℕ}
      → None ≡ c → left ≡ unless_refused c after before → printed_text us shown ≡ text → turned us (Ok shown) left ≡ line_turn c after before text
  passed_turn shown left c after before e f g = λ i. record { refusal = e i; machine = f i; shown = unless_refused (e i) (g i) [] }

  refused_turn :
      (why : Why) (left : Machine) (c : Option ℕ) (after before : Machine) (text : List ℕ)
      → Some (number why) ≡ c → left ≡ unless_refused c after before → turned us (Err why) left ≡ line_turn c after before text
  refused_turn why left c after before text e f = λ i. record { refusal = e i; machine = f i; shown = unless_refused (e i) text [] }

  -- a call that gives the state that it leaves
  state_turn :
      (r : Result Nt7508 Refusal) (c : Option ℕ) (new : Nt7508) → answered x r ≡ changed c new x
      → turned us (told_by (λ y. None) r) (machine_of (left_by (λ y. y) x r) ram icons) ≡ line_turn c (with_state m (unless_refused c new x)) m []
  state_turn (Ok y) c new e =
      passed_turn None (machine_of y ram icons) c (with_state m (unless_refused c new x)) m (ap (λ (p : Option ℕ × Nt7508). p.0) e)
      (ap (λ (p : Option ℕ × Nt7508). machine_of p.1 ram icons) e ∙ left_back (with_state m) c new x) refl
  state_turn (Err why) c new e =
      refused_turn (Why.Call why) (machine_of x ram icons) c (with_state m (unless_refused c new x)) m [] (ap (λ (p : Option ℕ × Nt7508). p.0) e)
      (ap (λ (p : Option ℕ × Nt7508). machine_of p.1 ram icons) e ∙ left_back (with_state m) c new x)

  -- the same behind the line's time check
  timed_turn :
      (r : Result Nt7508 Refusal) (c : Option ℕ) (new : Nt7508) → None ≡ row 1 (in_range (moment_of us)) → answered x r ≡ changed c new x
      → turned us (told_by (λ y. None) r) (machine_of (left_by (λ y. y) x r) ram icons)
      ≡ line_turn (first_of (row 1 (in_range (moment_of us))) c) (with_state m (unless_refused c new x)) m []
  timed_turn r c new e f =
      state_turn r c new f ∙ ap (λ (k : Option ℕ). line_turn (first_of k c) (with_state m (unless_refused c new x)) m []) e

  -- a line whose call is not given its moment, and that the time check turns down
  late_turn :
      (why : Refusal) (c : Option ℕ) (after : Machine) → refused {A = Unit} (Err why) ≡ row 1 (in_range (moment_of us))
      → turned us (Err (Why.Call why)) (machine_of x ram icons) ≡ line_turn (first_of (row 1 (in_range (moment_of us))) c) after (machine_of x ram icons) []
  late_turn why c after e = ap (λ (k : Option ℕ). line_turn (first_of k c) after (machine_of x ram icons) []) e

-- ---- the turn of a line, by its action and the answer of its call
module _ (l : Line) (x : Nt7508) (ram icons : List ℕ) {now : Time} (at : now ≡ moment_of l.us) where
  with_action : {a : Action} {t : Turn} → l.action ≡ a → t ≡ turn_of (Some (record { us = l.us; action = a })) (machine_of x ram icons) → t ≡ turn_of (Some l) (machine_of x ram icons)
  with_action e f = f ∙ ap (λ (a : Action). turn_of (Some (record { us = l.us; action = a })) (machine_of x ram icons)) (sym e)

  in_time : {r : Option ℕ} → r ≡ row 1 (in_range now) → r ≡ row 1 (in_range (moment_of l.us))
  in_time e = e ∙ ap (λ (t : Time). row 1 (in_range t)) at

  module _ (why : Refusal) (late : refused {A = Unit} (Err why) ≡ row 1 (in_range now)) where
    pub late_data : (on : Bool) → l.action ≡ Action.Data on → turned l.us (Err (Why.Call why)) (machine_of x ram icons) ≡ turn_of (Some l) (machine_of x ram icons)
    unfolding turn_of check_of call_of reply after
    late_data on a = with_action a (late_turn l.us x ram icons why _ _ (in_time late))

    pub late_select : (on : Bool) → l.action ≡ Action.Select on → turned l.us (Err (Why.Call why)) (machine_of x ram icons) ≡ turn_of (Some l) (machine_of x ram icons)
    unfolding turn_of check_of call_of reply after
    late_select on a = with_action a (late_turn l.us x ram icons why _ _ (in_time late))

    pub late_temperature : (t : ℤ) → l.action ≡ Action.Temperature t → turned l.us (Err (Why.Call why)) (machine_of x ram icons) ≡ turn_of (Some l) (machine_of x ram icons)
    unfolding turn_of check_of call_of reply after
    late_temperature t a = with_action a (late_turn l.us x ram icons why _ _ (in_time late))

    pub late_deadline : l.action ≡ Action.Deadline → turned l.us (Err (Why.Call why)) (machine_of x ram icons) ≡ turn_of (Some l) (machine_of x ram icons)
    unfolding turn_of check_of call_of
    late_deadline a = with_action a (go (due_call x.power.ready (moment_of l.us)))
      where
        go : (c : Option Call)
            → turned l.us (Err (Why.Call why)) (machine_of x ram icons)
            ≡ line_turn (first_of (row 1 (in_range (moment_of l.us))) (refusal_of c (machine_of x ram icons))) (after_of c (machine_of x ram icons)) (machine_of x ram icons) (shown_of l.us c (machine_of x ram icons))
        go c = ap (λ (k : Option ℕ). line_turn (first_of k (refusal_of c (machine_of x ram icons))) (after_of c (machine_of x ram icons)) (machine_of x ram icons) (shown_of l.us c (machine_of x ram icons))) (in_time late)

  pub byte_turn :
      (value : ℕ) → l.action ≡ Action.Byte value → (r : Result Received Refusal) (ram' icons' : List ℕ) → received x r ram' icons' ≡ shift_in x value 8 now ram icons
      → turned l.us (told_by (λ y. None) r) (machine_of (left_by (λ y. y.state) x r) ram' icons') ≡ turn_of (Some l) (machine_of x ram icons)
  unfolding turn_of check_of call_of reply after shift_in
  byte_turn value a r ram' icons' e = with_action a (go r (e ∙ ap (λ (t : Time). shift_in x value 8 t ram icons) at))
    where
      c : Option ℕ
      c = check_group x value 8 (moment_of l.us) ram icons

      new : Outcome
      new = edges (unpacked 8 value) (moment_of l.us) (quiet x ram icons)

      go : (r : Result Received Refusal) → received x r ram' icons' ≡ changed c new (quiet x ram icons)
          → turned l.us (told_by (λ y. None) r) (machine_of (left_by (λ y. y.state) x r) ram' icons')
          ≡ line_turn c (outcome (unless_refused c new (quiet x ram icons))) (machine_of x ram icons) []
      go (Ok y) e =
          passed_turn l.us x ram icons None (machine_of y.state ram' icons') c (outcome (unless_refused c new (quiet x ram icons))) (machine_of x ram icons) (ap (λ (p : Option ℕ × Outcome). p.0) e)
          (ap (λ (p : Option ℕ × Outcome). outcome p.1) e ∙ left_back outcome c new (quiet x ram icons)) refl
      go (Err why) e =
          refused_turn l.us x ram icons (Why.Call why) (machine_of x ram' icons') c (outcome (unless_refused c new (quiet x ram icons))) (machine_of x ram icons) [] (ap (λ (p : Option ℕ × Outcome). p.0) e)
          (ap (λ (p : Option ℕ × Outcome). outcome p.1) e ∙ left_back outcome c new (quiet x ram icons))

  pub supply_turn :
      (millivolts : ℕ) → l.action ≡ Action.Supply millivolts → (r : Result Nt7508 Refusal) → answered x r ≡ set_supply x millivolts now
      → turned l.us (told_by (λ y. None) r) (machine_of (left_by (λ y. y) x r) ram icons) ≡ turn_of (Some l) (machine_of x ram icons)
  unfolding turn_of check_of call_of reply after set_supply
  supply_turn millivolts a r e =
      with_action a (state_turn l.us x ram icons r (check_moment x (moment_of l.us)) _ (e ∙ ap (λ (t : Time). set_supply x millivolts t) at))

  pub update_turn :
      l.action ≡ Action.Update → (r : Result Updated Refusal) → answered_update x r ≡ update x now
      → turned l.us (told_by (λ y. None) r) (machine_of (left_by (λ y. y.state) x r) ram icons) ≡ turn_of (Some l) (machine_of x ram icons)
  unfolding turn_of check_of call_of reply after update
  update_turn a r e = with_action a (go r (e ∙ ap (λ (t : Time). update x t) at))
    where
      go : (r : Result Updated Refusal) → answered_update x r ≡ update x (moment_of l.us)
          → turned l.us (told_by (λ y. None) r) (machine_of (left_by (λ y. y.state) x r) ram icons)
          ≡ line_turn (check_moment x (moment_of l.us)) (with_state (machine_of x ram icons) (update x (moment_of l.us)).1.0) (machine_of x ram icons) []
      go (Ok y) e =
          passed_turn l.us x ram icons None (machine_of y.state ram icons) (check_moment x (moment_of l.us)) _ (machine_of x ram icons) (ap (λ (p : Option ℕ × (Nt7508 × ℕ)). p.0) e)
          (ap (λ (p : Option ℕ × (Nt7508 × ℕ)). machine_of p.1.0 ram icons) e ∙ left_back (λ (q : Nt7508 × ℕ). with_state (machine_of x ram icons) q.0) (check_moment x (moment_of l.us)) _ (x, 0)) refl
      go (Err why) e =
          refused_turn l.us x ram icons (Why.Call why) (machine_of x ram icons) (check_moment x (moment_of l.us)) _ (machine_of x ram icons) [] (ap (λ (p : Option ℕ × (Nt7508 × ℕ)). p.0) e)
          (ap (λ (p : Option ℕ × (Nt7508 × ℕ)). machine_of p.1.0 ram icons) e ∙ left_back (λ (q : Nt7508 × ℕ). with_state (machine_of x ram icons) q.0) (check_moment x (moment_of l.us)) _ (x, 0))

  pub drive_turn :
      l.action ≡ Action.Drive → (r : Result Driven Refusal) → answered_drive r ≡ drive_of x now ram icons
      → turned l.us (told_by (λ y. Some (row_of y.drive y.frame)) r) (machine_of x ram icons) ≡ turn_of (Some l) (machine_of x ram icons)
  unfolding turn_of check_of call_of reply after
  drive_turn a r e = with_action a (go r (e ∙ ap (λ (t : Time). drive_of x t ram icons) at))
    where
      d : Option ℕ × (LcdDrive × ℕ)
      d = drive_of x (moment_of l.us) ram icons

      go : (r : Result Driven Refusal) → answered_drive r ≡ d
          → turned l.us (told_by (λ y. Some (row_of y.drive y.frame)) r) (machine_of x ram icons)
          ≡ line_turn d.0 (machine_of x ram icons) (machine_of x ram icons) (drive_line l.us (row_of d.1.0 d.1.1))
      go (Ok y) e =
          passed_turn l.us x ram icons (Some (row_of y.drive y.frame)) (machine_of x ram icons) d.0 (machine_of x ram icons) (machine_of x ram icons) (λ i. (e i).0) (given_left d.0 (machine_of x ram icons))
          (λ i. drive_line l.us (row_of (e i).1.0 (e i).1.1))
      go (Err why) e =
          refused_turn l.us x ram icons (Why.Call why) (machine_of x ram icons) d.0 (machine_of x ram icons) (machine_of x ram icons) (drive_line l.us (row_of d.1.0 d.1.1)) (λ i. (e i).0) (given_left d.0 (machine_of x ram icons))

  -- calls that are not given the moment, behind the time check
  module _ (passed : None ≡ row 1 (in_range now)) (r : Result Nt7508 Refusal) where
    pub data_turn :
        (on : Bool) → l.action ≡ Action.Data on → answered x r ≡ command_data x on
        → turned l.us (told_by (λ y. None) r) (machine_of (left_by (λ y. y) x r) ram icons) ≡ turn_of (Some l) (machine_of x ram icons)
    unfolding turn_of check_of call_of reply after command_data
    data_turn on a e = with_action a (timed_turn l.us x ram icons r (check_state x) _ (in_time passed) e)

    pub select_turn :
        (on : Bool) → l.action ≡ Action.Select on → answered x r ≡ select x on
        → turned l.us (told_by (λ y. None) r) (machine_of (left_by (λ y. y) x r) ram icons) ≡ turn_of (Some l) (machine_of x ram icons)
    unfolding turn_of check_of call_of reply after select
    select_turn on a e = with_action a (timed_turn l.us x ram icons r (check_state x) _ (in_time passed) e)

    pub temperature_turn :
        (t : ℤ) → l.action ≡ Action.Temperature t → answered x r ≡ set_temperature x t
        → turned l.us (told_by (λ y. None) r) (machine_of (left_by (λ y. y) x r) ram icons) ≡ turn_of (Some l) (machine_of x ram icons)
    unfolding turn_of check_of call_of reply after set_temperature
    temperature_turn t a e = with_action a (timed_turn l.us x ram icons r (check_state x) _ (in_time passed) e)

    pub deadline_turn :
        l.action ≡ Action.Deadline → answered x r ≡ waited_of x x.power.ready now
        → turned l.us (told_by (λ y. None) r) (machine_of (left_by (λ y. y) x r) ram icons) ≡ turn_of (Some l) (machine_of x ram icons)
    unfolding turn_of check_of call_of due_call waited_of reply after at_deadline
    deadline_turn a e = with_action a (go x.power.ready (e ∙ ap (λ (t : Time). waited_of x x.power.ready t) at))
      where
        due :
            (t : Time) (b : Bool) → answered x r ≡ cond b (at_deadline x t) (None, x)
            → turned l.us (told_by (λ y. None) r) (machine_of (left_by (λ y. y) x r) ram icons)
            ≡ line_turn (first_of (row 1 (in_range (moment_of l.us))) (refusal_of (cond b (Some (Call.Deadline t)) None) (machine_of x ram icons))) (after_of (cond b (Some (Call.Deadline t)) None) (machine_of x ram icons)) (machine_of x ram icons) (shown_of l.us (cond b (Some (Call.Deadline t)) None) (machine_of x ram icons))
        due t true f = timed_turn l.us x ram icons r (check_moment x t) _ (in_time passed) f
        due t false f = timed_turn l.us x ram icons r None x (in_time passed) f

        go :
            (ready : Option Time) → answered x r ≡ waited_of x ready (moment_of l.us)
            → turned l.us (told_by (λ y. None) r) (machine_of (left_by (λ y. y) x r) ram icons)
            ≡ line_turn (first_of (row 1 (in_range (moment_of l.us))) (refusal_of (due_call ready (moment_of l.us)) (machine_of x ram icons))) (after_of (due_call ready (moment_of l.us)) (machine_of x ram icons)) (machine_of x ram icons) (shown_of l.us (due_call ready (moment_of l.us)) (machine_of x ram icons))
        go None f = timed_turn l.us x ram icons r None x (in_time passed) f
        go (Some t) f = due t (leb (raw t) (raw (moment_of l.us))) f
