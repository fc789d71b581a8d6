-- Document 01, 'Session program': a line is a call of demand 3's list, on the state and memory that the last one left, and gives a
-- line of the listing if it is a drive. A refusal stops the session, with state and memory as before that line.
use Rattle.std.specs.Prelude.{ℕ, ◌+◌, Bool, true, false, cond, ◌||◌, List, [], ◌∷◌, ◌++◌, leb, length, drop, Option, Some, None, Result, Ok, Err}
use Rattle.checks.specs.Checks.{row, first_of, unless_refused}
use Rattle.clock.specs.declared.time.Time.{Time}
use Rattle.clock.specs.Time.{raw, time_of, micros_raw, in_range}
use Rattle.controller.specs.Check as controllers
use Rattle.strike.specs.Calls.{Call, Reply, Machine, start, reply, after}
use Rattle.strike.specs.Strike.{refusal}
use Rattle.decimal.specs.Print.{put}
use Rattle.session.specs.declared.line.Action.{Action}
use Rattle.session.specs.declared.line.Line.{Line}
use Rattle.session.specs.declared.session.Why.{Why}
use Rattle.session.specs.declared.session.Stop.{Stop}
use Rattle.session.specs.declared.session.Ended.{Ended}
use Rattle.session.specs.Text.{names_line, opens, lines_of}
use Rattle.session.specs.Line.{line_of}
use Rattle.session.specs.Listing.{listing_names, row_of, drive_line, refusal_text}

-- microseconds become time
abbrev pub moment_of : (us : ℕ) → Time
moment_of us = time_of (micros_raw us)

-- when the controller's start-up wait ends
abbrev pub wait_of : Machine → Option Time
wait_of m = m.state.power.ready

-- the deadline call at the controller's own ready time if that is not later than the line's moment, else nothing
unfoldable pub due_call : (wait : Option Time) → Time → Option Call
due_call None now = None
due_call (Some t) now = cond (leb (raw t) (raw now)) (Some (Call.Deadline t)) None

-- the call of a line; `byte` is eight edges, high bit first
unfoldable pub call_of : (wait : Option Time) → Time → Action → Option Call
call_of wait now (Action.Byte value) = Some (Call.Bits now 8 value)
call_of wait now (Action.Data on) = Some (Call.Data on)
call_of wait now (Action.Select on) = Some (Call.Select on)
call_of wait now (Action.Supply millivolts) = Some (Call.Supply millivolts now)
call_of wait now (Action.Temperature millicelsius) = Some (Call.Temperature millicelsius)
call_of wait now Action.Deadline = due_call wait now
call_of wait now Action.Update = Some (Call.Update now)
call_of wait now Action.Drive = Some (Call.Drive now)

-- each moment through the time check: a call that is given it makes the check itself, in the table's order
abbrev pub gives_moment : Action → Bool
gives_moment (Action.Byte value) = true
gives_moment (Action.Data on) = false
gives_moment (Action.Select on) = false
gives_moment (Action.Supply millivolts) = true
gives_moment (Action.Temperature millicelsius) = false
gives_moment Action.Deadline = false
gives_moment Action.Update = true
gives_moment Action.Drive = true

-- the reply of a line's call and the machine after it, where there is a call
abbrev pub refusal_of : Option Call → Machine → Option ℕ
refusal_of None m = None
refusal_of (Some c) m = refusal (reply c m)

abbrev pub after_of : Option Call → Machine → Machine
after_of None m = m
after_of (Some c) m = after c m

-- a drive is a line of the listing
abbrev pub shown_by : (us : ℕ) → Reply → List ℕ
shown_by us (Reply.Told r e) = []
shown_by us (Reply.Done r) = []
shown_by us (Reply.Counted r pieces) = []
shown_by us (Reply.Driven r d frame) = drive_line us (row_of d frame)
shown_by us (Reply.Painted r pixels) = []
shown_by us (Reply.Levels l) = []

abbrev pub shown_of : (us : ℕ) → Option Call → Machine → List ℕ
shown_of us None m = []
shown_of us (Some c) m = shown_by us (reply c m)

-- a line done: the number of its refusal, what it leaves, and what it adds to the listing
pub record Turn : Type 0 where
  pub refusal : Option ℕ
  pub machine : Machine
  pub shown : List ℕ

unfoldable pub check_of : Machine → Time → Action → Option ℕ
check_of m now a = first_of (row 1 (gives_moment a || in_range now)) (refusal_of (call_of (wait_of m) now a) m)

-- a malformed line is refused, and makes no call
unfoldable pub turn_of : Option Line → Machine → Turn
turn_of None m = record { refusal = Some 9; machine = m; shown = [] }
turn_of (Some l) m =
    let now = moment_of l.us in
    let c = call_of (wait_of m) now l.action in
    let check = check_of m now l.action in
    record { refusal = check; machine = unless_refused check (after_of c m) m; shown = unless_refused check (shown_of l.us c m) [] }

-- a session: where it ended or was refused, what it added to the listing, and the refusal with its line
pub record Run : Type 0 where
  pub machine : Machine
  pub rows : List ℕ
  pub refusal : Option (ℕ × ℕ)

-- on after a line, or stopped by it
abbrev pub onward : (check : Option ℕ) → (line : ℕ) → Turn → (rest : Machine → Run) → Run
onward None line t rest = record { machine = (rest t.machine).machine; rows = t.shown ++ (rest t.machine).rows; refusal = (rest t.machine).refusal }
onward (Some number) line t rest = record { machine = t.machine; rows = []; refusal = Some (number, line) }

unfoldable pub run_from : (line : ℕ) → List (List ℕ) → Machine → Run
run_from line [] m = record { machine = m; rows = []; refusal = None }
run_from line (l ∷ ls) m = let t = turn_of (line_of l) m in onward t.refusal line t (run_from (line + 1) ls)

-- the names line is line 1
unfoldable pub run_of : (text : List ℕ) → Machine → Run
run_of text m = cond (opens text) (run_from 2 (lines_of (drop (length names_line) text)) m) (record { machine = m; rows = []; refusal = Some (9, 1) })

unfoldable pub listing : Run → List ℕ
listing r = listing_names ++ r.rows ++ refusal_text r.refusal

-- the call's answer: the refusal with its line, the state and lent memory, the lent listing, and how many bytes of it were written
pub record Answer : Type 0 where
  pub refusal : Option (ℕ × ℕ)
  pub machine : Machine
  pub out : List ℕ
  pub written : ℕ

-- the numbers of the refusals; 19, which no paper uses, is that of a lent listing that is too short
abbrev pub number : Why → ℕ
number Why.Line = 9
number Why.Listing = 19
number (Why.Call why) = controllers.number why

abbrev pub refused_at : {A : Type 0} → Result A Stop → Option (ℕ × ℕ)
refused_at (Ok a) = None
refused_at (Err stop) = Some (number stop.why, stop.line)

abbrev pub answered : Ended → (ram icons out : List ℕ) → Answer
answered r ram icons out = record { refusal = refused_at r.end; machine = record { state = r.state; ram = ram; icons = icons }; out = out; written = r.written }

-- nine bytes for each that a text may have; no listing is longer (`listing_fits`, proofs/Lengths.antt)
abbrev pub room : ℕ
room = 589824

-- a listing put into lent bytes
unfoldable pub laid : List ℕ → Run → Answer
laid out r = let q = put (out, 0) (listing r) in record { refusal = r.refusal; machine = r.machine; out = q.0; written = q.1 }

-- a session from power-on
unfoldable pub session : (text ram icons out : List ℕ) → Answer
session text ram icons out =
    let m = start ram icons in
    cond (leb room (length out)) (laid out (run_of text m))
    (record { refusal = Some (19, 1); machine = m; out = out; written = 0 })
