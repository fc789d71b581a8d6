-- Where a session ends: its state passes every check, and a run that has room for its listing answers with it.
use Prim.Native.Nat.{ℕ, ◌+◌, ◌≤◌}
use mathlib.Core.Bool.{Bool, true, false, cond}
use mathlib.Core.List.{List, [], ◌∷◌}
use Rattle.std.specs.Prelude.{Option, None, Some}
use mathlib.Core.Path.{◌≡◌, ◌∙◌, ap}
use lib.ListN.{length, drop}
use borrow.Author.Tests.{le-leb}
use Rattle.checks.specs.Checks.{unless_refused}
use Rattle.controller.specs.Check.{check_state}
use Rattle.controller.proofs.PowerOn.{power_on_passes}
use Rattle.strike.specs.Calls.{Call, Machine, start}
use Rattle.strike.proofs.Never.{after_passes}
use Rattle.session.specs.declared.line.Line.{Line}
use Rattle.session.specs.declared.session.Ended.{Ended}
use Rattle.session.specs.Text.{names_line, opens, lines_of}
use Rattle.session.specs.Line.{line_of}
use Rattle.session.specs.Session.{Turn, Run, Answer, room, moment_of, wait_of, call_of, check_of, after_of, turn_of, onward, run_from, run_of, laid, session, refused_at, answered}

-- a call, a line and all lines leave a state that passes, if they are given one
call_passes : (c : Option Call) (m : Machine) → check_state m.state ≡ None → check_state (after_of c m).state ≡ None
call_passes None m h = h
call_passes (Some c) m h = after_passes m h c

turn_passes : (l : Option Line) (m : Machine) → check_state m.state ≡ None → check_state (turn_of l m).machine.state ≡ None
unfolding turn_of
turn_passes None m h = h
turn_passes (Some l) m h = go (check_of m (moment_of l.us) l.action)
  where
    c : Option Call
    c = call_of (wait_of m) (moment_of l.us) l.action

    go : (k : Option ℕ) → check_state (unless_refused k (after_of c m) m).state ≡ None
    go None = call_passes c m h
    go (Some n) = h

lines_pass : (line : ℕ) (ls : List (List ℕ)) (m : Machine) → check_state m.state ≡ None → check_state (run_from line ls m).machine.state ≡ None
unfolding run_from
lines_pass line [] m h = h
lines_pass line (l ∷ ls) m h =
    let t = turn_of (line_of l) m in
    let e = turn_passes (line_of l) m h in
    go t.refusal t e (lines_pass (line + 1) ls t.machine e)
  where
    go :
        (k : Option ℕ) (t : Turn) → check_state t.machine.state ≡ None → check_state (run_from (line + 1) ls t.machine).machine.state ≡ None
        → check_state (onward k line t (run_from (line + 1) ls)).machine.state ≡ None
    go None t stopped on = on
    go (Some n) t stopped on = stopped

pub end_passes : (text ram icons : List ℕ) → check_state (run_of text (start ram icons)).machine.state ≡ None
unfolding run_of
end_passes text ram icons = go (opens text)
  where
    m : Machine
    m = start ram icons

    closed : Run
    closed = record { machine = m; rows = []; refusal = Some (9, 1) }

    go : (t : Bool) → check_state (cond t (run_from 2 (lines_of (drop (length names_line) text)) m) closed).machine.state ≡ None
    go true = lines_pass 2 (lines_of (drop (length names_line) text)) m power_on_passes
    go false = power_on_passes

-- what a run answers
module _ (r : Ended) (text ram icons out : List ℕ) {ram' icons' out' : List ℕ} (e : answered r ram' icons' out' ≡ session text ram icons out) (enough : room ≤ length out) where
  laid_out : session text ram icons out ≡ laid out (run_of text (start ram icons))
  unfolding session
  laid_out = rw (le-leb room (length out) enough)

  pub end_refusal : refused_at r.end ≡ (run_of text (start ram icons)).refusal
  unfolding laid
  end_refusal = ap (λ (a : Answer). a.refusal) (e ∙ laid_out)

  pub end_machine : ◌≡◌ {A = Machine} (record { state = r.state; ram = ram'; icons = icons' }) (run_of text (start ram icons)).machine
  unfolding laid
  end_machine = ap (λ (a : Answer). a.machine) (e ∙ laid_out)

  pub end_state : check_state r.state ≡ None
  end_state = ap (λ (m : Machine). check_state m.state) end_machine ∙ end_passes text ram icons
