-- No rule: what contracts of private functions cite.
use Rattle.std.specs.Prelude.{ℕ, cond, List, [], ◌++◌, leb, Option, Some, None, Result, Ok, Err}
use Rattle.clock.specs.declared.time.Time.{Time}
use Rattle.clock.specs.Time.{raw}
use Rattle.controller.specs.declared.state.Nt7508.{Nt7508}
use Rattle.controller.specs.Supply.{at_deadline}
use Rattle.strike.specs.Calls.{Machine}
use Rattle.decimal.specs.Print.{put}
use Rattle.session.specs.declared.listing.Row.{Row}
use Rattle.session.specs.declared.session.Why.{Why}
use Rattle.session.specs.declared.session.Stop.{Stop}
use Rattle.session.specs.declared.session.Ended.{Ended}
use Rattle.session.specs.Listing.{drive_line, refusal_line, refusal_text}
use Rattle.session.specs.Session.{Turn, Run, Answer, number}

-- the text that a line showed
abbrev pub printed_text : (us : ℕ) → Option Row → List ℕ
printed_text us None = []
printed_text us (Some r) = drive_line us r

-- the deadline call, where it is due
unfoldable pub waited_of : Nt7508 → Option Time → Time → Option ℕ × Nt7508
waited_of x None now = (None, x)
waited_of x (Some t) now = cond (leb (raw t) (raw now)) (at_deadline x t) (None, x)

-- the machine after a line
abbrev pub machine_of : Nt7508 → (ram icons : List ℕ) → Machine
machine_of x ram icons = record { state = x; ram = ram; icons = icons }

abbrev pub turned : (us : ℕ) → Result (Option Row) Why → Machine → Turn
turned us (Ok shown) m = record { refusal = None; machine = m; shown = printed_text us shown }
turned us (Err why) m = record { refusal = Some (number why); machine = m; shown = [] }

-- the same with what it showed printed, and the place behind that; a refused line printed nothing
abbrev pub stepped : Result Unit Why → Machine → List ℕ × ℕ → Option ℕ × (Machine × (List ℕ × ℕ))
stepped (Ok done) m p = (None, (m, p))
stepped (Err why) m p = (Some (number why), (m, p))

abbrev pub step_of : Turn → List ℕ × ℕ → Option ℕ × (Machine × (List ℕ × ℕ))
step_of t p = (t.refusal, (t.machine, put p t.shown))

-- a session that a line stopped
abbrev pub stopped_as : Ended → (out : List ℕ) → (List ℕ × ℕ) × (Nt7508 × Result Unit Stop)
stopped_as r out = ((out, r.written), (r.state, r.end))

abbrev pub stopped_by : Nt7508 → List ℕ × ℕ → Stop → (List ℕ × ℕ) × (Nt7508 × Result Unit Stop)
stopped_by x p stop = (put p (refusal_line (number stop.why) stop.line), (x, Err stop))

-- the rest of a listing put behind what was written
unfoldable pub laid_from : List ℕ × ℕ → Run → Answer
laid_from p r =
    let q = put p (r.rows ++ refusal_text r.refusal) in
    record { refusal = r.refusal; machine = r.machine; out = q.0; written = q.1 }
