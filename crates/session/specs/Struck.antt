-- Document 01, 'The tightness of contracts', e, over texts: a session whose update lines and, by demand 3's premises, lines `byte 227`
-- are struck out has the same listing, but for the line number of a refusal. The proof is proofs/Struck.antt.
use Rattle.std.specs.Prelude.{ℕ, Bool, true, false, cond, not, ◌&&◌, List, [], ◌∷◌, ◌++◌, ◌≡◌, leb, length, drop, replicate, Option, Some, None}
use Rattle.clock.specs.declared.time.Time.{Time}
use Rattle.clock.specs.Time.{raw, in_range}
use Rattle.scan.specs.Check.{memory_ok}
use Rattle.strike.specs.Calls.{Call, start}
use Rattle.strike.specs.Marks.{Marked}
use Rattle.strike.specs.Line as calls
use Rattle.session.specs.declared.line.Action.{Action}
use Rattle.session.specs.declared.line.Line.{Line}
use Rattle.session.specs.Text.{names_line, opens, lines_of}
use Rattle.session.specs.Line.{line_of}
use Rattle.session.specs.Session.{moment_of, call_of, gives_moment, Run, run_of, listing}

-- ---- the text that is left
-- the mark of a first line and those of the others: true strikes; where the marks end, every line stays
abbrev pub first : List Bool → Bool
first [] = false
first (k ∷ ks) = k

abbrev pub others : List Bool → List Bool
others [] = []
others (k ∷ ks) = ks

unfoldable pub kept_lines : List (List ℕ) → (marks : List Bool) → List (List ℕ)
kept_lines [] ks = []
kept_lines (t ∷ ts) ks = cond (first ks) (kept_lines ts (others ks)) (t ∷ kept_lines ts (others ks))

unfoldable pub joined : List (List ℕ) → List ℕ
joined [] = []
joined (t ∷ ts) = t ++ joined ts

-- the lines behind the names line, and the text without those that are struck
abbrev pub lines_behind : (text : List ℕ) → List (List ℕ)
lines_behind text = lines_of (drop (length names_line) text)

unfoldable pub struck_text : (text : List ℕ) → (marks : List Bool) → List ℕ
struck_text text ks = names_line ++ joined (kept_lines (lines_behind text) ks)

-- ---- 'provided that'
-- the call or bits that a struck line strikes: an update, or all eight bits of a byte; no other line can be struck
abbrev pub struck_of : (now : Time) → Action → Option Marked
struck_of now (Action.Byte value) = Some (Marked.Bits now 8 value (replicate 8 true))
struck_of now (Action.Data on) = None
struck_of now (Action.Select on) = None
struck_of now (Action.Supply millivolts) = None
struck_of now (Action.Temperature millicelsius) = None
struck_of now Action.Deadline = None
struck_of now Action.Update = Some (Marked.Update now)
struck_of now Action.Drive = None

-- a line that stays has its call, if it makes one
abbrev pub stays : Option Call → Option Marked
stays None = None
stays (Some c) = Some (Marked.Whole c)

abbrev pub mark_of : (struck : Bool) → (now : Time) → Action → Option Call → Option Marked
mark_of struck now a c = cond struck (struck_of now a) (stays c)

-- demand 3 allows it, selected, supplied, ready and awaiting followed from the calls before
unfoldable pub may_mark : (memory_ok : Bool) → calls.Line → (struck : Bool) → Option Marked → Bool
may_mark ok l struck None = not struck
may_mark ok l struck (Some k) = calls.allowed_one ok l k

unfoldable pub follow_mark : (memory_ok : Bool) → calls.Line → Option Marked → calls.Line
follow_mark ok l None = l
follow_mark ok l (Some k) = calls.follow ok l k

-- moments that calls are given never fall
abbrev pub last_by : Action → (now : Time) → (last : ℕ) → ℕ
last_by a now last = cond (gives_moment a) (raw now) last

-- whether a line passes, by its action, its moment and the lengths of memory
unfoldable pub passes : (memory_ok : Bool) → (now : Time) → Action → Bool
passes ok now (Action.Byte value) = calls.accepted ok now 8 value
passes ok now (Action.Data on) = in_range now
passes ok now (Action.Select on) = in_range now
passes ok now (Action.Supply millivolts) = in_range now
passes ok now (Action.Temperature millicelsius) = in_range now
passes ok now Action.Deadline = in_range now
passes ok now Action.Update = in_range now
passes ok now Action.Drive = ok && in_range now

-- a line that is malformed or refused is not struck, and no line is read behind it
abbrev pub allowed_line : (memory_ok : Bool) → calls.Line → (last : ℕ) → (struck : Bool) → Option Line → (rest : calls.Line → (last : ℕ) → Bool) → Bool
allowed_line ok l last struck None rest = not struck
allowed_line ok l last struck (Some t) rest =
    let now = moment_of t.us in
    let k = mark_of struck now t.action (call_of l.wait now t.action) in
    leb last (last_by t.action now last)
    && (may_mark ok l struck k
    && cond (passes ok now t.action) (rest (follow_mark ok l k) (last_by t.action now last)) (not struck))

unfoldable pub allowed_lines : (memory_ok : Bool) → calls.Line → (last : ℕ) → List (List ℕ) → (marks : List Bool) → Bool
allowed_lines ok l last [] ks = true
allowed_lines ok l last (t ∷ ts) ks = allowed_line ok l last (first ks) (line_of t) (λ l last. allowed_lines ok l last ts (others ks))

-- ---- the claim
-- a session with its refusal at a line of this number, if it has one
abbrev pub at_line : (line : ℕ) → Run → Run
at_line line r = record { machine = r.machine; rows = r.rows; refusal = moved_to line r.refusal }
  where
    moved_to : (line : ℕ) → Option (ℕ × ℕ) → Option (ℕ × ℕ)
    moved_to line None = None
    moved_to line (Some at) = Some (at.0, line)

-- the listing of the text that is left is that of the text, but for the line number of a refusal; and at the end RAM and icons are
-- the same
abbrev pub SameListing : (text ram icons : List ℕ) → (marks : List Bool) → Type 0
SameListing text ram icons ks =
    let full = run_of text (start ram icons) in
    let kept = run_of (struck_text text ks) (start ram icons) in
    ((line : ℕ) → listing (at_line line kept) ≡ listing (at_line line full))
    × ((kept.machine.ram ≡ full.machine.ram) × (kept.machine.icons ≡ full.machine.icons))

abbrev pub StruckText : Type 0
StruckText =
    (text ram icons : List ℕ) (marks : List Bool) → opens text ≡ true
    → allowed_lines (memory_ok ram icons) calls.line_on 0 (lines_behind text) marks ≡ true → SameListing text ram icons marks
