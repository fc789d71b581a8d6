-- Demand 3: nothing that looks disturbs. Take any list of calls from power-on, ones refused for their arguments included, each on
-- the state and memory that the one before left, and strike out any number of its updates of the scan and empty commands (E3).
-- Each call that stays gives the same event, drive, image, V0 to V4, electrode voltages and refusal as in the full list, apart
-- from the struck commands' own events.
--
-- The statement stands on: Calls.antt (the calls; what each answers and leaves, by the controller's definitions), Marks.antt
-- (the full and the kept list), Line.antt (what may be struck, followed from the calls alone). The proof is proofs/Struck.antt.
use Rattle.std.specs.Prelude.{ℕ, Bool, true, false, cond, not, ◌&&◌, ◌||◌, List, [], ◌∷◌, ◌++◌, map, ◌≡◌, leb, Option, None, Some}
use Rattle.std.proofs.Common.{inl, inr}
use Rattle.clock.specs.Time.{raw}
use Rattle.scan.specs.Check.{memory_ok}
use Rattle.scan.specs.Drive.{common_microvolts, segment_microvolts}
use Rattle.strike.specs.Calls.{Call, Reply, start, run, end}
use Rattle.strike.specs.Marks.{Marked, Bit, bit, group_of, full, kept, gone}
use Rattle.strike.specs.Line.{Line, line_on, takes, is_whole, follow_bit, follow, accepted, allowed}

-- ---- 'the same event, drive, image, V0 to V4, electrode voltages and refusal': replies are compared but for piece counts
unfoldable pub compared : Reply → Reply
compared (Reply.Told r e) = Reply.Told r e
compared (Reply.Done r) = Reply.Done r
compared (Reply.Counted r pieces) = Reply.Counted r 0
compared (Reply.Driven r d frame) = Reply.Driven r d frame
compared (Reply.Painted r pixels) = Reply.Painted r pixels
compared (Reply.Levels l) = Reply.Levels l

-- ---- 'apart from the struck commands' own events'
-- does a struck byte end in a group
unfoldable pub ends_struck : Line → List Bit → Bool
ends_struck l [] = false
ends_struck l (bit b k ∷ bs) = (is_whole (b ∷ l.bits) && takes l && k) || ends_struck (follow_bit l (bit b k)) bs

abbrev pub eventless : Reply → Reply
eventless (Reply.Told r e) = Reply.Told r None
eventless (Reply.Done r) = Reply.Done r
eventless (Reply.Counted r pieces) = Reply.Counted r pieces
eventless (Reply.Driven r d frame) = Reply.Driven r d frame
eventless (Reply.Painted r pixels) = Reply.Painted r pixels
eventless (Reply.Levels l) = Reply.Levels l

unfoldable pub without : (memory_ok : Bool) → Line → Marked → Reply → Reply
without ok l (Marked.Whole c) r = r
without ok l (Marked.Update now) r = r
without ok l (Marked.Bits now count bits marks) r = cond (accepted ok now count bits && ends_struck l (group_of count bits marks)) (eventless r) r

-- the replies that the calls which stay are to give, out of those of the full list
unfoldable pub expected : (memory_ok : Bool) → Line → List Marked → List Reply → List Reply
expected ok l [] rs = []
expected ok l (m ∷ ms) [] = []
expected ok l (m ∷ ms) (r ∷ rs) = cond (gone m) [] (without ok l m r ∷ []) ++ expected ok (follow ok l m) ms rs

-- ---- 'provided that'
-- call times never fall
unfoldable pub time_of : Call → (last : ℕ) → ℕ
time_of (Call.Bits now count bits) last = raw now
time_of (Call.Data on) last = last
time_of (Call.Select on) last = last
time_of (Call.Supply millivolts now) last = raw now
time_of (Call.Temperature millicelsius) last = last
time_of (Call.Deadline now) last = raw now
time_of (Call.Update now) last = raw now
time_of (Call.Drive now) last = raw now
time_of (Call.Image pixels) last = last
time_of Call.Voltages last = last

unfoldable pub never_fall : (last : ℕ) → List Call → Bool
never_fall last [] = true
never_fall last (c ∷ cs) = leb last (time_of c last) && never_fall (time_of c last) cs

-- no call is refused for its state: numbers 3 to 5
abbrev pub for_state : Option ℕ → Bool
for_state None = false
for_state (Some n) = leb 3 n && leb n 5

abbrev pub refusal : Reply → Option ℕ
refusal (Reply.Told r e) = r
refusal (Reply.Done r) = r
refusal (Reply.Counted r pieces) = r
refusal (Reply.Driven r d frame) = r
refusal (Reply.Painted r pixels) = r
refusal (Reply.Levels (inl n)) = Some n
refusal (Reply.Levels (inr v)) = None

unfoldable pub none_for_state : List Reply → Bool
none_for_state [] = true
none_for_state (r ∷ rs) = not (for_state (refusal r)) && none_for_state rs

-- the user's premises. None of the calls is a restore or a loss of volatile memory: `Call` has neither
pub record Premises (ram icons : List ℕ) (ms : List Marked) : Type 0 where
  pub times : never_fall 0 (full ms) ≡ true
  pub states : none_for_state (run (full ms) (start ram icons)) ≡ true
  -- each E3 struck was a whole command byte taken by a selected, supplied, ready controller awaiting no parameter
  pub struck : allowed (memory_ok ram icons) line_on ms ≡ true

-- ---- the claim
-- for RAM and icons of any length holding anything, and any marked list: the replies of the kept list are those of the full list
-- without those of struck updates and emptied groups and without the struck commands' own events
abbrev pub Same : (ram icons : List ℕ) → List Marked → Type 0
Same ram icons ms =
    map compared (run (kept ms) (start ram icons)) ≡ expected (memory_ok ram icons) line_on ms (map compared (run (full ms) (start ram icons)))

-- and at the end RAM and icons are the same
abbrev pub SameMemory : (ram icons : List ℕ) → List Marked → Type 0
SameMemory ram icons ms =
    ((end (kept ms) (start ram icons)).ram ≡ (end (full ms) (start ram icons)).ram)
    × ((end (kept ms) (start ram icons)).icons ≡ (end (full ms) (start ram icons)).icons)

-- electrode voltages are read from the drives: what a reply says of the common and of the segment of a number
unfoldable pub electrodes : (electrode : ℕ) → Reply → Option (Option ℕ × Option ℕ)
electrodes n (Reply.Driven r d frame) = Some (common_microvolts d n, segment_microvolts d n)
electrodes n (Reply.Told r e) = None
electrodes n (Reply.Done r) = None
electrodes n (Reply.Counted r pieces) = None
electrodes n (Reply.Painted r pixels) = None
electrodes n (Reply.Levels l) = None

abbrev pub SameElectrodes : (ram icons : List ℕ) → List Marked → Type 0
SameElectrodes ram icons ms =
    (n : ℕ) → map (electrodes n) (map compared (run (kept ms) (start ram icons)))
    ≡ map (electrodes n) (expected (memory_ok ram icons) line_on ms (map compared (run (full ms) (start ram icons))))

-- demand 3
abbrev pub Demand3 : Type 0
Demand3 = (ram icons : List ℕ) (ms : List Marked) → Premises ram icons ms → Same ram icons ms × (SameMemory ram icons ms × SameElectrodes ram icons ms)
