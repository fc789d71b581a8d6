-- The claim is not empty: a marked list with a struck update and an E3 (11100011) cut over three groups with other calls
-- between, on which striking is allowed; and three on which it is not. And what the statement says at places where a weaker
-- one would be proved as well: which calls go, what replies are compared by, refused images and refused updates.
use Prim.Native.Nat.{ℕ, ◌^◌, ◌≤◌}
use mathlib.Core.Bool.{Bool, true, false, false≢true}
use mathlib.Core.List.{List, [], ◌∷◌, ◌++◌}
use Rattle.std.specs.Prelude.{Option, None, Some}
use mathlib.Core.Path.{◌≡◌, refl, ◌∙◌, ap, ap₂}
use native.Mathlib.Omega.{arith}
use lib.ListN.{length}
use Rattle.checks.specs.Checks.{changed}
use Rattle.clock.specs.declared.time.Time.{Time}
use Rattle.scan.specs.Check.{memory_ok, image_ok}
use Rattle.scan.specs.Count.{pieces}
use Rattle.controller.specs.declared.state.Nt7508.{Nt7508}
use Rattle.controller.specs.State.{power_on}
use Rattle.controller.specs.Check.{awaits, group_ok, check_state, check_moment, check_image}
use Rattle.controller.specs.Bits.{unpacked}
use Rattle.controller.specs.Update.{counted_to, update}
use Rattle.controller.specs.Look.{render_of}
use Rattle.controller.proofs.Checks.{moment_alone, image_alone}
use Rattle.controller.proofs.PowerOn.{power_on_passes}
use Rattle.strike.specs.Calls.{Call, Reply, Machine, start, reply, with_state, after, run}
use Rattle.strike.specs.Marks.{Marked, Bit, bit, marked, group_of, plain, full, kept_bits, all_struck, emptied, gone, packed, group_call, left, kept}
use Rattle.strike.specs.Line.{Line, line_on, takes, is_whole, value, past, amid, taken_bit, follow_bit, follow_bits, accepted, follow_select, follow_data, follow_call, follow, may_strike, goes_on, allowed_taken, is_struck, allowed_bit, allowed_bits, unmarked, allowed_group, is_empty, uncut, allowed_call, allowed_one, allowed}
use Rattle.strike.specs.Strike.{compared, time_of, never_fall}

-- seconds after power-on
abbrev second : ℕ → Time
second n = record { seconds = n; fraction = 0 }

-- marks of so many bits
abbrev three : List Bool
three = true ∷ true ∷ true ∷ []

-- E3 is struck: 111 and 000 in groups of their own, 11 at the head of a group that goes on with six bits of AF
abbrev groups : List Marked
groups =
    Marked.Whole (Call.Select true)
    ∷ Marked.Update (second 3)
    ∷ Marked.Bits (second 5) 3 0b111 three
    ∷ Marked.Whole (Call.Drive (second 6))
    ∷ Marked.Bits (second 7) 3 0b000 three
    ∷ Marked.Whole Call.Voltages
    ∷ Marked.Whole (Call.Update (second 8))
    ∷ Marked.Bits (second 9) 8 0b11101011 (true ∷ true ∷ [])
    ∷ Marked.Whole (Call.Bits (second 9) 9 0)
    ∷ Marked.Whole (Call.Bits (second 10) 2 0b11)
    ∷ Marked.Whole (Call.Drive (second 20))
    ∷ []

may : allowed true line_on groups ≡ true
unfolding group_ok unpacked awaits group_of marked unmarked allowed follow follow_call follow_select follow_bits follow_bit taken_bit takes is_whole value past amid accepted allowed_one allowed_call allowed_group allowed_bits allowed_bit allowed_taken is_struck goes_on may_strike uncut
may = refl

in_order_lem : never_fall 0 (full groups) ≡ true
unfolding never_fall full plain time_of
in_order_lem = refl

-- the two lists differ: two groups and an update are gone, and one group is shorter
kept_groups : kept groups ≡
    Call.Select true
    ∷ Call.Drive (second 6)
    ∷ Call.Voltages
    ∷ Call.Update (second 8)
    ∷ Call.Bits (second 9) 6 0b101011
    ∷ Call.Bits (second 9) 9 0
    ∷ Call.Bits (second 10) 2 0b11
    ∷ Call.Drive (second 20)
    ∷ []
unfolding kept gone left emptied all_struck kept_bits group_of marked unpacked packed group_call group_ok
kept_groups = refl

-- a byte E3, all of it struck, after other calls
abbrev byte_after : List Marked → List Marked
byte_after before = before ++ (Marked.Bits (second 5) 8 0xe3 (true ∷ true ∷ true ∷ true ∷ true ∷ true ∷ true ∷ true ∷ []) ∷ [])

-- as data
may_not_data : allowed true line_on (byte_after (Marked.Whole (Call.Select true) ∷ Marked.Whole (Call.Data true) ∷ [])) ≡ false
unfolding group_ok unpacked awaits group_of marked unmarked allowed follow follow_call follow_select follow_data follow_bits follow_bit taken_bit takes is_whole value past amid accepted allowed_one allowed_call allowed_group allowed_bits allowed_bit allowed_taken is_struck goes_on may_strike uncut
may_not_data = refl

-- as the parameter that 81 awaits
may_not_parameter : allowed true line_on (byte_after (Marked.Whole (Call.Select true) ∷ Marked.Whole (Call.Bits (second 4) 8 0x81) ∷ [])) ≡ false
unfolding group_ok unpacked awaits group_of marked unmarked allowed follow follow_call follow_select follow_bits follow_bit taken_bit takes is_whole value past amid accepted allowed_one allowed_call allowed_group allowed_bits allowed_bit allowed_taken is_struck goes_on may_strike uncut
may_not_parameter = refl

-- cut by a change of selection
may_not_cut : allowed true line_on
    (Marked.Whole (Call.Select true) ∷ Marked.Bits (second 5) 3 0b111 three ∷ Marked.Whole (Call.Select false) ∷ Marked.Whole (Call.Select true) ∷ Marked.Bits (second 6) 5 0b00011 (true ∷ true ∷ true ∷ true ∷ true ∷ []) ∷ [])
    ≡ false
unfolding group_ok unpacked awaits group_of marked unmarked allowed follow follow_call follow_select follow_bits follow_bit taken_bit takes is_whole value past amid accepted allowed_one allowed_call allowed_group allowed_bits allowed_bit allowed_taken is_struck goes_on may_strike uncut
may_not_cut = refl

-- ---- which calls go
module _ (m : Marked) (ms : List Marked) where
  goes : gone m ≡ true → kept (m ∷ ms) ≡ kept ms
  unfolding kept
  goes g = rw g

  stays : gone m ≡ false → kept (m ∷ ms) ≡ left m ∷ kept ms
  unfolding kept
  stays g = rw g

-- a group that had bits and keeps none goes
none_kept : (bs : List Bit) → kept_bits bs ≡ [] → all_struck bs ≡ true
unfolding kept_bits all_struck
none_kept [] h = refl
none_kept (bit b true ∷ bs) h = none_kept bs h
none_kept (bit b false ∷ bs) h = absurd (false≢true (ap is_empty h))

emptied_goes : (now : Time) (count bits : ℕ) (marks : List Bool) (ms : List Marked) → 1 ≤ length (group_of count bits marks) → kept_bits (group_of count bits marks) ≡ []
    → kept (Marked.Bits now count bits marks ∷ ms) ≡ kept ms
unfolding gone emptied
emptied_goes now count bits marks ms h e = goes (Marked.Bits now count bits marks) ms (go (group_of count bits marks) h e)
  where
    go : (bs : List Bit) → 1 ≤ length bs → kept_bits bs ≡ [] → emptied bs ≡ true
    go [] h e = absurd (omega arith)
    go (b ∷ bs) h e = none_kept (b ∷ bs) e

-- one that came empty stays, whatever its marks
empty_stays : (now : Time) (marks : List Bool) (ms : List Marked) → kept (Marked.Bits now 0 0 marks ∷ ms) ≡ Call.Bits now 0 0 ∷ kept ms
unfolding gone left emptied group_of marked group_ok unpacked group_call packed kept_bits
empty_stays now marks ms = stays (Marked.Bits now 0 0 marks) ms refl

-- every update may be struck, a refused one too, and goes
update_goes : (ok : Bool) (l : Line) (now : Time) (ms : List Marked) → (allowed_one ok l (Marked.Update now) ≡ true) × (kept (Marked.Update now ∷ ms) ≡ kept ms)
unfolding allowed_one gone
update_goes ok l now ms = (refl, goes (Marked.Update now) ms refl)

-- ---- replies are compared by all but the piece count: with its count again a compared reply is the reply
pieces_of : Reply → ℕ
pieces_of (Reply.Told r e) = 0
pieces_of (Reply.Done r) = 0
pieces_of (Reply.Counted r pieces) = pieces
pieces_of (Reply.Driven r d frame) = 0
pieces_of (Reply.Painted r pixels) = 0
pieces_of (Reply.Levels l) = 0

with_pieces : ℕ → Reply → Reply
with_pieces n (Reply.Told r e) = Reply.Told r e
with_pieces n (Reply.Done r) = Reply.Done r
with_pieces n (Reply.Counted r pieces) = Reply.Counted r n
with_pieces n (Reply.Driven r d frame) = Reply.Driven r d frame
with_pieces n (Reply.Painted r pixels) = Reply.Painted r pixels
with_pieces n (Reply.Levels l) = Reply.Levels l

counts_alone : (r : Reply) → with_pieces (pieces_of r) (compared r) ≡ r
unfolding pieces_of with_pieces compared
counts_alone (Reply.Told r e) = refl
counts_alone (Reply.Done r) = refl
counts_alone (Reply.Counted r pieces) = refl
counts_alone (Reply.Driven r d frame) = refl
counts_alone (Reply.Painted r pixels) = refl
counts_alone (Reply.Levels l) = refl

-- ---- refused calls
-- an image that is refused has the very bytes that were lent
refused_image : (m : Machine) (pixels : List ℕ) {n : ℕ} → check_image m.state m.ram m.icons (length pixels) ≡ Some n → reply (Call.Image pixels) m ≡ Reply.Painted (Some n) pixels
unfolding reply render_of
refused_image m pixels h = rw h

-- an update that is refused counts no pieces and leaves all
refused_update : (m : Machine) (now : Time) {n : ℕ} → check_moment m.state now ≡ Some n → (reply (Call.Update now) m ≡ Reply.Counted (Some n) 0) × (after (Call.Update now) m ≡ m)
unfolding reply after update
refused_update m now h =
    (rw h, ap (λ (c : Option ℕ). with_state m (changed {A = Nt7508 × ℕ} c (counted_to m.state now, pieces m.state.scan m.state.display now) (m.state, 0)).1.0) h)

-- one at 2^32 s is refused with 1
late : Time
late = second (2 ^ 32)

late_update : (m : Machine) → check_state m.state ≡ None → check_moment m.state late ≡ Some 1
unfolding late
late_update m h = moment_alone m.state h late

-- a list with such an update, which is struck, and an image lent 3 bytes, which is refused with 8 in both lists
abbrev lent : List ℕ
lent = 10 ∷ 20 ∷ 30 ∷ []

abbrev refusals : List Marked
refusals = Marked.Update late ∷ Marked.Whole (Call.Image lent) ∷ []

may_refused : (allowed true line_on refusals ≡ true) × (never_fall 0 (full refusals) ≡ true)
unfolding late allowed follow follow_call allowed_one allowed_call never_fall full plain time_of
may_refused = (refl, refl)

module _ (ram icons : List ℕ) (ok : memory_ok ram icons ≡ true) where
  short_image : reply (Call.Image lent) (start ram icons) ≡ Reply.Painted (Some 8) lent
  unfolding image_ok
  short_image = refused_image (start ram icons) lent (image_alone power_on power_on_passes ram icons ok 3)

  full_refusals : run (full refusals) (start ram icons) ≡ Reply.Counted (Some 1) 0 ∷ Reply.Painted (Some 8) lent ∷ []
  unfolding run full plain
  full_refusals =
      let u = refused_update (start ram icons) late (late_update (start ram icons) power_on_passes) in
      ap₂ (λ (a b : Reply). a ∷ b ∷ []) u.0 (ap (reply (Call.Image lent)) u.1 ∙ short_image)

  kept_refusals : run (kept refusals) (start ram icons) ≡ Reply.Painted (Some 8) lent ∷ []
  unfolding run kept gone left
  kept_refusals = ap (λ (a : Reply). a ∷ []) short_image
