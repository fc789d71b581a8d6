-- Document 01, 'The tightness of contracts', e: selected, supplied, ready and awaiting follow by the rules from the calls before,
-- not from the program's record. `Line` is what a reader of the calls knows; it holds no part of the controller's state. A call
-- that is refused leaves it. By it, what may be struck.
use Rattle.std.specs.Prelude.{ℕ, ◌+◌, ◌*◌, Bool, true, false, cond, not, ◌&&◌, ◌||◌, List, [], ◌∷◌, eqb, length, Option, None, Some}
use Rattle.std.specs.Bool.{beq}
use Rattle.clock.specs.declared.time.Time.{Time}
use Rattle.clock.specs.Time.{raw, time_of, micros_raw, in_range}
use Rattle.controller.specs.Check.{awaits, supplied_at, group_ok}
use Rattle.strike.specs.Calls.{Call}
use Rattle.strike.specs.Marks.{Marked, Bit, bit, group_of}

pub record Line : Type 0 where
  pub selected : Bool
  pub is_data : Bool
  pub supplied : Bool
  pub cold : Bool
  pub wait : Option Time  -- when the start-up wait ends
  pub awaiting : Bool  -- a parameter is awaited
  pub bits : List Bool  -- of the byte under way, newest first
  pub struck : Bool  -- whether they are struck

-- at power-on
abbrev pub line_on : Line
line_on = record { selected = false; is_data = false; supplied = true; cold = false; wait = None; awaiting = false; bits = []; struck = false }

-- ---- bits
abbrev pub ready : Option Time → Bool
ready None = true
ready (Some t) = false

-- bits are taken only while selected, supplied and ready
unfoldable pub takes : Line → Bool
takes l = l.selected && l.supplied && ready l.wait

-- eight bits are a whole byte
unfoldable pub is_whole : List Bool → Bool
is_whole bits = eqb (length bits) 8

-- the number of bits, newest first
unfoldable pub value : List Bool → ℕ
value [] = 0
value (b ∷ older) = value older * 2 + cond b 1 0

-- past a whole byte: a command byte is an awaited parameter, or awaits one, or neither
unfoldable pub past : Line → (v : ℕ) → Line
past l v = record {
  selected = l.selected;
  is_data = l.is_data;
  supplied = l.supplied;
  cold = l.cold;
  wait = l.wait;
  awaiting = cond l.is_data l.awaiting (not l.awaiting && awaits v);
  bits = [];
  struck = false;
}

-- in the middle of a byte
unfoldable pub amid : Line → List Bool → (struck : Bool) → Line
amid l bits k = record {
  selected = l.selected;
  is_data = l.is_data;
  supplied = l.supplied;
  cold = l.cold;
  wait = l.wait;
  awaiting = l.awaiting;
  bits = bits;
  struck = k;
}

unfoldable pub taken_bit : Line → Bit → Line
taken_bit l (bit b k) = cond (is_whole (b ∷ l.bits)) (past l (value (b ∷ l.bits))) (amid l (b ∷ l.bits) k)

unfoldable pub follow_bit : Line → Bit → Line
follow_bit l b = cond (takes l) (taken_bit l b) l

unfoldable pub follow_bits : Line → List Bit → Line
follow_bits l [] = l
follow_bits l (b ∷ bs) = follow_bits (follow_bit l b) bs

-- a group is not refused for memory of the wrong lengths, its time or itself
unfoldable pub accepted : (memory_ok : Bool) → (now : Time) → (count bits : ℕ) → Bool
accepted memory_ok now count bits = memory_ok && in_range now && group_ok bits count

-- ---- other calls
-- a change of selection drops the bits under way
abbrev pub clears : (old new : Bool) → List Bool → List Bool
clears old new bits = cond (beq old new) bits []

unfoldable pub follow_select : Line → Bool → Line
follow_select l on = record {
  selected = on;
  is_data = l.is_data;
  supplied = l.supplied;
  cold = l.cold;
  wait = l.wait;
  awaiting = l.awaiting;
  bits = clears l.selected on l.bits;
  struck = l.struck;
}

unfoldable pub follow_data : Line → Bool → Line
follow_data l on = record {
  selected = l.selected;
  is_data = on;
  supplied = l.supplied;
  cold = l.cold;
  wait = l.wait;
  awaiting = l.awaiting;
  bits = l.bits;
  struck = l.struck;
}

-- supply, cold and wait
abbrev pub with_power : Line → (supplied cold : Bool) → (wait : Option Time) → Line
with_power l supplied cold wait = record {
  selected = l.selected;
  is_data = l.is_data;
  supplied = supplied;
  cold = cold;
  wait = wait;
  awaiting = l.awaiting;
  bits = l.bits;
  struck = l.struck;
}

-- a fall deselects and drops the wait
unfoldable pub falls : Line → Line
falls l = let d = follow_select l false in with_power d d.supplied d.cold None

-- rail 0 marks cold
unfoldable pub chills : Line → (millivolts : ℕ) → Line
chills l millivolts = with_power l l.supplied (l.cold || eqb millivolts 0) l.wait

-- a cold rise returns to power-on, stays cold and waits 21 µs; a warm rise keeps all
unfoldable pub rises : Line → Time → Line
rises l now = cond l.cold (with_power line_on true true (Some (time_of (raw now + micros_raw 21)))) l

unfoldable pub follow_supply : Line → (millivolts : ℕ) → Time → Line
follow_supply l millivolts now =
    let after =
    cond l.supplied
    (chills (cond (supplied_at millivolts) l (falls l)) millivolts)
    (cond (supplied_at millivolts) (rises (chills l millivolts) now) (chills l millivolts))
    in with_power after (supplied_at millivolts) after.cold after.wait

-- only a deadline call at the exact time ends the wait, and only then is cold cleared
unfoldable pub is_at : Option Time → Time → Bool
is_at None now = false
is_at (Some t) now = eqb (raw t) (raw now)

unfoldable pub follow_deadline : Line → Time → Line
follow_deadline l now = cond (is_at l.wait now) (with_power l l.supplied false None) l

unfoldable pub follow_call : (memory_ok : Bool) → Line → Call → Line
follow_call memory_ok l (Call.Bits now count bits) = cond (accepted memory_ok now count bits) (follow_bits l (group_of count bits [])) l
follow_call memory_ok l (Call.Data on) = follow_data l on
follow_call memory_ok l (Call.Select on) = follow_select l on
follow_call memory_ok l (Call.Supply millivolts now) = cond (in_range now) (follow_supply l millivolts now) l
follow_call memory_ok l (Call.Temperature millicelsius) = l
follow_call memory_ok l (Call.Deadline now) = cond (in_range now) (follow_deadline l now) l
follow_call memory_ok l (Call.Update now) = l
follow_call memory_ok l (Call.Drive now) = l
follow_call memory_ok l (Call.Image pixels) = l
follow_call memory_ok l Call.Voltages = l

-- the line after a call of the full list
unfoldable pub follow : (memory_ok : Bool) → Line → Marked → Line
follow memory_ok l (Marked.Whole c) = follow_call memory_ok l c
follow memory_ok l (Marked.Update now) = l
follow memory_ok l (Marked.Bits now count bits marks) = cond (accepted memory_ok now count bits) (follow_bits l (group_of count bits marks)) l

-- ---- what may be struck
-- a byte that may be struck: E3, taken as a command while no parameter is awaited
unfoldable pub may_strike : Line → (v : ℕ) → Bool
may_strike l v = not l.is_data && not l.awaiting && eqb v 0xe3

-- a byte is struck whole or not at all: its first bit may be either, the others are as the first
unfoldable pub goes_on : List Bool → (was struck : Bool) → Bool
goes_on [] was k = true
goes_on (b ∷ bits) was k = beq was k

unfoldable pub allowed_taken : Line → Bit → Bool
allowed_taken l (bit b k) = goes_on l.bits l.struck k && (not (k && is_whole (b ∷ l.bits)) || may_strike l (value (b ∷ l.bits)))

unfoldable pub is_struck : Bit → Bool
is_struck (bit b k) = k

-- a bit that is not taken is not struck
unfoldable pub allowed_bit : Line → Bit → Bool
allowed_bit l b = cond (takes l) (allowed_taken l b) (not (is_struck b))

unfoldable pub allowed_bits : Line → List Bit → Bool
allowed_bits l [] = true
allowed_bits l (b ∷ bs) = allowed_bit l b && allowed_bits (follow_bit l b) bs

unfoldable pub unmarked : List Bool → Bool
unmarked [] = true
unmarked (k ∷ ks) = not k && unmarked ks

-- in a group that is refused nothing is struck
unfoldable pub allowed_group : (memory_ok : Bool) → Line → (now : Time) → (count bits : ℕ) → (marks : List Bool) → Bool
allowed_group memory_ok l now count bits marks = cond (accepted memory_ok now count bits) (allowed_bits l (group_of count bits marks)) (unmarked marks)

-- a struck byte under way is not cut off
abbrev pub is_empty : List Bool → Bool
is_empty [] = true
is_empty (b ∷ bs) = false

unfoldable pub uncut : Line → (after : Line) → Bool
uncut l after = not l.struck || not (is_empty after.bits)

unfoldable pub allowed_call : (memory_ok : Bool) → Line → Call → Bool
allowed_call memory_ok l (Call.Bits now count bits) = allowed_group memory_ok l now count bits []
allowed_call memory_ok l (Call.Data on) = true
allowed_call memory_ok l (Call.Select on) = uncut l (follow_select l on)
allowed_call memory_ok l (Call.Supply millivolts now) = uncut l (cond (in_range now) (follow_supply l millivolts now) l)
allowed_call memory_ok l (Call.Temperature millicelsius) = true
allowed_call memory_ok l (Call.Deadline now) = true
allowed_call memory_ok l (Call.Update now) = true
allowed_call memory_ok l (Call.Drive now) = true
allowed_call memory_ok l (Call.Image pixels) = true
allowed_call memory_ok l Call.Voltages = true

unfoldable pub allowed_one : (memory_ok : Bool) → Line → Marked → Bool
allowed_one memory_ok l (Marked.Whole c) = allowed_call memory_ok l c
allowed_one memory_ok l (Marked.Update now) = true
allowed_one memory_ok l (Marked.Bits now count bits marks) = allowed_group memory_ok l now count bits marks

-- striking is allowed in a marked list, and no byte is left half struck at its end
unfoldable pub allowed : (memory_ok : Bool) → Line → List Marked → Bool
allowed memory_ok l [] = not l.struck
allowed memory_ok l (m ∷ ms) = allowed_one memory_ok l m && allowed memory_ok (follow memory_ok l m) ms
