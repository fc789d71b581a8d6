-- Document 01, 'The tightness of contracts', e: striking out. An update may be struck, and any bits of a group: the group keeps
-- its other bits in their order. A group that is emptied by striking goes, one that came empty stays.
use Rattle.std.specs.Prelude.{ℕ, ◌+◌, ◌^◌, Bool, true, false, cond, ◌&&◌, List, [], ◌∷◌, ◌++◌, length}
use Rattle.clock.specs.declared.time.Time.{Time}
use Rattle.controller.specs.Check.{group_ok}
use Rattle.controller.specs.Bits.{unpacked}
use Rattle.strike.specs.Calls.{Call}

-- a call, and the part of it that is struck: nothing; all of an update; the marked bits of a group, oldest first (where the marks
-- end, no bit is struck)
pub data Marked : Type 0 where
  Whole : Call → Marked
  Update : (now : Time) → Marked
  Bits : (now : Time) → (count bits : ℕ) → (marks : List Bool) → Marked

-- the full list: the marks forgotten
unfoldable pub plain : Marked → Call
plain (Marked.Whole c) = c
plain (Marked.Update now) = Call.Update now
plain (Marked.Bits now count bits marks) = Call.Bits now count bits

unfoldable pub full : List Marked → List Call
full [] = []
full (m ∷ ms) = plain m ∷ full ms

-- a bit, and whether it is struck
pub data Bit : Type 0 where
  bit : (value struck : Bool) → Bit

unfoldable pub marked : List Bool → (marks : List Bool) → List Bit
marked [] marks = []
marked (b ∷ bs) [] = bit b false ∷ marked bs []
marked (b ∷ bs) (k ∷ ks) = bit b k ∷ marked bs ks

-- the bits of a group with their marks; a group that number 7 turns down has none
unfoldable pub group_of : (count bits : ℕ) → (marks : List Bool) → List Bit
group_of count bits marks = cond (group_ok bits count) (marked (unpacked count bits) marks) []

unfoldable pub kept_bits : List Bit → List Bool
kept_bits [] = []
kept_bits (bit b true ∷ bs) = kept_bits bs
kept_bits (bit b false ∷ bs) = b ∷ kept_bits bs

-- a group has some bits, and all of them are struck
unfoldable pub all_struck : List Bit → Bool
all_struck [] = true
all_struck (bit b k ∷ bs) = k && all_struck bs

unfoldable pub emptied : List Bit → Bool
emptied [] = false
emptied (b ∷ bs) = all_struck (b ∷ bs)

-- is the call gone
unfoldable pub gone : Marked → Bool
gone (Marked.Whole c) = false
gone (Marked.Update now) = true
gone (Marked.Bits now count bits marks) = emptied (group_of count bits marks)

-- bits as a group has them: the oldest the highest
unfoldable pub packed : List Bool → ℕ
packed [] = 0
packed (b ∷ bs) = cond b (2 ^ length bs) 0 + packed bs

unfoldable pub group_call : Time → List Bool → Call
group_call now bs = Call.Bits now (length bs) (packed bs)

-- the rest of a call that is not gone
unfoldable pub left : Marked → Call
left (Marked.Whole c) = c
left (Marked.Update now) = Call.Update now
left (Marked.Bits now count bits marks) = cond (group_ok bits count) (group_call now (kept_bits (group_of count bits marks))) (Call.Bits now count bits)

-- the kept list: without what is struck
unfoldable pub kept : List Marked → List Call
kept [] = []
kept (m ∷ ms) = cond (gone m) [] (left m ∷ []) ++ kept ms
