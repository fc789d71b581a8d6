-- Document 01, 'Controller': bits clocked in. `rising` is one edge; `shift_in` is a group of edges one after another, oldest
-- first, with the event of the byte that they may complete.
use Rattle.std.specs.Prelude.{ℕ, zero, suc, ◌+◌, ◌*◌, ◌/◌, ◌%◌, ◌^◌, Bool, cond, not, ◌&&◌, List, [], ◌∷◌, eqb, Option, Some, None, Result, Ok, Err}
use Rattle.checks.specs.Checks.{changed}
use Rattle.clock.specs.declared.time.Time.{Time}
use Rattle.controller.specs.declared.state.Nt7508.{Nt7508}
use Rattle.controller.specs.declared.state.Serial.{Serial}
use Rattle.controller.specs.declared.event.Event.{Event}
use Rattle.controller.specs.declared.event.Stepped.{Stepped}
use Rattle.controller.specs.declared.check.Refusal.{Refusal}
use Rattle.controller.specs.declared.bits.Received.{Received}
use Rattle.controller.specs.State.{with_serial}
use Rattle.controller.specs.Check.{number, check_lent, check_group}
use Rattle.controller.specs.Event.{unstored, ram_after, icons_after}
use Rattle.controller.specs.Byte.{waiting, byte_taken}

-- the outcome of a call: the state, the event it gives, if any, and lent memory
pub record Outcome : Type 0 where
  pub state : Nt7508
  pub event : Option Event
  pub ram : List ℕ
  pub icons : List ℕ

-- bits are taken only while selected, supplied and ready
unfoldable pub taking : Nt7508 → Bool
taking x = x.serial.selected && x.power.supplied && not (waiting x.power.ready)

-- one bit more; eight bits remain
abbrev pub shifted_in : Serial → (bit : Bool) → ℕ
shifted_in l bit = (l.shift * 2 + cond bit 1 0) % 256

abbrev pub with_bits : Serial → (shift bits : ℕ) → Serial
with_bits l shift bits = record { selected = l.selected; «data» = l.«data»; shift = shift; bits = bits; pending = l.pending }

-- nothing done, and what is to be stored done
abbrev pub quiet : Nt7508 → (ram icons : List ℕ) → Outcome
quiet x ram icons = record { state = x; event = None; ram = ram; icons = icons }

abbrev pub performed : Stepped → (ram icons : List ℕ) → Outcome
performed s ram icons = record { state = s.state; event = s.event; ram = ram_after s.store ram; icons = icons_after s.store icons }

-- an edge that is taken: it completes a byte, or is one more of its bits
unfoldable pub bit_taken : Nt7508 → (bit : Bool) → Time → (ram icons : List ℕ) → Stepped
bit_taken x bit now ram icons =
    cond (eqb (x.serial.bits + 1) 8)
    (byte_taken (with_serial x (with_bits x.serial 0 0)) (shifted_in x.serial bit) now ram icons)
    (unstored (with_serial x (with_bits x.serial (shifted_in x.serial bit) (x.serial.bits + 1))))

-- one rising edge
unfoldable pub edge : Nt7508 → (bit : Bool) → Time → (ram icons : List ℕ) → Outcome
edge x bit now ram icons = cond (taking x) (performed (bit_taken x bit now ram icons) ram icons) (quiet x ram icons)

-- a group completes one byte at the most, whose event it gives
unfoldable pub or_else : Option Event → Option Event → Option Event
or_else None e = e
or_else (Some d) e = Some d

unfoldable pub and_then : Outcome → Outcome → Outcome
and_then o p = record { state = p.state; event = or_else o.event p.event; ram = p.ram; icons = p.icons }

-- edges one after another
unfoldable pub edges : List Bool → Time → Outcome → Outcome
edges [] now o = o
edges (b ∷ bs) now o = edges bs now (and_then o (edge o.state b now o.ram o.icons))

abbrev pub bit_at : (bits place : ℕ) → Bool
bit_at bits place = eqb (bits / 2 ^ place % 2) 1

-- the bits of a group, oldest first: the oldest is the highest of `count`
unfoldable pub unpacked : (count bits : ℕ) → List Bool
unpacked zero bits = []
unpacked (suc n) bits = bit_at bits n ∷ unpacked n bits

-- the answer of a call, and the lent memory that it left; a call that stores nothing itself says what is to be stored.
-- Refused, nothing was done with the state given
abbrev pub received : (given : Nt7508) → Result Received Refusal → (ram icons : List ℕ) → Option ℕ × Outcome
received given (Ok r) ram icons = (None, record { state = r.state; event = r.event; ram = ram; icons = icons })
received given (Err why) ram icons = (Some (number why), quiet given ram icons)

abbrev pub taken : (given : Nt7508) → Result Stepped Refusal → (ram icons : List ℕ) → Option ℕ × Outcome
taken given (Ok s) ram icons = (None, performed s ram icons)
taken given (Err why) ram icons = (Some (number why), quiet given ram icons)

-- the calls: the number of the refusal, and what is left
unfoldable pub rising : Nt7508 → (bit : Bool) → Time → (ram icons : List ℕ) → Option ℕ × Outcome
rising x bit now ram icons = changed (check_lent x now ram icons) (edge x bit now ram icons) (quiet x ram icons)

unfoldable pub shift_in : Nt7508 → (bits count : ℕ) → Time → (ram icons : List ℕ) → Option ℕ × Outcome
shift_in x bits count now ram icons =
    changed (check_group x bits count now ram icons) (edges (unpacked count bits) now (quiet x ram icons)) (quiet x ram icons)
