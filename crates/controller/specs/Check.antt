-- Document 01, 'Where a call is turned down': the conditions of `validate` on the controller, the numbers of the refusals, and
-- the rows of the table that a call names, in the table's order.
use Rattle.std.specs.Prelude.{ℕ, ◌^◌, Bool, true, ◌&&◌, ◌||◌, List, leb, ltb, eqb, ◌⊎◌, Option, Some, None, Result}
use Rattle.std.specs.Bool.{beq}
use Rattle.checks.specs.Checks.{row, first_of, refused_by, numbered, left_by}
use Rattle.clock.specs.declared.edges.Clock.{Clock}
use Rattle.clock.specs.declared.time.Time.{Time}
use Rattle.clock.specs.Time.{raw, in_range}
use Rattle.scan.specs.declared.state.Scan.{Scan}
use Rattle.scan.specs.declared.check.Refusal as scan
use Rattle.scan.specs.Check.{memory_ok, image_ok, check_scan}
use Rattle.scan.specs.Check as display
use Rattle.voltage.specs.Check as analog
use Rattle.controller.specs.declared.state.Nt7508.{Nt7508}
use Rattle.controller.specs.declared.state.Serial.{Serial}
use Rattle.controller.specs.declared.state.Address.{Address}
use Rattle.controller.specs.declared.state.Power.{Power}
use Rattle.controller.specs.declared.check.Refusal.{Refusal}

-- the numbers of document 01's table
abbrev pub number : Refusal → ℕ
number Refusal.Memory = 2
number Refusal.Image = 8
number Refusal.Time = 1
number Refusal.State = 3
number Refusal.Scan = 4
number Refusal.Clock = 5
number Refusal.Restore = 6
number Refusal.Group = 7

-- a refusal of the scan under this crate's name, which has the same number
abbrev pub of_scan : scan.Refusal → Refusal
of_scan scan.Refusal.Memory = Refusal.Memory
of_scan scan.Refusal.Image = Refusal.Image
of_scan scan.Refusal.Time = Refusal.Time
of_scan scan.Refusal.Settings = Refusal.State
of_scan scan.Refusal.Scan = Refusal.Scan
of_scan scan.Refusal.Clock = Refusal.Clock

-- the number of a call's refusal, if any
abbrev pub refused : {A : Type 0} → Result A Refusal → Option ℕ
refused r = refused_by number r

-- that number, or what the call tells
abbrev pub told : {A : Type 0} → Result A Refusal → ℕ ⊎ A
told r = numbered number r

-- a state after a call: the number of the refusal, and the state, which is the one given where the call is turned down
abbrev pub answered : (given : Nt7508) → Result Nt7508 Refusal → Option ℕ × Nt7508
answered given r = left_by number given r

abbrev pub between : (low high n : ℕ) → Bool
between low high n = leb low n && leb n high

-- the bytes that await a parameter: 40 to 4F, 81, 88 to 8F, F1, F3, F4, F6, F7
unfoldable pub awaits : ℕ → Bool
awaits b = between 0x40 0x4f b || eqb b 0x81 || between 0x88 0x8f b || eqb b 0xf1 || eqb b 0xf3 || eqb b 0xf4 || eqb b 0xf6 || eqb b 0xf7

-- a pending byte is one that awaits a parameter
unfoldable pub valid_pending : Option ℕ → Bool
valid_pending None = true
valid_pending (Some b) = awaits b

unfoldable pub valid_serial : Serial → Bool
valid_serial l = ltb l.bits 8 && valid_pending l.pending

unfoldable pub valid_saved : Option ℕ → Bool
valid_saved None = true
valid_saved (Some c) = ltb c 256

unfoldable pub valid_address : Address → Bool
valid_address a = leb a.page 16 && ltb a.column_byte 256 && valid_saved a.saved_column

-- supply from 1650 mV up counts as supplied
abbrev pub supplied_at : (millivolts : ℕ) → Bool
supplied_at millivolts = leb 1650 millivolts

unfoldable pub valid_power : Power → Bool
valid_power p = beq p.supplied (supplied_at p.supply_millivolts)

-- the condition of number 3 on the controller
unfoldable pub valid_state : Nt7508 → Bool
valid_state x =
    valid_serial x.serial
    && valid_address x.address
    && display.valid_settings x.display
    && analog.valid_settings x.analog
    && valid_power x.power

-- numbers 3, 4 and 5
unfoldable pub check_state : Nt7508 → Option ℕ
check_state x = first_of (row 3 (valid_state x)) (check_scan x.scan)

-- the condition of number 6 on a restored state: no clock later than now, no wait that ended before
unfoldable pub clock_not_later : Option Clock → Time → Bool
clock_not_later (Some c) now = leb (raw c.at) (raw now)
clock_not_later None now = true

unfoldable pub ready_not_earlier : Option Time → Time → Bool
ready_not_earlier (Some t) now = leb (raw now) (raw t)
ready_not_earlier None now = true

unfoldable pub restore_ok : Scan → Option Time → Time → Bool
restore_ok s ready now = clock_not_later s.ticking.clock now && ready_not_earlier ready now

-- the condition of number 7 on a serial group: a count up to 8, and no bit set at or above it
unfoldable pub group_ok : (bits count : ℕ) → Bool
group_ok bits count = leb count 8 && ltb bits (2 ^ count)

-- the table's order. A row that a call does not name passes
unfoldable pub in_order : (memory image time state restore group : Option ℕ) → Option ℕ
in_order memory image time state restore group =
    first_of memory (first_of image (first_of time (first_of state (first_of restore group))))

-- a call that takes a moment
unfoldable pub check_moment : Nt7508 → Time → Option ℕ
check_moment x now = in_order None None (row 1 (in_range now)) (check_state x) None None

-- a call that takes lent memory
unfoldable pub check_memory : Nt7508 → (ram icons : List ℕ) → Option ℕ
check_memory x ram icons = in_order (row 2 (memory_ok ram icons)) None None (check_state x) None None

-- both
unfoldable pub check_lent : Nt7508 → Time → (ram icons : List ℕ) → Option ℕ
check_lent x now ram icons = in_order (row 2 (memory_ok ram icons)) None (row 1 (in_range now)) (check_state x) None None

-- a group of bits
unfoldable pub check_group : Nt7508 → (bits count : ℕ) → Time → (ram icons : List ℕ) → Option ℕ
check_group x bits count now ram icons =
    in_order (row 2 (memory_ok ram icons)) None (row 1 (in_range now)) (check_state x) None (row 7 (group_ok bits count))

-- an image of so many bytes
unfoldable pub check_image : Nt7508 → (ram icons : List ℕ) → (bytes : ℕ) → Option ℕ
check_image x ram icons bytes = in_order (row 2 (memory_ok ram icons)) (row 8 (image_ok bytes)) None (check_state x) None None

-- a state that is restored
unfoldable pub check_restore : Nt7508 → Time → (ram icons : List ℕ) → Option ℕ
check_restore x now ram icons =
    in_order (row 2 (memory_ok ram icons)) None (row 1 (in_range now)) (check_state x) (row 6 (restore_ok x.scan x.power.ready now)) None
