-- Which bytes take the fast path (src/fast.rt): eight bits at once with none under way, data or a command that sets the address or
-- nothing, to a state whose checks pass and whose scan goes on as it did. What such a byte leaves is by the rules; that it is what
-- `shift_in` (Bits.antt) leaves is a law (`fast_shift`, proofs/FastPath.antt). Of any other group the answer says only that it is
-- another.
use Rattle.std.specs.Prelude.{ℕ, Bool, cond, ◌&&◌, ◌||◌, List, leb, eqb, Option, Some, None, is_none}
use Rattle.clock.specs.declared.time.Time.{Time}
use Rattle.scan.specs.declared.run.Running.{Running}
use Rattle.scan.specs.declared.state.Scan.{Scan}
use Rattle.scan.specs.Drive.{runs}
use Rattle.scan.specs.Run.{running_after, byte_scan}
use Rattle.scan.specs.Fast.{is_fast}
use Rattle.controller.specs.declared.state.Nt7508.{Nt7508}
use Rattle.controller.specs.declared.state.Serial.{Serial}
use Rattle.controller.specs.declared.state.Power.{Power}
use Rattle.controller.specs.declared.state.Address.{Address}
use Rattle.controller.specs.declared.event.Event.{Event}
use Rattle.controller.specs.declared.event.Store.{Store}
use Rattle.controller.specs.declared.event.Stepped.{Stepped}
use Rattle.controller.specs.declared.fast.FastStep.{FastStep}
use Rattle.controller.specs.Check.{between}
use Rattle.controller.specs.Command.{address_after}
use Rattle.controller.specs.Byte.{conditions_of, next_column, store_of, page_sent, step_of}
use Rattle.controller.specs.Closed.{registers_ok, completes}

-- commands that set page or column, 00 to 17 and B0 to BF, or nothing, 18 to 1F and E3
abbrev pub addressing : ℕ → Bool
addressing b = leb b 0x1f || between 0xb0 0xbf b || eqb b 0xe3

-- a byte that leaves every register but the address as it is
abbrev pub keeps : Serial → (b : ℕ) → Bool
keeps l b = l.«data» || (is_none l.pending && addressing b)

-- the scan runs on, or stands still
abbrev pub staying : Power → Running
staying p = running_after (runs (conditions_of p)) (runs (conditions_of p))

-- numbers 2, 1, 3 and 7 do not apply, the byte is whole, and it keeps the registers
unfoldable pub registers_stay : Nt7508 → (b : ℕ) → Time → (ram icons : List ℕ) → Bool
registers_stay x b now ram icons =
    registers_ok x b 8 now ram icons && completes x 8 && eqb x.serial.bits 0 && keeps x.serial b

unfoldable pub is_fast_byte : Nt7508 → (b : ℕ) → Time → (ram icons : List ℕ) → Bool
is_fast_byte x b now ram icons =
    registers_stay x b now ram icons && is_fast x.scan x.display now (staying x.power) ram icons

-- a scan with address, event and store of a step. A step of the fast path has an event (`fast_step_is`, proofs/FastPath.antt)
abbrev pub beside : Scan → Stepped → Option Event → Option FastStep
beside z s None = None
beside z s (Some e) = Some (record { scan = z; address = s.state.address; event = e; store = s.store })

-- the answer of the fast path: scan, address, event and store of the byte, by the rules; none for a byte that does not take it
unfoldable pub fast_step : Nt7508 → (b : ℕ) → Time → (ram icons : List ℕ) → Option FastStep
fast_step x b now ram icons =
    let s = step_of x b now in
    cond (is_fast_byte x b now ram icons)
    (beside (byte_scan x.scan x.display x.display now (page_sent x) (staying x.power) ram icons).1 s s.event)
    None

-- what it stores
abbrev pub stored : Option FastStep → Option Store
stored None = None
stored (Some s) = s.store

-- the same of a byte that leaves every register but the address, as src/fast.rt puts it together
unfoldable pub fast_step_of : Scan → Serial → Address → (b : ℕ) → Time → FastStep
fast_step_of z l a b now =
    cond l.«data»
    (record { scan = z; address = next_column a; event = Event.Write now a.page a.column_byte b; store = Some (store_of a b) })
    (record { scan = z; address = address_after a b; event = Event.Control now b None; store = None })
