-- Document 01, 'The tightness of contracts', e: the calls that a list is made of, what each answers and what it leaves. Both
-- are taken from the definitions that the controller's contracts cite.
use Rattle.std.specs.Prelude.{ℕ, Bool, List, [], ◌∷◌, ◌⊎◌, ℤ, Option}
use Rattle.clock.specs.declared.time.Time.{Time}
use Rattle.voltage.specs.declared.LcdVoltages.{LcdVoltages}
use Rattle.scan.specs.declared.drive.LcdDrive.{LcdDrive}
use Rattle.controller.specs.declared.state.Nt7508.{Nt7508}
use Rattle.controller.specs.declared.event.Event.{Event}
use Rattle.controller.specs.State.{power_on}
use Rattle.controller.specs.Bits.{Outcome, shift_in}
use Rattle.controller.specs.Supply.{select, command_data, set_supply, set_temperature, at_deadline}
use Rattle.controller.specs.Update.{update}
use Rattle.controller.specs.Look.{drive_of, render_of, voltages_of}

-- a call with all its arguments. One rising edge is a group of one bit; `pixels` is what the lent image holds before the call
pub data Call : Type 0 where
  Bits : (now : Time) → (count bits : ℕ) → Call
  Data : (on : Bool) → Call
  Select : (on : Bool) → Call
  Supply : (millivolts : ℕ) → (now : Time) → Call
  Temperature : (millicelsius : ℤ) → Call
  Deadline : (now : Time) → Call
  Update : (now : Time) → Call
  Drive : (now : Time) → Call
  Image : (pixels : List ℕ) → Call
  Voltages : Call

-- the controller and the memory that is lent to each call
pub record Machine : Type 0 where
  pub state : Nt7508
  pub ram : List ℕ
  pub icons : List ℕ

-- at power-on, RAM and icons holding anything
abbrev pub start : (ram icons : List ℕ) → Machine
start ram icons = record { state = power_on; ram = ram; icons = icons }

-- the reply of a call: the number of its refusal, if any, and the value that it gives
pub data Reply : Type 0 where
  Told : Option ℕ → Option Event → Reply
  Done : Option ℕ → Reply
  Counted : Option ℕ → (pieces : ℕ) → Reply
  Driven : Option ℕ → LcdDrive → (frame : ℕ) → Reply
  Painted : Option ℕ → (pixels : List ℕ) → Reply
  Levels : ℕ ⊎ LcdVoltages → Reply

unfoldable pub reply : Call → Machine → Reply
reply (Bits now count bits) m = let r = shift_in m.state bits count now m.ram m.icons in Told r.0 r.1.event
reply (Data on) m = Done (command_data m.state on).0
reply (Select on) m = Done (select m.state on).0
reply (Supply millivolts now) m = Done (set_supply m.state millivolts now).0
reply (Temperature millicelsius) m = Done (set_temperature m.state millicelsius).0
reply (Deadline now) m = Done (at_deadline m.state now).0
reply (Update now) m = let r = update m.state now in Counted r.0 r.1.1
reply (Drive now) m = let r = drive_of m.state now m.ram m.icons in Driven r.0 r.1.0 r.1.1
reply (Image pixels) m = let r = render_of m.state m.ram m.icons pixels in Painted r.0 r.1
reply Voltages m = Levels (voltages_of m.state)

-- the machine after it: the state, and RAM and icons, which only bits can change. Drive, image and voltages look and leave all
abbrev pub with_state : Machine → Nt7508 → Machine
with_state m x = record { state = x; ram = m.ram; icons = m.icons }

abbrev pub outcome : Outcome → Machine
outcome o = record { state = o.state; ram = o.ram; icons = o.icons }

unfoldable pub after : Call → Machine → Machine
after (Bits now count bits) m = outcome (shift_in m.state bits count now m.ram m.icons).1
after (Data on) m = with_state m (command_data m.state on).1
after (Select on) m = with_state m (select m.state on).1
after (Supply millivolts now) m = with_state m (set_supply m.state millivolts now).1
after (Temperature millicelsius) m = with_state m (set_temperature m.state millicelsius).1
after (Deadline now) m = with_state m (at_deadline m.state now).1
after (Update now) m = with_state m (update m.state now).1.0
after (Drive now) m = m
after (Image pixels) m = m
after Voltages m = m

-- a list of calls, each on the state and memory that the one before left: the replies, and what is left at the end
unfoldable pub run : List Call → Machine → List Reply
run [] m = []
run (c ∷ cs) m = reply c m ∷ run cs (after c m)

unfoldable pub end : List Call → Machine → Machine
end [] m = m
end (c ∷ cs) m = end cs (after c m)
