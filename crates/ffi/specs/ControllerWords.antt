-- The calls of the controller over a block of words and lent memory. A block that holds no state has number 20, before every
-- other check.
use Rattle.std.specs.Prelude.{ℕ, Bool, true, false, cond, List, [], ◌∷◌, ◌⊎◌, ◌≡◌, ℤ, get_or, Option, Some, None, Result}
use Rattle.std.proofs.Common.{inl}
use Rattle.checks.specs.Checks.{numbered, unless_refused}
use Rattle.voltage.specs.declared.LcdVoltages.{LcdVoltages}
use Rattle.voltage.specs.declared.finder.Pair.{Pair}
use Rattle.scan.specs.declared.drive.LcdDrive.{LcdDrive}
use Rattle.scan.specs.Drive.{off}
use Rattle.clock.specs.declared.time.Time.{Time}
use Rattle.controller.specs.declared.state.Nt7508.{Nt7508}
use Rattle.controller.specs.declared.event.Event.{Event}
use Rattle.controller.specs.declared.check.Refusal.{Refusal}
use Rattle.controller.specs.Check.{number, answered}
use Rattle.controller.specs.Bits.{Outcome, quiet, rising, shift_in}
use Rattle.controller.specs.Supply.{select, command_data, set_temperature, set_supply, at_deadline, lose_volatile}
use Rattle.controller.specs.Update.{update}
use Rattle.controller.specs.Look.{voltages_of, drive_of, render_of, serial_effect_edges, deadline_of, SaysOf, restore}
use Rattle.ffi.specs.Words.{status, check_status, stored, optional_words}
use Rattle.ffi.specs.VoltageWords.{pair_words}
use Rattle.ffi.specs.StateWords.{holds_state, state_of, state_words}

-- the answer of a call for the state of a block; where the block holds none, number 20 and the value given
abbrev pub on_block : {A : Type 0} → (w : List ℕ) → Option ℕ × A → (given : A) → Option ℕ × A
on_block w r given = cond (holds_state w) r (Some 20, given)

abbrev pub answer_on : {A : Type 0} → (w : List ℕ) → ℕ ⊎ A → ℕ ⊎ A
answer_on w r = cond (holds_state w) r (inl 20)

-- an event: its kind, page, column, value or command, whether it has a parameter, the parameter, and its time
abbrev pub control_words : (parameter : List ℕ) → Time → (command : ℕ) → List ℕ
control_words p at command = 2 ∷ 0 ∷ 0 ∷ command ∷ get_or p 0 0 ∷ get_or p 1 0 ∷ at.seconds ∷ at.fraction ∷ []

abbrev pub told_words : Event → List ℕ
told_words (Event.Write at page column value) = 1 ∷ page ∷ column ∷ value ∷ 0 ∷ 0 ∷ at.seconds ∷ at.fraction ∷ []
told_words (Event.Control at command parameter) = control_words (optional_words parameter) at command

abbrev pub event_words : Option Event → List ℕ
event_words None = 0 ∷ 0 ∷ 0 ∷ 0 ∷ 0 ∷ 0 ∷ 0 ∷ 0 ∷ []
event_words (Some e) = told_words e

-- the calls that change the state
abbrev pub rising_on : (w : List ℕ) → (bit : Bool) → (moment : Time) → (ram icons : List ℕ) → Option ℕ × Outcome
rising_on w bit moment ram icons = on_block w (rising (state_of w) bit moment ram icons) (quiet (state_of w) ram icons)

abbrev pub shifted_on : (w : List ℕ) → (bits count : ℕ) → (moment : Time) → (ram icons : List ℕ) → Option ℕ × Outcome
shifted_on w bits count moment ram icons =
    on_block w (shift_in (state_of w) bits count moment ram icons) (quiet (state_of w) ram icons)

abbrev pub selected_on : (w : List ℕ) → (on : Bool) → Option ℕ × Nt7508
selected_on w on = on_block w (select (state_of w) on) (state_of w)

abbrev pub data_on : (w : List ℕ) → (on : Bool) → Option ℕ × Nt7508
data_on w on = on_block w (command_data (state_of w) on) (state_of w)

abbrev pub supplied_on : (w : List ℕ) → (millivolts : ℕ) → (moment : Time) → Option ℕ × Nt7508
supplied_on w millivolts moment = on_block w (set_supply (state_of w) millivolts moment) (state_of w)

abbrev pub temperature_on : (w : List ℕ) → (millicelsius : ℤ) → Option ℕ × Nt7508
temperature_on w millicelsius = on_block w (set_temperature (state_of w) millicelsius) (state_of w)

abbrev pub lost_on : (w ram icons : List ℕ) → Option ℕ × (Nt7508 × (List ℕ × List ℕ))
lost_on w ram icons = on_block w (lose_volatile (state_of w) ram icons) (state_of w, (ram, icons))

abbrev pub met_on : (w : List ℕ) → (moment : Time) → Option ℕ × Nt7508
met_on w moment = on_block w (at_deadline (state_of w) moment) (state_of w)

abbrev pub updated_on : (w : List ℕ) → (moment : Time) → Option ℕ × (Nt7508 × ℕ)
updated_on w moment = on_block w (update (state_of w) moment) (state_of w, 0)

abbrev pub restored_on : (w : List ℕ) → (moment : Time) → (ram icons : List ℕ) → Option ℕ × Nt7508
restored_on w moment ram icons = on_block w (restore (state_of w) moment ram icons) (state_of w)

-- the calls that look
abbrev pub driven_on : (w : List ℕ) → (moment : Time) → (ram icons : List ℕ) → Option ℕ × (LcdDrive × ℕ)
driven_on w moment ram icons = on_block w (drive_of (state_of w) moment ram icons) (off, 0)

abbrev pub rendered_on : (w ram icons before : List ℕ) → Option ℕ × List ℕ
rendered_on w ram icons before = on_block w (render_of (state_of w) ram icons before) before

abbrev pub voltages_on : List ℕ → ℕ ⊎ LcdVoltages
voltages_on w = answer_on w (voltages_of (state_of w))

abbrev pub edges_on : (w : List ℕ) → (high : Bool) → ℕ ⊎ ℕ
edges_on w high = answer_on w (serial_effect_edges (state_of w) high)

abbrev pub deadline_on : List ℕ → ℕ ⊎ Option Time
deadline_on w = answer_on w (deadline_of (state_of w))

-- a call that changes the state of a block: what it answers and leaves, by an answer of which `Is` holds
pub record ChangedBy (Is : Result Nt7508 Refusal → Type 0) (w : List ℕ) (result : ℕ) (after : List ℕ) : Type 0 where
  pub answer : Result Nt7508 Refusal
  pub is : Is answer
  pub answers : (given : Nt7508) → result ≡ check_status (answered given answer).0
  pub leaves : (given : Nt7508) → after ≡ unless_refused (answered given answer).0 (state_words (answered given answer).1) w

-- and where the block holds no state
pub record ChangedOn (Is : Nt7508 → Result Nt7508 Refusal → Type 0) (w : List ℕ) (result : ℕ) (after : List ℕ) : Type 0 where
  pub of_state : holds_state w ≡ true → ChangedBy (Is (state_of w)) w result after
  pub refused : holds_state w ≡ false → (result ≡ 20) × (after ≡ w)

-- a call that looks at the state of a block: its status, and the words that it leaves, by an answer of which `Is` holds
pub record LookedBy {T W : Type 0} (words : T → W) (Is : Result T Refusal → Type 0) (before : W) (result : ℕ) (after : W) : Type 0 where
  pub answer : Result T Refusal
  pub is : Is answer
  pub answers : result ≡ status (numbered number answer)
  pub leaves : after ≡ stored words (numbered number answer) before

-- and where the block holds no state
pub record LookedOn {T W : Type 0} (words : T → W) (Is : Nt7508 → Result T Refusal → Type 0) (w : List ℕ) (before : W) (result : ℕ) (after : W) : Type 0 where
  pub of_state : holds_state w ≡ true → LookedBy words (Is (state_of w)) before result after
  pub refused : holds_state w ≡ false → (result ≡ 20) × (after ≡ before)

-- the number and the words of an answer of which the finder's rule holds
pub record FoundFor (x : Nt7508) (low high : ℕ) (before : List ℕ) (result : ℕ) (after : List ℕ) : Type 0 where
  pub found : Result (Option Pair) Refusal
  pub says : SaysOf x low high found
  pub answers : result ≡ status (numbered number found)
  pub leaves : after ≡ stored pair_words (numbered number found) before

-- and where the block holds no state
pub record FoundOn (w : List ℕ) (low high : ℕ) (before : List ℕ) (result : ℕ) (after : List ℕ) : Type 0 where
  pub of_state : holds_state w ≡ true → FoundFor (state_of w) low high before result after
  pub refused : holds_state w ≡ false → (result ≡ 20) × (after ≡ before)
