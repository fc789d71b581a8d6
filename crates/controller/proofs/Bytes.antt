-- What a byte leaves: a state that passes its checks, and the line and the supply as they were. A data byte makes no scan begin,
-- and only a scan that begins reads memory, so that what a byte stores has no part in the state that it leaves.
use Prim.Native.Nat.{ℕ, ◌+◌, ◌<◌}
use mathlib.Core.Bool.{Bool, true, false, cond}
use mathlib.Core.List.{List}
use mathlib.Core.Path.{◌≡◌, refl, sym, ◌∙◌, ap}
use native.Mathlib.Omega.{arith}
use lib.Dec.{leb}
use borrow.Author.Tests.{lt-ltb, ltb-true, leb-false}
use Rattle.std.specs.Prelude.{Option, Some, None}
use Rattle.checks.proofs.Tests.{both}
use Rattle.clock.specs.declared.time.Time.{Time}
use Rattle.scan.specs.declared.settings.Settings.{Settings}
use Rattle.scan.specs.declared.state.Scan.{Scan}
use Rattle.scan.specs.Count.{count_to}
use Rattle.scan.specs.Drive.{runs}
use Rattle.scan.specs.Run.{running_after, updated}
use Rattle.scan.proofs.Checks.{valid_scan_lem, valid_settings_lem}
use Rattle.scan.proofs.Checks as scans
use Rattle.scan.proofs.Counting.{count_to_valid}
use Rattle.scan.proofs.Latches.{retained_check}
use Rattle.scan.proofs.Runs.{updated_valid}
use Rattle.controller.specs.declared.state.Nt7508.{Nt7508}
use Rattle.controller.specs.declared.state.Address.{Address}
use Rattle.controller.specs.declared.event.Stepped.{Stepped}
use Rattle.controller.specs.State.{with_scan, with_address, with_serial}
use Rattle.controller.specs.Check.{awaits, valid_saved, valid_address, check_state, check_lent}
use Rattle.controller.specs.Event.{ram_after, icons_after}
use Rattle.controller.specs.Command.{power_after, acted, parameter_taken, command_step}
use Rattle.controller.specs.Byte.{conditions_of, next_column, page_sent, data_step, found, step_of, settled_by, byte_taken}
use Rattle.controller.proofs.Checks.{Valid, valid, valid_check, called, called_check, with_scan_valid}
use Rattle.controller.proofs.Registers.{command_valid}

-- a property of both steps is one of the step that a test picks
picked : (P : Stepped → Type 0) (t : Bool) {a b : Stepped} → P a → P b → P (cond t a b)
picked P true p q = p
picked P false p q = q

-- ---- memory
-- a scan that a byte does not make run is updated with no memory read
pub updated_unread : (x : Scan) (s : Settings) (now : Time) (runs : Bool) (ram icons ram' icons' : List ℕ) → updated x s now (running_after runs runs) ram icons ≡ updated x s now (running_after runs runs) ram' icons'
unfolding updated
updated_unread x s now true ram icons ram' icons' = refl
updated_unread x s now false ram icons ram' icons' = refl

-- a command stores nothing
pub command_stores : (x : Nt7508) (p : Option ℕ) (b : ℕ) (now : Time) → (command_step x p b now).store ≡ None
unfolding command_step
command_stores x (Some c) b now = refl
command_stores x None b now = picked (λ (s : Stepped). s.store ≡ None) (awaits b) refl refl

module _ (x : Nt7508) (b : ℕ) (now : Time) (ram icons : List ℕ) where
  -- a step leaves the same by memory with the byte in it and without
  Unread : Stepped → Type 0
  Unread s =
      settled_by (runs (conditions_of x.power)) s now (ram_after s.store ram) (icons_after s.store icons)
      ≡ settled_by (runs (conditions_of x.power)) s now ram icons

  data_unread : Unread (data_step x b now)
  unfolding Unread settled_by data_step with_address
  data_unread = ap (λ (k : Scan). record {
    state = with_scan (with_address x (next_column x.address)) k;
    event = (data_step x b now).event;
    store = (data_step x b now).store;
  }) (updated_unread x.scan x.display now (runs (conditions_of x.power)) _ _ ram icons)

  command_unread : Unread (command_step x x.serial.pending b now)
  unfolding Unread
  command_unread = rw (command_stores x x.serial.pending b now)

  step_unread : Unread (step_of x b now)
  unfolding step_of
  step_unread = picked Unread x.serial.«data» data_unread command_unread

-- a whole byte by memory that does not hold it yet
pub byte_unread : (x : Nt7508) (b : ℕ) (now : Time) (ram icons : List ℕ) → settled_by (runs (conditions_of x.power)) (step_of (found x now ram icons) b now) now ram icons ≡ byte_taken x b now ram icons
unfolding byte_taken found with_scan Unread
byte_unread x b now ram icons = sym (step_unread (found x now ram icons) b now ram icons)

-- ---- checks
-- the column stays below 256
column_below : (c : ℕ) → c < 256 → cond (leb 255 c) 255 (c + 1) < 256
column_below c l = go (leb 255 c) refl
  where
    go : (t : Bool) → leb 255 c ≡ t → cond t 255 (c + 1) < 256
    go true h = omega arith
    go false h = omega (arith, leb-false 255 c h)

next_valid : (a : Address) → valid_address a ≡ true → valid_address (next_column a) ≡ true
unfolding valid_address
next_valid a h =
    let p = both _ _ h in
    let q = both _ _ p.0 in
    let page : leb (next_column a).page 16 ≡ true = q.0 in
    let saved : valid_saved (next_column a).saved_column ≡ true = p.1 in
    simp (page, saved, lt-ltb _ 256 (column_below a.column_byte (ltb-true _ _ q.1)))

pub data_valid : (x : Nt7508) (b : ℕ) (now : Time) → Valid x → Valid (data_step x b now).state
unfolding data_step with_address
data_valid x b now v = record {
  serial = v.serial;
  address = next_valid x.address v.address;
  display = v.display;
  analog = v.analog;
  power = v.power;
  scan = v.scan;
}

pub step_valid : (x : Nt7508) (b : ℕ) (now : Time) → b < 256 → Valid x → Valid (step_of x b now).state
unfolding step_of
step_valid x b now l v = picked (λ (s : Stepped). Valid s.state) x.serial.«data» (data_valid x b now v) (command_valid x b now l v)

module _ (x : Nt7508) (now : Time) (ram icons : List ℕ) (h : check_lent x now ram icons ≡ None) where
  pub found_valid : Valid (found x now ram icons)
  unfolding found
  found_valid =
      let k = called x now ram icons h in
      let v = valid x k.state in
      let y = count_to x.scan x.display now in
      let counted = count_to_valid x.display (valid_settings_lem x.display v.display) now k.in_range_lem x.scan (valid_scan_lem x.scan v.scan) in
      with_scan_valid x v _ (retained_check y x.display ram icons (page_sent x) ∙ scans.valid_check y counted)

  module _ (b : ℕ) (l : b < 256) where
    -- the state that the byte's own step leaves passes the checks of the call
    pub step_called : check_lent (step_of (found x now ram icons) b now).state now ram icons ≡ None
    step_called =
        let k = called x now ram icons h in
        called_check _ now ram icons (record { memory = k.memory; in_range_lem = k.in_range_lem; state = valid_check _ (step_valid (found x now ram icons) b now l found_valid) })

pub settled_valid : (was : Bool) (s : Stepped) (now : Time) (ram icons : List ℕ) → check_lent s.state now ram icons ≡ None → Valid (settled_by was s now ram icons).state
unfolding settled_by
settled_valid was s now ram icons h =
    let k = called s.state now ram icons h in
    let v = valid s.state k.state in
    with_scan_valid s.state v _ (scans.valid_check _ (updated_valid _ _ now _ ram icons (valid_scan_lem _ v.scan) (valid_settings_lem _ v.display) k.in_range_lem))

pub byte_valid : (x : Nt7508) (b : ℕ) (now : Time) (ram icons : List ℕ) → b < 256 → check_lent x now ram icons ≡ None → check_state (byte_taken x b now ram icons).state ≡ None
byte_valid x b now ram icons l h =
    rw (← byte_unread x b now ram icons) (valid_check _ (settled_valid (runs (conditions_of x.power)) (step_of (found x now ram icons) b now) now ram icons (step_called x now ram icons h b l)))

-- ---- line and supply
-- what a byte never changes: the line but for the awaited command, and the power but for its flags
pub record LineLeaves (x y : Nt7508) : Type 0 where
  pub selected : y.serial.selected ≡ x.serial.selected
  pub «data» : y.serial.«data» ≡ x.serial.«data»
  pub shift : y.serial.shift ≡ x.serial.shift
  pub bits : y.serial.bits ≡ x.serial.bits
  pub supplied : y.power.supplied ≡ x.power.supplied
  pub ready : y.power.ready ≡ x.power.ready
  pub cold : y.power.cold ≡ x.power.cold
  pub supply : y.power.supply_millivolts ≡ x.power.supply_millivolts
  pub temperature : y.power.temperature_millicelsius ≡ x.power.temperature_millicelsius

command_line : (x : Nt7508) (p : Option ℕ) (b : ℕ) (now : Time) → LineLeaves x (command_step x p b now).state
unfolding command_step parameter_taken acted power_after with_serial
command_line x (Some c) b now = record { selected = refl; «data» = refl; shift = refl; bits = refl; supplied = refl; ready = refl; cold = refl; supply = refl; temperature = refl }
command_line x None b now = picked (λ (s : Stepped). LineLeaves x s.state) (awaits b)
    (record { selected = refl; «data» = refl; shift = refl; bits = refl; supplied = refl; ready = refl; cold = refl; supply = refl; temperature = refl })
    (record { selected = refl; «data» = refl; shift = refl; bits = refl; supplied = refl; ready = refl; cold = refl; supply = refl; temperature = refl })

-- a byte's action
pub step_leaves : (x : Nt7508) (b : ℕ) (now : Time) → LineLeaves x (step_of x b now).state
unfolding step_of data_step with_address
step_leaves x b now = picked (λ (s : Stepped). LineLeaves x s.state) x.serial.«data»
    (record { selected = refl; «data» = refl; shift = refl; bits = refl; supplied = refl; ready = refl; cold = refl; supply = refl; temperature = refl })
    (command_line x x.serial.pending b now)

pub byte_serial : (x : Nt7508) (b : ℕ) (now : Time) (ram icons : List ℕ) → LineLeaves x (byte_taken x b now ram icons).state
unfolding byte_taken settled_by found with_scan
byte_serial x b now ram icons = let k = step_leaves (found x now ram icons) b now in record {
  selected = k.selected;
  «data» = k.«data»;
  shift = k.shift;
  bits = k.bits;
  supplied = k.supplied;
  ready = k.ready;
  cold = k.cold;
  supply = k.supply;
  temperature = k.temperature;
}
