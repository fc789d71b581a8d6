-- A byte part by part: what it does to the registers, gives and is to store has no part of the scan in it, and the scan after
-- it is counted, its latch retained, and updated by the registers then.
use Prim.Native.Nat.{ℕ, ◌+◌, ◌*◌, ◌%◌}
use mathlib.Core.Bool.{Bool, true, false, cond, not, ◌&&◌, false≢true}
use mathlib.Core.List.{List}
use mathlib.Core.Path.{◌≡◌, refl, sym, ◌∙◌, ap}
use native.Mathlib.Nat.{mod-lt}
use native.Mathlib.Omega.{arith}
use lib.Arith.{digits_div}
use lib.Dec.{eqb}
use lib.ListN.{length, length-set}
use borrow.Author.Tests.{eqb-true, eqb-false}
use Rattle.std.specs.Prelude.{Option, Some, None}
use Rattle.clock.specs.declared.time.Time.{Time}
use Rattle.scan.specs.declared.settings.Settings.{Settings}
use Rattle.scan.specs.Check.{memory_ok}
use Rattle.scan.proofs.Latches.{data_outside, icon_outside}
use Rattle.scan.specs.declared.state.Scan.{Scan}
use Rattle.scan.specs.Count.{count_to}
use Rattle.scan.specs.Latch.{latched_row, shown, affects, retained}
use Rattle.scan.specs.Run.{running_after, updated}
use Rattle.scan.specs.Drive.{runs}
use Rattle.controller.specs.declared.state.Nt7508.{Nt7508}
use Rattle.controller.specs.declared.state.Address.{Address}
use Rattle.controller.specs.declared.event.Event.{Event}
use Rattle.controller.specs.declared.event.Store.{Store}
use Rattle.controller.specs.declared.event.Stepped.{Stepped}
use Rattle.controller.specs.State.{with_scan, with_address, with_serial}
use Rattle.controller.specs.Check.{awaits}
use Rattle.controller.specs.Event.{ram_after, icons_after}
use Rattle.controller.specs.Command.{with_pending, acted, parameter_taken, command_step}
use Rattle.controller.specs.Byte.{conditions_of, store_of, data_step, page_sent, found, step_of, settled_by, byte_taken}

-- a command byte, with whether it awaits a parameter given
abbrev pub command_taken : Nt7508 → Option ℕ → (b : ℕ) → Time → (awaiting : Bool) → Stepped
command_taken x (Some c) b now t = record { state = parameter_taken x c b; event = Some (Event.Control now c (Some b)); store = None }
command_taken x None b now t =
    cond t
    (record { state = with_serial x (with_pending x.serial (Some b)); event = None; store = None })
    (record { state = acted x b; event = Some (Event.Control now b None); store = None })

-- a byte's action, with its tests given
command_is : (x : Nt7508) (p : Option ℕ) (b : ℕ) (now : Time) → command_step x p b now ≡ command_taken x p b now (awaits b)
unfolding command_step
command_is x None b now = refl
command_is x (Some c) b now = refl

pub step_is : (x : Nt7508) (b : ℕ) (now : Time) → step_of x b now ≡ cond x.serial.«data» (data_step x b now) (command_taken x x.serial.pending b now (awaits b))
unfolding step_of
step_is x b now = ap (cond x.serial.«data» (data_step x b now)) (command_is x x.serial.pending b now)

-- the scan as the byte finds it
abbrev pub scan_before : Nt7508 → Time → (ram icons : List ℕ) → Scan
scan_before x now ram icons = retained (count_to x.scan x.display now) x.display (page_sent x) ram icons

-- and as it leaves it
unfoldable pub scan_after : Nt7508 → (b : ℕ) → Time → (ram icons : List ℕ) → Scan
scan_after x b now ram icons =
    let s = step_of x b now in
    updated (scan_before x now ram icons) s.state.display now
    (running_after (runs (conditions_of x.power)) (runs (conditions_of s.state.power)))
    (ram_after s.store ram) (icons_after s.store icons)

abbrev pub beside_scan : Stepped → Scan → Stepped
beside_scan s z = record { state = with_scan s.state z; event = s.event; store = s.store }

pub step_scan : (x : Nt7508) (z : Scan) (b : ℕ) (now : Time) → step_of (with_scan x z) b now ≡ beside_scan (step_of x b now) z
unfolding data_step acted parameter_taken with_scan with_address with_serial
step_scan x z b now = step_is (with_scan x z) b now ∙ go x.serial.«data» x.serial.pending (awaits b) ∙ ap (λ (s : Stepped). beside_scan s z) (sym (step_is x b now))
  where
    go : (d : Bool) (p : Option ℕ) (t : Bool) → cond d (data_step (with_scan x z) b now) (command_taken (with_scan x z) p b now t) ≡ beside_scan (cond d (data_step x b now) (command_taken x p b now t)) z
    go true p t = refl
    go false (Some c) t = refl
    go false None true = refl
    go false None false = refl

pub byte_parts : (x : Nt7508) (b : ℕ) (now : Time) (ram icons : List ℕ) → byte_taken x b now ram icons ≡ beside_scan (step_of x b now) (scan_after x b now ram icons)
unfolding byte_taken settled_by found scan_after with_scan
byte_parts x b now ram icons =
    ap (λ (s : Stepped). settled_by (runs (conditions_of x.power)) s now (ram_after s.store ram) (icons_after s.store icons))
    (step_scan x (scan_before x now ram icons) b now)

-- whether a parameter is awaited
abbrev pub is_awaiting : Option ℕ → Bool
is_awaiting None = false
is_awaiting (Some c) = true

pub step_awaiting : (x : Nt7508) (b : ℕ) (now : Time)
    → is_awaiting (step_of x b now).state.serial.pending ≡ cond x.serial.«data» (is_awaiting x.serial.pending) (not (is_awaiting x.serial.pending) && awaits b)
unfolding data_step acted parameter_taken with_address with_serial
step_awaiting x b now = ap (λ (s : Stepped). is_awaiting s.state.serial.pending) (step_is x b now) ∙ go x.serial.«data» x.serial.pending (awaits b) refl
  where
    go : (d : Bool) (p : Option ℕ) (t : Bool) → x.serial.pending ≡ p → is_awaiting (cond d (data_step x b now) (command_taken x p b now t)).state.serial.pending ≡ cond d (is_awaiting p) (not (is_awaiting p) && t)
    go true p t e = ap is_awaiting e
    go false (Some c) t e = refl
    go false None true e = refl
    go false None false e = refl

-- data has the action of data, and nothing but data stores
pub step_data : (x : Nt7508) (b : ℕ) (now : Time) → x.serial.«data» ≡ true → step_of x b now ≡ data_step x b now
unfolding step_of
step_data x b now d = ap (λ (t : Bool). cond t (data_step x b now) (command_step x x.serial.pending b now)) d

pub step_stores : (x : Nt7508) (b : ℕ) (now : Time) → x.serial.«data» ≡ false → (step_of x b now).store ≡ None
step_stores x b now d = ap (λ (s : Stepped). s.store) (step_is x b now) ∙ go x.serial.«data» x.serial.pending (awaits b) d
  where
    go : (d : Bool) (p : Option ℕ) (t : Bool) → d ≡ false → (cond d (data_step x b now) (command_taken x p b now t)).store ≡ None
    go true p t e = absurd (false≢true (sym e))
    go false (Some c) t e = refl
    go false None true e = refl
    go false None false e = refl

-- a command that awaits nothing, is no parameter and leaves every register as it was leaves the state
pub step_idle : (x : Nt7508) (b : ℕ) (now : Time) → x.serial.«data» ≡ false → is_awaiting x.serial.pending ≡ false → awaits b ≡ false → acted x b ≡ x → (step_of x b now).state ≡ x
step_idle x b now d p t same = ap (λ (s : Stepped). s.state) (step_is x b now) ∙ go x.serial.«data» x.serial.pending (awaits b) d p t
  where
    go : (d : Bool) (p : Option ℕ) (t : Bool) → d ≡ false → is_awaiting p ≡ false → t ≡ false → (cond d (data_step x b now) (command_taken x p b now t)).state ≡ x
    go true p t e f g = absurd (false≢true (sym e))
    go false (Some c) t e f g = absurd (false≢true (sym f))
    go false None true e f g = absurd (false≢true (sym g))
    go false None false e f g = same

-- a data byte for a row that is not shown changes nothing that is shown
pub store_outside : (a : Address) (b : ℕ) (z : Scan) (s : Settings) (ram icons : List ℕ)
    → affects (Some a.page) (latched_row z) ≡ false → shown z s (ram_after (Some (store_of a b)) ram) (icons_after (Some (store_of a b)) icons) ≡ shown z s ram icons
unfolding store_of
store_outside a b z s ram icons h = go (eqb a.page 16) refl
  where
    go : (t : Bool) → eqb a.page 16 ≡ t
        → shown z s (ram_after (Some (cond t (Store.Icon (a.column_byte % 256) (b % 2)) (Store.Ram (a.page % 16 * 256 + a.column_byte % 256) b))) ram)
        (icons_after (Some (cond t (Store.Icon (a.column_byte % 256) (b % 2)) (Store.Ram (a.page % 16 * 256 + a.column_byte % 256) b))) icons)
        ≡ shown z s ram icons
    go true e = icon_outside z s ram icons (a.column_byte % 256) (b % 2) (ap (λ (page : ℕ). affects (Some page) (latched_row z)) (sym (eqb-true a.page 16 e)) ∙ h)
    go false e =
        data_outside z s ram icons a.page (a.page % 16 * 256 + a.column_byte % 256) b (eqb-false a.page 16 e)
        (digits_div (a.page % 16) (mod-lt a.column_byte {m = 256} (omega arith))) h

-- a store leaves the lengths of memory
pub stored_memory : (s : Option Store) (ram icons : List ℕ) → memory_ok (ram_after s ram) (icons_after s icons) ≡ memory_ok ram icons
unfolding memory_ok
stored_memory None ram icons = refl
stored_memory (Some (Store.Ram at v)) ram icons = ap (λ (n : ℕ). eqb n 4096 && eqb (length icons) 256) (length-set ram at v)
stored_memory (Some (Store.Icon at v)) ram icons = ap (λ (n : ℕ). eqb (length ram) 4096 && eqb n 256) (length-set icons at v)
