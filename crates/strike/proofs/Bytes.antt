-- A byte in both runs. The runs have the same registers and scans that agree; a byte that stays does the same to both, and a
-- struck one, which leaves every register as it was, leaves the full run's scan agreeing with the other.
use Prim.Native.Nat.{ℕ}
use mathlib.Core.Bool.{Bool, true, false, cond, not, ◌&&◌, false≢true}
use mathlib.Core.List.{List, []}
use mathlib.Core.Path.{◌≡◌, refl, sym, ◌∙◌, ap, ap₂, subst⁻¹}
use lib.ListN.{length}
use Rattle.checks.proofs.Tests.{both}
use Rattle.clock.specs.declared.time.Time.{Time}
use Rattle.clock.specs.Time.{in_range}
use Rattle.scan.specs.declared.state.Scan.{Scan}
use Rattle.std.specs.Prelude.{Option, None, Some}
use Rattle.scan.specs.Count.{count_to}
use Rattle.scan.specs.Latch.{retained}
use Rattle.scan.specs.Run.{running_after, updated}
use Rattle.scan.specs.Drive.{runs}
use Rattle.scan.proofs.Checks as scans
use Rattle.scan.specs.Byte.{has_clock}
use Rattle.scan.proofs.Runs.{Quiet, updated_same, updated_quiet, count_to_quiet, retained_quiet}
use Rattle.scan.proofs.Agree.{Agree, as_shown, agree_retained, command_same, data_agree}
use Rattle.controller.specs.declared.state.Nt7508.{Nt7508}
use Rattle.controller.specs.declared.event.Stepped.{Stepped}
use Rattle.controller.specs.State.{with_scan, with_address, with_serial}
use Rattle.controller.specs.Check.{awaits}
use Rattle.controller.specs.Event.{ram_after, icons_after}
use Rattle.controller.specs.Command.{acted}
use Rattle.controller.specs.Byte.{conditions_of, page_sent, data_step, step_of, byte_taken}
use Rattle.controller.specs.Bits.{with_bits}
use Rattle.controller.proofs.Bytes.{step_leaves}
use Rattle.controller.proofs.Parts.{is_awaiting, scan_after, beside_scan, step_scan, byte_parts, step_awaiting, step_data, step_stores, step_idle, store_outside}
use Rattle.strike.specs.Line.{Line, value, takes, past}

-- a state by its registers, the bits under way and its scan
unfoldable pub state_of : Nt7508 → List Bool → Scan → Nt7508
state_of c bits x = with_scan (with_serial c (with_bits c.serial (value bits) (length bits))) x

-- the registers are as the line says
pub record Tied (l : Line) (c : Nt7508) : Type 0 where
  pub selected : c.serial.selected ≡ l.selected
  pub is_data : c.serial.«data» ≡ l.is_data
  pub awaiting : is_awaiting c.serial.pending ≡ l.awaiting
  pub supplied : c.power.supplied ≡ l.supplied
  pub cold : c.power.cold ≡ l.cold
  pub wait : c.power.ready ≡ l.wait

-- whether the scan runs, by the registers
abbrev pub running : Nt7508 → Bool
running c = runs (conditions_of c.power)

-- the scans agree at a moment, and nothing is left for a byte to start, drop or clear; unsupplied, neither has a clock
pub record Alike (at : Time) (l : Line) (c : Nt7508) (x y : Scan) (ram icons : List ℕ) : Type 0 where
  pub tied : Tied l c
  pub agree : Agree x y c.display at ram icons
  pub quiet : l.supplied ≡ true → Quiet x c.display (running c) × Quiet y c.display (running c)
  pub still : l.supplied ≡ false → (has_clock x.ticking.clock ≡ false) × (has_clock y.ticking.clock ≡ false)

-- ---- one byte, on the registers
module _ (c : Nt7508) (v : ℕ) (now : Time) (ram icons : List ℕ) where
  abbrev pub base : Nt7508
  base = with_serial c (with_bits c.serial 0 0)

  abbrev pub step : Stepped
  step = step_of base v now

  -- the scan as the byte finds it, and as it leaves it
  abbrev pub before : Scan → Scan
  before x = retained (count_to x c.display now) c.display (page_sent base) ram icons

  abbrev pub onward : Stepped → Scan → Scan
  onward s z = updated z s.state.display now (running_after (running c) (running s.state)) (ram_after s.store ram) (icons_after s.store icons)

  -- no bits are under way after it
  based : with_serial step.state (with_bits step.state.serial 0 0) ≡ step.state
  unfolding with_serial
  based = let k = step_leaves base v now in λ i. with_serial step.state (with_bits step.state.serial (sym k.shift i) (sym k.bits i))

  pub byte_on : (x : Scan) → byte_taken (state_of c [] x) v now ram icons ≡ record { state = state_of step.state [] (onward step (before x)); event = step.event; store = step.store }
  unfolding state_of value with_scan with_serial scan_after
  byte_on x =
      byte_parts (with_scan base x) v now ram icons
      ∙ ap (λ (s : Stepped). beside_scan s (onward s (before x))) (step_scan base x v now)
      ∙ ap (λ (st : Nt7508). record { state = with_scan st (onward step (before x)); event = step.event; store = step.store }) (sym based)

  -- ---- beside the line
  module _ (l : Line) (x y : Scan) (takes_it : takes l ≡ true) (i : in_range now ≡ true) (vs : scans.ValidSettings c.display) (vx : scans.Valid x) (vy : scans.Valid y) (a : Alike now l c x y ram icons) where
    is_supplied : l.supplied ≡ true
    unfolding takes
    is_supplied = (both l.selected l.supplied (both (l.selected && l.supplied) _ takes_it).0).1

    -- the registers stay tied to the line past the byte
    tied_past : Tied (past l v) step.state
    unfolding past with_serial
    tied_past = let k = step_leaves base v now in let t = a.tied in record {
      selected = k.selected ∙ t.selected;
      is_data = k.«data» ∙ t.is_data;
      awaiting = step_awaiting base v now ∙ ap₂ (λ (d w : Bool). cond d w (not w && awaits v)) t.is_data t.awaiting;
      supplied = k.supplied ∙ t.supplied;
      cold = k.cold ∙ t.cold;
      wait = k.ready ∙ t.wait;
    }

    -- the scan that the byte finds is quiet
    before_quiet : (z : Scan) → Quiet z c.display (running c) → Quiet (before z) c.display (running c)
    before_quiet z q = retained_quiet c.display (running c) (count_to z c.display now) (page_sent base) ram icons (count_to_quiet c.display (running c) z now q)

    -- a command finds the same scan in both
    before_same : c.serial.«data» ≡ false → before x ≡ before y
    unfolding with_serial
    before_same d =
        let page = ap (λ (t : Bool). cond t (Some c.address.page) None) d in
        ap (λ (p : Option ℕ). retained (count_to x c.display now) c.display p ram icons) page
        ∙ command_same c.display ram icons vs now i x y vx vy a.agree
        ∙ sym (ap (λ (p : Option ℕ). retained (count_to y c.display now) c.display p ram icons) page)

    -- data is for the row shown of both, which then keep their latches, or of neither
    abbrev sent : Stepped
    sent = data_step base v now

    sent_same : (z : Scan) → Quiet z c.display (running c) → onward sent z ≡ z
    unfolding data_step with_address with_serial
    sent_same z q = updated_same z c.display now (running c) (ram_after sent.store ram) (icons_after sent.store icons) q

    agree_sent : c.serial.«data» ≡ true → Agree (onward sent (before x)) (onward sent (before y)) sent.state.display now (ram_after sent.store ram) (icons_after sent.store icons)
    unfolding data_step with_address with_serial
    agree_sent d =
        let q = a.quiet is_supplied in
        let page = ap (λ (t : Bool). cond t (Some c.address.page) None) d in
        let m = ram_after sent.store ram in
        let n = icons_after sent.store icons in
        ap (λ (z : Scan). as_shown (count_to z c.display now) c.display m n)
        (sent_same (before x) (before_quiet x q.0) ∙ ap (λ (p : Option ℕ). retained (count_to x c.display now) c.display p ram icons) page)
        ∙ data_agree c.display ram icons vs now i x y vx vy a.agree (Some c.address.page) m n (λ z h. store_outside c.address v z c.display ram icons h)
        ∙ sym (ap (λ (z : Scan). as_shown (count_to z c.display now) c.display m n)
        (sent_same (before y) (before_quiet y q.1) ∙ ap (λ (p : Option ℕ). retained (count_to y c.display now) c.display p ram icons) page))

    agree_past : Agree (onward step (before x)) (onward step (before y)) step.state.display now (ram_after step.store ram) (icons_after step.store icons)
    unfolding with_serial
    agree_past = go c.serial.«data» refl
      where
        go : (d : Bool) → c.serial.«data» ≡ d → Agree (onward step (before x)) (onward step (before y)) step.state.display now (ram_after step.store ram) (icons_after step.store icons)
        go false d =
            ap (λ (z : Scan). as_shown (count_to (onward step z) step.state.display now) step.state.display (ram_after step.store ram) (icons_after step.store icons)) (before_same d)
        go true d =
            subst⁻¹ (λ (s : Stepped). Agree (onward s (before x)) (onward s (before y)) s.state.display now (ram_after s.store ram) (icons_after s.store icons))
            (step_data base v now d) (agree_sent d)

    pub byte_alike : Alike now (past l v) step.state (onward step (before x)) (onward step (before y)) (ram_after step.store ram) (icons_after step.store icons)
    unfolding past
    byte_alike = record {
      tied = tied_past;
      agree = agree_past;
      quiet = λ s. (
        updated_quiet (before x) step.state.display now (ram_after step.store ram) (icons_after step.store icons) (running c) (running step.state),
        updated_quiet (before y) step.state.display now (ram_after step.store ram) (icons_after step.store icons) (running c) (running step.state),
      );
      still = λ s. absurd (false≢true (sym s ∙ is_supplied));
    }

    -- a command that awaits no parameter, is none and leaves every register as it was
    module _ (command : l.is_data ≡ false) (free : l.awaiting ≡ false) (none_awaited : awaits v ≡ false) (idle : acted base v ≡ base) where
      same_registers : step.state ≡ base
      unfolding with_serial
      same_registers = step_idle base v now (a.tied.is_data ∙ command) (a.tied.awaiting ∙ free) none_awaited idle

      same_scan : onward step (before x) ≡ before x
      unfolding with_serial
      same_scan =
          ap (λ (st : Nt7508). updated (before x) st.display now (running_after (running c) (running st)) (ram_after step.store ram) (icons_after step.store icons)) same_registers
          ∙ updated_same (before x) c.display now (running c) (ram_after step.store ram) (icons_after step.store icons) (before_quiet x (a.quiet is_supplied).0)

      -- it leaves the registers, and a scan that agrees with the other run's
      pub idle_on : byte_taken (state_of c [] x) v now ram icons ≡ record { state = state_of c [] (before x); event = step.event; store = None }
      unfolding state_of with_scan with_serial value
      idle_on =
          byte_on x
          ∙ (λ i. record {
            state = state_of (same_registers i) [] (same_scan i);
            event = step.event;
            store = step_stores base v now (a.tied.is_data ∙ command) i;
          })

      pub idle_alike : Alike now (past l v) c (before x) y ram icons
      unfolding past
      idle_alike = record {
        tied = record {
          selected = a.tied.selected;
          is_data = a.tied.is_data;
          awaiting = a.tied.awaiting ∙ free ∙ sym (simp (command, free, none_awaited));
          supplied = a.tied.supplied;
          cold = a.tied.cold;
          wait = a.tied.wait;
        };
        agree = agree_retained c.display ram icons vs now i x y vx vy a.agree (page_sent base);
        quiet = λ s. (before_quiet x (a.quiet is_supplied).0, (a.quiet is_supplied).1);
        still = λ s. absurd (false≢true (sym s ∙ is_supplied));
      }
