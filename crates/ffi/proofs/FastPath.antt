-- The fast path of a byte over words: what src/fast_words.rt puts into the block is what the group of eight bits leaves.
use Prim.Native.Nat.{ℕ, ◌+◌, ◌<◌}
use mathlib.Core.Bool.{Bool, true, false, cond, not, ◌&&◌, false≢true}
use mathlib.Core.List.{List}
use mathlib.Core.Path.{◌≡◌, refl, ap, sym, ◌∙◌}
use lib.Dec.{leb, eqb}
use lib.ListN.{get_or}
use borrow.Author.Tests.{eqb-true}
use Rattle.std.specs.Prelude.{Option, Some, None}
use Rattle.checks.proofs.Tests.{both}
use Rattle.clock.specs.declared.time.Time.{Time}
use Rattle.controller.specs.declared.state.Nt7508.{Nt7508}
use Rattle.controller.specs.declared.fast.FastStep.{FastStep}
use Rattle.controller.specs.Byte.{waiting}
use Rattle.controller.specs.Bits.{Outcome, taking, shift_in}
use Rattle.controller.specs.Closed.{completes}
use Rattle.controller.specs.Fast.{registers_stay, is_fast_byte, fast_step, stored}
use Rattle.controller.specs.declared.state.Serial.{Serial}
use Rattle.controller.specs.declared.state.Address.{Address}
use Rattle.controller.specs.declared.state.Power.{Power}
use Rattle.scan.specs.declared.settings.Settings as display
use Rattle.scan.specs.declared.state.Scan.{Scan}
use Rattle.voltage.specs.declared.Settings as analog
use Rattle.controller.proofs.FastPath.{stays, left_by, fast_is, fast_shift, scan_lasts, saved_lasts}
use Rattle.ffi.specs.ClockWords.{time}
use Rattle.ffi.specs.StateWords.{holds_state, ready_in, scan_in, display_in, analog_in, power_in, address_in, serial_in, state_of, state_words}
use Rattle.ffi.specs.FastWords.{rest_zero, clock_zero, fast_put}
use Rattle.ffi.proofs.Unchanged.{whole}
use Rattle.ffi.proofs.Moved.{fast_moved}

-- the state put together from its groups
pub made : (w : List ℕ) {z : Scan} {d : display.Settings} {a : analog.Settings} {p : Power} {at : Address} {l : Serial} → z ≡ scan_in w → d ≡ display_in w → a ≡ analog_in w → p ≡ power_in w → at ≡ address_in w → l ≡ serial_in w → record { scan = z; display = d; analog = a; power = p; address = at; serial = l } ≡ state_of w
unfolding state_of
made w e f g h i j = λ t. record { scan = e t; display = f t; analog = g t; power = h t; address = i t; serial = j t }

-- a byte that does not take the fast path stores nothing
pub other_stores : (x : Nt7508) (b : ℕ) (now : Time) (ram icons : List ℕ) {s : Option FastStep} → s ≡ fast_step x b now ram icons → s ≡ None → stored s ≡ None
other_stores x b now ram icons e u = ap stored u

-- no wait lasts
ready_now : (w : List ℕ) → not (waiting (ready_in w)) ≡ true → get_or w 62 0 ≡ 0
unfolding ready_in
ready_now w h = eqb-true (get_or w 62 0) 0 (go (eqb (get_or w 62 0) 0) h)
  where
    go : (t : Bool) → not (waiting (cond t None (Some (time (get_or w 63 0) (get_or w 64 0))))) ≡ true → t ≡ true
    go true h = refl
    go false h = absurd (false≢true h)

taking_now : (x : Nt7508) → taking x ≡ true → not (waiting x.power.ready) ≡ true
unfolding taking
taking_now x h = (both (x.serial.selected && x.power.supplied) (not (waiting x.power.ready)) h).1

fast_ready : (x : Nt7508) (b : ℕ) (now : Time) (ram icons : List ℕ) → is_fast_byte x b now ram icons ≡ true → not (waiting x.power.ready) ≡ true
unfolding is_fast_byte completes
fast_ready x b now ram icons h = taking_now x (both (taking x) (leb 8 (x.serial.bits + 8)) (stays x b now ram icons (both (registers_stay x b now ram icons) _ h).0).whole).0

-- the block then has the words of the state that the group leaves
module _ (w : List ℕ) (b count : ℕ) (now : Time) (ram icons : List ℕ) (small : b < 256) (eight : count ≡ 8) {s : FastStep} (is : fast_step (state_of w) b now ram icons ≡ Some s) where
  pub fast_shifts : shift_in (state_of w) b count now ram icons ≡ (None, left_by (state_of w) s ram icons)
  fast_shifts = ap (λ (n : ℕ). shift_in (state_of w) b n now ram icons) eight ∙ fast_shift (state_of w) b now ram icons small is

  pub fast_leaves : holds_state w ≡ true → rest_zero w ≡ true → clock_zero w ≡ true → fast_put s w ≡ state_words (shift_in (state_of w) b count now ram icons).1.state
  unfolding state_of power_in
  fast_leaves holds rest clock =
      ap (fast_put s) (whole w holds (ready_now w (fast_ready (state_of w) b now ram icons (fast_is (state_of w) b now ram icons is))) rest clock)
      ∙ fast_moved (state_of w) s (scan_lasts (state_of w) b now ram icons is) (saved_lasts (state_of w) b now ram icons is)
      ∙ sym (ap (λ (r : Option ℕ × Outcome). state_words r.1.state) fast_shifts)
