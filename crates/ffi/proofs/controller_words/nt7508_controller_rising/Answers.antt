use Prim.Native.Nat.{ℕ}
use Rattle.std.specs.Prelude.{Option}
use mathlib.Core.Path.{ap, ◌∙◌}
use Rattle.controller.specs.Bits.{Outcome, quiet}
use Rattle.controller.proofs.Groups.{one_bit}
use Rattle.ffi.specs.StateWords.{state_of, state_words}
use Rattle.ffi.specs.ControllerWords.{on_block, event_words, shifted_on}
use Rattle.ffi.proofs.Answers.{status_by, left_by_lem}
use Rattle.ffi.proofs.controller_words.nt7508_controller_rising.Goals as goal

pub returns : goal.returns
returns c =
    let a = c.args in
    let w = a.state.now in
    let bit = one_bit (state_of w) a.bit a.moment a.ram.now a.icons.now in
    let by = ap (λ (n : ℕ). shifted_on w n 1 a.moment a.ram.now a.icons.now) c.from.ensures ∙ ap (λ (r : Option ℕ × Outcome). on_block w r (quiet (state_of w) a.ram.now a.icons.now)) bit in
    let made = c.nt7508_controller_shift_in.ensures in
    record {
      answers = made.answers ∙ status_by by;
      leaves = made.leaves ∙ left_by_lem (λ (o : Outcome). state_words o.state) by _;
      tells = made.tells ∙ left_by_lem (λ (o : Outcome). event_words o.event) by _;
      ram = made.ram ∙ ap (λ (r : Option ℕ × Outcome). r.1.ram) by;
      icons = made.icons ∙ ap (λ (r : Option ℕ × Outcome). r.1.icons) by;
    }
