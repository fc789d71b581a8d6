use Prim.Native.Nat.{ℕ, ◌<◌}
use mathlib.Core.Path.{ap, sym, ◌∙◌}
use Rattle.std.specs.Prelude.{Option}
use Rattle.controller.specs.Bits.{Outcome}
use Rattle.ffi.specs.ControllerWords.{event_words}
use Rattle.ffi.proofs.FastPath.{fast_shifts, fast_leaves}
use borrow.Author.Rules.{rules}
use Rattle.ffi.proofs.fast_words.fast_byte.Goals as goal

pub returns : goal.returns
returns c =
    let a = c.args in
    let small : a.bits < 256 = search rules in
    let step = c.in-Some.ensures in
    let put = c.put_fast.ensures in
    let rest = sym c.rest_zero.ensures ∙ c.if-not-rest_zero.false in
    let clock = sym c.clock_zero.ensures ∙ c.if-not-clock_zero.false in
    let shifts = fast_shifts a.state.now a.bits a.count a.moment a.ram.now a.icons.now small c.if-count-ne8.false (sym step.tells) in
    let leaves = fast_leaves a.state.now a.bits a.count a.moment a.ram.now a.icons.now small c.if-count-ne8.false (sym step.tells) c.requires rest clock in
    record {
      passes = ap (λ (r : Option ℕ × Outcome). r.0) shifts;
      leaves = put.leaves ∙ leaves;
      tells = put.tells ∙ sym (ap (λ (r : Option ℕ × Outcome). event_words r.1.event) shifts);
      ram = step.ram ∙ sym (ap (λ (r : Option ℕ × Outcome). r.1.ram) shifts);
      icons = step.icons ∙ sym (ap (λ (r : Option ℕ × Outcome). r.1.icons) shifts);
    }
