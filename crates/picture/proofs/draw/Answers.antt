use mathlib.Core.Path.{sym, ◌∙◌, ap, ap₂}
use Prim.Native.Nat.{ℕ, ◌≤◌}
use native.Mathlib.Omega.{arith}
use lib.ListN.{length, replicate, length-replicate}
use Rattle.std.specs.Prelude.{Option}
use Rattle.controller.specs.Supply.{zeros}
use Rattle.strike.specs.Calls.{Machine}
use Rattle.decimal.specs.Print.{put}
use Rattle.picture.specs.Picture.{shown_at, drawn}
use Rattle.picture.proofs.Ends.{end_refusal, end_machine, end_state}
use Rattle.picture.proofs.Drawing.{put_drawn}
use Rattle.picture.proofs.draw.Goals as goal

-- n zeros are at least n; a numeral in place of n would be counted down
enough : (n : ℕ) → n ≤ length {A = ℕ} (replicate n 0)
enough n = omega (arith, length-replicate {0} {A = ℕ} n 0)

-- with its level written out: the two lengths are then compared as they stand, and not counted
pub slice_bounds-run-end-3 : goal.slice_bounds-run-end-3
slice_bounds-run-end-3 c = sym (length-replicate {0} {A = ℕ} 589824 0)

pub invariant_of-put_end : goal.invariant_of-put_end
invariant_of-put_end c = record { passes = end_state c.run-ended.result _ _ _ _ c.run-ended.ensures (enough 589824) }

pub returns : goal.returns
unfolding zeros drawn
returns c =
    let a = c.args in
    let e = c.run-ended.ensures in
    c.put_end.ensures
    ∙ ap (put (a.out.now, 0))
    (ap₂ (λ (refusal : Option (ℕ × ℕ)) (m : Machine). shown_at refusal m)
    (end_refusal c.run-ended.result _ _ _ _ e (enough 589824))
    (end_machine c.run-ended.result _ _ _ _ e (enough 589824)))
    ∙ put_drawn a.text.now a.out.now c.told-out
