use Prim.Native.Nat.{◌+◌, ◌-◌, ◌*◌}
use mathlib.Core.Path.{◌≡◌, sym, ap, ◌∙◌}
use native.Mathlib.Omega.{arith}
use lib.ListN.{length, drop}
use Rattle.std.proofs.lemmas.List.{drop-drop}
use Rattle.decimal.proofs.Rests.{digit_past, no_digit, grows, too_large, found}
use Rattle.decimal.proofs.number.Goals as goal

pub returns-in_err-checked_mul : goal.returns-in_err-checked_mul
returns-in_err-checked_mul c =
    let l = c.loop-next in
    let next = c.in-Some.next in
    let past = digit_past l.rest.now next.value next.rest.now c.in-Some.ensures in
    rw c.from_residual.ensures
    (too_large c.args.text.now (omega (arith, past.spells l.value, grows next.rest.now (l.value * 10 + next.value), l.invariant.1.1.0, c.in_err-checked_mul.ensures)))

pub returns-in_err-value : goal.returns-in_err-value
returns-in_err-value c =
    let l = c.loop-next in
    let next = c.in-Some.next in
    let past = digit_past l.rest.now next.value next.rest.now c.in-Some.ensures in
    rw c.from_residual-in_err-value.ensures
    (too_large c.args.text.now (omega (arith, past.spells l.value, grows next.rest.now (l.value * 10 + next.value), l.invariant.1.1.0, c.in_err-value.ensures, c.in_ok-checked_mul.ensures)))

pub loop-next-preserved : goal.loop-next-preserved
loop-next-preserved c =
    let l = c.loop-next in
    let text = c.args.text.now in
    let next = c.in-Some.next in
    let past = digit_past l.rest.now next.value next.rest.now c.in-Some.ensures in
    let value : c.in_ok-value.value ≡ l.value * 10 + next.value = omega (arith, c.in_ok-value.ensures, c.in_ok-checked_mul.ensures) in
    let one_more : length text - length next.rest.now ≡ (length text - length l.rest.now) + 1 = omega (arith, past.shorter, l.invariant.0) in (
      omega (arith, past.shorter, l.invariant.0),
      (
        rw one_more (sym (drop-drop 1 (length text - length l.rest.now) text) ∙ ap (drop 1) l.invariant.1.0 ∙ past.behind),
        (
          rw value (sym (past.spells l.value) ∙ l.invariant.1.1.0),
          (omega (arith, past.counts, one_more, l.invariant.1.1.1.0), omega (arith, c.in_ok-value.ensures)),
        ),
      ),
    )

pub returns : goal.returns
returns c =
    let l = c.loop-next in
    let none = no_digit l.rest.now c.in_default.ensures in
    c.decimal_of.ensures
    ∙ found c.args.text.now _ l.value l.rest.now (omega (arith, none.0, l.invariant.1.1.1.0)) (sym (none.1 l.value) ∙ l.invariant.1.1.0) l.invariant.1.1.1.1 l.invariant.1.0
