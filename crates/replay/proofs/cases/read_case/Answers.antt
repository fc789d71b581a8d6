use Rattle.std.proofs.Common.{◌≡◌, ap, ◌∙◌, arith, rules}
use Rattle.decimal.proofs.Rests.{field_shorter}
use Rattle.replay.proofs.Reading.{no_field, no_count, too_long, numbers, kind_there, kind_lacks}
use Rattle.replay.specs.Cases.{number_of, count_of}
use Rattle.replay.proofs.cases.read_case.Goals as goal

pub returns-in_err-number-clause-case : goal.returns-in_err-number-clause-case
returns-in_err-number-clause-case c =
    let a = c.args in
    rw c.from_residual.ensures (no_field a.text.now a.w.now c.in_err-number.ensures)

pub returns-in_err-kind-clause-case : goal.returns-in_err-kind-clause-case
returns-in_err-kind-clause-case c =
    let a = c.args in
    let k = c.in_ok-number.field-0 in
    rw c.from_residual-in_err-kind.ensures
    (no_count a.text.now a.w.now k.value k.rest.now c.in_ok-number.ensures (kind_lacks k.value _ c.try_from.ensures c.in_err-kind.ensures.value))

pub returns-then-w-count-clause-case : goal.returns-then-w-count-clause-case
returns-then-w-count-clause-case c =
    let a = c.args in
    let k = c.in_ok-number.field-0 in
    let kind : number_of c.in_ok-kind.kind ≡ k.value = kind_there k.value _ c.try_from.ensures _ c.in_ok-kind.ensures.value in
    too_long a.text.now a.w.now k.value k.rest.now c.in_ok-number.ensures c.count-count.result (c.count-count.ensures ∙ ap count_of kind) c.if-w-count.true

pub returns-in_err-rest-clause-case : goal.returns-in_err-rest-clause-case
returns-in_err-rest-clause-case c =
    let a = c.args in
    let k = c.in_ok-number.field-0 in
    let kind : number_of c.in_ok-kind.kind ≡ k.value = kind_there k.value _ c.try_from.ensures _ c.in_ok-kind.ensures.value in
    rw c.from_residual-in_err-rest.ensures
    (numbers a.text.now a.w.now k.value k.rest.now c.in_ok-number.ensures c.count-count.result (c.count-count.ensures ∙ ap count_of kind) (search rules) _ _ c.in_err-rest.ensures.line)

pub returns-clause-case : goal.returns-clause-case
returns-clause-case c =
    let a = c.args in
    let k = c.in_ok-number.field-0 in
    let kind : number_of c.in_ok-kind.kind ≡ k.value = kind_there k.value _ c.try_from.ensures _ c.in_ok-kind.ensures.value in
    rw kind
    (numbers a.text.now a.w.now k.value k.rest.now c.in_ok-number.ensures c.count-count.result (c.count-count.ensures ∙ ap count_of kind) (search rules) _ _ c.in_ok-rest.ensures.line)

pub returns-clause-shorter : goal.returns-clause-shorter
returns-clause-shorter c =
    let k = c.in_ok-number.field-0 in
    omega (arith, field_shorter c.args.text.now 32 k.value k.rest.now c.in_ok-number.ensures, c.in_ok-rest.ensures.within)
