use Prim.Native.Nat.{ℕ}
use mathlib.Core.List.{List}
use mathlib.Core.Path.{sym, ap, ◌∙◌}
use lib.Dec.{eqb}
use Rattle.std.specs.Prelude.{option_map}
use Rattle.session.specs.declared.line.Action.{Action}
use Rattle.session.specs.Line.{byte_word, dc_word, select_word, supply_word, temp_word, temperature_at, action_of}
use Rattle.session.proofs.Read.{value_behind, word_there, temperature_there}
use Rattle.session.proofs.line.action_of.Goals as goal

pub returns-in_err-value : goal.returns-in_err-value
unfolding action_of
returns-in_err-value c =
    let s = c.args.text.now in
    rw (c.from_residual.ensures, word_there s byte_word c.in-Some.ensures.cases.0)
    (ap (option_map Action.Byte) (c.in_err-value.ensures.value ∙ value_behind s 5 255 c.in-Some.rest.now c.in-Some.ensures.cases.1))

pub returns-in-Some : goal.returns-in-Some
unfolding action_of
returns-in-Some c =
    let s = c.args.text.now in
    rw (word_there s byte_word c.in-Some.ensures.cases.0)
    (ap (option_map Action.Byte) (c.in_ok-value.ensures.value ∙ value_behind s 5 255 c.in-Some.rest.now c.in-Some.ensures.cases.1))

pub returns-in_err-value-2 : goal.returns-in_err-value-2
unfolding action_of
returns-in_err-value-2 c =
    let s = c.args.text.now in
    rw (c.from_residual-in_err-value-2.ensures, word_there s byte_word c.in_default.ensures.cases, word_there s dc_word c.in-Some-strip_prefix.ensures.cases.0)
    (ap (option_map (λ value. Action.Data (eqb value 1))) (c.in_err-value-2.ensures.value ∙ value_behind s 3 1 c.in-Some-strip_prefix.rest.now c.in-Some-strip_prefix.ensures.cases.1))

pub returns-in-Some-strip_prefix : goal.returns-in-Some-strip_prefix
unfolding action_of
returns-in-Some-strip_prefix c =
    let s = c.args.text.now in
    rw (word_there s byte_word c.in_default.ensures.cases, word_there s dc_word c.in-Some-strip_prefix.ensures.cases.0)
    (ap (option_map (λ value. Action.Data (eqb value 1))) (c.in_ok-value-2.ensures.value ∙ value_behind s 3 1 c.in-Some-strip_prefix.rest.now c.in-Some-strip_prefix.ensures.cases.1))

pub returns-in_err-value-3 : goal.returns-in_err-value-3
unfolding action_of
returns-in_err-value-3 c =
    let s = c.args.text.now in
    rw (c.from_residual-in_err-value-3.ensures, word_there s byte_word c.in_default.ensures.cases, word_there s dc_word c.in_default-strip_prefix.ensures.cases, word_there s select_word c.in-Some-strip_prefix-2.ensures.cases.0)
    (ap (option_map (λ value. Action.Select (eqb value 1))) (c.in_err-value-3.ensures.value ∙ value_behind s 7 1 c.in-Some-strip_prefix-2.rest.now c.in-Some-strip_prefix-2.ensures.cases.1))

pub returns-in-Some-strip_prefix-2 : goal.returns-in-Some-strip_prefix-2
unfolding action_of
returns-in-Some-strip_prefix-2 c =
    let s = c.args.text.now in
    rw (word_there s byte_word c.in_default.ensures.cases, word_there s dc_word c.in_default-strip_prefix.ensures.cases, word_there s select_word c.in-Some-strip_prefix-2.ensures.cases.0)
    (ap (option_map (λ value. Action.Select (eqb value 1))) (c.in_ok-value-3.ensures.value ∙ value_behind s 7 1 c.in-Some-strip_prefix-2.rest.now c.in-Some-strip_prefix-2.ensures.cases.1))

pub returns-in_err-value-4 : goal.returns-in_err-value-4
unfolding action_of
returns-in_err-value-4 c =
    let s = c.args.text.now in
    rw (c.from_residual-in_err-value-4.ensures, word_there s byte_word c.in_default.ensures.cases, word_there s dc_word c.in_default-strip_prefix.ensures.cases, word_there s select_word c.in_default-strip_prefix-2.ensures.cases, word_there s supply_word c.in-Some-strip_prefix-3.ensures.cases.0)
    (ap (option_map Action.Supply) (c.in_err-value-4.ensures.value ∙ value_behind s 7 65535 c.in-Some-strip_prefix-3.rest.now c.in-Some-strip_prefix-3.ensures.cases.1))

pub returns-in-Some-strip_prefix-3 : goal.returns-in-Some-strip_prefix-3
unfolding action_of
returns-in-Some-strip_prefix-3 c =
    let s = c.args.text.now in
    rw (word_there s byte_word c.in_default.ensures.cases, word_there s dc_word c.in_default-strip_prefix.ensures.cases, word_there s select_word c.in_default-strip_prefix-2.ensures.cases, word_there s supply_word c.in-Some-strip_prefix-3.ensures.cases.0)
    (ap (option_map Action.Supply) (c.in_ok-value-4.ensures.value ∙ value_behind s 7 65535 c.in-Some-strip_prefix-3.rest.now c.in-Some-strip_prefix-3.ensures.cases.1))

pub returns-in-Some-strip_prefix-4 : goal.returns-in-Some-strip_prefix-4
unfolding action_of
returns-in-Some-strip_prefix-4 c =
    let s = c.args.text.now in
    let rest = c.in-Some-strip_prefix-4.rest.now in
    rw (word_there s byte_word c.in_default.ensures.cases, word_there s dc_word c.in_default-strip_prefix.ensures.cases, word_there s select_word c.in_default-strip_prefix-2.ensures.cases, word_there s supply_word c.in_default-strip_prefix-3.ensures.cases, word_there s temp_word c.in-Some-strip_prefix-4.ensures.cases.0)
    (c.temperature_of.ensures ∙ ap (λ (l : List ℕ). temperature_at l 0 1) c.in-Some-strip_prefix-4.ensures.cases.1 ∙ sym (temperature_there s 5))

pub returns : goal.returns
unfolding action_of
returns c =
    let s = c.args.text.now in
    rw (word_there s byte_word c.in_default.ensures.cases, word_there s dc_word c.in_default-strip_prefix.ensures.cases, word_there s select_word c.in_default-strip_prefix-2.ensures.cases, word_there s supply_word c.in_default-strip_prefix-3.ensures.cases, word_there s temp_word c.in_default-strip_prefix-4.ensures.cases) c.look_of.ensures
