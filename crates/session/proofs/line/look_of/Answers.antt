use mathlib.Core.Path.{ap, ◌∙◌}
use Rattle.std.specs.Prelude.{option_map}
use Rattle.session.specs.declared.line.Action.{Action}
use Rattle.session.specs.Line.{deadline_word, update_word, drive_word, look_of}
use Rattle.session.proofs.Read.{value_behind, word_there}
use Rattle.session.proofs.line.look_of.Goals as goal

pub returns-in_err-value : goal.returns-in_err-value
unfolding look_of
returns-in_err-value c =
    let s = c.args.text.now in
    rw (c.from_residual.ensures, word_there s deadline_word c.in-Some.ensures.cases.0)
    (ap (option_map (λ value. Action.Deadline)) (c.in_err-value.ensures.value ∙ value_behind s 9 0 c.in-Some.rest.now c.in-Some.ensures.cases.1))

pub returns-in-Some : goal.returns-in-Some
unfolding look_of
returns-in-Some c =
    let s = c.args.text.now in
    rw (word_there s deadline_word c.in-Some.ensures.cases.0)
    (ap (option_map (λ value. Action.Deadline)) (c.in_ok-value.ensures.value ∙ value_behind s 9 0 c.in-Some.rest.now c.in-Some.ensures.cases.1))

pub returns-in_err-value-2 : goal.returns-in_err-value-2
unfolding look_of
returns-in_err-value-2 c =
    let s = c.args.text.now in
    rw (c.from_residual-in_err-value-2.ensures, word_there s deadline_word c.in_default.ensures.cases, word_there s update_word c.in-Some-strip_prefix.ensures.cases.0)
    (ap (option_map (λ value. Action.Update)) (c.in_err-value-2.ensures.value ∙ value_behind s 7 0 c.in-Some-strip_prefix.rest.now c.in-Some-strip_prefix.ensures.cases.1))

pub returns-in-Some-strip_prefix : goal.returns-in-Some-strip_prefix
unfolding look_of
returns-in-Some-strip_prefix c =
    let s = c.args.text.now in
    rw (word_there s deadline_word c.in_default.ensures.cases, word_there s update_word c.in-Some-strip_prefix.ensures.cases.0)
    (ap (option_map (λ value. Action.Update)) (c.in_ok-value-2.ensures.value ∙ value_behind s 7 0 c.in-Some-strip_prefix.rest.now c.in-Some-strip_prefix.ensures.cases.1))

pub returns-in_err-value-3 : goal.returns-in_err-value-3
unfolding look_of
returns-in_err-value-3 c =
    let s = c.args.text.now in
    rw (c.from_residual-in_err-value-3.ensures, word_there s deadline_word c.in_default.ensures.cases, word_there s update_word c.in_default-strip_prefix.ensures.cases, word_there s drive_word c.in-Some-strip_prefix-2.ensures.cases.0)
    (ap (option_map (λ value. Action.Drive)) (c.in_err-value-3.ensures.value ∙ value_behind s 6 0 c.in-Some-strip_prefix-2.rest.now c.in-Some-strip_prefix-2.ensures.cases.1))

pub returns-in-Some-strip_prefix-2 : goal.returns-in-Some-strip_prefix-2
unfolding look_of
returns-in-Some-strip_prefix-2 c =
    let s = c.args.text.now in
    rw (word_there s deadline_word c.in_default.ensures.cases, word_there s update_word c.in_default-strip_prefix.ensures.cases, word_there s drive_word c.in-Some-strip_prefix-2.ensures.cases.0)
    (ap (option_map (λ value. Action.Drive)) (c.in_ok-value-3.ensures.value ∙ value_behind s 6 0 c.in-Some-strip_prefix-2.rest.now c.in-Some-strip_prefix-2.ensures.cases.1))

pub returns : goal.returns
unfolding look_of
returns c =
    let s = c.args.text.now in
    rw (word_there s deadline_word c.in_default.ensures.cases, word_there s update_word c.in_default-strip_prefix.ensures.cases, word_there s drive_word c.in_default-strip_prefix-2.ensures.cases)
