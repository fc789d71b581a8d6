use Prim.Native.Nat.{ℕ}
use mathlib.Core.List.{List}
use mathlib.Core.Path.{refl, sym, ap, ◌∙◌}
use native.Mathlib.Omega.{arith}
use lib.ListN.{take, drop}
use borrow.Author.Rules.{rules}
use Rattle.session.specs.Session.{number, run_from}
use Rattle.session.specs.Closed.{machine_of, laid_from}
use Rattle.session.proofs.Texts.{no_lines, next_lines, line_within, line_positive}
use Rattle.session.proofs.Runs.{goes_on_lem, stops, ended_answer, stopped_answer}
use Rattle.session.proofs.session.lines.Goals as goal

pub split_at-requires : goal.split_at-requires
split_at-requires c = omega (arith, c.line_length.ensures, line_within c.loop-rest.rest.now)

pub returns-in-Err-clause-runs : goal.returns-in-Err-clause-runs
returns-in-Err-clause-runs c =
    let l = c.loop-rest in
    let rest = l.rest.now in
    let first = c.split_at.ensures.front ∙ ap (λ (n : ℕ). take n rest) c.line_length.ensures in
    let others = c.split_at.ensures.back ∙ ap (λ (n : ℕ). drop n rest) c.line_length.ensures in
    let from_line =
    ap (λ (ls : List (List ℕ)). laid_from (l.w.out.now, l.w.at) (run_from l.line ls (machine_of l.state l.ram l.icons)))
    (next_lines rest (search rules) c.split_at.result.0.now c.split_at.result.1.now first others)
    ∙ l.invariant.1.1
    in
    stopped_answer c.refused.result _ _ _ _ _ _ c.refused.ensures.stops
    ∙ sym (stops _ _ _ _ _ c.in-Err.ensures.steps (number c.in-Err.why) refl)
    ∙ from_line

pub loop-rest-smaller : goal.loop-rest-smaller
loop-rest-smaller c =
    let rest = c.loop-rest.rest.now in
    omega (arith, c.split_at.ensures.back_len, c.line_length.ensures, line_positive rest (search rules), line_within rest)

pub loop-rest-preserved : goal.loop-rest-preserved
loop-rest-preserved c =
    let l = c.loop-rest in
    let rest = l.rest.now in
    let first = c.split_at.ensures.front ∙ ap (λ (n : ℕ). take n rest) c.line_length.ensures in
    let others = c.split_at.ensures.back ∙ ap (λ (n : ℕ). drop n rest) c.line_length.ensures in
    let from_line =
    ap (λ (ls : List (List ℕ)). laid_from (l.w.out.now, l.w.at) (run_from l.line ls (machine_of l.state l.ram l.icons)))
    (next_lines rest (search rules) c.split_at.result.0.now c.split_at.result.1.now first others)
    ∙ l.invariant.1.1
    in
    let some = line_positive rest (search rules) in
    (c.next_line.ensures.same ∙ l.invariant.0, (omega (arith, c.split_at.ensures.back_len, c.line_length.ensures, some, l.invariant.1.0), sym (goes_on_lem _ _ _ _ _ c.in_default.ensures.steps refl) ∙ from_line))

pub returns-clause-runs : goal.returns-clause-runs
returns-clause-runs c =
    let l = c.loop-rest in
    let m = machine_of l.state l.ram l.icons in
    ended_answer (l.w.out.now, l.w.at) l.line m
    ∙ ap (λ (ls : List (List ℕ)). laid_from (l.w.out.now, l.w.at) (run_from l.line ls m)) (sym (no_lines l.rest.now (search rules)))
    ∙ l.invariant.1.1
