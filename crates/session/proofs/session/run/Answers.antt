use Prim.Native.Nat.{ℕ}
use mathlib.Core.List.{List, []}
use Rattle.std.specs.Prelude.{Some}
use mathlib.Core.Path.{◌≡◌, ap, ap₂, ◌∙◌}
use borrow.Author.Rules.{rules}
use Rattle.controller.specs.declared.state.Nt7508.{Nt7508}
use Rattle.decimal.specs.Print.{put}
use Rattle.strike.specs.Calls.{start}
use Rattle.session.specs.Listing.{listing_names}
use Rattle.session.specs.Text.{lines_of}
use Rattle.session.specs.Session.{answered, run_from}
use Rattle.session.specs.Closed.{machine_of, laid_from}
use Rattle.session.proofs.Read.{not_opened, is_opened}
use Rattle.session.proofs.Runs.{stopped_answer, run_short, run_closed, run_open}
use Rattle.session.proofs.session.run.Goals as goal

pub returns-then-out-lt-ROOM : goal.returns-then-out-lt-ROOM
returns-then-out-lt-ROOM c =
    let a = c.args in
    rw c.new.ensures (run_short a.text.now a.ram.now a.icons.now a.out.now c.if-out-lt-ROOM.true)

pub returns-in_default : goal.returns-in_default
returns-in_default c =
    let a = c.args in
    let w = c.put_names.new.w in
    let named : ◌≡◌ {A = List ℕ × ℕ} (w.out.now, w.at) (put (a.out.now, 0) listing_names) = rw (c.put_names.ensures.puts, c.new-w.ensures.starts, c.new-w.ensures.at) in
    ap (λ (out : List ℕ). answered c.refused.result a.ram.now a.icons.now out) (search rules)
    ∙ stopped_answer c.refused.result _ _ _ a.ram.now a.icons.now c.refused.new.w.out.now c.refused.ensures.stops
    ∙ ap₂ (λ (p : List ℕ × ℕ) (x : Nt7508). laid_from p (record { machine = machine_of x a.ram.now a.icons.now; rows = []; refusal = Some (9, 1) })) named c.new-in_default.ensures
    ∙ run_closed a.text.now a.ram.now a.icons.now a.out.now c.if-out-lt-ROOM.false (not_opened a.text.now c.in_default.ensures.lines)

pub returns : goal.returns
returns c =
    let a = c.args in
    let w = c.put_names.new.w in
    let named : ◌≡◌ {A = List ℕ × ℕ} (w.out.now, w.at) (put (a.out.now, 0) listing_names) = rw (c.put_names.ensures.puts, c.new-w.ensures.starts, c.new-w.ensures.at) in
    let opens_as = is_opened a.text.now c.in-Some.rest.now c.in-Some.ensures.lines in
    ap (λ (out : List ℕ). answered c.lines.result c.lines.new.ram c.lines.new.icons out) (search rules)
    ∙ c.lines.ensures.runs
    ∙ ap₂ (λ (p : List ℕ × ℕ) (text : List ℕ). laid_from p (run_from 2 (lines_of text) (start a.ram.now a.icons.now))) named opens_as.1
    ∙ run_open a.text.now a.ram.now a.icons.now a.out.now c.if-out-lt-ROOM.false opens_as.0
