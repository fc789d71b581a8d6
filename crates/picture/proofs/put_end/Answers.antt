use mathlib.Core.Path.{◌≡◌, sym, ◌∙◌, ap}
use mathlib.Core.List.{List}
use Prim.Native.Nat.{ℕ}
use Rattle.std.specs.Prelude.{Result}
use borrow.Author.Rules.{rules}
use Rattle.decimal.specs.Print.{put}
use Rattle.session.specs.declared.session.Stop.{Stop}
use Rattle.session.specs.Listing.{refusal_line}
use Rattle.session.specs.Session.{refused_at}
use Rattle.picture.specs.Picture.{picture_of, shown_at}
use Rattle.picture.proofs.put_end.Goals as goal

pub returns-in-Err : goal.returns-in-Err
returns-in-Err c =
    let a = c.args in
    let first : ◌≡◌ {A = List ℕ × ℕ} (c.new-w.result.out.now, c.new-w.result.at) (a.out.now, 0) = rw (c.new-w.ensures.starts, c.new-w.ensures.at) in
    rw c.in-Err.is
    (ap (λ (out : List ℕ). (out, c.put_refusal.new.w.at)) (search rules)
    ∙ c.put_refusal.ensures.puts
    ∙ ap (λ (p : List ℕ × ℕ). put p (refusal_line c.number.result c.in-Err.stop.line)) first
    ∙ ap (λ (n : ℕ). put (a.out.now, 0) (refusal_line n c.in-Err.stop.line)) c.number.ensures)

pub returns : goal.returns
returns c =
    let a = c.args in
    let first : ◌≡◌ {A = List ℕ × ℕ} (c.new-w.result.out.now, c.new-w.result.at) (a.out.now, 0) = rw (c.new-w.ensures.starts, c.new-w.ensures.at) in
    ap (λ (out : List ℕ). (out, c.put_picture.new.w.at)) (search rules)
    ∙ c.put_picture.ensures.puts
    ∙ ap (λ (p : List ℕ × ℕ). put p (picture_of (record { state = a.state.value; ram = a.ram.now; icons = a.icons.now }))) first
    ∙ ap (λ (end : Result Unit Stop). put (a.out.now, 0) (shown_at (refused_at end) (record { state = a.state.value; ram = a.ram.now; icons = a.icons.now }))) (sym c.in_default.is)
