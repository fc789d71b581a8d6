use mathlib.Core.List.{List, map}
use mathlib.Core.Path.{◌∙◌, ap}
use Prim.Native.Nat.{ℕ}
use borrow.Author.Rules.{rules}
use Rattle.decimal.specs.Print.{put}
use Rattle.picture.specs.Picture.{gray_of}
use Rattle.picture.proofs.Drawing.{paints, picture_put}
use Rattle.picture.proofs.put_picture.Goals as goal

pub returns-clause-puts : goal.returns-clause-puts
returns-clause-puts c =
    let a = c.args in
    c.put_grays.ensures.puts
    ∙ ap (λ (q : List ℕ × ℕ). put q (map gray_of c.render.new.pixels)) c.put_bytes.ensures.puts
    ∙ picture_put a.state.value a.state.passes a.ram.now a.icons.now _ (search rules) (search rules) (search rules) c.render.result _ (a.w.now.out.now, a.w.now.at) c.render.ensures

pub unwrap-requires : goal.unwrap-requires
unwrap-requires c =
    let a = c.args in
    paints a.state.value a.state.passes a.ram.now a.icons.now _ (search rules) (search rules) (search rules) c.render.result _ c.render.ensures
