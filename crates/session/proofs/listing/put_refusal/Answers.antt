use Prim.Native.Nat.{ℕ}
use mathlib.Core.List.{List, [], ◌∷◌}
use mathlib.Core.Path.{ap, ◌∙◌}
use Rattle.std.specs.Prelude.{Some}
use Rattle.decimal.specs.Print.{put}
use Rattle.session.specs.Listing.{field_text, refusal_line}
use Rattle.session.proofs.Listings.{put_four}
use Rattle.session.proofs.listing.put_refusal.Goals as goal

pub returns-clause-puts : goal.returns-clause-puts
unfolding refusal_line
returns-clause-puts c =
    let a = c.args in
    c.put_field-2.ensures.puts
    ∙ ap (λ (p : List ℕ × ℕ). put p (field_text (Some a.line) 10))
    (c.put_bytes-2.ensures.puts
    ∙ ap (λ (p : List ℕ × ℕ). put p (108 ∷ 105 ∷ 110 ∷ 101 ∷ 32 ∷ []))
    (c.put_field.ensures.puts ∙ ap (λ (p : List ℕ × ℕ). put p (field_text (Some a.number) 32)) c.put_bytes.ensures.puts))
    ∙ put_four _ _ _ _ _
