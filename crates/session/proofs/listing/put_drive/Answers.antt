use mathlib.Core.List.{List}
use Prim.Native.Nat.{ℕ}
use mathlib.Core.Path.{◌≡◌, ap, ap₂, ◌∙◌}
use Rattle.std.specs.Prelude.{Option, Some}
use borrow.Author.Rules.{rules}
use Rattle.decimal.specs.Print.{put}
use Rattle.session.specs.Listing.{field_text, drive_line}
use Rattle.session.proofs.Listings.{put_six}
use Rattle.session.proofs.listing.put_drive.Goals as goal

pub returns-clause-puts : goal.returns-clause-puts
unfolding drive_line
returns-clause-puts c =
    let common : c.map.result ≡ c.args.row.common = search rules in
    let v0 : c.map-2.result ≡ c.args.row.v0 = search rules in
    c.put_field-6.ensures.puts
    ∙ ap₂ (λ (p : List ℕ × ℕ) (f : Option ℕ). put p (field_text f 10))
    (c.put_field-5.ensures.puts
    ∙ ap (λ (p : List ℕ × ℕ). put p (field_text (Some c.args.row.lit) 32))
    (c.put_field-4.ensures.puts
    ∙ ap₂ (λ (p : List ℕ × ℕ) (f : Option ℕ). put p (field_text f 32))
    (c.put_field-3.ensures.puts
    ∙ ap₂ (λ (p : List ℕ × ℕ) (f : Option ℕ). put p (field_text f 32))
    (c.put_field-2.ensures.puts
    ∙ ap₂ (λ (p : List ℕ × ℕ) (f : Option ℕ). put p (field_text f 32)) c.put_field.ensures.puts common)
    c.inverted_field.ensures)
    v0))
    c.frame_field.ensures
    ∙ put_six _ _ _ _ _ _ _
