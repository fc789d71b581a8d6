use mathlib.Core.List.{List}
use Prim.Native.Nat.{ℕ}
use mathlib.Core.Path.{ap, ◌∙◌}
use Rattle.decimal.specs.declared.print.Writer.{Writer}
use Rattle.decimal.specs.Print.{put_byte}
use Rattle.session.proofs.Listings.{dash_put, number_put}
use Rattle.session.proofs.listing.put_field.Goals as goal
use Rattle.session.proofs.listing.put_field.Goals.{in-Some, in-None}

pub returns-clause-puts : goal.returns-clause-puts
returns-clause-puts c =
    elim c.match-field.branch [
      | in-Some w ↦ rw w.in-Some.is
          (c.put_byte-2.ensures.puts
          ∙ ap (λ (x : Writer). put_byte (x.out.now, x.at) c.args.end) w.w-is
          ∙ ap (λ (p : List ℕ × ℕ). put_byte p c.args.end) w.put_number.ensures.puts
          ∙ number_put _ _ c.args.end)
      | in-None w ↦ rw w.in-None.is
          (c.put_byte-2.ensures.puts
          ∙ ap (λ (x : Writer). put_byte (x.out.now, x.at) c.args.end) w.w-is
          ∙ ap (λ (p : List ℕ × ℕ). put_byte p c.args.end) w.put_byte.ensures.puts
          ∙ dash_put _ c.args.end)
    ]
