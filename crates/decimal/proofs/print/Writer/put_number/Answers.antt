use mathlib.Core.Path.{ap, ◌∙◌}
use borrow.Author.Rules.{rules}
use Rattle.decimal.proofs.Printing.{printed}
use Rattle.decimal.specs.Print.{put}
use Rattle.decimal.proofs.print.Writer.put_number.Goals as goal

pub returns-clause-puts : goal.returns-clause-puts
returns-clause-puts c =
    let w = c.args.self.now in
    c.put_bytes.ensures.puts ∙ ap (put (w.out.now, w.at)) (c.as_bytes.ensures.value ∙ c.format.ensures.text ∙ printed c.args.n (search rules))
