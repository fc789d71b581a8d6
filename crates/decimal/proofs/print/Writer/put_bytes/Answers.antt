use Prim.Native.Nat.{ℕ, ◌+◌}
use mathlib.Core.List.{List}
use mathlib.Core.Path.{sym, ◌∙◌, ap}
use lib.ListN.{drop}
use borrow.Author.Rules.{rules}
use Rattle.decimal.proofs.Printing.{put_next, put_done}
use Rattle.decimal.specs.Print.{put}
use Rattle.decimal.proofs.print.Writer.put_bytes.Goals as goal

pub loop-byte-preserved : goal.loop-byte-preserved
loop-byte-preserved c =
    let bytes = c.args.bytes.now in
    let i = c.loop-byte.byte-index in
    let w = c.loop-byte.self in (
      c.put_byte.ensures.same ∙ c.loop-byte.invariant.0,
      ap (λ (q : List ℕ × ℕ). put q (drop (i + 1) bytes)) c.put_byte.ensures.puts ∙ sym (put_next (w.out.now, w.at) bytes i (search rules)) ∙ c.loop-byte.invariant.1,
    )

pub returns-clause-puts : goal.returns-clause-puts
returns-clause-puts c =
    let w = c.loop-byte.self in
    sym (put_done (w.out.now, w.at) c.args.bytes.now c.loop-byte.byte-index (search rules)) ∙ c.loop-byte.invariant.1
