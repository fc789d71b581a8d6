use Rattle.std.proofs.Common.{refl, ◌∙◌, arith}
use Rattle.scan.specs.Planes.{in_high, in_low}
use Rattle.scan.specs.Latch.{word}
use Rattle.scan.proofs.Latches.{word_at}
use Rattle.scan.proofs.Packing.{word_room, low_lt, high_more, low_more, active_word_lem}
use Rattle.scan.proofs.segments.both_words.Goals as goal

pub loop-left-init : goal.loop-left-init
unfolding word
loop-left-init c = record { high = refl; low = refl; high2 = refl; low2 = refl }

pub with_eight-high-requires-clause-word_bound : goal.with_eight-high-requires-clause-word_bound
with_eight-high-requires-clause-word_bound c = rw c.loop-left.invariant.high (word_room _ _ _ (omega arith))

pub with_eight-low-requires-clause-word_bound : goal.with_eight-low-requires-clause-word_bound
with_eight-low-requires-clause-word_bound c = rw c.loop-left.invariant.low (word_room _ _ _ (omega arith))

pub with_eight-low-requires-clause-eight_bound : goal.with_eight-low-requires-clause-eight_bound
with_eight-low-requires-clause-eight_bound c = low_lt _ _ _ c.eight_planes-first.ensures

pub with_eight-high2-requires-clause-word_bound : goal.with_eight-high2-requires-clause-word_bound
with_eight-high2-requires-clause-word_bound c = rw c.loop-left.invariant.high2 (word_room _ _ _ (omega arith))

pub with_eight-low2-requires-clause-word_bound : goal.with_eight-low2-requires-clause-word_bound
with_eight-low2-requires-clause-word_bound c = rw c.loop-left.invariant.low2 (word_room _ _ _ (omega arith))

pub with_eight-low2-requires-clause-eight_bound : goal.with_eight-low2-requires-clause-eight_bound
with_eight-low2-requires-clause-eight_bound c = low_lt _ _ _ c.eight_planes-second.ensures

pub loop-left-preserved : goal.loop-left-preserved
loop-left-preserved c =
    let bits = c.args.bits.now.bits in
    let reversed = c.args.reversed in
    let i = c.loop-left.invariant in
    let first = c.eight_planes-first.ensures in
    let second = c.eight_planes-second.ensures in
    record {
      high = rw c.with_eight-high.ensures (high_more bits reversed _ _ _ _ first i.high (omega arith) (omega arith));
      low = rw c.with_eight-low.ensures (low_more bits reversed _ _ _ _ first i.low (omega arith) (omega arith));
      high2 = rw c.with_eight-high2.ensures (high_more bits reversed _ _ _ _ second i.high2 (omega arith) (omega arith));
      low2 = rw c.with_eight-low2.ensures (low_more bits reversed _ _ _ _ second i.low2 (omega arith) (omega arith));
    }

pub returns : goal.returns
returns c =
    let row = c.args.bits.now in
    let reversed = c.args.reversed in
    let in_h = in_high row.bits reversed in
    let in_l = in_low row.bits reversed in
    let i = c.loop-left.invariant in
    let high = i.high ∙ word_at in_h {at' = 0} {n' = 64} (omega arith) (omega arith) in
    let low = i.low ∙ word_at in_l {at' = 0} {n' = 64} (omega arith) (omega arith) in
    let high2 = i.high2 ∙ word_at in_h {at' = 64} {n' = 64} (omega arith) (omega arith) in
    let low2 = i.low2 ∙ word_at in_l {at' = 64} {n' = 64} (omega arith) (omega arith) in
    let active = active_word_lem row.bits row.are_bits reversed c.args.active in
    simp (c.active_word.ensures, c.active_word-2.ensures, high, low, high2, low2, active 0, active 64)
