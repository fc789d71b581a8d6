use Rattle.std.proofs.Common.{arith, rules, ◌<◌, [], ◌∷◌, length}
use Rattle.replay.proofs.Laws.{counted_within}
use Rattle.replay.proofs.Listing.{at_end, at_none}
use Rattle.replay.proofs.lists.replay_list.Goals as goal

pub loop-rest-preserved : goal.loop-rest-preserved
loop-rest-preserved g c =
    let l = c.loop-rest in
    let case = c.in-Some.case in
    let some : 0 < length l.rest.now = search rules in
    let more = counted_within l.tally case.agrees {n = l.tally.cases} (omega (arith, l.invariant.0, some)) (omega arith) l.invariant.1.0 in
    rw c.counted-tally.ensures (
      omega (arith, more.0, c.in-Some.ensures.shorter, l.invariant.0),
      (more.1, λ answers last r. l.invariant.1.1 ((case.rest.now, case.agrees) ∷ answers) last (some, c.replay.new.self, c.in-Some.ensures.case, r)),
    )

pub returns-after-loop-rest-clause-tally : goal.returns-after-loop-rest-clause-tally
returns-after-loop-rest-clause-tally g c =
    let l = c.loop-rest in
    l.invariant.1.1 [] l.cases (at_end g.C.Cases.gives l.cases l.rest.now (search rules))

pub returns-in_ok-println-clause-tally : goal.returns-in_ok-println-clause-tally
returns-in_ok-println-clause-tally g c =
    let l = c.loop-rest in
    l.invariant.1.1 [] c.replay.new.self (at_none g.C.Cases.gives l.cases l.rest.now c.replay.new.self (search rules) c.in_default.ensures.case)
