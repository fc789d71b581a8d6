use Rattle.std.proofs.Common.{◌∙◌, arith}
use Rattle.clock.proofs.Order.{time_le}
use Rattle.scan.proofs.Due.{low_lt, remainder_lt, fraction_lt, numerator_lt, seconds_lt, due_by, scan_lcd, clock_valid, due_running, due_stopped}
use Rattle.scan.proofs.count.is_due.Goals as goal

pub returns-in_default : goal.returns-in_default
returns-in_default c = due_stopped c.args.scan.now.value c.args.now c.in_default.is

pub next_span-span-requires-clause-whole_bound : goal.next_span-span-requires-clause-whole_bound
next_span-span-requires-clause-whole_bound c =
    let x = c.args.scan.now.value in
    low_lt _ x.ticking.rate (scan_lcd x c.args.scan.now.passes) (clock_valid x c.args.scan.now.passes c.in-Some.is)

pub next_span-span-requires-clause-remainder_lt_numerator : goal.next_span-span-requires-clause-remainder_lt_numerator
next_span-span-requires-clause-remainder_lt_numerator c =
    let x = c.args.scan.now.value in
    remainder_lt _ x.ticking.rate (scan_lcd x c.args.scan.now.passes) (clock_valid x c.args.scan.now.passes c.in-Some.is)

pub next_span-span-requires-clause-fraction_lt_numerator : goal.next_span-span-requires-clause-fraction_lt_numerator
next_span-span-requires-clause-fraction_lt_numerator c =
    let x = c.args.scan.now.value in
    fraction_lt _ x.ticking.rate (scan_lcd x c.args.scan.now.passes) (clock_valid x c.args.scan.now.passes c.in-Some.is)

pub next_span-span-requires-clause-numerator_bound : goal.next_span-span-requires-clause-numerator_bound
next_span-span-requires-clause-numerator_bound c =
    let x = c.args.scan.now.value in
    numerator_lt _ x.ticking.rate (scan_lcd x c.args.scan.now.passes) (clock_valid x c.args.scan.now.passes c.in-Some.is)

pub later-requires : goal.later-requires
later-requires c =
    let x = c.args.scan.now.value in
    seconds_lt _ x.ticking.rate (scan_lcd x c.args.scan.now.passes) (clock_valid x c.args.scan.now.passes c.in-Some.is)

pub returns : goal.returns
returns c =
    let x = c.args.scan.now.value in
    c.le.ensures
    ∙ time_le _ _ (omega arith) (omega arith)
    ∙ due_by _ x.ticking.rate (scan_lcd x c.args.scan.now.passes) (clock_valid x c.args.scan.now.passes c.in-Some.is) c.args.now c.next_span-span.result c.later.result c.next_span-span.ensures c.later.ensures
    ∙ due_running x c.args.now c.in-Some.is
