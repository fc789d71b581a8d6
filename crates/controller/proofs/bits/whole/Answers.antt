use native.Mathlib.Omega.{arith}
use lib.Pow.{pow_pos}
use Rattle.std.proofs.lemmas.Result.{err_from_is_err_and}
use Rattle.controller.proofs.Groups.{one_shifted}
use Rattle.controller.proofs.Whole.{bits_registers, bits_under, registers_passed, completed, rest_below, group_parts, whole_refused, whole_bits, whole_passed}
use Rattle.controller.proofs.bits.whole.Goals as goal

pub overflow_sub-needed : goal.overflow_sub-needed
overflow_sub-needed c =
    omega (arith, bits_under _ (registers_passed _ _ _ _ _ _ c.requires.registers).registers_ok_lem)

pub overflow_sub-rest : goal.overflow_sub-rest
overflow_sub-rest c =
    omega (arith, (completed _ _ c.requires.count_value).1)

pub overflow_shr-first : goal.overflow_shr-first
overflow_shr-first c = rest_below _ _ _ _ _ _ c.requires.registers

pub invariant_of-first : goal.invariant_of-first
invariant_of-first c =
    record { fits = (group_parts _ _ _ _ _ _ c.requires.registers c.requires.count_value).0 }

pub byte-requires-clause-memory_value : goal.byte-requires-clause-memory_value
byte-requires-clause-memory_value c = (registers_passed _ _ _ _ _ _ c.requires.registers).memory

pub invariant_of-taken : goal.invariant_of-taken
invariant_of-taken c = record { passes = rw (registers_passed _ _ _ _ _ _ c.requires.registers).in_range_lem }

pub byte-requires-clause-state_value : goal.byte-requires-clause-state_value
byte-requires-clause-state_value c =
    simp c.with_bits.ensures (bits_registers _ 0 0 (omega arith) (registers_passed _ _ _ _ _ _ c.requires.registers).registers_ok_lem)

pub returns-in_err-stepped : goal.returns-in_err-stepped
returns-in_err-stepped c =
    let p = err_from_is_err_and c.from_residual.result c.from_residual.ensures.1 in
    rw (p.1, p.2) (whole_refused _ _ _ _ _ _ c.requires.registers c.with_bits.ensures c.joined-value.result c.byte.ensures c.in_err-stepped.was)

pub overflow_shl-last : goal.overflow_shl-last
overflow_shl-last c = rest_below _ _ _ _ _ _ c.requires.registers

pub nonzero_rem-last : goal.nonzero_rem-last
nonzero_rem-last c = rw (one_shifted 8 _ (rest_below _ _ _ _ _ _ c.requires.registers)) (pow_pos _)

pub invariant_of-last : goal.invariant_of-last
invariant_of-last c =
    record { fits = rw (one_shifted 8 _ (rest_below _ _ _ _ _ _ c.requires.registers)) (group_parts _ _ _ _ _ _ c.requires.registers c.requires.count_value).1 }

pub grown-stepped-requires : goal.grown-stepped-requires
grown-stepped-requires c =
    let none = whole_bits _ _ _ _ _ _ c.requires.registers c.with_bits.ensures c.joined-value.result c.byte.ensures c.in_ok-stepped.was _ _ c.joined-value.ensures in
    omega (arith, none, rest_below _ _ _ _ _ _ c.requires.registers)

pub returns : goal.returns
returns c =
    simp (c.grown-stepped.ensures, one_shifted 8 _ (rest_below _ _ _ _ _ _ c.requires.registers))
    (whole_passed _ _ _ _ _ _ c.requires.registers c.with_bits.ensures c.joined-value.result c.byte.ensures c.in_ok-stepped.was c.requires.count_value c.joined-value.ensures)
