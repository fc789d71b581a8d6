-- Remainders, memory by two numbers, and the tally.
use Rattle.std.proofs.Common.{◌≡◌, ℕ, suc, ◌+◌, ◌*◌, ◌/◌, ◌%◌, ◌^◌, ◌<◌, ◌≤◌, Bool, true, false, List, set, sym, ap, ◌∙◌, arith}
use lib.Arith.{digits_mod}
use Rattle.replay.specs.declared.tally.Tally.{Tally}
use Rattle.replay.specs.Tally.{counted}
use Rattle.replay.specs.Rules.{added, byte_at, filled_to}

one_more_lem : (n : ℕ) → n + 1 ≡ suc n
one_more_lem n = omega arith

-- the code adds remainders, so that the sum has room
pub added_rest : (sum x : ℕ) → (31 * (sum % 4294967296) + x % 4294967296) % 4294967296 ≡ added sum x
added_rest sum x =
    let a = 31 * (sum % 4294967296) + x % 4294967296 in
    let q = 31 * (sum / 4294967296) + x / 4294967296 + a / 4294967296 in
    let whole : 31 * sum + x ≡ q * 4294967296 + a % 4294967296 = omega arith in
    sym (ap (λ (n : ℕ). n % 4294967296) whole ∙ digits_mod q (omega arith))

pub byte_next : (step first i : ℕ) → (byte_at step first i + step % 251) % 251 ≡ byte_at step first (i + 1)
byte_next step first i =
    let a = (step * i + first) % 251 + step % 251 in
    let q = (step * i + first) / 251 + step / 251 + a / 251 in
    let whole : step * (i + 1) + first ≡ q * 251 + a % 251 = omega arith in
    sym (ap (λ (n : ℕ). n % 251) whole ∙ digits_mod q (omega arith))

-- one byte more
pub filled_next : (n step first : ℕ) (memory : List ℕ) → filled_to (n + 1) step first memory ≡ set (filled_to n step first memory) n (byte_at step first n)
unfolding filled_to
filled_next n step first memory = ap (λ (m : ℕ). filled_to m step first memory) (one_more_lem n)

-- a case more, of which there are no more than n
pub counted_within :
    (t : Tally) (agrees : Bool) {n : ℕ} → n + 1 < 2 ^ 64 → t.cases ≤ n → t.differ ≤ t.cases
    → ((counted t agrees).cases ≡ t.cases + 1) × ((counted t agrees).differ ≤ (counted t agrees).cases)
counted_within t true h few fewer = (omega arith, omega arith)
counted_within t false h few fewer = (omega arith, omega arith)
