-- An answer that equals a definition's leaves the same status and the same words behind.
use Prim.Native.Nat.{ℕ}
use Rattle.std.specs.Prelude.{Option, None}
use mathlib.Core.Path.{◌≡◌, refl, ap, sym, ◌∙◌}
use Rattle.checks.specs.Checks.{unless_refused}
use Rattle.ffi.specs.Words.{check_status}

pub status_by : {A : Type 0} {p q : Option ℕ × A} → p ≡ q → check_status p.0 ≡ check_status q.0
status_by {A} e = ap (λ (r : Option ℕ × A). check_status r.0) e

pub left_from : {A B : Type 0} {p q : Option ℕ × A} (words : A → B) → p ≡ q → {old new : B} → old ≡ new → unless_refused p.0 (words p.1) old ≡ unless_refused q.0 (words q.1) new
left_from words e o = λ i. unless_refused (e i).0 (words (e i).1) (o i)

pub left_by_lem : {A B : Type 0} {p q : Option ℕ × A} (words : A → B) → p ≡ q → (old : B) → unless_refused p.0 (words p.1) old ≡ unless_refused q.0 (words q.1) old
left_by_lem words e old = left_from words e refl

-- one that passes leaves 0 and the words of its value
pub passed_status : {A : Type 0} {p q : Option ℕ × A} → p.0 ≡ None → p ≡ q → 0 ≡ check_status q.0
passed_status n e = sym (ap check_status n) ∙ status_by e

pub passed_left : {A B : Type 0} {p q : Option ℕ × A} (words : A → B) → p.0 ≡ None → p ≡ q → (old : B) → words p.1 ≡ unless_refused q.0 (words q.1) old
passed_left {A} {B} {p} words n e old = sym (ap (λ (o : Option ℕ). unless_refused o (words p.1) old) n) ∙ left_by_lem words e old
