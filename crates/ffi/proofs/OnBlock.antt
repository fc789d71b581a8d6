-- A call over a block that holds a state answers what the call of that state answers.
use Prim.Native.Nat.{ℕ}
use mathlib.Core.Bool.{Bool, true, false, cond, false≢true}
use mathlib.Core.List.{List}
use mathlib.Core.Logic.{◌⊎◌, inl, ◌≢◌}
use Rattle.std.specs.Prelude.{Option, Some, Result}
use mathlib.Core.Path.{◌≡◌, refl, ap, sym, subst, ◌∙◌}
use lib.ListN.{length}
use borrow.Author.Tests.{eqb-true, ne_eqb}
use Rattle.std.specs.Bool.{then_some}
use Rattle.std.specs.Option.{MatchOption}
use Rattle.checks.proofs.Tests.{both}
use Rattle.controller.specs.declared.state.Nt7508.{Nt7508}
use Rattle.controller.specs.declared.check.Refusal.{Refusal}
use Rattle.controller.specs.Check.{number, answered}
use Rattle.checks.specs.Checks.{numbered, unless_refused}
use Rattle.controller.specs.Look.{SaysOf}
use Rattle.voltage.specs.declared.finder.Pair.{Pair}
use Rattle.ffi.specs.VoltageWords.{pair_words}
use Rattle.ffi.specs.Words.{check_status, status, stored}
use Rattle.ffi.specs.StateWords.{holds_state, state_of, state_words}
use Rattle.ffi.specs.ControllerWords.{on_block, answer_on, ChangedOn, LookedOn, FoundOn}
use Rattle.ffi.proofs.Answers.{status_by, left_by_lem}

pub block_length : (w : List ℕ) → holds_state w ≡ true → length w ≡ 75
unfolding holds_state
block_length w e = eqb-true (length w) 75 (both _ _ e).0

pub other_length : (w : List ℕ) → length w ≢ 75 → holds_state w ≡ false
unfolding holds_state
other_length w n = rw (ne_eqb (length w) 75 n)

-- a lent block that holds a state, or none
pub held_or_none : {B : Type 0} (now : B → List ℕ) (w : List ℕ) (b : B) (t : Bool) → now b ≡ w → t ≡ holds_state (now b) → MatchOption (then_some t b) (holds_state w ≡ false) (λ x. (holds_state w ≡ true) × (now x ≡ w))
held_or_none now w b true same e = (sym (e ∙ ap holds_state same), same)
held_or_none now w b false same e = sym (e ∙ ap holds_state same)

pub on_block_lem : {A : Type 0} (w : List ℕ) {p q : Option ℕ × A} → holds_state w ≡ true → p ≡ q → (given : A) → p ≡ on_block w q given
on_block_lem {A} w {p} {q} e by given = by ∙ ap (λ (b : Bool). cond {A = Option ℕ × A} b q (Some 20, given)) (sym e)

pub answer_on_block : {A : Type 0} (w : List ℕ) {p q : ℕ ⊎ A} → holds_state w ≡ true → p ≡ q → p ≡ answer_on w q
answer_on_block {A} w {p} {q} e by = by ∙ ap (λ (b : Bool). cond {A = ℕ ⊎ A} b q (inl 20)) (sym e)

-- what a call that changes the state answers and leaves
pub changed_on : (w : List ℕ) {p q : Option ℕ × Nt7508} {r : ℕ} {after : List ℕ} → holds_state w ≡ true → p ≡ q → (r ≡ check_status p.0) × (after ≡ unless_refused p.0 (state_words p.1) w) → (r ≡ check_status (on_block w q (state_of w)).0) × (after ≡ unless_refused (on_block w q (state_of w)).0 (state_words (on_block w q (state_of w)).1) w)
changed_on w e by put = let on = on_block_lem w e by (state_of w) in (put.0 ∙ status_by on, put.1 ∙ left_by_lem state_words on w)

-- a call that changes the state of a block that is held
pub changes : {Is : Nt7508 → Result Nt7508 Refusal → Type 0} {w now after : List ℕ} {x : Nt7508} (a : Result Nt7508 Refusal) {r : ℕ} → (holds_state w ≡ true) × (now ≡ w) → x ≡ state_of now → Is x a → ((given : Nt7508) → r ≡ check_status (answered given a).0) → ((given : Nt7508) → after ≡ unless_refused (answered given a).0 (state_words (answered given a).1) now) → ChangedOn Is w r after
changes {Is} {w} {now} {after} {x} a held at is answers leaves = record {
  of_state = λ h. record {
    answer = a;
    is = subst (λ (y : Nt7508). Is y a) (at ∙ ap state_of held.1) is;
    answers = answers;
    leaves = λ given. leaves given ∙ ap (unless_refused (answered given a).0 (state_words (answered given a).1)) held.1;
  };
  refused = λ h. absurd (false≢true (sym h ∙ held.0));
}

-- and where none is held
pub changes_none : {Is : Nt7508 → Result Nt7508 Refusal → Type 0} {w : List ℕ} → holds_state w ≡ false → ChangedOn Is w 20 w
changes_none none = record { of_state = λ h. absurd (false≢true (sym none ∙ h)); refused = λ h. (refl, refl) }

-- what such a call answers and leaves, by what its answer is
module _ {Is : Nt7508 → Result Nt7508 Refusal → Type 0} (w : List ℕ) {q : Option ℕ × Nt7508} {r : ℕ} {after : List ℕ} (changed : ChangedOn Is w r after) (by : (a : Result Nt7508 Refusal) → Is (state_of w) a → answered (state_of w) a ≡ q) where
  pub change_answers : r ≡ check_status (on_block w q (state_of w)).0
  change_answers = go (holds_state w) refl
    where
      go : (t : Bool) → holds_state w ≡ t → r ≡ check_status (cond t q (Some 20, state_of w)).0
      go true e = let on = changed.of_state e in on.answers (state_of w) ∙ status_by (by on.answer on.is)
      go false e = (changed.refused e).0

  pub change_leaves : after ≡ unless_refused (on_block w q (state_of w)).0 (state_words (on_block w q (state_of w)).1) w
  change_leaves = go (holds_state w) refl
    where
      go : (t : Bool) → holds_state w ≡ t → after ≡ unless_refused (cond t q (Some 20, state_of w)).0 (state_words (cond t q (Some 20, state_of w)).1) w
      go true e = let on = changed.of_state e in on.leaves (state_of w) ∙ left_by_lem state_words (by on.answer on.is) w
      go false e = (changed.refused e).1

-- a call that looks at the state of a block that is held, and of one that is none
pub looks : {T W : Type 0} {words : T → W} {Is : Nt7508 → Result T Refusal → Type 0} {w now : List ℕ} {x : Nt7508} (a : Result T Refusal) {before after : W} {r : ℕ} → (holds_state w ≡ true) × (now ≡ w) → x ≡ state_of now → Is x a → r ≡ status (numbered number a) → after ≡ stored words (numbered number a) before → LookedOn words Is w before r after
looks {Is = Is} a held at is answers leaves = record {
  of_state = λ h. record { answer = a; is = subst (λ (y : Nt7508). Is y a) (at ∙ ap state_of held.1) is; answers = answers; leaves = leaves };
  refused = λ h. absurd (false≢true (sym h ∙ held.0));
}

pub looks_none : {T W : Type 0} {words : T → W} {Is : Nt7508 → Result T Refusal → Type 0} {w : List ℕ} {before : W} → holds_state w ≡ false → LookedOn words Is w before 20 before
looks_none none = record { of_state = λ h. absurd (false≢true (sym none ∙ h)); refused = λ h. (refl, refl) }

-- its status and its words, by what its answer is
module _ {T W : Type 0} {words : T → W} {Is : Nt7508 → Result T Refusal → Type 0} (w : List ℕ) {q : ℕ ⊎ T} {r : ℕ} {before after : W} (looked : LookedOn words Is w before r after) (by : (a : Result T Refusal) → Is (state_of w) a → numbered number a ≡ q) where
  pub look_answers : r ≡ status (answer_on w q)
  look_answers = go (holds_state w) refl
    where
      go : (t : Bool) → holds_state w ≡ t → r ≡ status (cond t q (inl 20))
      go true e = let on = looked.of_state e in on.answers ∙ ap status (by on.answer on.is)
      go false e = (looked.refused e).0

  pub look_leaves : after ≡ stored words (answer_on w q) before
  look_leaves = go (holds_state w) refl
    where
      go : (t : Bool) → holds_state w ≡ t → after ≡ stored words (cond t q (inl 20)) before
      go true e = let on = looked.of_state e in on.leaves ∙ ap (λ (a : ℕ ⊎ T). stored words a before) (by on.answer on.is)
      go false e = (looked.refused e).1

pub look_finds : {Is : Nt7508 → Result (Option Pair) Refusal → Type 0} {w : List ℕ} {low high r : ℕ} {before after : List ℕ} → LookedOn pair_words Is w before r after → ((a : Result (Option Pair) Refusal) → Is (state_of w) a → SaysOf (state_of w) low high a) → FoundOn w low high before r after
look_finds looked by = record {
  of_state = λ h. let on = looked.of_state h in record { found = on.answer; says = by on.answer on.is; answers = on.answers; leaves = on.leaves };
  refused = looked.refused;
}
