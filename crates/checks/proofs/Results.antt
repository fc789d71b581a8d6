-- What a Result answers, and what its answer says of the check behind it.
use Prim.Native.Nat.{ℕ}
use mathlib.Core.Path.{◌≡◌, refl, sym, ◌∙◌, ap}
use Rattle.std.specs.Prelude.{Option, Some, None, Result, Ok, Err}
use Rattle.checks.specs.Checks.{answer, changed, refused_by, numbered, left_by}
use Rattle.checks.proofs.Chains.{never}

module _ {A E : Type 0} (number : E → ℕ) where
  -- a check
  pub refused_at_ok : (r : Result A E) {check : Option ℕ} {a : A} → refused_by number r ≡ check → r ≡ Ok a → check ≡ None
  refused_at_ok (Ok x) f e = sym f
  refused_at_ok (Err x) f e = cc

  pub refused_at_err : (r : Result A E) {check : Option ℕ} {y : E} → refused_by number r ≡ check → r ≡ Err y → check ≡ Some (number y)
  refused_at_err (Ok x) f e = cc
  refused_at_err (Err x) f e = cc

  pub ok_from_refused : (r : Result A E) {check : Option ℕ} → refused_by number r ≡ check → check ≡ None → (a : A) × (r ≡ Ok a)
  ok_from_refused (Ok x) f e = (x, refl)
  ok_from_refused (Err x) f e = absurd (never (f ∙ e))

  pub err_from_refused : (r : Result A E) {check : Option ℕ} {n : ℕ} → refused_by number r ≡ check → check ≡ Some n → (y : E) × (r ≡ Err y) × (number y ≡ n)
  err_from_refused (Ok x) f e = absurd (never (sym (f ∙ e)))
  err_from_refused (Err x) f e = (x, refl, cc)

  -- a call that gives a value
  pub numbered_at_ok : (r : Result A E) (check : Option ℕ) (v : A) {a : A} → numbered number r ≡ answer check v → r ≡ Ok a → (check ≡ None) × (a ≡ v)
  numbered_at_ok (Ok x) None v f e = (refl, cc)
  numbered_at_ok (Ok x) (Some n) v f e = cc
  numbered_at_ok (Err x) check v f e = cc

  pub numbered_at_err : (r : Result A E) (check : Option ℕ) (v : A) {y : E} → numbered number r ≡ answer check v → r ≡ Err y → check ≡ Some (number y)
  numbered_at_err (Ok x) check v f e = cc
  numbered_at_err (Err x) None v f e = cc
  numbered_at_err (Err x) (Some n) v f e = cc

  pub ok_from_numbered : (r : Result A E) (check : Option ℕ) (v : A) → numbered number r ≡ answer check v → check ≡ None → r ≡ Ok v
  ok_from_numbered (Ok x) None v f e = cc
  ok_from_numbered (Ok x) (Some n) v f e = cc
  ok_from_numbered (Err x) None v f e = cc
  ok_from_numbered (Err x) (Some n) v f e = cc

  pub err_from_numbered : (r : Result A E) (check : Option ℕ) (v : A) {n : ℕ} → numbered number r ≡ answer check v → check ≡ Some n → (y : E) × (r ≡ Err y) × (number y ≡ n)
  err_from_numbered (Ok x) None v f e = absurd (never (sym e))
  err_from_numbered (Ok x) (Some m) v f e = cc
  err_from_numbered (Err x) None v f e = absurd (never (sym e))
  err_from_numbered (Err x) (Some m) v f e = (x, refl, cc)

  -- a call that gives what it leaves
  pub left_at_ok : (r : Result A E) (check : Option ℕ) (new given : A) {a : A} → left_by number given r ≡ changed check new given → r ≡ Ok a → (check ≡ None) × (a ≡ new)
  left_at_ok (Ok x) None new given f e = let left = ap (λ (p : Option ℕ × A). p.1) f in (refl, cc)
  left_at_ok (Ok x) (Some n) new given f e = absurd (never (sym (ap (λ (p : Option ℕ × A). p.0) f)))
  left_at_ok (Err x) check new given f e = cc

  pub left_at_err : (r : Result A E) (check : Option ℕ) (new given : A) {y : E} → left_by number given r ≡ changed check new given → r ≡ Err y → check ≡ Some (number y)
  left_at_err (Ok x) check new given f e = cc
  left_at_err (Err x) check new given f e = let number = ap (λ (p : Option ℕ × A). p.0) f in cc

  pub ok_from_left : (r : Result A E) (check : Option ℕ) (new given : A) → left_by number given r ≡ changed check new given → check ≡ None → r ≡ Ok new
  ok_from_left (Ok x) None new given f e = ap Ok (ap (λ (p : Option ℕ × A). p.1) f)
  ok_from_left (Ok x) (Some n) new given f e = cc
  ok_from_left (Err x) check new given f e = absurd (never (ap (λ (p : Option ℕ × A). p.0) f ∙ e))

  pub err_from_left : (r : Result A E) (check : Option ℕ) (new given : A) {n : ℕ} → left_by number given r ≡ changed check new given → check ≡ Some n → (y : E) × (r ≡ Err y) × (number y ≡ n)
  err_from_left (Ok x) check new given f e = absurd (never (sym (ap (λ (p : Option ℕ × A). p.0) f ∙ e)))
  err_from_left (Err x) check new given f e = let first = ap (λ (p : Option ℕ × A). p.0) f ∙ e in (x, refl, cc)
