-- Counting to a moment: it comes to an end before its bound, keeps a scan valid, and counting in two steps is counting
-- in one.
use Rattle.std.proofs.Common.{◌≡◌, ℕ, zero, suc, ◌+◌, ◌<◌, ◌≤◌, Bool, true, false, cond, List, sym, refl, ap, ◌∙◌, le_trans, suc-add, zero-add, add-one, arith, le-leb, leb-true}
use mathlib.Core.Bool.{false≢true}
use borrow.Author.Tests.{lt-leb}
use Rattle.std.specs.Prelude.{Option, Some, None}
use Rattle.clock.specs.declared.time.Time.{Time}
use Rattle.clock.specs.declared.rate.Rate.{Rate}
use Rattle.clock.specs.Edges.{moved_by, started}
use Rattle.clock.specs.Rate.{is_lcd, same_rate}
use Rattle.clock.specs.Time.{raw, in_range}
use Rattle.clock.proofs.Answers.{started_at}
use Rattle.clock.proofs.Laws.{edge_later}
use Rattle.clock.proofs.Rates.{lcd_bounds}
use Rattle.scan.specs.Count.{due_at, due, count_for, count_to}
use Rattle.scan.specs.Latch.{shown}
use Rattle.scan.specs.Quantum.{ticked, ticked_to, quantum}
use Rattle.scan.proofs.Checks.{Valid, ValidSettings}
use Rattle.scan.proofs.ValidQuanta.{quantum_valid}
use Rattle.clock.specs.declared.edges.Clock.{Clock}
use Rattle.scan.specs.declared.settings.Settings.{Settings}
use Rattle.scan.specs.declared.state.Scan.{Scan}

-- the time of a clock's last edge, in fraction units; past every moment where it is stopped
last_edge : ℕ → Option Clock → ℕ
last_edge n (Some c) = raw c.at
last_edge n None = n + 1

-- with the last edge later than now, none is due
not_due : (k : Option Clock) (r : Rate) → is_lcd r ≡ true → (now : Time) → raw now < last_edge (raw now) k → due_at k r now ≡ false
unfolding due_at last_edge
not_due None r l now h = refl
not_due (Some c) r l now h = lt-leb _ _ (le_trans (omega arith) (edge_later c r (lcd_bounds r l)))

-- a due tick moves the last edge on
tick_later : (k : Option Clock) (r new : Rate) → is_lcd r ≡ true → (now : Time) → due_at k r now ≡ true → last_edge (raw now) k + 1 ≤ last_edge (raw now) (ticked k r new)
unfolding due_at last_edge ticked
tick_later None r new l now d = absurd (false≢true d)
tick_later (Some c) r new l now d = go (same_rate r new)
  where
    go : (t : Bool) → raw c.at + 1 ≤ last_edge (raw now) (cond t (Some (moved_by c r 1)) (Some (started (moved_by c r 1).at new)))
    go true = edge_later c r (lcd_bounds r l)
    go false = rw (started_at (moved_by c r 1).at new) (edge_later c r (lcd_bounds r l))

-- an edge that is due is due at any later moment
due_later : (x : Scan) (t u : Time) → raw t ≤ raw u → due x t ≡ true → due x u ≡ true
unfolding due due_at
due_later x t u h d = at_clock x.ticking.clock x.ticking.rate d
  where
    at_clock : (k : Option Clock) (r : Rate) → due_at k r t ≡ true → due_at k r u ≡ true
    at_clock (Some c) r e = le-leb _ _ (le_trans (leb-true _ _ e) h)
    at_clock None r e = absurd (false≢true e)

-- with no edge due, nothing is counted
pub count_none : (k : ℕ) (x : Scan) (s : Settings) (now : Time) → due x now ≡ false → count_for k x s now ≡ x
unfolding count_for
count_none zero x s now d = refl
count_none (suc k) x s now d = rw d

module _ (s : Settings) (vs : ValidSettings s) (now : Time) (i : in_range now ≡ true) where
  -- counting keeps a scan valid
  pub count_valid : (k : ℕ) (x : Scan) → Valid x → Valid (count_for k x s now)
  unfolding count_for
  count_valid zero x v = v
  count_valid (suc k) x v = go (due x now) refl (λ w. count_valid k (quantum x s) w)
    where
      go : (t : Bool) → due x now ≡ t → (Valid (quantum x s) → Valid (count_for k (quantum x s) s now)) → Valid (cond t (count_for k (quantum x s) s now) x)
      go true d on = on (quantum_valid s vs now i x v d)
      go false d on = v

  -- a quantum that is due moves the last edge on
  quantum_later : (x : Scan) → Valid x → due x now ≡ true → last_edge (raw now) x.ticking.clock + 1 ≤ last_edge (raw now) (quantum x s).ticking.clock
  unfolding quantum ticked_to due
  quantum_later x v d = tick_later x.ticking.clock x.ticking.rate (quantum x s).ticking.rate v.lcd now d

  -- a bound that covers the fraction units left is not reached
  count_ends : (k : ℕ) (x : Scan) → Valid x → raw now < k + last_edge (raw now) x.ticking.clock → due (count_for k x s now) now ≡ false
  unfolding count_for due
  count_ends zero x v h = not_due x.ticking.clock x.ticking.rate v.lcd now (omega arith)
  count_ends (suc k) x v h = go (due x now) refl (λ w l. count_ends k (quantum x s) w l)
    where
      go : (t : Bool) → due x now ≡ t → (Valid (quantum x s) → raw now < k + last_edge (raw now) (quantum x s).ticking.clock → due (count_for k (quantum x s) s now) now ≡ false) → due (cond t (count_for k (quantum x s) s now) x) now ≡ false
      go true d on = on (quantum_valid s vs now i x v d) (let l = quantum_later x v d in omega arith)
      go false d on = d

  -- past such a bound, more changes nothing
  enough : (k j : ℕ) (x : Scan) → Valid x → raw now < k + last_edge (raw now) x.ticking.clock → count_for (k + j) x s now ≡ count_for k x s now
  unfolding count_for
  enough zero j x v h = rw (zero-add j) (count_none j x s now (count_ends zero x v h))
  enough (suc k) j x v h = rw (suc-add k j) (go (due x now) refl (λ w l. enough k j (quantum x s) w l))
    where
      go : (t : Bool) → due x now ≡ t → (Valid (quantum x s) → raw now < k + last_edge (raw now) (quantum x s).ticking.clock → count_for (k + j) (quantum x s) s now ≡ count_for k (quantum x s) s now) → cond t (count_for (k + j) (quantum x s) s now) x ≡ cond t (count_for k (quantum x s) s now) x
      go true d on = on (quantum_valid s vs now i x v d) (let l = quantum_later x v d in omega arith)
      go false d on = refl

  -- a quantum that is due is part of the count
  pub count_quantum : (x : Scan) → Valid x → due x now ≡ true → count_to (quantum x s) s now ≡ count_to x s now
  unfolding count_to count_for
  count_quantum x v d =
      let l = quantum_later x v d in
      enough (raw now) 1 (quantum x s) (quantum_valid s vs now i x v d) (omega arith)
      ∙ sym (ap (λ (k : ℕ). count_for k x s now) (add-one (raw now)) ∙ rw d)

  pub counted_none_due : (x : Scan) → Valid x → due (count_to x s now) now ≡ false
  unfolding count_to
  counted_none_due x v = count_ends (raw now + 1) x v (omega arith)

  pub count_to_valid : (x : Scan) → Valid x → Valid (count_to x s now)
  unfolding count_to
  count_to_valid x v = count_valid (raw now + 1) x v

-- counting to t, by any bound, and then to u is counting to u
module _ (s : Settings) (vs : ValidSettings s) (t u : Time) (i : in_range t ≡ true) (j : in_range u ≡ true) (le : raw t ≤ raw u) where
  pub count_on_lem : (k : ℕ) (x : Scan) → Valid x → count_to (count_for k x s t) s u ≡ count_to x s u
  unfolding count_for
  count_on_lem zero x v = refl
  count_on_lem (suc k) x v = go (due x t) refl (λ w. count_on_lem k (quantum x s) w)
    where
      go : (b : Bool) → due x t ≡ b → (Valid (quantum x s) → count_to (count_for k (quantum x s) s t) s u ≡ count_to (quantum x s) s u) → count_to (cond b (count_for k (quantum x s) s t) x) s u ≡ count_to x s u
      go true d on = on (quantum_valid s vs t i x v d) ∙ count_quantum s vs u j x v (due_later x t u le d)
      go false d on = refl

  -- counting to t and then to u is counting to u
  pub count_count : (x : Scan) → Valid x → count_to (count_to x s t) s u ≡ count_to x s u
  unfolding count_to
  count_count x v = ap (λ (y : Scan). count_to y s u) (bounded x) ∙ count_on_lem (raw t + 1) x v
    where
      bounded : (x : Scan) → count_to x s t ≡ count_for (raw t + 1) x s t
      bounded x = refl

  -- and so is what is shown
  pub count_shown : (x : Scan) (ram icons : List ℕ) → Valid x → shown (count_to (count_to x s t) s u) s ram icons ≡ shown (count_to x s u) s ram icons
  count_shown x ram icons v = ap (λ (y : Scan). shown y s ram icons) (count_count x v)
