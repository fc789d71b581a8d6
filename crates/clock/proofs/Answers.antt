-- What each call answers where its checks pass, what the check answers where one of them does not, and what a passed check
-- says.
use Prim.Native.Nat.{ℕ, min}
use mathlib.Core.Bool.{Bool, true, false}
use mathlib.Core.Path.{◌≡◌, refl, sym, ◌∙◌, ap}
use Rattle.std.specs.Prelude.{Result, Ok, Err, ⊤}
use Rattle.checks.specs.Checks.{first_of}
use Rattle.checks.proofs.Chains.{first_passed, row_passed}
use Rattle.checks.proofs.Results.{ok_from_numbered}
use Rattle.clock.specs.declared.time.Time.{Time}
use Rattle.clock.specs.declared.rate.Rate.{Rate}
use Rattle.clock.specs.declared.check.Refusal.{Refusal}
use Rattle.clock.specs.declared.edges.Clock.{Clock}
use Rattle.clock.specs.declared.edges.Passed.{Passed}
use Rattle.clock.specs.Time.{in_range}
use Rattle.clock.specs.Rate.{is_lcd}
use Rattle.clock.specs.Check.{number, refused, time_row, rate_row, clock_row, valid_clock, check_clock}
use Rattle.clock.specs.Edges.{started, edges_to, moved_by, answered, answered_pass, new_clock, count_edges, move_clock, pass_edges}

pub new_passed : (at : Time) (r : Rate) (m : Result Clock Refusal) → answered m ≡ new_clock at r → in_range at ≡ true → is_lcd r ≡ true → m ≡ Ok (started at r)
unfolding new_clock
new_passed at r m e i l = ok_from_numbered number m (first_of (time_row at) (rate_row r)) (started at r) e (rw (i, l))

pub started_at : (at : Time) (r : Rate) → (started at r).at ≡ at
unfolding started
started_at at r = refl

-- an answer of `passed_to`
abbrev passed : ℕ → Clock → Result Passed Refusal
passed n c = Ok (record { count = n; clock = c })

module _ (c : Clock) (r : Rate) where
  pub check_passed : (k : Result ⊤ Refusal) → refused k ≡ check_clock c r → is_lcd r ≡ true → valid_clock c r ≡ true → k ≡ Ok tt
  unfolding check_clock
  check_passed (Ok u) e l v = refl
  check_passed (Err why) e l v = let q = rw (l, v) at e in cc

  pub check_refused : (k : Result ⊤ Refusal) → refused k ≡ check_clock c r → is_lcd r ≡ true → valid_clock c r ≡ false → k ≡ Err Refusal.Clock
  unfolding check_clock
  check_refused (Ok u) e l v = let q = rw (l, v) at e in cc
  check_refused (Err Refusal.Time) e l v = let q = rw (l, v) at e in cc
  check_refused (Err Refusal.Rate) e l v = let q = rw (l, v) at e in cc
  check_refused (Err Refusal.Clock) e l v = refl

  -- what a passed check says
  pub check_valid : (k : Result ⊤ Refusal) → refused k ≡ check_clock c r → k ≡ Ok tt → (is_lcd r ≡ true) × (valid_clock c r ≡ true)
  unfolding check_clock
  check_valid k e h =
      let rows = first_passed (rate_row r) (clock_row c r) (sym e ∙ ap refused h) in
      (row_passed 4 _ rows.0, row_passed 5 _ rows.1)

  pub count_passed : (now : Time) (m : Result ℕ Refusal) → answered m ≡ count_edges c r now → in_range now ≡ true → is_lcd r ≡ true → valid_clock c r ≡ true → m ≡ Ok (edges_to c r now)
  unfolding count_edges check_clock
  count_passed now m e i l v = ok_from_numbered number m (first_of (time_row now) (check_clock c r)) (edges_to c r now) e (rw (i, l, v))

  pub move_passed : (n : ℕ) (m : Result Clock Refusal) → answered m ≡ move_clock c r n → is_lcd r ≡ true → valid_clock c r ≡ true → in_range (moved_by c r n).at ≡ true → m ≡ Ok (moved_by c r n)
  unfolding move_clock check_clock
  move_passed n m e l v i = ok_from_numbered number m (first_of (check_clock c r) (time_row (moved_by c r n).at)) (moved_by c r n) e (rw (l, v, i))

  -- at most limit edges, and the clock moved by them
  pub pass_passed : (now : Time) (limit : ℕ) (p : Result Passed Refusal) → answered_pass p ≡ pass_edges c r now limit → in_range now ≡ true → is_lcd r ≡ true → valid_clock c r ≡ true → p ≡ Ok (record { count = min (edges_to c r now) limit; clock = moved_by c r (min (edges_to c r now) limit) })
  unfolding pass_edges check_clock
  pass_passed now limit (Ok p) e i l v =
      let q = rw (i, l, v) at e in
      let pair : ◌≡◌ {A = ℕ × Clock} (p.count, p.clock) (min (edges_to c r now) limit, moved_by c r (min (edges_to c r now) limit)) = cc in
      ap (λ (x : ℕ × Clock). passed x.0 x.1) pair
  pass_passed now limit (Err why) e i l v = let q = rw (i, l, v) at e in cc

  -- what an answer to it says of the clock
  pub pass_valid : (now : Time) (limit : ℕ) {p : Passed} → answered_pass (Ok p) ≡ pass_edges c r now limit → in_range now ≡ true → is_lcd r ≡ true → valid_clock c r ≡ true
  unfolding pass_edges check_clock
  pass_valid now limit {p} e i l = go (valid_clock c r) refl
    where
      go : (t : Bool) → valid_clock c r ≡ t → valid_clock c r ≡ true
      go true v = v
      go false v = let q = rw (i, l, v) at e in cc

  pub pass_refused : (now : Time) (limit : ℕ) (why : Refusal) → answered_pass (Err why) ≡ pass_edges c r now limit → in_range now ≡ true → is_lcd r ≡ true → valid_clock c r ≡ false
  unfolding pass_edges check_clock
  pass_refused now limit why e i l = go (valid_clock c r) refl
    where
      go : (t : Bool) → valid_clock c r ≡ t → valid_clock c r ≡ false
      go false v = v
      go true v = let q = rw (i, l, v) at e in cc
