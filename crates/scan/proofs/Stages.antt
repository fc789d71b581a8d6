-- Up to four pieces, one after another: the piece rule is used at most four times, whatever larger bound its uses have.
use Rattle.std.proofs.Common.{◌≡◌, ℕ, zero, suc, ◌+◌, ◌-◌, ◌≤◌, Bool, true, false, sym, refl, ap, ◌∙◌, zero-add, arith}
use Rattle.clock.specs.declared.time.Time.{Time}
use Rattle.clock.specs.Time.{raw, in_range}
use Rattle.scan.specs.Count.{due, rate_same, row_same, frame_same, piece, pieces_for, pieces}
use Rattle.scan.proofs.Checks.{Valid, ValidSettings}
use Rattle.scan.proofs.Pieces.{ends_within, piece_valid, pieces_none, pieces_more, all_ends, none_after, reached, rate_then, row_then, frame_then}
use Rattle.scan.specs.declared.settings.Settings.{Settings}
use Rattle.scan.specs.declared.state.Scan.{Scan}

-- k pieces that went to their limits have come to the scan y: the rate is in force after the first, what a row end takes
-- after the second too, and what a frame end takes after the third too
record After (x : Scan) (s : Settings) (now : Time) (k : ℕ) (y : Scan) : Type 0 where
  valid : Valid y
  uses : (m : ℕ) → pieces_for (k + m) x s now ≡ k + pieces_for m y s now
  rate : 1 ≤ k → rate_same y s ≡ true
  row : 2 ≤ k → row_same y s ≡ true
  frame : 3 ≤ k → frame_same y s ≡ true

-- the uses of the piece rule by any bound from four on
record Uses (x : Scan) (s : Settings) (now : Time) : Type 0 where
  number : ℕ
  few : number ≤ 4
  by_bound : (m : ℕ) → 4 ≤ m → pieces_for m x s now ≡ number

module _ (s : Settings) (vs : ValidSettings s) (now : Time) (i : in_range now ≡ true) (x : Scan) where
  at_first : Valid x → After x s now 0 x
  at_first v = record {
    valid = v;
    uses = λ m. ap (λ (n : ℕ). pieces_for n x s now) (zero-add m) ∙ sym (zero-add (pieces_for m x s now));
    rate = λ h. absurd (omega arith);
    row = λ h. absurd (omega arith);
    frame = λ h. absurd (omega arith);
  }

  module _ (k : ℕ) (y : Scan) (a : After x s now k y) where
    one_more_lem : ends_within y s now ≡ false → After x s now (suc k) (piece y s now)
    one_more_lem more = record {
      valid = piece_valid s vs now i y a.valid;
      uses = λ m.
          let turn : suc k + m ≡ k + suc m = omega arith in
          omega (arith, ap (λ (n : ℕ). pieces_for n x s now) turn, a.uses (suc m), pieces_more m y s now (reached s now i y a.valid more).1);
      rate = λ h. rate_then s now i y a.valid more;
      row = λ h. row_then s now i y a.valid more (a.rate (omega arith));
      frame = λ h. frame_then s now i y a.valid more (a.rate (omega arith)) (a.row (omega arith));
    }

    fourth_ends : 3 ≤ k → ends_within y s now ≡ true
    fourth_ends h = all_ends s now i y a.valid (a.rate (omega arith)) (a.row (omega arith)) (a.frame h)

    -- a piece that counts all is the last
    last_use : k ≤ 3 → ends_within y s now ≡ true → Uses x s now
    last_use few ends = go (due y now) refl
      where
        split : (m : ℕ) → 4 ≤ m → m ≡ k + suc (m - k - 1)
        split m h = omega arith

        used : (m : ℕ) → 4 ≤ m → pieces_for m x s now ≡ k + pieces_for (suc (m - k - 1)) y s now
        used m h = ap (λ (n : ℕ). pieces_for n x s now) (split m h) ∙ a.uses (suc (m - k - 1))

        go : (t : Bool) → due y now ≡ t → Uses x s now
        go false d = record {
          number = k;
          few = omega arith;
          by_bound = λ m h. omega (arith, used m h, pieces_none (suc (m - k - 1)) y s now d);
        }
        go true d = record {
          number = k + 1;
          few = omega arith;
          by_bound = λ m h. omega (arith, used m h, pieces_more (m - k - 1) y s now d, pieces_none (m - k - 1) (piece y s now) s now (none_after s now i y a.valid ends));
        }

  at_most : (j k : ℕ) → j + k ≡ 3 → (y : Scan) → After x s now k y → Uses x s now
  at_most zero k e y a = last_use k y a (omega arith) (fourth_ends k y a (omega arith))
  at_most (suc j) k e y a = go (ends_within y s now) refl (at_most j (suc k) (omega arith) (piece y s now))
    where
      go : (t : Bool) → ends_within y s now ≡ t → (After x s now (suc k) (piece y s now) → Uses x s now) → Uses x s now
      go true h next = last_use k y a (omega arith) h
      go false h next = next (one_more_lem k y a h)

  uses_of : Valid x → Uses x s now
  uses_of v = at_most 3 0 (omega arith) x (at_first v)

  -- the piece rule is used at most four times
  pub at_most_four : Valid x → pieces x s now ≤ 4
  unfolding pieces
  at_most_four v = let u = uses_of v in omega (arith, u.by_bound (raw now + 4) (omega arith), u.few)

  -- and once more than after its first piece
  pub pieces_next : Valid x → due x now ≡ true → pieces x s now ≡ suc (pieces (piece x s now) s now)
  unfolding pieces
  pieces_next v d =
      let u = uses_of v in
      u.by_bound (raw now + 4) (omega arith) ∙ sym (u.by_bound (suc (raw now + 4)) (omega arith)) ∙ pieces_more (raw now + 4) x s now d
