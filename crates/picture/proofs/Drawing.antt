-- What is drawn, put part by part.
use Prim.Native.Nat.{ℕ, zero, suc, ◌+◌, ◌*◌, ◌≤◌, ◌<◌}
use mathlib.Core.Bool.{Bool, true}
use mathlib.Core.List.{List, [], ◌∷◌, ◌++◌, map}
use Rattle.std.specs.Prelude.{Option, None, Some, Result, Ok, Err, IsOk}
use mathlib.Core.Path.{◌≡◌, refl, sym, ◌∙◌, ap}
use native.Mathlib.Nat.{zero-add}
use native.Mathlib.Numerals.{add-one}
use native.Mathlib.Omega.{arith}
use lib.ListN.{length, get_or, drop, drop_of_length-le, length-append, length-map}
use lib.Seq.{drop-cons, get_or-append-add}
use Rattle.checks.proofs.Chains.{never}
use Rattle.scan.specs.Check.{memory_ok, image_ok}
use Rattle.scan.specs.Drive.{driven}
use Rattle.scan.specs.Image.{lit_by, pixel, image}
use Rattle.scan.proofs.Images.{length_image, image_byte}
use Rattle.controller.specs.declared.check.Refusal.{Refusal}
use Rattle.controller.specs.declared.state.Nt7508.{Nt7508}
use Rattle.controller.specs.Check.{check_state, check_image}
use Rattle.controller.specs.Byte.{conditions_of}
use Rattle.controller.specs.Look.{painted, render_of}
use Rattle.controller.proofs.Checks.{image_alone}
use Rattle.strike.specs.Calls.{Machine}
use Rattle.decimal.specs.Print.{put_byte, put}
use Rattle.decimal.proofs.Printing.{put_append, put_whole}
use Rattle.session.specs.Listing.{refusal_line, refusal_text}
use Rattle.session.specs.Session.{run_of}
use Rattle.session.proofs.Lengths.{refusal_few}
use Rattle.picture.specs.Picture.{head, gray_of, picture_of, shown_at, fresh, drawn, written}

-- the pixels from i on
module _ (p : List ℕ × ℕ) (image : List ℕ) (i : ℕ) where
  pub grays_next : i < length image → put p (map gray_of (drop i image)) ≡ put (put_byte p (gray_of (get_or image i 0))) (map gray_of (drop (i + 1) image))
  unfolding put
  grays_next h = rw (add-one i, drop-cons image i 0 h)

  pub grays_done : length image ≤ i → put p (map gray_of (drop i image)) ≡ p
  unfolding put
  grays_done h = rw (drop_of_length-le image h)

-- a state that passes, with memory and an image of their lengths, is painted, and its picture is the head and those pixels
module _ (x : Nt7508) (h : check_state x ≡ None) (ram icons before : List ℕ) (of_ram : length ram ≡ 4096) (of_icons : length icons ≡ 256) (of_image : length before ≡ 6144) where
  passes : check_image x ram icons (length before) ≡ None
  unfolding memory_ok image_ok
  passes =
      let lent : memory_ok ram icons ≡ true = rw (of_ram, of_icons) in
      image_alone x h ram icons lent (length before) ∙ rw of_image

  pub paints : (check : Result Unit Refusal) (pixels : List ℕ) → painted check pixels ≡ render_of x ram icons before → IsOk check
  unfolding render_of
  paints (Ok a) pixels e = refl
  paints (Err why) pixels e = absurd (never (ap (λ (r : Option ℕ × List ℕ). r.0) e ∙ passes))

  pub picture_put :
      (check : Result Unit Refusal) (pixels : List ℕ) (p : List ℕ × ℕ) → painted check pixels ≡ render_of x ram icons before
      → put (put p head) (map gray_of pixels) ≡ put p (picture_of (record { state = x; ram = ram; icons = icons }))
  unfolding render_of picture_of
  picture_put check pixels p e =
      sym (put_append p head (map gray_of pixels)) ∙ ap (λ (l : List ℕ). put p (head ++ map gray_of l)) (rw passes at (ap (λ (r : Option ℕ × List ℕ). r.1) e))

-- behind the head, byte 96·y + x is the gray of the pixel of segment x in glass row y
gray_at : (l : List ℕ) (i : ℕ) → i < length l → get_or (map gray_of l) i 0 ≡ gray_of (get_or l i 0)
gray_at [] i h = absurd (omega arith)
gray_at (level ∷ l) zero h = refl
gray_at (level ∷ l) (suc i) h = gray_at l i (omega arith)

module _ (m : Machine) where
  lit : Bool
  lit = driven (conditions_of m.state.power)

  pub picture_byte :
      (y x : ℕ) → y < 64 → x < 96
      → get_or (picture_of m) (13 + (y * 96 + x)) 0 ≡ gray_of (pixel m.state.display (lit_by m.state.display (driven (conditions_of m.state.power))) m.ram y x)
  unfolding picture_of lit
  picture_byte y x in-height in-width =
      let s = m.state.display in
      let panel = image s lit m.ram in
      get_or-append-add head (map gray_of panel) (y * 96 + x) 0
      ∙ gray_at panel (y * 96 + x) (omega (arith, length_image s lit m.ram))
      ∙ ap gray_of (image_byte s lit m.ram y x in-height in-width)

-- what a text draws, by where it ends
module _ (text : List ℕ) where
  pub drawn_refused : (number line : ℕ) → (run_of text fresh).refusal ≡ Some (number, line) → refusal_line number line ≡ drawn text
  unfolding drawn
  drawn_refused number line h = rw h

  pub drawn_whole : (run_of text fresh).refusal ≡ None → picture_of (run_of text fresh).machine ≡ drawn text
  unfolding drawn
  drawn_whole h = rw h

-- all of it fits into 6,157 bytes
picture_length : (m : Machine) → length (picture_of m) ≡ 6157
unfolding picture_of
picture_length m =
    let s = m.state.display in
    let d = driven (conditions_of m.state.power) in
    let panel = image s d m.ram in
    rw (length-append head (map gray_of panel), length-map panel gray_of, length_image s d m.ram)

pub drawn_fits : (text : List ℕ) → length (drawn text) ≤ 6157
unfolding drawn refusal_text
drawn_fits text = let r = run_of text fresh in go r.refusal r.machine
  where
    go : (refusal : Option (ℕ × ℕ)) (m : Machine) → length (shown_at refusal m) ≤ 6157
    go None m = omega (arith, picture_length m)
    go (Some at) m = omega (arith, refusal_few (Some at))

pub put_drawn : (text out : List ℕ) → length out ≡ 6157 → put (out, 0) (drawn text) ≡ written out (drawn text)
unfolding written
put_drawn text out h =
    let all = drawn text in
    put_whole all out 0 (omega (arith, drawn_fits text)) ∙ (λ i. (all ++ drop (zero-add (length all) i) out, zero-add (length all) i))

-- the bytes written lie within the lent ones
pub written_fits : (out bytes : List ℕ) {out' : List ℕ} {count : ℕ} → ◌≡◌ {A = List ℕ × ℕ} (out', count) (written out bytes) → count ≤ length out'
unfolding written
written_fits out bytes e =
    omega (arith, ap (λ (p : List ℕ × ℕ). p.1) e, ap (λ (p : List ℕ × ℕ). length p.0) e, length-append bytes (drop (length bytes) out))
