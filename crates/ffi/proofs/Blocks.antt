-- Words pasted into a block one part after another: what is done, and behind it what the block had before.
use Prim.Native.Nat.{ℕ, ◌+◌, ◌≤◌, ◌<◌}
use mathlib.Core.List.{List, [], ◌++◌, append-nil, append_assoc}
use mathlib.Core.Path.{◌≡◌, refl, ap, sym, ◌∙◌}
use native.Mathlib.Nat.{le_antisymm}
use native.Mathlib.Numerals.{add-one}
use native.Mathlib.Omega.{arith}
use lib.ListN.{length, get_or, set, drop, length-append, drop_of_length-le}
use lib.Seq.{paste, paste-suc, length-paste, take_at, drop_at, drop-drop}
use borrow.Rule.Slice.PartMut.{put_mid}
use Rattle.scan.specs.declared.settings.Settings as display
use Rattle.scan.specs.declared.state.Scan.{Scan}
use Rattle.controller.specs.declared.state.Nt7508.{Nt7508}
use Rattle.controller.specs.declared.state.Serial.{Serial}
use Rattle.controller.specs.declared.state.Address.{Address}
use Rattle.controller.specs.declared.state.Power.{Power}
use Rattle.ffi.specs.StateWords.{pasted, scan_part, display_part, analog_part, power_part, address_part, serial_part, state_words}

-- words pasted one by one: the block keeps its length, one word more, and all of them
module _ (d : List ℕ) (at : ℕ) (s : List ℕ) (fits : at + length s ≤ length d) (i : ℕ) (out : List ℕ) (is : out ≡ paste d at s i) where
  pub pasted_length : i ≤ length s → length out ≡ length d
  pasted_length h = ap length is ∙ length-paste d at s i (omega arith) h

  pub pasted_more : i < length s → set out (at + i) (get_or s i 0) ≡ paste d at s (i + 1)
  pasted_more h =
      ap (λ (o : List ℕ). set o (at + i) (get_or s i 0)) is
      ∙ paste-suc d at s i 0 (omega arith) h
      ∙ ap (λ (n : ℕ). paste d at s n) (sym (add-one i))

  pub pasted_all : i ≤ length s → length s ≤ i → out ≡ pasted d at s
  unfolding pasted
  pasted_all h k = is ∙ ap (λ (n : ℕ). paste d at s n) (le_antisymm h k)

-- one part more behind what is done
grown : (w done part : List ℕ) (n m : ℕ) → length done ≡ n → put_mid n m (done ++ drop n w) part ≡ (done ++ part) ++ drop (n + m) w
grown w done part n m e =
    (λ i. take_at done (drop n w) n e i ++ (part ++ drop m (drop_at done (drop n w) n e i)))
    ∙ ap (λ (l : List ℕ). done ++ (part ++ l)) (drop-drop m n w)
    ∙ sym (append_assoc done part (drop (n + m) w))

-- the block with its parts up to a place
pub record Filled (w done : List ℕ) (n : ℕ) (now : List ℕ) : Type 0 where
  pub long : length done ≡ n
  pub is : now ≡ done ++ drop n w

pub filled_none : (w : List ℕ) → Filled w [] 0 w
filled_none w = record { long = refl; is = refl }

longer : (done part : List ℕ) (n m : ℕ) → length part ≡ m → length done ≡ n → length (done ++ part) ≡ n + m
longer done part n m l e = length-append done part ∙ ap (λ (k : ℕ). k + length part) e ∙ ap (λ (k : ℕ). n + k) l

-- a part that is put there, and one that stands there already
pub filled_more : {w done now : List ℕ} {n : ℕ} (part : List ℕ) (m : ℕ) → length part ≡ m → {next : List ℕ} → next ≡ put_mid n m now part → Filled w done n now → Filled w (done ++ part) (n + m) next
filled_more {w} {done} {now} {n} part m l e f = record {
  long = longer done part n m l f.long;
  is = e ∙ ap (λ (o : List ℕ). put_mid n m o part) f.is ∙ grown w done part n m f.long;
}

pub filled_same : {w done now : List ℕ} {n : ℕ} (part : List ℕ) (m : ℕ) → length part ≡ m → drop n w ≡ part ++ drop (n + m) w → Filled w done n now → Filled w (done ++ part) (n + m) now
filled_same {w} {done} {now} {n} part m l e f = record {
  long = longer done part n m l f.long;
  is = f.is ∙ ap (λ (r : List ℕ). done ++ r) e ∙ sym (append_assoc done part (drop (n + m) w));
}

pub filled_all : {w done now : List ℕ} {n : ℕ} → length w ≡ n → Filled w done n now → now ≡ done
filled_all {w} {done} {now} {n} l f = f.is ∙ ap (λ (r : List ℕ). done ++ r) (drop_of_length-le w {i = n} (omega (arith, l))) ∙ append-nil done

-- the lengths of the parts
pub length_scan : (x : Scan) → length (scan_part x) ≡ 27
unfolding scan_part
length_scan x = refl

pub length_display : (x : display.Settings) → length (display_part x) ≡ 20
unfolding display_part
length_display x = refl

pub length_power : (x : Power) → length (power_part x) ≡ 10
unfolding power_part
length_power x = refl

pub length_address : (x : Address) → length (address_part x) ≡ 4
unfolding address_part
length_address x = refl

pub length_serial : (x : Serial) → length (serial_part x) ≡ 6
unfolding serial_part
length_serial x = refl

-- a block into which the parts are put one after another
pub put_parts : (w : List ℕ) {a b c d e f : List ℕ} (x : Nt7508) → length w ≡ 75 → a ≡ scan_part x.scan → b ≡ display_part x.display → c ≡ analog_part x.analog → d ≡ power_part x.power → e ≡ address_part x.address → f ≡ serial_part x.serial → put_mid 69 6 (put_mid 65 4 (put_mid 55 10 (put_mid 47 8 (put_mid 27 20 (put_mid 0 27 w a) b) c) d) e) f ≡ state_words x
unfolding state_words
put_parts w x long ea eb ec ed ee ef =
    (λ i. put_mid 69 6 (put_mid 65 4 (put_mid 55 10 (put_mid 47 8 (put_mid 27 20 (put_mid 0 27 w (ea i)) (eb i)) (ec i)) (ed i)) (ee i)) (ef i))
    ∙ filled_all long
    (filled_more _ 6 (length_serial x.serial) refl
    (filled_more _ 4 (length_address x.address) refl
    (filled_more _ 10 (length_power x.power) refl
    (filled_more _ 8 refl refl
    (filled_more _ 20 (length_display x.display) refl
    (filled_more _ 27 (length_scan x.scan) refl (filled_none w)))))))
