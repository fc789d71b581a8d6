-- Laws of the image: levels, what a glass row shows, the image by row and by byte, what the call leaves, and the registers it reads.
use Rattle.std.proofs.Common.{◌≡◌, ℕ, zero, suc, ◌+◌, ◌*◌, ◌/◌, ◌%◌, ◌<◌, ◌≤◌, Bool, true, false, cond, ◌&&◌, eqb, ltb, Option, Some, None, List, length, get_or, take, drop, sym, refl, ap, ◌∙◌, div-lt_iff_lt-mul, mul-le-mul, mul-pos, mul-suc, add-one, arith, get_or-drop, get_or-take}
use Rattle.checks.specs.Checks.{unless_refused}
use Rattle.scan.specs.Check.{check_image}
use Rattle.scan.specs.Planes.{row_bits, shown_shade}
use Rattle.scan.specs.Paint.{levels_of, row_level}
use Rattle.scan.specs.Image.{up_to, rows_up_to, lit_by, cycle_of, widths, level_of, glass_common, line_of, ram_row_of, page_level, ram_level, pixel, image_row, image, rendered}
use Rattle.scan.specs.Settings.{pwm_widths, pwm_of, frc_count_of}
use Rattle.scan.specs.Shade.{column_of, planes, shade_of, pulse_width}
use Rattle.scan.proofs.Checks.{painted_checks}
use Rattle.scan.proofs.Rows.{length_up_to, get_d_up_to, length_rows, row_of_rows}
use Rattle.scan.proofs.Shades.{planes_in_lem, pulse_le}
use Rattle.scan.specs.declared.settings.Settings.{Settings}

-- what the gray mode gives
pwm_bounds : (gray : ℕ) → (9 ≤ pwm_of gray) × (pwm_of gray ≤ 15)
unfolding pwm_of
pwm_bounds gray = go (gray % 4) (omega arith)
  where
    go : (k : ℕ) → k < 4 → (9 ≤ get_or pwm_widths k 0) × (get_or pwm_widths k 0 ≤ 15)
    go zero l = omega arith
    go (suc zero) l = omega arith
    go (suc (suc zero)) l = omega arith
    go (suc (suc (suc zero))) l = omega arith
    go (suc (suc (suc (suc k)))) l = absurd (omega arith)

pub frc_bounds : (gray : ℕ) → (3 ≤ frc_count_of gray) × (frc_count_of gray ≤ 4)
unfolding frc_count_of
frc_bounds gray = go (eqb (gray / 4 % 2) 0)
  where
    go : (t : Bool) → (3 ≤ cond t 4 3) × (cond t 4 3 ≤ 4)
    go true = omega arith
    go false = omega arith

module _ (s : Settings) where
  pub cycle_pos : 0 < cycle_of s
  cycle_pos = mul-pos (omega (arith, (pwm_bounds s.gray_mode).0)) (omega (arith, (frc_bounds s.gray_mode).0))

  pub cycle_le : cycle_of s ≤ 60
  cycle_le = mul-le-mul (pwm_bounds s.gray_mode).1 (frc_bounds s.gray_mode).1

  widths_le : (shade n : ℕ) → widths s shade n ≤ pwm_of s.gray_mode * n
  unfolding widths
  widths_le shade zero = omega arith
  widths_le shade (suc n) = rw mul-suc (omega (arith, widths_le shade n, pulse_le s shade n (pwm_of s.gray_mode)))

  pub widths_fit : (shade n : ℕ) → n ≤ 4 → widths s shade n ≤ 60
  widths_fit shade n h = omega (arith, widths_le shade n, mul-le-mul (pwm_bounds s.gray_mode).1 h)

  pub widths_more : (shade n : ℕ) → widths s shade n + pulse_width s shade n (pwm_of s.gray_mode) ≡ widths s shade (n + 1)
  unfolding widths
  widths_more shade n = rw add-one

  -- a level fits a byte
  pub level_lt : (shade : ℕ) → level_of s shade < 256
  unfolding level_of
  level_lt shade =
      let sum = widths s shade (frc_count_of s.gray_mode) in
      (div-lt_iff_lt-mul {x = 255 * sum + cycle_of s / 2} {y = 256} cycle_pos).1 (omega (arith, cycle_pos, widths_le shade (frc_count_of s.gray_mode)))

  level_at_lem : (n : ℕ) → n < 4 → get_or (levels_of s) n 0 ≡ level_of s (shown_shade s n)
  unfolding levels_of
  level_at_lem zero l = refl
  level_at_lem (suc zero) l = refl
  level_at_lem (suc (suc zero)) l = refl
  level_at_lem (suc (suc (suc zero))) l = refl
  level_at_lem (suc (suc (suc (suc k)))) l = absurd (omega arith)

  -- a row's levels from its bits
  level_read : (part : List ℕ) (place : ℕ) → length part ≡ 256 → (x : ℕ) → row_level (levels_of s) (row_bits part place) s.segment_reverse x ≡ page_level s part place x
  unfolding page_level shade_of
  level_read part place whole x =
      let column = column_of s.segment_reverse x in
      ap (λ (n : ℕ). get_or (levels_of s) n 0) (planes_in_lem part place whole column) ∙ level_at_lem (planes part place column) (omega arith)

  pub page_painted : (part : List ℕ) (place : ℕ) → length part ≡ 256 → {levels bits : List ℕ} → levels ≡ levels_of s → bits ≡ row_bits part place → up_to (row_level levels bits s.segment_reverse) 96 ≡ up_to (page_level s part place) 96
  page_painted part place whole e b =
      (λ i. up_to (row_level (e i) (b i) s.segment_reverse) 96) ∙ (λ i. up_to (λ (x : ℕ). level_read part place whole x i) 96)

pub glass_common_le : (reversed : Bool) (y : ℕ) → y < 64 → glass_common reversed y ≤ 95
glass_common_le true y l = omega arith
glass_common_le false y l = omega arith

module _ (s : Settings) (lit : Bool) (ram : List ℕ) where
  -- a glass row by the test of its line: a row of RAM, or nothing
  pub row_by : (y : ℕ) {t : Bool} → (lit && ltb (line_of s y) s.duty) ≡ t → up_to (λ (x : ℕ). cond t (ram_level s ram (ram_row_of s (line_of s y)) x) 0) 96 ≡ image_row s lit ram y
  unfolding image_row pixel
  row_by y e = ap (λ (b : Bool). up_to (λ (x : ℕ). cond b (ram_level s ram (ram_row_of s (line_of s y)) x) 0) 96) (sym e)

  pub length_row : (y : ℕ) → length (image_row s lit ram y) ≡ 96
  unfolding image_row
  length_row y = length_up_to (pixel s lit ram y) 96

module _ (s : Settings) (driven : Bool) (ram : List ℕ) where
  pub length_image : length (image s driven ram) ≡ 6144
  unfolding image
  length_image = length_rows (image_row s (lit_by s driven) ram) (length_row s (lit_by s driven) ram) 64

  -- each row of the image is the glass row
  pub image_row_lem : (y : ℕ) → y < 64 → take 96 (drop (y * 96) (image s driven ram)) ≡ image_row s (lit_by s driven) ram y
  unfolding image
  image_row_lem y l = row_of_rows (image_row s (lit_by s driven) ram) (length_row s (lit_by s driven) ram) 64 y l

  -- each byte of the image is the pixel
  pub image_byte : (y x : ℕ) → y < 64 → x < 96 → get_or (image s driven ram) (y * 96 + x) 0 ≡ pixel s (lit_by s driven) ram y x
  unfolding image_row
  image_byte y x ly lx =
      sym (get_or-drop (y * 96) (image s driven ram) x 0)
      ∙ sym (get_or-take 96 (drop (y * 96) (image s driven ram)) x 0 lx)
      ∙ ap (λ (l : List ℕ). get_or l x 0) (image_row_lem y ly)
      ∙ get_d_up_to (pixel s (lit_by s driven) ram y) 96 x lx

  -- the lent image keeps its length
  pub length_rendered : (icons before : List ℕ) → length (rendered s driven ram icons before) ≡ length before
  unfolding rendered
  length_rendered icons before = go (check_image s ram icons (length before)) refl
    where
      go : (c : Option ℕ) → check_image s ram icons (length before) ≡ c → length (unless_refused c (image s driven ram) before) ≡ length before
      go None h = length_image ∙ sym (painted_checks s ram icons (length before) h).image_length
      go (Some n) h = refl

-- s, but for what the image does not read: icons on, line inversion and the oscillator's frequency are those of t
abbrev pub image_settings : Settings → Settings → Settings
image_settings s t = record {
  start_line = s.start_line;
  icon_enabled = t.icon_enabled;
  entire_on = s.entire_on;
  reverse = s.reverse;
  segment_reverse = s.segment_reverse;
  common_reverse = s.common_reverse;
  initial_com = s.initial_com;
  duty = s.duty;
  inversion_lines = t.inversion_lines;
  gray_mode = s.gray_mode;
  palette = s.palette;
  oscillator_control = s.oscillator_control;
  oscillator_frequency = t.oscillator_frequency;
}

module _ (s t : Settings) where
  widths_unread : (shade n : ℕ) → widths s shade n ≡ widths (image_settings s t) shade n
  unfolding widths pulse_width
  widths_unread shade zero = refl
  widths_unread shade (suc n) = ap (λ (w : ℕ). w + pulse_width s shade n (pwm_of s.gray_mode)) (widths_unread shade n)

  level_unread : (shade : ℕ) → level_of s shade ≡ level_of (image_settings s t) shade
  unfolding level_of
  level_unread shade = ap (λ (w : ℕ). (255 * w + cycle_of s / 2) / cycle_of s) (widths_unread shade (frc_count_of s.gray_mode))

  pixel_unread : (lit : Bool) (ram : List ℕ) (y x : ℕ) → pixel s lit ram y x ≡ pixel (image_settings s t) lit ram y x
  unfolding pixel page_level shade_of line_of ram_row_of
  pixel_unread lit ram y x = ap (λ (n : ℕ). cond (lit && ltb (line_of s y) s.duty) n 0) (level_unread _)

  image_unread : (driven : Bool) (ram : List ℕ) → image s driven ram ≡ image (image_settings s t) driven ram
  unfolding image image_row lit_by
  image_unread driven ram = λ i. rows_up_to (λ (y : ℕ). up_to (λ (x : ℕ). pixel_unread (lit_by s driven) ram y x i) 96) 64

-- settings that differ in nothing that the image reads
abbrev pub SameImage : Settings → Settings → Type 0
SameImage s t = image_settings s t ≡ t

pub image_same : (s t : Settings) → SameImage s t → (driven : Bool) (ram : List ℕ) → image s driven ram ≡ image t driven ram
image_same s t same driven ram = image_unread s t driven ram ∙ ap (λ (u : Settings). image u driven ram) same
