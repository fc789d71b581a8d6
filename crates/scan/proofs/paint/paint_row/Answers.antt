use Rattle.std.proofs.Common.{ℕ, ◌+◌, ◌*◌, ◌/◌, ◌≤◌, length, replicate, sym, ap, ◌∙◌, arith, rules}
use Rattle.scan.specs.Image.{up_to, ram_row_of, ram_level}
use Rattle.scan.proofs.Images.{page_painted, row_by}
use Rattle.scan.proofs.Rows.{length_page, up_to_same}
use Rattle.scan.proofs.paint.paint_row.Goals as goal

pub returns-then-lit-line : goal.returns-then-lit-line
returns-then-lit-line c =
    let a = c.args in
    let row = c.ram_row_of.result in
    let within : row / 8 * 256 + 256 ≤ length a.ram.now = omega (arith, c.ram_row_of.ensures.upper_bound) in
    c.paint_bits.ensures
    ∙ page_painted a.settings _ _ (length_page a.ram.now (row / 8) within) c.requires.levels_value c.of_ram-bits.ensures
    ∙ ap (λ (r : ℕ). up_to (ram_level a.settings a.ram.now r) 96) (c.ram_row_of.ensures.value ∙ ap (ram_row_of a.settings) c.line_of-line.ensures)
    ∙ row_by a.settings a.lit a.ram.now a.y (rw c.line_of-line.ensures at c.if-lit-line.true)

pub returns-else-lit-line : goal.returns-else-lit-line
returns-else-lit-line c =
    let a = c.args in
    c.fill.ensures.after (λ y h. search rules)
    ∙ ap (λ (n : ℕ). replicate n 0) c.requires.row_len
    ∙ sym (up_to_same 0 96)
    ∙ row_by a.settings a.lit a.ram.now a.y (rw c.line_of-line.ensures at c.if-lit-line.false)
