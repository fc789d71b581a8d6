use Rattle.ffi.proofs.scan_words.scan_bytes.Goals as goal

pub returns : goal.returns
returns c = simp (c.from.ensures, c.from-2.ensures, c.from-3.ensures, c.from-4.ensures)
