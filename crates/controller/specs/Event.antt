-- Document 01, 'Controller': what a byte gives and is to store, and lent memory after it.
use Rattle.std.specs.Prelude.{ℕ, List, set, Option, Some, None}
use Rattle.controller.specs.declared.state.Nt7508.{Nt7508}
use Rattle.controller.specs.declared.event.Store.{Store}
use Rattle.controller.specs.declared.event.Stepped.{Stepped}

-- nothing to tell and nothing to store
abbrev pub unstored : Nt7508 → Stepped
unstored x = record { state = x; event = None; store = None }

-- lent memory with what is to be stored in it
abbrev pub ram_after : Option Store → (ram : List ℕ) → List ℕ
ram_after None ram = ram
ram_after (Some (Store.Ram at v)) ram = set ram at v
ram_after (Some (Store.Icon at v)) ram = ram

abbrev pub icons_after : Option Store → (icons : List ℕ) → List ℕ
icons_after None icons = icons
icons_after (Some (Store.Ram at v)) icons = icons
icons_after (Some (Store.Icon at v)) icons = set icons at v
