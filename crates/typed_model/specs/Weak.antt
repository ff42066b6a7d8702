-- Which variables of a text's types are weak (OCaml manual, "Polymorphism and its limitations").
use Rattle.std.specs.Prelude.{◌≡◌, ℕ, Bool, List}
use Rattle.tree_model.specs.Trees.{Tree}
use Rattle.signature_model.specs.Entries.{Environment, free_in}
use Rattle.type_print_model.specs.Variables.{is_among}
use Rattle.typing_model.specs.Contexts.{Choice}
use Rattle.typing_model.specs.Demands.{Site}
use Rattle.typing_model.specs.Items.{behind_items}
use Rattle.typing_model.specs.Meanings.{items_of}
use Rattle.typing_model.specs.Typings.{outermost}

-- a list has exactly the variables that are free in the names after the items, in a typing of them from these names with the kept demands
abbrev pub AreWeak : List Tree → Environment → (Site → Bool) → Choice → List ℕ → Type 0
AreWeak items env kept choice weak = (v : ℕ) → is_among v weak ≡ free_in v (behind_items (outermost env kept choice) (items_of items))
