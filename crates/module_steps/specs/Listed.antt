-- Entries and origins with owners, and what is seen of a signature.
use Rattle.std.specs.Prelude.{List, [], map, Option, option_map}
use Rattle.std.specs.declared.rc.Rc.{Rc}
use Rattle.std.specs.declared.alloc.Global.{Global}
use Rattle.env_table.specs.declared.entries.What.{What}
use Rattle.env_table.specs.declared.entries.Entry.{Entry}
use Rattle.env_table.specs.declared.entries.Sig.{Sig, out-Sig}
use Rattle.env_table.specs.declared.entries.Sig.TheOpen.{Sig-F}
use Rattle.env_table.specs.declared.entries.Components.{Components, out-Components}
use Rattle.sig_template.specs.Structures.{entries_of}

-- what is recorded for name tokens, without the owners
abbrev pub seen_values : List (Option (Rc Entry Global)) → List (Option Entry)
seen_values es = map (λ e. option_map (λ (r : Rc Entry Global). r.value) e) es

-- the components of a structure in order; a functor has none, nor does a module that isn't known
abbrev pub opened_components : {T : Type 0} → Sig-F Sig What Components Entry T → List Entry
opened_components (Sig-F.Structure c) = entries_of (out-Components c).entries.items
opened_components (Sig-F.Functor p b) = []
opened_components Sig-F.Hole = []

abbrev pub components_of : Sig → List Entry
components_of s = opened_components (out-Sig s)
