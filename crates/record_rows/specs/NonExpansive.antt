-- Whether a record is non-expansive: no label of its record type may be set, and its values are non-expansive.
use Rattle.std.specs.Prelude.{ℕ, Bool, true, not, ◌&&◌, List, [], ◌∷◌, filter_map, Option, Some, None}
use Rattle.tree_model.specs.Trees.{Part, taken, inner, missing}
use Rattle.signature_model.specs.Declarations as rules
use Rattle.signature_model.specs.Lookups.{FoundAmong, an_entry, a_hole, nothing}
use Rattle.row_parts.specs.Numbered.{Numbered, first_in}
use Rattle.typing_model.specs.Contexts.{Context}
use Rattle.typing_model.specs.Parts.{Written, Form, a_path}
use Rattle.typing_model.specs.Records.{declaration_found, labels_in}
use Rattle.typing_model.specs.Expressions.{none_mutable, all_values}
use Rattle.env_table.specs.declared.entries.Entry.{Entry}
use Rattle.env_table.specs.declared.entries.Label.{Label}
use Rattle.env_table.specs.declared.entries.What.{What}
use Rattle.env_table.specs.declared.entries.What.TheVariants as what
use Rattle.typing_rows.specs.Asked.{expressions_of}
use Rattle.record_steps.specs.Named.{labels_here}
use Rattle.record_steps.specs.Recording.{found_here}

-- whether none of these labels of the code may be set
abbrev pub none_set : List Label → Bool
none_set [] = true
none_set (l ∷ ls) = not l.is_mutable && none_set ls

-- the same of the labels of the declaration that a label belongs to; what is no label has none
abbrev pub what_unset : What → Bool
what_unset (what.Label d k) = none_set (labels_here d.value.shape)
what_unset _ = true

-- the same of what labels find
abbrev pub found_unset : FoundAmong Entry → Bool
found_unset (an_entry e) = what_unset e.what
found_unset a_hole = true
found_unset nothing = true

-- whether no label may be set of the record type that labels find by the names of the code
abbrev pub unset_here : List Entry → List Written → Bool
unset_here env ps = found_unset (found_here env ps)

-- whether no label of a declaration may be set, where there is one
abbrev pub is_unset : Option rules.Declaration → Bool
is_unset found = elim found [ None ↦ true | Some d ↦ none_mutable (labels_in d.shape) ]

-- the same of the record type that labels find by the definitions
abbrev pub unset_in : Context → List Written → Bool
unset_in c ps = is_unset (declaration_found c ps)

-- the value of a field that is there and has one of its own
abbrev pub field_value_in : ℕ → Part → Option Numbered
field_value_in n (taken t) = None
field_value_in n (inner t) = first_in n t 3
field_value_in n (missing at) = None

-- the values of fields that have one of their own
abbrev pub field_values : List Numbered → List Numbered
field_values os = filter_map (λ o. field_value_in o.number o.part) os

-- whether a record of these labels and values is non-expansive, by the names of the code
abbrev pub is_constant_here : List Entry → Context → ℕ → List Written → List Numbered → Bool
is_constant_here env c i ps values = unset_here env ps && all_values c (expressions_of i values)

-- a form that is no label's
abbrev pub IsNoLabel : Form → Type 0
IsNoLabel (a_path p) = ⊥
IsNoLabel _ = Unit {0}
