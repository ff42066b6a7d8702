-- Choices of types that agree on the record types that declarations re-export: to which record a label belongs depends on the type that its declaration names.
use Rattle.std.specs.Prelude.{◌≡◌, ℕ, ◌+◌, List, [], ◌∷◌, filter_map, Option, Some, None}
use Rattle.tree_model.specs.Trees.{Tree, node}
use Rattle.tree_model.specs.Rows.{Row, type_row}
use Rattle.signature_model.specs.Records.{origin_of}
use Rattle.typing_model.specs.Contexts.{Choice}
use Rattle.typing_model.specs.Parts.{constructors, labels, RightSide, another, own, DeclarationPart, Child, in_slot}
use Rattle.typing_model.specs.Meanings.{children_of, item_base}

-- the type that a re-export of labels names has one origin in both
abbrev pub AgreeRight : Choice → Choice → Option RightSide → Type 0
AgreeRight ch other None = Unit {0}
AgreeRight ch other (Some (own r)) = Unit {0}
AgreeRight ch other (Some (another n t l None)) = Unit {0}
AgreeRight ch other (Some (another n t l (Some (constructors ks)))) = Unit {0}
AgreeRight ch other (Some (another n t l (Some (labels ls)))) = origin_of (ch.type_at t.node) ≡ origin_of (other.type_at t.node)

-- so it is in each declaration of a group
abbrev pub AgreeOn : Choice → Choice → List DeclarationPart → Type 0
AgreeOn ch other [] = Unit {0}
AgreeOn ch other (d ∷ ds) = AgreeRight ch other d.right × AgreeOn ch other ds

-- so it is in an item of a row over its parts
abbrev pub AgreeRow : Choice → Choice → Row → List Child → Type 0
AgreeRow ch other type_row cs = AgreeOn ch other (filter_map (λ c. c.declaration) (in_slot 2 cs))
AgreeRow ch other _ cs = Unit {0}

-- so it is in the items of a text, the first of which has the number i
abbrev pub AreAgreed : Choice → Choice → ℕ → List Tree → Type 0
AreAgreed ch other i [] = Unit {0}
AreAgreed ch other i (node r x ps ∷ ts) = AgreeRow ch other r (children_of (item_base i + 1) r ps) × AreAgreed ch other (i + 1) ts
