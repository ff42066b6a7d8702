-- The types of the names that patterns bind don't depend on what is chosen for type variables that are written: each is that of a node, or a letter.
use Rattle.std.proofs.Common.{ℕ, ◌+◌, ◌==◌, Bool, true, false, List, [], ◌∷◌, ◌++◌, map, Option, None, Some, refl, if◌then◌else◌}
use Rattle.std.specs.List.{cons_option}
use Rattle.std.specs.Prelude.{filter_map}
use Rattle.tree_model.specs.Rows.{Row, pname_row, pparen_row, plist_row, precord_row, papp_row, pcons_row, ptuple_row, por_row, pas_row, qfield_row, binding_row}
use Rattle.tree_model.specs.Trees.{Place, Tree, Forest, Part, node, no_parts, part, taken, inner, missing, part_size, place}
use Rattle.token_model.specs.Kinds.{Tok}
use Rattle.typing_model.specs.Contexts.{Bound}
use Rattle.typing_model.specs.Parts.{Written, Pattern, TypeExpression, FieldPattern, Binding, Child, in_slot, first_of, patterns_in, pattern_in, types_in, path_in, token_in, no_pattern_at}
use Rattle.typing_model.specs.Patterns.{names_in_field, precord, pname, papp, pparen, pas, all_names, pattern_row}
use Rattle.typing_model.specs.Bindings.{names_of_group}
use Rattle.typing_model.specs.Meanings.{binding_of, field_pattern_of, children_of, child_of, tree_child}
use Rattle.row_parts.specs.Numbered.{Numbered}
use Rattle.operand_laws.specs.Operands.{child_at}
use Rattle.binding_rows.specs.Operands.{bindings_of}
use Rattle.binding_rows.specs.ItemGroups.{NoneWritten}

-- so it is of the names of patterns
abbrev NoneIn : List Pattern → Type 0
NoneIn [] = Unit {0}
NoneIn (p ∷ ps) = NoneWritten p.names × NoneIn ps

-- of those of a field, which may have no pattern of its own
abbrev NoneInField : FieldPattern → Type 0
NoneInField f = (n : ℕ) → NoneWritten (names_in_field n f)

abbrev NoneInFields : List FieldPattern → Type 0
NoneInFields [] = Unit {0}
NoneInFields (f ∷ fs) = NoneInField f × NoneInFields fs

-- and of those of a part, as a pattern, as a field and as a binding
abbrev NoneInFieldIf : Option FieldPattern → Type 0
NoneInFieldIf None = Unit {0}
NoneInFieldIf (Some f) = NoneInField f

abbrev NoneInBindingIf : Option Binding → Type 0
NoneInBindingIf None = Unit {0}
NoneInBindingIf (Some b) = NoneWritten b.pattern.names

record NoneInPart (k : Child) : Type 0 where
  as_pattern : NoneWritten k.pattern.names
  as_field : NoneInFieldIf k.field_pattern
  as_binding : NoneInBindingIf k.binding

abbrev NoneInParts : List Child → Type 0
NoneInParts [] = Unit {0}
NoneInParts (k ∷ ks) = NoneInPart k × NoneInParts ks

none_both : (bs cs : List Bound) → NoneWritten bs → NoneWritten cs → NoneWritten (bs ++ cs)
none_both [] cs p q = q
none_both (b ∷ bs) cs p q = (p.0, none_both bs cs p.1 q)

none_in_slot : (s : ℕ) (ks : List Child) → NoneInParts ks → NoneInParts (in_slot s ks)
none_in_slot s [] h = tt
none_in_slot s (k ∷ ks) h = by (k.slot == s) h.0 (none_in_slot s ks h.1)
  where
    by : (b : Bool) → NoneInPart k → NoneInParts (in_slot s ks) → NoneInParts (if b then k ∷ in_slot s ks else in_slot s ks)
    by true p more = (p, more)
    by false p more = more

none_in_patterns : (ks : List Child) → NoneInParts ks → NoneIn (map (λ (k : Child). k.pattern) ks)
none_in_patterns [] h = tt
none_in_patterns (k ∷ ks) h = (h.0.as_pattern, none_in_patterns ks h.1)

none_in_both : (ps qs : List Pattern) → NoneIn ps → NoneIn qs → NoneIn (ps ++ qs)
none_in_both [] qs h i = i
none_in_both (p ∷ ps) qs h i = (h.0, none_in_both ps qs h.1 i)

patterns_none : (s : ℕ) (ks : List Child) → NoneInParts ks → NoneIn (patterns_in s ks)
patterns_none s ks h = none_in_patterns (in_slot s ks) (none_in_slot s ks h)

first_none : (ps : List Pattern) → NoneIn ps → NoneWritten (let p : Pattern = elim (first_of ps) [ None ↦ no_pattern_at 0 (place 0 0) | Some p ↦ p ] in p.names)
first_none [] h = tt
first_none (p ∷ ps) h = h.0

-- the pattern in a slot
one_none : (s : ℕ) (ks : List Child) → NoneInParts ks → NoneWritten (pattern_in s ks).names
one_none s ks h = first_none (patterns_in s ks) (patterns_none s ks h)

all_none : (ps : List Pattern) → NoneIn ps → NoneWritten (all_names ps)
all_none [] h = tt
all_none (p ∷ ps) h = none_both p.names (all_names ps) h.0 (all_none ps h.1)

name_none : (n : ℕ) (at : Place) (t : Option Tok) → NoneWritten (pname n at t).names
name_none n at None = tt
name_none n at (Some t) = (λ ch w. refl, tt)

as_none : (n : ℕ) (at : Place) (p : Pattern) (t : Option Tok) → NoneWritten p.names → NoneWritten (pas n at p t).names
as_none n at p None h = all_none (p ∷ []) (h, tt)
as_none n at p (Some t) h = none_both p.names _ h (λ ch w. refl, tt)

paren_none : (n : ℕ) (at : Place) (p : Pattern) (t : Option TypeExpression) → NoneWritten p.names → NoneWritten (pparen n at p t).names
paren_none n at p None h = all_none (p ∷ []) (h, tt)
paren_none n at p (Some t) h = all_none (p ∷ []) (h, tt)

application_none : (n : ℕ) (at : Place) (head p : Pattern) → NoneWritten p.names → NoneWritten (papp n at head p).names
application_none n at head p h = by head.constructor
  where
    by : (o : Option Written) → NoneWritten (papp n at (record head { constructor = o }) p).names
    by None = all_none (p ∷ []) (h, tt)
    by (Some path) = h

record_none : (n : ℕ) (at : Place) (fs : List FieldPattern) → NoneInFields fs → NoneWritten (precord n at fs).names
record_none n at [] h = tt
record_none n at (f ∷ fs) h = none_both (names_in_field n f) (precord n at fs).names (h.0 n) (record_none n at fs h.1)

fields_none : (ks : List Child) → NoneInParts ks → NoneInFields (filter_map (λ (k : Child). k.field_pattern) ks)
fields_none [] h = tt
fields_none (k ∷ ks) h = by k.field_pattern h.0.as_field (fields_none ks h.1)
  where
    by : (o : Option FieldPattern) → NoneInFieldIf o → NoneInFields (filter_map (λ (k : Child). k.field_pattern) ks) → NoneInFields (cons_option o (filter_map (λ (k : Child). k.field_pattern) ks))
    by None p more = more
    by (Some f) p more = (p, more)

-- the names of a pattern, by its row
row_none : (r : Row) (n : ℕ) (at : Place) (ks : List Child) → NoneInParts ks → NoneWritten (pattern_row r n at ks).names
unfolding pattern_row
row_none pname_row n at ks h = name_none n at (token_in 0 ks)
row_none pparen_row n at ks h = paren_none n at (pattern_in 1 ks) (first_of (types_in 3 ks)) (one_none 1 ks h)
row_none plist_row n at ks h = all_none (patterns_in 1 ks) (patterns_none 1 ks h)
row_none precord_row n at ks h = record_none n at _ (fields_none (in_slot 1 ks) (none_in_slot 1 ks h))
row_none papp_row n at ks h = application_none n at (pattern_in 0 ks) (pattern_in 1 ks) (one_none 1 ks h)
row_none pcons_row n at ks h = all_none (pattern_in 0 ks ∷ pattern_in 2 ks ∷ []) (one_none 0 ks h, (one_none 2 ks h, tt))
row_none ptuple_row n at ks h = all_none (patterns_in 0 ks ++ patterns_in 2 ks) (none_in_both (patterns_in 0 ks) (patterns_in 2 ks) (patterns_none 0 ks h) (patterns_none 2 ks h))
row_none por_row n at ks h = one_none 0 ks h
row_none pas_row n at ks h = as_none n at (pattern_in 0 ks) (token_in 2 ks) (one_none 0 ks h)
row_none _ n at ks h = tt

-- a field without a pattern binds its label's name, as a letter
pun_none : (m : ℕ) (label : Written) (ps : List Pattern) → NoneIn ps → (n : ℕ) → NoneWritten (names_in_field n (record { node = m; label = label; pattern = first_of ps }))
pun_none m label (p ∷ ps) h n = h.0
pun_none m label [] h n = by label.last
  where
    by : (o : Option Tok) → NoneWritten (names_in_field n (record { node = m; label = record label { last = o }; pattern = None }))
    by None = tt
    by (Some t) = (λ ch w. refl, tt)

field_none : (r : Row) (n : ℕ) (ks : List Child) → NoneInParts ks → NoneInFieldIf (field_pattern_of r n ks)
field_none qfield_row n ks h = pun_none n (path_in 0 1 ks) (patterns_in 3 ks) (patterns_none 3 ks h)
field_none _ n ks h = tt

binding_none : (r : Row) (n : ℕ) (ks : List Child) → NoneInParts ks → NoneInBindingIf (binding_of r n ks)
binding_none binding_row n ks h = one_none 0 ks h
binding_none _ n ks h = tt

mutual
  -- so it is of the parts of a row
  children_none : (n : ℕ) (r : Row) (ps : Forest) → NoneInParts (children_of n r ps)
  children_none n r no_parts = tt
  children_none n r (part slot p ps) = (child_none n slot p, children_none (n + part_size r slot p) r ps)

  child_none : (n slot : ℕ) (p : Part) → NoneInPart (child_of n slot p)
  child_none n slot (taken t) = record { as_pattern = tt; as_field = tt; as_binding = tt }
  child_none n slot (inner t) = tree_none n slot t
  child_none n slot (missing p) = record { as_pattern = tt; as_field = tt; as_binding = tt }

  tree_none : (n slot : ℕ) (t : Tree) → NoneInPart (tree_child n slot t)
  tree_none n slot (node r x ps) =
      let h = children_none (n + 1) r ps in
      record { as_pattern = row_none r n x.span (children_of (n + 1) r ps) h; as_field = field_none r n (children_of (n + 1) r ps) h; as_binding = binding_none r n (children_of (n + 1) r ps) h }

-- The types of the names of the bindings of a row don't depend on what is chosen for written type variables.
pub names_unwritten : (i : ℕ) (os : List Numbered) → NoneWritten (names_of_group (bindings_of i os))
names_unwritten i [] = tt
names_unwritten i (o ∷ os) = by (child_at i 2 o).binding (child_none _ 2 o.part).as_binding (names_unwritten i os)
  where
    by : (b : Option Binding) → NoneInBindingIf b → NoneWritten (names_of_group (bindings_of i os)) → NoneWritten (names_of_group (cons_option b (bindings_of i os)))
    by None p more = more
    by (Some b) p more = none_both b.pattern.names (names_of_group (bindings_of i os)) p more
