-- The outline of a text: what its items bind, and inside a module what the items of its structure bind.
use Rattle.std.specs.Prelude.{ℕ, List, [], ◌∷◌, ◌++◌, map, Bool, false, true, ◌||◌, nat_eq, Option, Some, None, if◌then◌else◌}
use Rattle.std.specs.List.{flat_map}
use Rattle.tree_model.specs.Rows.{Row, let_row, type_row, exception_row, module_row, modtype_row, pname_row, pas_row, por_row, qfield_row, mparen_row, mfunctor_row, mstruct_row}
use Rattle.tree_model.specs.Trees.{Place, Tree, Forest, Part, node, no_parts, part, taken, inner, missing}

-- what a name stands for
pub data Kind : Type 0 where
  value : Kind
  type_name : Kind
  exception_name : Kind
  module_name : Kind
  module_type : Kind

-- a bound name: its kind, itself, the place of its item, and what is bound inside
mutual
  pub data Member : Type 0 where
    member : Kind → List ℕ → Place → Members → Member

  -- what is bound inside, in text order
  pub data Members : Type 0 where
    no_members : Members
    also : Member → Members → Members

-- members, one after another
abbrev pub members_of : List Member → Members
members_of [] = no_members
members_of (m ∷ ms) = also m (members_of ms)

-- the slot is this one, if it is one
abbrev pub is_slot : Option ℕ → ℕ → Bool
is_slot None slot = false
is_slot (Some s) slot = nat_eq s slot

-- ---- the names of a pattern

-- a part stands in the slot
abbrev pub has_slot : ℕ → Forest → Bool
has_slot s no_parts = false
has_slot s (part slot p ps) = nat_eq s slot || has_slot s ps

-- The slot of a pattern's token that is a name bound by it. The label of a field is one where no pattern stands behind it.
unfoldable pub name_slot : Row → Bool → Option ℕ
name_slot pname_row with_pattern = Some 0
name_slot pas_row with_pattern = Some 2
name_slot qfield_row with_pattern = if with_pattern then None else Some 1
name_slot _ with_pattern = None

-- the patterns in a slot bind names: of an or-pattern those of the first side alone
unfoldable pub binds_in : Row → ℕ → Bool
binds_in por_row slot = nat_eq slot 0
binds_in _ slot = true

abbrev mutual
  -- the names that a pattern binds, in text order
  pub pattern_names : Tree → List (List ℕ)
  pattern_names (node r x ps) = names_in r (name_slot r (has_slot 3 ps)) ps

  -- the names that a pattern's parts bind, where the token in slot s is a name
  pub names_in : Row → Option ℕ → Forest → List (List ℕ)
  names_in r s no_parts = []
  names_in r s (part slot p ps) = part_names r s slot p ++ names_in r s ps

  -- the names that one part of a pattern binds
  pub part_names : Row → Option ℕ → ℕ → Part → List (List ℕ)
  part_names r s slot (taken t) = if is_slot s slot then t.name ∷ [] else []
  part_names r s slot (inner t) = if binds_in r slot then pattern_names t else []
  part_names r s slot (missing p) = []

-- ---- the names of an item

-- what an item of a row binds, and the way of slots that leads to the names: to tokens, or to patterns
unfoldable pub binder : Row → Option (Kind × List ℕ)
binder let_row = Some (value, 2 ∷ 0 ∷ [])
binder type_row = Some (type_name, 2 ∷ 0 ∷ 4 ∷ [])
binder exception_row = Some (exception_name, 1 ∷ 0 ∷ [])
binder module_row = Some (module_name, 1 ∷ [])
binder modtype_row = Some (module_type, 1 ∷ [])
binder _ = None

-- the way goes on into the slot
abbrev pub leads_to : ℕ → List ℕ → Bool
leads_to slot [] = false
leads_to slot (s ∷ way) = nat_eq s slot

-- the rest of a way
abbrev pub rest_of : List ℕ → List ℕ
rest_of [] = []
rest_of (s ∷ way) = way

abbrev mutual
  -- the names at the end of a way of slots through a node, in text order; a missing name is none
  pub names_under : List ℕ → Tree → List (List ℕ)
  names_under way (node r x ps) = names_among way ps

  -- the names that the parts on the way lead to
  pub names_among : List ℕ → Forest → List (List ℕ)
  names_among way no_parts = []
  names_among way (part slot p ps) = (if leads_to slot way then names_at (rest_of way) p else []) ++ names_among way ps

  -- the names at the end of a way through a part; at its end it is a token or a pattern
  pub names_at : List ℕ → Part → List (List ℕ)
  names_at [] (taken t) = t.name ∷ []
  names_at [] (inner t) = pattern_names t
  names_at [] (missing p) = []
  names_at (s ∷ way) (taken t) = []
  names_at (s ∷ way) (inner t) = names_under (s ∷ way) t
  names_at (s ∷ way) (missing p) = []

-- ---- the outline

-- the slot of the part in which members inside are looked for: a module's expression, what stands in its parentheses or behind the parameters of a functor, and the items of a structure; its parameters and seals stand aside
unfoldable pub inner_slot : Row → Option ℕ
inner_slot module_row = Some 10
inner_slot mparen_row = Some 1
inner_slot mfunctor_row = Some 7
inner_slot mstruct_row = Some 1
inner_slot _ = None

-- a member for each name of an item, with those inside; a node that binds nothing has those inside
abbrev pub bound_as : Option (Kind × List ℕ) → Place → Tree → List Member → List Member
bound_as None span t inside = inside
bound_as (Some b) span t inside = map (λ n. member b.0 n span (members_of inside)) (names_under b.1 t)

abbrev mutual
  -- what a node binds
  pub bound : Tree → List Member
  bound (node r x ps) = bound_as (binder r) x.span (node r x ps) (bound_inside (inner_slot r) ps)

  -- what the parts in the slot for members inside bind
  pub bound_inside : Option ℕ → Forest → List Member
  bound_inside s no_parts = []
  bound_inside s (part slot p ps) = (if is_slot s slot then bound_by p else []) ++ bound_inside s ps

  -- what a part binds
  pub bound_by : Part → List Member
  bound_by (taken t) = []
  bound_by (inner t) = bound t
  bound_by (missing p) = []

-- the outline of a text with these items
unfoldable pub outline : List Tree → List Member
outline items = flat_map bound items
