-- The names that patterns bind have types of nodes: no type that a row leaves open is one of theirs.
use Rattle.std.proofs.Common.{◌≡◌, ℕ, ◌+◌, ◌==◌, Bool, true, false, List, [], ◌∷◌, ◌++◌, filter_map, Option, Some, None, refl, ap, if◌then◌else◌}
use Rattle.token_model.specs.Kinds.{Tok}
use Rattle.tree_model.specs.Rows.{Row, binding_row, qfield_row, pname_row, pany_row, pconst_row, pneg_row, pcon_row, pparen_row, plist_row, precord_row, papp_row, pcons_row, ptuple_row, por_row, pas_row}
use Rattle.tree_model.specs.Trees.{Place, place, Tree, Forest, Part, node, no_parts, part, taken, inner, missing, part_size}
use Rattle.typing_model.specs.Contexts.{Context, Bound}
use Rattle.typing_model.specs.Meanings.{binding_of, field_pattern_of, leaf_child, children_of, child_of, tree_child}
use Rattle.typing_model.specs.Parts.{Written, Pattern, TypeExpression, Binding, FieldPattern, Child, in_slot, path_in, token_in, patterns_in, pattern_in, types_in, first_of, no_pattern_at, place_of}
use Rattle.typing_model.specs.Patterns.{bound_at, all_names, pname, papp, pparen, pas, punned, names_in_field, precord, pattern_row}
use Rattle.typing_laws.proofs.Steady.{Each, no_one, one_and, each_append, IfThere, absent, there}
use Rattle.typing_laws.proofs.SteadyRows.{mapped, filtered, first_there}

-- a name has one type wherever the nodes have the same types
pub record AtNode (b : Bound) : Type 0 where
  pub has : (c d : Context) → c.chosen.type_at ≡ d.chosen.type_at → b.has_type c ≡ b.has_type d

-- the names of a pattern, of a field and of a binding's pattern do
pub record OfNodes (p : Pattern) : Type 0 where
  pub binds : Each AtNode p.names

pub record FieldOfNodes (p : FieldPattern) : Type 0 where
  pub binds : (n : ℕ) → Each AtNode (names_in_field n p)

pub record BindingOfNodes (b : Binding) : Type 0 where
  pub pattern : OfNodes b.pattern

pub record ChildOfNodes (x : Child) : Type 0 where
  pub pattern : OfNodes x.pattern
  pub binding : IfThere BindingOfNodes x.binding
  pub field_pattern : IfThere FieldOfNodes x.field_pattern

name_at : (n : ℕ) (t : Tok) → AtNode (bound_at n t)
name_at n t = record { has = λ c d i. ap (λ f. f n) i }

all_at : (ps : List Pattern) → Each OfNodes ps → Each AtNode (all_names ps)
all_at [] no_one = no_one
all_at (p ∷ ps) (one_and s each) = each_append s.binds (all_at ps each)

-- parts of slots
pub slotted : {P : Child → Type 0} (s : ℕ) (cs : List Child) → Each P cs → Each P (in_slot s cs)
slotted s [] no_one = no_one
slotted {P} s (c ∷ cs) (one_and h each) = by (c.slot == s) (slotted s cs each)
  where
    by : (b : Bool) → Each P (in_slot s cs) → Each P (if b then c ∷ in_slot s cs else in_slot s cs)
    by true g = one_and h g
    by false g = g

patterns_at : (s : ℕ) (cs : List Child) → Each ChildOfNodes cs → Each OfNodes (patterns_in s cs)
patterns_at s cs each = mapped OfNodes (λ c. c.pattern) (in_slot s cs) (λ c h. h.pattern) (slotted s cs each)

pattern_at : (s : ℕ) (cs : List Child) → Each ChildOfNodes cs → OfNodes (pattern_in s cs)
pattern_at s cs each = by (first_of (patterns_in s cs)) (first_there (patterns_in s cs) (patterns_at s cs each))
  where
    by : (o : Option Pattern) → IfThere OfNodes o → OfNodes (elim o [ None ↦ no_pattern_at 0 (place 0 0) | Some p ↦ p ])
    by None absent = record { binds = no_one }
    by (Some p) (there h) = h

-- patterns by their rows
papp_at : (n : ℕ) (q : Place) (head p : Pattern) → OfNodes p → OfNodes (papp n q head p)
papp_at n q head p s = by head.constructor refl
  where
    by : (o : Option Written) → head.constructor ≡ o → OfNodes (papp n q head p)
    by None e = rw (e, papp) (record { binds = all_at (p ∷ []) (one_and s no_one) })
    by (Some path) e = rw (e, papp) (record { binds = s.binds })

pname_at : (n : ℕ) (q : Place) (t : Option Tok) → OfNodes (pname n q t)
pname_at n q None = record { binds = no_one }
pname_at n q (Some t) = record { binds = one_and (name_at n t) no_one }

pparen_at : (n : ℕ) (q : Place) (p : Pattern) (t : Option TypeExpression) → OfNodes p → OfNodes (pparen n q p t)
pparen_at n q p None s = record { binds = all_at (p ∷ []) (one_and s no_one) }
pparen_at n q p (Some t) s = record { binds = all_at (p ∷ []) (one_and s no_one) }

pas_at : (n : ℕ) (q : Place) (p : Pattern) (t : Option Tok) → OfNodes p → OfNodes (pas n q p t)
pas_at n q p None s = record { binds = all_at (p ∷ []) (one_and s no_one) }
pas_at n q p (Some t) s = record { binds = each_append s.binds (one_and (name_at n t) no_one) }

abbrev fields_names : ℕ → List FieldPattern → List Bound
fields_names n [] = []
fields_names n (p ∷ ps) = names_in_field n p ++ fields_names n ps

precord_at : (n : ℕ) (q : Place) (ps : List FieldPattern) → Each FieldOfNodes ps → OfNodes (precord n q ps)
precord_at n q ps each = record { binds = names ps each }
  where
    names : (ps : List FieldPattern) → Each FieldOfNodes ps → Each AtNode (fields_names n ps)
    names [] no_one = no_one
    names (p ∷ ps) (one_and s each) = each_append (s.binds n) (names ps each)

pattern_row_at : (row : Row) (n : ℕ) (q : Place) (cs : List Child) → Each ChildOfNodes cs → OfNodes (pattern_row row n q cs)
unfolding pattern_row
pattern_row_at pname_row n q cs h = pname_at n q (token_in 0 cs)
pattern_row_at pany_row n q cs h = record { binds = no_one }
pattern_row_at pconst_row n q cs h = record { binds = no_one }
pattern_row_at pneg_row n q cs h = record { binds = no_one }
pattern_row_at pcon_row n q cs h = record { binds = no_one }
pattern_row_at pparen_row n q cs h = pparen_at n q (pattern_in 1 cs) (first_of (types_in 3 cs)) (pattern_at 1 cs h)
pattern_row_at plist_row n q cs h = record { binds = all_at (patterns_in 1 cs) (patterns_at 1 cs h) }
pattern_row_at precord_row n q cs h = precord_at n q (filter_map (λ c. c.field_pattern) (in_slot 1 cs)) (filtered FieldOfNodes (λ c. c.field_pattern) (in_slot 1 cs) (λ c g. g.field_pattern) (slotted 1 cs h))
pattern_row_at papp_row n q cs h = papp_at n q (pattern_in 0 cs) (pattern_in 1 cs) (pattern_at 1 cs h)
pattern_row_at pcons_row n q cs h = record { binds = all_at (pattern_in 0 cs ∷ pattern_in 2 cs ∷ []) (one_and (pattern_at 0 cs h) (one_and (pattern_at 2 cs h) no_one)) }
pattern_row_at ptuple_row n q cs h = record { binds = all_at (patterns_in 0 cs ++ patterns_in 2 cs) (each_append (patterns_at 0 cs h) (patterns_at 2 cs h)) }
pattern_row_at por_row n q cs h = let s = pattern_at 0 cs h in record { binds = s.binds }
pattern_row_at pas_row n q cs h = pas_at n q (pattern_in 0 cs) (token_in 2 cs) (pattern_at 0 cs h)
pattern_row_at _ n q cs h = record { binds = no_one }

binding_row_at : (row : Row) (n : ℕ) (cs : List Child) → Each ChildOfNodes cs → IfThere BindingOfNodes (binding_of row n cs)
binding_row_at binding_row n cs h = there (record { pattern = pattern_at 0 cs h })
binding_row_at _ n cs h = absent

-- a field without a pattern of its own
punned_at : (n : ℕ) (p : FieldPattern) → Each AtNode (punned n p)
punned_at n p = by p.pattern refl p.label.last refl
  where
    by : (o : Option Pattern) → p.pattern ≡ o → (l : Option Tok) → p.label.last ≡ l → Each AtNode (punned n p)
    by (Some q) e l g = rw (e, punned) no_one
    by None e None g = rw (e, g, punned) no_one
    by None e (Some t) g = rw (e, g, punned) (one_and (record { has = λ c d i. ap (λ f. f p.node) i }) no_one)

-- a field
field_at : (p : FieldPattern) → IfThere OfNodes p.pattern → FieldOfNodes p
field_at p s = record { binds = λ n. by n p.pattern refl s }
  where
    by : (n : ℕ) (o : Option Pattern) → p.pattern ≡ o → IfThere OfNodes o → Each AtNode (names_in_field n p)
    by n None e absent = rw (e, names_in_field) (punned_at n p)
    by n (Some q) e (there h) = rw (e, names_in_field) h.binds

field_row_at : (row : Row) (n : ℕ) (cs : List Child) → Each ChildOfNodes cs → IfThere FieldOfNodes (field_pattern_of row n cs)
field_row_at qfield_row n cs h = there (field_at (record { node = n; label = path_in 0 1 cs; pattern = first_of (patterns_in 3 cs) }) (first_there (patterns_in 3 cs) (patterns_at 3 cs h)))
field_row_at _ n cs h = absent

leaf_at : (slot : ℕ) (p : Part) (n : ℕ) (q : Place) → ChildOfNodes (leaf_child slot p n q)
leaf_at slot p n q = record { pattern = record { binds = no_one }; binding = absent; field_pattern = absent }

-- in any trees
mutual
  pub children_at : (n : ℕ) (row : Row) (ps : Forest) → Each ChildOfNodes (children_of n row ps)
  children_at n row no_parts = no_one
  children_at n row (part slot p ps) = one_and (child_at n slot p) (children_at (n + part_size row slot p) row ps)

  pub child_at : (n slot : ℕ) (p : Part) → ChildOfNodes (child_of n slot p)
  child_at n slot (taken t) = leaf_at slot (taken t) n (place_of t)
  child_at n slot (inner t) = tree_at n slot t
  child_at n slot (missing p) = leaf_at slot (missing p) n p

  pub tree_at : (n slot : ℕ) (t : Tree) → ChildOfNodes (tree_child n slot t)
  tree_at n slot (node row x ps) =
      let h = children_at (n + 1) row ps in
      let z = pattern_row_at row n x.span (children_of (n + 1) row ps) h in
      record {
        pattern = record { binds = z.binds };
        binding = binding_row_at row n (children_of (n + 1) row ps) h;
        field_pattern = field_row_at row n (children_of (n + 1) row ps) h;
      }
