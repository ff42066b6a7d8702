-- What an item, a binding and a node of one token are, by the children of the code.
use Rattle.std.proofs.Common.{◌≡◌, ℕ, List, [], ◌∷◌, length, get_or, map, option_map, option_and_then, Option, None, refl, arith}
use Rattle.token_model.specs.Kinds.{Tok}
use Rattle.tree_model.specs.Rows.{Row}
use Rattle.tree_model.specs.Trees.{Extent, Forest, Part, node, no_parts, part, taken, inner, missing}
use Rattle.plain_model.specs.Plain.{token_in, bound_in, item_of}
use Rattle.syntax_tree.specs.View.{child_view, forest_of, node_view, part_view}
use Rattle.syntax_tree.specs.declared.tree.Child.{Child}
use Rattle.syntax_tree.specs.declared.tree.Node.{Node, out-Node}
use Rattle.syntax_tree.proofs.Views.{child_view_parts, node_view_parts, row_in, extent_in}
use Rattle.plain_typing.specs.View.{taken_in}

-- a node of two parts or more has no token that is all of it
token_in_more : (r : Row) (x : Extent) (s u : ℕ) (p q : Part) (ps : Forest) → None ≡ token_in (inner (node r x (part s p (part u q ps))))
token_in_more r x s u (taken t) q ps = refl
token_in_more r x s u (inner t) q ps = refl
token_in_more r x s u (missing p) q ps = refl

-- the token of a node of one part is that of the part
token_in_part : (r : Row) (x : Extent) (s : ℕ) (p : Part) → taken_in p ≡ token_in (inner (node r x (part s p no_parts)))
token_in_part r x s (taken t) = refl
token_in_part r x s (inner t) = refl
token_in_part r x s (missing p) = refl

-- a node without exactly one part has no token that is all of it
token_in_others : (r : Row) (x : Extent) (cs : List Child) → (length cs ≡ 1 → ⊥) → None ≡ token_in (inner (node r x (forest_of (map child_view cs))))
token_in_others r x [] h = refl
token_in_others r x (c ∷ []) h = absurd (h refl)
token_in_others r x (c ∷ d ∷ ds) h = token_in_more r x (child_view c).0 (child_view d).0 (child_view c).1 (child_view d).1 (forest_of (map child_view ds))

-- the token of a node of one child is that of the child
token_in_single : (r : Row) (x : Extent) (cs : List Child) (a : Child) → length cs ≡ 1 → a ≡ get_or cs 0 a → taken_in (part_view a.part) ≡ token_in (inner (node r x (forest_of (map child_view cs))))
token_in_single r x [] a h p = absurd (omega arith)
token_in_single r x (c ∷ []) a h p = rw (child_view_parts c, ← p) (token_in_part r x a.slot (part_view a.part))
token_in_single r x (c ∷ d ∷ ds) a h p = absurd (omega arith)

-- a node without exactly one child has no token that is all of it
pub token_in_other : (n : Node) (cs : List Child) → cs ≡ (out-Node n).children.items → (length cs ≡ 1 → ⊥) → None ≡ token_in (inner (node_view n))
token_in_other n cs e h = rw (node_view_parts n, ← e) (token_in_others (row_in n) (extent_in n) cs h)

-- else it is that of the child
pub token_in_one : (n : Node) (cs : List Child) (a : Child) → cs ≡ (out-Node n).children.items → length cs ≡ 1 → a ≡ get_or cs 0 a → taken_in (part_view a.part) ≡ token_in (inner (node_view n))
token_in_one n cs a e h p = rw (node_view_parts n, ← e) (token_in_single (row_in n) (extent_in n) cs a h p)

-- a node without exactly three parts is no binding
bound_in_others : (r : Row) (x : Extent) (cs : List Child) → (length cs ≡ 3 → ⊥) → None ≡ bound_in (inner (node r x (forest_of (map child_view cs))))
bound_in_others r x [] h = refl
bound_in_others r x (c ∷ []) h = refl
bound_in_others r x (c ∷ d ∷ []) h = refl
bound_in_others r x (c ∷ d ∷ e ∷ []) h = absurd (h refl)
bound_in_others r x (c ∷ d ∷ e ∷ f ∷ fs) h = refl

-- the name and the value of two parts that have them
abbrev between : Part → Part → Option (Tok × Tok)
between a b = option_and_then (λ n. option_map (λ w. (n, w)) (token_in b)) (token_in a)

-- the name and the value of a node of three children are those of its first and last
bound_in_triple : (r : Row) (x : Extent) (cs : List Child) (a b : Child) → length cs ≡ 3 → a ≡ get_or cs 0 a → b ≡ get_or cs 2 b → between (part_view a.part) (part_view b.part) ≡ bound_in (inner (node r x (forest_of (map child_view cs))))
bound_in_triple r x [] a b h p q = absurd (omega arith)
bound_in_triple r x (c ∷ []) a b h p q = absurd (omega arith)
bound_in_triple r x (c ∷ d ∷ []) a b h p q = absurd (omega arith)
bound_in_triple r x (c ∷ d ∷ e ∷ []) a b h p q = rw (child_view_parts c, child_view_parts e, ← p, ← q) refl
bound_in_triple r x (c ∷ d ∷ e ∷ f ∷ fs) a b h p q = absurd (omega arith)

-- a binding has three children
pub bound_in_other : (n : Node) (cs : List Child) → cs ≡ (out-Node n).children.items → (length cs ≡ 3 → ⊥) → None ≡ bound_in (inner (node_view n))
bound_in_other n cs e h = rw (node_view_parts n, ← e) (bound_in_others (row_in n) (extent_in n) cs h)

-- its first has the name, and its last the value
pub bound_in_three : (n : Node) (cs : List Child) (a b : Child) → cs ≡ (out-Node n).children.items → length cs ≡ 3 → a ≡ get_or cs 0 a → b ≡ get_or cs 2 b → between (part_view a.part) (part_view b.part) ≡ bound_in (inner (node_view n))
bound_in_three n cs a b e h p q = rw (node_view_parts n, ← e) (bound_in_triple (row_in n) (extent_in n) cs a b h p q)

-- a node without exactly two parts is no item
item_of_others : (r : Row) (x : Extent) (cs : List Child) → (length cs ≡ 2 → ⊥) → None ≡ item_of (node r x (forest_of (map child_view cs)))
item_of_others r x [] h = refl
item_of_others r x (c ∷ []) h = refl
item_of_others r x (c ∷ d ∷ []) h = absurd (h refl)
item_of_others r x (c ∷ d ∷ e ∷ es) h = refl

-- the name and the value of a node of two children are those of its second
item_of_pair : (r : Row) (x : Extent) (cs : List Child) (b : Child) → length cs ≡ 2 → b ≡ get_or cs 1 b → bound_in (part_view b.part) ≡ item_of (node r x (forest_of (map child_view cs)))
item_of_pair r x [] b h q = absurd (omega arith)
item_of_pair r x (c ∷ []) b h q = absurd (omega arith)
item_of_pair r x (c ∷ d ∷ []) b h q = rw (child_view_parts d, ← q) refl
item_of_pair r x (c ∷ d ∷ e ∷ es) b h q = absurd (omega arith)

-- an item has two children
pub item_of_other : (n : Node) (cs : List Child) → cs ≡ (out-Node n).children.items → (length cs ≡ 2 → ⊥) → None ≡ item_of (node_view n)
item_of_other n cs e h = rw (node_view_parts n, ← e) (item_of_others (row_in n) (extent_in n) cs h)

-- its second is the binding
pub item_of_two : (n : Node) (cs : List Child) (b : Child) → cs ≡ (out-Node n).children.items → length cs ≡ 2 → b ≡ get_or cs 1 b → bound_in (part_view b.part) ≡ item_of (node_view n)
item_of_two n cs b e h q = rw (node_view_parts n, ← e) (item_of_pair (row_in n) (extent_in n) cs b h q)
