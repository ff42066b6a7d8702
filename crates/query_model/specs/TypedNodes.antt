-- The typed nodes of a text: its expressions, its patterns and the expressions that are missing.
use Rattle.std.specs.Prelude.{ℕ, ◌+◌, List, [], ◌∷◌, ◌++◌, map, reverse, slice_get, Bool, false, true, not, ◌&&◌, ◌||◌, nat_eq, Option, Some, None, if◌then◌else◌}
use Rattle.std.specs.List.{list_any}
use Rattle.token_model.specs.Kinds.{Kind, lower}
use Rattle.tree_model.specs.Rows.{Row, pname_row, pany_row, pconst_row, pneg_row, pcon_row, pparen_row, plist_row, precord_row, papp_row, pcons_row, ptuple_row, por_row, pas_row, binding_row, case_row, ffield_row, name_row, econ_row, epath_row, econst_row, hole_row, eparen_row, ebegin_row, elist_row, erecord_row, prefix_row, field_row, eapp_row, eassert_row, ewhile_row, efor_row, eneg_row, infix_row, econs_row, etuple_row, eset_row, eif_row, eseq_row, elet_row, ematch_row, etry_row, efun_row, efunction_row}
use Rattle.tree_model.specs.Trees.{Place, Tree, Forest, Part, node, no_parts, part, taken, inner, missing, part_size}
use Rattle.tree_model.specs.Nodes.{Id, id, holds}
use Rattle.query_model.specs.Outlines.{is_slot}

-- ---- expressions and patterns, by their rows

-- the row is one of a pattern or of an expression
unfoldable pub is_typed_row : Row → Bool
is_typed_row pname_row = true
is_typed_row pany_row = true
is_typed_row pconst_row = true
is_typed_row pneg_row = true
is_typed_row pcon_row = true
is_typed_row pparen_row = true
is_typed_row plist_row = true
is_typed_row precord_row = true
is_typed_row papp_row = true
is_typed_row pcons_row = true
is_typed_row ptuple_row = true
is_typed_row por_row = true
is_typed_row pas_row = true
is_typed_row name_row = true
is_typed_row econ_row = true
is_typed_row epath_row = true
is_typed_row econst_row = true
is_typed_row hole_row = true
is_typed_row eparen_row = true
is_typed_row ebegin_row = true
is_typed_row elist_row = true
is_typed_row erecord_row = true
is_typed_row prefix_row = true
is_typed_row field_row = true
is_typed_row eapp_row = true
is_typed_row eassert_row = true
is_typed_row ewhile_row = true
is_typed_row efor_row = true
is_typed_row eneg_row = true
is_typed_row infix_row = true
is_typed_row econs_row = true
is_typed_row etuple_row = true
is_typed_row eset_row = true
is_typed_row eif_row = true
is_typed_row eseq_row = true
is_typed_row elet_row = true
is_typed_row ematch_row = true
is_typed_row etry_row = true
is_typed_row efun_row = true
is_typed_row efunction_row = true
is_typed_row _ = false

-- the slots of a row that take expressions
abbrev pub expression_slots : Row → List ℕ
expression_slots binding_row = 5 ∷ []
expression_slots case_row = 2 ∷ 4 ∷ []
expression_slots ffield_row = 3 ∷ []
expression_slots eparen_row = 1 ∷ []
expression_slots ebegin_row = 1 ∷ []
expression_slots elist_row = 1 ∷ []
expression_slots erecord_row = 1 ∷ 3 ∷ []
expression_slots prefix_row = 1 ∷ []
expression_slots field_row = 0 ∷ []
expression_slots eapp_row = 0 ∷ 1 ∷ []
expression_slots eassert_row = 1 ∷ []
expression_slots ewhile_row = 1 ∷ 3 ∷ []
expression_slots efor_row = 3 ∷ 5 ∷ 7 ∷ []
expression_slots eneg_row = 1 ∷ []
expression_slots infix_row = 0 ∷ 2 ∷ []
expression_slots econs_row = 0 ∷ 2 ∷ []
expression_slots etuple_row = 0 ∷ 2 ∷ []
expression_slots eset_row = 0 ∷ 2 ∷ []
expression_slots eif_row = 1 ∷ 3 ∷ 5 ∷ []
expression_slots eseq_row = 0 ∷ 2 ∷ []
expression_slots elet_row = 5 ∷ []
expression_slots ematch_row = 1 ∷ []
expression_slots etry_row = 1 ∷ []
expression_slots efun_row = 3 ∷ []
expression_slots _ = []

-- the slot of the row takes an expression
unfoldable pub is_expression_slot : Row → ℕ → Bool
is_expression_slot r s = list_any (nat_eq s) (expression_slots r)

-- ---- the first part of a record that is read as a label

-- the slot of the last name of a path
unfoldable pub last_name_slot : Row → Option ℕ
last_name_slot name_row = Some 0
last_name_slot epath_row = Some 1
last_name_slot _ = None

-- whether a token of this kind is a name with a small first letter
unfoldable pub is_lower : Kind → Bool
is_lower lower = true
is_lower _ = false

-- the part is a name in small letters, in the slot
abbrev pub is_name_in : Option ℕ → ℕ → Part → Bool
is_name_in s slot (taken t) = is_slot s slot && is_lower t.kind
is_name_in s slot (inner t) = false
is_name_in s slot (missing p) = false

-- a name in small letters stands in the slot
abbrev pub has_name_in : Option ℕ → Forest → Bool
has_name_in s no_parts = false
has_name_in s (part slot p ps) = is_name_in s slot p || has_name_in s ps

-- a token was taken in the slot
abbrev pub is_taken_in : ℕ → ℕ → Part → Bool
is_taken_in s slot (taken t) = nat_eq s slot
is_taken_in s slot (inner t) = false
is_taken_in s slot (missing p) = false

-- such a token stands among these parts
abbrev pub has_taken_in : ℕ → Forest → Bool
has_taken_in s no_parts = false
has_taken_in s (part slot p ps) = is_taken_in s slot p || has_taken_in s ps

-- The slot of the part that may be read as a label: the first one of a record, unless the word `with` stands behind it.
unfoldable pub label_slot : Row → Bool → Option ℕ
label_slot erecord_row with_word = if with_word then None else Some 1
label_slot _ with_word = None

-- ---- the typed nodes that hold an offset

-- a typed node: which it is, and where it stands
pub record Typed : Type 0 where
  pub id : Id
  pub span : Place

-- a typed node of this identity, at this place
abbrev pub typed : Id → Place → Typed
typed i p = record { id = i; span = p }

-- a node that is typed, where it holds the offset
abbrev pub typed_if : Bool → ℕ → Id → Place → List Typed
typed_if is_typed o i p = if is_typed && holds o p then typed i p ∷ [] else []

-- The typed ones among a node of an item and those inside, in preorder, where it has the number n. A path that may be read as a label is one.
abbrev mutual
  pub typed_in : ℕ → ℕ → ℕ → Bool → Tree → List Typed
  typed_in o i n may_be_label (node r x ps) =
      typed_if (is_typed_row r && not (may_be_label && has_name_in (last_name_slot r) ps)) o (id i n) x.span ++ typed_among o i (n + 1) r (label_slot r (has_taken_in 4 ps)) ps

  -- the same among the parts of a node, the first of which has the number n
  pub typed_among : ℕ → ℕ → ℕ → Row → Option ℕ → Forest → List Typed
  typed_among o i n r label no_parts = []
  typed_among o i n r label (part slot p ps) = typed_part o i n r (is_slot label slot) slot p ++ typed_among o i (n + part_size r slot p) r label ps

  -- the same of a part with the number n: a missing part counts where an expression belongs
  pub typed_part : ℕ → ℕ → ℕ → Row → Bool → ℕ → Part → List Typed
  typed_part o i n r may_be_label slot (taken t) = []
  typed_part o i n r may_be_label slot (inner t) = typed_in o i n may_be_label t
  typed_part o i n r may_be_label slot (missing p) = typed_if (is_expression_slot r slot) o (id i n) p

-- the same of the items of a text, the first of which has the number i
abbrev pub typed_items : ℕ → ℕ → List Tree → List Typed
typed_items o i [] = []
typed_items o i (t ∷ ts) = typed_in o i 0 false t ++ typed_items o (i + 1) ts

-- the typed nodes of a text that hold an offset, in preorder
abbrev pub typed_at : ℕ → List Tree → List Typed
typed_at o items = typed_items o 1 items

-- the innermost typed node that holds an offset: the last of them in preorder
abbrev pub innermost_at : ℕ → List Tree → Option Typed
innermost_at o items = slice_get (reverse (typed_at o items)) 0
