-- The name tokens of a text.
use Rattle.std.specs.Prelude.{ℕ, ◌+◌, List, [], ◌∷◌, ◌++◌, Bool, false, true, ◌&&◌, ◌||◌, nat_eq, find, Option, Some, None, if◌then◌else◌}
use Rattle.std.specs.Option.{option_or}
use Rattle.token_model.specs.Kinds.{Kind, Tok, lower, upper, qualifier, op_name, prefix, float}
use Rattle.tree_model.specs.Rows.{Row, infix_row, eneg_row, econst_row}
use Rattle.tree_model.specs.Trees.{Place, place, Tree, Forest, Part, node, no_parts, part, taken, inner, missing, part_size}
use Rattle.tree_model.specs.Nodes.{Id, id, holds}
use Rattle.query_model.specs.Outlines.{is_slot}

-- ---- which tokens are names

-- a token of this kind is a name wherever it stands
unfoldable pub is_name_kind : Kind → Bool
is_name_kind lower = true
is_name_kind upper = true
is_name_kind qualifier = true
is_name_kind op_name = true
is_name_kind prefix = true
is_name_kind _ = false

-- whether a token of this kind is a numeral with a point or an exponent
unfoldable pub is_float : Kind → Bool
is_float float = true
is_float _ = false

-- whether the row is that of a constant as an expression
unfoldable pub is_constant_row : Row → Bool
is_constant_row econst_row = true
is_constant_row _ = false

-- the part is a numeral with a point or an exponent
abbrev pub is_float_in : Part → Bool
is_float_in (taken t) = is_float t.kind
is_float_in (inner t) = false
is_float_in (missing p) = false

-- such a token stands among these
abbrev pub has_float : Forest → Bool
has_float no_parts = false
has_float (part slot p ps) = is_float_in p || has_float ps

-- the part is a constant that is one
abbrev pub is_float_literal : Part → Bool
is_float_literal (taken t) = false
is_float_literal (inner (node r x ps)) = is_constant_row r && has_float ps
is_float_literal (missing p) = false

-- such a constant stands among these
abbrev pub has_float_literal : Forest → Bool
has_float_literal no_parts = false
has_float_literal (part slot p ps) = is_float_literal p || has_float_literal ps

-- The slot of a row's sign that is a name: of an infix operator, and of a minus in front of anything but such a constant.
unfoldable pub sign_slot : Row → Bool → Option ℕ
sign_slot infix_row before_float = Some 1
sign_slot eneg_row before_float = if before_float then None else Some 0
sign_slot _ before_float = None

-- a token in a slot of a row is a name
abbrev pub is_name : Option ℕ → ℕ → Tok → Bool
is_name sign slot t = is_name_kind t.kind || is_slot sign slot

-- ---- the names of a text

-- a name: the node of which it is a part, how many names stand before it in that node, where it stands, and itself
pub record Name : Type 0 where
  pub node : Id
  pub index : ℕ
  pub span : Place
  pub name : List ℕ

-- a token as a name of a node, with so many names before it there
abbrev pub name_at : Id → ℕ → Tok → Name
name_at i k t = record { node = i; index = k; span = place t.start t.end; name = t.name }

-- how many names a part is
abbrev pub name_count : Option ℕ → ℕ → Part → ℕ
name_count sign slot (taken t) = if is_name sign slot t then 1 else 0
name_count sign slot (inner t) = 0
name_count sign slot (missing p) = 0

-- the names in a node of an item, in text order, where it has the number n
abbrev mutual
  pub names_in : ℕ → ℕ → Tree → List Name
  names_in i n (node r x ps) = names_among i n 0 (n + 1) r (sign_slot r (has_float_literal ps)) ps

  -- among its parts, of which the first has the number next, and before which k names stand
  pub names_among : ℕ → ℕ → ℕ → ℕ → Row → Option ℕ → Forest → List Name
  names_among i n k next r sign no_parts = []
  names_among i n k next r sign (part slot p ps) = names_of i n k next sign slot p ++ names_among i n (k + name_count sign slot p) (next + part_size r slot p) r sign ps

  -- the names that a part is or holds; the node of the part has the number next
  pub names_of : ℕ → ℕ → ℕ → ℕ → Option ℕ → ℕ → Part → List Name
  names_of i n k next sign slot (taken t) = if is_name sign slot t then name_at (id i n) k t ∷ [] else []
  names_of i n k next sign slot (inner t) = names_in i next t
  names_of i n k next sign slot (missing p) = []

-- the names of the items of a text, the first of which has the number i
abbrev pub names_items : ℕ → List Tree → List Name
names_items i [] = []
names_items i (t ∷ ts) = names_in i 0 t ++ names_items (i + 1) ts

-- the names of a text, in order
unfoldable pub text_names : List Tree → List Name
text_names items = names_items 1 items

-- ---- the name at an offset

-- whether a name stands round an offset
abbrev pub holds_offset : ℕ → Name → Bool
holds_offset o n = holds o n.span

-- whether a name ends at an offset
abbrev pub ends_at : ℕ → Name → Bool
ends_at o n = nat_eq n.span.end o

-- the name that holds an offset, or else the one that ends there
unfoldable pub name_round : ℕ → List Name → Option Name
name_round o names = option_or (find (holds_offset o) names) (find (ends_at o) names)
