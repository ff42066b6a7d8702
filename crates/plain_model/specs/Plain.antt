-- Plain texts: items `let Lower = V`, where V is an integer, a string, `true`, `false`, or a name that an earlier item binds.
use Rattle.std.specs.Prelude.{ℕ, ◌≤◌, ◌+◌, ◌&&◌, ◌||◌, List, [], ◌∷◌, Bool, true, false, if◌then◌else◌, codes, Option, Some, None, option_map, option_and_then, is_some}
use Rattle.std.specs.Str.{bytes_eq}
use Rattle.token_model.specs.Kinds.{Kind, Tok, lower, int, str, let_word, true_word, false_word, op9}
use Rattle.tree_model.specs.Rows.{Row, let_row, binding_row, pname_row, econst_row, name_row}
use Rattle.tree_model.specs.Trees.{Place, place, extent, Tree, Part, node, no_parts, part, taken, inner}
use Rattle.tree_model.specs.Nodes.{Id, id}

-- the types of a plain text
pub data Plain : Type 0 where
  int_type : Plain
  str_type : Plain
  bool_type : Plain

-- whether a token of this kind is `let`
unfoldable pub is_let : Kind → Bool
is_let let_word = true
is_let _ = false

-- whether a token of this kind is a name with a small first letter
unfoldable pub is_lower : Kind → Bool
is_lower lower = true
is_lower _ = false

-- whether a token of this kind is an operator of the level of comparisons, as `=` is
unfoldable pub is_comparison : Kind → Bool
is_comparison op9 = true
is_comparison _ = false

-- the type of a literal of this kind
unfoldable pub literal_type : Kind → Option Plain
literal_type int = Some int_type
literal_type str = Some str_type
literal_type true_word = Some bool_type
literal_type false_word = Some bool_type
literal_type _ = None

-- whether a token is `=`
abbrev pub is_equal_sign : Tok → Bool
is_equal_sign t = is_comparison t.kind && bytes_eq t.name (codes "=")

-- whether a token is a literal or a name, and so may be a right side
abbrev pub is_value : Tok → Bool
is_value t = is_some (literal_type t.kind) || is_lower t.kind

-- whether four tokens have the form of an item
abbrev pub is_item : Tok → Tok → Tok → Tok → Bool
is_item word name sign value = is_let word.kind && is_lower name.kind && is_equal_sign sign && is_value value

-- a node of one token
abbrev pub leaf : Row → Tok → Part
leaf r t = inner (node r (extent (place t.start t.end) 1 1) (part 0 (taken t) no_parts))

-- the row of a right side: of a name, or of a constant
abbrev pub value_row : Tok → Row
value_row t = if is_lower t.kind then name_row else econst_row

-- name = value
abbrev pub binding : Tok → Tok → Tok → Tree
binding name sign value = node binding_row (extent (place name.start value.end) 3 2) (part 0 (leaf pname_row name) (part 4 (taken sign) (part 5 (leaf (value_row value) value) no_parts)))

-- let name = value
abbrev pub item_tree : Tok → Tok → Tok → Tok → Tree
item_tree word name sign value = node let_row (extent (place word.start value.end) 4 3) (part 0 (taken word) (part 2 (inner (binding name sign value)) no_parts))

-- the trees of tokens that are items, and none of others
abbrev pub plain_trees : List Tok → Option (List Tree)
plain_trees [] = Some []
plain_trees (a ∷ b ∷ c ∷ d ∷ rest) = if is_item a b c d then option_map (λ ts. item_tree a b c d ∷ ts) (plain_trees rest) else None
plain_trees (a ∷ b ∷ c ∷ []) = None
plain_trees (a ∷ b ∷ []) = None
plain_trees (a ∷ []) = None

-- the token that is all of a node
abbrev pub token_in : Part → Option Tok
token_in (inner (node r x (part s (taken t) no_parts))) = Some t
token_in _ = None

-- the name and the value of a binding
abbrev pub bound_in : Part → Option (Tok × Tok)
bound_in (inner (node r x (part s name (part u sign (part v value no_parts))))) = option_and_then (λ n. option_map (λ w. (n, w)) (token_in value)) (token_in name)
bound_in _ = None

-- the name and the value of an item
abbrev pub item_of : Tree → Option (Tok × Tok)
item_of (node r x (part s word (part u bound no_parts))) = bound_in bound
item_of _ = None

-- names with their types, the newest first
abbrev pub type_in : List (List ℕ × Plain) → List ℕ → Option Plain
type_in [] n = None
type_in (b ∷ bs) n = if bytes_eq b.0 n then Some b.1 else type_in bs n

-- the first type, if there is one, and else the second
abbrev pub or_else : Option Plain → Option Plain → Option Plain
or_else (Some ty) other = Some ty
or_else None other = other

-- the type of a right side: that of the literal, or that of the name, if it is bound
abbrev pub type_of : List (List ℕ × Plain) → Tok → Option Plain
type_of env t = or_else (literal_type t.kind) (if is_lower t.kind then type_in env t.name else None)

-- a typed node: which it is, where it stands, its type
pub record Seen : Type 0 where
  pub id : Id
  pub span : Place
  pub ty : Plain

-- a token as a typed node with its number in its item
abbrev pub seen : ℕ → ℕ → Tok → Plain → Seen
seen item pre t ty = record { id = id item pre; span = place t.start t.end; ty = ty }

-- each pattern and each right side of these items in order, the first of which has the number n, where env holds what stands before
abbrev pub typed : List (List ℕ × Plain) → ℕ → List Tree → Option (List Seen)
typed env n [] = Some []
typed env n (t ∷ ts) = option_and_then (λ i. option_and_then (λ ty. option_map (λ rest. seen n 2 i.0 ty ∷ seen n 3 i.1 ty ∷ rest) (typed ((i.0.name, ty) ∷ env) (n + 1) ts)) (type_of env i.1)) (item_of t)

-- the typed nodes of items, and none where a name is bound by no earlier item
unfoldable pub typed_trees : List Tree → Option (List Seen)
typed_trees ts = typed [] 1 ts

-- the trees and the typed nodes of a plain text's tokens, and none of another text's
abbrev pub plain_text : List Tok → Option (List Tree × List Seen)
plain_text tokens = option_and_then (λ ts. option_map (λ ss. (ts, ss)) (typed_trees ts)) (plain_trees tokens)

-- what is shown of a type
abbrev pub type_text : Plain → List ℕ
type_text int_type = codes "int"
type_text str_type = codes "string"
type_text bool_type = codes "bool"

-- each of these typed nodes stands within so many bytes
abbrev pub AllSeenWithin : ℕ → List Seen → Type 0
AllSeenWithin n [] = Unit {0}
AllSeenWithin n (s ∷ ss) = (s.span.start ≤ n) × (s.span.end ≤ n) × AllSeenWithin n ss
