-- The patterns of trees, as rows of a match see them, by the names in scope.
use Rattle.std.specs.Prelude.{◌≡◌, ℕ, ◌&&◌, Bool, true, false, List, [], ◌∷◌, ◌++◌, All, map, length, codes, decimal, bytes_eq, is_none, Option, Some, None, option_map, IfSome, if◌then◌else◌}
use Rattle.text_terms.specs.Bytes.{str_bytes}
use Rattle.token_model.specs.Kinds.{Tok}
use Rattle.tree_model.specs.Trees.{Place, Tree, Part, node, taken, inner, missing}
use Rattle.type_model.specs.Types as types
use Rattle.type_terms.specs.Views.{path_of}
use Rattle.signature_model.specs.Entries.{constructor_kind}
use Rattle.signature_model.specs.Lookups.{FoundAmong, an_entry, a_hole, nothing, lookup_by}
use Rattle.match_model.specs.Forms.{tuple_name}
use Rattle.env_table.specs.declared.entries.Constructor.{Constructor}
use Rattle.env_table.specs.declared.entries.Label.{Label}
use Rattle.env_table.specs.declared.entries.Declaration.{Declaration}
use Rattle.env_table.specs.declared.entries.Place as places
use Rattle.env_table.specs.declared.entries.Place.TheVariants as at
use Rattle.env_table.specs.declared.entries.Shape.{Shape}
use Rattle.env_table.specs.declared.entries.Shape.TheVariants as shape
use Rattle.env_table.specs.declared.entries.Entry.{Entry}
use Rattle.env_table.specs.declared.entries.Path.{Path}
use Rattle.env_table.specs.declared.entries.What.{What}
use Rattle.env_table.specs.declared.entries.What.TheVariants as what
use Rattle.env_table.specs.Views.{is_named, inside}
use Rattle.env_table.specs.Labels.{written_of}
use Rattle.row_parts.specs.Numbered as parts
use Rattle.row_parts.specs.Numbered.{Numbered, operand_view, in_slot, in_slots, first_of, token_in, path_in, operands_in, all_operands, filled_in, behind}
use Rattle.row_parts.specs.Folds.{Rule, operands_by, operand_by, tree_by}
use Rattle.typing_state.specs.Bound.{names_of_tokens}
use Rattle.record_steps.specs.Named.{labels_here}
use Rattle.use_typing.specs.Labels.{declared_in, found_by, label_paths}
use Rattle.pattern_matrix.specs.Lines.{Member, Typed, any, con, lit, either, listed}
use Rattle.pattern_matrix.specs.Views.{members_of}
use Rattle.match_warnings.specs.declared.forms.Form.{Form}
use Rattle.match_warnings.specs.declared.forms.Form.TheVariants as form
use Rattle.match_warnings.specs.declared.forms.Compound.{Compound}
use Rattle.match_warnings.specs.declared.forms.Compound.TheVariants as compound
use Rattle.match_warnings.specs.declared.forms.Constant.{Constant}
use Rattle.match_warnings.specs.declared.forms.Constant.TheVariants as constant
use Rattle.match_warnings.specs.Forms.{constant_of, form_of, is_bracketed}
use Rattle.match_warnings.specs.declared.pats.SeenType.{SeenType}
use Rattle.match_warnings.specs.declared.pats.Written.{Written}

-- ---- constructors

-- a constructor of this name with so many parts
abbrev pub member : List ℕ → ℕ → Member
member n k = record { name = n; parts = k }

-- ()
abbrev pub unit_members : List Member
unit_members = member (codes "()") 0 ∷ []

-- false, true
abbrev pub bool_members : List Member
bool_members = member (codes "false") 0 ∷ member (codes "true") 0 ∷ []

-- [], ::
abbrev pub list_members : List Member
list_members = member (codes "[]") 0 ∷ member (codes "::") 2 ∷ []

-- a constant by its spelling
abbrev pub constant_by : Constant → List ℕ → Typed
constant_by constant.Unit n = con unit_members (codes "()") (listed [])
constant_by constant.True n = con bool_members (codes "true") (listed [])
constant_by constant.False n = con bool_members (codes "false") (listed [])
constant_by constant.Nil n = con list_members (codes "[]") (listed [])
constant_by constant.Literal n = lit n

-- a constant
abbrev pub constant_pattern : Tok → Typed
constant_pattern t = constant_by (constant_of t.kind) t.name

-- p :: p
abbrev pub cell_of : Typed → Typed → Typed
cell_of head tail = con list_members (codes "::") (listed (head ∷ tail ∷ []))

-- [ p; p ]
abbrev pub list_of : List Typed → Typed
list_of [] = con list_members (codes "[]") (listed [])
list_of (p ∷ ps) = cell_of p (list_of ps)

-- (p, p)
abbrev pub tuple_of : List Typed → Typed
tuple_of ps = con (member tuple_name (length ps) ∷ []) tuple_name (listed ps)

-- a constructor of a declaration: it has one part where it has an argument
abbrev pub declared_member : Constructor → Member
declared_member k = member (str_bytes k.name) (if k.has_argument then 1 else 0)

-- whether a declaration with constructors or labels re-exports a type that isn't known: it makes no origin, and its type has none
abbrev pub is_of_unknown_type : Declaration → Bool
is_of_unknown_type d = is_none d.origin && is_none d.defines

-- the name by which an exception differs from another of its name: with the place where it is defined, in the text
abbrev pub exception_named : List ℕ → places.Place → List ℕ
exception_named n (at.Buffer span) = n ++ codes " " ++ decimal span.start
exception_named n (at.Prelude span) = n
exception_named n (at.BuiltIn k) = n

-- a constructor over its parts, by the shape of its declaration
abbrev pub shaped : Bool → Shape → List ℕ → List Typed → Option Typed
shaped true s n ps = None
shaped false (shape.Variant ks) n ps = Some (con (map declared_member ks.items) n (listed ps))
shaped false _ n ps = None

-- what an entry that is found as a constructor is over its parts; one that isn't declared is an exception, which never makes up all of its type
abbrev pub by_entry : Entry → What → List ℕ → List Typed → Option Typed
by_entry e (what.Constructor d k) n ps = shaped (is_of_unknown_type d.value) d.value.shape n ps
by_entry e _ n ps = Some (con [] (exception_named (str_bytes e.name) e.place) (listed ps))

-- the same of what is found; in a module that isn't known none is
abbrev pub by_found : FoundAmong Entry → List ℕ → List Typed → Option Typed
by_found (an_entry e) n ps = by_entry e e.what n ps
by_found a_hole n ps = None
by_found nothing n ps = None

-- what a path finds as a constructor
abbrev pub constructor_found : List Entry → parts.Written → Tok → FoundAmong Entry
constructor_found env p t = lookup_by is_named inside env (names_of_tokens p.qualifiers) constructor_kind t.name

-- a constructor that a path names, over its parts
abbrev pub constructor_pattern : List Entry → parts.Written → List Typed → Option Typed
constructor_pattern env p ps = elim p.last [ None ↦ None | Some t ↦ by_found (constructor_found env p t) t.name ps ]

-- ---- records

-- the names of labels, each with a mark before it
abbrev pub later_joined : List Label → List ℕ
later_joined [] = []
later_joined (l ∷ ls) = codes "; " ++ str_bytes l.name ++ later_joined ls

-- the names of labels with marks between them
abbrev pub joined : List Label → List ℕ
joined [] = []
joined (l ∷ ls) = str_bytes l.name ++ later_joined ls

-- the name of the one constructor that a record is: its labels in braces
abbrev pub record_named : List Label → List ℕ
record_named ls = codes "{" ++ joined ls ++ codes "}"

-- the same with all labels over its parts
abbrev pub whole_of : List Label → List Typed → Typed
whole_of ls ps = con (member (record_named ls) (length ls) ∷ []) (record_named ls) (listed ps)

-- a declaration, unless it re-exports a type that isn't known
abbrev pub unless_unknown : Bool → Declaration → Option Declaration
unless_unknown true d = None
unless_unknown false d = Some d

-- the declaration of a label's record type, where it is known
abbrev pub known_declaration : Option Declaration → Option Declaration
known_declaration None = None
known_declaration (Some d) = unless_unknown (is_of_unknown_type d) d

-- the record type of what labels find, where it is known
abbrev pub record_found : FoundAmong Entry → Option Declaration
record_found (an_entry e) = known_declaration (declared_in e.what)
record_found a_hole = None
record_found nothing = None

-- ---- patterns

-- what a row sees of a tree: its pattern, and the pattern of it as a field; none where no warning may be given of its match
pub record Seen : Type 0 where
  pub pattern : Option Typed
  pub field : Option Typed

-- of what is missing nothing is seen
abbrev pub unseen : ℕ → Place → Seen
unseen n at = record { pattern = None; field = None }

-- a pattern before others, where all are there
abbrev pub and_others : Option Typed → Option (List Typed) → Option (List Typed)
and_others None ps = None
and_others (Some p) None = None
and_others (Some p) (Some ps) = Some (p ∷ ps)

-- the patterns of parts, where all are there
abbrev pub gathered : List Seen → Option (List Typed)
gathered [] = Some []
gathered (s ∷ ss) = and_others s.pattern (gathered ss)

-- a field that is written: its label, and its pattern
pub record Field : Type 0 where
  pub label : List ℕ
  pub pattern : Option Typed

-- a field before others, where its label is there
abbrev pub with_field : Option Tok → Option Typed → List Field → List Field
with_field None p fs = fs
with_field (Some t) p fs = record { label = t.name; pattern = p } ∷ fs

-- whether a part is a tree
abbrev pub is_tree : Part → Bool
is_tree (taken t) = false
is_tree (inner t) = true
is_tree (missing at) = false

-- whether each of some operands is one
abbrev pub are_trees : List Numbered → Bool
are_trees [] = true
are_trees (o ∷ os) = is_tree o.part && are_trees os

-- the label of a field
abbrev pub label_in : Tree → parts.Written
label_in t = path_in t 0 1

-- the label of an operand that is a field, before others
abbrev pub with_label : Part → List parts.Written → List parts.Written
with_label (taken t) ps = ps
with_label (inner t) ps = label_in t ∷ ps
with_label (missing at) ps = ps

-- the labels of fields
abbrev pub labels_of : List Numbered → List parts.Written
labels_of [] = []
labels_of (o ∷ os) = with_label o.part (labels_of os)

-- an operand that is a field with a label, before others
abbrev pub with_part : Part → Seen → List Field → List Field
with_part (taken t) s fs = fs
with_part (inner t) s fs = with_field (label_in t).last s.field fs
with_part (missing at) s fs = fs

-- the fields of a record pattern whose labels are there, by what is seen of each
abbrev pub fields_of : List Numbered → List Seen → List Field
fields_of [] ss = []
fields_of (o ∷ os) [] = []
fields_of (o ∷ os) (s ∷ ss) = with_part o.part s (fields_of os ss)

-- the pattern of the first field with a label; a label that isn't written matches any value
abbrev pub field_at : List ℕ → List Field → Option Typed
field_at n [] = Some any
field_at n (f ∷ fs) = if bytes_eq f.label n then f.pattern else field_at n fs

-- the patterns of all labels, in the order of the declaration, where all are there
abbrev pub by_labels : List Label → List Field → Option (List Typed)
by_labels [] fs = Some []
by_labels (l ∷ ls) fs = and_others (field_at (str_bytes l.name) fs) (by_labels ls fs)

-- a record of a declaration, where it is known
abbrev pub record_by : Option Declaration → List Field → Option Typed
record_by None fs = None
record_by (Some d) fs = option_map (whole_of (labels_here d.shape)) (by_labels (labels_here d.shape) fs)

-- the record of these fields, where each is there
abbrev pub record_of : List Entry → List Numbered → List Seen → Option Typed
record_of env os ss = if are_trees os then record_by (record_found (found_by env (label_paths (labels_of os)))) (fields_of os ss) else None

-- the first of some patterns
abbrev pub first_pattern : List Typed → Option Typed
first_pattern ps = first_of ps

-- p :: p
abbrev pub cons_pattern : List Typed → Option Typed
cons_pattern [] = None
cons_pattern (p ∷ []) = None
cons_pattern (p ∷ q ∷ ps) = Some (cell_of p q)

-- a constructor over patterns, by the operand that is its head
abbrev pub applied : List Entry → Part → List Typed → Option Typed
applied env (taken t) ps = None
applied env (inner t) ps = constructor_pattern env (path_in t 0 1) ps
applied env (missing at) ps = None

-- a pattern of a form over the patterns of its parts
abbrev pub over_parts : Compound → List Entry → ℕ → Tree → List Typed → Option Typed
over_parts compound.Applied env n t ps = applied env (filled_in n t 0).part ps
over_parts compound.List env n t ps = Some (list_of ps)
over_parts compound.Cons env n t ps = cons_pattern ps
over_parts compound.Tuple env n t ps = Some (tuple_of ps)
over_parts compound.Either env n t ps = Some (either (listed ps))
over_parts compound.Bracketed env n t ps = first_pattern ps
over_parts compound.Other env n t ps = first_pattern ps

-- what is seen of the parts of a form that are patterns
abbrev pub parts_seen : Compound → List (ℕ × Seen) → List Seen
parts_seen f ss = if is_bracketed f then in_slot 1 ss else in_slots ss

-- the form of a tree
abbrev pub form_in : Tree → Form
form_in (node r x ps) = form_of r

-- the parts of a node that are patterns
abbrev pub patterns_in : Compound → ℕ → Tree → List Numbered
patterns_in f n t = if is_bracketed f then operands_in n t 1 else all_operands n t

-- a pattern over others, where all are there
abbrev pub then_over : Option (List Typed) → (List Typed → Option Typed) → Option Typed
then_over None f = None
then_over (Some ps) f = f ps

-- the pattern of a form, by what is seen of its parts
abbrev pub by_form : Form → List Entry → ℕ → Tree → List (ℕ × Seen) → Option Typed
by_form form.Name env n t ss = option_map (λ x. any) (token_in t 0)
by_form form.Wildcard env n t ss = Some any
by_form form.Constant env n t ss = option_map constant_pattern (token_in t 0)
by_form form.Negative env n t ss = option_map (λ x. lit (codes "-" ++ x.name)) (token_in t 1)
by_form form.Record env n t ss = record_of env (operands_in n t 1) (in_slot 1 ss)
by_form form.Bare env n t ss = constructor_pattern env (path_in t 0 1) []
by_form (form.Over f) env n t ss = then_over (gathered (parts_seen f ss)) (over_parts f env n t)

-- the pattern of a field: that in its slot 3; a label alone matches any value
abbrev pub field_pattern : Option Seen → Option Typed
field_pattern None = Some any
field_pattern (Some s) = s.pattern

-- what is seen of a row
abbrev pub row_seen : List Entry → ℕ → Tree → List (ℕ × Seen) → Seen
row_seen env n (node r x ps) ss = record { pattern = by_form (form_of r) env n (node r x ps) ss; field = field_pattern (first_of (in_slot 3 ss)) }

-- the rule of patterns among these names
abbrev pub seen_rule : List Entry → Rule Seen
seen_rule env = record { row = row_seen env; none = unseen }

-- what is seen of the parts of a node with this number
unfoldable pub seen_parts : List Entry → ℕ → Tree → List (ℕ × Seen)
seen_parts env n (node r x ps) = operands_by (seen_rule env) (behind n 1) r ps

-- The pattern of an operand, as rows of a match see it among these names; none where no warning may be given of its match: where a part is missing, and where a constructor, a label or a record is of a module or re-exports a type that isn't known.
unfoldable pub pattern_of : List Entry → Numbered → Option Typed
pattern_of env o = (operand_by (seen_rule env) o).pattern

-- the same of a tree with this number
unfoldable pub tree_pattern : List Entry → ℕ → Tree → Option Typed
tree_pattern env n t = (tree_by (seen_rule env) n t).pattern

-- the patterns of operands, where all are there
abbrev pub patterns_of : List Entry → List Numbered → Option (List Typed)
patterns_of env os = gathered (map (operand_by (seen_rule env)) os)

-- the pattern of a field that may have one of its own; without one it matches any value
abbrev pub own_pattern : List Entry → Option Numbered → Option Typed
own_pattern env None = Some any
own_pattern env (Some o) = pattern_of env o

-- a field of the code: its label, and its pattern
abbrev pub field_view : List Entry → Written → Field
field_view env f = record { label = str_bytes f.label; pattern = own_pattern env (option_map operand_view f.pattern) }

-- the pattern of a field of the code that may be there; without one any value is matched
abbrev pub pattern_in : List Entry → Option Written → Option Typed
pattern_in env None = Some any
pattern_in env (Some f) = (field_view env f).pattern

-- the fields of operands, by what each of them is
abbrev pub fields_in : List Entry → List Numbered → List Field
fields_in env os = fields_of os (map (operand_by (seen_rule env)) os)

-- all operands are fields, the paths of their labels were put after others, and these are those whose labels are there
pub record HasFields (env : List Entry) (os : List Numbered) (old new : List Path) (fs : List Written) : Type 0 where
  pub trees : are_trees os ≡ true
  pub paths : map written_of new ≡ map written_of old ++ label_paths (labels_of os)
  pub fields : map (field_view env) fs ≡ fields_in env os

-- the same of what is found; nothing is where an operand is missing
abbrev pub FindsFields : List Entry → List Numbered → (old new : List Path) → Option (List Written) → Type 0
FindsFields env os old new None = are_trees os ≡ false
FindsFields env os old new (Some fs) = HasFields env os old new fs

-- ---- constructors that patterns share

-- the constructors of a shape, if it has some
abbrev pub constructors_of : Shape → Option (List Constructor)
constructors_of (shape.Variant ks) = Some ks.items
constructors_of _ = None

-- these are the constructors of a declaration's origin, if it makes one
abbrev pub MembersOf : (types.Path → List Member) → Declaration → Type 0
MembersOf members d = (ks : List Constructor) → constructors_of d.shape ≡ Some ks → IfSome d.origin (λ o. map declared_member ks ≡ members (path_of o))

-- the same of what an entry is
abbrev pub MembersAre : (types.Path → List Member) → What → Type 0
MembersAre members (what.Constructor d k) = MembersOf members d.value
MembersAre members _ = Unit {0}

-- For each origin these are the constructors of every declaration that makes it and is found by a constructor's path.
pub record HasMembers (members : types.Path → List Member) (env : List Entry) : Type 0 where
  pub each : (p : parts.Written) (t : Tok) (e : Entry) → constructor_found env p t ≡ an_entry e → MembersAre members e.what

-- the lists of constructors that patterns of a match share so far are those
abbrev pub AreShared : (types.Path → List Member) → List SeenType → Type 0
AreShared members seen = All (λ (s : SeenType). members_of s.all.value.items ≡ members s.path.items) seen

-- What a call finds is what is wanted, wherever each origin has one list of constructors of which something holds, and the shared lists are these; the shared ones after it are, too.
abbrev pub FindsBy : {A : Type 0} → ((types.Path → List Member) → Type 0) → (old new : List SeenType) → (found wanted : A) → Type 0
FindsBy P old new found wanted = (members : types.Path → List Member) → P members → AreShared members old → (found ≡ wanted) × AreShared members new

-- the same of a pattern, where these are the constructors of each origin
abbrev pub Finds : {A : Type 0} → List Entry → (old new : List SeenType) → (found wanted : A) → Type 0
Finds env old new found wanted = FindsBy (λ members. HasMembers members env) old new found wanted
