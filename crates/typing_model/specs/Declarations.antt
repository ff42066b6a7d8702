-- What declarations of types and exceptions ask, and what they declare (OCaml manual, 11.8).
use Rattle.std.specs.Prelude.{ℕ, zero, suc, Bool, true, false, not, ◌||◌, ◌==◌, List, [], ◌∷◌, ◌++◌, map, filter_map, length, Option, Some, None, option_map, if◌then◌else◌}
use Rattle.token_model.specs.Kinds.{Tok}
use Rattle.tree_model.specs.Trees.{Place, part_yield}
use Rattle.tree_model.specs.Rows.{Row, alias_row, variant_row, record_row}
use Rattle.type_model.specs.Types.{Typ, Typs, Con, Var, Arrow, Tuple}
use Rattle.type_model.specs.Substitutions.{apply}
use Rattle.signature_model.specs.Declarations as declared
use Rattle.signature_model.specs.Declarations.{Name, Definition, Own, Is, Constructor, Label, Shape, Opaque, Variant, Labels, Declaration}
use Rattle.signature_model.specs.Components.{same_name}
use Rattle.signature_model.specs.Changes.{argument}
use Rattle.signature_model.specs.Matching.{is_unknown}
use Rattle.signature_model.specs.Entries.{Environment, Entry, entry, a_type, an_exception, entries_of_shape}
use Rattle.signature_model.specs.Owners.{owner_of}
use Rattle.typing_model.specs.Demands.{twice, cyclic, differs, Demand, test, agrees, Condition}
use Rattle.typing_model.specs.Contexts.{Context, parameters, under, type_at, is_kept, ask, tell}
use Rattle.typing_model.specs.Parts.{TypeExpression, Head, ConstructorPart, LabelPart, Told, constructors, labels, RightSide, another, own, DeclarationPart, Child, in_slot, token_in, tokens_in, place_of, types_in, type_in, first_of}
use Rattle.typing_model.specs.Records.{is_among}
use Rattle.typing_model.specs.Names.{then_by}
use Rattle.typing_model.specs.Patterns.{ask_all}

-- the constructors that have a name, with the types of their arguments
abbrev pub constructor_of : Context → ConstructorPart → Option Constructor
constructor_of c k = option_map (λ t. record { name = t.name; place = declared.in_text (place_of t); argument = option_map (λ a. type_at c a.node) k.argument }) k.name

-- a label that has a name, with its type
abbrev pub label_of : Context → LabelPart → Option Label
label_of c l = option_map (λ t. record { name = t.name; place = declared.in_text (place_of t); is_mutable = l.is_mutable; body = type_at c l.body.node }) l.name

-- a variant in which no constructor has a name tells nothing
abbrev pub variant_of : List Constructor → Shape
variant_of [] = Opaque
variant_of (k ∷ ks) = Variant (k ∷ ks)

-- what is told of the values of a type
abbrev pub shape_of : Context → Told → Shape
shape_of c (constructors ks) = variant_of (filter_map (constructor_of c) ks)
shape_of c (labels ls) = Labels (filter_map (label_of c) ls)

-- an abbreviation, and the names of types in it
abbrev pub abbreviation_in : Option RightSide → Option (ℕ × List Name)
abbreviation_in None = None
abbreviation_in (Some (another n t l k)) = elim k [ None ↦ Some (n, t.mentions) | Some r ↦ None ]
abbreviation_in (Some (own r)) = None

-- whether a number is one of a list
abbrev pub is_number : ℕ → List ℕ → Bool
is_number n [] = false
is_number n (m ∷ ms) = n == m || is_number n ms

-- the names of types in an abbreviation, unless it is one of these, which are types of their own
abbrev pub abbreviated : List ℕ → Option RightSide → List Name
abbreviated apart right = elim (abbreviation_in right) [ None ↦ [] | Some a ↦ if is_number a.0 apart then [] else a.1 ]

-- the name of a token; none where it is missing
abbrev pub token_name : Option Tok → Name
token_name None = []
token_name (Some t) = t.name

-- the names that `reads` finds in the right side of a name, of two the later one
abbrev pub names_behind : (Option RightSide → List Name) → List DeclarationPart → Name → Option (List Name)
names_behind reads [] x = None
names_behind reads (d ∷ ds) x = elim (names_behind reads ds x) [ Some ns ↦ Some ns | None ↦ if same_name x (token_name d.head.name) then Some (reads d.right) else None ]

-- the names that others stand for, in order
abbrev pub expanded : (Option RightSide → List Name) → List DeclarationPart → List Name → List Name
expanded reads ds [] = []
expanded reads ds (n ∷ ns) = elim (names_behind reads ds n) [ None ↦ [] | Some ms ↦ ms ] ++ expanded reads ds ns

-- whether a name is met among names, or among what they are other names of, so many steps further
abbrev pub leads_to : ℕ → (Option RightSide → List Name) → List DeclarationPart → Name → List Name → Bool
leads_to zero reads ds x ns = is_among x ns
leads_to (suc k) reads ds x ns = is_among x ns || leads_to k reads ds x (expanded reads ds ns)

-- whether a declaration is an abbreviation that contains itself, where some abbreviations are types of their own
abbrev pub is_cyclic : List ℕ → List DeclarationPart → DeclarationPart → Bool
is_cyclic apart all d = elim d.head.name [
  | None ↦ false
  | Some t ↦ elim (abbreviation_in d.right) [ None ↦ false | Some a ↦ leads_to (length all) (abbreviated apart) all t.name a.1 ]
]

-- the number of an abbreviation; none of another right side
abbrev pub number_of : DeclarationPart → List ℕ
number_of d = elim (abbreviation_in d.right) [ None ↦ [] | Some a ↦ a.0 ∷ [] ]

-- the abbreviations of a group that contain themselves, in order: each is a type of its own for those behind it
abbrev pub cyclic_behind : List ℕ → List DeclarationPart → List DeclarationPart → List ℕ
cyclic_behind apart all [] = apart
cyclic_behind apart all (d ∷ ds) = cyclic_behind (if is_cyclic apart all d then number_of d ++ apart else apart) all ds

-- whether an abbreviation of this number contains itself
abbrev pub contains_itself : List DeclarationPart → ℕ → Bool
contains_itself all n = is_number n (cyclic_behind [] all all)

-- the names of types in a right side that is another type, where it is an abbreviation that doesn't contain itself, or a re-export whose demand is kept
abbrev pub renamed : Context → List DeclarationPart → Option RightSide → List Name
renamed c all None = []
renamed c all (Some (another n t l k)) = if elim k [ None ↦ not (contains_itself all n) | Some r ↦ is_kept c n 0 ] then t.mentions else []
renamed c all (Some (own r)) = []

-- whether a re-export of a group names itself
abbrev pub names_itself : Context → List DeclarationPart → Option Tok → List Name → Bool
names_itself c all None ns = false
names_itself c all (Some t) ns = leads_to (length all) (renamed c all) all t.name ns

-- what a right side that is another type defines: an abbreviation that contains itself, and a re-export whose demand isn't kept, are types of their own
abbrev pub is_other : Context → List DeclarationPart → ℕ → Option Told → Bool
is_other c all n None = not (contains_itself all n)
is_other c all n (Some k) = is_kept c n 0

-- what a declaration stands for, by its right side
abbrev pub definition_of : Context → List DeclarationPart → ℕ → Option RightSide → Definition
definition_of c all node None = Own (node ∷ [])
definition_of c all node (Some (another n t l k)) = if is_other c all n k then Is (type_at c t.node) else Own (node ∷ [])
definition_of c all node (Some (own k)) = Own (node ∷ [])

-- what a right side tells of the values
abbrev pub shape_in : Context → Option RightSide → Shape
shape_in c None = Opaque
shape_in c (Some (another n t l k)) = elim k [ None ↦ Opaque | Some r ↦ shape_of c r ]
shape_in c (Some (own r)) = shape_of c r

-- what a declaration of a group declares
abbrev pub declaration_of : Context → List DeclarationPart → DeclarationPart → Declaration
declaration_of c all d = record { arity = length d.head.parameters; definition = definition_of c all d.node d.right; shape = shape_in c d.right }

-- the entries of a declaration: its name, if it has one, and then its constructors or labels
abbrev pub type_entry : Declaration → Option Tok → List Entry
type_entry d None = []
type_entry d (Some t) = entry t.name (declared.in_text (place_of t)) (a_type d) ∷ []

-- the entries of one declaration of a group
abbrev pub entries_of_part : Context → List DeclarationPart → DeclarationPart → List Entry
entries_of_part c all d = let e = declaration_of c all d in type_entry e d.head.name ++ entries_of_shape e e.shape

-- the entries of some declarations of a group, in order
abbrev pub entries_of_group : Context → List DeclarationPart → List DeclarationPart → List Entry
entries_of_group c all [] = []
entries_of_group c all (d ∷ ds) = entries_of_part c all d ++ entries_of_group c all ds

-- the names alone, which stand in scope inside the group
abbrev pub names_of_types : Context → List DeclarationPart → List DeclarationPart → Environment → Environment
names_of_types c all [] env = env
names_of_types c all (d ∷ ds) env = names_of_types c all ds (type_entry (declaration_of c all d) d.head.name ++ env)

-- tokens each of which is new behind those before
abbrev pub new_tokens : List Name → List Tok → List (Place × Demand)
new_tokens seen [] = []
new_tokens seen (t ∷ ts) = (place_of t, test (twice t.name) (not (is_among t.name seen))) ∷ new_tokens (seen ++ t.name ∷ []) ts

-- the names of tokens
abbrev pub names_of_tokens : List Tok → List Name
names_of_tokens ts = map (λ t. t.name) ts

-- each name of the group is new in the structure
abbrev pub names_asked : List Name → List DeclarationPart → List Condition
names_asked seen [] = []
names_asked seen (d ∷ ds) = elim d.head.name [ None ↦ names_asked seen ds | Some t ↦ ask d.node 0 (place_of t) (test (twice t.name) (not (is_among t.name seen))) ++ names_asked (seen ++ t.name ∷ []) ds ]

-- a type is read, if there is one
abbrev pub read_optional : Context → Option TypeExpression → List Condition
read_optional c None = []
read_optional c (Some t) = t.read c

-- the types of constructors and of labels, in order
abbrev pub constructors_read : Context → List ConstructorPart → List Condition
constructors_read c [] = []
constructors_read c (k ∷ ks) = tell k.node c ++ read_optional c k.argument ++ constructors_read c ks

-- the types of labels, in order
abbrev pub labels_read : Context → List LabelPart → List Condition
labels_read c [] = []
labels_read c (l ∷ ls) = tell l.node c ++ l.body.read c ++ labels_read c ls

-- each constructor, and each label, is new in its declaration
abbrev pub constructors_new : List Name → List ConstructorPart → List Condition
constructors_new seen [] = []
constructors_new seen (k ∷ ks) = elim k.name [ None ↦ constructors_new seen ks | Some t ↦ ask k.node 0 (place_of t) (test (twice t.name) (not (is_among t.name seen))) ++ constructors_new (seen ++ t.name ∷ []) ks ]

-- each label is new in its declaration
abbrev pub labels_new : List Name → List LabelPart → List Condition
labels_new seen [] = []
labels_new seen (l ∷ ls) = elim l.name [ None ↦ labels_new seen ls | Some t ↦ ask l.node 0 (place_of t) (test (twice t.name) (not (is_among t.name seen))) ++ labels_new (seen ++ t.name ∷ []) ls ]

-- what is told of the values: the types, and then that the names are new
abbrev pub shape_asks : Context → Option Told → List Condition
shape_asks c None = []
shape_asks c (Some (constructors ks)) = constructors_read c ks ++ constructors_new [] ks
shape_asks c (Some (labels ls)) = labels_read c ls ++ labels_new [] ls

-- a constructor of a type with these arguments
abbrev pub constructor_over : Typs → Constructor → Constructor
constructor_over ts k = record k { argument = option_map (apply (argument ts)) k.argument }

-- a label of a type with these arguments
abbrev pub label_over : Typs → Label → Label
label_over ts l = record l { body = apply (argument ts) l.body }

-- the constructors or labels of the type that a right side names, over its arguments
abbrev pub told_by : Typs → Shape → Shape
told_by ts Opaque = Opaque
told_by ts (Variant ks) = Variant (map (constructor_over ts) ks)
told_by ts (Labels ls) = Labels (map (label_over ts) ls)

-- the shape of the origin of a type; an unknown type has any shape, and a type of another form none
abbrev pub told_of : Environment → Typ → Option Shape
told_of env (Con o ts) = if is_unknown o then None else Some (elim (owner_of env o) [ None ↦ Opaque | Some d ↦ told_by ts d.shape ])
told_of env (Var v) = Some Opaque
told_of env (Arrow a b) = Some Opaque
told_of env (Tuple ts) = Some Opaque

-- that a re-export tells the same as the type that it names, which is told by its last token; one that names itself doesn't
abbrev pub reexport_asked : Context → Bool → ℕ → ℕ → TypeExpression → Name → Shape → List Condition
reexport_asked c true n arity t x shape = ask n 0 t.at (test (differs x) false)
reexport_asked c false n arity t x shape = elim (told_of c.env (type_at c t.node)) [
  | None ↦ ask n 0 t.at (test (differs x) true)
  | Some actual ↦ ask n 0 t.at (agrees (differs x) arity actual shape)
]

-- a right side: the type, the names, and for a re-export that it tells the same
abbrev pub right_asks : Context → List DeclarationPart → Option Tok → ℕ → Option RightSide → List Condition
right_asks c all x arity None = []
right_asks c all x arity (Some (another n t l k)) =
    tell n c ++ t.read c ++ shape_asks c k ++ elim k [ None ↦ [] | Some r ↦ reexport_asked c (names_itself c all x t.mentions) n arity t (token_name l) (shape_of c r) ]
right_asks c all x arity (Some (own r)) = shape_asks c (Some r)

-- a declaration: its parameters are new, then the right side, in which they are bound
abbrev pub declaration_asks : Context → List DeclarationPart → DeclarationPart → List Condition
declaration_asks c all d =
    tell d.node c ++ ask_all d.node 1 (new_tokens [] d.head.parameters) ++
    right_asks (record c { variables = parameters (names_of_tokens d.head.parameters) }) all d.head.name (length d.head.parameters) d.right

-- declarations of a group, in order
abbrev pub declarations_ask : Context → List DeclarationPart → List DeclarationPart → List Condition
declarations_ask c all [] = []
declarations_ask c all (d ∷ ds) = declaration_asks c all d ++ declarations_ask c all ds

-- no abbreviation contains itself; one that does is a type of its own for those behind it
abbrev pub cycles_asked : List DeclarationPart → List DeclarationPart → List Condition
cycles_asked all [] = []
cycles_asked all (d ∷ ds) = elim d.head.name [
  | None ↦ cycles_asked all ds
  | Some t ↦ elim (abbreviation_in d.right) [
    | None ↦ cycles_asked all ds
    | Some a ↦ ask a.0 0 (place_of t) (test (cyclic t.name) (not (contains_itself all a.0))) ++ cycles_asked all ds
  ]
]

-- a group of declarations in a structure in which these names of types stand: the names, each declaration, the cycles
abbrev pub group_asks : Context → List Name → List DeclarationPart → List Condition
group_asks c seen ds = names_asked seen ds ++ declarations_ask (under (names_of_types c ds ds c.env) c) ds ds ++ cycles_asked ds ds

-- an exception: it has no parameters
abbrev pub exception_asks : Context → ConstructorPart → List Condition
exception_asks c k = tell k.node c ++ read_optional (record c { variables = parameters [] }) k.argument

-- the entry of an exception that has a name
abbrev pub entries_of_exception : Context → ConstructorPart → List Entry
entries_of_exception c k = elim k.name [ None ↦ [] | Some t ↦ entry t.name (declared.in_text (place_of t)) (an_exception (option_map (λ a. type_at c a.node) k.argument)) ∷ [] ]

-- the parts by their rows
abbrev pub head_row : List Child → Head
head_row cs = record { parameters = tokens_in 1 cs; name = token_in 4 cs }

-- a constructor, by its parts
abbrev pub constructor_row : ℕ → List Child → ConstructorPart
constructor_row n cs = record { node = n; name = token_in 0 cs; argument = first_of (types_in 2 cs) }

-- whether a token is there
abbrev pub is_there : Option Tok → Bool
is_there None = false
is_there (Some t) = true

-- a label, by its parts
abbrev pub label_row : ℕ → List Child → LabelPart
label_row n cs = record { node = n; is_mutable = is_there (token_in 0 cs); name = token_in 1 cs; body = type_in 3 cs }

-- the last of some tokens
abbrev pub last_token : List Tok → Option Tok
last_token [] = None
last_token (t ∷ []) = Some t
last_token (t ∷ u ∷ us) = last_token (u ∷ us)

-- the tokens of the part in a slot
abbrev pub tokens_of_slot : ℕ → List Child → List Tok
tokens_of_slot s cs = elim (first_of (in_slot s cs)) [ None ↦ [] | Some k ↦ part_yield k.part ]

-- constructors or labels, by the row
abbrev pub told_row : Row → List Child → Option Told
told_row variant_row cs = Some (constructors (filter_map (λ k. k.constructor) (in_slot 1 cs)))
told_row record_row cs = Some (labels (filter_map (λ k. k.label) (in_slot 1 cs)))
told_row _ cs = None

-- a right side, by its row
abbrev pub right_side_row : Row → ℕ → List Child → Option RightSide
right_side_row alias_row n cs = Some (another n (type_in 0 cs) (last_token (tokens_of_slot 0 cs)) (then_by (first_of (in_slot 2 cs)) (λ k. k.told)))
right_side_row row n cs = option_map own (told_row row cs)

-- a declaration, by its parts
abbrev pub declaration_row : ℕ → List Child → DeclarationPart
declaration_row n cs = record { node = n; head = elim (then_by (first_of (in_slot 0 cs)) (λ k. k.head)) [ None ↦ record { parameters = []; name = None } | Some h ↦ h ]; right = then_by (first_of (in_slot 2 cs)) (λ k. k.right_side) }
