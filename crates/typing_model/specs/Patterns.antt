-- What patterns ask, row by row (OCaml manual, 11.6).
use Rattle.std.specs.Prelude.{ℕ, ◌+◌, ◌==◌, Bool, true, false, not, List, [], ◌∷◌, ◌++◌, map, filter_map, Option, Some, None, option_map, if◌then◌else◌}
use Rattle.token_model.specs.Kinds.{Tok}
use Rattle.tree_model.specs.Trees.{Place}
use Rattle.tree_model.specs.Rows.{Row, pname_row, pany_row, pconst_row, pneg_row, pcon_row, pparen_row, plist_row, precord_row, papp_row, pcons_row, ptuple_row, por_row, pas_row}
use Rattle.type_model.specs.Types.{Typ, Tuple, types_of}
use Rattle.signature_model.specs.Declarations.{Name, Declaration, type_of}
use Rattle.signature_model.specs.Components.{same_name}
use Rattle.signature_model.specs.Entries.{constructor_kind}
use Rattle.typing_model.specs.Demands.{constructor_word, Demand, equal, test, twice, arity, one_side, Condition, same, known}
use Rattle.typing_model.specs.Contexts.{Context, Bound, type_at, letter, is_kept, ask, tell, tell_typed}
use Rattle.typing_model.specs.Parts.{Written, Pattern, TypeExpression, FieldPattern, Child, in_slot, path_in, token_in, place_of, no_pattern_at, patterns_in, pattern_in, types_in, first_of}
use Rattle.typing_model.specs.Names.{ask_bound, found_by, referent_of, then_by, Built, built_in, used_at}
use Rattle.typing_model.specs.BuiltIns.{exn_type, list_type, constant}
use Rattle.typing_model.specs.Records.{is_among, ask_record, first_token, declaration_found, field_type, ask_once, name_in}

-- that a name doesn't stand among those before it
abbrev pub ask_fresh : ℕ → ℕ → List Name → Tok → List Condition
ask_fresh n k seen t = ask n k (place_of t) (test (twice t.name) (not (is_among t.name seen)))

-- a name with the type of a node
abbrev pub bound_at : ℕ → Tok → Bound
bound_at n t = record { name = t.name; place = place_of t; has_type = λ c. type_at c n }

-- patterns one after the other: each name is new behind those of the patterns before
abbrev pub matched_all : Context → List Name → List Pattern → List Condition
matched_all c seen [] = []
matched_all c seen (p ∷ ps) = p.matched c seen ++ matched_all c (seen ++ p.mentions) ps

-- patterns beside one another: names of one don't count against another
abbrev pub matched_each : Context → List Name → List Pattern → List Condition
matched_each c seen [] = []
matched_each c seen (p ∷ ps) = p.matched c seen ++ matched_each c seen ps

-- the names that patterns bind, in order
abbrev pub all_names : List Pattern → List Bound
all_names [] = []
all_names (p ∷ ps) = p.names ++ all_names ps

-- all names in patterns, in order
abbrev pub all_mentions : List Pattern → List Name
all_mentions [] = []
all_mentions (p ∷ ps) = p.mentions ++ all_mentions ps

-- the demands of a row from a number on, each at its place
abbrev pub ask_all : ℕ → ℕ → List (Place × Demand) → List Condition
ask_all n k [] = []
ask_all n k (d ∷ ds) = ask n k d.0 d.1 ++ ask_all n (k + 1) ds

-- each pattern has this type
abbrev pub each_has : Context → Typ → List Pattern → List (Place × Demand)
each_has c t ps = map (λ p. (p.at, equal (type_at c p.node) t)) ps

-- the tail of a list
abbrev pub behind_first : {A : Type 0} → List A → List A
behind_first [] = []
behind_first (x ∷ xs) = xs

-- the type of the first of some patterns
abbrev pub first_type : Context → ℕ → List Pattern → Typ
first_type c n [] = letter c n 0
first_type c n (p ∷ ps) = type_at c p.node

-- a pattern over others, in which their names stand one after the other
abbrev pub over : ℕ → Place → List Pattern → (Context → List Condition) → Pattern
over n at ps own = record { node = n; at = at; names = all_names ps; mentions = all_mentions ps; matched = λ c seen. matched_all c seen ps ++ own c; constructor = None }

-- x
abbrev pub pname : ℕ → Place → Option Tok → Pattern
pname n at None = no_pattern_at n at
pname n at (Some t) = record { node = n; at = at; names = bound_at n t ∷ []; mentions = t.name ∷ []; matched = λ c seen. ask_fresh n 0 seen t; constructor = None }

-- a constant: `range`, and its own type
abbrev pub pconst : ℕ → Place → Option Tok → Pattern
pconst n at t = over n at [] (constant false n t)

-- - 1
abbrev pub pneg : ℕ → Place → Option Tok → Pattern
pneg n at t = over n at [] (constant true n t)

-- how many arguments a constructor takes
abbrev pub taken_by : Built → ℕ
taken_by b = elim b.argument [ None ↦ 0 | Some t ↦ 1 ]

-- what a constructor that is found asks of the number of its arguments, and the result, as it is used at its own node, which these nodes have
abbrev pub with_built : Context → ℕ → ℕ → Tok → ℕ → Built → List ℕ → List Condition → List Condition
with_built c n own t given b nodes arguments =
    ask n 1 (place_of t) (test (arity t.name (taken_by b) given) (taken_by b == given)) ++ arguments ++ map (λ m. same (type_at c m) (used_at c own b.result)) nodes

-- the constructor that a path finds, where its demand is kept
abbrev pub built_by : Context → ℕ → Written → Tok → Option Built
built_by c n p t = if is_kept c n 0 then then_by (referent_of (found_by c constructor_kind p t)) (built_in exn_type) else None

-- the type that the argument of a constructor has, as it is used at a node
abbrev pub argument_type : Context → ℕ → Option Built → Option Typ
argument_type c n b = then_by b (λ b. option_map (used_at c n) b.argument)

-- A: `bound`, `arity`, and the result
abbrev pub constructor_alone : Context → ℕ → Written → List Condition
constructor_alone c n p = elim p.last [
  | None ↦ []
  | Some t ↦ ask_bound c n 0 constructor_kind constructor_word p t ++
      elim (built_by c n p t) [ None ↦ [] | Some b ↦ with_built c n n t 0 b (n ∷ []) [] ]
]

-- A, as a pattern
abbrev pub pcon : ℕ → Place → Written → Pattern
pcon n at p = record { node = n; at = at; names = []; mentions = []; matched = λ c seen. constructor_alone c n p; constructor = Some p }

-- the argument of a constructor has the declared type
abbrev pub argument_has : ℕ → ℕ → Place → Typ → Option Typ → List Condition
argument_has n k at t None = []
argument_has n k at t (Some u) = ask n k at (equal t u)

-- nodes have the type of another
abbrev pub of_one_type : Context → ℕ → List ℕ → List Condition
of_one_type c n nodes = map (λ m. same (type_at c m) (type_at c n)) nodes

-- A p: `bound`, `arity`; the argument, which is the declared one; the result, which these nodes have. The letters are those of the constructor's own node. Where the constructor isn't found, these nodes have one type.
abbrev pub applied_constructor : Context → ℕ → Written → ℕ → List ℕ → List Condition → (Option Typ → List Condition) → List Condition
applied_constructor c n p head nodes argument has = tell_typed head c ++ elim p.last [
  | None ↦ argument ++ of_one_type c head nodes
  | Some t ↦ ask_bound c n 0 constructor_kind constructor_word p t ++
      elim (built_by c n p t) [ None ↦ argument ++ of_one_type c head nodes | Some b ↦ with_built c n head t 1 b nodes (argument ++ has (argument_type c head (Some b))) ]
]

-- A p, as a pattern
abbrev pub papp : ℕ → Place → Pattern → Pattern → Pattern
papp n at head p = elim head.constructor [
  | None ↦ over n at (p ∷ []) (λ c. [])
  | Some path ↦ record {
    node = n;
    at = at;
    names = p.names;
    mentions = p.mentions;
    matched = λ c seen. applied_constructor c n path head.node (n ∷ head.node ∷ []) (p.matched c seen) (argument_has n 2 p.at (type_at c p.node));
    constructor = None;
  }
]

-- ( p ), ( p : t ): the part has the written type
abbrev pub pparen : ℕ → Place → Pattern → Option TypeExpression → Pattern
pparen n at p None = over n at (p ∷ []) (λ c. same (type_at c n) (type_at c p.node) ∷ [])
pparen n at p (Some t) = over n at (p ∷ []) (λ c. t.read c ++ ask n 0 p.at (equal (type_at c p.node) (type_at c t.node)) ++ same (type_at c n) (type_at c t.node) ∷ [])

-- [ p; p ]: the parts, each behind the first has its type
abbrev pub plist : ℕ → Place → List Pattern → Pattern
plist n at ps = over n at ps (λ c. ask_all n 0 (each_has c (first_type c n ps) (behind_first ps)) ++ same (type_at c n) (list_type (first_type c n ps)) ∷ [])

-- p :: p: the right part is a list of the left
abbrev pub pcons : ℕ → Place → Pattern → Pattern → Pattern
pcons n at p q = over n at (p ∷ q ∷ []) (λ c. ask n 0 q.at (equal (type_at c q.node) (list_type (type_at c p.node))) ++ same (type_at c n) (list_type (type_at c p.node)) ∷ [])

-- p, p
abbrev pub ptuple : ℕ → Place → List Pattern → Pattern
ptuple n at ps = over n at ps (λ c. same (type_at c n) (Tuple (types_of (map (λ p. type_at c p.node) ps))) ∷ [])

-- p as x: the name has the type of the pattern
abbrev pub pas : ℕ → Place → Pattern → Option Tok → Pattern
pas n at p None = over n at (p ∷ []) (λ c. same (type_at c n) (type_at c p.node) ∷ [])
pas n at p (Some t) = record {
  node = n;
  at = at;
  names = p.names ++ bound_at n t ∷ [];
  mentions = p.mentions ++ t.name ∷ [];
  matched = λ c seen. p.matched c seen ++ ask_fresh n 0 (seen ++ p.mentions) t ++ same (type_at c n) (type_at c p.node) ∷ [];
  constructor = None;
}

-- the name among bound ones
abbrev pub find_bound : Name → List Bound → Option Bound
find_bound n [] = None
find_bound n (b ∷ bs) = if same_name n b.name then Some b else find_bound n bs

-- the first of these names that isn't among the others
abbrev pub first_apart : List Bound → List Bound → Option Name
first_apart [] others = None
first_apart (b ∷ bs) others = elim (find_bound b.name others) [ None ↦ Some b.name | Some o ↦ first_apart bs others ]

-- the first name that one of two sides has and the other hasn't, those of the first side before those of the second
abbrev pub name_apart : List Bound → List Bound → Option Name
name_apart xs ys = elim (first_apart xs ys) [ None ↦ first_apart ys xs | Some n ↦ Some n ]

-- that a side has the same names, where one name tells it apart
abbrev pub sides_differ : Place → Option Name → List (Place × Demand)
sides_differ at None = []
sides_differ at (Some n) = (at, test (one_side n) false) ∷ []

-- the common names of two sides, each with the type that it has on the first
abbrev pub common_names : Context → List Bound → List Bound → List (Place × Demand)
common_names c [] others = []
common_names c (b ∷ bs) others = elim (find_bound b.name others) [ None ↦ common_names c bs others | Some o ↦ (o.place, equal (o.has_type c) (b.has_type c)) ∷ common_names c bs others ]

-- what a later side of an or-pattern asks beside the first: the same names, each with one type, and one type of both
abbrev pub side_beside : Context → Pattern → Pattern → List (Place × Demand)
side_beside c first p = sides_differ p.at (name_apart first.names p.names) ++ common_names c first.names p.names ++ (p.at, equal (type_at c p.node) (type_at c first.node)) ∷ []

-- what all later sides ask beside the first
abbrev pub sides_beside : Context → Pattern → List Pattern → List (Place × Demand)
sides_beside c first [] = []
sides_beside c first (p ∷ ps) = side_beside c first p ++ sides_beside c first ps

-- p | p: it binds the names of the first side
abbrev pub por : ℕ → Place → Pattern → List Pattern → Pattern
por n at first rest = record {
  node = n;
  at = at;
  names = first.names;
  mentions = all_mentions (first ∷ rest);
  matched = λ c seen. matched_each c seen (first ∷ rest) ++ ask_all n 0 (sides_beside c first rest) ++ same (type_at c n) (type_at c first.node) ∷ [];
  constructor = None;
}

-- the name that a field binds without a pattern of its own, with the type of the field's node
abbrev pub punned : ℕ → FieldPattern → List Bound
punned n f = elim f.pattern [ Some p ↦ [] | None ↦ elim f.label.last [ None ↦ [] | Some t ↦ record { name = t.name; place = place_of t; has_type = λ c. type_at c f.node } ∷ [] ] ]

-- the names that a field binds
abbrev pub names_in_field : ℕ → FieldPattern → List Bound
names_in_field n f = elim f.pattern [ None ↦ punned n f | Some p ↦ p.names ]

-- all names in a field
abbrev pub mentions_in_field : FieldPattern → List Name
mentions_in_field f = elim f.pattern [ None ↦ name_in f.label | Some p ↦ p.mentions ]

-- a punned field's name is new, and its node has the field's type
abbrev pub match_pun : Context → FieldPattern → List Name → Option Typ → List Condition
match_pun c f seen t = elim f.label.last [ None ↦ [] | Some x ↦ ask_fresh f.node 1 seen x ++ known (type_at c f.node) ∷ elim t [ None ↦ [] | Some t ↦ same (type_at c f.node) t ∷ [] ] ]

-- a field: its label is new where the record is found, then its pattern, which has the field's type
abbrev pub match_field : Context → ℕ → Bool → FieldPattern → List Name → List Name → Option Typ → List Condition
match_field c n is_found f labels seen t =
    tell f.node c ++ (if is_found then ask_once f.node 0 labels f.label else []) ++
    elim f.pattern [ None ↦ match_pun c f seen t | Some p ↦ p.matched c seen ++ elim t [ None ↦ [] | Some t ↦ ask f.node 1 p.at (equal (type_at c p.node) t) ] ]

-- fields in order, each behind the labels and names of those before
abbrev pub match_fields : Context → ℕ → Option Declaration → List FieldPattern → List Name → List Name → List Condition
match_fields c n found [] labels seen = []
match_fields c n found (f ∷ fs) labels seen =
    match_field c n (elim found [ None ↦ false | Some d ↦ true ]) f labels seen (field_type c n f.node found f.label)
    ++ match_fields c n found fs (labels ++ name_in f.label) (seen ++ mentions_in_field f)

-- the labels of fields
abbrev pub labels_of_fields : List FieldPattern → List Written
labels_of_fields fs = map (λ f. f.label) fs

-- the record type, where its demand is kept; without a written label nothing is asked
abbrev pub kept_record : Context → ℕ → ℕ → List Written → Option Declaration
kept_record c n k ps = if is_kept c n k then declaration_found c ps else elim (first_token ps) [ None ↦ declaration_found c ps | Some t ↦ None ]

-- { l = p }: the type by its labels, the fields, and the record
abbrev pub precord : ℕ → Place → List FieldPattern → Pattern
precord n at fs = record {
  node = n;
  at = at;
  names = names_of_fields fs;
  mentions = mentions_of_fields fs;
  matched = λ c seen. ask_record c n 0 (labels_of_fields fs) ++ match_fields c n (kept_record c n 0 (labels_of_fields fs)) fs [] seen ++
      elim (kept_record c n 0 (labels_of_fields fs)) [ None ↦ [] | Some d ↦ same (type_at c n) (used_at c n (type_of d)) ∷ [] ];
  constructor = None;
}
  where
    names_of_fields : List FieldPattern → List Bound
    names_of_fields [] = []
    names_of_fields (f ∷ fs) = names_in_field n f ++ names_of_fields fs

    mentions_of_fields : List FieldPattern → List Name
    mentions_of_fields [] = []
    mentions_of_fields (f ∷ fs) = mentions_in_field f ++ mentions_of_fields fs

-- a pattern by its row
unfoldable pub pattern_row : Row → ℕ → Place → List Child → Pattern
pattern_row pname_row n at cs = pname n at (token_in 0 cs)
pattern_row pany_row n at cs = over n at [] (λ c. [])
pattern_row pconst_row n at cs = pconst n at (token_in 0 cs)
pattern_row pneg_row n at cs = pneg n at (token_in 1 cs)
pattern_row pcon_row n at cs = pcon n at (path_in 0 1 cs)
pattern_row pparen_row n at cs = pparen n at (pattern_in 1 cs) (first_of (types_in 3 cs))
pattern_row plist_row n at cs = plist n at (patterns_in 1 cs)
pattern_row precord_row n at cs = precord n at (filter_map (λ c. c.field_pattern) (in_slot 1 cs))
pattern_row papp_row n at cs = papp n at (pattern_in 0 cs) (pattern_in 1 cs)
pattern_row pcons_row n at cs = pcons n at (pattern_in 0 cs) (pattern_in 2 cs)
pattern_row ptuple_row n at cs = ptuple n at (patterns_in 0 cs ++ patterns_in 2 cs)
pattern_row por_row n at cs = por n at (pattern_in 0 cs) (patterns_in 2 cs)
pattern_row pas_row n at cs = pas n at (pattern_in 0 cs) (token_in 2 cs)
pattern_row _ n at cs = no_pattern_at n at
