-- What module expressions, module types and their items ask, and the signatures that they have (OCaml manual, 11.10 and 11.11; Leroy 1994 and 1995).
use Rattle.std.specs.Prelude.{ℕ, ◌+◌, Bool, true, false, not, ◌&&◌, List, [], ◌∷◌, ◌++◌, filter_map, length, Option, Some, None, if◌then◌else◌}
use Rattle.token_model.specs.Kinds.{Tok}
use Rattle.tree_model.specs.Trees.{Place}
use Rattle.tree_model.specs.Rows.{Row, let_row, type_row, exception_row, break_row, module_row, modtype_row, open_row, include_row, val_row, gmodule_row, mpath_row, mstruct_row, mparen_row, mapp_row, mfunctor_row, ypath_row, ysig_row, yparen_row, ywith_row, yfunctor_row}
use Rattle.type_model.specs.Types.{Path, Typ}
use Rattle.type_model.specs.Schemes.{Scheme}
use Rattle.signature_model.specs.Declarations.{Name, in_text}
use Rattle.signature_model.specs.Signatures.{Signature, Hole, Structure, Functor, Components, Done, Component, Meaning, Value, TypeName, Exception, Module, ModuleType, Template, template, components_of}
use Rattle.signature_model.specs.Templates.{made_at, origins_at, with_type}
use Rattle.signature_model.specs.Functors.{applied, closed_over}
use Rattle.signature_model.specs.Entries.{module_kind, module_type_kind, Referent, a_value, a_constructor, an_exception, a_label, a_type, a_module, a_module_type, Entry, entry, Environment, scope_of}
use Rattle.typing_model.specs.Demands.{module_word, module_type_word, test, matches, closes, twice, no_functor, no_abstract_type, Condition}
use Rattle.typing_model.specs.Contexts.{Context, parameters, under, type_at, is_kept, ask, tell}
use Rattle.typing_model.specs.Parts.{Written, TypeExpression, ModuleExpression, WithClause, Parameter, Seen, no_names, seen_too, Item, Child, in_slot, path_in, token_in, optional_tokens_in, place_of, first_of, modules_in, module_in, module_types_in, module_type_in, no_module_at, no_module_type_at, type_in}
use Rattle.typing_model.specs.Parts as parts
use Rattle.typing_model.specs.Names.{ask_bound, found_by, referent_of, then_by}
use Rattle.typing_model.specs.Records.{is_among}
use Rattle.typing_model.specs.Declarations.{names_of_tokens}
use Rattle.typing_model.specs.Expressions.{bindings_in, is_some}
use Rattle.typing_model.specs.Items.{variables_written, let_item, type_item, exception_item, no_item, items_ask, signature_of_items, made_by_items}

-- the signature of a module that a path finds, where its demand is kept; what isn't found is a hole
abbrev pub signature_in : Referent → Option Signature
signature_in (a_value s) = None
signature_in (a_constructor d k) = None
signature_in (an_exception o) = None
signature_in (a_label d l) = None
signature_in (a_type d) = None
signature_in (a_module s) = Some s
signature_in (a_module_type t) = None

-- the template of a module type that a path finds
abbrev pub template_in : Referent → Option Template
template_in (a_value s) = None
template_in (a_constructor d k) = None
template_in (an_exception o) = None
template_in (a_label d l) = None
template_in (a_type d) = None
template_in (a_module s) = None
template_in (a_module_type t) = Some t

-- the signature of a path of modules, a hole where it isn't found
abbrev pub signature_by : Context → ℕ → Written → Signature
signature_by c n p = elim (then_by p.last (λ t. if is_kept c n 0 then then_by (referent_of (found_by c module_kind p t)) signature_in else None)) [ None ↦ Hole | Some s ↦ s ]

-- the template of a path to a module type, a hole where it isn't found
abbrev pub template_by : Context → ℕ → Written → Template
template_by c n p = elim (then_by p.last (λ t. if is_kept c n 0 then then_by (referent_of (found_by c module_type_kind p t)) template_in else None)) [ None ↦ template [] Hole | Some t ↦ t ]

-- that a path to a module is bound
abbrev pub ask_module : Context → ℕ → Written → List Condition
ask_module c n p = elim p.last [ None ↦ [] | Some t ↦ ask_bound c n 0 module_kind module_word p t ]

-- that a path to a module type is bound
abbrev pub ask_module_type : Context → ℕ → Written → List Condition
ask_module_type c n p = elim p.last [ None ↦ [] | Some t ↦ ask_bound c n 0 module_type_kind module_type_word p t ]

-- M, M.N
abbrev pub module_path : ℕ → Place → Written → ModuleExpression
module_path n at p = record { node = n; at = at; asks = λ c. ask_module c n p; signature = λ c. signature_by c n p; makes = λ c. [] }

-- struct i end
abbrev pub structure : ℕ → Place → List Item → ModuleExpression
structure n at is_ = record { node = n; at = at; asks = λ c. items_ask c no_names is_; signature = λ c. signature_of_items c is_; makes = λ c. made_by_items c is_ }

-- ( m ), ( m : y ): both parts; `match` at the part; the signature is made anew at this node
abbrev pub sealed : ℕ → Place → ModuleExpression → Option parts.ModuleType → ModuleExpression
sealed n at m None = record { node = n; at = at; asks = m.asks; signature = m.signature; makes = m.makes }
sealed n at m (Some y) = record {
  node = n;
  at = at;
  asks = λ c. m.asks c ++ y.asks c ++ ask n 0 m.at (matches (m.signature c) (y.template c));
  signature = λ c. made_at (y.template c) n;
  makes = λ c. m.makes c ++ origins_at (y.template c).made n;
}

-- the parameter and the body of a functor; of anything else a hole
abbrev pub parameter_of : Signature → Template
parameter_of Hole = template [] Hole
parameter_of (Structure cs) = template [] Hole
parameter_of (Functor pm p bm b) = template pm p

-- the body of a functor's signature
abbrev pub body_of : Signature → Template
body_of Hole = template [] Hole
body_of (Structure cs) = template [] Hole
body_of (Functor pm p bm b) = template bm b

-- whether a module may be applied: it is a functor or a hole
abbrev pub is_functor : Signature → Bool
is_functor Hole = true
is_functor (Structure cs) = false
is_functor (Functor pm p bm b) = true

-- the argument of an application: a seal on it is made anew at the node of its module type
abbrev pub argument_signature : Context → ModuleExpression → Option parts.ModuleType → Signature
argument_signature c m None = m.signature c
argument_signature c m (Some y) = made_at (y.template c) y.node

-- the origins that an argument makes
abbrev pub argument_makes : Context → ModuleExpression → Option parts.ModuleType → List Path
argument_makes c m None = m.makes c
argument_makes c m (Some y) = m.makes c ++ origins_at (y.template c).made y.node

-- what a seal on an argument asks
abbrev pub seal_asks : Context → ℕ → ModuleExpression → Option parts.ModuleType → List Condition
seal_asks c n m None = []
seal_asks c n m (Some y) = y.asks c ++ ask n 1 m.at (matches (m.signature c) (y.template c))

-- the signature of an application whose demands are kept
abbrev pub applied_signature : Context → ℕ → Signature → Signature → Signature
applied_signature c n Hole a = Hole
applied_signature c n (Structure cs) a = Hole
applied_signature c n (Functor pm p bm b) a = if is_kept c n 0 && is_kept c n 2 then applied n a (template pm p) (template bm b) else Hole

-- m ( m ): the head, which is a functor; the argument, which matches the parameter; the body for it, its origins made anew at this node
abbrev pub application : ℕ → Place → ModuleExpression → ModuleExpression → Option parts.ModuleType → ModuleExpression
application n at f m y = record {
  node = n;
  at = at;
  asks = λ c. f.asks c ++ ask n 0 f.at (test no_functor (is_functor (f.signature c))) ++ m.asks c ++ seal_asks c n m y ++
      (if is_kept c n 0 then ask n 2 m.at (matches (argument_signature c m y) (parameter_of (f.signature c))) else []);
  signature = λ c. applied_signature c n (f.signature c) (argument_signature c m y);
  makes = λ c. f.makes c ++ argument_makes c m y ++ (if is_kept c n 0 && is_kept c n 2 then origins_at (body_of (f.signature c)).made n else []);
}

-- the module that a parameter is in the body: its signature made anew at the node of its module type
abbrev pub parameter_signature : Context → Parameter → Signature
parameter_signature c p = made_at (p.module_type.template c) p.module_type.node

-- a context with a module of this name, if there is one
abbrev pub with_module : Context → Option Tok → Signature → Context
with_module c None s = c
with_module c (Some t) s = under (entry t.name (in_text (place_of t)) (a_module s) ∷ c.env) c

-- the context behind a parameter
abbrev pub with_parameter : Context → Parameter → Context
with_parameter c p = with_module c p.name (parameter_signature c p)

-- what parameters ask, each in the environment of those before
abbrev pub parameters_ask : Context → List Parameter → List Condition
parameters_ask c [] = []
parameters_ask c (p ∷ ps) = p.module_type.asks c ++ parameters_ask (with_parameter c p) ps

-- the context behind parameters
abbrev pub with_parameters : Context → List Parameter → Context
with_parameters c [] = c
with_parameters c (p ∷ ps) = with_parameters (with_parameter c p) ps

-- the body of a functor behind its `closing`, whose number is that of the functors further in: where it isn't kept, what is open is generalised
abbrev pub closed_unless : Bool → Environment → Signature → Signature
closed_unless true env s = s
closed_unless false env s = closed_over env s

-- the signature of a functor of these parameters; without a parameter that of the body
abbrev pub functor_signature : Context → ℕ → List Parameter → ModuleExpression → Signature
functor_signature c n [] m = m.signature c
functor_signature c n (p ∷ ps) m =
    let inner = with_parameter c p in
    Functor (origins_at (p.module_type.template c).made p.module_type.node) (parameter_signature c p)
    (elim ps [ [] ↦ m.makes inner | q ∷ qs ↦ [] ])
    (closed_unless (is_kept c n (length ps + 2)) inner.env (functor_signature inner n ps m))

-- one `closing` for each parameter, at the innermost body, that of the innermost functor first; their numbers are from 2 on
abbrev pub closings_ask : Context → ℕ → Place → List Parameter → ModuleExpression → List Condition
closings_ask c n at [] m = []
closings_ask c n at (p ∷ ps) m =
    let inner = with_parameter c p in
    closings_ask inner n at ps m ++ ask n (length ps + 2) at (closes inner.env (functor_signature inner n ps m))

-- functor (X : y) -> m, of one or more parameters
abbrev pub functor_expression : ℕ → Place → List Parameter → ModuleExpression → ModuleExpression
functor_expression n at ps m = record {
  node = n;
  at = at;
  asks = λ c. parameters_ask c ps ++ m.asks (with_parameters c ps) ++ closings_ask c n m.at ps m;
  signature = λ c. functor_signature c n ps m;
  makes = λ c. elim ps [ [] ↦ m.makes c | p ∷ qs ↦ [] ];
}

-- S, M.S
abbrev pub module_type_path : ℕ → Written → parts.ModuleType
module_type_path n p = record { node = n; asks = λ c. ask_module_type c n p; template = λ c. template_by c n p }

-- sig g end
abbrev pub signature_text : ℕ → List Item → parts.ModuleType
signature_text n is_ = record { node = n; asks = λ c. items_ask c no_names is_; template = λ c. template (made_by_items c is_) (signature_of_items c is_) }

-- ( y )
abbrev pub module_type_in_parentheses : ℕ → parts.ModuleType → parts.ModuleType
module_type_in_parentheses n y = record { node = n; asks = y.asks; template = y.template }

-- whether a signature is a hole
abbrev pub is_hole : Signature → Bool
is_hole Hole = true
is_hole (Structure cs) = false
is_hole (Functor pm p bm b) = false

-- the template behind a clause
abbrev pub behind_clause : Context → Template → WithClause → Option Template
behind_clause c t w = then_by w.head.name (λ x. with_type t x.name (length w.head.parameters) (type_at c w.body.node))

-- a clause: the type is abstract in the template, then it is read
abbrev pub clause_asks : Context → Template → WithClause → List Condition
clause_asks c t w = tell w.node c ++
    elim w.head.name [
      | None ↦ []
      | Some x ↦
          ask w.node 0 (place_of x) (test (no_abstract_type x.name (length w.head.parameters)) (if is_hole t.signature then true else is_some (behind_clause c t w)))
    ] ++
    w.body.read (record c { variables = parameters (names_of_tokens w.head.parameters) })

-- clauses in order, each of the template behind those before
abbrev pub clauses_ask : Context → Template → List WithClause → List Condition
clauses_ask c t [] = []
clauses_ask c t (w ∷ ws) = clause_asks c t w ++ clauses_ask c (elim (behind_clause c t w) [ None ↦ t | Some u ↦ u ]) ws

-- the template behind clauses
abbrev pub behind_clauses : Context → Template → List WithClause → Template
behind_clauses c t [] = t
behind_clauses c t (w ∷ ws) = behind_clauses c (elim (behind_clause c t w) [ None ↦ t | Some u ↦ u ]) ws

-- y with w and w
abbrev pub with_expression : ℕ → parts.ModuleType → List WithClause → parts.ModuleType
with_expression n y ws = record { node = n; asks = λ c. y.asks c ++ clauses_ask c (y.template c) ws; template = λ c. behind_clauses c (y.template c) ws }

-- the template of a functor type
abbrev pub functor_template : Context → List Parameter → parts.ModuleType → Template
functor_template c [] y = y.template c
functor_template c (p ∷ ps) y =
    let body = functor_template (with_parameter c p) ps y in
    template [] (Functor (origins_at (p.module_type.template c).made p.module_type.node) (parameter_signature c p) body.made body.signature)

-- functor (X : y) -> y
abbrev pub functor_type : ℕ → List Parameter → parts.ModuleType → parts.ModuleType
functor_type n ps y = record { node = n; asks = λ c. parameters_ask c ps ++ y.asks (with_parameters c ps); template = λ c. functor_template c ps y }

-- that the name of a module, or of a module type, is new; its demand has the number 1 in the row
abbrev pub ask_new : ℕ → List Name → Option Tok → List Condition
ask_new n seen None = []
ask_new n seen (Some t) = ask n 1 (place_of t) (test (twice t.name) (not (is_among t.name seen)))

-- a component of this name, if there is one
abbrev pub component_named : Option Tok → Meaning → Components
component_named None m = Done
component_named (Some t) m = Component t.name (in_text (place_of t)) m Done

-- an entry of this name, if there is one
abbrev pub entry_named : Option Tok → Referent → List Entry
entry_named None r = []
entry_named (Some t) r = entry t.name (in_text (place_of t)) r ∷ []

-- the name of a token, if it is there
abbrev pub name_list : Option Tok → List Name
name_list None = []
name_list (Some t) = t.name ∷ []

-- module M = m
abbrev pub module_item : ℕ → Option Tok → ModuleExpression → Item
module_item n x m = record {
  node = n;
  asks = λ c seen. ask_new n seen.modules x ++ m.asks c;
  adds = λ c. entry_named x (a_module (m.signature c));
  components = λ c. component_named x (Module (m.signature c));
  named = λ c. record no_names { modules = name_list x };
  makes = m.makes;
}

-- module type S = y
abbrev pub module_type_item : ℕ → Option Tok → parts.ModuleType → Item
module_type_item n x y = record {
  node = n;
  asks = λ c seen. ask_new n seen.module_types x ++ y.asks c;
  adds = λ c. entry_named x (a_module_type (y.template c));
  components = λ c. component_named x (ModuleType (y.template c).made (y.template c).signature);
  named = λ c. record no_names { module_types = name_list x };
  makes = λ c. [];
}

-- module M : y, in a signature: it is made anew at this node
abbrev pub module_specification : ℕ → Option Tok → List Parameter → parts.ModuleType → Item
module_specification n x ps y =
    let signature : Context → Signature = λ c. elim ps [ [] ↦ made_at (y.template c) n | p ∷ qs ↦ (functor_template c (p ∷ qs) y).signature ] in
    record {
      node = n;
      asks = λ c seen. ask_new n seen.modules x ++ parameters_ask c ps ++ y.asks (with_parameters c ps);
      adds = λ c. entry_named x (a_module (signature c));
      components = λ c. component_named x (Module (signature c));
      named = λ c. record no_names { modules = name_list x };
      makes = λ c. elim ps [ [] ↦ origins_at (y.template c).made n | p ∷ qs ↦ [] ];
    }

-- open M
abbrev pub open_item : ℕ → Written → Item
open_item n p = record (no_item n) { asks = λ c seen. ask_module c n p; adds = λ c. scope_of (signature_by c n p) }

-- the names of types, modules and module types among components
abbrev pub names_among : Components → Seen
names_among Done = no_names
names_among (Component n at (Value s) cs) = names_among cs
names_among (Component n at (TypeName d) cs) = let rest = names_among cs in record rest { types = n ∷ rest.types }
names_among (Component n at (Exception o) cs) = names_among cs
names_among (Component n at (Module s) cs) = let rest = names_among cs in record rest { modules = n ∷ rest.modules }
names_among (Component n at (ModuleType os s) cs) = let rest = names_among cs in record rest { module_types = n ∷ rest.module_types }

-- whether a component's name is new
abbrev pub is_new : Seen → Name → Meaning → Option Bool
is_new seen n (Value s) = None
is_new seen n (TypeName d) = Some (not (is_among n seen.types))
is_new seen n (Exception o) = None
is_new seen n (Module s) = Some (not (is_among n seen.modules))
is_new seen n (ModuleType os s) = Some (not (is_among n seen.module_types))

-- each type, module and module type that is added is new, among those added before it too, reported at the row's node
abbrev pub added_asked : ℕ → ℕ → Place → Seen → Components → List Condition
added_asked n k at seen Done = []
added_asked n k at seen (Component x where_ m cs) = elim (is_new seen x m) [ None ↦ added_asked n k at seen cs | Some b ↦ ask n k at (test (twice x) b) ++ added_asked n (k + 1) at (seen_too seen (names_among (Component x where_ m Done))) cs ]

-- include M
abbrev pub include_item : ℕ → Place → Written → Item
include_item n at p = record {
  node = n;
  asks = λ c seen. ask_module c n p ++ added_asked n 1 at seen (components_of (signature_by c n p));
  adds = λ c. scope_of (signature_by c n p);
  components = λ c. components_of (signature_by c n p);
  named = λ c. names_among (components_of (signature_by c n p));
  makes = λ c. [];
}

-- include S, in a signature: a module type
abbrev pub include_specification : ℕ → Place → Written → Item
include_specification n at p = record {
  node = n;
  asks = λ c seen. ask_module_type c n p ++ added_asked n 1 at seen (components_of (template_by c n p).signature);
  adds = λ c. scope_of (template_by c n p).signature;
  components = λ c. components_of (template_by c n p).signature;
  named = λ c. names_among (components_of (template_by c n p).signature);
  makes = λ c. (template_by c n p).made;
}

-- the names among others, once each
abbrev pub once_each : List Name → List Name → List Name
once_each seen [] = []
once_each seen (n ∷ ns) = if is_among n seen then once_each seen ns else n ∷ once_each (n ∷ seen) ns

-- val x : t: its type variables are the scheme's own
abbrev pub all_bound : Typ → Scheme
all_bound t = record { body = t; bound = λ v. true }

-- a value of a signature
abbrev pub value_item : ℕ → List Tok → Option Tok → TypeExpression → Item
value_item n ts x t = record (no_item n) {
  asks = λ c seen. t.read (record c { variables = parameters (once_each [] (variables_written ts)) });
  adds = λ c. entry_named x (a_value (all_bound (type_at c t.node)));
  components = λ c. component_named x (Value (all_bound (type_at c t.node)));
}

-- the parameters whose names and module types stand in two slots, pairwise; a name may be missing
abbrev pub paired : List (Option Tok) → List parts.ModuleType → List Parameter
paired ts [] = []
paired [] (y ∷ ys) = record { name = None; module_type = y } ∷ paired [] ys
paired (t ∷ ts) (y ∷ ys) = record { name = t; module_type = y } ∷ paired ts ys

-- a module expression by its row
unfoldable pub module_expression_row : Row → ℕ → Place → List Child → ModuleExpression
module_expression_row mpath_row n at cs = module_path n at (path_in 0 1 cs)
module_expression_row mstruct_row n at cs = structure n at (filter_map (λ k. k.item) (in_slot 1 cs))
module_expression_row mparen_row n at cs = sealed n at (module_in 1 cs) (first_of (module_types_in 3 cs))
module_expression_row mapp_row n at cs = application n at (module_in 0 cs) (module_in 2 cs) (first_of (module_types_in 4 cs))
module_expression_row mfunctor_row n at cs = functor_expression n at (paired (optional_tokens_in 2 cs) (module_types_in 4 cs)) (module_in 7 cs)
module_expression_row _ n at cs = no_module_at n at

-- a module type by its row
unfoldable pub module_type_row : Row → ℕ → List Child → parts.ModuleType
module_type_row ypath_row n cs = module_type_path n (path_in 0 1 cs)
module_type_row ysig_row n cs = signature_text n (filter_map (λ k. k.signature_item) (in_slot 1 cs))
module_type_row yparen_row n cs = module_type_in_parentheses n (module_type_in 1 cs)
module_type_row ywith_row n cs = with_expression n (module_type_in 0 cs) (filter_map (λ k. k.with_clause) (in_slot 2 cs))
module_type_row yfunctor_row n cs = functor_type n (paired (optional_tokens_in 2 cs) (module_types_in 4 cs)) (module_type_in 7 cs)
module_type_row _ n cs = no_module_type_at n

-- the module of an item: its body, sealed where a module type is written, behind its parameters; it stands where the body does
abbrev pub module_of_item : ℕ → List Child → ModuleExpression
module_of_item n cs =
    let m = module_in 10 cs in
    let body = sealed n m.at m (first_of (module_types_in 8 cs)) in
    elim (paired (optional_tokens_in 3 cs) (module_types_in 5 cs)) [ [] ↦ body | p ∷ ps ↦ functor_expression n m.at (p ∷ ps) body ]

-- an item of a structure by its row, with its tokens
unfoldable pub item_row : Row → ℕ → Place → List Tok → List Child → Option Item
item_row let_row n at ts cs = Some (let_item n ts (is_some (token_in 1 cs)) (bindings_in 2 cs))
item_row type_row n at ts cs = Some (type_item n (filter_map (λ k. k.declaration) (in_slot 2 cs)))
item_row exception_row n at ts cs = Some (exception_item n (then_by (first_of (in_slot 1 cs)) (λ k. k.constructor)))
item_row break_row n at ts cs = Some (no_item n)
item_row module_row n at ts cs = Some (module_item n (token_in 1 cs) (module_of_item n cs))
item_row modtype_row n at ts cs = Some (module_type_item n (token_in 1 cs) (module_type_in 3 cs))
item_row open_row n at ts cs = Some (open_item n (path_in 1 2 cs))
item_row include_row n at ts cs = Some (include_item n at (path_in 1 2 cs))
item_row _ n at ts cs = None

-- an item of a signature by its row, with its tokens
unfoldable pub signature_item_row : Row → ℕ → Place → List Tok → List Child → Option Item
signature_item_row val_row n at ts cs = Some (value_item n ts (token_in 1 cs) (type_in 3 cs))
signature_item_row type_row n at ts cs = Some (type_item n (filter_map (λ k. k.declaration) (in_slot 2 cs)))
signature_item_row exception_row n at ts cs = Some (exception_item n (then_by (first_of (in_slot 1 cs)) (λ k. k.constructor)))
signature_item_row gmodule_row n at ts cs = Some (module_specification n (token_in 1 cs) (paired (optional_tokens_in 3 cs) (module_types_in 5 cs)) (module_type_in 8 cs))
signature_item_row modtype_row n at ts cs = Some (module_type_item n (token_in 1 cs) (module_type_in 3 cs))
signature_item_row open_row n at ts cs = Some (open_item n (path_in 1 2 cs))
signature_item_row include_row n at ts cs = Some (include_specification n at (path_in 1 2 cs))
signature_item_row _ n at ts cs = None
