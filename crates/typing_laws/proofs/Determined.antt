-- What is declared where no declaration is another name for a type is one in all typings of its demands.
use Rattle.std.proofs.Common.{◌≡◌, ℕ, ◌+◌, ◌==◌, Bool, true, false, not, ◌&&◌, List, [], ◌∷◌, ◌++◌, map, filter_map, reverse, length, Option, Some, None, option_map, refl, sym, ◌∙◌, ap, subst, if◌then◌else◌}
use Rattle.std.specs.List.{cons_option}
use Rattle.token_model.specs.Kinds.{Tok}
use Rattle.tree_model.specs.Trees.{Place, place, Tree, Forest, Part, node, no_parts, part, taken, inner, missing, part_size, part_yield}
use Rattle.tree_model.specs.Rows.{Row, con_row, label_row, decl_row, alias_row, variant_row, record_row, tvar_row, tcon_row, tparen_row, tapp_row, ttuple_row, tarrow_row, val_row, type_row, exception_row, gmodule_row, modtype_row, open_row, include_row, ypath_row, ysig_row, yparen_row, ywith_row, yfunctor_row}
use Rattle.type_model.specs.Types.{Path, Typ, Arrow, Tuple, types_of}
use Rattle.signature_model.specs.Declarations.{Name, Declaration, type_of, in_text, Shape, Constructor, Label, Own}
use Rattle.signature_model.specs.Declarations as declared
use Rattle.signature_model.specs.Components.{same_name}
use Rattle.signature_model.specs.Changes.{argument}
use Rattle.signature_model.specs.Matching.{used}
use Rattle.signature_model.specs.Signatures.{Signature, Structure, Components, Component, Exception, Module, template}
use Rattle.signature_model.specs.Signatures as signatures
use Rattle.signature_model.specs.Templates.{made_at, origins_at}
use Rattle.signature_model.specs.Entries.{Environment, Entry, entry, a_type, a_value, an_exception, a_module, a_module_type, type_kind, entries_of_shape}
use Rattle.signature_model.specs.Lookups.{lookup, found, newest_by, is_named}
use Rattle.typing_model.specs.Demands.{site, Condition, same, instance, made, known, demand, treated, AllHold}
use Rattle.typing_model.specs.Contexts.{Context, Choice, Variables, parameters, unresolved, filled_at, tell}
use Rattle.typing_model.specs.Parts as parts
use Rattle.typing_model.specs.Parts.{Written, TypeExpression, Parameter, ConstructorPart, LabelPart, Told, constructors, labels, RightSide, another, own, DeclarationPart, Item, Seen, Child, in_slot, path_in, token_in, optional_tokens_in, types_in, type_in, module_types_in, module_type_in, first_of, no_type_at, no_module_type_at, place_of, no_names, seen_too}
use Rattle.typing_model.specs.Names.{names_of, then_by, referent_of, declaration_in}
use Rattle.typing_model.specs.TypeExpressions as types
use Rattle.typing_model.specs.TypeExpressions.{index_from, variable_asks, tvar, nodes_of, read_all, declared_type, applied_to, constructor_asks, tcon, tapp, in_parentheses, tparen, ttuple, tarrow}
use Rattle.typing_model.specs.Declarations.{constructor_of, label_of, variant_of, shape_of, declaration_of, type_entry, entries_of_part, entries_of_group, names_of_types, names_of_tokens, names_asked, read_optional, constructors_read, labels_read, shape_asks, right_asks, declaration_asks, declarations_ask, cycles_asked, group_asks, new_tokens, right_side_row}
use Rattle.typing_model.specs.Patterns.{ask_all}
use Rattle.typing_model.specs.Items.{type_components, origin_by, origins_of_group, items_ask, components_of_items, made_by_items, behind_items, signature_of_items, newest_alone, then_components, type_item, exception_item, variables_written}
use Rattle.typing_model.specs.Modules.{ask_new, component_named, entry_named, module_type_item, module_specification, open_item, include_specification, once_each, value_item, all_bound, paired, signature_text, module_type_row, signature_item_row}
use Rattle.typing_model.specs.Meanings.{constructor_of as con_of, label_of as lab_of, declaration_of as decl_of, recorded_item, node_child, leaf_child, children_of, child_of, tree_child}
use Rattle.typing_model.specs.First.{specifications_of}
use Rattle.typing_laws.proofs.Bools.{no_yes, and_cases}
use Rattle.typing_laws.proofs.Together.{Kept}
use Rattle.typing_laws.proofs.Steady.{Each, no_one, one_and, each_append, IfThere, absent, there}
use Rattle.typing_laws.proofs.SteadyRows.{mapped, filtered, first_there, then_there}
use Rattle.typing_laws.proofs.SteadyDeclarations.{component_behind}
use Rattle.typing_laws.proofs.SteadyItems.{pair_alike}
use Rattle.typing_laws.proofs.Slots.{slot_is, none_there}
use Rattle.typing_laws.specs.Reexports.{has_slot}

-- conditions in front and behind
pub hold_left : (k : Kept) (xs ys : List Condition) → AllHold k (xs ++ ys) → AllHold k xs
hold_left k [] ys h = tt
hold_left k (same t u ∷ xs) ys h = (h.0, hold_left k xs ys h.1)
hold_left k (instance s t ∷ xs) ys h = (h.0, hold_left k xs ys h.1)
hold_left k (made n t ∷ xs) ys h = (h.0, hold_left k xs ys h.1)
hold_left k (known t ∷ xs) ys h = (h.0, hold_left k xs ys h.1)
hold_left k (demand s p d ∷ xs) ys h = (h.0, hold_left k xs ys h.1)
hold_left k (treated n e ∷ xs) ys h = (h.0, hold_left k xs ys h.1)

pub hold_right : (k : Kept) (xs ys : List Condition) → AllHold k (xs ++ ys) → AllHold k ys
hold_right k [] ys h = h
hold_right k (same t u ∷ xs) ys h = hold_right k xs ys h.1
hold_right k (instance s t ∷ xs) ys h = hold_right k xs ys h.1
hold_right k (made n t ∷ xs) ys h = hold_right k xs ys h.1
hold_right k (known t ∷ xs) ys h = hold_right k xs ys h.1
hold_right k (demand s p d ∷ xs) ys h = hold_right k xs ys h.1
hold_right k (treated n e ∷ xs) ys h = hold_right k xs ys h.1

-- a context of declarations
abbrev pub ctx : Kept → Variables → Environment → Choice → Context
ctx k v E a = record { env = E; variables = v; held = []; kept = k; chosen = a }

abbrev pub told : Option Declaration → Option (ℕ × Typ)
told o = option_map (λ d. (d.arity, type_of d)) o

-- two environments find types of the same number of parameters and of the same meaning
pub record DeclareAlike (E F : Environment) : Type 0 where
  pub finds : (path : List Name) (n : Name) → told (then_by (referent_of (lookup E path type_kind n)) declaration_in) ≡ told (then_by (referent_of (lookup F path type_kind n)) declaration_in)

pub record DeterminedType (k : Kept) (a b : Choice) (t : TypeExpression) : Type 0 where
  pub one : (ps : List Name) (E F : Environment) → DeclareAlike E F → AllHold k (t.read (ctx k (parameters ps) E a)) → AllHold k (t.read (ctx k (parameters ps) F b)) → a.type_at t.node ≡ b.type_at t.node
  pub group : (ps : List Name) (E F : Environment) → DeclareAlike E F → AllHold k (t.grouped_read (ctx k (parameters ps) E a)) → AllHold k (t.grouped_read (ctx k (parameters ps) F b)) → map a.type_at t.grouped ≡ map b.type_at t.grouped

alone_one : (a b : Choice) (n : ℕ) → a.type_at n ≡ b.type_at n → map a.type_at (n ∷ []) ≡ map b.type_at (n ∷ [])
alone_one a b n e = ap (λ t. t ∷ []) e

pub no_type_determined : (k : Kept) (a b : Choice) (n : ℕ) (q : Place) → DeterminedType k a b (no_type_at n q)
no_type_determined k a b n q = record { one = λ ps E F g h i. h.0 ∙ sym i.0; group = λ ps E F g h i. alone_one a b n (h.0 ∙ sym i.0) }

variable_one : (k : Kept) (a b : Choice) (ps : List Name) (E F : Environment) (n : ℕ) (t : Tok) → AllHold k (variable_asks (ctx k (parameters ps) E a) n t (parameters ps)) → AllHold k (variable_asks (ctx k (parameters ps) F b) n t (parameters ps)) → a.type_at n ≡ b.type_at n
variable_one k a b ps E F n t h i = by (index_from 0 t.name ps) refl
  where
    by : (o : Option ℕ) → index_from 0 t.name ps ≡ o → a.type_at n ≡ b.type_at n
    by None e = let x = rw (e, variable_asks) at h in let y = rw (e, variable_asks) at i in x.1.0 ∙ sym y.1.0
    by (Some j) e = let x = rw (e, variable_asks) at h in let y = rw (e, variable_asks) at i in x.1.0 ∙ sym y.1.0

tvar_determined : (k : Kept) (a b : Choice) (n : ℕ) (q : Place) (t : Option Tok) → DeterminedType k a b (tvar n q t)
tvar_determined k a b n q None = no_type_determined k a b n q
tvar_determined k a b n q (Some t) = record { one = λ ps E F g h i. variable_one k a b ps E F n t h i; group = λ ps E F g h i. alone_one a b n (variable_one k a b ps E F n t h i) }

two : (t u v w : List Typ) (x y : Typ) → t ≡ u → x ≡ y → ◌≡◌ {A = List Typ} (x ∷ t) (y ∷ u)
two t u v w x y e f = cc

all_one : (k : Kept) (a b : Choice) (ps : List Name) (E F : Environment) → DeclareAlike E F → (ts : List TypeExpression) → Each (DeterminedType k a b) ts → AllHold k (read_all (ctx k (parameters ps) E a) ts) → AllHold k (read_all (ctx k (parameters ps) F b) ts) →
    map a.type_at (nodes_of ts) ≡ map b.type_at (nodes_of ts)
all_one k a b ps E F g [] no_one h i = refl
all_one k a b ps E F g (t ∷ ts) (one_and s each) h i =
    two (map a.type_at (nodes_of ts)) (map b.type_at (nodes_of ts)) [] [] (a.type_at t.node) (b.type_at t.node)
    (all_one k a b ps E F g ts each (hold_right k (t.read (ctx k (parameters ps) E a)) _ h) (hold_right k (t.read (ctx k (parameters ps) F b)) _ i))
    (s.one ps E F g (hold_left k (t.read (ctx k (parameters ps) E a)) _ h) (hold_left k (t.read (ctx k (parameters ps) F b)) _ i))

abbrev type_told : Option (ℕ × Typ) → Typ
type_told None = Tuple (types_of [])
type_told (Some x) = x.1

-- what the name of a constructor asks
declared_one : (k : Kept) (a b : Choice) (ps : List Name) (E F : Environment) (n : ℕ) (t : Tok) (ns : List ℕ) (o p : Option Declaration) → told o ≡ told p → map a.type_at ns ≡ map b.type_at ns →
    AllHold k (declared_type (ctx k (parameters ps) E a) n t ns o) → AllHold k (declared_type (ctx k (parameters ps) F b) n t ns p) → a.type_at n ≡ b.type_at n
declared_one k a b ps E F n t ns None None e f h i = h.0 ∙ sym i.0
declared_one k a b ps E F n t ns None (Some d) e f h i = absurd (cc)
declared_one k a b ps E F n t ns (Some d) None e f h i = absurd (cc)
declared_one k a b ps E F n t ns (Some d) (Some g) e f h i = by (k (site n 1)) h.1 i.1
  where
    meaning : type_of d ≡ type_of g
    meaning = ap type_told e

    by : (x : Bool) → AllHold k (if x then same (a.type_at n) (applied_to (ctx k (parameters ps) E a) n d ns) ∷ [] else unresolved (ctx k (parameters ps) E a) n) →
        AllHold k (if x then same (b.type_at n) (applied_to (ctx k (parameters ps) F b) n g ns) ∷ [] else unresolved (ctx k (parameters ps) F b) n) → a.type_at n ≡ b.type_at n
    by true h i = h.0 ∙ ap (λ ts. used (argument (types_of ts)) (filled_at (ctx k (parameters ps) E a) n) (type_of d)) f ∙ ap (used (argument (types_of (map b.type_at ns))) (filled_at (ctx k (parameters ps) E a) n)) meaning ∙ sym i.0
    by false h i = h.0 ∙ sym i.0

if_told : (x : Bool) (o p : Option Declaration) → told o ≡ told p → told (if x then o else None) ≡ told (if x then p else None)
if_told true o p e = e
if_told false o p e = refl

constructor_one : (k : Kept) (a b : Choice) (ps : List Name) (E F : Environment) (n : ℕ) (p : Written) (ns : List ℕ) → DeclareAlike E F → map a.type_at ns ≡ map b.type_at ns →
    AllHold k (constructor_asks (ctx k (parameters ps) E a) n p ns) → AllHold k (constructor_asks (ctx k (parameters ps) F b) n p ns) → a.type_at n ≡ b.type_at n
constructor_one k a b ps E F n p ns g f h i = by p.last refl
  where
    by : (o : Option Tok) → p.last ≡ o → a.type_at n ≡ b.type_at n
    by None e = let x = rw (e, constructor_asks) at h in let y = rw (e, constructor_asks) at i in x.0 ∙ sym y.0
    by (Some t) e = let x = rw (e, constructor_asks) at h in let y = rw (e, constructor_asks) at i in
        declared_one k a b ps E F n t ns (if k (site n 0) then then_by (referent_of (lookup E (names_of p.qualifiers) type_kind t.name)) declaration_in else None)
        (if k (site n 0) then then_by (referent_of (lookup F (names_of p.qualifiers) type_kind t.name)) declaration_in else None)
        (if_told (k (site n 0)) (then_by (referent_of (lookup E (names_of p.qualifiers) type_kind t.name)) declaration_in) (then_by (referent_of (lookup F (names_of p.qualifiers) type_kind t.name)) declaration_in) (g.finds (names_of p.qualifiers) t.name)) f x.1 y.1

tcon_determined : (k : Kept) (a b : Choice) (n : ℕ) (q : Place) (p : Written) → DeterminedType k a b (tcon n q p)
tcon_determined k a b n q p = record { one = λ ps E F g h i. constructor_one k a b ps E F n p [] g refl h i; group = λ ps E F g h i. alone_one a b n (constructor_one k a b ps E F n p [] g refl h i) }

tapp_determined : (k : Kept) (a b : Choice) (n : ℕ) (q : Place) (left : TypeExpression) (p : Written) → DeterminedType k a b left → DeterminedType k a b (tapp n q left p)
tapp_determined k a b n q left p s = record { one = λ ps E F g h i. whole ps E F g h i; group = λ ps E F g h i. alone_one a b n (whole ps E F g h i) }
  where
    whole : (ps : List Name) (E F : Environment) → DeclareAlike E F → AllHold k (left.grouped_read (ctx k (parameters ps) E a) ++ constructor_asks (ctx k (parameters ps) E a) n p left.grouped) →
        AllHold k (left.grouped_read (ctx k (parameters ps) F b) ++ constructor_asks (ctx k (parameters ps) F b) n p left.grouped) → a.type_at n ≡ b.type_at n
    whole ps E F g h i =
        constructor_one k a b ps E F n p left.grouped g (s.group ps E F g (hold_left k (left.grouped_read (ctx k (parameters ps) E a)) _ h) (hold_left k (left.grouped_read (ctx k (parameters ps) F b)) _ i))
        (hold_right k (left.grouped_read (ctx k (parameters ps) E a)) _ h) (hold_right k (left.grouped_read (ctx k (parameters ps) F b)) _ i)

abbrev first_of_types : List Typ → Typ
first_of_types [] = Tuple (types_of [])
first_of_types (t ∷ ts) = t

parentheses_one : (k : Kept) (a b : Choice) (ps : List Name) (E F : Environment) (n : ℕ) (q : Place) (ts : List TypeExpression) → map a.type_at (nodes_of ts) ≡ map b.type_at (nodes_of ts) → (ts ≡ [] → a.type_at n ≡ b.type_at n) →
    AllHold k (in_parentheses (ctx k (parameters ps) E a) n q ts) → AllHold k (in_parentheses (ctx k (parameters ps) F b) n q ts) → a.type_at n ≡ b.type_at n
parentheses_one k a b ps E F n q [] e f h i = f refl
parentheses_one k a b ps E F n q (t ∷ []) e f h i = h.0 ∙ ap first_of_types e ∙ sym i.0
parentheses_one k a b ps E F n q (t ∷ u ∷ ts) e f h i = h.1.0 ∙ sym i.1.0

ttuple_determined : (k : Kept) (a b : Choice) (n : ℕ) (q : Place) (ts : List TypeExpression) → Each (DeterminedType k a b) ts → DeterminedType k a b (ttuple n q ts)
ttuple_determined k a b n q ts each = record { one = λ ps E F g h i. whole ps E F g h i; group = λ ps E F g h i. alone_one a b n (whole ps E F g h i) }
  where
    whole : (ps : List Name) (E F : Environment) → DeclareAlike E F → AllHold k (read_all (ctx k (parameters ps) E a) ts ++ same (a.type_at n) (Tuple (types_of (map a.type_at (nodes_of ts)))) ∷ []) →
        AllHold k (read_all (ctx k (parameters ps) F b) ts ++ same (b.type_at n) (Tuple (types_of (map b.type_at (nodes_of ts)))) ∷ []) → a.type_at n ≡ b.type_at n
    whole ps E F g h i =
        (hold_right k (read_all (ctx k (parameters ps) E a) ts) _ h).0 ∙
        ap (λ xs. Tuple (types_of xs)) (all_one k a b ps E F g ts each (hold_left k (read_all (ctx k (parameters ps) E a) ts) _ h) (hold_left k (read_all (ctx k (parameters ps) F b) ts) _ i)) ∙
        sym (hold_right k (read_all (ctx k (parameters ps) F b) ts) _ i).0

abbrev is_empty : List TypeExpression → Bool
is_empty [] = true
is_empty (t ∷ ts) = false

tparen_determined : (k : Kept) (a b : Choice) (n : ℕ) (q : Place) (ts : List TypeExpression) → is_empty ts ≡ false → Each (DeterminedType k a b) ts → DeterminedType k a b (tparen n q ts)
tparen_determined k a b n q [] e each = absurd (no_yes (sym e))
tparen_determined k a b n q (t ∷ []) e each = record {
  one = λ ps E F g h i. parentheses_one k a b ps E F n q (t ∷ []) (all_one k a b ps E F g (t ∷ []) each (hold_left k (read_all (ctx k (parameters ps) E a) (t ∷ [])) _ h) (hold_left k (read_all (ctx k (parameters ps) F b) (t ∷ [])) _ i)) (λ x. absurd (cc))
      (hold_right k (read_all (ctx k (parameters ps) E a) (t ∷ [])) _ h) (hold_right k (read_all (ctx k (parameters ps) F b) (t ∷ [])) _ i);
  group = λ ps E F g h i. alone_one a b n (parentheses_one k a b ps E F n q (t ∷ []) (all_one k a b ps E F g (t ∷ []) each (hold_left k (read_all (ctx k (parameters ps) E a) (t ∷ [])) _ h) (hold_left k (read_all (ctx k (parameters ps) F b) (t ∷ [])) _ i)) (λ x. absurd (cc))
      (hold_right k (read_all (ctx k (parameters ps) E a) (t ∷ [])) _ h) (hold_right k (read_all (ctx k (parameters ps) F b) (t ∷ [])) _ i));
}
tparen_determined k a b n q (t ∷ u ∷ ts) e each = record {
  one = λ ps E F g h i. let x = hold_right k (read_all (ctx k (parameters ps) E a) (t ∷ u ∷ ts)) _ h in let y = hold_right k (read_all (ctx k (parameters ps) F b) (t ∷ u ∷ ts)) _ i in x.1.0 ∙ sym y.1.0;
  group = λ ps E F g h i. all_one k a b ps E F g (t ∷ u ∷ ts) each (hold_left k (read_all (ctx k (parameters ps) E a) (t ∷ u ∷ ts)) _ h) (hold_left k (read_all (ctx k (parameters ps) F b) (t ∷ u ∷ ts)) _ i);
}

tarrow_determined : (k : Kept) (a b : Choice) (n : ℕ) (q : Place) (t u : TypeExpression) → DeterminedType k a b t → DeterminedType k a b u → DeterminedType k a b (tarrow n q t u)
tarrow_determined k a b n q t u s z = record { one = λ ps E F g h i. whole ps E F g h i; group = λ ps E F g h i. alone_one a b n (whole ps E F g h i) }
  where
    arrow_one : (x y v w : Typ) → x ≡ y → v ≡ w → Arrow x v ≡ Arrow y w
    arrow_one x y v w e f = cc

    whole : (ps : List Name) (E F : Environment) → DeclareAlike E F → AllHold k ((t.read (ctx k (parameters ps) E a) ++ u.read (ctx k (parameters ps) E a)) ++ same (a.type_at n) (Arrow (a.type_at t.node) (a.type_at u.node)) ∷ []) →
        AllHold k ((t.read (ctx k (parameters ps) F b) ++ u.read (ctx k (parameters ps) F b)) ++ same (b.type_at n) (Arrow (b.type_at t.node) (b.type_at u.node)) ∷ []) → a.type_at n ≡ b.type_at n
    whole ps E F g h i =
        let x : AllHold k (t.read (ctx k (parameters ps) E a) ++ u.read (ctx k (parameters ps) E a)) = hold_left k (t.read (ctx k (parameters ps) E a) ++ u.read (ctx k (parameters ps) E a)) _ h in
        let y : AllHold k (t.read (ctx k (parameters ps) F b) ++ u.read (ctx k (parameters ps) F b)) = hold_left k (t.read (ctx k (parameters ps) F b) ++ u.read (ctx k (parameters ps) F b)) _ i in
        (hold_right k (t.read (ctx k (parameters ps) E a) ++ u.read (ctx k (parameters ps) E a)) _ h).0 ∙
        arrow_one (a.type_at t.node) (b.type_at t.node) (a.type_at u.node) (b.type_at u.node)
        (s.one ps E F g (hold_left k (t.read (ctx k (parameters ps) E a)) _ x) (hold_left k (t.read (ctx k (parameters ps) F b)) _ y))
        (z.one ps E F g (hold_right k (t.read (ctx k (parameters ps) E a)) _ x) (hold_right k (t.read (ctx k (parameters ps) F b)) _ y)) ∙
        sym (hold_right k (t.read (ctx k (parameters ps) F b) ++ u.read (ctx k (parameters ps) F b)) _ i).0

-- declarations that are types of their own
pub record DeterminedConstructor (k : Kept) (a b : Choice) (x : ConstructorPart) : Type 0 where
  pub argument : IfThere (DeterminedType k a b) x.argument

pub record DeterminedLabel (k : Kept) (a b : Choice) (x : LabelPart) : Type 0 where
  pub body : DeterminedType k a b x.body

pub data DeterminedTold (k : Kept) (a b : Choice) : Told → Type 0 where
  of_constructors : {ks : List ConstructorPart} → Each (DeterminedConstructor k a b) ks → DeterminedTold k a b (constructors ks)
  of_labels : {ls : List LabelPart} → Each (DeterminedLabel k a b) ls → DeterminedTold k a b (labels ls)

pub data DeterminedRight (k : Kept) (a b : Choice) : Option RightSide → Type 0 where
  of_none : DeterminedRight k a b None
  of_own : {r : Told} → DeterminedTold k a b r → DeterminedRight k a b (Some (own r))

pub record DeterminedDeclaration (k : Kept) (a b : Choice) (d : DeclarationPart) : Type 0 where
  pub right : DeterminedRight k a b d.right

alike_entry : (E F : Environment) (x : Name) (p : declared.Place) (d e : Declaration) → told (Some d) ≡ told (Some e) → DeclareAlike E F → DeclareAlike (entry x p (a_type d) ∷ E) (entry x p (a_type e) ∷ F)
alike_entry E F x p d e same_ h = record { finds = finds }
  where
    finds : (path : List Name) (n : Name) → told (then_by (referent_of (lookup (entry x p (a_type d) ∷ E) path type_kind n)) declaration_in) ≡ told (then_by (referent_of (lookup (entry x p (a_type e) ∷ F) path type_kind n)) declaration_in)
    finds [] n = by (same_name n x)
      where
        by : (y : Bool) → told (then_by (referent_of (found (if y then Some (entry x p (a_type d)) else newest_by (is_named type_kind n) E))) declaration_in) ≡ told (then_by (referent_of (found (if y then Some (entry x p (a_type e)) else newest_by (is_named type_kind n) F))) declaration_in)
        by true = same_
        by false = h.finds [] n
    finds (m ∷ ms) n = h.finds (m ∷ ms) n

told_same : (k : Kept) (a b : Choice) (c d : Context) (all : List DeclarationPart) (x : DeclarationPart) → DeterminedDeclaration k a b x → told (Some (declaration_of c all x)) ≡ told (Some (declaration_of d all x))
told_same k a b c d all x s = by x.right refl s.right
  where
    by : (o : Option RightSide) → x.right ≡ o → DeterminedRight k a b o → told (Some (declaration_of c all x)) ≡ told (Some (declaration_of d all x))
    by None e of_none = rw (e, declaration_of) refl
    by (Some (own r)) e (of_own h) = rw (e, declaration_of) refl
    by (Some (another n t l r)) e h = elim h [ ]

names_alike : (k : Kept) (a b : Choice) (c d : Context) (all ds : List DeclarationPart) (E F : Environment) → Each (DeterminedDeclaration k a b) ds → DeclareAlike E F → DeclareAlike (names_of_types c all ds E) (names_of_types d all ds F)
names_alike k a b c d all [] E F no_one h = h
names_alike k a b c d all (x ∷ xs) E F (one_and s each) h = names_alike k a b c d all xs (type_entry (declaration_of c all x) x.head.name ++ E) (type_entry (declaration_of d all x) x.head.name ++ F) each (by x.head.name)
  where
    by : (t : Option Tok) → DeclareAlike (type_entry (declaration_of c all x) t ++ E) (type_entry (declaration_of d all x) t ++ F)
    by None = h
    by (Some t) = alike_entry E F t.name (in_text (place_of t)) (declaration_of c all x) (declaration_of d all x) (told_same k a b c d all x s) h

optional_one : (k : Kept) (a b : Choice) (ps : List Name) (E F : Environment) → DeclareAlike E F → (t : Option TypeExpression) → IfThere (DeterminedType k a b) t → AllHold k (read_optional (ctx k (parameters ps) E a) t) → AllHold k (read_optional (ctx k (parameters ps) F b) t) →
    option_map (λ x. a.type_at x.node) t ≡ option_map (λ x. b.type_at x.node) t
optional_one k a b ps E F g None absent h i = refl
optional_one k a b ps E F g (Some t) (there s) h i = ap Some (s.one ps E F g h i)

cons_one : {A : Type 0} (o p : Option A) (xs ys : List A) → o ≡ p → xs ≡ ys → cons_option o xs ≡ cons_option p ys
cons_one o p xs ys e f = cc

abbrev named_constructor : Option Tok → Option Typ → Option Constructor
named_constructor x t = option_map (λ n. record { name = n.name; place = in_text (place_of n); argument = t }) x

constructors_one : (k : Kept) (a b : Choice) (ps : List Name) (E F : Environment) (c d : Context) → c.chosen ≡ a → d.chosen ≡ b → DeclareAlike E F → (ks : List ConstructorPart) → Each (DeterminedConstructor k a b) ks →
    AllHold k (constructors_read (ctx k (parameters ps) E a) ks) → AllHold k (constructors_read (ctx k (parameters ps) F b) ks) → filter_map (constructor_of (ctx k (parameters ps) E a)) ks ≡ filter_map (constructor_of (ctx k (parameters ps) F b)) ks
constructors_one k a b ps E F c d ec ed g [] no_one h i = refl
constructors_one k a b ps E F c d ec ed g (x ∷ xs) (one_and s each) h i =
    cons_one (named_constructor x.name (option_map (λ t. a.type_at t.node) x.argument)) (named_constructor x.name (option_map (λ t. b.type_at t.node) x.argument))
    (filter_map (constructor_of (ctx k (parameters ps) E a)) xs) (filter_map (constructor_of (ctx k (parameters ps) F b)) xs)
    (ap (named_constructor x.name) (optional_one k a b ps E F g x.argument s.argument (hold_left k (read_optional (ctx k (parameters ps) E a) x.argument) _ h.1) (hold_left k (read_optional (ctx k (parameters ps) F b) x.argument) _ i.1)))
    (constructors_one k a b ps E F c d ec ed g xs each (hold_right k (read_optional (ctx k (parameters ps) E a) x.argument) _ h.1) (hold_right k (read_optional (ctx k (parameters ps) F b) x.argument) _ i.1))

abbrev named_label : Option Tok → Bool → Typ → Option Label
named_label x m t = option_map (λ n. record { name = n.name; place = in_text (place_of n); is_mutable = m; body = t }) x

labels_one : (k : Kept) (a b : Choice) (ps : List Name) (E F : Environment) → DeclareAlike E F → (ls : List LabelPart) → Each (DeterminedLabel k a b) ls →
    AllHold k (labels_read (ctx k (parameters ps) E a) ls) → AllHold k (labels_read (ctx k (parameters ps) F b) ls) → filter_map (label_of (ctx k (parameters ps) E a)) ls ≡ filter_map (label_of (ctx k (parameters ps) F b)) ls
labels_one k a b ps E F g [] no_one h i = refl
labels_one k a b ps E F g (x ∷ xs) (one_and s each) h i =
    let z = s.body in
    cons_one (named_label x.name x.is_mutable (a.type_at x.body.node)) (named_label x.name x.is_mutable (b.type_at x.body.node)) (filter_map (label_of (ctx k (parameters ps) E a)) xs) (filter_map (label_of (ctx k (parameters ps) F b)) xs)
    (ap (named_label x.name x.is_mutable) (z.one ps E F g (hold_left k (x.body.read (ctx k (parameters ps) E a)) _ h.1) (hold_left k (x.body.read (ctx k (parameters ps) F b)) _ i.1)))
    (labels_one k a b ps E F g xs each (hold_right k (x.body.read (ctx k (parameters ps) E a)) _ h.1) (hold_right k (x.body.read (ctx k (parameters ps) F b)) _ i.1))

shape_one : (k : Kept) (a b : Choice) (ps : List Name) (E F : Environment) → DeclareAlike E F → (r : Told) → DeterminedTold k a b r → AllHold k (shape_asks (ctx k (parameters ps) E a) (Some r)) → AllHold k (shape_asks (ctx k (parameters ps) F b) (Some r)) →
    shape_of (ctx k (parameters ps) E a) r ≡ shape_of (ctx k (parameters ps) F b) r
shape_one k a b ps E F g (constructors ks) (of_constructors each) h i =
    ap variant_of (constructors_one k a b ps E F (ctx k (parameters ps) E a) (ctx k (parameters ps) F b) refl refl g ks each (hold_left k (constructors_read (ctx k (parameters ps) E a) ks) _ h) (hold_left k (constructors_read (ctx k (parameters ps) F b) ks) _ i))
shape_one k a b ps E F g (labels ls) (of_labels each) h i =
    ap declared.Labels (labels_one k a b ps E F g ls each (hold_left k (labels_read (ctx k (parameters ps) E a) ls) _ h) (hold_left k (labels_read (ctx k (parameters ps) F b) ls) _ i))

-- so each declaration of a group is one
pub record OneDeclared (c d : Context) (all : List DeclarationPart) (x : DeclarationPart) : Type 0 where
  pub one : declaration_of c all x ≡ declaration_of d all x

declaration_by : ℕ → ℕ → Shape → Declaration
declaration_by arity n s = record { arity = arity; definition = Own (n ∷ []); shape = s }

declaration_is_one : (k : Kept) (a b : Choice) (v : Variables) (C D : Environment) (E F : Environment) → DeclareAlike E F → (all : List DeclarationPart) (x : DeclarationPart) → DeterminedDeclaration k a b x →
    AllHold k (declaration_asks (ctx k v E a) all x) → AllHold k (declaration_asks (ctx k v F b) all x) → OneDeclared (ctx k v C a) (ctx k v D b) all x
unfolding declaration_by
declaration_is_one k a b v C D E F g all x s h i = by x.right refl s.right
    (hold_right k (tell x.node (ctx k v E a) ++ ask_all x.node 1 (new_tokens [] x.head.parameters)) (right_asks (ctx k (parameters (names_of_tokens x.head.parameters)) E a) all x.head.name (length x.head.parameters) x.right) h)
    (hold_right k (tell x.node (ctx k v F b) ++ ask_all x.node 1 (new_tokens [] x.head.parameters)) (right_asks (ctx k (parameters (names_of_tokens x.head.parameters)) F b) all x.head.name (length x.head.parameters) x.right) i)
  where
    ps : List Name
    ps = names_of_tokens x.head.parameters

    by : (o : Option RightSide) → x.right ≡ o → DeterminedRight k a b o → AllHold k (right_asks (ctx k (parameters (names_of_tokens x.head.parameters)) E a) all x.head.name (length x.head.parameters) o) →
        AllHold k (right_asks (ctx k (parameters (names_of_tokens x.head.parameters)) F b) all x.head.name (length x.head.parameters) o) → OneDeclared (ctx k v C a) (ctx k v D b) all x
    by None e of_none h i = record { one = rw (e, declaration_of) refl }
    by (Some (own r)) e (of_own z) h i = record { one = rw (e, declaration_of) (ap (declaration_by (length x.head.parameters) x.node) (shape_one k a b (names_of_tokens x.head.parameters) E F g r z h i)) }
    by (Some (another n t l r)) e z h i = elim z [ ]

declarations_are_one : (k : Kept) (a b : Choice) (v : Variables) (C D : Environment) (E F : Environment) → DeclareAlike E F → (all ds : List DeclarationPart) → Each (DeterminedDeclaration k a b) ds →
    AllHold k (declarations_ask (ctx k v E a) all ds) → AllHold k (declarations_ask (ctx k v F b) all ds) → Each (OneDeclared (ctx k v C a) (ctx k v D b) all) ds
declarations_are_one k a b v C D E F g all [] no_one h i = no_one
declarations_are_one k a b v C D E F g all (x ∷ xs) (one_and s each) h i =
    one_and (declaration_is_one k a b v C D E F g all x s (hold_left k (declaration_asks (ctx k v E a) all x) _ h) (hold_left k (declaration_asks (ctx k v F b) all x) _ i))
    (declarations_are_one k a b v C D E F g all xs each (hold_right k (declaration_asks (ctx k v E a) all x) _ h) (hold_right k (declaration_asks (ctx k v F b) all x) _ i))

alike_itself : (E : Environment) → DeclareAlike E E
alike_itself E = record { finds = λ path n. refl }

group_is_one : (k : Kept) (a b : Choice) (v : Variables) (E : Environment) (seen : List Name) (ds : List DeclarationPart) → Each (DeterminedDeclaration k a b) ds → AllHold k (group_asks (ctx k v E a) seen ds) → AllHold k (group_asks (ctx k v E b) seen ds) →
    Each (OneDeclared (ctx k v E a) (ctx k v E b) ds) ds
group_is_one k a b v E seen ds each h i =
    let X : Environment = names_of_types (ctx k v E a) ds ds E in
    let Y : Environment = names_of_types (ctx k v E b) ds ds E in
    declarations_are_one k a b v E E X Y (names_alike k a b (ctx k v E a) (ctx k v E b) ds ds E E each (alike_itself E)) ds ds each
    (hold_right k (names_asked seen ds) _ (hold_left k (names_asked seen ds ++ declarations_ask (ctx k v X a) ds ds) (cycles_asked ds ds) h))
    (hold_right k (names_asked seen ds) _ (hold_left k (names_asked seen ds ++ declarations_ask (ctx k v Y b) ds ds) (cycles_asked ds ds) i))

entries_one : (c d : Context) (all ds : List DeclarationPart) → Each (OneDeclared c d all) ds → entries_of_group c all ds ≡ entries_of_group d all ds
entries_one c d all [] no_one = refl
entries_one c d all (x ∷ xs) (one_and s each) =
    ap (λ y. (type_entry y x.head.name ++ entries_of_shape y y.shape) ++ entries_of_group c all xs) s.one ∙ ap (λ es. entries_of_part d all x ++ es) (entries_one c d all xs each)

type_components_one : (c d : Context) (all ds : List DeclarationPart) → Each (OneDeclared c d all) ds → type_components c all ds ≡ type_components d all ds
type_components_one c d all [] no_one = refl
type_components_one c d all (x ∷ xs) (one_and s each) =
    ap (λ y. component_behind y (type_components c all xs) x.head.name) s.one ∙ ap (λ cs. component_behind (declaration_of d all x) cs x.head.name) (type_components_one c d all xs each)

origins_one : (c d : Context) (all ds : List DeclarationPart) → Each (OneDeclared c d all) ds → origins_of_group c all ds ≡ origins_of_group d all ds
origins_one c d all [] no_one = refl
origins_one c d all (x ∷ xs) (one_and s each) =
    ap (λ y. origin_by y.definition ++ origins_of_group c all xs) s.one ∙ ap (λ os. origin_by (declaration_of d all x).definition ++ os) (origins_one c d all xs each)

-- items of signatures, from one environment
pub record DeterminedItem (k : Kept) (a b : Choice) (i : Item) : Type 0 where
  pub adds : (v : Variables) (E : Environment) (seen : Seen) → AllHold k (i.asks (ctx k v E a) seen) → AllHold k (i.asks (ctx k v E b) seen) → i.adds (ctx k v E a) ≡ i.adds (ctx k v E b)
  pub components : (v : Variables) (E : Environment) (seen : Seen) → AllHold k (i.asks (ctx k v E a) seen) → AllHold k (i.asks (ctx k v E b) seen) → i.components (ctx k v E a) ≡ i.components (ctx k v E b)
  pub named : (v : Variables) (E : Environment) (seen : Seen) → i.named (ctx k v E a) ≡ i.named (ctx k v E b)
  pub makes : (v : Variables) (E : Environment) (seen : Seen) → AllHold k (i.asks (ctx k v E a) seen) → AllHold k (i.asks (ctx k v E b) seen) → i.makes (ctx k v E a) ≡ i.makes (ctx k v E b)

pub record DeterminedModuleType (k : Kept) (a b : Choice) (y : parts.ModuleType) : Type 0 where
  pub templates : (v : Variables) (E : Environment) → AllHold k (y.asks (ctx k v E a)) → AllHold k (y.asks (ctx k v E b)) → y.template (ctx k v E a) ≡ y.template (ctx k v E b)

pub record DeterminedParameter (k : Kept) (a b : Choice) (p : Parameter) : Type 0 where
  pub module_type : DeterminedModuleType k a b p.module_type

pub behind_one : (k : Kept) (a b : Choice) (v : Variables) (E : Environment) (seen : Seen) (xs : List Item) → Each (DeterminedItem k a b) xs → AllHold k (items_ask (ctx k v E a) seen xs) → AllHold k (items_ask (ctx k v E b) seen xs) →
    behind_items (ctx k v E a) xs ≡ behind_items (ctx k v E b) xs
behind_one k a b v E seen [] no_one h i = refl
behind_one k a b v E seen (x ∷ xs) (one_and s each) h i =
    let one : x.adds (ctx k v E a) ≡ x.adds (ctx k v E b) = s.adds v E seen (hold_left k (x.asks (ctx k v E a) seen) _ h) (hold_left k (x.asks (ctx k v E b) seen) _ i) in
    behind_one k a b v (x.adds (ctx k v E a) ++ E) (seen_too seen (x.named (ctx k v E a))) xs each (hold_right k (x.asks (ctx k v E a) seen) _ h)
    (subst (λ z. AllHold k (items_ask (ctx k v (z.0 ++ E) b) (seen_too seen z.1) xs)) (sym (pair_alike (x.adds (ctx k v E a)) (x.adds (ctx k v E b)) (x.named (ctx k v E a)) (x.named (ctx k v E b)) one (s.named v E seen))) (hold_right k (x.asks (ctx k v E b) seen) _ i)) ∙
    ap (λ es. behind_items (ctx k v (es ++ E) b) xs) one

components_one : (k : Kept) (a b : Choice) (v : Variables) (E : Environment) (seen : Seen) (xs : List Item) → Each (DeterminedItem k a b) xs → AllHold k (items_ask (ctx k v E a) seen xs) → AllHold k (items_ask (ctx k v E b) seen xs) →
    components_of_items (ctx k v E a) xs ≡ components_of_items (ctx k v E b) xs
components_one k a b v E seen [] no_one h i = refl
components_one k a b v E seen (x ∷ xs) (one_and s each) h i =
    let l = hold_left k (x.asks (ctx k v E a) seen) _ h in
    let r = hold_left k (x.asks (ctx k v E b) seen) _ i in
    let one : x.adds (ctx k v E a) ≡ x.adds (ctx k v E b) = s.adds v E seen l r in
    ap (λ cs. then_components cs (components_of_items (ctx k v (x.adds (ctx k v E a) ++ E) a) xs)) (s.components v E seen l r) ∙
    ap (then_components (x.components (ctx k v E b)))
    (components_one k a b v (x.adds (ctx k v E a) ++ E) (seen_too seen (x.named (ctx k v E a))) xs each (hold_right k (x.asks (ctx k v E a) seen) _ h)
    (subst (λ z. AllHold k (items_ask (ctx k v (z.0 ++ E) b) (seen_too seen z.1) xs)) (sym (pair_alike (x.adds (ctx k v E a)) (x.adds (ctx k v E b)) (x.named (ctx k v E a)) (x.named (ctx k v E b)) one (s.named v E seen))) (hold_right k (x.asks (ctx k v E b) seen) _ i)) ∙
    ap (λ es. components_of_items (ctx k v (es ++ E) b) xs) one)

made_one : (k : Kept) (a b : Choice) (v : Variables) (E : Environment) (seen : Seen) (xs : List Item) → Each (DeterminedItem k a b) xs → AllHold k (items_ask (ctx k v E a) seen xs) → AllHold k (items_ask (ctx k v E b) seen xs) →
    made_by_items (ctx k v E a) xs ≡ made_by_items (ctx k v E b) xs
made_one k a b v E seen [] no_one h i = refl
made_one k a b v E seen (x ∷ xs) (one_and s each) h i =
    let l = hold_left k (x.asks (ctx k v E a) seen) _ h in
    let r = hold_left k (x.asks (ctx k v E b) seen) _ i in
    let one : x.adds (ctx k v E a) ≡ x.adds (ctx k v E b) = s.adds v E seen l r in
    ap (λ os. os ++ made_by_items (ctx k v (x.adds (ctx k v E a) ++ E) a) xs) (s.makes v E seen l r) ∙
    ap (λ os. x.makes (ctx k v E b) ++ os)
    (made_one k a b v (x.adds (ctx k v E a) ++ E) (seen_too seen (x.named (ctx k v E a))) xs each (hold_right k (x.asks (ctx k v E a) seen) _ h)
    (subst (λ z. AllHold k (items_ask (ctx k v (z.0 ++ E) b) (seen_too seen z.1) xs)) (sym (pair_alike (x.adds (ctx k v E a)) (x.adds (ctx k v E b)) (x.named (ctx k v E a)) (x.named (ctx k v E b)) one (s.named v E seen))) (hold_right k (x.asks (ctx k v E b) seen) _ i)) ∙
    ap (λ es. made_by_items (ctx k v (es ++ E) b) xs) one)

value_determined : (k : Kept) (a b : Choice) (n : ℕ) (ts : List Tok) (x : Option Tok) (t : TypeExpression) → DeterminedType k a b t → DeterminedItem k a b (value_item n ts x t)
value_determined k a b n ts x t s = record {
  adds = λ v E seen h i. ap (λ u. entry_named x (a_value (all_bound u))) (s.one (once_each [] (variables_written ts)) E E (alike_itself E) h i);
  components = λ v E seen h i. ap (λ u. component_named x (signatures.Value (all_bound u))) (s.one (once_each [] (variables_written ts)) E E (alike_itself E) h i);
  named = λ v E seen. refl;
  makes = λ v E seen h i. refl;
}

type_determined : (k : Kept) (a b : Choice) (n : ℕ) (ds : List DeclarationPart) → Each (DeterminedDeclaration k a b) ds → DeterminedItem k a b (type_item n ds)
type_determined k a b n ds each = record {
  adds = λ v E seen h i. ap reverse (entries_one (ctx k v E a) (ctx k v E b) ds ds (group_is_one k a b v E seen.types ds each h i));
  components = λ v E seen h i. type_components_one (ctx k v E a) (ctx k v E b) ds ds (group_is_one k a b v E seen.types ds each h i);
  named = λ v E seen. refl;
  makes = λ v E seen h i. origins_one (ctx k v E a) (ctx k v E b) ds ds (group_is_one k a b v E seen.types ds each h i);
}

abbrev exception_entry : Option Tok → Option Typ → List Entry
exception_entry x t = elim x [ None ↦ [] | Some n ↦ entry n.name (in_text (place_of n)) (an_exception t) ∷ [] ]

abbrev exception_component : Option Tok → Option Typ → Components
exception_component x t = elim x [ None ↦ signatures.Done | Some n ↦ Component n.name (in_text (place_of n)) (Exception t) signatures.Done ]

exception_determined : (k : Kept) (a b : Choice) (n : ℕ) (x : Option ConstructorPart) → IfThere (DeterminedConstructor k a b) x → DeterminedItem k a b (exception_item n x)
exception_determined k a b n None absent = record { adds = λ v E seen h i. refl; components = λ v E seen h i. refl; named = λ v E seen. refl; makes = λ v E seen h i. refl }
exception_determined k a b n (Some x) (there s) = record {
  adds = λ v E seen h i. ap (exception_entry x.name) (optional_one k a b [] E E (alike_itself E) x.argument s.argument h.1 i.1);
  components = λ v E seen h i. ap (exception_component x.name) (optional_one k a b [] E E (alike_itself E) x.argument s.argument h.1 i.1);
  named = λ v E seen. refl;
  makes = λ v E seen h i. refl;
}

module_type_determined : (k : Kept) (a b : Choice) (n : ℕ) (x : Option Tok) (y : parts.ModuleType) → DeterminedModuleType k a b y → DeterminedItem k a b (module_type_item n x y)
module_type_determined k a b n x y s = record {
  adds = λ v E seen h i. ap (λ t. entry_named x (a_module_type t)) (s.templates v E (hold_right k (ask_new n seen.module_types x) _ h) (hold_right k (ask_new n seen.module_types x) _ i));
  components = λ v E seen h i. ap (λ t. component_named x (signatures.ModuleType t.made t.signature)) (s.templates v E (hold_right k (ask_new n seen.module_types x) _ h) (hold_right k (ask_new n seen.module_types x) _ i));
  named = λ v E seen. refl;
  makes = λ v E seen h i. refl;
}

gmodule_determined : (k : Kept) (a b : Choice) (n : ℕ) (x : Option Tok) (y : parts.ModuleType) → DeterminedModuleType k a b y → DeterminedItem k a b (module_specification n x [] y)
gmodule_determined k a b n x y s = record {
  adds = λ v E seen h i. ap (λ t. entry_named x (a_module (made_at t n))) (one v E seen h i);
  components = λ v E seen h i. ap (λ t. component_named x (Module (made_at t n))) (one v E seen h i);
  named = λ v E seen. refl;
  makes = λ v E seen h i. ap (λ t. origins_at t.made n) (one v E seen h i);
}
  where
    one : (v : Variables) (E : Environment) (seen : Seen) → AllHold k ((ask_new n seen.modules x ++ []) ++ y.asks (ctx k v E a)) → AllHold k ((ask_new n seen.modules x ++ []) ++ y.asks (ctx k v E b)) → y.template (ctx k v E a) ≡ y.template (ctx k v E b)
    one v E seen h i = s.templates v E (hold_right k (ask_new n seen.modules x ++ []) (y.asks (ctx k v E a)) h) (hold_right k (ask_new n seen.modules x ++ []) (y.asks (ctx k v E b)) i)

same_item : (k : Kept) (a b : Choice) (i : Item) → ((v : Variables) (E : Environment) → i.adds (ctx k v E a) ≡ i.adds (ctx k v E b)) → ((v : Variables) (E : Environment) → i.components (ctx k v E a) ≡ i.components (ctx k v E b)) →
    ((v : Variables) (E : Environment) → i.named (ctx k v E a) ≡ i.named (ctx k v E b)) → ((v : Variables) (E : Environment) → i.makes (ctx k v E a) ≡ i.makes (ctx k v E b)) → DeterminedItem k a b i
same_item k a b i p q r s = record { adds = λ v E seen h g. p v E; components = λ v E seen h g. q v E; named = λ v E seen. r v E; makes = λ v E seen h g. s v E }

templates_one : (os us : List Path) (f g : Signature) → os ≡ us → f ≡ g → template os f ≡ template us g
templates_one os us f g e i = cc

ysig_determined : (k : Kept) (a b : Choice) (n : ℕ) (xs : List Item) → Each (DeterminedItem k a b) xs → DeterminedModuleType k a b (signature_text n xs)
ysig_determined k a b n xs each = record {
  templates = λ v E h i. templates_one (made_by_items (ctx k v E a) xs) (made_by_items (ctx k v E b) xs) (signature_of_items (ctx k v E a) xs) (signature_of_items (ctx k v E b) xs)
      (made_one k a b v E no_names xs each h i) (ap (λ cs. Structure (newest_alone cs)) (components_one k a b v E no_names xs each h i));
}

-- trees in which no declaration is another name for a type, without `with` and functors
abbrev is_simple_row : Row → Forest → Bool
is_simple_row alias_row ps = false
is_simple_row ywith_row ps = false
is_simple_row yfunctor_row ps = false
is_simple_row tparen_row ps = has_slot 1 ps
is_simple_row gmodule_row ps = not (has_slot 5 ps)
is_simple_row _ ps = true

abbrev mutual
  pub is_simple : Tree → Bool
  is_simple (node r x ps) = is_simple_row r ps && are_simple ps

  pub are_simple : Forest → Bool
  are_simple no_parts = true
  are_simple (part slot p ps) = is_simple_part p && are_simple ps

  pub is_simple_part : Part → Bool
  is_simple_part (taken t) = true
  is_simple_part (inner t) = is_simple t
  is_simple_part (missing p) = true

some_there : (s n : ℕ) (r : Row) (ps : Forest) → has_slot s ps ≡ true → is_empty (types_in s (children_of n r ps)) ≡ false
some_there s n r no_parts e = absurd (no_yes e)
some_there s n r (part slot p ps) e = by (slot == s) refl (λ h. some_there s (n + part_size r slot p) r ps h)
  where
    test : (b : Bool) → (slot == s) ≡ b → ((child_of n slot p).slot == s) ≡ b
    test b f = ap (λ x. x == s) (slot_is n slot p) ∙ f

    rest : List Child
    rest = in_slot s (children_of (n + part_size r slot p) r ps)

    by : (b : Bool) → (slot == s) ≡ b → (has_slot s ps ≡ true → is_empty (types_in s (children_of (n + part_size r slot p) r ps)) ≡ false) → is_empty (types_in s (child_of n slot p ∷ children_of (n + part_size r slot p) r ps)) ≡ false
    by true f further = ap (λ b. is_empty (map (λ c. c.type_expression) (if b then child_of n slot p ∷ in_slot s (children_of (n + part_size r slot p) r ps) else in_slot s (children_of (n + part_size r slot p) r ps)))) (test true f)
    by false f further =
        ap (λ b. is_empty (map (λ c. c.type_expression) (if b then child_of n slot p ∷ in_slot s (children_of (n + part_size r slot p) r ps) else in_slot s (children_of (n + part_size r slot p) r ps)))) (test false f) ∙
        further (sym (ap (λ b. if b then true else has_slot s ps) f) ∙ e)

-- a part of a row
pub record DeterminedChild (k : Kept) (a b : Choice) (x : Child) : Type 0 where
  pub type_expression : DeterminedType k a b x.type_expression
  pub constructor : IfThere (DeterminedConstructor k a b) x.constructor
  pub label : IfThere (DeterminedLabel k a b) x.label
  pub right_side : DeterminedRight k a b x.right_side
  pub declaration : IfThere (DeterminedDeclaration k a b) x.declaration
  pub signature_item : IfThere (DeterminedItem k a b) x.signature_item
  pub module_type : DeterminedModuleType k a b x.module_type

slotted : (k : Kept) (a b : Choice) (s : ℕ) (cs : List Child) → Each (DeterminedChild k a b) cs → Each (DeterminedChild k a b) (in_slot s cs)
slotted k a b s [] no_one = no_one
slotted k a b s (c ∷ cs) (one_and h each) = by (c.slot == s) (slotted k a b s cs each)
  where
    by : (x : Bool) → Each (DeterminedChild k a b) (in_slot s cs) → Each (DeterminedChild k a b) (if x then c ∷ in_slot s cs else in_slot s cs)
    by true g = one_and h g
    by false g = g

ts_determined : (k : Kept) (a b : Choice) (s : ℕ) (cs : List Child) → Each (DeterminedChild k a b) cs → Each (DeterminedType k a b) (types_in s cs)
ts_determined k a b s cs each = mapped (DeterminedType k a b) (λ c. c.type_expression) (in_slot s cs) (λ c h. h.type_expression) (slotted k a b s cs each)

t_determined : (k : Kept) (a b : Choice) (s : ℕ) (cs : List Child) → Each (DeterminedChild k a b) cs → DeterminedType k a b (type_in s cs)
t_determined k a b s cs each = by (first_of (types_in s cs)) (first_there (types_in s cs) (ts_determined k a b s cs each))
  where
    by : (o : Option TypeExpression) → IfThere (DeterminedType k a b) o → DeterminedType k a b (elim o [ None ↦ no_type_at 0 (place 0 0) | Some t ↦ t ])
    by None absent = no_type_determined k a b 0 (place 0 0)
    by (Some t) (there h) = h

y_determined : (k : Kept) (a b : Choice) (s : ℕ) (cs : List Child) → Each (DeterminedChild k a b) cs → DeterminedModuleType k a b (module_type_in s cs)
y_determined k a b s cs each = by (first_of (module_types_in s cs)) (first_there (module_types_in s cs) (mapped (DeterminedModuleType k a b) (λ c. c.module_type) (in_slot s cs) (λ c h. h.module_type) (slotted k a b s cs each)))
  where
    by : (o : Option parts.ModuleType) → IfThere (DeterminedModuleType k a b) o → DeterminedModuleType k a b (elim o [ None ↦ no_module_type_at 0 | Some y ↦ y ])
    by None absent = record { templates = λ v E h i. refl }
    by (Some y) (there h) = h

type_row_determined : (k : Kept) (a b : Choice) (r : Row) (n m : ℕ) (q : Place) (ps : Forest) → is_simple_row r ps ≡ true → Each (DeterminedChild k a b) (children_of m r ps) → DeterminedType k a b (types.type_row r n q (children_of m r ps))
unfolding types.type_row
type_row_determined k a b tvar_row n m q ps e h = tvar_determined k a b n q (token_in 0 (children_of m tvar_row ps))
type_row_determined k a b tcon_row n m q ps e h = tcon_determined k a b n q (path_in 0 1 (children_of m tcon_row ps))
type_row_determined k a b tparen_row n m q ps e h = tparen_determined k a b n q (types_in 1 (children_of m tparen_row ps)) (some_there 1 m tparen_row ps e) (ts_determined k a b 1 (children_of m tparen_row ps) h)
type_row_determined k a b tapp_row n m q ps e h = tapp_determined k a b n q (type_in 0 (children_of m tapp_row ps)) (path_in 1 2 (children_of m tapp_row ps)) (t_determined k a b 0 (children_of m tapp_row ps) h)
type_row_determined k a b ttuple_row n m q ps e h = ttuple_determined k a b n q (types_in 0 (children_of m ttuple_row ps) ++ types_in 2 (children_of m ttuple_row ps)) (each_append (ts_determined k a b 0 (children_of m ttuple_row ps) h) (ts_determined k a b 2 (children_of m ttuple_row ps) h))
type_row_determined k a b tarrow_row n m q ps e h = tarrow_determined k a b n q (type_in 0 (children_of m tarrow_row ps)) (type_in 2 (children_of m tarrow_row ps)) (t_determined k a b 0 (children_of m tarrow_row ps) h) (t_determined k a b 2 (children_of m tarrow_row ps) h)
type_row_determined k a b _ n m q ps e h = no_type_determined k a b n q

con_determined : (k : Kept) (a b : Choice) (r : Row) (n : ℕ) (cs : List Child) → Each (DeterminedChild k a b) cs → IfThere (DeterminedConstructor k a b) (con_of r n cs)
con_determined k a b con_row n cs h = there (record { argument = first_there (types_in 2 cs) (ts_determined k a b 2 cs h) })
con_determined k a b _ n cs h = absent

lab_determined : (k : Kept) (a b : Choice) (r : Row) (n : ℕ) (cs : List Child) → Each (DeterminedChild k a b) cs → IfThere (DeterminedLabel k a b) (lab_of r n cs)
lab_determined k a b label_row n cs h = there (record { body = t_determined k a b 3 cs h })
lab_determined k a b _ n cs h = absent

right_determined : (k : Kept) (a b : Choice) (r : Row) (n : ℕ) (ps : Forest) (cs : List Child) → is_simple_row r ps ≡ true → Each (DeterminedChild k a b) cs → DeterminedRight k a b (right_side_row r n cs)
right_determined k a b alias_row n ps cs e h = absurd (no_yes e)
right_determined k a b variant_row n ps cs e h = of_own (of_constructors (filtered (DeterminedConstructor k a b) (λ c. c.constructor) (in_slot 1 cs) (λ c g. g.constructor) (slotted k a b 1 cs h)))
right_determined k a b record_row n ps cs e h = of_own (of_labels (filtered (DeterminedLabel k a b) (λ c. c.label) (in_slot 1 cs) (λ c g. g.label) (slotted k a b 1 cs h)))
right_determined k a b _ n ps cs e h = of_none

decl_determined : (k : Kept) (a b : Choice) (r : Row) (n : ℕ) (cs : List Child) → Each (DeterminedChild k a b) cs → IfThere (DeterminedDeclaration k a b) (decl_of r n cs)
decl_determined k a b decl_row n cs h = there (record { right = by (first_of (in_slot 2 cs)) (first_there (in_slot 2 cs) (slotted k a b 2 cs h)) })
  where
    by : (o : Option Child) → IfThere (DeterminedChild k a b) o → DeterminedRight k a b (then_by o (λ c. c.right_side))
    by None absent = of_none
    by (Some c) (there g) = g.right_side
decl_determined k a b _ n cs h = absent

module_row_determined : (k : Kept) (a b : Choice) (r : Row) (n : ℕ) (ps : Forest) (cs : List Child) → is_simple_row r ps ≡ true → Each (DeterminedChild k a b) cs → DeterminedModuleType k a b (module_type_row r n cs)
unfolding module_type_row
module_row_determined k a b ypath_row n ps cs e h = record { templates = λ v E g i. refl }
module_row_determined k a b ysig_row n ps cs e h = ysig_determined k a b n (filter_map (λ c. c.signature_item) (in_slot 1 cs)) (filtered (DeterminedItem k a b) (λ c. c.signature_item) (in_slot 1 cs) (λ c g. g.signature_item) (slotted k a b 1 cs h))
module_row_determined k a b yparen_row n ps cs e h = let s = y_determined k a b 1 cs h in record { templates = s.templates }
module_row_determined k a b ywith_row n ps cs e h = absurd (no_yes e)
module_row_determined k a b yfunctor_row n ps cs e h = absurd (no_yes e)
module_row_determined k a b _ n ps cs e h = record { templates = λ v E g i. refl }

no_pairs : (ts : List (Option Tok)) (cs : List Child) → in_slot 5 cs ≡ [] → paired ts (module_types_in 5 cs) ≡ []
no_pairs ts cs e = ap (λ xs. paired ts (map (λ c. c.module_type) xs)) e

item_determined : (k : Kept) (a b : Choice) (r : Row) (n m : ℕ) (q : Place) (ts : List Tok) (ps : Forest) → is_simple_row r ps ≡ true → Each (DeterminedChild k a b) (children_of m r ps) → IfThere (DeterminedItem k a b) (signature_item_row r n q ts (children_of m r ps))
unfolding signature_item_row
item_determined k a b val_row n m q ts ps e h = there (value_determined k a b n ts (token_in 1 (children_of m val_row ps)) (type_in 3 (children_of m val_row ps)) (t_determined k a b 3 (children_of m val_row ps) h))
item_determined k a b type_row n m q ts ps e h = let cs : List Child = children_of m type_row ps in
    there (type_determined k a b n (filter_map (λ c. c.declaration) (in_slot 2 cs)) (filtered (DeterminedDeclaration k a b) (λ c. c.declaration) (in_slot 2 cs) (λ c g. g.declaration) (slotted k a b 2 cs h)))
item_determined k a b exception_row n m q ts ps e h = let cs : List Child = children_of m exception_row ps in
    there (exception_determined k a b n (then_by (first_of (in_slot 1 cs)) (λ c. c.constructor)) (then_there (DeterminedConstructor k a b) (first_of (in_slot 1 cs)) (λ c. c.constructor) (λ c g. g.constructor) (first_there (in_slot 1 cs) (slotted k a b 1 cs h))))
item_determined k a b gmodule_row n m q ts ps e h = let cs : List Child = children_of m gmodule_row ps in
    there (subst (λ xs. DeterminedItem k a b (module_specification n (token_in 1 cs) xs (module_type_in 8 cs))) (sym (no_pairs (optional_tokens_in 3 cs) cs (none_there 5 m gmodule_row ps (no_slot (has_slot 5 ps) e))))
    (gmodule_determined k a b n (token_in 1 cs) (module_type_in 8 cs) (y_determined k a b 8 cs h)))
  where
    no_slot : (x : Bool) → not x ≡ true → x ≡ false
    no_slot false f = refl
    no_slot true f = absurd (no_yes f)
item_determined k a b modtype_row n m q ts ps e h = there (module_type_determined k a b n (token_in 1 (children_of m modtype_row ps)) (module_type_in 3 (children_of m modtype_row ps)) (y_determined k a b 3 (children_of m modtype_row ps) h))
item_determined k a b open_row n m q ts ps e h = there (same_item k a b (open_item n (path_in 1 2 (children_of m open_row ps))) (λ v E. refl) (λ v E. refl) (λ v E. refl) (λ v E. refl))
item_determined k a b include_row n m q ts ps e h = there (same_item k a b (include_specification n q (path_in 1 2 (children_of m include_row ps))) (λ v E. refl) (λ v E. refl) (λ v E. refl) (λ v E. refl))
item_determined k a b _ n m q ts ps e h = absent

told_item : (k : Kept) (a b : Choice) (n : ℕ) (o : Option Item) → IfThere (DeterminedItem k a b) o → IfThere (DeterminedItem k a b) (recorded_item n o)
told_item k a b n None absent = absent
told_item k a b n (Some i) (there s) = there (record {
  adds = λ v E seen h g. s.adds v E seen h.1 g.1;
  components = λ v E seen h g. s.components v E seen h.1 g.1;
  named = λ v E seen. s.named v E seen;
  makes = λ v E seen h g. s.makes v E seen h.1 g.1;
})

node_determined : (k : Kept) (a b : Choice) (slot : ℕ) (p : Part) (r : Row) (n m : ℕ) (q : Place) (ps : Forest) → is_simple_row r ps ≡ true → Each (DeterminedChild k a b) (children_of m r ps) → DeterminedChild k a b (node_child slot p r n q (children_of m r ps))
node_determined k a b slot p r n m q ps e h =
    let t = type_row_determined k a b r n m q ps e h in
    let y = module_row_determined k a b r n ps (children_of m r ps) e h in
    record {
      type_expression = record { one = λ xs E F g i j. t.one xs E F g i.1 j.1; group = λ xs E F g i j. t.group xs E F g i.1 j.1 };
      constructor = con_determined k a b r n (children_of m r ps) h;
      label = lab_determined k a b r n (children_of m r ps) h;
      right_side = right_determined k a b r n ps (children_of m r ps) e h;
      declaration = decl_determined k a b r n (children_of m r ps) h;
      signature_item = told_item k a b n (signature_item_row r n q (part_yield p) (children_of m r ps)) (item_determined k a b r n m q (part_yield p) ps e h);
      module_type = record { templates = λ v E g i. y.templates v E g.1 i.1 };
    }

leaf_determined : (k : Kept) (a b : Choice) (slot : ℕ) (p : Part) (n : ℕ) (q : Place) → DeterminedChild k a b (leaf_child slot p n q)
leaf_determined k a b slot p n q =
    let t = no_type_determined k a b n q in
    record {
      type_expression = record { one = λ xs E F g i j. t.one xs E F g i.1 j.1; group = λ xs E F g i j. t.group xs E F g i.1 j.1 };
      constructor = absent;
      label = absent;
      right_side = of_none;
      declaration = absent;
      signature_item = absent;
      module_type = record { templates = λ v E g i. refl };
    }

mutual
  pub children_determined : (k : Kept) (a b : Choice) (n : ℕ) (r : Row) (ps : Forest) → are_simple ps ≡ true → Each (DeterminedChild k a b) (children_of n r ps)
  children_determined k a b n r no_parts e = no_one
  children_determined k a b n r (part slot p ps) e = let x = and_cases (is_simple_part p) (are_simple ps) e in one_and (child_determined k a b n slot p x.0) (children_determined k a b (n + part_size r slot p) r ps x.1)

  pub child_determined : (k : Kept) (a b : Choice) (n slot : ℕ) (p : Part) → is_simple_part p ≡ true → DeterminedChild k a b (child_of n slot p)
  child_determined k a b n slot (taken t) e = leaf_determined k a b slot (taken t) n (place_of t)
  child_determined k a b n slot (inner t) e = tree_determined k a b n slot t e
  child_determined k a b n slot (missing p) e = leaf_determined k a b slot (missing p) n p

  pub tree_determined : (k : Kept) (a b : Choice) (n slot : ℕ) (t : Tree) → is_simple t ≡ true → DeterminedChild k a b (tree_child n slot t)
  tree_determined k a b n slot (node r x ps) e =
      let y = and_cases (is_simple_row r ps) (are_simple ps) e in
      node_determined k a b slot (inner (node r x ps)) r n (n + 1) x.span ps y.0 (children_determined k a b (n + 1) r ps y.1)

-- the items of a signature's tree
pub specifications_determined : (k : Kept) (a b : Choice) (t : Tree) → is_simple t ≡ true → Each (DeterminedItem k a b) (specifications_of t)
specifications_determined k a b (node r x ps) e =
    filtered (DeterminedItem k a b) (λ c. c.signature_item) (children_of 0 r ps) (λ c g. g.signature_item) (children_determined k a b 0 r ps (and_cases (is_simple_row r ps) (are_simple ps) e).1)
