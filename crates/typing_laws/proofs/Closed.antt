-- In a first environment no variable is free: each value of a signature binds all of its variables.
use mathlib.Core.List.{reverse_aux}
use Rattle.std.proofs.Common.{◌≡◌, ℕ, ◌+◌, ◌==◌, Bool, true, false, not, ◌&&◌, ◌||◌, List, [], ◌∷◌, ◌++◌, map, filter_map, reverse, length, Option, Some, None, refl, sym, subst, if◌then◌else◌}
use Rattle.token_model.specs.Kinds.{Tok}
use Rattle.tree_model.specs.Trees as trees
use Rattle.tree_model.specs.Trees.{Tree, node, Forest, Part, no_parts, part, taken, inner, missing, part_size, part_yield}
use Rattle.tree_model.specs.Rows.{Row, val_row, type_row, exception_row, gmodule_row, modtype_row, open_row, include_row, ypath_row, ysig_row, yparen_row, ywith_row, yfunctor_row}
use Rattle.grammar_model.specs.Named.{named}
use Rattle.grammar_model.specs.Ocaml.{interface_text, grammar, row_name}
use Rattle.recovery_model.specs.Recovery.{recover}
use Rattle.type_model.specs.Types.{Path, Typ, occurs}
use Rattle.type_model.specs.Schemes.{Scheme}
use Rattle.signature_model.specs.Declarations.{Name, Place, in_text, Declaration, Shape, Opaque, Variant, Labels, Constructor, Label}
use Rattle.signature_model.specs.Signatures.{Signature, Hole, Structure, Functor, Components, Done, Component, Meaning, Value, TypeName, Exception, Module, ModuleType, Template, template, components_of}
use Rattle.signature_model.specs.Changes.{Change, change_signature, change_components, change_meaning, in_front, realised}
use Rattle.signature_model.specs.Templates.{made_at, with_origin, abstract_in, only}
use Rattle.signature_model.specs.Entries.{Kind, module_kind, module_type_kind, Referent, a_value, a_constructor, an_exception, a_label, a_type, a_module, a_module_type, Entry, entry, Environment, entries_of_shape, entries_of, entries_in, scope_of, free_in, free_in_referent, free_in_signature, free_in_components, free_in_meaning}
use Rattle.signature_model.specs.Lookups.{found, found_in, ScopeOf, known, unknown_scope, no_scope, newest_by, is_named, scope_behind, scope_by, inside, inside_referent, inside_signature, through, lookup}
use Rattle.typing_model.specs.Contexts.{Context, under, type_at, is_kept}
use Rattle.typing_model.specs.Parts as parts
use Rattle.typing_model.specs.Parts.{Written, TypeExpression, WithClause, Parameter, Item, Child, DeclarationPart, ConstructorPart, in_slot, path_in, token_in, optional_tokens_in, module_types_in, module_type_in, type_in, first_of, no_module_type_at, place_of}
use Rattle.typing_model.specs.Names.{then_by, names_of, referent_of, found_by}
use Rattle.typing_model.specs.Declarations.{declaration_of, type_entry, entries_of_group, entries_of_exception}
use Rattle.typing_model.specs.BuiltIns.{built_in_names}
use Rattle.typing_model.specs.Items.{then_components, newest_alone, is_older, components_of_items, type_components, exception_components, behind_items, type_item, exception_item, no_item}
use Rattle.typing_model.specs.Modules.{signature_in, template_in, signature_by, template_by, parameter_signature, with_module, with_parameter, behind_clause, behind_clauses, functor_template, component_named, entry_named, module_type_item, module_specification, open_item, include_specification, value_item, all_bound, paired, module_type_row, signature_item_row}
use Rattle.typing_model.specs.Meanings.{recorded_item, children_of, child_of, tree_child}
use Rattle.typing_model.specs.Typings.{outermost}
use Rattle.typing_model.specs.First.{every_site, specifications_of, prelude_items, behind_prelude, IsFirst, entry_there, referent_there, signature_there, components_there, meaning_there}
use Rattle.typing_laws.proofs.Bools.{no_yes}
use Rattle.typing_laws.proofs.Steady.{Each, no_one, one_and, each_append, IfThere, absent, there}
use Rattle.typing_laws.proofs.SteadyRows.{mapped, filtered, first_there}

-- a scheme that binds everything
pub record BindsAll (s : Scheme) : Type 0 where
  pub each : (v : ℕ) → s.bound v ≡ true

-- signatures whose values bind everything, module types in them included
mutual
  pub data Tight : Signature → Type 0 where
    tight_hole : Tight Hole
    tight_structure : {cs : Components} → TightAll cs → Tight (Structure cs)
    tight_functor : {pm bm : List Path} {p b : Signature} → Tight p → Tight b → Tight (Functor pm p bm b)

  pub data TightAll : Components → Type 0 where
    tight_end : TightAll Done
    tight_component : {n : Name} {at : Place} {m : Meaning} {cs : Components} → TightMeaning m → TightAll cs → TightAll (Component n at m cs)

  pub data TightMeaning : Meaning → Type 0 where
    tight_value : {s : Scheme} → BindsAll s → TightMeaning (Value s)
    tight_type : {d : Declaration} → TightMeaning (TypeName d)
    tight_exception : {o : Option Typ} → TightMeaning (Exception o)
    tight_module : {s : Signature} → Tight s → TightMeaning (Module s)
    tight_module_type : {os : List Path} {s : Signature} → Tight s → TightMeaning (ModuleType os s)

pub data TightReferent : Referent → Type 0 where
  of_value : {s : Scheme} → BindsAll s → TightReferent (a_value s)
  of_constructor : {d : Declaration} {k : Constructor} → TightReferent (a_constructor d k)
  of_exception : {o : Option Typ} → TightReferent (an_exception o)
  of_label : {d : Declaration} {l : Label} → TightReferent (a_label d l)
  of_type : {d : Declaration} → TightReferent (a_type d)
  of_module : {s : Signature} → Tight s → TightReferent (a_module s)
  of_module_type : {t : Template} → Tight t.signature → TightReferent (a_module_type t)

pub record TightEntry (e : Entry) : Type 0 where
  pub stands : TightReferent e.stands_for

abbrev pub TightNames : List Entry → Type 0
TightNames es = Each TightEntry es

-- no variable is free in them
and_false : (a b : Bool) → b ≡ true → (a && not b) ≡ false
and_false true true e = refl
and_false false true e = refl
and_false true false e = absurd (no_yes e)
and_false false false e = refl

or_false : (a b : Bool) → a ≡ false → b ≡ false → (a || b) ≡ false
or_false false false e f = refl
or_false true b e f = absurd (no_yes (sym e))
or_false false true e f = absurd (no_yes (sym f))

mutual
  tight_free : (v : ℕ) {s : Signature} → Tight s → free_in_signature v s ≡ false
  tight_free v tight_hole = refl
  tight_free v (tight_structure h) = tight_free_all v h
  tight_free v (tight_functor {p = p} {b = b} h g) = or_false (free_in_signature v p) (free_in_signature v b) (tight_free v h) (tight_free v g)

  tight_free_all : (v : ℕ) {cs : Components} → TightAll cs → free_in_components v cs ≡ false
  tight_free_all v tight_end = refl
  tight_free_all v (tight_component {m = m} {cs = cs} h g) = or_false (free_in_meaning v m) (free_in_components v cs) (tight_free_meaning v h) (tight_free_all v g)

  tight_free_meaning : (v : ℕ) {m : Meaning} → TightMeaning m → free_in_meaning v m ≡ false
  tight_free_meaning v (tight_value {s = s} h) = and_false (occurs v s.body) (s.bound v) (h.each v)
  tight_free_meaning v tight_type = refl
  tight_free_meaning v tight_exception = refl
  tight_free_meaning v (tight_module h) = tight_free v h
  tight_free_meaning v (tight_module_type h) = refl

referent_free : (v : ℕ) {r : Referent} → TightReferent r → free_in_referent v r ≡ false
referent_free v (of_value {s = s} h) = and_false (occurs v s.body) (s.bound v) (h.each v)
referent_free v of_constructor = refl
referent_free v of_exception = refl
referent_free v of_label = refl
referent_free v of_type = refl
referent_free v (of_module h) = tight_free v h
referent_free v (of_module_type h) = refl

pub names_free : (v : ℕ) (E : List Entry) → TightNames E → free_in v E ≡ false
names_free v [] no_one = refl
names_free v (e ∷ E) (one_and h each) = or_false (free_in_referent v e.stands_for) (free_in v E) (referent_free v h.stands) (names_free v E each)

-- they stay so where something stands in place of origins
mutual
  tight_changed : (c : Change) {s : Signature} → Tight s → Tight (change_signature c s)
  tight_changed c tight_hole = tight_hole
  tight_changed c (tight_structure h) = tight_structure (all_changed c h)
  tight_changed c (tight_functor h g) = tight_functor (tight_changed c h) (tight_changed c g)

  all_changed : (c : Change) {cs : Components} → TightAll cs → TightAll (change_components c cs)
  all_changed c tight_end = tight_end
  all_changed c (tight_component h g) = tight_component (meaning_changed c h) (all_changed c g)

  meaning_changed : (c : Change) {m : Meaning} → TightMeaning m → TightMeaning (change_meaning c m)
  meaning_changed c (tight_value h) = tight_value (record { each = h.each })
  meaning_changed c tight_type = tight_type
  meaning_changed c tight_exception = tight_exception
  meaning_changed c (tight_module h) = tight_module (tight_changed c h)
  meaning_changed c (tight_module_type h) = tight_module_type (tight_changed c h)

-- and where their names are defined in the prelude
mutual
  tight_there : {s : Signature} → Tight s → Tight (signature_there s)
  tight_there tight_hole = tight_hole
  tight_there (tight_structure h) = tight_structure (all_there h)
  tight_there (tight_functor h g) = tight_functor (tight_there h) (tight_there g)

  all_there : {cs : Components} → TightAll cs → TightAll (components_there cs)
  all_there tight_end = tight_end
  all_there (tight_component h g) = tight_component (meaning_is_there h) (all_there g)

  meaning_is_there : {m : Meaning} → TightMeaning m → TightMeaning (meaning_there m)
  meaning_is_there (tight_value h) = tight_value h
  meaning_is_there tight_type = tight_type
  meaning_is_there tight_exception = tight_exception
  meaning_is_there (tight_module h) = tight_module (tight_there h)
  meaning_is_there (tight_module_type h) = tight_module_type (tight_there h)

referent_is_there : {r : Referent} → TightReferent r → TightReferent (referent_there r)
referent_is_there (of_value h) = of_value h
referent_is_there of_constructor = of_constructor
referent_is_there of_exception = of_exception
referent_is_there of_label = of_label
referent_is_there of_type = of_type
referent_is_there (of_module h) = of_module (tight_there h)
referent_is_there (of_module_type h) = of_module_type (tight_there h)

names_there : (E : List Entry) → TightNames E → TightNames (map entry_there E)
names_there [] no_one = no_one
names_there (e ∷ E) (one_and h each) = one_and (record { stands = referent_is_there h.stands }) (names_there E each)

-- what is in scope in them
onto : {xs us : List Entry} → TightNames xs → TightNames us → TightNames (reverse_aux xs us)
onto no_one h = h
onto (one_and p g) h = onto g (one_and p h)

reversed : {xs : List Entry} → TightNames xs → TightNames (reverse xs)
reversed h = onto h no_one

constructors_tight : (d : Declaration) (ks : List Constructor) → TightNames (map (λ k. entry k.name k.place (a_constructor d k)) ks)
constructors_tight d [] = no_one
constructors_tight d (k ∷ ks) = one_and (record { stands = of_constructor }) (constructors_tight d ks)

labels_tight : (d : Declaration) (ls : List Label) → TightNames (map (λ l. entry l.name l.place (a_label d l)) ls)
labels_tight d [] = no_one
labels_tight d (l ∷ ls) = one_and (record { stands = of_label }) (labels_tight d ls)

shape_tight : (d : Declaration) (s : Shape) → TightNames (entries_of_shape d s)
shape_tight d Opaque = no_one
shape_tight d (Variant ks) = constructors_tight d ks
shape_tight d (Labels ls) = labels_tight d ls

meaning_names : (n : Name) (at : Place) {m : Meaning} → TightMeaning m → TightNames (entries_of n at m)
meaning_names n at (tight_value h) = one_and (record { stands = of_value h }) no_one
meaning_names n at (tight_type {d = d}) = one_and (record { stands = of_type }) (shape_tight d d.shape)
meaning_names n at tight_exception = one_and (record { stands = of_exception }) no_one
meaning_names n at (tight_module h) = one_and (record { stands = of_module h }) no_one
meaning_names n at (tight_module_type h) = one_and (record { stands = of_module_type h }) no_one

component_names : {cs : Components} → TightAll cs → TightNames (entries_in cs)
component_names tight_end = no_one
component_names (tight_component {n = n} {at = at} h g) = each_append (meaning_names n at h) (component_names g)

scope_tight : {s : Signature} → Tight s → TightNames (scope_of s)
scope_tight tight_hole = no_one
scope_tight (tight_structure h) = reversed (component_names h)
scope_tight (tight_functor h g) = no_one

components_tight : {s : Signature} → Tight s → TightAll (components_of s)
components_tight tight_hole = tight_end
components_tight (tight_structure h) = h
components_tight (tight_functor h g) = tight_end

-- what is found in such an environment is so too
pub data TightScope : ScopeOf Entry → Type 0 where
  scope_known : {E : Environment} → TightNames E → TightScope (known E)
  scope_unknown : TightScope unknown_scope
  scope_none : TightScope no_scope

newest_tight : (test : Entry → Bool) (E : Environment) → TightNames E → IfThere TightEntry (newest_by test E)
newest_tight test [] no_one = absent
newest_tight test (e ∷ E) (one_and h each) = by (test e) (newest_tight test E each)
  where
    by : (b : Bool) → IfThere TightEntry (newest_by test E) → IfThere TightEntry (if b then Some e else newest_by test E)
    by true g = there h
    by false g = g

signature_scope : {s : Signature} → Tight s → TightScope (inside_signature s)
signature_scope tight_hole = scope_unknown
signature_scope (tight_structure h) = scope_known (reversed (component_names h))
signature_scope (tight_functor h g) = scope_known no_one

referent_scope : {r : Referent} → TightReferent r → TightScope (inside_referent r)
referent_scope (of_value h) = scope_none
referent_scope of_constructor = scope_none
referent_scope of_exception = scope_none
referent_scope of_label = scope_none
referent_scope of_type = scope_none
referent_scope (of_module h) = signature_scope h
referent_scope (of_module_type h) = scope_none

scope_behind_tight : (path : List Name) (E : Environment) → TightNames E → TightScope (scope_behind E path)
scope_behind_tight [] E h = scope_known h
scope_behind_tight (m ∷ ms) E h = by (newest_by (is_named module_kind m) E) (newest_tight (is_named module_kind m) E h) (λ F g. scope_behind_tight ms F g)
  where
    behind : (s : ScopeOf Entry) → TightScope s → ((F : Environment) → TightNames F → TightScope (scope_behind F ms)) → TightScope (through s (λ inner. scope_by is_named inside inner ms))
    behind (known F) (scope_known g) further = further F g
    behind unknown_scope scope_unknown further = scope_unknown
    behind no_scope scope_none further = scope_none

    by : (o : Option Entry) → IfThere TightEntry o → ((F : Environment) → TightNames F → TightScope (scope_behind F ms)) →
        TightScope (elim o [ None ↦ no_scope | Some e ↦ through (inside e) (λ inner. scope_by is_named inside inner ms) ])
    by None absent further = scope_none
    by (Some e) (there g) further = behind (inside e) (referent_scope g.stands) further

found_tight : (path : List Name) (k : Kind) (n : Name) (E : Environment) → TightNames E → IfThere TightReferent (referent_of (lookup E path k n))
found_tight path k n E h = by (scope_behind E path) (scope_behind_tight path E h)
  where
    entry_tight : (o : Option Entry) → IfThere TightEntry o → IfThere TightReferent (referent_of (found o))
    entry_tight None absent = absent
    entry_tight (Some e) (there g) = there g.stands

    by : (s : ScopeOf Entry) → TightScope s → IfThere TightReferent (referent_of (found_in (is_named k n) s))
    by (known F) (scope_known g) = entry_tight (newest_by (is_named k n) F) (newest_tight (is_named k n) F g)
    by unknown_scope scope_unknown = absent
    by no_scope scope_none = absent

-- paths to modules and module types
signature_there_is : (o : Option Referent) → IfThere TightReferent o → IfThere Tight (then_by o signature_in)
signature_there_is None absent = absent
signature_there_is (Some (a_module s)) (there (of_module h)) = there h
signature_there_is (Some (a_value z)) (there h) = absent
signature_there_is (Some (a_constructor d k)) (there h) = absent
signature_there_is (Some (an_exception o)) (there h) = absent
signature_there_is (Some (a_label d l)) (there h) = absent
signature_there_is (Some (a_type d)) (there h) = absent
signature_there_is (Some (a_module_type z)) (there h) = absent

pub record TightTemplate (t : Template) : Type 0 where
  pub signature : Tight t.signature

template_there_is : (o : Option Referent) → IfThere TightReferent o → IfThere TightTemplate (then_by o template_in)
template_there_is None absent = absent
template_there_is (Some (a_module_type t)) (there (of_module_type h)) = there (record { signature = h })
template_there_is (Some (a_value z)) (there h) = absent
template_there_is (Some (a_constructor d k)) (there h) = absent
template_there_is (Some (an_exception o)) (there h) = absent
template_there_is (Some (a_label d l)) (there h) = absent
template_there_is (Some (a_type d)) (there h) = absent
template_there_is (Some (a_module s)) (there h) = absent

or_hole : (o : Option Signature) → IfThere Tight o → Tight (elim o [ None ↦ Hole | Some s ↦ s ])
or_hole None absent = tight_hole
or_hole (Some s) (there h) = h

or_hole_template : (o : Option Template) → IfThere TightTemplate o → Tight (elim o as (λ x. Template) [ None ↦ template [] Hole | Some t ↦ t ]).signature
or_hole_template None absent = tight_hole
or_hole_template (Some t) (there h) = h.signature

if_there : {A : Type 0} (P : A → Type 0) (b : Bool) (o : Option A) → IfThere P o → IfThere P (if b then o else None)
if_there P true o h = h
if_there P false o h = absent

signature_tight : (c : Context) (n : ℕ) (p : Written) → TightNames c.env → Tight (signature_by c n p)
signature_tight c n p h = by p.last refl
  where
    by : (o : Option Tok) → p.last ≡ o → Tight (signature_by c n p)
    by None e = rw (e, signature_by) tight_hole
    by (Some t) e = rw (e, signature_by) (or_hole (if is_kept c n 0 then then_by (referent_of (found_by c module_kind p t)) signature_in else None)
        (if_there Tight (is_kept c n 0) (then_by (referent_of (found_by c module_kind p t)) signature_in) (signature_there_is (referent_of (found_by c module_kind p t)) (found_tight (names_of p.qualifiers) module_kind t.name c.env h))))

template_tight : (c : Context) (n : ℕ) (p : Written) → TightNames c.env → Tight (template_by c n p).signature
template_tight c n p h = by p.last refl
  where
    by : (o : Option Tok) → p.last ≡ o → Tight (template_by c n p).signature
    by None e = rw (e, template_by) tight_hole
    by (Some t) e = rw (e, template_by) (or_hole_template (if is_kept c n 0 then then_by (referent_of (found_by c module_type_kind p t)) template_in else None)
        (if_there TightTemplate (is_kept c n 0) (then_by (referent_of (found_by c module_type_kind p t)) template_in) (template_there_is (referent_of (found_by c module_type_kind p t)) (found_tight (names_of p.qualifiers) module_type_kind t.name c.env h))))

-- items of signatures, and module types, in such environments
pub record TightItem (i : Item) : Type 0 where
  pub adds : (c : Context) → TightNames c.env → TightNames (i.adds c)
  pub components : (c : Context) → TightNames c.env → TightAll (i.components c)

pub record TightModuleType (y : parts.ModuleType) : Type 0 where
  pub templates : (c : Context) → TightNames c.env → Tight (y.template c).signature

pub record TightParameter (p : Parameter) : Type 0 where
  pub module_type : TightModuleType p.module_type

then_tight : {cs ds : Components} → TightAll cs → TightAll ds → TightAll (then_components cs ds)
then_tight tight_end h = h
then_tight (tight_component g f) h = tight_component g (then_tight f h)

newest_alone_tight : {cs : Components} → TightAll cs → TightAll (newest_alone cs)
newest_alone_tight tight_end = tight_end
newest_alone_tight (tight_component {n = n} {at = at} {m = m} {cs = cs} h g) = by (is_older n m cs) (newest_alone_tight g)
  where
    by : (b : Bool) → TightAll (newest_alone cs) → TightAll (if b then newest_alone cs else Component n at m (newest_alone cs))
    by true f = f
    by false f = tight_component h f

items_tight : (c : Context) (xs : List Item) → Each TightItem xs → TightNames c.env → TightAll (components_of_items c xs)
items_tight c [] no_one h = tight_end
items_tight c (i ∷ xs) (one_and s each) h = then_tight (s.components c h) (items_tight (under (i.adds c ++ c.env) c) xs each (each_append (s.adds c h) h))

pub behind_tight : (c : Context) (xs : List Item) → Each TightItem xs → TightNames c.env → TightNames (behind_items c xs)
behind_tight c [] no_one h = h
behind_tight c (i ∷ xs) (one_and s each) h = behind_tight (under (i.adds c ++ c.env) c) xs each (each_append (s.adds c h) h)

named_tight : (x : Option Tok) (r : Referent) → TightReferent r → TightNames (entry_named x r)
named_tight None r h = no_one
named_tight (Some t) r h = one_and (record { stands = h }) no_one

component_tight : (x : Option Tok) (m : Meaning) → TightMeaning m → TightAll (component_named x m)
component_tight None m h = tight_end
component_tight (Some t) m h = tight_component h tight_end

value_item_tight : (n : ℕ) (ts : List Tok) (x : Option Tok) (t : TypeExpression) → TightItem (value_item n ts x t)
value_item_tight n ts x t = record {
  adds = λ c h. named_tight x (a_value (all_bound (type_at c t.node))) (of_value (record { each = λ v. refl }));
  components = λ c h. component_tight x (Value (all_bound (type_at c t.node))) (tight_value (record { each = λ v. refl }));
}

type_names : (d : Declaration) (t : Option Tok) → TightNames (type_entry d t)
type_names d None = no_one
type_names d (Some t) = one_and (record { stands = of_type }) no_one

group_tight : (c : Context) (all ds : List DeclarationPart) → TightNames (entries_of_group c all ds)
group_tight c all [] = no_one
group_tight c all (d ∷ ds) = each_append (each_append (type_names (declaration_of c all d) d.head.name) (shape_tight (declaration_of c all d) (declaration_of c all d).shape)) (group_tight c all ds)

group_components_tight : (c : Context) (all ds : List DeclarationPart) → TightAll (type_components c all ds)
group_components_tight c all [] = tight_end
group_components_tight c all (d ∷ ds) = by d.head.name (group_components_tight c all ds)
  where
    by : (o : Option Tok) → TightAll (type_components c all ds) → TightAll (elim o [ None ↦ type_components c all ds | Some t ↦ Component t.name (in_text (place_of t)) (TypeName (declaration_of c all d)) (type_components c all ds) ])
    by None h = h
    by (Some t) h = tight_component tight_type h

type_item_tight : (n : ℕ) (ds : List DeclarationPart) → TightItem (type_item n ds)
type_item_tight n ds = record { adds = λ c h. reversed (group_tight c ds ds); components = λ c h. group_components_tight c ds ds }

no_item_tight : (n : ℕ) → TightItem (no_item n)
no_item_tight n = record { adds = λ c h. no_one; components = λ c h. tight_end }

exception_names_tight : (c : Context) (k : ConstructorPart) → TightNames (entries_of_exception c k)
exception_names_tight c k = by k.name refl
  where
    by : (o : Option Tok) → k.name ≡ o → TightNames (entries_of_exception c k)
    by None e = rw (e, entries_of_exception) no_one
    by (Some t) e = rw (e, entries_of_exception) (one_and (record { stands = of_exception }) no_one)

exception_components_tight : (c : Context) (k : ConstructorPart) → TightAll (exception_components c k)
exception_components_tight c k = by k.name refl
  where
    by : (o : Option Tok) → k.name ≡ o → TightAll (exception_components c k)
    by None e = rw (e, exception_components) tight_end
    by (Some t) e = rw (e, exception_components) (tight_component tight_exception tight_end)

exception_item_tight : (n : ℕ) (k : Option ConstructorPart) → TightItem (exception_item n k)
exception_item_tight n None = no_item_tight n
exception_item_tight n (Some k) = record { adds = λ c h. exception_names_tight c k; components = λ c h. exception_components_tight c k }

-- parameters
with_module_tight : (c : Context) (x : Option Tok) (s : Signature) → Tight s → TightNames c.env → TightNames (with_module c x s).env
with_module_tight c None s g h = h
with_module_tight c (Some t) s g h = one_and (record { stands = of_module g }) h

parameter_tight : (c : Context) (p : Parameter) → TightParameter p → TightNames c.env → Tight (parameter_signature c p)
parameter_tight c p s h = let y = s.module_type in tight_changed (in_front (p.module_type.template c).made p.module_type.node) (y.templates c h)

functor_tight : (c : Context) (ps : List Parameter) (y : parts.ModuleType) → Each TightParameter ps → TightModuleType y → TightNames c.env → Tight (functor_template c ps y).signature
functor_tight c [] y no_one s h = s.templates c h
functor_tight c (p ∷ ps) y (one_and z each) s h =
    tight_functor (parameter_tight c p z h) (functor_tight (with_parameter c p) ps y each s (with_module_tight c p.name (parameter_signature c p) (parameter_tight c p z h) h))

abbrev specified : ℕ → Context → List Parameter → parts.ModuleType → Signature
specified n c ps y = elim ps [ [] ↦ made_at (y.template c) n | p ∷ qs ↦ (functor_template c (p ∷ qs) y).signature ]

specified_tight : (n : ℕ) (c : Context) (ps : List Parameter) (y : parts.ModuleType) → Each TightParameter ps → TightModuleType y → TightNames c.env → Tight (specified n c ps y)
specified_tight n c [] y no_one s h = tight_changed (in_front (y.template c).made n) (s.templates c h)
specified_tight n c (p ∷ ps) y each s h = functor_tight c (p ∷ ps) y each s h

gmodule_tight : (n : ℕ) (x : Option Tok) (ps : List Parameter) (y : parts.ModuleType) → Each TightParameter ps → TightModuleType y → TightItem (module_specification n x ps y)
gmodule_tight n x ps y each s = record {
  adds = λ c h. named_tight x (a_module (specified n c ps y)) (of_module (specified_tight n c ps y each s h));
  components = λ c h. component_tight x (Module (specified n c ps y)) (tight_module (specified_tight n c ps y each s h));
}

module_type_item_tight : (n : ℕ) (x : Option Tok) (y : parts.ModuleType) → TightModuleType y → TightItem (module_type_item n x y)
module_type_item_tight n x y s = record {
  adds = λ c h. named_tight x (a_module_type (y.template c)) (of_module_type (s.templates c h));
  components = λ c h. component_tight x (ModuleType (y.template c).made (y.template c).signature) (tight_module_type (s.templates c h));
}

open_item_tight : (n : ℕ) (p : Written) → TightItem (open_item n p)
open_item_tight n p = record { adds = λ c h. scope_tight (signature_tight c n p h); components = λ c h. tight_end }

include_tight : (n : ℕ) (q : trees.Place) (p : Written) → TightItem (include_specification n q p)
include_tight n q p = record { adds = λ c h. scope_tight (template_tight c n p h); components = λ c h. components_tight (template_tight c n p h) }

-- module types by their rows
given_tight : (t : Template) (x : Typ) (o : Option Path) → Tight t.signature → IfThere TightTemplate (with_origin t x o)
given_tight t x None h = absent
given_tight t x (Some o) h = there (record { signature = tight_changed (realised (only o x)) h })

clause_tight : (c : Context) (t : Template) (w : WithClause) → Tight t.signature → IfThere TightTemplate (behind_clause c t w)
clause_tight c t w h = by w.head.name refl
  where
    by : (o : Option Tok) → w.head.name ≡ o → IfThere TightTemplate (behind_clause c t w)
    by None e = rw (e, behind_clause) absent
    by (Some x) e = rw (e, behind_clause) (given_tight t (type_at c w.body.node) (abstract_in t.made x.name (length w.head.parameters) (components_of t.signature)) h)

clauses_tight : (c : Context) (t : Template) (ws : List WithClause) → Tight t.signature → Tight (behind_clauses c t ws).signature
clauses_tight c t [] h = h
clauses_tight c t (w ∷ ws) h = clauses_tight c (elim (behind_clause c t w) [ None ↦ t | Some u ↦ u ]) ws (by (behind_clause c t w) (clause_tight c t w h))
  where
    by : (o : Option Template) → IfThere TightTemplate o → Tight (elim o as (λ x. Template) [ None ↦ t | Some u ↦ u ]).signature
    by None absent = h
    by (Some u) (there g) = g.signature

-- a part of a row
pub record TightChild (x : Child) : Type 0 where
  pub signature_item : IfThere TightItem x.signature_item
  pub module_type : TightModuleType x.module_type

slotted : (s : ℕ) (cs : List Child) → Each TightChild cs → Each TightChild (in_slot s cs)
slotted s [] no_one = no_one
slotted s (c ∷ cs) (one_and h each) = by (c.slot == s) (slotted s cs each)
  where
    by : (b : Bool) → Each TightChild (in_slot s cs) → Each TightChild (if b then c ∷ in_slot s cs else in_slot s cs)
    by true g = one_and h g
    by false g = g

module_types_tight : (s : ℕ) (cs : List Child) → Each TightChild cs → Each TightModuleType (module_types_in s cs)
module_types_tight s cs each = mapped TightModuleType (λ c. c.module_type) (in_slot s cs) (λ c h. h.module_type) (slotted s cs each)

module_type_tight : (s : ℕ) (cs : List Child) → Each TightChild cs → TightModuleType (module_type_in s cs)
module_type_tight s cs each = by (first_of (module_types_in s cs)) (first_there (module_types_in s cs) (module_types_tight s cs each))
  where
    by : (o : Option parts.ModuleType) → IfThere TightModuleType o → TightModuleType (elim o [ None ↦ no_module_type_at 0 | Some y ↦ y ])
    by None absent = record { templates = λ c h. tight_hole }
    by (Some y) (there h) = h

paired_tight : (ts : List (Option Tok)) (ys : List parts.ModuleType) → Each TightModuleType ys → Each TightParameter (paired ts ys)
paired_tight ts [] no_one = no_one
paired_tight [] (y ∷ ys) (one_and s each) = one_and (record { module_type = s }) (paired_tight [] ys each)
paired_tight (t ∷ ts) (y ∷ ys) (one_and s each) = one_and (record { module_type = s }) (paired_tight ts ys each)

module_type_row_tight : (r : Row) (n : ℕ) (cs : List Child) → Each TightChild cs → TightModuleType (module_type_row r n cs)
unfolding module_type_row
module_type_row_tight ypath_row n cs h = record { templates = λ c g. template_tight c n (path_in 0 1 cs) g }
module_type_row_tight ysig_row n cs h = record {
  templates = λ c g. tight_structure (newest_alone_tight (items_tight c (filter_map (λ k. k.signature_item) (in_slot 1 cs))
      (filtered TightItem (λ k. k.signature_item) (in_slot 1 cs) (λ k f. f.signature_item) (slotted 1 cs h)) g));
}
module_type_row_tight yparen_row n cs h = let s = module_type_tight 1 cs h in record { templates = s.templates }
module_type_row_tight ywith_row n cs h = let s = module_type_tight 0 cs h in record { templates = λ c g. clauses_tight c ((module_type_in 0 cs).template c) (filter_map (λ k. k.with_clause) (in_slot 2 cs)) (s.templates c g) }
module_type_row_tight yfunctor_row n cs h = record {
  templates = λ c g. functor_tight c (paired (optional_tokens_in 2 cs) (module_types_in 4 cs)) (module_type_in 7 cs)
      (paired_tight (optional_tokens_in 2 cs) (module_types_in 4 cs) (module_types_tight 4 cs h)) (module_type_tight 7 cs h) g;
}
module_type_row_tight _ n cs h = record { templates = λ c g. tight_hole }

signature_row_tight : (r : Row) (n : ℕ) (q : trees.Place) (ts : List Tok) (cs : List Child) → Each TightChild cs → IfThere TightItem (signature_item_row r n q ts cs)
unfolding signature_item_row
signature_row_tight val_row n q ts cs h = there (value_item_tight n ts (token_in 1 cs) (type_in 3 cs))
signature_row_tight type_row n q ts cs h = there (type_item_tight n (filter_map (λ k. k.declaration) (in_slot 2 cs)))
signature_row_tight exception_row n q ts cs h = there (exception_item_tight n (then_by (first_of (in_slot 1 cs)) (λ k. k.constructor)))
signature_row_tight gmodule_row n q ts cs h = there (gmodule_tight n (token_in 1 cs) (paired (optional_tokens_in 3 cs) (module_types_in 5 cs)) (module_type_in 8 cs)
    (paired_tight (optional_tokens_in 3 cs) (module_types_in 5 cs) (module_types_tight 5 cs h)) (module_type_tight 8 cs h))
signature_row_tight modtype_row n q ts cs h = there (module_type_item_tight n (token_in 1 cs) (module_type_in 3 cs) (module_type_tight 3 cs h))
signature_row_tight open_row n q ts cs h = there (open_item_tight n (path_in 1 2 cs))
signature_row_tight include_row n q ts cs h = there (include_tight n q (path_in 1 2 cs))
signature_row_tight _ n q ts cs h = absent

told_tight : (n : ℕ) (o : Option Item) → IfThere TightItem o → IfThere TightItem (recorded_item n o)
told_tight n None absent = absent
told_tight n (Some i) (there s) = there (record { adds = s.adds; components = s.components })

mutual
  children_tight : (n : ℕ) (r : Row) (ps : Forest) → Each TightChild (children_of n r ps)
  children_tight n r no_parts = no_one
  children_tight n r (part slot p ps) = one_and (child_tight n slot p) (children_tight (n + part_size r slot p) r ps)

  child_tight : (n : ℕ) (slot : ℕ) (p : Part) → TightChild (child_of n slot p)
  child_tight n slot (taken t) = record { signature_item = absent; module_type = record { templates = λ c h. tight_hole } }
  child_tight n slot (inner t) = tree_tight n slot t
  child_tight n slot (missing p) = record { signature_item = absent; module_type = record { templates = λ c h. tight_hole } }

  tree_tight : (n : ℕ) (slot : ℕ) (t : Tree) → TightChild (tree_child n slot t)
  tree_tight n slot (node r x ps) =
      let cs : List Child = children_of (n + 1) r ps in
      let h : Each TightChild cs = children_tight (n + 1) r ps in
      let y = module_type_row_tight r n cs h in
      record {
        signature_item = told_tight n (signature_item_row r n x.span (part_yield (inner (node r x ps))) cs) (signature_row_tight r n x.span (part_yield (inner (node r x ps))) cs h);
        module_type = record { templates = y.templates };
      }

specifications_tight : (t : Tree) → Each TightItem (specifications_of t)
specifications_tight (node r x ps) = filtered TightItem (λ k. k.signature_item) (children_of 0 r ps) (λ k f. f.signature_item) (children_tight 0 r ps)

built_ins_tight : TightNames built_in_names
built_ins_tight = one_and (record { stands = of_type }) (one_and (record { stands = of_type }) (one_and (record { stands = of_type }) (one_and (record { stands = of_type })
    (one_and (record { stands = of_type }) (one_and (record { stands = of_type }) (one_and (record { stands = of_type }) (one_and (record { stands = of_type }) no_one)))))))

-- no variable is free in a first environment
pub first_closed : (env : Environment) → IsFirst env → (v : ℕ) → free_in v env ≡ false
first_closed env f v = subst (λ E. free_in v E ≡ false) (sym f.stands)
    (names_free v (behind_prelude f.tokens f.choice) (names_there (behind_items (outermost built_in_names every_site f.choice) (prelude_items f.tokens))
    (behind_tight (outermost built_in_names every_site f.choice) (prelude_items f.tokens) (specifications_tight (named row_name (recover (grammar interface_text) f.tokens).0)) built_ins_tight)))
