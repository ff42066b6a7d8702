-- Conditions that make the same demands whatever types stand in them, and contexts that differ in the types that are chosen.
use mathlib.Core.List.{reverse_aux}
use Rattle.std.proofs.Common.{◌≡◌, ◌∙◌, ℕ, Bool, true, false, ◌&&◌, List, [], ◌∷◌, ◌++◌, map, reverse, Option, Some, None, refl, sym, ap, subst, if◌then◌else◌}
use Rattle.tree_model.specs.Trees.{Place}
use Rattle.type_model.specs.Types.{Typ, Path}
use Rattle.type_model.specs.Schemes.{Scheme}
use Rattle.signature_model.specs.Declarations.{Name, Constructor, Label, Shape, Opaque, Variant, Labels, Declaration, type_of}
use Rattle.signature_model.specs.Components.{same_name}
use Rattle.signature_model.specs.Entries.{Environment, Entry, Kind, module_kind, Referent, a_value, a_constructor, an_exception, a_label, a_type, kind_of}
use Rattle.signature_model.specs.Lookups.{FoundAmong, an_entry, a_hole, nothing, same_kind, found, found_in, ScopeOf, known, unknown_scope, no_scope, newest_by, is_named, scope_behind, scope_by, inside_referent, inside, through, lookup}
use Rattle.signature_model.specs.Records.{Written, path_for, is_label_of, has_label, has_each, belongs_to, has_name, newest_label, is_there, is_known, each_scope, first_label, origin_of, record_of_label, label_entries, scope_for, record_of}
use Rattle.signature_model.specs.Records as labels
use Rattle.typing_model.specs.Demands.{Site, Demand, Condition, same, instance, made, known, demand, treated}
use Rattle.typing_model.specs.Demands as demands
use Rattle.token_model.specs.Kinds.{Tok}
use Rattle.typing_model.specs.Demands.{Word}
use Rattle.typing_laws.proofs.Bools.{no_yes}
use Rattle.typing_model.specs.Names.{lost_behind, is_no_scope, place_unbound, complaint_unbound, ask_bound}
use Rattle.typing_model.specs.Parts as parts
use Rattle.typing_model.specs.Contexts.{Choice, Context, Bound, entries_with, with_names, monomorphic}
use Rattle.query_model.specs.Faults.{TyperKind}
use Rattle.query_model.specs.Faults as kinds
use Rattle.fault_model.specs.Refused.{kind_of_complaint, kind_asked, Refused, refused_as, refused_of}
use Rattle.typing_conditions.specs.Judging.{is_closing, Judgement, judgements, judged_at}

-- a demand that is made: its site, whether it is kept, and which fault it is where it isn't
pub record Asked : Type 0 where
  pub site : Site
  pub kept : Bool
  pub fault : Refused

-- the demands of conditions, in order
abbrev pub asked_of : (Site → Bool) → List Condition → List Asked
asked_of kept [] = []
asked_of kept (same t u ∷ cs) = asked_of kept cs
asked_of kept (instance s t ∷ cs) = asked_of kept cs
asked_of kept (made n t ∷ cs) = asked_of kept cs
asked_of kept (demands.known t ∷ cs) = asked_of kept cs
asked_of kept (demand s at d ∷ cs) = record { site = s; kept = kept s; fault = refused_as at d } ∷ asked_of kept cs
asked_of kept (treated n env ∷ cs) = asked_of kept cs

-- the same demands are made, in order
pub record Same (xs ys : List Condition) : Type 0 where
  pub each : (kept : Site → Bool) → asked_of kept xs ≡ asked_of kept ys

-- conditions that differ in types alone
pub alone : {xs ys : List Condition} → ((kept : Site → Bool) → asked_of kept xs ≡ asked_of kept ys) → Same xs ys
alone h = record { each = h }

-- conditions are alike with themselves
pub one : (cs : List Condition) → Same cs cs
one cs = alone (λ kept. refl)

-- that a node is treated makes no demand
pub at_treated : {i j : ℕ} {e f : Environment} {cs ds : List Condition} → Same cs ds → Same (treated i e ∷ cs) (treated j f ∷ ds)
at_treated h = alone h.each

-- nor does what holds in any case of the type of a node
pub at_known : {t u : Typ} {cs ds : List Condition} → Same cs ds → Same (demands.known t ∷ cs) (demands.known u ∷ ds)
at_known h = alone h.each

asked_all : (kept : Site → Bool) (xs ys : List Condition) → asked_of kept (xs ++ ys) ≡ asked_of kept xs ++ asked_of kept ys
asked_all kept [] ys = refl
asked_all kept (same t u ∷ xs) ys = asked_all kept xs ys
asked_all kept (instance s t ∷ xs) ys = asked_all kept xs ys
asked_all kept (made n t ∷ xs) ys = asked_all kept xs ys
asked_all kept (demands.known t ∷ xs) ys = asked_all kept xs ys
asked_all kept (demand s at d ∷ xs) ys = ap (λ js. record { site = s; kept = kept s; fault = refused_as at d } ∷ js) (asked_all kept xs ys)
asked_all kept (treated n env ∷ xs) ys = asked_all kept xs ys

-- and so are further ones behind
pub behind : {xs ys us vs : List Condition} → Same xs ys → Same us vs → Same (xs ++ us) (ys ++ vs)
behind {xs} {ys} {us} {vs} h g = alone (λ kept.
    asked_all kept xs us ∙ ap (λ js. js ++ asked_of kept us) (h.each kept) ∙ ap (λ js. asked_of kept ys ++ js) (g.each kept) ∙ sym (asked_all kept ys vs))

-- a demand in front, with the same fault
at_place : {s : Site} {p q : Place} {d e : Demand} {cs ds : List Condition} → refused_as p d ≡ refused_as q e → Same cs ds → Same (demand s p d ∷ cs) (demand s q e ∷ ds)
at_place {s} {p} {q} {d} {e} {cs} {ds} told h = alone (λ kept. λ i. record { site = s; kept = kept s; fault = told i } ∷ h.each kept i)

-- and at the same place
pub at_demand : {s : Site} {p : Place} {d e : Demand} {cs ds : List Condition} → refused_as p d ≡ refused_as p e → Same cs ds → Same (demand s p d ∷ cs) (demand s p e ∷ ds)
at_demand told h = at_place told h

-- whether a kind is that of what a body closes
abbrev closes_body : TyperKind → Bool
closes_body kinds.closing = true
closes_body _ = false

no_body_closed : (c : demands.Complaint) → closes_body (kind_of_complaint c) ≡ false
no_body_closed (demands.unbound w x) = refl
no_body_closed (demands.arity x n m) = refl
no_body_closed demands.no_label = refl
no_body_closed (demands.not_mutable x) = refl
no_body_closed (demands.incomplete x) = refl
no_body_closed (demands.twice x) = refl
no_body_closed (demands.one_side x) = refl
no_body_closed demands.too_large = refl
no_body_closed (demands.cyclic x) = refl
no_body_closed (demands.differs x) = refl
no_body_closed demands.no_functor = refl
no_body_closed (demands.no_abstract_type x n) = refl

closing_by_kind : (d : Demand) → closes_body (kind_asked d) ≡ is_closing d
closing_by_kind (demands.equal t u) = refl
closing_by_kind (demands.test c b) = no_body_closed c
closing_by_kind (demands.agrees c n s t) = no_body_closed c
closing_by_kind (demands.matches a t) = refl
closing_by_kind (demands.closes e s) = refl

-- a demand as it is judged, and as a fault where it isn't kept
abbrev judgement_of : Asked → Judgement
judgement_of a = judged_at a.site a.kept (closes_body a.fault.kind)

abbrev refused_first : Asked → List Refused → List Refused
refused_first a rs = if a.kept then rs else a.fault ∷ rs

abbrev refused_among : List Asked → List Refused
refused_among [] = []
refused_among (a ∷ xs) = refused_first a (refused_among xs)

judgements_are : (kept : Site → Bool) (cs : List Condition) → judgements kept cs ≡ map judgement_of (asked_of kept cs)
judgements_are kept [] = refl
judgements_are kept (same t u ∷ cs) = judgements_are kept cs
judgements_are kept (instance s t ∷ cs) = judgements_are kept cs
judgements_are kept (made n t ∷ cs) = judgements_are kept cs
judgements_are kept (demands.known t ∷ cs) = judgements_are kept cs
judgements_are kept (demand s at d ∷ cs) = λ i. judged_at s (kept s) (sym (closing_by_kind d) i) ∷ judgements_are kept cs i
judgements_are kept (treated n env ∷ cs) = judgements_are kept cs

refused_are : (kept : Site → Bool) (cs : List Condition) → refused_of kept cs ≡ refused_among (asked_of kept cs)
refused_are kept [] = refl
refused_are kept (same t u ∷ cs) = refused_are kept cs
refused_are kept (instance s t ∷ cs) = refused_are kept cs
refused_are kept (made n t ∷ cs) = refused_are kept cs
refused_are kept (demands.known t ∷ cs) = refused_are kept cs
refused_are kept (demand s at d ∷ cs) = ap (λ rs. if kept s then rs else refused_as at d ∷ rs) (refused_are kept cs)
refused_are kept (treated n env ∷ cs) = refused_are kept cs

-- So they are judged alike, and the same faults are left of them.
pub judged_same : {xs ys : List Condition} → Same xs ys → (kept : Site → Bool) → judgements kept xs ≡ judgements kept ys
judged_same {xs} {ys} h kept = judgements_are kept xs ∙ ap (map judgement_of) (h.each kept) ∙ sym (judgements_are kept ys)

pub refused_same : {xs ys : List Condition} → Same xs ys → (kept : Site → Bool) → refused_of kept xs ≡ refused_of kept ys
refused_same {xs} {ys} h kept = refused_are kept xs ∙ ap refused_among (h.each kept) ∙ sym (refused_are kept ys)

-- what depends on one thing
pub along : {A : Type 0} (f g : A → List Condition) {a b : A} → a ≡ b → Same (f a) (g a) → Same (f a) (g b)
along f g {a} e h = subst (λ z. Same (f a) (g z)) e h

-- two types that may be there are there both, or neither is
pub data BothThere : Option Typ → Option Typ → Type 0 where
  neither : BothThere None None
  both : {t u : Typ} → BothThere (Some t) (Some u)

-- two optional things are there both and alike, or neither is
pub data Both {A : Type 0} (R : A → A → Type 0) : Option A → Option A → Type 0 where
  nones : Both R None None
  somes : {x y : A} → R x y → Both R (Some x) (Some y)

-- two lists have things that are alike, one by one
pub data Lists {A : Type 0} (R : A → A → Type 0) : List A → List A → Type 0 where
  no_pair : Lists R [] []
  pair_and : {x y : A} {xs ys : List A} → R x y → Lists R xs ys → Lists R (x ∷ xs) (y ∷ ys)

-- two constructors are one but for the type of an argument
pub record ConstructorAlike (k m : Constructor) : Type 0 where
  pub name : k.name ≡ m.name
  pub argument : BothThere k.argument m.argument

-- two labels are one but for their types
pub record LabelAlike (l m : Label) : Type 0 where
  pub name : l.name ≡ m.name
  pub is_mutable : l.is_mutable ≡ m.is_mutable

-- two shapes are one but for the types in them
pub data ShapeAlike : Shape → Shape → Type 0 where
  opaque : ShapeAlike Opaque Opaque
  variants : {ks ms : List Constructor} → Lists ConstructorAlike ks ms → ShapeAlike (Variant ks) (Variant ms)
  records : {ls ms : List Label} → Lists LabelAlike ls ms → ShapeAlike (Labels ls) (Labels ms)

-- and so are two declarations
pub record DeclarationAlike (d e : Declaration) : Type 0 where
  pub arity : d.arity ≡ e.arity
  pub shape : ShapeAlike d.shape e.shape

-- What two names stand for is one but for the types in it; labels are of record types of one origin.
pub data ReferentAlike : Referent → Referent → Type 0 where
  one_thing : {r : Referent} → ReferentAlike r r
  two_values : {s z : Scheme} → ReferentAlike (a_value s) (a_value z)
  two_exceptions : {o p : Option Typ} → BothThere o p → ReferentAlike (an_exception o) (an_exception p)
  two_constructors : {d e : Declaration} {k m : Constructor} → BothThere k.argument m.argument → ReferentAlike (a_constructor d k) (a_constructor e m)
  two_labels : {d e : Declaration} {l m : Label} → origin_of (type_of d) ≡ origin_of (type_of e) → DeclarationAlike d e → LabelAlike l m → ReferentAlike (a_label d l) (a_label e m)
  two_types : {d e : Declaration} → DeclarationAlike d e → ReferentAlike (a_type d) (a_type e)

-- two entries are one but for such types
pub record EntryAlike (e f : Entry) : Type 0 where
  pub name : e.name ≡ f.name
  pub stands : ReferentAlike e.stands_for f.stands_for

pub one_entry : {e : Entry} → EntryAlike e e
one_entry = record { name = refl; stands = one_thing }

-- two environments are one but for them
pub data NamesAlike : Environment → Environment → Type 0 where
  no_names : NamesAlike [] []
  next : {e f : Entry} {E F : Environment} → EntryAlike e f → NamesAlike E F → NamesAlike (e ∷ E) (f ∷ F)

pub as_one : (E : Environment) → NamesAlike E E
as_one [] = no_names
as_one (e ∷ E) = next one_entry (as_one E)

pub names_too : (f g : Typ → Scheme) (c d : Context) (bs : List Bound) {E F : Environment} → NamesAlike E F → NamesAlike (entries_with f c bs E) (entries_with g d bs F)
names_too f g c d [] h = h
names_too f g c d (b ∷ bs) h = names_too f g c d bs (next (record { name = refl; stands = two_values }) h)

pub in_front : {xs ys E F : Environment} → NamesAlike xs ys → NamesAlike E F → NamesAlike (xs ++ E) (ys ++ F)
in_front no_names h = h
in_front (next a g) h = next a (in_front g h)

-- the other way round
onto : {xs ys E F : Environment} → NamesAlike xs ys → NamesAlike E F → NamesAlike (reverse_aux xs E) (reverse_aux ys F)
onto no_names h = h
onto (next a g) h = onto g (next a h)

pub turned : {xs ys : Environment} → NamesAlike xs ys → NamesAlike (reverse xs) (reverse ys)
turned g = onto g no_names

-- a context, and another one in which other types are chosen
pub record Two : Type 0 where
  pub first : Context
  pub env : Environment
  pub choice : Choice
  pub names : NamesAlike first.env env

abbrev pub left : Two → Context
left c = c.first

abbrev pub right : Two → Context
right c = record c.first { env = c.env; chosen = c.choice }

-- both with more names in scope
abbrev pub more : Two → List Bound → Two
more c bs = record { first = with_names (left c) bs; env = entries_with monomorphic (right c) bs c.env; choice = c.choice; names = names_too monomorphic monomorphic (left c) (right c) bs c.names }

-- What a search finds is alike in both.
pub data FoundAlike : Option Entry → Option Entry → Type 0 where
  none_found : FoundAlike None None
  both_found : {e f : Entry} → EntryAlike e f → FoundAlike (Some e) (Some f)

newest_alike : (t u : Entry → Bool) → ((e f : Entry) → EntryAlike e f → t e ≡ u f) → {E F : Environment} → NamesAlike E F → FoundAlike (newest_by t E) (newest_by u F)
newest_alike t u one no_names = none_found
newest_alike t u one (next {e = e} {f = f} {E = E} {F = F} a h) = by (t e) (u f) (one e f a) (newest_alike t u one h)
  where
    by : (b d : Bool) → b ≡ d → FoundAlike (newest_by t E) (newest_by u F) → FoundAlike (if b then Some e else newest_by t E) (if d then Some f else newest_by u F)
    by true true i rest = both_found a
    by false false i rest = rest
    by true false i rest = absurd (no_yes (sym i))
    by false true i rest = absurd (no_yes i)

-- and so is what it comes to
pub data ComesAlike : FoundAmong Entry → FoundAmong Entry → Type 0 where
  at_entry : {e f : Entry} → EntryAlike e f → ComesAlike (an_entry e) (an_entry f)
  at_hole : ComesAlike a_hole a_hole
  at_nothing : ComesAlike nothing nothing

comes_as_itself : (f : FoundAmong Entry) → ComesAlike f f
comes_as_itself (an_entry e) = at_entry one_entry
comes_as_itself a_hole = at_hole
comes_as_itself nothing = at_nothing

found_alike : {o p : Option Entry} → FoundAlike o p → ComesAlike (found o) (found p)
found_alike none_found = at_nothing
found_alike (both_found a) = at_entry a

kind_alike : {r q : Referent} → ReferentAlike r q → kind_of r ≡ kind_of q
kind_alike one_thing = refl
kind_alike two_values = refl
kind_alike (two_exceptions h) = refl
kind_alike (two_constructors h) = refl
kind_alike (two_labels o d h) = refl
kind_alike (two_types d) = refl

and_both : (a b c d : Bool) → a ≡ c → b ≡ d → (a && b) ≡ (c && d)
and_both a b c d e f = cc

named_alike : (k : Kind) (n : Name) (e f : Entry) → EntryAlike e f → is_named k n e ≡ is_named k n f
named_alike k n e f a = and_both (same_kind k (kind_of e.stands_for)) (same_name n e.name) (same_kind k (kind_of f.stands_for)) (same_name n f.name) (ap (same_kind k) (kind_alike a.stands)) (ap (same_name n) a.name)

within_alike : {r q : Referent} → ReferentAlike r q → inside_referent r ≡ inside_referent q
within_alike one_thing = refl
within_alike two_values = refl
within_alike (two_exceptions h) = refl
within_alike (two_constructors h) = refl
within_alike (two_labels o d h) = refl
within_alike (two_types d) = refl

inside_alike : {e f : Entry} → EntryAlike e f → inside e ≡ inside f
inside_alike a = within_alike a.stands

-- what stands behind a module of a path, if it is there
abbrev behind_module : List Name → Option Entry → ScopeOf Entry
behind_module ms o = elim o [ None ↦ no_scope | Some e ↦ through (inside e) (λ inner. scope_by is_named inside inner ms) ]

module_alike : (ms : List Name) {o p : Option Entry} → FoundAlike o p → behind_module ms o ≡ behind_module ms p
module_alike ms none_found = refl
module_alike ms (both_found a) = ap (λ s. through s (λ inner. scope_by is_named inside inner ms)) (inside_alike a)

pub scope_alike : {E F : Environment} (m : Name) (ms : List Name) → NamesAlike E F → scope_behind E (m ∷ ms) ≡ scope_behind F (m ∷ ms)
scope_alike m ms h = module_alike ms (newest_alike (is_named module_kind m) (is_named module_kind m) (named_alike module_kind m) h)

-- a path finds the same in both but for such types
pub lookup_alike : {E F : Environment} (path : List Name) (k : Kind) (n : Name) → NamesAlike E F → ComesAlike (lookup E path k n) (lookup F path k n)
lookup_alike [] k n h = found_alike (newest_alike (is_named k n) (is_named k n) (named_alike k n) h)
lookup_alike {E} {F} (m ∷ ms) k n h =
    subst (λ s. ComesAlike (lookup E (m ∷ ms) k n) (found_in (is_named k n) s)) (scope_alike m ms h) (comes_as_itself (lookup E (m ∷ ms) k n))

-- scopes in which the same labels are found
pub data ScopesAlike : ScopeOf Entry → ScopeOf Entry → Type 0 where
  both_known : {E F : Environment} → NamesAlike E F → ScopesAlike (known E) (known F)
  one_scope : {s : ScopeOf Entry} → ScopesAlike s s

pub scopes_alike : {E F : Environment} (path : List Name) → NamesAlike E F → ScopesAlike (scope_behind E path) (scope_behind F path)
scopes_alike [] h = both_known h
scopes_alike {E} (m ∷ ms) h = subst (ScopesAlike (scope_behind E (m ∷ ms))) (scope_alike m ms h) one_scope

-- whether an entry is a label, and of which record, is the same of both
label_type_alike : {r q : Referent} → ReferentAlike r q → record_of_label r ≡ record_of_label q
label_type_alike one_thing = refl
label_type_alike two_values = refl
label_type_alike (two_exceptions h) = refl
label_type_alike (two_constructors h) = refl
label_type_alike (two_labels o d h) = o
label_type_alike (two_types d) = refl

record_type_alike : {e f : Entry} → EntryAlike e f → record_of_label e.stands_for ≡ record_of_label f.stands_for
record_type_alike a = label_type_alike a.stands

label_of_alike : (o : Path) (n : Name) (e f : Entry) → EntryAlike e f → is_label_of label_entries o n e ≡ is_label_of label_entries o n f
label_of_alike o n e f a = and_both (same_name n e.name) (labels.is_of_type o (record_of_label e.stands_for)) (same_name n f.name) (labels.is_of_type o (record_of_label f.stands_for)) (ap (same_name n) a.name) (ap (labels.is_of_type o) (record_type_alike a))

some_alike : {o p : Option Entry} → FoundAlike o p → labels.is_some o ≡ labels.is_some p
some_alike none_found = refl
some_alike (both_found a) = refl

has_label_alike : (o : Path) (n : Name) {s t : ScopeOf Entry} → ScopesAlike s t → has_label label_entries o n s ≡ has_label label_entries o n t
has_label_alike o n (both_known h) = some_alike (newest_alike (is_label_of label_entries o n) (is_label_of label_entries o n) (label_of_alike o n) h)
has_label_alike o n one_scope = refl

has_each_alike : (s t : Written → ScopeOf Entry) → ((l : Written) → ScopesAlike (s l) (t l)) → (o : Path) (ls : List Written) → has_each label_entries s o ls ≡ has_each label_entries t o ls
has_each_alike s t h o [] = refl
has_each_alike s t h o (l ∷ ls) = and_both (has_label label_entries o l.name (s l)) (has_each label_entries s o ls) (has_label label_entries o l.name (t l)) (has_each label_entries t o ls) (has_label_alike o l.name (h l)) (has_each_alike s t h o ls)

pub belongs_alike : (s t : Written → ScopeOf Entry) → ((l : Written) → ScopesAlike (s l) (t l)) → (ls : List Written) (o : Option Path) → belongs_to label_entries s ls o ≡ belongs_to label_entries t ls o
belongs_alike s t h ls None = refl
belongs_alike s t h ls (Some o) = has_each_alike s t h o ls

pub each_scope_alike : (test : ScopeOf Entry → Bool) (s t : Written → ScopeOf Entry) → ((l : Written) → test (s l) ≡ test (t l)) → (ls : List Written) → each_scope test s ls ≡ each_scope test t ls
each_scope_alike test s t h [] = refl
each_scope_alike test s t h (l ∷ ls) = and_both (test (s l)) (each_scope test s ls) (test (t l)) (each_scope test t ls) (h l) (each_scope_alike test s t h ls)

pub there_alike : {s t : ScopeOf Entry} → ScopesAlike s t → is_there s ≡ is_there t
there_alike (both_known h) = refl
there_alike one_scope = refl

pub known_alike : {s t : ScopeOf Entry} → ScopesAlike s t → is_known s ≡ is_known t
known_alike (both_known h) = refl
known_alike one_scope = refl

-- whether an entry is a label of this name that belongs to the record
abbrev pub is_wanted : (Written → ScopeOf Entry) → List Written → Option Name → Entry → Bool
is_wanted s ls n e = has_name n e.name && belongs_to label_entries s ls (record_of_label e.stands_for)

newest_label_alike : (s t : Written → ScopeOf Entry) → ((l : Written) → ScopesAlike (s l) (t l)) → (ls : List Written) (n : Option Name) {x y : ScopeOf Entry} → ScopesAlike x y →
    ComesAlike (newest_label label_entries s ls n x) (newest_label label_entries t ls n y)
newest_label_alike s t h ls n {x} {y} a = by a
  where
    wanted : (e f : Entry) → EntryAlike e f → is_wanted s ls n e ≡ is_wanted t ls n f
    wanted e f w = and_both (has_name n e.name) (belongs_to label_entries s ls (record_of_label e.stands_for)) (has_name n f.name) (belongs_to label_entries t ls (record_of_label f.stands_for)) (ap (has_name n) w.name)
        (belongs_alike s t h ls (record_of_label e.stands_for) ∙ ap (belongs_to label_entries t ls) (record_type_alike w))

    by : {x y : ScopeOf Entry} → ScopesAlike x y → ComesAlike (newest_label label_entries s ls n x) (newest_label label_entries t ls n y)
    by (both_known g) = found_alike (newest_alike (is_wanted s ls n) (is_wanted t ls n) wanted g)
    by (one_scope {s = known E}) = found_alike (newest_alike (is_wanted s ls n) (is_wanted t ls n) wanted (as_one E))
    by (one_scope {s = unknown_scope}) = at_hole
    by (one_scope {s = no_scope}) = at_nothing

first_label_alike : {E F : Environment} (s t : Written → ScopeOf Entry) → NamesAlike E F → ((l : Written) → ScopesAlike (s l) (t l)) → (all ls : List Written) →
    ComesAlike (first_label label_entries E s all ls) (first_label label_entries F t all ls)
first_label_alike s t g h all [] = newest_label_alike s t h all None (both_known g)
first_label_alike s t g h all (l ∷ ls) = newest_label_alike s t h all (Some l.name) (h l)

-- labels find the same record type
pub record_alike : {E F : Environment} (ls : List Written) → NamesAlike E F → ComesAlike (record_of E ls) (record_of F ls)
record_alike {E} {F} ls g = by (each_scope is_there s ls) (each_scope is_there t ls) (each_scope is_known s ls) (each_scope is_known t ls)
    (each_scope_alike is_there s t (λ l. there_alike (h l)) ls) (each_scope_alike is_known s t (λ l. known_alike (h l)) ls)
  where
    s : Written → ScopeOf Entry
    s = scope_for E ls

    t : Written → ScopeOf Entry
    t = scope_for F ls

    h : (l : Written) → ScopesAlike (s l) (t l)
    h l = scopes_alike (path_for ls l) g

    by : (a b c d : Bool) → a ≡ b → c ≡ d →
        ComesAlike (if a then (if c then first_label label_entries E s ls ls else a_hole) else nothing) (if b then (if d then first_label label_entries F t ls ls else a_hole) else nothing)
    by true true true true i j = first_label_alike s t g h ls ls
    by true true false false i j = at_hole
    by false false c d i j = at_nothing
    by true true true false i j = absurd (no_yes (sym j))
    by true true false true i j = absurd (no_yes j)
    by true false c d i j = absurd (no_yes (sym i))
    by false true c d i j = absurd (no_yes i)

-- the first qualifier that leads to no module is the same in both
path_alike : {E F : Environment} (path : List Name) (n : Name) → NamesAlike E F → scope_behind E (path ++ n ∷ []) ≡ scope_behind F (path ++ n ∷ [])
path_alike [] n h = scope_alike n [] h
path_alike (m ∷ ms) n h = scope_alike m (ms ++ n ∷ []) h

lost_alike : {E F : Environment} (path : List Name) (qs : List Tok) → NamesAlike E F → lost_behind E path qs ≡ lost_behind F path qs
lost_alike path [] h = refl
lost_alike path (q ∷ qs) h = (λ i. if is_no_scope (path_alike path q.name h i) then Some q else lost_alike (path ++ q.name ∷ []) qs h i)

-- So the demand that a path is bound stands at one place, and complains in the same words.
pub at_bound : (c : Two) (n k : ℕ) (kind : Kind) (w : Word) (p : parts.Written) (t : Tok) {cs ds : List Condition} → Same cs ds → Same (ask_bound (left c) n k kind w p t ++ cs) (ask_bound (right c) n k kind w p t ++ ds)
at_bound c n k kind w p t h =
    let lost : lost_behind (left c).env [] p.qualifiers ≡ lost_behind (right c).env [] p.qualifiers = lost_alike [] p.qualifiers c.names in
    at_place (ap (λ l. refused_as (place_unbound l t) (demands.test (complaint_unbound l w t) false)) lost) h
