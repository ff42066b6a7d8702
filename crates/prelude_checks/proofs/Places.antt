-- The code's names that stand for those of a text stand for the same names of the prelude, once they are made names of the prelude.
use Rattle.std.proofs.Common.{◌≡◌, ◌∙◌, ℕ, ◌||◌, false, List, [], ◌∷◌, ◌++◌, map, Option, Some, option_map, refl, sym, ap, subst}
use Rattle.std.specs.declared.rc.Rc.{Rc}
use Rattle.std.specs.declared.alloc.Global.{Global}
use Rattle.std.proofs.lemmas.List.{map-append}
use Rattle.std.proofs.lemmas.Option.{slice_get-map}
use Rattle.type_model.specs.Types.{Typ}
use Rattle.type_model.specs.Schemes.{Scheme}
use Rattle.signature_model.specs.Declarations as rules
use Rattle.signature_model.specs.Signatures as sig
use Rattle.signature_model.specs.Signatures.{Signature, Components, Template, Meaning}
use Rattle.signature_model.specs.Entries.{Environment, Referent, a_value, a_constructor, an_exception, a_label, a_type, a_module, a_module_type, kind_of, entry, entries_of, entries_of_shape, entries_in, free_in, free_in_referent, free_in_signature, free_in_components, free_in_meaning}
use Rattle.signature_model.specs.Entries.{Entry as Named}
use Rattle.typing_laws.proofs.Bools.{no_yes}
use Rattle.typing_model.specs.Contexts.{Choice}
use Rattle.typing_model.specs.First.{place_there, constructor_there, label_there, shape_there, declaration_there, signature_there, components_there, meaning_there, referent_there, entry_there}
use Rattle.type_nodes.specs.Nodes.{Node}
use Rattle.type_nodes.specs.Readings.{Types}
use Rattle.env_table.specs.declared.entries.Constructor.{Constructor}
use Rattle.env_table.specs.declared.entries.Components.{out-Components}
use Rattle.env_table.specs.declared.entries.Components as shown
use Rattle.env_table.specs.declared.entries.Declaration.{Declaration}
use Rattle.env_table.specs.declared.entries.Entry.{Entry}
use Rattle.env_table.specs.declared.entries.Shape.{Shape}
use Rattle.env_table.specs.declared.entries.Place.{Place}
use Rattle.env_table.specs.declared.entries.Place.TheVariants as place
use Rattle.env_table.specs.declared.entries.Sig.{Sig, out-Sig}
use Rattle.env_table.specs.declared.entries.Sig.TheOpen.{Sig-F, What-F}
use Rattle.env_table.specs.declared.entries.Sig.TheVariants as codesig
use Rattle.env_table.specs.declared.entries.Template.{Template as CodeTemplate}
use Rattle.env_table.specs.declared.entries.What.{What, out-What}
use Rattle.env_table.specs.declared.entries.What.TheVariants as what
use Rattle.env_table.specs.Views.{kind_of as code_kind}
use Rattle.prelude_places.specs.There as there
use Rattle.typing_conditions.specs.Assumptions.{SchemeFits, SchemeReads}
use Rattle.typing_conditions.specs.Declared.{ConstructorAs, LabelAs, OneByOne, no_more, one_more, ShapeAs, tell_nothing, tell_constructors, tell_labels, DeclaredAs, ExceptionAs}
use Rattle.typing_conditions.specs.Environments.{defined_at, constructor_at, label_at, WhatAs, of_value, of_constructor, of_exception, of_label, of_type, of_module, of_module_type, EntryAs, entry_as, EnvAs, no_names, newest, SigAs, of_hole, of_structure, of_functor, TemplateAs, of_template}
use Rattle.typing_conditions.specs.Sights.{Sight, Letters, AreGiven}
use Rattle.typing_conditions.specs.Standing.{IsIn, Stands}
use Rattle.typing_steps.specs.Typing.{as_declared}
use Rattle.binding_rows.specs.Outside.{AgreesOutside, Outside}
use Rattle.first_laws.specs.Declaring.{StartsAmong}

-- constructors and labels one by one
constructors_there : {nodes : List Node} {C : List ℕ} {N : Types} {arity : ℕ} {owner : Typ} {cs : List Constructor} {ks : List rules.Constructor} → OneByOne (ConstructorAs nodes C N arity owner) cs ks → OneByOne (ConstructorAs nodes C N arity owner) cs (map constructor_there ks)
constructors_there no_more = no_more
constructors_there (one_more h hs) = one_more (record { name = h.name; makes = h.makes }) (constructors_there hs)

labels_there : {nodes : List Node} {C : List ℕ} {N : Types} {arity : ℕ} {owner : Typ} {ls : List _} {ks : List rules.Label} → OneByOne (LabelAs nodes C N arity owner) ls ks → OneByOne (LabelAs nodes C N arity owner) ls (map label_there ks)
labels_there no_more = no_more
labels_there (one_more h hs) = one_more (record { name = h.name; mutable = h.mutable; root = h.root }) (labels_there hs)

shape_is_there : {nodes : List Node} {C : List ℕ} {N : Types} {arity : ℕ} {owner : Typ} {s : Shape} {e : rules.Shape} → ShapeAs nodes C N arity owner s e → ShapeAs nodes C N arity owner s (shape_there e)
shape_is_there (tell_nothing e) = tell_nothing e
shape_is_there (tell_constructors e h) = tell_constructors e (constructors_there h)
shape_is_there (tell_labels e h) = tell_labels e (labels_there h)

declaration_is_there : {nodes : List Node} {C : List ℕ} {N : Types} (d : Declaration) (e : rules.Declaration) → DeclaredAs nodes C N d e → DeclaredAs nodes C N d (declaration_there e)
declaration_is_there d e h = record { arity = h.arity; origin = h.origin; defines = h.defines; root = h.root; shape = shape_is_there h.shape }

-- the constructor and the label at a place
constructor_is_there : (s : rules.Shape) (n : ℕ) (k : rules.Constructor) → constructor_at s n ≡ Some k → constructor_at (shape_there s) n ≡ Some (constructor_there k)
constructor_is_there rules.Opaque n k e = absurd (cc)
constructor_is_there (rules.Variant ks) n k e = slice_get-map constructor_there ks n ∙ ap (option_map constructor_there) e
constructor_is_there (rules.Labels ls) n k e = absurd (cc)

label_is_there : (s : rules.Shape) (n : ℕ) (k : rules.Label) → label_at s n ≡ Some k → label_at (shape_there s) n ≡ Some (label_there k)
label_is_there rules.Opaque n k e = absurd (cc)
label_is_there (rules.Variant ks) n k e = absurd (cc)
label_is_there (rules.Labels ls) n k e = slice_get-map label_there ls n ∙ ap (option_map label_there) e

kind_there : (r : Referent) → kind_of (referent_there r) ≡ kind_of r
kind_there (a_value s) = refl
kind_there (a_constructor d k) = refl
kind_there (an_exception o) = refl
kind_there (a_label d l) = refl
kind_there (a_type d) = refl
kind_there (a_module s) = refl
kind_there (a_module_type t) = refl

-- the entries of components
constructor_entries : (d : rules.Declaration) (ks : List rules.Constructor) → map entry_there (map (λ k. entry k.name k.place (a_constructor d k)) ks) ≡ map (λ k. entry k.name k.place (a_constructor (declaration_there d) k)) (map constructor_there ks)
constructor_entries d [] = refl
constructor_entries d (k ∷ ks) = ap (λ es. entry k.name (place_there k.place) (a_constructor (declaration_there d) (constructor_there k)) ∷ es) (constructor_entries d ks)

label_entries : (d : rules.Declaration) (ls : List rules.Label) → map entry_there (map (λ l. entry l.name l.place (a_label d l)) ls) ≡ map (λ l. entry l.name l.place (a_label (declaration_there d) l)) (map label_there ls)
label_entries d [] = refl
label_entries d (l ∷ ls) = ap (λ es. entry l.name (place_there l.place) (a_label (declaration_there d) (label_there l)) ∷ es) (label_entries d ls)

shape_entries : (d : rules.Declaration) (s : rules.Shape) → map entry_there (entries_of_shape d s) ≡ entries_of_shape (declaration_there d) (shape_there s)
shape_entries d rules.Opaque = refl
shape_entries d (rules.Variant ks) = constructor_entries d ks
shape_entries d (rules.Labels ls) = label_entries d ls

meaning_entries : (n : rules.Name) (at : rules.Place) (m : Meaning) → map entry_there (entries_of n at m) ≡ entries_of n (place_there at) (meaning_there m)
meaning_entries n at (sig.Value s) = refl
meaning_entries n at (sig.TypeName d) = ap (λ es. entry n (place_there at) (a_type (declaration_there d)) ∷ es) (shape_entries d d.shape)
meaning_entries n at (sig.Exception o) = refl
meaning_entries n at (sig.Module s) = refl
meaning_entries n at (sig.ModuleType made s) = refl

component_entries : (cs : Components) → map entry_there (entries_in cs) ≡ entries_in (components_there cs)
component_entries sig.Done = refl
component_entries (sig.Component n at m cs) =
    map-append entry_there (entries_of n at m) (entries_in cs)
    ∙ ap (λ es. es ++ map entry_there (entries_in cs)) (meaning_entries n at m)
    ∙ ap (λ es. entries_of n (place_there at) (meaning_there m) ++ es) (component_entries cs)

-- what a name stands for that is found in the prelude later on, by what it stood for
abbrev After : {C E : Type 0} → What-F Sig What C E CodeTemplate → What → Type 0
After (What-F.Scheme n) v = v ≡ what.Scheme n
After (What-F.Constructor d k) v = (e : Rc Declaration Global) × (v ≡ what.Constructor e k) × (e.value ≡ d.value)
After (What-F.Exception c) v = (d : Rc Constructor Global) × (v ≡ what.Exception d) × (d.value ≡ c.value)
After (What-F.Label d k) v = (e : Rc Declaration Global) × (v ≡ what.Label e k) × (e.value ≡ d.value)
After (What-F.Type d) v = (e : Rc Declaration Global) × (v ≡ what.Type e) × (e.value ≡ d.value)
After (What-F.Module s) v = (t : Rc Sig Global) × (v ≡ what.Module t) × there.SigThere s.value t.value
After (What-F.ModuleType s) v = (t : Rc CodeTemplate Global) × (v ≡ what.ModuleType t) × there.TemplateThere s.value t.value

after : {w v : What} → there.WhatThere w v → After (out-What w) v
after {v = v} (there.same_value n e f) = subst (λ o. After o v) (sym (ap out-What e ∙ what.outs-Scheme n)) f
after {v = v} (there.same_constructor d d' k e f same) = subst (λ o. After o v) (sym (ap out-What e ∙ what.outs-Constructor d k)) (d', f, same)
after {v = v} (there.same_exception c c' e f same) = subst (λ o. After o v) (sym (ap out-What e ∙ what.outs-Exception c)) (c', f, same)
after {v = v} (there.same_label d d' k e f same) = subst (λ o. After o v) (sym (ap out-What e ∙ what.outs-Label d k)) (d', f, same)
after {v = v} (there.same_type d d' e f same) = subst (λ o. After o v) (sym (ap out-What e ∙ what.outs-Type d)) (d', f, same)
after {v = v} (there.module_there s t e f sig) = subst (λ o. After o v) (sym (ap out-What e ∙ what.outs-Module s)) (t, f, sig)
after {v = v} (there.module_type_there s t e f template) = subst (λ o. After o v) (sym (ap out-What e ∙ what.outs-ModuleType s)) (t, f, template)

-- and a signature
abbrev AfterSig : Sig-F Sig What shown.Components Entry CodeTemplate → Sig → Type 0
AfterSig Sig-F.Hole t = t ≡ codesig.Hole
AfterSig (Sig-F.Structure c) t = (d : shown.Components) × (t ≡ codesig.Structure d) × there.AreThere (map (λ r. r.value) (out-Components c).entries.items) (map (λ r. r.value) (out-Components d).entries.items)
AfterSig (Sig-F.Functor p b) t = (q d : Rc CodeTemplate Global) × (t ≡ codesig.Functor q d) × there.TemplateThere p.value q.value × there.TemplateThere b.value d.value

after_sig : {s t : Sig} → there.SigThere s t → AfterSig (out-Sig s) t
after_sig {t = t} (there.hole_there e f) = subst (λ o. AfterSig o t) (sym (ap out-Sig e ∙ codesig.outs-Hole)) f
after_sig {t = t} (there.structure_there c d e f all) = subst (λ o. AfterSig o t) (sym (ap out-Sig e ∙ codesig.outs-Structure c)) (d, f, all)
after_sig {t = t} (there.functor_there p b q d e f first second) = subst (λ o. AfterSig o t) (sym (ap out-Sig e ∙ codesig.outs-Functor p b)) (q, d, f, first, second)

-- a place, and the same in the prelude
placed_there : (p : Place) → defined_at (there.place_there p) ≡ place_there (defined_at p)
placed_there (place.Buffer s) = refl
placed_there (place.Prelude s) = refl
placed_there (place.BuiltIn k) = refl

-- names of the code, and the same of the prelude
module _ (R : ℕ → Scheme → Type 0) (D : Declaration → rules.Declaration → Type 0) (X : Constructor → Option Typ → Type 0) (on_declaration : (d : Declaration) (e : rules.Declaration) → D d e → D d (declaration_there e)) where
  mutual
    what_is_there : {w v : What} {f : Referent} → there.WhatThere w v → WhatAs R D X w f → WhatAs R D X v (referent_there f)
    what_is_there {v = v} t (of_value {n = n} e h) = of_value (subst (λ o. After o v) (ap out-What e ∙ what.outs-Scheme n) (after t)) h
    what_is_there {v = v} t (of_constructor {d = d} {place = place} {e = x} {k = k} e h at) =
        let (d', is, same) = subst (λ o. After o v) (ap out-What e ∙ what.outs-Constructor d place) (after t) in
        of_constructor is (subst (λ y. D y (declaration_there x)) (sym same) (on_declaration d.value x h)) (constructor_is_there x.shape place k at)
    what_is_there {v = v} t (of_exception {c = c} {o = o} e h) =
        let (c', is, same) = subst (λ o. After o v) (ap out-What e ∙ what.outs-Exception c) (after t) in
        of_exception is (subst (λ y. X y o) (sym same) h)
    what_is_there {v = v} t (of_label {d = d} {place = place} {e = x} {l = l} e h at) =
        let (d', is, same) = subst (λ o. After o v) (ap out-What e ∙ what.outs-Label d place) (after t) in
        of_label is (subst (λ y. D y (declaration_there x)) (sym same) (on_declaration d.value x h)) (label_is_there x.shape place l at)
    what_is_there {v = v} t (of_type {d = d} {e = x} e h) =
        let (d', is, same) = subst (λ o. After o v) (ap out-What e ∙ what.outs-Type d) (after t) in
        of_type is (subst (λ y. D y (declaration_there x)) (sym same) (on_declaration d.value x h))
    what_is_there {v = v} t (of_module {s = s} e h) =
        let (s', is, sig) = subst (λ o. After o v) (ap out-What e ∙ what.outs-Module s) (after t) in
        of_module is (sig_is_there sig h)
    what_is_there {v = v} t (of_module_type {t = u} e h) =
        let (u', is, template) = subst (λ o. After o v) (ap out-What e ∙ what.outs-ModuleType u) (after t) in
        of_module_type is (template_is_there template h)

    entry_is_there : {e e' : Entry} {f : Named} → there.EntryThere e e' → EntryAs R D X e f → EntryAs R D X e' (entry_there f)
    entry_is_there (there.entry_there {e = e} n' k' p' t) (entry_as {f = f} n k p w) = entry_as (n ∙ sym n') (kind_there f.stands_for ∙ k ∙ ap code_kind (sym k')) (ap defined_at p' ∙ placed_there e.place ∙ ap place_there p) (what_is_there t w)

    pub env_is_there : {es es' : List Entry} {fs : Environment} → there.AreThere es es' → EnvAs R D X es fs → EnvAs R D X es' (map entry_there fs)
    env_is_there there.none_there no_names = no_names
    env_is_there (there.one_there x xs) (newest h hs) = newest (entry_is_there x h) (env_is_there xs hs)

    sig_is_there : {s s' : Sig} {T : Signature} → there.SigThere s s' → SigAs R D X s T → SigAs R D X s' (signature_there T)
    sig_is_there {s' = s'} t (of_hole e) = of_hole (subst (λ o. AfterSig o s') (ap out-Sig e ∙ codesig.outs-Hole) (after_sig t))
    sig_is_there {s' = s'} t (of_structure {c = c} {cs = cs} e h) =
        let (d, is, all) = subst (λ o. AfterSig o s') (ap out-Sig e ∙ codesig.outs-Structure c) (after_sig t) in
        of_structure is (subst (λ fs. EnvAs R D X (map (λ r. r.value) (out-Components d).entries.items) fs) (component_entries cs) (env_is_there all h))
    sig_is_there {s' = s'} t (of_functor {p = p} {b = b} e h k) =
        let (q, d, is, first, second) = subst (λ o. AfterSig o s') (ap out-Sig e ∙ codesig.outs-Functor p b) (after_sig t) in
        of_functor is (template_is_there first h) (template_is_there second k)

    template_is_there : {t t' : CodeTemplate} {u : Template} → there.TemplateThere t t' → TemplateAs R D X t u → TemplateAs R D X t' (record u { signature = signature_there u.signature })
    template_is_there (there.template_there made s) (of_template m h) = of_template (made ∙ m) (sig_is_there s h)

-- what is free in names
mutual
  free_signature : (v : ℕ) (s : Signature) → free_in_signature v (signature_there s) ≡ free_in_signature v s
  free_signature v sig.Hole = refl
  free_signature v (sig.Structure cs) = free_components v cs
  free_signature v (sig.Functor pm p bm b) = (λ i. free_signature v p i || free_signature v b i)

  free_components : (v : ℕ) (cs : Components) → free_in_components v (components_there cs) ≡ free_in_components v cs
  free_components v sig.Done = refl
  free_components v (sig.Component n at m cs) = (λ i. free_meaning v m i || free_components v cs i)

  free_meaning : (v : ℕ) (m : Meaning) → free_in_meaning v (meaning_there m) ≡ free_in_meaning v m
  free_meaning v (sig.Value s) = refl
  free_meaning v (sig.TypeName d) = refl
  free_meaning v (sig.Exception o) = refl
  free_meaning v (sig.Module s) = free_signature v s
  free_meaning v (sig.ModuleType made s) = refl

free_referent : (v : ℕ) (r : Referent) → free_in_referent v (referent_there r) ≡ free_in_referent v r
free_referent v (a_value s) = refl
free_referent v (a_constructor d k) = refl
free_referent v (an_exception o) = refl
free_referent v (a_label d l) = refl
free_referent v (a_type d) = refl
free_referent v (a_module s) = free_signature v s
free_referent v (a_module_type t) = refl

free_there : (v : ℕ) (E : Environment) → free_in v (map entry_there E) ≡ free_in v E
free_there v [] = refl
free_there v (e ∷ E) = (λ i. free_referent v e.stands_for i || free_there v E i)

stands_there : {R : List Node → Types → ℕ → Scheme → Type 0} {nodes : List Node} {J N : Types} {C : List ℕ} {V : Types} {env names : List Entry} {E : Environment} → there.AreThere env names → Stands R (DeclaredAs nodes C N) (ExceptionAs nodes C N) nodes J C V env E → Stands R (DeclaredAs nodes C N) (ExceptionAs nodes C N) nodes J C V names (map entry_there E)
stands_there {R} {nodes} {N = N} {C = C} {V = V} {E = E} all s = record {
  names = env_is_there (λ r sc. R nodes V r sc × IsIn C r) (DeclaredAs nodes C N) (ExceptionAs nodes C N) declaration_is_there all s.names;
  brings = λ u w free stands occurs. free_there w E ∙ s.brings u w free stands occurs;
}

-- The next item starts among the same names of the prelude, and with other letters if those of before are given then.
pub starts_there : {b : Sight} {G H : Letters} {env names : List Entry} {E E' : Choice → Environment} → there.AreThere env names → ((V : Types) (ch : Choice) → AreGiven H V ch → AreGiven G V ch) → ((ch : Choice) → map entry_there (E ch) ≡ E' ch) → (at : Outside as_declared b G env E) → StartsAmong b H names E' at.older
starts_there {b} {G} {H} {env} {names} {E} {E'} all given same at = record {
  outside = record {
    sound = at.sound;
    level = at.level;
    roots = at.roots;
    names = at.names;
    apart = at.apart;
    older = at.older;
    unknown = at.unknown;
    steady = at.steady;
    context = at.context;
    covered = let (F, h) = at.covered in (map entry_there F, env_is_there (λ r sc. IsIn at.roots r) (DeclaredAs b.nodes at.roots at.names) (ExceptionAs b.nodes at.roots at.names) declaration_is_there all h);
    known = false;
    knows = λ known. absurd (no_yes known);
    reads = λ J V ch own reads agrees. subst (λ F. Stands SchemeReads (DeclaredAs b.nodes at.roots at.names) (ExceptionAs b.nodes at.roots at.names) b.nodes J at.roots V names F) (same ch) (stands_there all (at.reads J V ch own reads (before agrees)));
    fits = λ J V ch own loose agrees. subst (λ F. Stands SchemeFits (DeclaredAs b.nodes at.roots at.names) (ExceptionAs b.nodes at.roots at.names) b.nodes J at.roots V names F) (same ch) (stands_there all (at.fits J V ch own loose (before agrees)));
  };
  older = refl;
}
  where
    before : {V : Types} {ch : Choice} → AgreesOutside b H V ch → AgreesOutside b G V ch
    before {V} {ch} agrees = record { recorded = agrees.recorded; known = agrees.known; given = given V ch agrees.given }
