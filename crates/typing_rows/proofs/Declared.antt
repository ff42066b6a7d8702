-- The declaration of a type over arguments: what the definitions have for it.
use Rattle.std.proofs.Common.{◌≡◌, ◌∙◌, ℕ, zero, suc, ◌+◌, ◌<◌, Bool, false, List, [], ◌∷◌, length, map, Some, refl, sym, ap, subst, arith, if◌then◌else◌}
use Rattle.std.specs.Prelude.{All, slice_get}
use Rattle.std.specs.declared.rc.Rc.{Rc}
use Rattle.std.specs.declared.alloc.Global.{Global}
use Rattle.text_terms.specs.Bytes.{str_bytes}
use Rattle.type_terms.specs.declared.types.Origin.{Origin}
use Rattle.type_model.specs.Types.{Path, Typ, Typs, types_of}
use Rattle.type_model.specs.Types.{Typ as type, Typs as types}
use Rattle.type_model.specs.Schemes.{Scheme}
use Rattle.type_model.specs.Substitutions.{Subst}
use Rattle.signature_model.specs.Declarations as rules
use Rattle.signature_model.specs.Declarations.{Name, type_of, defined_type, parameters_from}
use Rattle.signature_model.specs.Changes.{argument}
use Rattle.signature_model.specs.Matching.{used, all_used, is_unknown}
use Rattle.signature_model.specs.Entries.{Environment, type_kind}
use Rattle.signature_model.specs.Entries.{Entry as Named, Referent, kind_of as kind_named}
use Rattle.signature_model.specs.Lookups.{FoundAmong, an_entry, lookup, lookup_by}
use Rattle.typing_model.specs.Contexts.{Choice}
use Rattle.typing_model.specs.Names.{referent_of, then_by, declaration_in}
use Rattle.type_nodes.specs.Nodes.{Node, Con, IsNode, IsSound}
use Rattle.type_nodes.specs.Changes.{Makes}
use Rattle.type_nodes.specs.Readings.{Types}
use Rattle.level_unify.specs.Instances.{Instantiated}
use Rattle.env_table.specs.declared.entries.Declaration.{Declaration}
use Rattle.env_table.specs.declared.entries.Entry.{Entry}
use Rattle.env_table.specs.declared.entries.What.{What}
use Rattle.env_table.specs.declared.entries.What as whats
use Rattle.env_table.specs.declared.entries.What.TheVariants as what
use Rattle.env_table.specs.Views.{is_named, inside, kind_of}
use Rattle.typing_state.specs.declared.parts.Parts.{Parts}
use Rattle.typing_state.specs.Goes.{OnlyStore}
use Rattle.typing_state.specs.Types.{level_for}
use Rattle.typing_conditions.specs.Locals.{IsOwn}
use Rattle.typing_conditions.specs.Environments.{WhatAs, of_value, of_constructor, of_exception, of_label, of_type, of_module, of_module_type, EntryAs, entry_as, EnvAs}
use Rattle.typing_conditions.proofs.Environments.{ComesTo, to_entry, to_hole, to_nothing, lookup_alike}
use Rattle.typing_conditions.specs.Declared.{NoneUnknown, IsNamed, a_parameter, an_unknown, RootAs, and_last, with_parameters, OriginAs, DeclaredAs, ExceptionAs}
use Rattle.typing_conditions.specs.Sights.{Key, own, value_of, Letters, IsKnownFor}
use Rattle.typing_conditions.specs.Hiding.{AreOfRow}
use Rattle.typing_conditions.proofs.Hiding.{no_row}
use Rattle.typing_conditions.specs.Frames.{Frame, Reaches, IsRoot}
use Rattle.typing_conditions.specs.Meanings.{AllMean}
use Rattle.typing_conditions.specs.Carrying.{Scope}
use Rattle.typing_conditions.proofs.Answering.{to_as}
use Rattle.typing_steps.specs.States.{sight}
use Rattle.typing_steps.proofs.Seeing.{only_nodes, level_here}
use Rattle.typing_steps.proofs.Making.{con_over}
use Rattle.typing_rows.specs.TypeContracts.{types_at}
use Rattle.typing_rows.specs.Declaring.{declared_in, applied_by, AppliedAs, AppliesTo}
use Rattle.typing_rows.proofs.TypeOrdered.{types_by_nodes}
use Rattle.typing_steps.proofs.Used.{key_by, root_used}

-- the last of types with one more
last_same : (us : Typs) (t u : Typ) → and_last us t ≡ and_last us u → t ≡ u
last_same types.Nil t u e = cc
last_same (types.Cons v vs) t u e = let f : and_last vs t ≡ and_last vs u = cc in last_same vs t u f

-- what stands behind the same parameters
body_same : (k : ℕ) (t u : Typ) → with_parameters k t ≡ with_parameters k u → t ≡ u
body_same zero t u e = e
body_same (suc k) t u e = let f : and_last (parameters_from 0 (suc k)) t ≡ and_last (parameters_from 0 (suc k)) u = cc in last_same (parameters_from 0 (suc k)) t u f

-- a declaration of the code stands for one arity and one type alone
pub same_declared : {nodes : List Node} {I : Types} {C : List ℕ} {N : Types} {d : Declaration} {e f : rules.Declaration} → IsOwn nodes I → DeclaredAs nodes C N d e → DeclaredAs nodes C N d f → (e.arity ≡ f.arity) × (type_of e ≡ type_of f)
same_declared {I = I} {e = e} {f = f} owned p q =
    let arity : e.arity ≡ f.arity = p.arity ∙ sym q.arity in
    (arity, body_same e.arity (type_of e) (type_of f) (p.root.is I owned ∙ sym (q.root.is I owned) ∙ ap (λ k. with_parameters k (type_of f)) (sym arity)))

pub of_declared : (d : Rc Declaration Global) → declared_in (what.Type d) ≡ Some d.value
unfolding whats.out-What denote.Hole.Carrier.out
of_declared d = refl

module _ (R : ℕ → Scheme → Type 0) (nodes : List Node) (C : List ℕ) (N : Types) where
  -- what the definitions have for an entry that is a type
  pub record HasDeclaration (w : What) (f : Referent) : Type 0 where
    pub declaration : Declaration
    pub here : declared_in w ≡ Some declaration
    pub named : rules.Declaration
    pub is : declaration_in f ≡ Some named
    pub alike : DeclaredAs nodes C N declaration named

  what_declaration : {w : What} {f : Referent} → WhatAs R (DeclaredAs nodes C N) (ExceptionAs nodes C N) w f → kind_named f ≡ type_kind → HasDeclaration w f
  what_declaration (of_value e h) k = absurd (cc)
  what_declaration (of_constructor e h c) k = absurd (cc)
  what_declaration (of_exception e h) k = absurd (cc)
  what_declaration (of_label e h l) k = absurd (cc)
  what_declaration (of_type {d = d} {e = e} is h) k = record { declaration = d.value; here = ap declared_in is ∙ of_declared d; named = e; is = refl; alike = h }
  what_declaration (of_module e h) k = absurd (cc)
  what_declaration (of_module_type e h) k = absurd (cc)

  -- and what a path finds
  pub record FindsDeclaration (e : Entry) (found : FoundAmong Named) : Type 0 where
    pub declaration : Declaration
    pub here : declared_in e.what ≡ Some declaration
    pub named : rules.Declaration
    pub is : then_by (referent_of found) declaration_in ≡ Some named
    pub alike : DeclaredAs nodes C N declaration named

  entry_declaration : {e : Entry} {f : Named} → EntryAs R (DeclaredAs nodes C N) (ExceptionAs nodes C N) e f → kind_of e.kind ≡ type_kind → FindsDeclaration e (an_entry f)
  entry_declaration (entry_as n k p w) is = let h = what_declaration w (k ∙ is) in record { declaration = h.declaration; here = h.here; named = h.named; is = h.is; alike = h.alike }

  found_declaration : {x : FoundAmong Entry} {y : FoundAmong Named} (e : Entry) → x ≡ an_entry e → kind_of e.kind ≡ type_kind → ComesTo R (DeclaredAs nodes C N) (ExceptionAs nodes C N) x y → FindsDeclaration e y
  found_declaration e f is (to_entry {e = d} {f = g} h) = let s : d ≡ e = cc in subst (λ z. FindsDeclaration z (an_entry g)) s (entry_declaration h (ap (λ (z : Entry). kind_of z.kind) s ∙ is))
  found_declaration e f is to_hole = absurd (cc)
  found_declaration e f is to_nothing = absurd (cc)

  -- so the definitions find the declaration that the code's stands for
  pub finds_declaration : (ms : List Name) (x : Name) (e : Entry) {es : List Entry} {fs : Environment} → lookup_by is_named inside es ms type_kind x ≡ an_entry e → kind_of e.kind ≡ type_kind →
      EnvAs R (DeclaredAs nodes C N) (ExceptionAs nodes C N) es fs → FindsDeclaration e (lookup fs ms type_kind x)
  finds_declaration ms x e f is h = found_declaration e f is (lookup_alike R (DeclaredAs nodes C N) (ExceptionAs nodes C N) ms type_kind x h)

-- the node at a place, or the first of all
abbrev pub node_at : List ℕ → ℕ → ℕ
node_at [] k = 0
node_at (n ∷ ns) zero = n
node_at (n ∷ ns) (suc k) = node_at ns k

-- the argument at a place is the type of the node there
pub argument_at : (f : ℕ → Typ) (ns : List ℕ) (k : ℕ) → k < length ns → argument (types_of (map f ns)) k ≡ f (node_at ns k)
argument_at f [] k lt = absurd (omega arith)
argument_at f (n ∷ ns) zero lt = refl
argument_at f (n ∷ ns) (suc k) lt = argument_at f ns k (omega arith)

-- parameters that are used are the arguments
pub parameters_used : (s : Subst) (f : Path → Typ) (g : ℕ → Typ) (ns : List ℕ) (j : ℕ) → ((i : ℕ) → i < length ns → s (j + i) ≡ g (node_at ns i)) → all_used s f (parameters_from j (length ns)) ≡ types_of (map g ns)
parameters_used s f g [] j h = refl
parameters_used s f g (n ∷ ns) j h =
    let first : s j ≡ g n = ap s (let e : j ≡ j + 0 = omega arith in e) ∙ h 0 (omega arith) in
    let rest = parameters_used s f g ns (j + 1) (λ i lt. ap s (let e : (j + 1) + i ≡ j + suc i = omega arith in e) ∙ h (suc i) (omega arith)) in
    (λ k. types.Cons (first k) (rest k))

-- a type of its own over arguments is a constructor over them
own_used : (n : ℕ) (ns : List ℕ) (o : Path) (ch : Choice) → is_unknown o ≡ false → type.Con o (types_of (map ch.type_at ns)) ≡ applied_by n ns (defined_type (length ns) (rules.Own o)) ch
own_used n ns o ch plain =
    ap (type.Con o) (sym (parameters_used (argument (types_of (map ch.type_at ns))) (ch.filled n) ch.type_at ns 0 (λ i lt. ap (argument (types_of (map ch.type_at ns))) (let e : 0 + i ≡ i = omega arith in e) ∙ argument_at ch.type_at ns i lt))) ∙
    sym (ap (λ (b : Bool). if b then ch.filled n o else type.Con o (all_used (argument (types_of (map ch.type_at ns))) (ch.filled n) (parameters_from 0 (length ns)))) plain)

-- A declaration that makes an origin: the constructor over the arguments.
pub origin_applied : (a b : Parts) (d : Declaration) (p : Origin) (ms : List ℕ) (m : ℕ) → d.origin ≡ Some p → is_unknown p.path.items ≡ false → (All (IsNode a.store.nodes) ms → Makes a.store b.store m (Con p.path.items (str_bytes p.name) ms)) → OnlyStore a b → AppliesTo a b d ms m
origin_applied a b d p ms m makes plain made rest = λ F scope G n ns roots names e reached alike are_roots many all.
    let x = con_over a b {scope = scope} p.path.items (str_bytes p.name) reached all made rest in
    record { letters = []; of_row = λ plain. no_row n; typed = to_as (λ c. refl) (λ ch. ap (λ ts. type.Con p.path.items (types_of ts)) (types_by_nodes ch ns) ∙ own_used n ns p.path.items ch plain ∙ ap (λ t. applied_by n ns t ch) (same ns e many (subst (λ o. OriginAs o e.definition) makes alike.origin))) x }
  where
    same : (ns : List ℕ) (e : rules.Declaration) → length ns ≡ e.arity → OriginAs (Some p) e.definition → defined_type (length ns) (rules.Own p.path.items) ≡ type_of e
    same ns e many h = ap (λ k. defined_type k (rules.Own p.path.items)) many ∙ by e.definition h
      where
        by : (x : rules.Definition) → OriginAs (Some p) x → defined_type e.arity (rules.Own p.path.items) ≡ defined_type e.arity x
        by (rules.Own o) f = ap (λ q. defined_type e.arity (rules.Own q)) f
        by (rules.Is t) f = absurd f

-- An abbreviation without arguments: an instance of its root.
pub alone_applied : (a b : Parts) (d : Declaration) (m : ℕ) → (IsNode a.store.nodes d.root.0 → Instantiated a.store.nodes b.store.nodes d.root.0 (level_for a.level) m) → (IsNode a.store.nodes d.root.0 → IsSound b.store.nodes) → OnlyStore a b → AppliesTo a b d [] m
alone_applied a b d m taken sound rest = λ F scope G n ns roots names e reached alike are_roots many all. by ns many all alike are_roots reached
  where
    by : {F : Frame} {scope : Scope} {G : Letters} {n : ℕ} {roots : List ℕ} {names : Types} {e : rules.Declaration} (ns : List ℕ) → length ns ≡ e.arity → AllMean F (sight a) G (types_at ns) [] → DeclaredAs a.store.nodes roots names d e →
        ((k r : ℕ) → slice_get roots k ≡ Some r → IsRoot F (sight a) r) → Reaches F (sight a) → AppliedAs names F scope (sight a) G (sight b) n ns (type_of e) m
    by {F = F} {G = G} (k ∷ ns) many all alike are_roots reached = elim all [ ]
    by {F} {scope} {G} {n} {roots} {names} {e} [] many all alike are_roots reached =
        let (i, at) = alike.root.among in
        let root = are_roots i d.root.0 at in
        let as_root = subst (λ k. RootAs a.store.nodes roots names e.arity d.root.0 (with_parameters k (type_of e))) (sym many) alike.root in
        let x = root_used {scope = scope} (λ v. key_by (λ k. own 0) n (names v)) (λ v t. known_here n (names v) t) (λ ch. argument types.Nil) (λ ch. ch.filled n)
        (λ ch J o v h. named_here n ch (subst (λ k. IsNamed a.store.nodes names k v) (sym many) (alike.root.named J o v h))) reached root as_root (sound root.inside)
        (subst (λ l. Instantiated a.store.nodes b.store.nodes d.root.0 l m) (level_here a reached) (taken root.inside)) (only_nodes a b rest) in
        record { letters = x.letters; typed = x.typed; of_row = λ plain. none_there n x.letters (λ j z e. let (v, o, is) = x.each j z e in none_named plain (subst (λ k. IsNamed a.store.nodes names k v) (sym many) (alike.root.named x.types x.own_types v o))) }
      where
        none_named : {v : ℕ} → NoneUnknown names → IsNamed a.store.nodes names 0 v → ⊥
        none_named plain (a_parameter scope k at other lt is) = omega arith
        none_named {v} plain (an_unknown o at u is) = plain v o u is

        none_there : (n : ℕ) (xs : Letters) → ((j : ℕ) (z : Key × ℕ) → slice_get xs j ≡ Some z → ⊥) → AreOfRow n xs
        none_there n [] none = no_row n
        none_there n (x ∷ xs) none = absurd (none zero x refl)

        known_here : (n : ℕ) (name t : Typ) → IsKnownFor (key_by (λ k. own 0) n name) t
        known_here n (type.Var k) t = tt
        known_here n (type.Arrow x y) t = tt
        known_here n (type.Tuple ts) t = tt
        known_here n (type.Con o ts) t = tt

        named_here : {v : ℕ} (n : ℕ) (ch : Choice) → IsNamed a.store.nodes names 0 v → value_of ch (key_by (λ k. own 0) n (names v)) ≡ used (argument types.Nil) (ch.filled n) (names v)
        named_here n ch (a_parameter scope k at other lt is) = absurd (omega arith)
        named_here n ch (an_unknown o at u is) =
            ap (λ x. value_of ch (key_by (λ k. own 0) n x)) is ∙ sym (ap (used (argument types.Nil) (ch.filled n)) is ∙ ap (λ (b : Bool). if b then ch.filled n o else type.Con o types.Nil) u)
