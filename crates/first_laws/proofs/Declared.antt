-- After declarations the names of the code are those of the definitions.
use Rattle.std.proofs.Common.{◌≡◌, ◌⊎◌, ◌∙◌, ℕ, zero, suc, ◌<◌, ◌&&◌, true, List, [], ◌∷◌, ◌++◌, length, Option, Some, refl, sym, subst, inl, inr}
use Rattle.std.specs.Prelude.{slice_get}
use Rattle.type_model.specs.Types.{Typ, occurs}
use Rattle.type_model.specs.Schemes.{Scheme}
use Rattle.type_model.proofs.Applying.{or_left, or_right, or_cases}
use Rattle.signature_model.specs.Declarations as rules
use Rattle.signature_model.specs.Entries.{Environment, free_in, free_in_referent}
use Rattle.typing_model.specs.Contexts.{Choice}
use Rattle.type_nodes.specs.Nodes.{Node, bound_level}
use Rattle.type_nodes.specs.Readings.{Types}
use Rattle.env_table.specs.declared.entries.Constructor.{Constructor}
use Rattle.env_table.specs.declared.entries.Declaration.{Declaration}
use Rattle.env_table.specs.declared.entries.Entry.{Entry}
use Rattle.typing_conditions.specs.Locals.{IsOwn, stands_in_any, IsContext}
use Rattle.typing_conditions.specs.Assumptions.{SchemeFits, SchemeReads}
use Rattle.typing_conditions.specs.Environments.{EnvAs}
use Rattle.typing_conditions.specs.Standing.{IsIn, Covers, Stands}
use Rattle.typing_conditions.specs.Declared.{DeclaredAs, ExceptionAs}
use Rattle.typing_conditions.specs.Surroundings.{HasOwnLabels}
use Rattle.typing_laws.proofs.Bools.{and_cases}
use Rattle.typing_conditions.specs.Sights.{Sight, Letters}
use Rattle.typing_conditions.proofs.Own.{own_of}
use Rattle.typing_conditions.proofs.Steps.{same_node}
use Rattle.typing_conditions.proofs.Later.{context_after}
use Rattle.typing_conditions.proofs.Environments.{env_map, env_append}
use Rattle.typing_conditions.proofs.Standing.{more_in, stands_fits_on, stands_reads_on}
use Rattle.typing_conditions.proofs.DeclaredLater.{declared_after, exception_after}
use Rattle.typing_steps.specs.Typing.{as_declared}
use Rattle.binding_rows.specs.Outside.{AgreesOutside, Outside}
use Rattle.first_laws.specs.Declaring.{OnlyTypes, AreBoundIn, SpecifiedAs, Declares, Grows}
use Rattle.first_laws.proofs.Renamed.{declared_renamed, exception_renamed}
use Rattle.first_laws.proofs.Specified.{specified_fits, specified_reads}

-- what stands in two lists of nodes together stands in one of them
pub any_cases : (u : ℕ) (J : Types) (rs ss : List ℕ) → stands_in_any J (rs ++ ss) u ≡ true → (stands_in_any J rs u ≡ true) ⊎ (stands_in_any J ss u ≡ true)
any_cases u J [] ss h = inr h
any_cases u J (r ∷ rs) ss h = elim (or_cases (occurs u (J r)) (stands_in_any J (rs ++ ss) u) h) [
  | inl i ↦ inl (or_left (occurs u (J r)) (stands_in_any J rs u) i)
  | inr i ↦ elim (any_cases u J rs ss i) [ inl j ↦ inl (or_right (occurs u (J r)) (stands_in_any J rs u) j) | inr j ↦ inr j ]
]

-- a node of the second of two lists is in both together
pub in_second : (rs ss : List ℕ) (r : ℕ) → IsIn ss r → IsIn (rs ++ ss) r
in_second [] ss r i = i
in_second (x ∷ rs) ss r i = more_in (rs ++ ss) x r (in_second rs ss r i)

-- what holds of the nodes of two lists holds of those of both together
pub each_of_two : (rs ss : List ℕ) (P : ℕ → Type 0) → ((k r : ℕ) → slice_get rs k ≡ Some r → P r) → ((k r : ℕ) → slice_get ss k ≡ Some r → P r) → (k r : ℕ) → slice_get (rs ++ ss) k ≡ Some r → P r
each_of_two [] ss P p q k r e = q k r e
each_of_two (x ∷ rs) ss P p q zero r e = p zero r e
each_of_two (x ∷ rs) ss P p q (suc k) r e = each_of_two rs ss P (λ j m f. p (suc j) m f) q k r e

-- what is free in an environment is free in it after other entries
free_behind : (w : ℕ) (xs ys : Environment) → free_in w ys ≡ true → free_in w (xs ++ ys) ≡ true
free_behind w [] ys h = h
free_behind w (x ∷ xs) ys h = or_right (free_in_referent w x.stands_for) (free_in w (xs ++ ys)) (free_behind w xs ys h)

-- bound variables don't rise above a level
bound_low : (nodes : List Node) (K : Types) (rs C : List ℕ) (level : ℕ) → IsOwn nodes K → AreBoundIn nodes rs → IsContext nodes K C level → IsContext nodes K (rs ++ C) level
bound_low nodes K rs C level own bound low = record {
  inside = each_of_two rs C (λ r. r < length nodes) bound.inside low.inside;
  low = λ v l o h e free. elim (any_cases v K rs C h) [
    | inl i ↦ absurd (let (scope, f) = bound.bound K own v i in free (same_node nodes v l o bound_level scope e f))
    | inr i ↦ low.low v l o i e free
  ];
}

-- entries whose values stand for schemes by S, after those of an environment
module _ (R : List Node → Types → ℕ → Scheme → Type 0) (S : ℕ → Scheme → Type 0) (D D' : Declaration → rules.Declaration → Type 0) (X X' : Constructor → Option Typ → Type 0) (nodes : List Node) (rs C : List ℕ) (more : List Entry) (F : Environment)
    (bound : AreBoundIn nodes rs) (entries : EnvAs S D' X' more F)
    (on_declaration : (d : Declaration) (e : rules.Declaration) → D d e → D' d e) (on_exception : (c : Constructor) (o : Option Typ) → X c o → X' c o) where
  stands_more : (J V : Types) (env : List Entry) (E : Environment) → ((r : ℕ) (sc : Scheme) → S r sc → R nodes V r sc × IsIn (rs ++ C) r) → IsOwn nodes J → Stands R D X nodes J C V env E → Stands R D' X' nodes J (rs ++ C) V (more ++ env) (F ++ E)
  stands_more J V env E on_scheme own s = record {
    names = env_append (λ r sc. R nodes V r sc × IsIn (rs ++ C) r) D' X'
        (env_map S (λ r sc. R nodes V r sc × IsIn (rs ++ C) r) D' D' X' X' on_scheme (λ d e h. h) (λ c o h. h) entries)
        (env_map (λ r sc. R nodes V r sc × IsIn C r) (λ r sc. R nodes V r sc × IsIn (rs ++ C) r) D D' X X' (λ r sc h. (h.0, in_second rs C r h.1)) on_declaration on_exception s.names);
    brings = λ u w free h o. elim (any_cases u J rs C h) [
      | inl i ↦ absurd (let (scope, f) = bound.bound J own u i in free.free (same_node nodes u free.level free.scope bound_level scope free.at f))
      | inr i ↦ free_behind w F E (s.brings u w free i o)
    ];
  }

  covers_more : (env : List Entry) → ((r : ℕ) (sc : Scheme) → S r sc → IsIn (rs ++ C) r) → Covers D X C env → Covers D' X' (rs ++ C) (more ++ env)
  covers_more env on_scheme (E, h) = (
    F ++ E,
    env_append (λ r sc. IsIn (rs ++ C) r) D' X'
        (env_map S (λ r sc. IsIn (rs ++ C) r) D' D' X' X' on_scheme (λ d e h. h) (λ c o h. h) entries)
        (env_map (λ r sc. IsIn C r) (λ r sc. IsIn (rs ++ C) r) D D' X X' (λ r sc i. in_second rs C r i) on_declaration on_exception h),
  )

-- what is recorded after a step that records nothing was recorded before
pub agrees_before : {a b : Sight} {G : Letters} {V : Types} {ch : Choice} → OnlyTypes a b → AgreesOutside b G V ch → AgreesOutside a G V ch
agrees_before on g = record { recorded = λ i p m e. g.recorded i p m (on.types i p ∙ e); known = λ i p m e. g.known i p m (on.types i p ∙ e); given = g.given }

-- After declarations the next item starts among the names of before and those that are declared.
pub outside_declared : {a b : Sight} {G : Letters} {env more : List Entry} {E : Choice → Environment} {F : Environment} (at : Outside as_declared a G env E) → OnlyTypes a b → Declares a b at.roots at.names more F →
    Outside as_declared b G (more ++ env) (λ ch. F ++ E ch)
outside_declared {a} {b} {G} {env} {more} {E} {F} at on new = record {
  sound = on.sound;
  level = on.level ∙ at.level;
  roots = new.new_roots ++ at.roots;
  names = new.new_names;
  apart = new.apart;
  older = new.older;
  unknown = new.unknown;
  steady = at.steady;
  context = λ K own. subst (IsContext b.nodes K (new.new_roots ++ at.roots)) (sym on.level) (bound_low b.nodes K new.new_roots at.roots a.level own new.are_bound (context_after a.nodes b.nodes before.0 K at.roots a.level before.1 own (on.refines K own) (at.context before.0 before.1)));
  covered = let own = own_of b.nodes on.sound in
      covers_more SchemeReads specified (DeclaredAs a.nodes at.roots at.names) (DeclaredAs b.nodes (new.new_roots ++ at.roots) new.new_names) (ExceptionAs a.nodes at.roots at.names) (ExceptionAs b.nodes (new.new_roots ++ at.roots) new.new_names)
      b.nodes new.new_roots at.roots more F new.are_bound new.entries (later own.0 own.1) (later_exception own.0 own.1) env (λ r sc h. h.root.among) at.covered;
  known = at.known && new.plain;
  knows = λ known.
      let own = own_of b.nodes on.sound in
      let (was, are) = and_cases at.known new.plain known in
      let names = at.knows was in
      let adds = new.keeps are in
      record {
        plain = adds.plain names.plain;
        covered = covers_more SchemeReads specified (λ d e. DeclaredAs a.nodes at.roots at.names d e × HasOwnLabels e) (λ d e. DeclaredAs b.nodes (new.new_roots ++ at.roots) new.new_names d e × HasOwnLabels e)
            (ExceptionAs a.nodes at.roots at.names) (ExceptionAs b.nodes (new.new_roots ++ at.roots) new.new_names)
            b.nodes new.new_roots at.roots more F new.are_bound adds.entries (λ d e h. (later own.0 own.1 d e h.0, h.1)) (later_exception own.0 own.1) env (λ r sc h. h.root.among) names.covered;
      };
  reads = λ K V ch own reads g.
      stands_more SchemeReads specified (DeclaredAs a.nodes at.roots at.names) (DeclaredAs b.nodes (new.new_roots ++ at.roots) new.new_names) (ExceptionAs a.nodes at.roots at.names) (ExceptionAs b.nodes (new.new_roots ++ at.roots) new.new_names)
      b.nodes new.new_roots at.roots more F new.are_bound new.entries (later K own) (later_exception K own) K V env (E ch) (λ r sc h. (specified_reads K own h V reads, h.root.among)) own
      (stands_reads_on (DeclaredAs a.nodes at.roots at.names) (ExceptionAs a.nodes at.roots at.names) a.nodes b.nodes before.0 K at.roots before.1 own (on.refines K own) inside V env (E ch) reads
      (at.reads before.0 V ch before.1 (on.reads V reads) (agrees_before on g)));
  fits = λ K V ch own loose g.
      stands_more SchemeFits specified (DeclaredAs a.nodes at.roots at.names) (DeclaredAs b.nodes (new.new_roots ++ at.roots) new.new_names) (ExceptionAs a.nodes at.roots at.names) (ExceptionAs b.nodes (new.new_roots ++ at.roots) new.new_names)
      b.nodes new.new_roots at.roots more F new.are_bound new.entries (later K own) (later_exception K own) K V env (E ch) (λ r sc h. (specified_fits K own h V loose, h.root.among)) own
      (stands_fits_on (DeclaredAs a.nodes at.roots at.names) (ExceptionAs a.nodes at.roots at.names) a.nodes b.nodes before.0 K at.roots before.1 own (on.refines K own) inside V V env (E ch) (λ k lt. refl) loose
      (at.fits before.0 V ch before.1 ((on.refines K own).loose V loose) (agrees_before on g)));
}
  where
    specified : ℕ → Scheme → Type 0
    specified = SpecifiedAs b.nodes (new.new_roots ++ at.roots) new.new_names

    before : (I : Types) × IsOwn a.nodes I
    before = own_of a.nodes at.sound

    inside : (k c : ℕ) → slice_get at.roots k ≡ Some c → c < length a.nodes
    inside = (at.context before.0 before.1).inside

    later : (K : Types) → IsOwn b.nodes K → (d : Declaration) (e : rules.Declaration) → DeclaredAs a.nodes at.roots at.names d e → DeclaredAs b.nodes (new.new_roots ++ at.roots) new.new_names d e
    later K own d e h = declared_after before.1 (on.refines K own) (in_second new.new_roots at.roots) (declared_renamed new.same h)

    later_exception : (K : Types) → IsOwn b.nodes K → (c : Constructor) (o : Option Typ) → ExceptionAs a.nodes at.roots at.names c o → ExceptionAs b.nodes (new.new_roots ++ at.roots) new.new_names c o
    later_exception K own c o h = exception_after before.1 (on.refines K own) (in_second new.new_roots at.roots) (exception_renamed new.same h)

-- where the unknown types among the names are those of the type expressions that are said
pub declared_older : {a b : Sight} {G : Letters} {env more : List Entry} {E : Choice → Environment} {F : Environment} (at : Outside as_declared a G env E) (on : OnlyTypes a b) (new : Declares a b at.roots at.names more F) → (outside_declared at on new).older ≡ new.older
unfolding outside_declared
declared_older at on new = refl

-- so names were added, with their roots
pub declared_grows : {a b : Sight} {G : Letters} {env more : List Entry} {E : Choice → Environment} {F : Environment} (at : Outside as_declared a G env E) (on : OnlyTypes a b) (new : Declares a b at.roots at.names more F) → Grows at (outside_declared at on new) more F
unfolding outside_declared
declared_grows at on new = record { on = on; new_roots = new.new_roots; roots = refl; same = new.same; are_bound = new.are_bound; entries = new.entries }

-- and all that is to be known of names is, where it was, and is of the new ones
pub declared_known : {a b : Sight} {G : Letters} {env more : List Entry} {E : Choice → Environment} {F : Environment} (at : Outside as_declared a G env E) (on : OnlyTypes a b) (new : Declares a b at.roots at.names more F) → (outside_declared at on new).known ≡ (at.known && new.plain)
unfolding outside_declared
declared_known at on new = refl
