-- After a built-in type is declared the names are those of before with its own.
use Rattle.std.proofs.Common.{◌≡◌, ◌∙◌, ℕ, zero, suc, ◌<◌, false, List, [], ◌∷◌, length, Option, Some, sym, ap, subst, arith, inl, inr}
use Rattle.std.specs.Prelude.{slice_get, option_map}
use Rattle.type_model.specs.Types.{Path, occurs}
use Rattle.type_model.proofs.Applying.{or_cases}
use Rattle.signature_model.specs.Declarations as rules
use Rattle.signature_model.specs.Entries.{Environment}
use Rattle.signature_model.specs.Matching.{is_unknown}
use Rattle.typing_laws.proofs.Bools.{no_yes}
use Rattle.typing_model.specs.BuiltIns.{built_in_origin}
use Rattle.typing_model.specs.Contexts.{Choice}
use Rattle.type_terms.specs.Views.{path_of}
use Rattle.type_nodes.specs.Nodes.{Node}
use Rattle.type_nodes.specs.Readings.{Types}
use Rattle.env_table.specs.declared.entries.Declaration.{Declaration}
use Rattle.env_table.specs.declared.entries.Entry.{Entry}
use Rattle.env_table.specs.Views.{kind_of}
use Rattle.typed_index.specs.Seen.{seen_at}
use Rattle.typing_state.specs.declared.built_ins.BuiltIn.{BuiltIn}
use Rattle.typing_state.specs.declared.parts.Parts.{Parts}
use Rattle.typing_state.specs.BuiltIns.{number_of}
use Rattle.typing_conditions.specs.Environments.{defined_at, of_type, entry_as, no_names, newest}
use Rattle.typing_conditions.specs.Declared.{UnknownApart, RootAs, OriginAs, DeclaredAs, with_parameters, tell_nothing}
use Rattle.typing_conditions.specs.Sights.{Letters}
use Rattle.typing_conditions.proofs.Roots.{named_bound}
use Rattle.typing_conditions.proofs.Steps.{Grows, refines_made}
use Rattle.typing_steps.specs.States.{type_in, is_noted, sight}
use Rattle.typing_steps.specs.Typing.{as_declared}
use Rattle.typing_steps.proofs.Schemes.{known_path}
use Rattle.binding_rows.specs.Outside.{AreOf, Outside}
use Rattle.first_laws.specs.Declaring.{OnlyTypes, AreBoundIn, Declares, StartsAmong}
use Rattle.first_laws.specs.Built.{arity_of, HasPath, DeclaresBuiltIn, EntersBuiltIn, entry_of}
use Rattle.first_laws.proofs.Declared.{outside_declared, declared_older}
use Rattle.first_laws.proofs.Grown.{grows_closed, reads_grown}
use Rattle.first_laws.proofs.Roots.{root_new, ClosedRoot, root_closed, names_with, names_older, names_apart, names_of_before, root_as}

-- the path of a built-in type is that of no unknown type
built_in_known : (k : ℕ) → is_unknown (built_in_origin k) ≡ false
built_in_known k = known_path (built_in_origin k) (omega arith)

-- all variables in one root are bound where it is a type of a declaration
root_bound : {nodes : List Node} {C : List ℕ} {N : Types} {arity r : ℕ} {t : _} → RootAs nodes C N arity r t → AreBoundIn nodes (r ∷ [])
root_bound {nodes} {C} {N} {arity} {r} root = record {
  inside = inside;
  bound = λ K own v h. elim (or_cases (occurs v (K r)) false h) [ inl o ↦ named_bound (root.named K own v o) | inr o ↦ absurd (no_yes o) ];
}
  where
    inside : (k s : ℕ) → slice_get (r ∷ []) k ≡ Some s → s < length nodes
    inside zero s e = let f : r ≡ s = cc in subst (λ n. n < length nodes) f root.inside
    inside (suc k) s e = absurd (cc)

-- an origin of the code with a path is that of a type of its own
pub origin_is : (given : Option _) (path : Path) → HasPath given path → OriginAs given (rules.Own path)
origin_is given path (o, e, is) = subst (λ x. OriginAs x (rules.Own path)) (sym e) is

module _ {a b : Parts} {which : BuiltIn} {d : Declaration} (h : DeclaresBuiltIn a b which d) where
  abbrev path : Path
  path = built_in_origin (number_of which)

  grows : Grows a.store.nodes b.store.nodes
  grows = let new = root_new h.root in grows_closed a.store.nodes h.between.nodes b.store.nodes d.root.0 0 new.grows new.news new.above h.closed

  pub closed : ClosedRoot path b.store.nodes (length a.store.nodes) d.root.0 (arity_of which)
  closed = root_closed h.root h.closed

  -- types alone were made
  pub built_in_types : OnlyTypes (sight a) (sight b)
  built_in_types = record {
    sound = h.sound;
    level = h.rest.level;
    types = λ i p. ap (λ x. type_in (seen_at x i p)) h.rest.index;
    noted = λ i p k. ap (λ x. is_noted (seen_at x i p)) h.rest.index ∙ k;
    scopes = λ i p env k. ap (λ x. (sight (record a { index = x })).scopes i p) h.rest.index ∙ k;
    refines = λ K own. refines_made a.store.nodes b.store.nodes K own grows;
    reads = λ V reads. reads_grown a.store.nodes b.store.nodes grows V reads;
  }

  root : (C : List ℕ) (N : Types) → RootAs b.store.nodes (d.root.0 ∷ C) (names_with closed N) (arity_of which) d.root.0 (with_parameters (arity_of which) (rules.type_of (record { arity = arity_of which; definition = rules.Own path; shape = rules.Opaque })))
  root C N = root_as (built_in_known (number_of which)) closed C N

  -- the declaration is that of the definitions
  pub built_in_as : (C : List ℕ) (N : Types) → DeclaredAs b.store.nodes (d.root.0 ∷ C) (names_with closed N) d (record { arity = arity_of which; definition = rules.Own path; shape = rules.Opaque })
  built_in_as C N = record {
    arity = sym h.arity;
    origin = origin_is d.origin path h.origin;
    defines = let (o, e, is) = h.defines in ap (option_map path_of) e ∙ ap (λ p. Some p) is;
    root = root C N;
    shape = tell_nothing h.shape;
  }

-- A built-in type is declared.
pub declares_built_in : {a b : Parts} {which : BuiltIn} {e : Entry} → EntersBuiltIn a b which e → (roots : List ℕ) (names : Types) → UnknownApart names → (older : List ℕ) → AreOf older names → Declares (sight a) (sight b) roots names (e ∷ []) (entry_of which ∷ [])
declares_built_in h roots names apart older of = record {
  new_roots = h.declaration.value.root.0 ∷ [];
  new_names = names_with (closed h.declared) names;
  same = λ v lt. names_older (closed h.declared) names v lt;
  apart = names_apart (closed h.declared) names apart;
  older = older;
  unknown = names_of_before (closed h.declared) names older of;
  are_bound = root_bound (root h.declared roots names);
  entries = newest (entry_as (sym h.name) (sym (ap kind_of h.kind)) (ap defined_at h.place) (of_type h.is (built_in_as h.declared roots names))) no_names;
  plain = false;
  keeps = λ e. absurd (no_yes e);
}

-- The next item starts among the names of before and that of the built-in type.
pub outside_built_in : {a b : Parts} {G : Letters} {env : List Entry} {E : Choice → Environment} {which : BuiltIn} {e : Entry} (at : Outside as_declared (sight a) G env E) → EntersBuiltIn a b which e →
    StartsAmong (sight b) G (e ∷ env) (λ ch. entry_of which ∷ E ch) at.older
unfolding declares_built_in
outside_built_in at h =
    let declares = declares_built_in h at.roots at.names at.apart at.older at.unknown in
    record { outside = outside_declared at (built_in_types h.declared) declares; older = declared_older at (built_in_types h.declared) declares }
