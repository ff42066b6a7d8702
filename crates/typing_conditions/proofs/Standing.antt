-- An environment stands for that of the definitions later on, with a further name, and finds what that finds.
use Rattle.std.proofs.Common.{◌≡◌, ℕ, zero, suc, ◌<◌, Bool, true, false, List, ◌∷◌, length, Option, Some, refl, sym, ◌∙◌, ap, inl, inr}
use Rattle.std.specs.Prelude.{slice_get}
use Rattle.std.proofs.lemmas.Option.{slice_get_within}
use Rattle.text_terms.specs.Bytes.{str_bytes}
use Rattle.type_model.specs.Types.{Typ, occurs}
use Rattle.type_model.specs.Schemes.{Scheme, free_in_scheme}
use Rattle.type_model.proofs.Applying.{or_left, or_right, or_cases}
use Rattle.signature_model.specs.Declarations as rules
use Rattle.signature_model.specs.Declarations.{Name}
use Rattle.signature_model.specs.Entries.{Environment, entry, a_value, free_in, value_kind}
use Rattle.signature_model.specs.Matching.{IsKnown}
use Rattle.typing_model.specs.Contexts.{monomorphic}
use Rattle.typing_laws.proofs.Bools.{no_yes}
use Rattle.type_terms.specs.declared.types.NodeRef.{NodeRef}
use Rattle.type_nodes.specs.Nodes.{Node, Var, bound_level}
use Rattle.type_nodes.specs.Readings.{Types, IsReading}
use Rattle.level_unify.specs.Solutions.{Loose}
use Rattle.level_unify.proofs.Unified.{fits_loosely}
use Rattle.level_unify.specs.Instances.{is_bound, SameTypes}
use Rattle.level_unify.proofs.Variants.{bound_cell, stands_occurs}
use Rattle.env_table.specs.declared.entries.Constructor.{Constructor}
use Rattle.env_table.specs.declared.entries.Declaration.{Declaration}
use Rattle.env_table.specs.declared.entries.What.TheVariants as what
use Rattle.env_table.specs.declared.entries.Entry.{Entry}
use Rattle.env_table.specs.Views.{kind_of}
use Rattle.typing_conditions.specs.Locals.{IsFreeVar, IsOwn, stands_in_any, Refines}
use Rattle.typing_conditions.specs.Assumptions.{FreeAlike, SchemeFits, SchemeReads}
use Rattle.typing_conditions.specs.Environments.{defined_at, of_value, entry_as, newest}
use Rattle.typing_conditions.specs.Standing.{IsIn, Stands}
use Rattle.typing_conditions.proofs.Regions.{any_in, in_any}
use Rattle.typing_conditions.proofs.Steps.{same_node, stands_after, stands_before}
use Rattle.typing_conditions.proofs.Later.{var_of, bound_itself}
use Rattle.typing_conditions.proofs.Uses.{type_fits, type_reads}
use Rattle.typing_conditions.proofs.Schemes.{fits_after, reads_after}
use Rattle.typing_conditions.proofs.Environments.{env_map, env_free}

module _ (D : Declaration → rules.Declaration → Type 0) (X : Constructor → Option Typ → Type 0) (old new : List Node) (I J : Types) (C : List ℕ)
    (before : IsOwn old I) (after : IsOwn new J) (step : Refines old new J) (inside : (k c : ℕ) → slice_get C k ≡ Some c → c < length old) where
  -- the free variable of before that a free variable of the roots comes from
  root_var : (u : ℕ) → IsFreeVar new u → stands_in_any J C u ≡ true → (m : ℕ) × IsFreeVar old m × (stands_in_any I C m ≡ true) × (occurs u (J m) ≡ true)
  root_var u free h =
      let a = in_any u J C h in
      let (m, p, q) = stands_before old I J before (step.loose J after.loose) a.node u a.occurs in
      let var = var_of old m (before.only a.node m (inside a.place a.node a.at) p) in
      elim var.kind [
        | inr f ↦ (m, record { level = var.level; scope = var.scope; at = var.at; free = f }, any_in m I C a.place a.node a.at p, q)
        | inl b ↦ absurd (
            let at : slice_get old m ≡ Some (Var bound_level var.scope) = var.at ∙ ap (λ k. Some (Var k var.scope)) b in
            let s = bound_itself old new J after step m u var.scope at q in
            free.free (same_node new u free.level free.scope bound_level var.scope free.at (ap (slice_get new) s ∙ step.bounds m var.scope at)))
      ]

  same_at : (V W : Types) → SameTypes old V W → (m : ℕ) → IsFreeVar old m → W m ≡ V m
  same_at V W same m f = same m (slice_get_within old m (Var f.level f.scope) f.at)

  -- under types that fit later on
  pub stands_fits_on : (V W : Types) (env : List Entry) (E : Environment) → SameTypes old V W → Loose new W → Stands SchemeFits D X old I C V env E → Stands SchemeFits D X new J C W env E
  stands_fits_on V W env E same loose s = record {
    names = env_map (λ r sc. SchemeFits old V r sc × IsIn C r) (λ r sc. SchemeFits new W r sc × IsIn C r) D D X X
        (λ r sc h. (fits_after old new I J before after step V W same loose r sc h.0, h.1)) (λ d e h. h) (λ c o h. h) s.names;
    brings = λ u w free h o.
        let (m, f, p, q) = root_var u free h in
        s.brings m w f p (ap (occurs w) (sym (same_at V W same m f)) ∙ stands_after new J W after loose m u w q o);
  }

  -- at each reading
  pub stands_reads_on : (V : Types) (env : List Entry) (E : Environment) → IsReading new V → Stands SchemeReads D X old I C V env E → Stands SchemeReads D X new J C V env E
  stands_reads_on V env E reads s = record {
    names = env_map (λ r sc. SchemeReads old V r sc × IsIn C r) (λ r sc. SchemeReads new V r sc × IsIn C r) D D X X
        (λ r sc h. (reads_after old new I J before after step V reads r sc h.0, h.1)) (λ d e h. h) (λ c o h. h) s.names;
    brings = λ u w free h o. let (m, f, p, q) = root_var u free h in s.brings m w f p (stands_after new J V after (fits_loosely new V reads.fits) m u w q o);
  }

-- one name more
pub more_in : (C : List ℕ) (n r : ℕ) → IsIn C r → IsIn (n ∷ C) r
more_in C n r (k, e) = (suc k, e)

-- an entry of a name that stands for a scheme
pub stands_named : (R : List Node → Types → ℕ → Scheme → Type 0) (D : Declaration → rules.Declaration → Type 0) (X : Constructor → Option Typ → Type 0) (nodes : List Node) (J V : Types) (C : List ℕ) (env : List Entry) (E : Environment) →
    IsOwn nodes J → (e : Entry) (x : Name) (at : rules.Place) (n : NodeRef) (sc : Scheme) → x ≡ str_bytes e.name → kind_of e.kind ≡ value_kind → defined_at e.place ≡ at → e.what ≡ what.Scheme n →
    R nodes V n.0 sc → FreeAlike nodes V n.0 sc → Stands R D X nodes J C V env E → Stands R D X nodes J (n.0 ∷ C) V (e ∷ env) (entry x at (a_value sc) ∷ E)
stands_named R D X nodes J V C env E own e x at n sc named kind placed is r frees s = record {
  names = newest (entry_as named (sym kind) placed (of_value is (r, (zero, refl))))
      (env_map (λ r sc. R nodes V r sc × IsIn C r) (λ r sc. R nodes V r sc × IsIn (n.0 ∷ C) r) D D X X (λ r sc h. (h.0, more_in C n.0 r h.1)) (λ d e h. h) (λ c o h. h) s.names);
  brings = λ u w free h o. elim (or_cases (occurs u (J n.0)) (stands_in_any J C u) h) [
    | inr i ↦ or_right (free_in_scheme w sc) (free_in w E) (s.brings u w free i o)
    | inl i ↦ or_left (free_in_scheme w sc) (free_in w E) (frees.each u w free (own.stands n.0 u frees.inside i) o)
  ];
}

-- a node in which no bound variable stands and whose type is known, as a scheme that binds nothing
pub one_type_fits : (nodes : List Node) (J V : Types) (n : ℕ) → IsOwn nodes J → Loose nodes V → n < length nodes → IsKnown (V n) → SchemeFits nodes V n (monomorphic (V n))
one_type_fits nodes J V n own loose lt known = type_fits nodes J V n (monomorphic (V n)) own loose lt known refl (λ u w free stands o. refl)

-- and at each reading
pub one_type_reads : (nodes : List Node) (J V : Types) (n : ℕ) → IsOwn nodes J → IsReading nodes V → n < length nodes → IsKnown (V n) → ((v : ℕ) → occurs v (J n) ≡ true → IsFreeVar nodes v) → SchemeReads nodes V n (monomorphic (V n))
one_type_reads nodes J V n own reads lt known free = type_reads nodes J V n (monomorphic (V n)) own (fits_loosely nodes V reads.fits) lt known refl (λ u w open_here stands o. refl) reads (λ b h stands.
    let (scope, e) = bound_cell nodes b h in
    let f = free b (stands_occurs nodes J b n own.loose (own.vars b bound_level scope e) stands) in
    absurd (f.free (same_node nodes b f.level f.scope bound_level scope f.at e)))

-- at a reading no bound variable is free in the environment
pub none_free : (D : Declaration → rules.Declaration → Type 0) (X : Constructor → Option Typ → Type 0) (nodes : List Node) (J V : Types) (C : List ℕ) (env : List Entry) (E : Environment) → Stands SchemeReads D X nodes J C V env E →
    (b : ℕ) → is_bound nodes b ≡ true → free_in b E ≡ false
none_free D X nodes J V C env E s b bound = by (free_in b E) refl
  where
    by : (t : Bool) → free_in b E ≡ t → free_in b E ≡ false
    by false e = e
    by true e = absurd (env_free (λ r sc. SchemeReads nodes V r sc × IsIn C r) D X b ⊥ (λ r sc h t. no_yes (sym (h.0.none b bound) ∙ t)) s.names e)
