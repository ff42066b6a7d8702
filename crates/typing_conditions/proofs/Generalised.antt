-- What closing a `let` makes of the type of a name is the scheme that the definitions generalise in its environment.
use Rattle.std.proofs.Common.{◌≡◌, ◌≢◌, ℕ, suc, ◌<◌, ◌≤◌, true, false, not, ◌||◌, List, length, Some, refl, ap, arith, ◌⊎◌, inl, inr}
use Rattle.std.specs.Prelude.{slice_get}
use Rattle.type_model.specs.Types.{Typ, occurs}
use Rattle.signature_model.specs.Matching.{IsKnown}
use Rattle.signature_model.specs.Entries.{Environment, free_in}
use Rattle.typing_model.specs.Contexts.{occurs_in, generalised_in}
use Rattle.type_nodes.specs.Nodes.{Node, Var, bound_level}
use Rattle.type_nodes.specs.Readings.{Types, IsReading}
use Rattle.level_unify.specs.Walks.{StandsIn}
use Rattle.level_unify.specs.Solutions.{Loose}
use Rattle.level_unify.proofs.Unified.{fits_loosely}
use Rattle.level_unify.specs.Instances.{is_bound}
use Rattle.level_unify.proofs.Variants.{stands_occurs}
use Rattle.typing_conditions.specs.Locals.{IsFreeVar, IsOwn, stands_in_any, Within, Local, IsContext, ClosesAll}
use Rattle.typing_conditions.specs.Assumptions.{SchemeFits, SchemeReads}
use Rattle.typing_conditions.proofs.Uses.{type_fits, type_reads}
use Rattle.typing_conditions.proofs.Regions.{any_in}
use Rattle.typing_conditions.proofs.Steps.{same_node, old_or_new}
use Rattle.typing_conditions.proofs.Closing.{still_free, closed_own, low_is_fixed}

-- the variables that a scheme is not to bind: those of what the variables of the environment and those that are held read as
pub record Fixes (nodes : List Node) (J V : Types) (C X : List ℕ) (E : Environment) (held : List Typ) : Type 0 where
  pub roots : (u w : ℕ) → IsFreeVar nodes u → stands_in_any J C u ≡ true → occurs w (V u) ≡ true → (free_in w E || occurs_in w held) ≡ true
  pub extra : (u w : ℕ) → IsFreeVar nodes u → stands_in_any J X u ≡ true → occurs w (V u) ≡ true → (free_in w E || occurs_in w held) ≡ true

module _ (old nodes new : List Node) (I J : Types) (C R : List ℕ) (H : ℕ → List ℕ) (level : ℕ)
    (before : IsOwn old I) (between : IsOwn nodes J)
    (context : IsContext old I C level)
    (group : Local old nodes I J C H (suc level))
    (names : (k r : ℕ) → slice_get R k ≡ Some r → (r < length nodes) × Within old C r)
    (held_low : (v l o : ℕ) → stands_in_any J (H level) v ≡ true → slice_get nodes v ≡ Some (Var l o) → l ≢ bound_level → l ≤ level)
    (closes : ClosesAll nodes new J R level) where
  -- a free variable of a name's type is of the environment, or held
  pub name_var : (k r u : ℕ) → slice_get R k ≡ Some r → IsFreeVar new u → occurs u (J r) ≡ true → (stands_in_any J C u ≡ true) ⊎ (stands_in_any J (H level) u ≡ true)
  name_var k r u e free o =
      let at = still_free nodes new J R level u free.level free.scope closes free.at free.free in
      let here = any_in u J R k r e o in
      low_is_fixed old nodes new I J C R H level before between context group names held_low closes u here (elim (old_or_new level free.level) [
        | inr low ↦ record { level = free.level; scope = free.scope; at = at; free = free.free; low = low }
        | inl above ↦ absurd (free.free (same_node new u free.level free.scope bound_level free.scope free.at (closes.binds u free.level free.scope at free.free above here)))
      ])

  own_closed : IsOwn new J
  own_closed = closed_own nodes new J R level between closes

  name_inside : (k r : ℕ) → slice_get R k ≡ Some r → r < length new
  name_inside k r e = let p = (names k r e).0 in let q = closes.len in omega arith

  kept : (V : Types) (E : Environment) (held : List Typ) → Fixes new J V C (H level) E held → (k r : ℕ) → slice_get R k ≡ Some r → (u w : ℕ) → IsFreeVar new u → StandsIn new u r → occurs w (V u) ≡ true → (not (free_in w E || occurs_in w held)) ≡ false
  kept V E held fixes k r e u w free stands o =
      let p : occurs u (J r) ≡ true = stands_occurs new J u r own_closed.loose (own_closed.vars u free.level free.scope free.at) stands in
      ap not (elim (name_var k r u e free p) [ inl i ↦ fixes.roots u w free i o | inr i ↦ fixes.extra u w free i o ])

  -- under types that fit
  pub name_fits : (V : Types) (E : Environment) (held : List Typ) → Loose new V → Fixes new J V C (H level) E held → (k r : ℕ) → slice_get R k ≡ Some r → IsKnown (V r) → SchemeFits new V r (generalised_in E held (V r))
  name_fits V E held loose fixes k r e known = type_fits new J V r (generalised_in E held (V r)) own_closed loose (name_inside k r e) known refl (kept V E held fixes k r e)

  -- and at each reading, where no bound variable is free in the environment or held
  pub name_reads : (V : Types) (E : Environment) (held : List Typ) → IsReading new V → Fixes new J V C (H level) E held → ((b : ℕ) → is_bound new b ≡ true → (free_in b E || occurs_in b held) ≡ false) →
      (k r : ℕ) → slice_get R k ≡ Some r → IsKnown (V r) → SchemeReads new V r (generalised_in E held (V r))
  name_reads V E held reads fixes none k r e known =
      type_reads new J V r (generalised_in E held (V r)) own_closed (fits_loosely new V reads.fits) (name_inside k r e) known refl (kept V E held fixes k r e) reads (λ b h stands. ap not (none b h))
