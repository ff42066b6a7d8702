-- A context stays one after further steps, and so does a result.
use Rattle.std.proofs.Common.{◌≡◌, ◌≢◌, ℕ, true, List, Some, sym, ◌∙◌, ap, arith, ◌⊎◌, inl, inr}
use Rattle.std.specs.Prelude.{slice_get}
use Rattle.std.proofs.lemmas.Bool.{eqb-true}
use Rattle.std.proofs.lemmas.Bool.Decides.{eqb_tells}
use Rattle.type_model.specs.Types.{occurs}
use Rattle.type_nodes.specs.Nodes.{Node, Var, bound_level}
use Rattle.type_nodes.specs.Readings.{Types}
use Rattle.typing_conditions.specs.Locals.{IsVar, IsOwn, Refines, IsContext, IsResult}
use Rattle.typing_conditions.proofs.Regions.{any_in, in_any}
use Rattle.typing_conditions.proofs.Steps.{same_node, stands_before}

-- the level and the scope of a variable, and whether it is bound or free
pub record VarOf (nodes : List Node) (v : ℕ) : Type 0 where
  pub level : ℕ
  pub scope : ℕ
  pub at : slice_get nodes v ≡ Some (Var level scope)
  pub kind : (level ≡ bound_level) ⊎ (level ≢ bound_level)

-- a variable is bound or free
pub var_of : (nodes : List Node) (v : ℕ) → IsVar nodes v → VarOf nodes v
var_of nodes v var = record { level = var.level; scope = var.scope; at = var.at; kind = elim (eqb_tells var.level bound_level) [ inl (_, e) ↦ inl e | inr (_, e) ↦ inr e ] }

-- a bound variable that stands in what a variable reads as later is that variable
pub bound_itself : (old new : List Node) (J : Types) → IsOwn new J → Refines old new J →
    (w v o : ℕ) → slice_get old w ≡ Some (Var bound_level o) → occurs v (J w) ≡ true → v ≡ w
bound_itself old new J after one w v o e h = eqb-true v w (ap (occurs v) (sym (after.vars w bound_level o (one.bounds w o e))) ∙ h)

-- a context stays one
pub context_after : (old new : List Node) (I J : Types) (R : List ℕ) (level : ℕ) → IsOwn old I → IsOwn new J → Refines old new J →
    IsContext old I R level → IsContext new J R level
context_after old new I J R level before after one context = record {
  inside = λ k c e. let p = context.inside k c e in let q = one.longer in omega arith;
  low = λ v l o h e free.
      let a = in_any v J R h in
      let (w, p, q) = stands_before old I J before (one.loose J after.loose) a.node v a.occurs in
      let var = var_of old w (before.only a.node w (context.inside a.place a.node a.at) p) in
      elim var.kind [
        | inr f ↦ let x = context.low w var.level var.scope (any_in w I R a.place a.node a.at p) var.at f in let y = one.falls w var.level var.scope v l o var.at f e q in omega arith
        | inl b ↦ absurd (
            let at : slice_get old w ≡ Some (Var bound_level var.scope) = var.at ∙ ap (λ k. Some (Var k var.scope)) b in
            let s = bound_itself old new J after one w v var.scope at q in
            free (same_node new w l o bound_level var.scope (ap (slice_get new) (sym s) ∙ e) (one.bounds w var.scope at)))
      ];
}

-- a result stays one
pub result_after : (old mid new : List Node) (J K : Types) (C : List ℕ) (level r : ℕ) → IsOwn mid J → IsOwn new K → Refines mid new K →
    IsResult old mid J C level r → IsResult old new K C level r
result_after old mid new J K C level r between after two res = record {
  inside = let p = res.inside in let q = two.longer in omega arith;
  within = res.within;
  free = λ v o.
      let (w, p, q) = stands_before mid J K between (two.loose K after.loose) r v o in
      let f = res.free w p in
      let g = two.frees w v (record { level = f.level; scope = f.scope; at = f.at; free = f.free }) q in
      record { level = g.level; scope = g.scope; at = g.at; free = g.free; low = let a = two.falls w f.level f.scope v g.level g.scope f.at f.free g.at q in let b = f.low in omega arith };
}
