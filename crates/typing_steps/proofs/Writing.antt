-- A type variable that is written for the first time in an item.
use Rattle.std.proofs.Common.{◌≡◌, ◌∙◌, inl, inr, ℕ, ◌^◌, ◌-◌, min, ◌≤◌, true, [], Option, Some, None, refl, sym, ap, subst, arith}
use Rattle.std.specs.Prelude.{cond, option_map}
use Rattle.std.specs.Str.{bytes_eq}
use Rattle.std.specs.HashMap.{get_by_text}
use Rattle.std.proofs.lemmas.Slice.Eq.{bytes_eq-Decides}
use Rattle.signature_model.specs.Declarations.{Name}
use Rattle.type_terms.specs.declared.types.NodeRef.{NodeRef}
use Rattle.type_nodes.specs.Nodes.{Var}
use Rattle.type_nodes.specs.Changes.{Makes}
use Rattle.typing_state.specs.declared.parts.Parts.{Parts}
use Rattle.typing_state.specs.Types.{level_for, any_scope}
use Rattle.typing_conditions.proofs.Steps.{true_or_false}
use Rattle.typing_conditions.specs.Sights.{Letters}
use Rattle.typing_conditions.specs.Frames.{Frame, Reaches}
use Rattle.typing_conditions.specs.Steps.{Writes}
use Rattle.typing_conditions.specs.Carrying.{Scope, CarriedTo}
use Rattle.typing_conditions.proofs.Writing.{variable_written}
use Rattle.typing_steps.specs.States.{is_aloud, fixed_of, sight}
use Rattle.typing_steps.specs.Writing.{PutsVariable}

node_of : Option NodeRef → Option ℕ
node_of o = option_map (λ (m : NodeRef). m.0) o

-- one type variable more is written
pub variable_put : (a b : Parts) {x : Name} {n : NodeRef} → PutsVariable a b x n → Writes (sight a) (sight b) x n.0
unfolding node_of
variable_put a b {x} {n} w = record {
  none = ap node_of w.none;
  now = ap node_of (w.now x ∙ ap (λ t. cond t (Some n) (get_by_text a.written.variables x)) same);
  others = λ y m e. elim (true_or_false (bytes_eq x y)) [
    | inl t ↦ inl (sym ((bytes_eq-Decides x y).0 t), at_x y m t e)
    | inr t ↦ inr (sym (ap node_of (w.now y ∙ ap (λ s. cond s (Some n) (get_by_text a.written.variables y)) t)) ∙ e)
  ];
  before = λ y m e. elim (true_or_false (bytes_eq x y)) [
    | inl t ↦ absurd (let f : None ≡ Some m = sym (ap node_of w.none) ∙ ap (λ z. node_of (get_by_text a.written.variables z)) ((bytes_eq-Decides x y).0 t) ∙ e in cc)
    | inr t ↦ ap node_of (w.now y ∙ ap (λ s. cond s (Some n) (get_by_text a.written.variables y)) t) ∙ e
  ];
  types = λ i p. ap (λ k. (sight (record a { index = k })).types i p) w.index;
  noted = λ i p h. ap (λ k. (sight (record a { index = k })).noted i p) w.index ∙ h;
  scopes = λ i p env h. ap (λ k. (sight (record a { index = k })).scopes i p) w.index ∙ h;
  reports = ap (λ f. (sight (record a { faults = f })).reports) w.faults;
  aloud = ap is_aloud w.telling;
  item = w.item;
  level = w.level;
  fixed = ap fixed_of w.constants;
}
  where
    same : bytes_eq x x ≡ true
    same = (bytes_eq-Decides x x).1 refl

    at_x : (y : Name) (m : ℕ) → bytes_eq x y ≡ true → option_map (λ (k : NodeRef). k.0) (get_by_text b.written.variables y) ≡ Some m → m ≡ n.0
    at_x y m t e = let f : Some n.0 ≡ Some m = sym (ap (option_map (λ (k : NodeRef). k.0)) (w.now y ∙ ap (λ s. cond s (Some n) (get_by_text a.written.variables y)) t)) ∙ e in cc

low_as : (l : ℕ) → min (min l 1) (2 ^ 32 - 2) ≡ min l 1
low_as l = small (min l 1) (min_right l 1)
  where
    min_right : (l m : ℕ) → min l m ≤ m
    min_right l m = grind arith

    min_same : (l m : ℕ) → l ≤ m → min l m ≡ l
    min_same l m le = grind arith

    small : (k : ℕ) → k ≤ 1 → min k (2 ^ 32 - 2) ≡ k
    small k le = min_same k (2 ^ 32 - 2) (omega arith)

-- A type variable that is written for the first time has a new variable, of the level 1 at most: only the item's own `let` generalises it.
pub variable_made : (a b : Parts) {F : Frame} {scope : Scope} {G : Letters} {x : Name} {n : NodeRef} → Reaches F (sight a) → Makes a.store b.store n.0 (Var (level_for (min a.level 1)) any_scope) → PutsVariable a b x n →
    CarriedTo F scope (λ c. []) (sight a) G (sight b) G (λ ch. ch.written F.owner x) n.0
variable_made a b {F} {scope} {G} {x} {n} r made w =
    variable_written F (sight a) (sight b) a.store.trail b.store.trail n.0 x r (subst (λ l. Makes a.store b.store n.0 (Var l any_scope)) (low_as a.level ∙ ap (λ l. min l 1) r.level) made) (variable_put a b w) scope G
