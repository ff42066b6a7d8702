-- Calls of an application's row: two new types, the demand that a head is an arrow, and an argument.
use Rattle.std.proofs.Common.{◌≡◌, ◌∙◌, ◌++◌, ℕ, ◌+◌, true, List, ◌∷◌, sym, subst}
use Rattle.text_terms.specs.declared.Span.{Span}
use Rattle.tree_model.specs.Trees.{Place}
use Rattle.syntax_tree.specs.View.{place_of}
use Rattle.type_model.specs.Types.{Typ}
use Rattle.type_model.specs.Types.{Typ as type}
use Rattle.typing_model.specs.Demands.{site, equal}
use Rattle.typing_model.specs.Contexts.{Choice, ask}
use Rattle.typing_model.specs.Contexts as contexts
use Rattle.typing_model.specs.Parts.{Expression}
use Rattle.typing_model.specs.Expressions.{has_type}
use Rattle.type_terms.specs.declared.types.NodeRef.{NodeRef}
use Rattle.type_nodes.specs.Nodes.{Arrow, IsNode}
use Rattle.type_nodes.specs.Changes.{Makes}
use Rattle.env_table.specs.declared.entries.Entry.{Entry}
use Rattle.typing_state.specs.declared.parts.Parts.{Parts}
use Rattle.typing_state.specs.declared.demands.Verdict.{Verdict}
use Rattle.typing_state.specs.Goes.{OnlyStore, OnlyStoreAndFaults, Goes}
use Rattle.typing_state.specs.Types.{MakesVar, any_scope}
use Rattle.typing_state.specs.Demands.{EqualIs}
use Rattle.typing_conditions.specs.Sights.{Sight, Key, letter, Letters, IsKnownFor}
use Rattle.typing_conditions.specs.Frames.{Frame, Reaches}
use Rattle.typing_conditions.specs.Meanings.{Means}
use Rattle.typing_conditions.specs.Carrying.{Scope, SeesScope, Carried, CarriedTo}
use Rattle.typing_conditions.proofs.Carried.{carried_trans}
use Rattle.typing_conditions.proofs.Meaning.{means_on}
use Rattle.typing_conditions.proofs.Surrounding.{sees_on}
use Rattle.typing_steps.specs.States.{sight}
use Rattle.typing_steps.specs.Demands.{JudgedAs, is_kept}
use Rattle.typing_steps.specs.Rows.{MakesTwo, AsksArrow, argument_asks}
use Rattle.typing_steps.proofs.Making.{var_made, arrow_over}
use Rattle.typing_steps.proofs.Comparing.{equal_asked}

-- two new variables, one after the other
pub two_made : (a b d : Parts) {F : Frame} {scope : Scope} {G : Letters} {m n : ℕ} (first second : Key) → ((x : Typ) → IsKnownFor first x) → ((x : Typ) → IsKnownFor second x) → Reaches F (sight a) →
    MakesVar a b m any_scope → OnlyStore a b → MakesVar b d n any_scope → OnlyStore b d → MakesTwo F scope (sight a) G (sight d) first second m n
two_made a b d {F} {scope} {G} first second free free' r made rest made' rest' =
    let x = var_made a b {F = F} {scope = scope} {G = G} first free r made rest in
    let y = var_made b d {scope = scope} second free' x.means.open_node.reached made' rest' in
    record { carried = carried_trans x.carried y.carried; first_is = means_on y.carried.stays x.means; second_is = y.means }

-- the demand that a head's type is an arrow between two new types, by their arrow and the comparison with it
pub arrow_asked : (b d e : Parts) {F : Frame} {scope : Scope} {a : Sight} {G : Letters} {head : Choice → Typ} {at : Span} {found whole : NodeRef} {from to : ℕ} (env : List Entry) (n k j : ℕ) (v : Verdict) → scope.own n ≡ true → SeesScope F scope a G env → a.aloud ≡ true → Means F a G head found.0 →
    MakesTwo F scope a G (sight b) (letter n j) (letter n (j + 1)) from to → (IsNode b.store.nodes from → IsNode b.store.nodes to → Makes b.store d.store whole.0 (Arrow from to)) → OnlyStore b d →
    EqualIs v d e at found whole env → OnlyStoreAndFaults d e → Goes d e → AsksArrow F scope a G (sight e) head n k j (place_of at) from to
arrow_asked b d e {F} {scope} {a} {G} {head} {at} {found} {whole} {from} {to} env n k j v own sees aloud has two made rest is rest' goes =
    let y = arrow_over b d {scope = scope} two.first_is two.second_is made rest in
    let first = carried_trans two.carried y.carried in
    let z : JudgedAs F scope (λ c. ask n k (place_of at) (equal (head c.chosen) (type.Arrow (contexts.letter c n j) (contexts.letter c n (j + 1))))) (sight d) ((letter n (j + 1), to) ∷ (letter n j, from) ∷ G) (sight e)
    ((letter n (j + 1), to) ∷ (letter n j, from) ∷ G) (site n k) (is_kept v) = equal_asked d e env (site n k) v own (sees_on scope first.stays has.open_node.reached sees) (first.stays.aloud ∙ aloud) (means_on first.stays has) y.means is rest' goes in
    record {
      carried = carried_trans first z.carried;
      from_is = means_on z.carried.stays (means_on y.carried.stays two.first_is);
      to_is = means_on z.carried.stays (means_on y.carried.stays two.second_is);
    }

-- an expression was typed, and then its type is asked to be another one
pub typed_as : (b d : Parts) {F : Frame} {scope : Scope} {a : Sight} {G H : Letters} {wanted_type : Choice → Typ} {at : Span} {found wanted : NodeRef} (env : List Entry) (e : Expression) (n k : ℕ) (v : Verdict) → scope.own n ≡ true → SeesScope F scope a G env → a.aloud ≡ true → e.at ≡ place_of at →
    CarriedTo F scope (λ c. e.typed c) a G (sight b) H (λ ch. ch.type_at e.node) found.0 → Means F a G wanted_type wanted.0 → EqualIs v b d at found wanted env → OnlyStoreAndFaults b d → Goes b d →
    Carried F scope (λ c. e.typed c ++ has_type c n k e (wanted_type c.chosen)) a G (sight d) H
typed_as b d {F} {scope} {a} {G} {H} {wanted_type} {at} env e n k v own sees aloud place part has is rest goes =
    let s = part.carried.stays in
    let z : JudgedAs F scope (λ c. ask n k (place_of at) (equal (c.chosen.type_at e.node) (wanted_type c.chosen))) (sight b) H (sight d) H (site n k) (is_kept v) = equal_asked b d env (site n k) v own (sees_on scope s has.open_node.reached sees) (s.aloud ∙ aloud) part.means (means_on s has) is rest goes in
    carried_trans part.carried (subst (λ p. Carried F scope (λ c. ask n k p (equal (c.chosen.type_at e.node) (wanted_type c.chosen))) (sight b) H (sight d) H) (sym place) z.carried)

-- An argument: the head is an arrow, and the argument has the type at its left; the one at its right is that of the whole.
pub argument_asked : {F : Frame} {scope : Scope} {a b d : Sight} {G : Letters} {head : Choice → Typ} {n k j : ℕ} {at : Place} {from to : ℕ} (e : Expression) → AsksArrow F scope a G b head n k j at from to →
    Carried F scope (λ c. e.typed c ++ has_type c n (k + 1) e (contexts.letter c n j)) b ((letter n (j + 1), to) ∷ (letter n j, from) ∷ G) d ((letter n (j + 1), to) ∷ (letter n j, from) ∷ G) →
    CarriedTo F scope (λ c. argument_asks c n k j at (head c.chosen) e) a G d ((letter n (j + 1), to) ∷ (letter n j, from) ∷ G)
    (λ ch. ch.letter n (j + 1)) to
argument_asked e p q = record { carried = carried_trans p.carried q; means = means_on q.stays p.to_is }
