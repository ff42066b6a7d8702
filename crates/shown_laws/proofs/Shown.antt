-- The texts of types that are shown for the typed nodes of items that are `let` and `;;` alone are those of one principal typing, by what an analysis has recorded of them.
use Rattle.std.proofs.Common.{◌≡◌, ◌<◌, ℕ, true, List, [], ◌∷◌, length, reverse, Option, Some, None, refl, sym, ◌∙◌, ap, subst, arith, if◌then◌else◌}
use Rattle.std.specs.Prelude.{All, MatchBool, MatchOption, codes, nat_lt, option_and_then, option_map}
use Rattle.std.specs.List.{AllZip, list_all}
use Rattle.std.proofs.lemmas.Bool.Decides.{nat_tests}
use Rattle.std.proofs.lemmas.List.Elements.{All-head, All-tail}
use Rattle.std.proofs.lemmas.List.Sorted.{All-permutation, IsPermutation-reverse}
use Rattle.tree_model.specs.Trees.{Tree}
use Rattle.query_model.specs.TypedNodes.{Typed, typed_at}
use Rattle.type_model.specs.Types.{Typ}
use Rattle.signature_model.specs.Entries.{Environment}
use Rattle.type_print_model.specs.Variables.{variables_of}
use Rattle.typed_model.specs.Shown.{number_of, IsShownAs, IsShownAt, AreShown}
use Rattle.typed_model.specs.Weak.{AreWeak}
use Rattle.fault_model.specs.Refused.{AreOfValues}
use Rattle.type_nodes.specs.Nodes.{Node}
use Rattle.type_nodes.specs.Links.{root}
use Rattle.type_nodes.specs.Views.{numbers}
use Rattle.type_terms.specs.declared.types.NodeRef.{NodeRef}
use Rattle.env_table.specs.declared.entries.Entry.{Entry}
use Rattle.env_table.specs.declared.seen.Seen.{Seen}
use Rattle.typed_index.specs.Seen.{seen_at}
use Rattle.type_print.specs.Meeting.{roots_of}
use Rattle.type_print.specs.Shown.{shown}
use Rattle.type_print.specs.Texts.{PrintsIn}
use Rattle.analysis_api.specs.declared.Analysis.{Analysis}
use Rattle.analysis_api.specs.Types.{HasType, AreTyped, AreSettled}
use Rattle.query_engine.specs.declared.asked.Asked.{Asked}
use Rattle.query_engine.specs.Texts.{is_node, type_at, weak_nodes, IsTextOf, IsTypeText, PrintsNode}
use Rattle.shown_laws.proofs.Numbers.{items_low, same_node, IsLow}
use Rattle.shown_laws.proofs.Called.{shown_as}

-- the variables that are shown as weak ones
abbrev pub weak_of : Asked → List ℕ
weak_of a = roots_of a.store.now.nodes (weak_nodes a)

-- what is asked is an analysis, which records types and names in scope
pub record Asks (a : Asked) (x : Analysis) : Type 0 where
  pub index : a.index.now ≡ x.index.now
  pub store : a.store.now ≡ x.store.now
  pub weak : a.weak.now ≡ x.weak.now

below : (n m : ℕ) → n < m → nat_lt n m ≡ true
below n m h = grind (arith, nat_tests)

-- nodes that read as themselves are shown as weak
abbrev AreOwn : List Node → List ℕ → Type 0
AreOwn nodes ns = All (λ v. (v < length nodes) × (root nodes v ≡ v)) ns

all_nodes : (a : Asked) (ns : List ℕ) → AreOwn a.store.now.nodes ns → list_all (is_node a) ns ≡ true
all_nodes a [] own = refl
all_nodes a (n ∷ ns) own =
    let here : is_node a n ≡ true = below n (length a.store.now.nodes) (All-head (λ v. (v < length a.store.now.nodes) × (root a.store.now.nodes v ≡ v)) n ns own).0 in
    let others : list_all (is_node a) ns ≡ true = all_nodes a ns (All-tail (λ v. (v < length a.store.now.nodes) × (root a.store.now.nodes v ≡ v)) n ns own) in
    rw (here, others) refl

roots_same : (nodes : List Node) (ns : List ℕ) → AreOwn nodes ns → roots_of nodes ns ≡ ns
roots_same nodes [] own = refl
roots_same nodes (n ∷ ns) own = λ i. (All-head (λ v. (v < length nodes) × (root nodes v ≡ v)) n ns own).1 i ∷ roots_same nodes ns (All-tail (λ v. (v < length nodes) × (root nodes v ≡ v)) n ns own) i

weak_same : (a : Asked) (x : Analysis) → Asks a x → AreOwn x.store.now.nodes (numbers x.weak.now) → weak_of a ≡ numbers x.weak.now
weak_same a x asks own =
    let here : AreOwn a.store.now.nodes (numbers a.weak.now) = subst (λ ws. AreOwn a.store.now.nodes (numbers ws)) (sym asks.weak) (subst (λ s. AreOwn s.nodes (numbers x.weak.now)) (sym asks.store) own) in
    ap (λ b. roots_of a.store.now.nodes (if b then numbers a.weak.now else [])) (all_nodes a (numbers a.weak.now) here) ∙ roots_same a.store.now.nodes (numbers a.weak.now) here ∙ ap numbers asks.weak

-- what is recorded for a node that has a type: the names in scope there, and the type's node
recorded : (a : Asked) (n : Typed) (seen : Seen) (m : ℕ) → seen_at a.index.now n.id.item n.id.pre ≡ Some seen → option_map (λ (k : NodeRef). k.0) seen.ty ≡ Some m → type_at a n.id ≡ Some (seen.env, m)
recorded a n seen m at typed = ap (option_and_then (λ (s : Seen). option_map {U = List Entry × ℕ} (λ (k : NodeRef). (s.env, k.0)) s.ty)) at ∙ by seen.ty typed
  where
    by : (o : Option NodeRef) → option_map (λ (k : NodeRef). k.0) o ≡ Some m → option_map {U = List Entry × ℕ} (λ (k : NodeRef). (seen.env, k.0)) o ≡ Some (seen.env, m)
    by None e = absurd (let z : None ≡ Some m = e in cc)
    by (Some k) e = let same : k.0 ≡ m = cc in ap (λ i. Some (seen.env, i)) same

-- so its text is that of this node's type with these names
printed : (a : Asked) (n : Typed) (env : List Entry) (m : ℕ) (text : List ℕ) → type_at a n.id ≡ Some (env, m) → is_node a m ≡ true → IsTypeText a n.id text → PrintsNode a env m text
printed a n env m text at there h =
    let of : IsTextOf a env m text = subst (λ (o : Option (List Entry × ℕ)). MatchOption o (text ≡ codes "'a") (λ p. IsTextOf a p.0 p.1 text)) at h in
    subst (λ b. MatchBool b (PrintsNode a env m text) (text ≡ codes "'a")) there of

-- A node for which a type is recorded is shown with this type.
node_shown : (a : Asked) (x : Analysis) → Asks a x → (n : Typed) → IsLow n → (E : Environment) (t : Typ) → HasType x (number_of n.id) E t → (text : List ℕ) → IsTypeText a n.id text → IsShownAs E (weak_of a) t text
node_shown a x asks n low E t h text is =
    let (item, place) = same_node n.id.item n.id.pre h.item h.place low (x.index.now.low h.item h.place h.seen h.at) h.number in
    let at : seen_at a.index.now n.id.item n.id.pre ≡ Some h.seen = ap (λ i. seen_at a.index.now i n.id.pre) item ∙ ap (seen_at a.index.now h.item) place ∙ ap (λ j. seen_at j h.item h.place) asks.index ∙ h.at in
    let there : is_node a h.node ≡ true = below h.node (length a.store.now.nodes) (subst (λ s. h.node < length s.nodes) (sym asks.store) h.inside) in
    let prints = (printed a n h.seen.env h.node text (recorded a n h.seen h.node at h.typed) there is).inside in
    let same : shown a.store.now.nodes h.node ≡ t = ap (λ s. shown s.nodes h.node) asks.store ∙ h.shows in
    shown_as a.store.now.nodes h.seen.env E (weak_of a) t text h.called (subst (λ u. PrintsIn a.store.now.nodes h.seen.env (weak_of a) (variables_of u) u text) same prints)

-- so are nodes in order, each that is told with its type
nodes_shown : (a : Asked) (x : Analysis) → Asks a x → (items : List Tree) (typed : AreTyped items x) (nodes : List Typed) → All IsLow nodes → (texts : List (List ℕ)) → AllZip (λ n text. IsTypeText a n.id text) nodes texts →
    AllZip (IsShownAt typed.typing (weak_of a)) nodes texts
nodes_shown a x asks items typed [] low [] all = tt
nodes_shown a x asks items typed [] low (text ∷ texts) all = absurd all
nodes_shown a x asks items typed (n ∷ ns) low [] all = absurd all
nodes_shown a x asks items typed (n ∷ ns) low (text ∷ texts) all = (
  record { each = λ names u told. node_shown a x asks n (All-head IsLow n ns low) names (typed.typing.choice.type_at (number_of n.id)) (typed.each (number_of n.id) names u told) text all.0 },
  nodes_shown a x asks items typed ns (All-tail IsLow n ns low) texts all.1,
)

-- So the typed nodes that hold an offset are shown, from the last in preorder to the first, with the types of a principal typing and its weak variables.
pub round_shown : (a : Asked) (x : Analysis) → Asks a x → (items : List Tree) → AreOfValues items → (settled : AreSettled items x) (o : ℕ) (texts : List (List ℕ)) → AllZip (λ n text. IsTypeText a n.id text) (reverse (typed_at o items)) texts →
    AreShown items (reverse (typed_at o items)) texts
round_shown a x asks items lets settled o texts all = record {
  typing = settled.typed.typing;
  weak = weak_of a;
  are_weak = λ alone. subst (AreWeak items settled.typed.typing.env settled.typed.typing.kept settled.typed.typing.choice) (sym (weak_same a x asks settled.own)) (settled.weak alone);
  each = nodes_shown a x asks items settled.typed (reverse (typed_at o items))
      (All-permutation IsLow (typed_at o items) (reverse (typed_at o items)) (IsPermutation-reverse (typed_at o items)) (items_low o 1 items lets.few))
      texts all;
}
