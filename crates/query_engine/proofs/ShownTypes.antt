-- Typed nodes with their types, one by one.
use Rattle.std.proofs.Common.{◌≡◌, ◌<◌, ◌≤◌, ℕ, ◌+◌, List, [], ◌∷◌, ◌++◌, refl, ap, sym, ◌∙◌, subst, map, take, length, get_or}
use Rattle.std.specs.List.{AllZip}
use Rattle.std.proofs.lemmas.List.{map-append, take_all, take_more}
use Rattle.std.proofs.lemmas.Slice.Zip.{all_zipped_more}
use Rattle.tree_model.specs.Trees.{Place}
use Rattle.query_model.specs.TypedNodes as model
use Rattle.query_engine.specs.declared.asked.Asked.{Asked}
use Rattle.query_engine.specs.declared.typed_nodes.TypedNode.{TypedNode}
use Rattle.query_engine.specs.declared.types.Typed.{Typed}
use Rattle.query_engine.specs.Typed.{node_of, span_of}
use Rattle.query_engine.specs.Texts.{IsShown}

-- one more is shown
pub shown_more : (a : Asked) (nodes : List TypedNode) (i : ℕ) (any : TypedNode) (types new : List Typed) (one : Typed) → i < length nodes → AllZip (IsShown a) (map node_of (take i nodes)) types
    → IsShown a (node_of (get_or nodes i any)) one → new ≡ types ++ one ∷ [] → AllZip (IsShown a) (map node_of (take (i + 1) nodes)) new
shown_more a nodes i any types new one lt all here put =
    let more : map node_of (take (i + 1) nodes) ≡ map node_of (take i nodes) ++ node_of (get_or nodes i any) ∷ [] =
    ap (map node_of) (take_more nodes i any lt) ∙ map-append node_of (take i nodes) (get_or nodes i any ∷ []) in
    subst (AllZip (IsShown a) (map node_of (take (i + 1) nodes))) (sym put)
    (subst (λ ns. AllZip (IsShown a) ns (types ++ one ∷ [])) (sym more) (all_zipped_more (IsShown a) (map node_of (take i nodes)) types (node_of (get_or nodes i any)) one all here))

-- all are shown
pub shown_all : (a : Asked) (nodes : List TypedNode) (i : ℕ) (types : List Typed) → length nodes ≤ i → AllZip (IsShown a) (map node_of (take i nodes)) types → AllZip (IsShown a) (map node_of nodes) types
shown_all a nodes i types done all = subst (λ (ns : List TypedNode). AllZip (IsShown a) (map node_of ns) types) (take_all i nodes done) all

-- they stand where the nodes do
pub shown_places : (a : Asked) (ns : List model.Typed) (types : List Typed) → AllZip (IsShown a) ns types → map span_of types ≡ map (λ n. n.span) ns
shown_places a [] [] all = refl
shown_places a [] (t ∷ ts) all = absurd all
shown_places a (n ∷ ns) [] all = absurd all
shown_places a (n ∷ ns) (t ∷ ts) all = ap (λ (p : Place). p ∷ map span_of ts) all.0.place ∙ ap (λ (ps : List Place). n.span ∷ ps) (shown_places a ns ts all.1)
