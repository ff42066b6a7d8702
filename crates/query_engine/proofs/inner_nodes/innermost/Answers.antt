use Rattle.std.proofs.Common.{◌≡◌, List, option_map, slice_get, ap, sym, ◌∙◌}
use Rattle.std.proofs.lemmas.Option.{slice_get-map}
use Rattle.query_model.specs.TypedNodes.{Typed}
use Rattle.query_engine.specs.Typed.{node_of}
use Rattle.query_engine.proofs.inner_nodes.innermost.Goals as goal

-- src/inner_nodes.rt:13:1
pub returns : goal.returns
returns c =
    let nodes = c.in_ok-nodes.nodes.items in
    let first : c.copied.result ≡ slice_get nodes 0 = cc in
    ap (option_map node_of) first ∙ sym (slice_get-map node_of nodes 0) ∙ ap (λ (ns : List Typed). slice_get ns 0) c.in_ok-nodes.ensures
