use Rattle.std.proofs.Common.{List, sym, subst}
use Rattle.std.specs.Prelude.{All, IsTrue}
use Rattle.type_terms.specs.declared.types.NodeRef.{NodeRef}
use Rattle.type_nodes.specs.Nodes.{IsNode}
use Rattle.type_nodes.specs.Views.{numbers}
use Rattle.level_unify.specs.Walks.{Reached}
use Rattle.scheme_match.proofs.Unknowns.{roots_inside, told}
use Rattle.scheme_match.proofs.unknown.has_unknown.Goals as goal

pub any_unknown-requires : goal.any_unknown-requires
any_unknown-requires c = subst (λ (ns : List NodeRef). All (IsNode c.args.store.now.nodes) (numbers ns)) (sym c.deref.ensures.value) (roots_inside c.args.store.now.nodes c.args.node.0 (numbers c.in_ok-found.found.items) c.in_ok-found.ensures.found)

pub returns : goal.returns
returns c =
    told c.args.store.now.nodes c.args.node.0 (numbers c.deref.result.now) c.any_unknown.result
    (subst (λ (ns : List NodeRef). Reached c.args.store.now.nodes c.args.node.0 (numbers ns)) (sym c.deref.ensures.value) c.in_ok-found.ensures.found) c.any_unknown.ensures
