use Rattle.weak_variables.proofs.Searching.{look_reached}
use Rattle.weak_variables.proofs.search.Search.look_at.Goals as goal

pub returns : goal.returns
returns c = look_reached c.args.at.now.store.nodes c.args.n.0 c.in_ok-found.found.items c.deref.result.now _ _ _ _ c.in_ok-found.ensures.found c.deref.ensures.value c.in_ok-list_all.ensures
