use Rattle.std.specs.Prelude.{nat_eq}
use Rattle.std.specs.HashSet.{contains}
use Rattle.weak_variables.proofs.Walked.{walk_reached}
use Rattle.weak_variables.proofs.search.Search.walk_at.Goals as goal

pub returns : goal.returns
returns c =
    walk_reached c.args.at.now.store.nodes c.args.n.0 c.in_ok-found.found.items c.deref.result.now (contains nat_eq c.args.walked.now) (contains nat_eq c.reached_beyond.new.done) _ _ _ _ c.in_ok-found.ensures.sound c.in_ok-found.ensures.found c.deref.ensures.value c.in_ok-list_all.ensures
