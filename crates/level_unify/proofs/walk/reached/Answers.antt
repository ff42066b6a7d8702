use Rattle.std.proofs.Common.{ap}
use Rattle.std.specs.Prelude.{nat_eq}
use Rattle.std.specs.List.{list_any}
use Rattle.std.specs.HashSet.{contains}
use Rattle.type_nodes.specs.Views.{numbers}
use Rattle.level_unify.proofs.Walking.{reached_whole}
use Rattle.level_unify.proofs.walk.reached.Goals as goal

pub returns-clause-found : goal.returns-clause-found
returns-clause-found c =
    reached_whole c.args.store.now.nodes (contains nat_eq c.new-done.result) (contains nat_eq c.reached_beyond.new.done) c.args.from.0 (λ v. numbers v.items) c.reached_beyond.result c.reached_beyond.ensures.sound
    (λ n. ap (list_any (nat_eq n)) c.new-done.ensures.empty) c.reached_beyond.ensures.found
