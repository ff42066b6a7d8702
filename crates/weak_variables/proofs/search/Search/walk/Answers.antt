use Rattle.std.proofs.Common.{◌≡◌, ◌∙◌, true, false, sym}
use Rattle.std.specs.Prelude.{nat_eq}
use Rattle.std.specs.HashSet.{contains}
use Rattle.type_nodes.specs.Views.{numbers}
use Rattle.weak_variables.specs.Search.{is_listed}
use Rattle.weak_variables.proofs.Walked.{walk_none}
use Rattle.weak_variables.proofs.search.Search.walk.Goals as goal

pub returns-then-is_node : goal.returns-then-is_node
returns-then-is_node c = c.walk_at.ensures

pub returns : goal.returns
returns c = walk_none c.args.at.now.store.nodes c.args.n.0 (contains nat_eq c.args.walked.now) (is_listed c.args.self.now) (numbers c.args.self.now.found.items) (λ inside. let t : true ≡ false = sym (c.is_node.ensures.1 inside) ∙ c.if-is_node.false in absurd (cc))
