use Rattle.type_nodes.specs.Views.{numbers}
use Rattle.std.proofs.Common.{◌∙◌, sym, ap}
use Rattle.weak_variables.specs.Search.{is_listed}
use Rattle.weak_variables.proofs.Searching.{adds_none, adds_one, number_last}
use Rattle.weak_variables.proofs.search.Search.put.Goals as goal

pub returns-then-contains : goal.returns-then-contains
returns-then-contains c = adds_none (is_listed c.args.self.now) (numbers c.args.self.now.found.items) (λ v same. ap (is_listed c.args.self.now) same ∙ sym c.contains.ensures ∙ c.if-contains.true)

pub returns : goal.returns
returns c = adds_one (is_listed c.args.self.now) _ c.args.n.0 (numbers c.args.self.now.found.items) (numbers c.push.new.list.items) c.in_ok-insert.ensures.updates.0 (number_last c.args.self.now.found.items c.push.new.list.items c.args.n c.in_ok-push.ensures.pushed)
