use Rattle.type_nodes.specs.Views.{numbers}
use Rattle.weak_variables.specs.Search.{is_listed}
use Rattle.weak_variables.proofs.Searching.{on_ok, list_free, list_none}
use Rattle.weak_variables.proofs.search.Search.list.Goals as goal

pub returns-then-is_free : goal.returns-then-is_free
returns-then-is_free c = on_ok c.put.result (list_free c.args.at.now.store.nodes _ _ _ _ c.args.n.0 c.is_free.result c.is_free.ensures c.if-is_free.true) c.put.ensures

pub returns : goal.returns
returns c = list_none c.args.at.now.store.nodes (is_listed c.args.self.now) (numbers c.args.self.now.found.items) c.args.n.0 c.is_free.result c.is_free.ensures c.if-is_free.false
