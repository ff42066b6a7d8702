use Rattle.std.proofs.Common.{◌≡◌, ◌++◌, drop}
use Rattle.std.specs.List.{filter}
use Rattle.type_nodes.specs.Views.{numbers}
use Rattle.module_steps.specs.Closing.{is_open}
use Rattle.module_steps.proofs.closing.add_open.Given as goal

abbrev pub invariant-loop-n : goal.invariant-loop-n
invariant-loop-n l =
    let test = is_open l.at.store.nodes l.scope in
    numbers l.free.items ++ filter test (numbers (drop l.n-index l.nodes)) ≡ numbers l.fn.free.items ++ filter test (numbers l.nodes)
