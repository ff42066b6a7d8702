use Rattle.std.proofs.Common.{◌≡◌, ◌++◌, drop}
use Rattle.type_nodes.specs.Views.{numbers}
use Rattle.pattern_typing.specs.Matching.{nodes_of}
use Rattle.pattern_typing.proofs.patterns.types_of.Given as goal

abbrev pub invariant-loop-one : goal.invariant-loop-one
invariant-loop-one l = numbers l.types.items ++ nodes_of (drop l.one-index l.typed) ≡ nodes_of l.typed
