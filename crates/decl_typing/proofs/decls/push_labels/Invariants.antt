use Rattle.std.proofs.Common.{◌≡◌, ◌++◌, drop}
use Rattle.decl_typing.specs.Entries.{second_names, label_names}
use Rattle.decl_typing.proofs.decls.push_labels.Given as goal

-- the names so far, with those of the parts that are left, are all
abbrev pub invariant-loop-part : goal.invariant-loop-part
invariant-loop-part l = second_names l.names.items ++ label_names (drop l.part-index l.parts) ≡ second_names l.fn.names.items ++ label_names l.fn.parts
