use Rattle.decl_groups.specs.Marks.{AreUnset}
use Rattle.decl_typing.specs.Owned.{AreOwnRights}
use Rattle.decl_typing.proofs.decls.which_rename.Given as goal

abbrev pub invariant-loop-part : goal.invariant-loop-part
invariant-loop-part l = AreOwnRights l.parts → AreUnset l.renames.items

abbrev pub invariant-loop-place : goal.invariant-loop-place
invariant-loop-place l = AreOwnRights l.parts → AreUnset l.renames.items
