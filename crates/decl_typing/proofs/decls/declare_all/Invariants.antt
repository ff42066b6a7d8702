use Rattle.std.proofs.Common.{List, [], drop}
use Rattle.std.specs.declared.rc.Rc.{Rc}
use Rattle.std.specs.declared.alloc.Global.{Global}
use Rattle.env_table.specs.declared.entries.Entry.{Entry}
use Rattle.typing_state.specs.declared.parts.Parts.{Parts}
use Rattle.typing_state.specs.Goes.{Goes}
use Rattle.type_expressions.specs.Untyped.{Untyped}
use Rattle.decl_groups.specs.Marks.{AreUnset}
use Rattle.decl_typing.specs.Groups.{DeclaresEach}
use Rattle.decl_typing.specs.Owned.{AreOwnRights}
use Rattle.decl_typing.proofs.decls.declare_all.Given as goal

-- those that are left are declared after those so far
abbrev pub invariant-loop-place : goal.invariant-loop-place
invariant-loop-place l = record {
  goes : Goes l.fn.at l.at;
  untyped : Untyped l.fn.at l.at;
  own : AreOwnRights l.parts → AreUnset l.renames → (c : Parts) (after : List (Rc Entry Global)) → DeclaresEach l.inner l.at c (drop l.place l.parts) l.entries.items after → DeclaresEach l.inner l.fn.at c l.parts [] after;
}
