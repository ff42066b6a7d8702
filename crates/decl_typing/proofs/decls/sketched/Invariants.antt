use Rattle.std.proofs.Common.{◌++◌, List, drop}
use Rattle.std.specs.declared.rc.Rc.{Rc}
use Rattle.std.specs.declared.alloc.Global.{Global}
use Rattle.env_table.specs.declared.entries.Declaration.{Declaration}
use Rattle.typing_state.specs.declared.parts.Parts.{Parts}
use Rattle.typing_state.specs.Goes.{Goes}
use Rattle.type_expressions.specs.Untyped.{Untyped}
use Rattle.decl_typing.specs.Owned.{AreOwnRights, AreOpaque}
use Rattle.decl_typing.proofs.decls.sketched.Given as goal

-- those that are left are made after those so far
abbrev pub invariant-loop-part : goal.invariant-loop-part
invariant-loop-part l = record {
  goes : Goes l.fn.at l.at;
  untyped : Untyped l.fn.at l.at;
  own : (c : Parts) (ds : List (Rc Declaration Global)) → AreOpaque l.at c (drop l.part-index l.parts) ds → AreOpaque l.fn.at c l.parts (l.declared.items ++ ds);
}

abbrev pub invariant-loop-place : goal.invariant-loop-place
invariant-loop-place l = record {
  goes : Goes l.fn.at l.at;
  untyped : Untyped l.fn.at l.at;
  own : AreOwnRights l.parts → AreOpaque l.fn.at l.at l.parts l.declared.items;
}
