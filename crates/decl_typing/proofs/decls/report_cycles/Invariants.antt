use Rattle.std.proofs.Common.{◌≡◌}
use Rattle.decl_typing.specs.Owned.{AreOwnRights}
use Rattle.typing_state.specs.Goes.{Goes}
use Rattle.type_expressions.specs.Untyped.{Untyped}
use Rattle.decl_typing.proofs.decls.report_cycles.Given as goal

abbrev pub invariant-loop-place : goal.invariant-loop-place
invariant-loop-place l = record { goes : Goes l.fn.at l.at; untyped : Untyped l.fn.at l.at; own : AreOwnRights l.parts → l.at ≡ l.fn.at }
