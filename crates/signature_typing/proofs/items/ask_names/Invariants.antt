use Rattle.std.proofs.Common.{map, drop}
use denote.Ref.{Bor}
use Rattle.syntax_tree.specs.declared.Token.{Token}
use Rattle.typing_state.specs.declared.parts.Parts.{Parts}
use Rattle.typing_state.specs.Goes.{Goes, OnlyFaults}
use Rattle.module_steps.specs.declared.scenes.Scene.{Scene}
use Rattle.module_steps.specs.Scenes.{OnlyNames}
use Rattle.signature_typing.specs.TypeItems.{AsksEach}
use Rattle.signature_typing.proofs.items.ask_names.Given as goal

-- those that are left are asked after those so far
abbrev pub invariant-loop-name : goal.invariant-loop-name
invariant-loop-name l = record {
  asked : (s : Scene) (c : Parts) → AsksEach (map (λ (t : Bor Token). t.now) (drop l.name-index l.names)) l.scene s l.at c → AsksEach (map (λ (t : Bor Token). t.now) l.names) l.fn.scene s l.fn.at c;
  scene : OnlyNames l.fn.scene l.scene;
  rest : OnlyFaults l.fn.at l.at;
  goes : Goes l.fn.at l.at;
}
