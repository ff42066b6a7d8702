use Rattle.std.proofs.Common.{◌≡◌, map, drop}
use Rattle.binding_rows.specs.CaseScopes.{names_added}
use Rattle.binding_rows.specs.Groups.{names_opened}
use Rattle.binding_steps.specs.Bindings.{opened_of}
use Rattle.binding_steps.proofs.groups.with_group.Given as goal

abbrev pub invariant-loop-one : goal.invariant-loop-one
invariant-loop-one l = names_added (names_opened (map opened_of (drop l.one-index l.opened))) l.within ≡ names_added (names_opened (map opened_of l.opened)) l.env
