use Rattle.std.proofs.Common.{List, length}
use Rattle.type_terms.specs.declared.types.NodeRef.{NodeRef}
use Rattle.env_table.specs.Views.{names_of}
use Rattle.module_steps.specs.Closing.{HasOpenAmong, Finds}
use Rattle.module_steps.proofs.closing.+closing.Given as goal

abbrev pub decreases-add_in_entry : goal.decreases-add_in_entry
decreases-add_in_entry l = l.depth.0

abbrev pub decreases-add_in_sig : goal.decreases-add_in_sig
decreases-add_in_sig l = l.depth.0

abbrev pub decreases-add_in_entries : goal.decreases-add_in_entries
decreases-add_in_entries l = l.depth.0

abbrev pub decreases-add_in_entries-loop-entry : goal.decreases-add_in_entries-loop-entry
decreases-add_in_entries-loop-entry l = length (names_of l.rest)

abbrev pub invariant-add_in_entries-loop-entry : goal.invariant-add_in_entries-loop-entry
invariant-add_in_entries-loop-entry l = (new : List NodeRef) → Finds (HasOpenAmong l.at.store.nodes l.scope (names_of l.rest)) l.free.items new →
    Finds (HasOpenAmong l.at.store.nodes l.scope (names_of l.fn.entries)) l.fn.free.items new
