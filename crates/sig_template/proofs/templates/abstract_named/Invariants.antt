use Rattle.std.proofs.Common.{◌≡◌, length}
use Rattle.env_table.specs.Views.{names_of}
use Rattle.type_reading.specs.Copying.{paths_of}
use Rattle.sig_template.specs.Abstract.{abstract_in, abstract_named}
use Rattle.sig_template.proofs.templates.abstract_named.Given as goal

abbrev pub invariant-loop-entry : goal.invariant-loop-entry
invariant-loop-entry l = abstract_in (paths_of l.template.made.items) l.name l.arity (names_of l.rest) ≡ abstract_named l.template l.name l.arity

abbrev pub decreases-loop-entry : goal.decreases-loop-entry
decreases-loop-entry l = length (names_of l.rest)
