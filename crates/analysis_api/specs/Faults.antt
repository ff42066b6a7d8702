-- What the typer's faults are in the definitions.
use Rattle.text_terms.specs.Bytes.{str_bytes}
use Rattle.syntax_tree.specs.View.{place_of}
use Rattle.query_model.specs.Faults as model
use Rattle.query_model.specs.Faults.{TyperFault, TyperKind}
use Rattle.env_table.specs.declared.faults.Fault as typer
use Rattle.env_table.specs.declared.faults.FaultKind.{FaultKind}
use Rattle.env_table.specs.declared.faults.FaultKind.TheVariants as kind

-- a kind of the typer's faults
abbrev pub kind_of : FaultKind → TyperKind
kind_of kind.Bound = model.bound
kind_of kind.Equal = model.equal
kind_of kind.Arity = model.arity
kind_of kind.Label = model.label
kind_of kind.Mutable = model.mutable
kind_of kind.Complete = model.complete
kind_of kind.Unique = model.unique
kind_of kind.Sides = model.sides
kind_of kind.Range = model.range
kind_of kind.Cycle = model.cycle
kind_of kind.Reexport = model.reexport
kind_of kind.Functor = model.functor
kind_of kind.With = model.with
kind_of kind.Closing = model.closing
kind_of kind.Match = model.matching
kind_of kind.Missed = model.missed
kind_of kind.Unused = model.unused

-- a fault of the typer
abbrev pub typer_fault_of : typer.Fault → TyperFault
typer_fault_of f = record { span = place_of f.span; kind = kind_of f.kind; message = str_bytes f.message }
