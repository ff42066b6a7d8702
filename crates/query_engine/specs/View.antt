-- What the engine's own types are in the definitions.
use Rattle.std.specs.Prelude.{ℕ, List, map}
use Rattle.text_terms.specs.Bytes.{str_bytes}
use Rattle.text_terms.specs.declared.RcStr.{RcStr}
use Rattle.query_model.specs.Outlines as model
use Rattle.query_model.specs.Outlines.{Kind}
use Rattle.query_engine.specs.declared.slots.OutlineKind.{OutlineKind}
use Rattle.query_engine.specs.declared.slots.OutlineKind.TheVariants as code
use Rattle.query_engine.specs.declared.slots.Binder.{Binder}

-- what a name stands for
abbrev pub kind_of : OutlineKind → Kind
kind_of code.Value = model.value
kind_of code.TypeName = model.type_name
kind_of code.Exception = model.exception_name
kind_of code.Module = model.module_name
kind_of code.ModuleType = model.module_type

-- what an item binds, and the way to its names
abbrev pub binder_of : Binder → Kind × List ℕ
binder_of b = (kind_of b.kind, b.way.now)

-- the names, as bytes
abbrev pub names_of : List RcStr → List (List ℕ)
names_of names = map str_bytes names
