-- What was read of a prefix, in the definitions.
use Rattle.std.specs.Prelude.{◌≡◌, Bool, true, false}
use Rattle.query_model.specs.Prefixes as model
use Rattle.query_engine.specs.declared.asked.QueryFault.{QueryFault}
use Rattle.query_engine.specs.declared.asked.QueryFault.TheVariants.{NoNode, NotAName, Unbound, NoMemory}
use Rattle.name_queries.specs.declared.prefixes.Read.{Read}
use Rattle.name_queries.specs.declared.prefixes.Read.TheVariants as code

-- what the code has read of a prefix
abbrev pub read_of : Read → model.Read
read_of code.Start = model.at_start
read_of code.Module = model.in_module
read_of code.Name = model.in_name
read_of code.Other = model.other

-- a fault of a prefix, by whether it has the form of one
abbrev pub IsNoPrefix : QueryFault → Bool → Type 0
IsNoPrefix NotAName b = b ≡ false
IsNoPrefix (Unbound ident) b = b ≡ true
IsNoPrefix NoNode b = ⊥
IsNoPrefix NoMemory b = Unit {0}
