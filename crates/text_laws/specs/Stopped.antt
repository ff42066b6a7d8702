-- What is known of a text where two types were reported to differ.
use Rattle.std.specs.Prelude.{◌≡◌, ℕ, Bool, false, List}
use Rattle.signature_model.specs.Matching.{IsKnown}
use Rattle.tree_model.specs.Trees.{Tree}
use Rattle.signature_model.specs.Entries.{Environment}
use Rattle.typing_model.specs.Demands.{Site}
use Rattle.fault_model.specs.Messages.{asked_before, IsPairAt, IsTreatedIn}
use Rattle.type_terms.specs.declared.types.NodeRef.{NodeRef}
use Rattle.type_nodes.specs.Nodes.{Node, IsSound}
use Rattle.type_nodes.specs.Readings.{Types}
use Rattle.level_unify.specs.Solutions.{HaveNoBound}
use Rattle.env_table.specs.declared.entries.Entry.{Entry}
use Rattle.typing_conditions.specs.Locals.{IsOwn}
use Rattle.typing_conditions.specs.Sights.{Report}
use Rattle.typing_conditions.specs.Seeing.{StandsFor}
use Rattle.typing_conditions.specs.Carrying.{without_values, ShowsBoth}

-- A report that two types differ is that of the demand of a site, which isn't kept: it is at the demand's place, and its message shows the nodes of a store whose own types are the demand's two types, with the
-- names of the code, which stand for those of an environment that is the one in which the demand's node is treated, but for values. No bound variable and no unknown type stands in them.
pub record IsStopped (env : Environment) (text : List Tree) (kept : Site → Bool) (site : Site) (r : Report) : Type 0 where
  pub refused : kept site ≡ false
  pub nodes : List Node
  pub sound : IsSound nodes
  pub types : Types
  pub own : IsOwn nodes types
  pub known : (m : ℕ) → IsKnown (types m)
  pub found : NodeRef
  pub wanted : NodeRef
  pub pair : IsPairAt env text kept site r.at (types found.0) (types wanted.0)
  pub treated_in : Environment
  pub in_scope : IsTreatedIn site.node treated_in (asked_before env text kept site pair.choice)
  pub names : List Entry
  pub names_of : Environment
  pub alike : without_values names_of ≡ without_values treated_in
  pub stands : StandsFor types names names_of
  pub shows : ShowsBoth nodes names found wanted r.message
  pub unbound : HaveNoBound nodes found.0 wanted.0
