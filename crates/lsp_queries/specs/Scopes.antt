-- What is completed, as the definitions have it.
use Rattle.lsp_queries.specs.Prefixes as model
use Rattle.lsp_queries.specs.declared.prefix.Scope.{Scope}
use Rattle.lsp_queries.specs.declared.prefix.Scope.TheVariants.{Names, Labels, Nothing}

-- what is completed
abbrev pub scope_in : Scope → model.Scope
scope_in Names = model.all_names
scope_in Labels = model.only_labels
scope_in Nothing = model.no_names
