use Rattle.std.proofs.Common.{◌∙◌, ap}
use Rattle.env_table.specs.Scopes.{scope_view, scope_in}
use Rattle.env_table.proofs.Lost.{through_found}
use Rattle.env_table.proofs.lookup.inside_module.Goals as goal

pub returns : goal.returns
returns c = c.inside_found.ensures ∙ ap scope_in c.newest.ensures ∙ through_found (scope_view c.args.scope) c.args.name.now
