use Rattle.std.proofs.Common.{◌≡◌, map, drop}
use Rattle.text_terms.specs.Bytes.{str_bytes}
use Rattle.signature_model.specs.Lookups.{through, scope_by}
use Rattle.env_table.specs.Views.{is_named, inside}
use Rattle.env_table.specs.Scopes.{scope_view}
use Rattle.env_table.proofs.env.Env.scope_behind.Given as goal

abbrev pub invariant-loop-name : goal.invariant-loop-name
invariant-loop-name l =
    through (scope_view l.scope) (λ env. scope_by is_named inside env (map str_bytes (drop l.name-index l.modules)))
    ≡ scope_by is_named inside l.self (map str_bytes l.modules)
