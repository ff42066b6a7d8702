use Rattle.std.proofs.Common.{◌≡◌, ◌++◌, [], map, drop, take}
use Rattle.text_terms.specs.Bytes.{str_bytes}
use Rattle.signature_model.specs.Lookups.{scope_by}
use Rattle.env_table.specs.Views.{found_view, is_named, inside}
use Rattle.env_table.specs.Scopes.{scope_view, modules_along}
use Rattle.env_table.proofs.env.Env.modules_along.Given as goal

abbrev pub invariant-loop-name : goal.invariant-loop-name
invariant-loop-name l =
    let path = map str_bytes (take l.name-index l.modules) in
    (scope_view l.scope ≡ scope_by is_named inside l.self path)
    × (map found_view l.along.items ++ modules_along l.self path (map str_bytes (drop l.name-index l.modules)) ≡ modules_along l.self [] (map str_bytes l.modules))
