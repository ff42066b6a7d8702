use Rattle.std.proofs.Common.{◌≡◌, [], map, drop, take}
use Rattle.text_terms.specs.Bytes.{str_bytes}
use Rattle.signature_model.specs.Lookups.{scope_by}
use Rattle.env_table.specs.Views.{is_named, inside}
use Rattle.env_table.specs.Scopes.{scope_view, lost_behind}
use Rattle.env_table.proofs.env.Env.lost_module.Given as goal

abbrev pub invariant-loop-place : goal.invariant-loop-place
invariant-loop-place l =
    let path = map str_bytes (take l.place l.modules) in
    (scope_view l.scope ≡ scope_by is_named inside l.self path)
    × (lost_behind l.self path l.place (map str_bytes (drop l.place l.modules)) ≡ lost_behind l.self [] 0 (map str_bytes l.modules))
