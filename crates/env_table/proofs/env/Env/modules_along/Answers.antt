use Rattle.std.proofs.Common.{◌≡◌, ◌∙◌, ◌++◌, ◌∷◌, ◌+◌, ◌<◌, [], map, take, drop, length, ap, arith}
use Rattle.std.proofs.lemmas.List.{map-append}
use Rattle.text_terms.specs.Bytes.{str_bytes}
use Rattle.signature_model.specs.Entries.{module_kind}
use Rattle.signature_model.specs.Lookups.{found_in, scope_by}
use Rattle.env_table.specs.Views.{found_view, is_named, inside}
use Rattle.env_table.specs.Scopes.{scope_view, scope_in, modules_along}
use Rattle.env_table.proofs.Lost.{along_more, scope_on, through_found}
use Rattle.env_table.proofs.env.Env.modules_along.Goals as goal

pub loop-name-preserved : goal.loop-name-preserved
loop-name-preserved c =
    let env = c.args.self.now in
    let ms = c.args.modules.now in
    let i = c.loop-name.name-index in
    let r = c.name-item.result in
    let s = scope_view c.loop-name.scope in
    let within : i < length ms = let n = c.loop-name-test.true in omega arith in
    let it : found_view c.newest-module.result ≡ found_in (is_named module_kind (str_bytes r)) s = c.newest-module.ensures ∙ ap (λ n. found_in (is_named module_kind n) s) c.as_str.ensures in
    let on : scope_view c.inside_found-scope.result ≡ scope_by is_named inside env (map str_bytes (take (i + 1) ms)) =
    c.inside_found-scope.ensures ∙ ap scope_in it ∙ through_found s (str_bytes r) ∙ scope_on env ms i r s within c.name-item.is c.loop-name.invariant.0 in
    let grown : map found_view c.push.new.self.items ≡ map found_view c.loop-name.along.items ++ found_in (is_named module_kind (str_bytes r)) s ∷ [] =
    ap (map found_view) c.in_ok-push.ensures.items ∙ map-append found_view c.loop-name.along.items (c.newest-module.result ∷ []) ∙ ap (λ f. map found_view c.loop-name.along.items ++ f ∷ []) it in
    (on, ap (λ fs. fs ++ modules_along env (map str_bytes (take (i + 1) ms)) (map str_bytes (drop (i + 1) ms))) grown ∙ along_more env ms i r s (map found_view c.loop-name.along.items) _ within c.name-item.is c.loop-name.invariant.0 c.loop-name.invariant.1)
