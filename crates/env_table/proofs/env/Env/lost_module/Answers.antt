use Rattle.std.proofs.Common.{◌≡◌, ◌∙◌, sym, arith, true, false, ◌<◌, ◌+◌, length, take, map}
use Rattle.text_terms.specs.Bytes.{str_bytes}
use Rattle.signature_model.specs.Lookups.{scope_by}
use Rattle.env_table.specs.Views.{is_named, inside}
use Rattle.env_table.specs.Scopes.{scope_view, is_no_scope}
use Rattle.env_table.proofs.Lost.{scope_on, lost_here, lost_later}
use Rattle.env_table.proofs.env.Env.lost_module.Goals as goal

pub returns-then-is_absent : goal.returns-then-is_absent
returns-then-is_absent c =
    let env = c.args.self.now in
    let ms = c.args.modules.now in
    let i = c.loop-place.place in
    let r = c.index-modules-place.result in
    let within : i < length ms = omega arith in
    let on : scope_view c.inside_module-scope.result ≡ scope_by is_named inside env (map str_bytes (take (i + 1) ms)) =
    c.inside_module-scope.ensures ∙ rw c.as_str.ensures (scope_on env ms i r (scope_view c.loop-place.scope) within c.index-modules-place.is c.loop-place.invariant.0) in
    let absent : is_no_scope (scope_by is_named inside env (map str_bytes (take (i + 1) ms))) ≡ true = rw (← on) (sym c.is_absent.ensures ∙ c.if-is_absent.true) in
    sym (lost_here env ms i r within c.index-modules-place.is absent) ∙ c.loop-place.invariant.1

pub loop-place-preserved : goal.loop-place-preserved
loop-place-preserved c =
    let env = c.args.self.now in
    let ms = c.args.modules.now in
    let i = c.loop-place.place in
    let r = c.index-modules-place.result in
    let within : i < length ms = omega arith in
    let on : scope_view c.inside_module-scope.result ≡ scope_by is_named inside env (map str_bytes (take (i + 1) ms)) =
    c.inside_module-scope.ensures ∙ rw c.as_str.ensures (scope_on env ms i r (scope_view c.loop-place.scope) within c.index-modules-place.is c.loop-place.invariant.0) in
    let there : is_no_scope (scope_by is_named inside env (map str_bytes (take (i + 1) ms))) ≡ false = rw (← on) (sym c.is_absent.ensures ∙ c.if-is_absent.false) in
    (on, sym (lost_later env ms i r within c.index-modules-place.is there) ∙ c.loop-place.invariant.1)
