use Rattle.type_reading.proofs.Filling.{store_then}
use Rattle.std.proofs.Common.{◌≡◌, ◌∙◌, ◌<◌, [], ◌∷◌, length, Some, option_map, rules, arith, sym, ap, subst}
use Rattle.std.proofs.lemmas.Result.{IfOk-weaker}
use Rattle.env_table.specs.declared.entries.Declaration.{Declaration}
use Rattle.typing_steps.proofs.Schemes.{plain_nodes}
use Rattle.operand_laws.specs.Operands.{number_of}
use Rattle.decl_typing.specs.Owned.{RootClosed}
use Rattle.decl_typing.proofs.Owned.{own_root_closed}
use Rattle.type_expressions.proofs.Untyped.{untyped_then, store_untyped, ok_any}
use Rattle.typing_state.proofs.Going.{goes_trans}
use Rattle.decl_typing.proofs.Levels.{with_level, deeper_goes, deeper_store, deeper_untyped}
use Rattle.decl_typing.proofs.decls.opaque.Goals as goal

pub returns-clause-goes : goal.returns-clause-goes
returns-clause-goes c = goes_trans c.args.at.now (with_level c.own_root-made.new.at c.args.at.now.level) c.generalise.new.self (deeper_goes c.args.at.now c.own_root-made.new.at c.saturating_add-at.result c.args.at.now.level c.own_root-made.ensures.goes) c.generalise.ensures.goes

pub returns-in_err-generalise-clause-goes : goal.returns-in_err-generalise-clause-goes
returns-in_err-generalise-clause-goes c = goes_trans c.args.at.now (with_level c.own_root-made.new.at c.args.at.now.level) c.generalise.new.self (deeper_goes c.args.at.now c.own_root-made.new.at c.saturating_add-at.result c.args.at.now.level c.own_root-made.ensures.goes) c.generalise.ensures.goes

pub returns-in_err-origin_at-clause-goes : goal.returns-in_err-origin_at-clause-goes
returns-in_err-origin_at-clause-goes c = goes_trans c.args.at.now (with_level c.own_root-made.new.at c.args.at.now.level) c.generalise.new.self (deeper_goes c.args.at.now c.own_root-made.new.at c.saturating_add-at.result c.args.at.now.level c.own_root-made.ensures.goes) c.generalise.ensures.goes

pub returns-in_err-origin_at-2-clause-goes : goal.returns-in_err-origin_at-2-clause-goes
returns-in_err-origin_at-2-clause-goes c = goes_trans c.args.at.now (with_level c.own_root-made.new.at c.args.at.now.level) c.generalise.new.self (deeper_goes c.args.at.now c.own_root-made.new.at c.saturating_add-at.result c.args.at.now.level c.own_root-made.ensures.goes) c.generalise.ensures.goes

pub returns-in_err-root-clause-goes : goal.returns-in_err-root-clause-goes
returns-in_err-root-clause-goes c = deeper_goes c.args.at.now c.own_root-made.new.at c.saturating_add-at.result c.args.at.now.level c.own_root-made.ensures.goes

pub returns-clause-untyped : goal.returns-clause-untyped
returns-clause-untyped c = ok_any c.owned.result _ (untyped_then (deeper_untyped c.args.at.now c.own_root-made.new.at c.saturating_add-at.result c.args.at.now.level c.in_ok-root.ensures.untyped) (store_untyped (with_level c.own_root-made.new.at c.args.at.now.level) c.generalise.new.self c.generalise.ensures.rest))

pub returns-clause-means : goal.returns-clause-means
returns-clause-means c =
    let at = c.args.at.now in
    let made = c.own_root-made.new.at in
    let after = c.generalise.new.self in
    let part = c.args.part.now in
    let item : after.item ≡ at.item = c.generalise.ensures.rest.item ∙ c.own_root-made.ensures.rest.item in
    let many : c.len.result ≡ length part.parameters.items = search rules in
    IfOk-weaker c.owned.result _ _ (λ d is. record {
      closes = λ lowest F U A assigns. subst (λ r. RootClosed F U at after A part r) (sym (ap (λ (x : Declaration). x.root.0) is))
          (own_root_closed at made after c.saturating_add-at.result part c.in_ok-root.root.0 (λ e. omega arith) c.in_ok-root.ensures.means c.in_ok-generalise.ensures.bound c.in_ok-generalise.ensures.sound (plain_nodes after.store.nodes c.len-nodes.ensures.plain) c.generalise.ensures.rest lowest F U A assigns);
      shape = ap (λ (x : Declaration). x.shape) is;
      arity = λ small. ap (λ (x : Declaration). x.arity) is ∙ c.number_of.ensures (subst (λ k. k < 4294967296) (sym many) small) ∙ many;
      origin = ap (λ (x : Declaration). option_map (λ o. o.path.items) x.origin) is ∙ ap (λ q. Some q) (c.in_ok-origin_at.ensures.path ∙ ap (λ i. number_of i part.number ∷ []) item);
      defines = ap (λ (x : Declaration). option_map (λ o. o.path.items) x.defines) is ∙ ap (λ q. Some q) (c.in_ok-origin_at-2.ensures.path ∙ ap (λ i. number_of i part.number ∷ []) item);
    }) c.owned.ensures

pub returns-clause-rest : goal.returns-clause-rest
returns-clause-rest c = store_then (deeper_store c.args.at.now c.own_root-made.new.at c.saturating_add-at.result c.own_root-made.ensures.rest) c.generalise.ensures.rest

pub returns-in_err-generalise-clause-rest : goal.returns-in_err-generalise-clause-rest
returns-in_err-generalise-clause-rest c = store_then (deeper_store c.args.at.now c.own_root-made.new.at c.saturating_add-at.result c.own_root-made.ensures.rest) c.generalise.ensures.rest

pub returns-in_err-origin_at-clause-rest : goal.returns-in_err-origin_at-clause-rest
returns-in_err-origin_at-clause-rest c = store_then (deeper_store c.args.at.now c.own_root-made.new.at c.saturating_add-at.result c.own_root-made.ensures.rest) c.generalise.ensures.rest

pub returns-in_err-origin_at-2-clause-rest : goal.returns-in_err-origin_at-2-clause-rest
returns-in_err-origin_at-2-clause-rest c = store_then (deeper_store c.args.at.now c.own_root-made.new.at c.saturating_add-at.result c.own_root-made.ensures.rest) c.generalise.ensures.rest

pub returns-in_err-root-clause-rest : goal.returns-in_err-root-clause-rest
returns-in_err-root-clause-rest c = deeper_store c.args.at.now c.own_root-made.new.at c.saturating_add-at.result c.own_root-made.ensures.rest
