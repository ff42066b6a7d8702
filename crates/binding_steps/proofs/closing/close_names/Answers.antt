use Rattle.std.proofs.Common.{◌∙◌, ◌+◌, ◌<◌, length, drop, [], ◌∷◌, refl, sym, ap, arith}
use Rattle.std.proofs.lemmas.List.{drop_all}
use Rattle.typing_state.proofs.Going.{goes_trans, goes_refl}
use Rattle.typing_state.proofs.Silence.{silent_refl, silent_trans, store_silent}
use Rattle.binding_rows.proofs.LetTurns.{generalises_none, generalises_one, generalises_then}
use Rattle.env_table.specs.Views.{newest_first}
use Rattle.pattern_typing.specs.Matching.{binds_of}
use Rattle.binding_rows.specs.CaseScopes.{names_added}
use Rattle.binding_steps.specs.Bindings.{name_nodes}
use Rattle.binding_steps.proofs.ParameterLaws.{name_step}
use Rattle.binding_steps.proofs.ClosingLaws.{names_begun, name_done, names_done, names_cut, newest_more}
use Rattle.binding_steps.proofs.closing.close_names.Goals as goal

pub loop-name-init : goal.loop-name-init
loop-name-init c = record { goes = goes_refl c.args.at.now; silent = silent_refl c.args.at.now; generalises = names_begun (name_nodes c.args.names.now) (generalises_none c.args.at.now); entries = refl }

pub loop-name-preserved : goal.loop-name-preserved
loop-name-preserved c =
    let all = c.args.names.now in
    let i = c.loop-name.name-index in
    let x = c.name-item.result in
    let lt : i < length all = let n = c.loop-name-test.true in omega arith in
    record {
      goes = goes_trans c.args.at.now c.loop-name.at c.generalise.new.self c.loop-name.invariant.goes c.generalise.ensures.goes;
      silent = silent_trans c.args.at.now c.loop-name.at c.generalise.new.self c.loop-name.invariant.silent (store_silent c.loop-name.at c.generalise.new.self c.generalise.ensures.rest);
      generalises = name_done (name_nodes (drop i all)) (name_nodes (drop (i + 1) all)) (name_nodes all) x.node.0 (names_cut all i x lt c.name-item.is) c.loop-name.invariant.generalises
          (λ ms first. generalises_then c.args.at.now c.loop-name.at c.generalise.new.self ms (x.node.0 ∷ []) first (generalises_one c.in_ok-generalise.ensures.bound c.generalise.ensures.rest));
      entries = name_step all i x _ (newest_first c.args.entries.now.items) (newest_first c.loop-name.entries.items) (newest_first c.push.new.list.items) lt c.name-item.is c.in_ok-share_entry.ensures
          (newest_more c.loop-name.entries.items c.push.new.list.items c.in_ok-share_entry.field-0 c.in_ok-push.ensures.pushed) c.loop-name.invariant.entries;
    }

pub returns-clause-generalises : goal.returns-clause-generalises
returns-clause-generalises c =
    let all = c.args.names.now in
    let i = c.loop-name.name-index in
    names_done (name_nodes (drop i all)) (name_nodes all) (ap name_nodes (drop_all i all c.loop-name-test.false)) c.loop-name.invariant.generalises

pub returns-clause-entries : goal.returns-clause-entries
returns-clause-entries c =
    let all = c.args.names.now in
    ap (λ ns. names_added (binds_of ns) (newest_first c.loop-name.entries.items)) (sym (drop_all c.loop-name.name-index all c.loop-name-test.false)) ∙ c.loop-name.invariant.entries
