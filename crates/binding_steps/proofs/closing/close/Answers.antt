use Rattle.std.proofs.Common.{◌≡◌, ◌∙◌, ◌++◌, ◌<◌, length, map, drop, sym, ap, subst, arith}
use Rattle.std.proofs.lemmas.List.{drop_all}
use Rattle.typing_state.specs.declared.parts.Parts.{Parts}
use Rattle.typing_state.proofs.Going.{goes_trans}
use Rattle.typing_state.proofs.Silence.{silent_trans}
use Rattle.env_table.specs.Views.{newest_first}
use Rattle.pattern_typing.specs.Matching.{binds_of}
use Rattle.binding_rows.specs.CaseScopes.{names_added}
use Rattle.binding_rows.specs.Closing.{GeneralisesAll}
use Rattle.binding_rows.specs.Lets.{names_closed}
use Rattle.binding_steps.specs.Bindings.{closing_of, name_nodes}
use Rattle.binding_steps.proofs.ClosingLaws.{level_goes, closes_start, closes_step, closes_end, names_step, names_in_front}
use Rattle.binding_steps.proofs.closing.close.Goals as goal

pub loop-one-init : goal.loop-one-init
loop-one-init c =
    let ys = map closing_of c.args.bound.now in
    let low = c.saturating_sub-at.result in
    let lowered : Parts = record (c.args.at.now) { level = low } in
    record {
      goes = goes_trans c.args.at.now lowered c.hold_all.new.at (level_goes c.args.at.now low) c.hold_all.ensures.goes;
      silent = c.hold_all.ensures.silent;
      closes = closes_start c.args.at.now c.hold_all.new.at c.args.env.now c.in_ok-behind.behind low ys c.saturating_sub-at.ensures c.in_ok-behind.ensures c.in_ok-hold_all.ensures.limits;
      names = ap (names_added (names_closed ys)) c.in_ok-behind.ensures;
      grows = c.in_ok-behind.ensures ∙ ap (λ es. newest_first es ++ c.args.env.now) (sym c.new-entries.ensures.items);
    }

pub loop-one-preserved : goal.loop-one-preserved
loop-one-preserved c =
    let all = c.args.bound.now in
    let i = c.loop-one.one-index in
    let x = c.one-item.result in
    let before = c.loop-one.behind in
    let lt : i < length all = let n = c.loop-one-test.true in omega arith in
    let brought = c.in_ok-behind-2.ensures.scope ∙ ap (λ ns. names_added (binds_of ns) before) c.deref-in-loop-one.ensures.value in
    let own = binds_of x.matched.names.items in
    let entries : newest_first c.close_names.new.entries.items ≡ names_added own (newest_first c.loop-one.entries.items) =
    c.in_ok-close_names.ensures.entries ∙ ap (λ ns. names_added (binds_of ns) (newest_first c.loop-one.entries.items)) c.deref.ensures.value in
    record {
      goes = goes_trans c.args.at.now c.loop-one.at c.close_names.new.at c.loop-one.invariant.goes c.close_names.ensures.goes;
      silent = silent_trans c.args.at.now c.loop-one.at c.close_names.new.at c.loop-one.invariant.silent c.close_names.ensures.silent;
      closes = closes_step c.args.at.now c.loop-one.at c.close_names.new.at c.args.env.now before c.in_ok-behind-2.behind all i x lt c.one-item.is c.loop-one.invariant.closes
          (subst (λ ns. GeneralisesAll c.loop-one.at c.close_names.new.at (name_nodes ns)) c.deref.ensures.value c.in_ok-close_names.ensures.generalises) brought;
      names = names_step all i x before c.in_ok-behind-2.behind (names_added (names_closed (map closing_of all)) c.args.env.now) lt c.one-item.is brought c.loop-one.invariant.names;
      grows = brought ∙ ap (names_added own) c.loop-one.invariant.grows ∙ names_in_front own (newest_first c.loop-one.entries.items) c.args.env.now ∙ ap (λ es. es ++ c.args.env.now) (sym entries);
    }

pub returns-clause-carries : goal.returns-clause-carries
returns-clause-carries c =
    let all = c.args.bound.now in
    let i = c.loop-one.one-index in
    closes_end c.args.at.now c.loop-one.at c.args.env.now c.loop-one.behind (map closing_of all) (map closing_of (drop i all)) (ap (map closing_of) (drop_all i all c.loop-one-test.false)) c.loop-one.invariant.closes c.len-nodes.ensures.sound

pub returns-clause-names : goal.returns-clause-names
returns-clause-names c =
    let all = c.args.bound.now in
    let i = c.loop-one.one-index in
    ap (λ bs. names_added (names_closed (map closing_of bs)) c.loop-one.behind) (sym (drop_all i all c.loop-one-test.false)) ∙ c.loop-one.invariant.names

pub returns-clause-grows : goal.returns-clause-grows
returns-clause-grows c = c.loop-one.invariant.grows
