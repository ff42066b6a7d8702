use Rattle.std.proofs.Common.{◌+◌, ◌<◌, ℕ, List, [], length, refl, sym, ap, subst, arith}
use Rattle.std.specs.List.{list_any}
use Rattle.std.specs.Str.{bytes_eq}
use Rattle.std.proofs.lemmas.List.{drop_all}
use denote.Ref.{Bor}
use Rattle.typing_state.proofs.Going.{goes_refl, goes_trans, only_faults_same, only_faults_trans}
use Rattle.typing_state.specs.Goes.{Goes, OnlyFaults}
use Rattle.typing_steps.specs.States.{sight}
use Rattle.decl_typing.specs.Fresh.{has}
use Rattle.decl_typing.specs.Labels.{labels_as, FirstLabelNames}
use Rattle.decl_typing.proofs.Labels.{SettlesFirstLabelNames, no_names, each_name, each_nameless, all_names}
use Rattle.decl_typing.proofs.decls.labels_are_new.Goals.{in-Some+in_ok-ask_new, in_default}
use Rattle.decl_typing.proofs.decls.labels_are_new.Goals as goal

pub returns-clause-goes : goal.returns-clause-goes
returns-clause-goes c = c.loop-part.invariant.goes

pub returns-in_err-ask_new-clause-goes : goal.returns-in_err-ask_new-clause-goes
returns-in_err-ask_new-clause-goes c = goes_trans c.args.at.now c.loop-part.at c.ask_new.new.at c.loop-part.invariant.goes c.ask_new.ensures.goes

pub loop-part-init : goal.loop-part-init
loop-part-init c = record {
  goes = goes_refl c.args.at.now;
  rest = only_faults_same c.args.at.now c.args.at.now refl;
  settles = record {
    seen = [];
    same = λ q. ap (list_any (λ (k : Bor (List ℕ)). bytes_eq q k.now)) c.new-seen.ensures.empty;
    first = λ aloud B. no_names (labels_as c.args.at.now.item c.args.parts.now);
  };
}

pub loop-part-preserved : goal.loop-part-preserved
loop-part-preserved c =
    let at = c.args.at.now in
    let ps = c.args.parts.now in
    let k = c.loop-part.part-index in
    let x = c.part-item.result in
    let lt : k < length ps = let n = c.loop-part-test.true in omega arith in
    record {
      goes = elim c.match-part.branch [
        | in-Some+in_ok-ask_new w ↦ subst (Goes at) (sym w.at-is) (goes_trans at c.loop-part.at w.ask_new.new.at c.loop-part.invariant.goes w.ask_new.ensures.goes)
        | in_default w ↦ subst (Goes at) (sym w.at-is) c.loop-part.invariant.goes
      ];
      rest = elim c.match-part.branch [
        | in-Some+in_ok-ask_new w ↦ subst (OnlyFaults at) (sym w.at-is) (only_faults_trans at c.loop-part.at w.ask_new.new.at c.loop-part.invariant.rest w.ask_new.ensures.rest)
        | in_default w ↦ subst (OnlyFaults at) (sym w.at-is) c.loop-part.invariant.rest
      ];
      settles = elim c.match-part.branch [
        | in-Some+in_ok-ask_new w ↦
            subst (λ s. SettlesFirstLabelNames at c.match-part.at ps (k + 1) (has s)) (sym w.seen-is)
            (subst (λ p. SettlesFirstLabelNames at p ps (k + 1) (has w.ask_new.new.names)) (sym w.at-is)
            (each_name at c.loop-part.at w.ask_new.new.at ps k x w.in-Some.name (has c.loop-part.seen) (has w.ask_new.new.names) lt c.part-item.is w.in-Some.is c.loop-part.invariant.settles c.loop-part.invariant.goes w.in_ok-ask_new.ensures.asked w.in_ok-ask_new.ensures.added))
        | in_default w ↦
            subst (λ s. SettlesFirstLabelNames at c.match-part.at ps (k + 1) (has s)) (sym w.seen-is)
            (subst (λ p. SettlesFirstLabelNames at p ps (k + 1) (has c.loop-part.seen)) (sym w.at-is) (each_nameless at c.loop-part.at ps k x (has c.loop-part.seen) lt c.part-item.is w.in_default.is c.loop-part.invariant.settles))
      ];
    }

pub returns-clause-settles : goal.returns-clause-settles
returns-clause-settles c = λ aloud B.
    let at = c.args.at.now in
    let ps = c.args.parts.now in
    let f = c.loop-part.invariant.settles in
    let none = drop_all c.loop-part.part-index ps c.loop-part-test.false in
    all_names f.seen (subst (λ left. FirstLabelNames B (labels_as at.item ps) (labels_as at.item left) f.seen (sight at) (sight c.loop-part.at)) none (f.first aloud B))

pub returns-clause-rest : goal.returns-clause-rest
returns-clause-rest c = c.loop-part.invariant.rest

pub returns-in_err-ask_new-clause-rest : goal.returns-in_err-ask_new-clause-rest
returns-in_err-ask_new-clause-rest c = only_faults_trans c.args.at.now c.loop-part.at c.ask_new.new.at c.loop-part.invariant.rest c.ask_new.ensures.rest
