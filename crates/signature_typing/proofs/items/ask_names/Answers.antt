use Rattle.std.proofs.Common.{◌∙◌, ◌+◌, ◌<◌, ◌∷◌, length, map, drop, refl, sym, ap, subst, arith}
use Rattle.std.proofs.lemmas.List.{drop_more, drop_all}
use denote.Ref.{Bor}
use Rattle.syntax_tree.specs.declared.Token.{Token}
use Rattle.typing_state.proofs.Going.{goes_refl, goes_trans, only_faults_same, only_faults_trans}
use Rattle.signature_typing.specs.TypeItems.{AsksEach, none_asked, one_asked}
use Rattle.signature_typing.proofs.items.ask_names.Goals as goal

pub loop-name-init : goal.loop-name-init
loop-name-init c = record {
  asked = λ s d each. each;
  scene = record { env = refl; components = refl; makes = refl };
  rest = only_faults_same c.args.at.now c.args.at.now refl;
  goes = goes_refl c.args.at.now;
}

pub loop-name-preserved : goal.loop-name-preserved
loop-name-preserved c =
    let ts = c.args.names.now in
    let k = c.loop-name.name-index in
    let lt : k < length ts = let n = c.loop-name-test.true in omega arith in
    record {
      asked = λ s d each. c.loop-name.invariant.asked s d
          (subst (λ ns. AsksEach (map (λ (t : Bor Token). t.now) ns) c.loop-name.scene s c.loop-name.at d) (sym (drop_more ts k c.name-item.result lt ∙ ap (λ q. q ∷ drop (k + 1) ts) (sym c.name-item.is))) (one_asked c.in_ok-ask_new.ensures.asked each));
      scene = record {
        env = c.ask_new.ensures.rest.env ∙ c.loop-name.invariant.scene.env;
        components = c.ask_new.ensures.rest.components ∙ c.loop-name.invariant.scene.components;
        makes = c.ask_new.ensures.rest.makes ∙ c.loop-name.invariant.scene.makes;
      };
      rest = only_faults_trans c.args.at.now c.loop-name.at c.ask_new.new.at c.loop-name.invariant.rest c.ask_new.ensures.faults;
      goes = goes_trans c.args.at.now c.loop-name.at c.ask_new.new.at c.loop-name.invariant.goes c.ask_new.ensures.goes;
    }

pub returns-clause-asked : goal.returns-clause-asked
returns-clause-asked c =
    c.loop-name.invariant.asked c.loop-name.scene c.loop-name.at
    (subst (λ ns. AsksEach (map (λ (t : Bor Token). t.now) ns) c.loop-name.scene c.loop-name.scene c.loop-name.at c.loop-name.at) (sym (drop_all c.loop-name.name-index c.args.names.now c.loop-name-test.false)) none_asked)

pub returns-clause-scene : goal.returns-clause-scene
returns-clause-scene c = c.loop-name.invariant.scene

pub returns-clause-rest : goal.returns-clause-rest
returns-clause-rest c = c.loop-name.invariant.rest

pub returns-clause-goes : goal.returns-clause-goes
returns-clause-goes c = c.loop-name.invariant.goes

pub returns-in_err-ask_new-clause-scene : goal.returns-in_err-ask_new-clause-scene
returns-in_err-ask_new-clause-scene c = record {
  env = c.ask_new.ensures.rest.env ∙ c.loop-name.invariant.scene.env;
  components = c.ask_new.ensures.rest.components ∙ c.loop-name.invariant.scene.components;
  makes = c.ask_new.ensures.rest.makes ∙ c.loop-name.invariant.scene.makes;
}

pub returns-in_err-ask_new-clause-rest : goal.returns-in_err-ask_new-clause-rest
returns-in_err-ask_new-clause-rest c = only_faults_trans c.args.at.now c.loop-name.at c.ask_new.new.at c.loop-name.invariant.rest c.ask_new.ensures.faults

pub returns-in_err-ask_new-clause-goes : goal.returns-in_err-ask_new-clause-goes
returns-in_err-ask_new-clause-goes c = goes_trans c.args.at.now c.loop-name.at c.ask_new.new.at c.loop-name.invariant.goes c.ask_new.ensures.goes
