use Rattle.std.proofs.Common.{◌+◌, ◌<◌, ℕ, List, [], length, refl, ap, subst, arith}
use Rattle.std.specs.List.{list_any}
use Rattle.std.specs.Str.{bytes_eq}
use Rattle.std.proofs.lemmas.List.{drop_all}
use denote.Ref.{Bor}
use Rattle.typing_steps.specs.States.{sight}
use Rattle.decl_typing.specs.Fresh.{has}
use Rattle.decl_typing.specs.Asked.{tokens_as, FirstTokens}
use Rattle.decl_typing.proofs.Asked.{no_tokens, each_token, all_tokens}
use Rattle.typing_state.proofs.Going.{goes_refl, goes_trans, only_faults_same, only_faults_trans}
use Rattle.decl_typing.proofs.decls.parameters_are_new.Goals as goal

pub returns-clause-goes : goal.returns-clause-goes
returns-clause-goes c = c.loop-name.invariant.goes

pub returns-in_err-ask_new-clause-goes : goal.returns-in_err-ask_new-clause-goes
returns-in_err-ask_new-clause-goes c = goes_trans c.args.at.now c.loop-name.at c.ask_new.new.at c.loop-name.invariant.goes c.ask_new.ensures.goes

pub returns-clause-rest : goal.returns-clause-rest
returns-clause-rest c = c.loop-name.invariant.rest

pub returns-in_err-ask_new-clause-rest : goal.returns-in_err-ask_new-clause-rest
returns-in_err-ask_new-clause-rest c = only_faults_trans c.args.at.now c.loop-name.at c.ask_new.new.at c.loop-name.invariant.rest c.ask_new.ensures.rest

pub loop-name-init : goal.loop-name-init
loop-name-init c = record {
  goes = goes_refl c.args.at.now;
  rest = only_faults_same c.args.at.now c.args.at.now refl;
  settles = record {
    seen = [];
    same = λ q. ap (list_any (λ (k : Bor (List ℕ)). bytes_eq q k.now)) c.new-seen.ensures.empty;
    first = λ aloud B n. no_tokens (tokens_as c.args.names.now);
  };
}

pub loop-name-preserved : goal.loop-name-preserved
loop-name-preserved c =
    let at = c.args.at.now in
    let ts = c.args.names.now in
    let k = c.loop-name.name-index in
    let lt : k < length ts = let n = c.loop-name-test.true in omega arith in
    record {
      goes = goes_trans at c.loop-name.at c.ask_new.new.at c.loop-name.invariant.goes c.ask_new.ensures.goes;
      rest = only_faults_trans at c.loop-name.at c.ask_new.new.at c.loop-name.invariant.rest c.ask_new.ensures.rest;
      settles = each_token at c.loop-name.at c.ask_new.new.at ts k c.name-item.result (has c.loop-name.seen) (has c.ask_new.new.names) lt c.name-item.is c.loop-name.invariant.settles c.loop-name.invariant.goes c.in_ok-ask_new.ensures.asked c.in_ok-ask_new.ensures.added;
    }

pub returns-clause-settles : goal.returns-clause-settles
returns-clause-settles c = λ aloud B n.
    let at = c.args.at.now in
    let ts = c.args.names.now in
    let i = c.loop-name.name-index in
    let f = c.loop-name.invariant.settles in
    let none = drop_all i ts c.loop-name-test.false in
    all_tokens f.seen (subst (λ left. FirstTokens B n (tokens_as ts) (tokens_as left) f.seen (i + 1) (sight at) (sight c.loop-name.at)) none (f.first aloud B n))
