use Rattle.std.proofs.Common.{◌≡◌, ◌∙◌, ◌<◌, [], ◌∷◌, ◌++◌, length, take, sym, ap, subst, arith}
use Rattle.std.proofs.lemmas.List.{map-append, take_more, take_all}
use denote.Ref.{Bor}
use Rattle.syntax_tree.specs.declared.tree.Token.{Token}
use Rattle.text_terms.specs.Bytes.{str_bytes}
use Rattle.type_expressions.specs.Items.{names_of, nodes_of}
use Rattle.type_expressions.specs.declared.types.Parameter.{Parameter}
use Rattle.typing_state.proofs.Going.{goes_refl, goes_trans}
use Rattle.decl_typing.specs.Parameters.{token_names, MakesParameters}
use Rattle.type_reading.proofs.Filling.{store_same, store_then}
use Rattle.decl_typing.proofs.Parameters.{no_parameters, one_parameter}
use Rattle.decl_typing.proofs.decls.new_parameters.Goals as goal

pub loop-name-init : goal.loop-name-init
loop-name-init c = record {
  goes = goes_refl c.args.at.now;
  rest = store_same c.args.at.now;
  named = ap names_of c.new-parameters.ensures.items;
  means = subst (MakesParameters c.args.at.now c.args.at.now) (sym (ap nodes_of c.new-parameters.ensures.items)) (no_parameters c.args.at.now);
}

pub loop-name-preserved : goal.loop-name-preserved
loop-name-preserved c =
    let at = c.args.at.now in
    let ns = c.args.names.now in
    let k = c.loop-name.name-index in
    let lt : k < length ns = let n = c.loop-name-test.true in omega arith in
    let inv = c.loop-name.invariant in
    let old = c.loop-name.parameters.items in
    let new : Parameter = record { name = c.in_ok-name.name; node = c.in_ok-node.node } in
    let pushed : c.push.new.list.items ≡ old ++ new ∷ [] = c.in_ok-push.ensures.pushed in
    record {
      goes = goes_trans at c.loop-name.at c.var.new.self inv.goes c.var.ensures.goes;
      rest = store_then inv.rest c.var.ensures.rest;
      named =
          ap names_of pushed ∙ map-append (λ (p : Parameter). str_bytes p.name) old (new ∷ []) ∙ (let f = inv.named in let g = c.in_ok-name.ensures in (λ i. f i ++ g i ∷ [])) ∙
          sym (ap token_names (take_more ns k c.name-item.result lt ∙ ap (λ y. take k ns ++ y ∷ []) (sym c.name-item.is)) ∙ map-append (λ (t : Bor Token). str_bytes t.now.name) (take k ns) (c.name-item.result ∷ []));
      means =
          subst (MakesParameters at c.var.new.self) (sym (ap nodes_of pushed ∙ map-append (λ (p : Parameter). p.node.0) old (new ∷ [])))
          (one_parameter at c.loop-name.at c.var.new.self (nodes_of old) c.in_ok-node.node.0 inv.means c.in_ok-node.ensures.made c.var.ensures.rest);
    }

pub returns-clause-named : goal.returns-clause-named
returns-clause-named c = c.loop-name.invariant.named ∙ ap token_names (take_all c.loop-name.name-index c.args.names.now c.loop-name-test.false)

pub returns-clause-means : goal.returns-clause-means
returns-clause-means c = c.loop-name.invariant.means

pub returns-clause-rest : goal.returns-clause-rest
returns-clause-rest c = c.loop-name.invariant.rest

pub returns-clause-goes : goal.returns-clause-goes
returns-clause-goes c = c.loop-name.invariant.goes

pub returns-in_err-name-clause-rest : goal.returns-in_err-name-clause-rest
returns-in_err-name-clause-rest c = store_then c.loop-name.invariant.rest c.var.ensures.rest

pub returns-in_err-node-clause-rest : goal.returns-in_err-node-clause-rest
returns-in_err-node-clause-rest c = store_then c.loop-name.invariant.rest c.var.ensures.rest

pub returns-in_err-push-clause-rest : goal.returns-in_err-push-clause-rest
returns-in_err-push-clause-rest c = store_then c.loop-name.invariant.rest c.var.ensures.rest

pub returns-in_err-name-clause-goes : goal.returns-in_err-name-clause-goes
returns-in_err-name-clause-goes c = goes_trans c.args.at.now c.loop-name.at c.var.new.self c.loop-name.invariant.goes c.var.ensures.goes

pub returns-in_err-node-clause-goes : goal.returns-in_err-node-clause-goes
returns-in_err-node-clause-goes c = goes_trans c.args.at.now c.loop-name.at c.var.new.self c.loop-name.invariant.goes c.var.ensures.goes

pub returns-in_err-push-clause-goes : goal.returns-in_err-push-clause-goes
returns-in_err-push-clause-goes c = goes_trans c.args.at.now c.loop-name.at c.var.new.self c.loop-name.invariant.goes c.var.ensures.goes
