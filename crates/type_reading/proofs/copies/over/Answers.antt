use Rattle.std.specs.Prelude.{IfOk}
use Rattle.typing_state.proofs.Going.{goes_refl}
use Rattle.typing_state.proofs.Silence.{store_silent}
use Rattle.std.proofs.Common.{Some, ◌∙◌, ap, arith, refl, Result, Ok, Err}
use Rattle.type_nodes.specs.Nodes.{Tuple, IsNode}
use Rattle.type_nodes.specs.Links.{root}
use Rattle.type_nodes.specs.Views.{numbers}
use Rattle.level_unify.proofs.Walking.{parts_inside}
use Rattle.type_reading.specs.Copying.{seen_node}
use Rattle.type_reading.proofs.Extending.{node_extends, extends_refl}
use Rattle.type_reading.proofs.Declaring.{over_itself, over_answer, no_tuple_answer}
use Rattle.type_reading.proofs.copies.over.Goals as goal

-- what holds of each value holds where a call gives one
if_any : {A E : Type 0} (r : Result A E) (P : A → Type 0) → ((x : A) → P x) → IfOk r P
if_any (Ok x) P p = p x
if_any (Err e) P p = tt

pub returns-then-arity-eq0-clause-over : goal.returns-then-arity-eq0-clause-over
returns-then-arity-eq0-clause-over c = λ d inside. over_itself c.args.at.now.store.nodes c.args.root.0 c.args.arity (numbers c.args.args.now) c.len.ensures.sound c.if-arity-eq0.true d

pub applied-requires-clause-types : goal.applied-requires-clause-types
applied-requires-clause-types c =
    let nodes = c.args.at.now.store.nodes in
    let lt : IsNode nodes c.args.root.0 = let n = c.len.ensures.count in let in_it = c.if-len-root.false in omega arith in
    parts_inside nodes c.view_of.ensures.sound (root nodes c.args.root.0) (Tuple (numbers c.in-Tuple.parts.items)) (c.in_ok-parts.ensures.seen lt ∙ ap (λ s. Some (seen_node s)) c.in-Tuple.is)

pub returns-in-Tuple-clause-over : goal.returns-in-Tuple-clause-over
returns-in-Tuple-clause-over c =
    let lt : IsNode c.args.at.now.store.nodes c.args.root.0 = let n = c.len.ensures.count in let in_it = c.if-len-root.false in omega arith in
    over_answer c.applied.result c.args.at.now.store.nodes c.applied.new.at.store.nodes c.args.root.0 c.args.arity (numbers c.args.args.now) (numbers c.in-Tuple.parts.items) c.view_of.ensures.sound c.if-arity-eq0.false
    (c.in_ok-parts.ensures.seen lt ∙ ap (λ s. Some (seen_node s)) c.in-Tuple.is) c.applied.ensures.extends c.applied.ensures.applied

pub returns : goal.returns
returns c =
    let lt : IsNode c.args.at.now.store.nodes c.args.root.0 = let n = c.len.ensures.count in let in_it = c.if-len-root.false in omega arith in
    record {
      over = no_tuple_answer c.var-in_default.result c.args.at.now.store.nodes c.var-in_default.new.self.store.nodes c.args.root.0 c.args.arity (numbers c.args.args.now) c.in_ok-parts.field-0 c.if-arity-eq0.false c.in_default.not-Tuple (c.in_ok-parts.ensures.seen lt);
      extends = node_extends c.var-in_default.result c.args.at.now.store c.var-in_default.new.self.store _ c.var-in_default.ensures.made;
      silent = store_silent c.args.at.now c.var-in_default.new.self c.var-in_default.ensures.rest;
      goes = c.var-in_default.ensures.goes;
    }

pub returns-in-Tuple-clause-goes : goal.returns-in-Tuple-clause-goes
returns-in-Tuple-clause-goes c = c.applied.ensures.goes

pub returns-in_err-parts-clause-goes : goal.returns-in_err-parts-clause-goes
returns-in_err-parts-clause-goes c = goes_refl c.args.at.now

pub returns-then-arity-eq0-clause-goes : goal.returns-then-arity-eq0-clause-goes
returns-then-arity-eq0-clause-goes c = goes_refl c.args.at.now

pub returns-then-len-root-clause-goes : goal.returns-then-len-root-clause-goes
returns-then-len-root-clause-goes c = c.var.ensures.goes

pub returns-then-not-are_nodes-clause-goes : goal.returns-then-not-are_nodes-clause-goes
returns-then-not-are_nodes-clause-goes c = c.var-then-not-are_nodes.ensures.goes

pub returns-then-not-are_nodes-clause-over : goal.returns-then-not-are_nodes-clause-over
returns-then-not-are_nodes-clause-over c = if_any c.var-then-not-are_nodes.result _ (λ m declared inside. let are = c.are_nodes.ensures.1 inside in let not = c.if-not-are_nodes.true in absurd (cc))

pub returns-then-not-are_nodes-clause-extends : goal.returns-then-not-are_nodes-clause-extends
returns-then-not-are_nodes-clause-extends c = node_extends c.var-then-not-are_nodes.result c.args.at.now.store c.var-then-not-are_nodes.new.self.store _ c.var-then-not-are_nodes.ensures.made

pub returns-then-not-are_nodes-clause-silent : goal.returns-then-not-are_nodes-clause-silent
returns-then-not-are_nodes-clause-silent c = store_silent c.args.at.now c.var-then-not-are_nodes.new.self c.var-then-not-are_nodes.ensures.rest

pub returns-then-len-root-clause-extends : goal.returns-then-len-root-clause-extends
returns-then-len-root-clause-extends c = node_extends c.var.result c.args.at.now.store c.var.new.self.store _ c.var.ensures.made

pub returns-then-len-root-clause-silent : goal.returns-then-len-root-clause-silent
returns-then-len-root-clause-silent c = store_silent c.args.at.now c.var.new.self c.var.ensures.rest

pub returns-then-arity-eq0-clause-extends : goal.returns-then-arity-eq0-clause-extends
returns-then-arity-eq0-clause-extends c = extends_refl c.args.at.now.store.nodes

pub returns-then-arity-eq0-clause-silent : goal.returns-then-arity-eq0-clause-silent
returns-then-arity-eq0-clause-silent c = refl

pub returns-in-Tuple-clause-extends : goal.returns-in-Tuple-clause-extends
returns-in-Tuple-clause-extends c = c.applied.ensures.extends

pub returns-in-Tuple-clause-silent : goal.returns-in-Tuple-clause-silent
returns-in-Tuple-clause-silent c = c.applied.ensures.silent

pub returns-then-len-root-clause-over : goal.returns-then-len-root-clause-over
returns-then-len-root-clause-over c = if_any c.var.result _ (λ m declared inside. let in_it = declared.inside in let n = c.len.ensures.count in let past = c.if-len-root.true in absurd (omega arith))
