use Rattle.type_expressions.proofs.Untyped.{untyped_same, untyped_then, store_untyped}
use Rattle.std.proofs.Common.{◌≡◌, ◌∙◌, None, sym, ap, subst}
use Rattle.std.specs.HashMap.{get_by_text}
use Rattle.syntax_tree.specs.View.{tok_of}
use Rattle.typing_steps.specs.Writing.{PutsVariable}
use Rattle.type_expressions.proofs.Naming.{again_reads, first_reads}
use Rattle.type_expressions.proofs.by_name.written_variable.Goals as goal

pub returns-in-Some-clause-carries : goal.returns-in-Some-clause-carries
returns-in-Some-clause-carries c =
    let there = ap (get_by_text c.args.at.now.written.variables) (sym (c.as_str.ensures.value ∙ c.in_ok-key.ensures)) ∙ sym c.variable_of.ensures ∙ c.in-Some.is in
    again_reads c.args.at.now (tok_of c.args.name.now) c.in-Some.node there

pub returns-clause-carries : goal.returns-clause-carries
returns-clause-carries c =
    let none = ap (get_by_text c.args.at.now.written.variables) (sym (c.as_str.ensures.value ∙ c.in_ok-key.ensures)) ∙ sym c.variable_of.ensures ∙ c.in_default.is in
    first_reads c.args.at.now c.low_variable.new.at c.put_variable.new.at (tok_of c.args.name.now) c.in_ok-node.node none c.in_ok-node.ensures.made c.low_variable.ensures.rest
    (subst (λ x. get_by_text c.low_variable.new.at.written.variables x ≡ None → PutsVariable c.low_variable.new.at c.put_variable.new.at x c.in_ok-node.node) c.in_ok-key.ensures c.in_ok-put_variable.ensures.puts) c.put_variable.ensures.store

pub returns-in-Some-clause-untyped : goal.returns-in-Some-clause-untyped
returns-in-Some-clause-untyped c = untyped_same c.args.at.now

pub returns-clause-untyped : goal.returns-clause-untyped
returns-clause-untyped c = untyped_then (store_untyped c.args.at.now c.low_variable.new.at c.low_variable.ensures.rest) c.in_ok-put_variable.ensures.untyped
