use Rattle.std.proofs.Common.{sym, refl, ◌∙◌, ap}
use Rattle.std.specs.Prelude.{nat_eq}
use Rattle.std.specs.HashSet.{contains}
use Rattle.std.proofs.lemmas.Result.{on_ok_weaker}
use Rattle.type_print.specs.Meeting.{met_of, moves_of, skips}
use Rattle.type_print.proofs.Meeting.{met_variable, opened_parts}
use Rattle.type_print.proofs.variables.Variables.visit.Goals as goal

pub returns-then-contains : goal.returns-then-contains
returns-then-contains c = skips (ap (contains nat_eq c.args.self.now.done) (sym c.root-root.ensures.root) ∙ (sym c.contains.ensures ∙ c.if-contains.true)) refl refl

pub returns-in-Var : goal.returns-in-Var
returns-in-Var c =
    on_ok_weaker c.add.result
    (met_variable c.args.store.now.nodes c.args.node.0 c.root-root.result.0 _ (moves_of c.args.left.now.items) (met_of c.args.self.now) (met_of c.add.new.self) c.root-root.ensures.root c.in-Var.ensures refl (sym c.contains.ensures ∙ c.if-contains.false))
    c.add.ensures

pub returns-in-Rigid : goal.returns-in-Rigid
returns-in-Rigid c =
    on_ok_weaker c.add-in-Rigid.result
    (met_variable c.args.store.now.nodes c.args.node.0 c.root-root.result.0 _ (moves_of c.args.left.now.items) (met_of c.args.self.now) (met_of c.add-in-Rigid.new.self) c.root-root.ensures.root c.in-Rigid.ensures.0 refl (sym c.contains.ensures ∙ c.if-contains.false))
    c.add-in-Rigid.ensures

pub returns-in-Arrow : goal.returns-in-Arrow
returns-in-Arrow c =
    on_ok_weaker c.open.result
    (opened_parts c.args.store.now.nodes c.args.node.0 c.root-root.result.0 _ (moves_of c.args.left.now.items) (moves_of c.open.new.left.items) (met_of c.args.self.now) c.root-root.ensures.root c.in-Arrow.ensures refl)
    c.open.ensures

pub returns-in-Tuple : goal.returns-in-Tuple
returns-in-Tuple c =
    on_ok_weaker c.open-in-Tuple.result
    (opened_parts c.args.store.now.nodes c.args.node.0 c.root-root.result.0 _ (moves_of c.args.left.now.items) (moves_of c.open-in-Tuple.new.left.items) (met_of c.args.self.now) c.root-root.ensures.root c.in-Tuple.ensures refl)
    c.open-in-Tuple.ensures

pub returns-in-Con : goal.returns-in-Con
returns-in-Con c =
    on_ok_weaker c.open-in-Con.result
    (opened_parts c.args.store.now.nodes c.args.node.0 c.root-root.result.0 _ (moves_of c.args.left.now.items) (moves_of c.open-in-Con.new.left.items) (met_of c.args.self.now) c.root-root.ensures.root c.in-Con.ensures refl)
    c.open-in-Con.ensures
