use Rattle.std.proofs.Common.{◌∙◌, ap, subst, sym}
use Rattle.tree_model.specs.Trees.{Tree}
use Rattle.std.specs.Prelude.{List}
use Rattle.fault_model.specs.Refused.{AreOfValues}
use Rattle.service_model.specs.Answers.{TypesAre}
use Rattle.syntax_tree.specs.View.{trees_of}
use Rattle.analysis_api.specs.Types.{AreSettled}
use Rattle.text_reading.specs.Structures.{AreItemsOf}
use Rattle.session.specs.Queries.{AreTypesBy}
use Rattle.session.proofs.Typing.{said_then, so_known, types_known}
use Rattle.session.proofs.session.Session.types_in.Goals as goal

pub returns-clause-said : goal.returns-clause-said
returns-clause-said g c =
    let text = c.args.self.now.text in
    let a = c.asked.result in
    let x = c.analysis.result in
    let tree = ap trees_of c.asked.ensures.tree in
    let items = c.in_ok-found.ensures.items ∙ sym tree in
    said_then (AreTypesBy text c.args.offset a) (TypesAre text c.args.offset (trees_of c.args.tree.now)) c.types_of.result
    (λ s by. subst (λ (us : List Tree). TypesAre text c.args.offset us s) tree
    (types_known text c.args.offset a x s (subst (AreItemsOf text) (sym tree) c.requires.of_text) (record { index = c.asked.ensures.index; store = c.asked.ensures.store; weak = c.asked.ensures.weak })
    (subst (λ (us : List Tree). AreOfValues us → ∥ AreSettled us x ∥₁) items (so_known c.in_ok-found.ensures.settled c.analysis.ensures.settled)) by))
    c.types_of.ensures
