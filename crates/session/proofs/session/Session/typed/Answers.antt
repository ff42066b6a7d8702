use Rattle.std.proofs.Common.{List, ℕ, subst, IfSome, ap}
use Rattle.syntax_tree.specs.View.{trees_of}
use Rattle.text_reading.specs.Structures.{AreItemsOf}
use Rattle.text_reading.specs.Types.{known}
use Rattle.text_reading.proofs.Knowing.{holds_items}
use Rattle.session.specs.Working.{Held}
use Rattle.session.proofs.Typing.{given_known}
use Rattle.session.proofs.session.Session.typed.Goals as goal

pub find_types-requires : goal.find_types-requires
find_types-requires g c = record {
  known = holds_items (λ a. g.A.Analyser.items a.now) c.known.result (known g.A.Analyser.items c.self.inside.types) c.args.self.now.text (trees_of c.args.tree.now) c.known.ensures.known
      (subst (λ (t : List ℕ). IfSome (known g.A.Analyser.items c.self.inside.types) (AreItemsOf t)) (ap (λ (h : Held). h.text) c.self.view_is) c.self.invariant.of_text) c.requires.of_text;
}

pub returns-clause-settled : goal.returns-clause-settled
returns-clause-settled g c = given_known _ c.find_types.result c.known.ensures.settled c.find_types.ensures.settled
