use Rattle.kept_text.specs.Keeping.{trees_in}
use Rattle.text_reading.specs.Types.{held, known, known_front}
use Rattle.text_reading.proofs.Spent.{bound_none}
use Rattle.text_reading.proofs.Fronts.{front_of_none}
use Rattle.text_reading.proofs.tried.TriedText.return_typer.Goals as goal

pub invariant_of-self : goal.invariant_of-self
invariant_of-self g c = record {
  are = bound_none (trees_in c.self.inside.kept.tokens) (known g.A.Analyser.items c.hand_over.new.self) c.hand_over.ensures.left.0;
  shares = front_of_none (held g.A.Analyser.items c.hand_over.new.self) (trees_in c.self.inside.kept.tokens) (known_front c.hand_over.new.self) c.hand_over.ensures.left.2;
}
