use Rattle.std.proofs.Common.{List, sym, subst}
use Rattle.tree_model.specs.Trees.{Tree}
use Rattle.analysis_api.specs.Typed.{SameFront}
use Rattle.kept_text.specs.Keeping.{trees_in}
use Rattle.text_reading.specs.Types.{held, known_front}
use Rattle.text_reading.proofs.Fronts.{front_on}
use Rattle.text_reading.proofs.types.KeptTypes.follow.Goals as goal

pub returns-in-Ok-clause-front : goal.returns-in-Ok-clause-front
returns-in-Ok-clause-front g c =
    let was = c.args.self.now in
    let now = c.narrow.new.self in
    let old = trees_in c.args.kept.now.tokens in
    let new = trees_in c.refresh.new.self.tokens in
    subst (λ (hs : List Tree). SameFront hs new (known_front now)) (sym c.narrow.ensures.stays)
    (front_on (held g.A.Analyser.items was) old new (known_front was) c.in-Ok.front (known_front now) c.requires.front c.in-Ok.ensures.front c.narrow.ensures.front)
