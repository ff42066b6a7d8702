use Rattle.std.proofs.Common.{◌≡◌, ◌+◌, ◌-◌, Some, sym, subst, arith}
use Rattle.text_model.specs.Positions.{offset}
use Rattle.text_store.proofs.LineStarts.{HasStarts-rise, HasStarts-length}
use Rattle.text_store.proofs.LinePlaces.{offset-back}
use Rattle.text_store.proofs.places.find_position.Goals as goal

pub starts_until-below-requires : goal.starts_until-below-requires
starts_until-below-requires c = HasStarts-rise c.args.text.now.items c.args.starts.now c.requires.starts

pub overflow_cast-result : goal.overflow_cast-result
overflow_cast-result c = let n = HasStarts-length c.args.text.now.items c.args.starts.now c.requires.starts in omega arith

pub overflow_add-result : goal.overflow_add-result
overflow_add-result c = let n = HasStarts-length c.args.text.now.items c.args.starts.now c.requires.starts in omega arith

pub returns : goal.returns
returns c =
    let below = c.starts_until-below.result in
    subst (λ n. offset c.args.text.now.items (below + 1) (c.args.place - n) ≡ Some c.args.place) (sym c.line_start.ensures)
    (offset-back c.args.text.now.items c.args.starts.now c.args.place below c.requires.starts c.requires.within c.starts_until-below.ensures)
