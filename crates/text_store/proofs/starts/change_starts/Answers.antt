use Rattle.std.proofs.Common.{ℕ, ◌++◌, ◌+◌, ◌-◌, length, take, drop, map, List, arith, sym, ◌∙◌, ap, subst}
use Rattle.std.proofs.lemmas.Grind.{common_steps}
use Rattle.std.specs.List.Sorted.{IsNonDecreasing}
use Rattle.text_store.specs.Starts.{PartsAt}
use Rattle.text_store.proofs.LineStarts.{HasStarts-rise, movable_behind, parts_of_put, starts_from-apply}
use Rattle.text_store.proofs.starts.change_starts.Goals as goal

pub starts_until-from-requires : goal.starts_until-from-requires
starts_until-from-requires c = subst IsNonDecreasing (sym c.as_slice.ensures.value) (HasStarts-rise c.args.text.now.items c.args.starts.now.items c.requires.starts)

pub starts_until-to-requires : goal.starts_until-to-requires
starts_until-to-requires c = subst IsNonDecreasing (sym c.as_slice-2.ensures.value) (HasStarts-rise c.args.text.now.items c.args.starts.now.items c.requires.starts)

pub move_starts_from-requires : goal.move_starts_from-requires
move_starts_from-requires c =
    let starts = c.args.starts.now.items in
    let from = c.starts_until-from.result in
    let to = c.starts_until-to.result in
    let at_start = subst (λ ts. PartsAt ts c.args.start from) c.as_slice.ensures.value c.starts_until-from.ensures in
    let at_end = subst (λ ts. PartsAt ts c.args.end to) c.as_slice-2.ensures.value c.starts_until-to.ensures in
    let both =
    movable_behind c.args.text.now.items starts c.args.piece.now c.in_ok-fresh.fresh.items c.put_starts.new.starts.items c.args.start c.args.end from to (from + c.len.result)
    c.requires.starts c.requires.order c.requires.within c.requires.room at_end at_start.bound c.in_ok-put_starts.ensures (omega arith) in
    record { within = grind (arith, common_steps); behind = both.0; room = both.1 }

pub returns : goal.returns
returns c =
    let starts = c.args.starts.now.items in
    let from = c.starts_until-from.result in
    let to = c.starts_until-to.result in
    let move : List ℕ → List ℕ = map (λ t. t - (c.args.end - c.args.start) + length c.args.piece.now) in
    let at_start = subst (λ ts. PartsAt ts c.args.start from) c.as_slice.ensures.value c.starts_until-from.ensures in
    let at_end = subst (λ ts. PartsAt ts c.args.end to) c.as_slice-2.ensures.value c.starts_until-to.ensures in
    let parts = parts_of_put starts c.in_ok-fresh.fresh.items c.put_starts.new.starts.items from to (from + c.len.result) c.in_ok-put_starts.ensures at_start.bound (omega arith) in
    let whole = starts_from-apply c.args.text.now.items starts c.args.piece.now c.args.start c.args.end from to c.requires.starts c.requires.order c.requires.within at_start at_end in
    record {
      starts_are =
          c.move_starts_from.ensures
          ∙ ap (λ ts. ts ++ move (drop (from + c.len.result) c.put_starts.new.starts.items)) parts.0
          ∙ ap (λ ts. (take from starts ++ c.in_ok-fresh.fresh.items) ++ move ts) parts.1
          ∙ ap (λ ts. (take from starts ++ ts) ++ move (drop to starts)) c.in_ok-fresh.ensures
          ∙ sym whole;
    }
