use Rattle.std.proofs.Common.{[], map, ◌∙◌, ap, subst}
use Rattle.std.proofs.lemmas.Result.{IfOk-weaker}
use Rattle.frame_steps.specs.View.{fault_of}
use Rattle.frame_parser.specs.Shown.{ShowsMark}
use Rattle.frame_parser.proofs.Ends.{at_column, mark_sound, mark_marked, mark_held, rows_shared, end_shows}
use Rattle.frame_parser.proofs.Known.{held_ready}
use Rattle.frame_parser.proofs.steps.end_item.Goals as goal

pub end_back-requires : goal.end_back-requires
end_back-requires c =
    let (text, i, shows, few) = c.requires.ready in
    let share = c.in_ok-share-in-Held in
    let (n, r, le) = held_ready text i.mark c.in-Held.before c.in-Held.since (subst (ShowsMark text i.mark) c.in-Held.is shows.1) few in
    record { ready = (n, record { text = r.text; state = r.state; shows = rows_shared r.text r.state c.in-Held.before share.field-0 share.ensures.text share.ensures.frames r.shows; reached = r.reached }, le) }

pub returns-in_ok-share-in-Held : goal.returns-in_ok-share-in-Held
returns-in_ok-share-in-Held c =
    let share = c.in_ok-share-in-Held in
    IfOk-weaker c.end_back.result _ _ (λ r ens text s i whole at shows few.
    at_column c.args.from text s i c.args.item.now r shows
    (mark_held c.args.from text s c.args.item.now.col i.mark c.in-Held.before c.in-Held.since r (subst (ShowsMark text i.mark) c.in-Held.is shows.1) few
    (λ q ts rows same k. let (n, reached, le) = k in ens text q ts n (rows_shared text q c.in-Held.before share.field-0 share.ensures.text share.ensures.frames rows) same reached le))) c.end_back.ensures

pub returns-in-Sound : goal.returns-in-Sound
returns-in-Sound c =
    IfOk-weaker c.ended.result _ _ (λ r e text s i whole at shows few.
    mark_sound c.args.from text s i.col i.mark r (subst (ShowsMark text i.mark) c.in-Sound.is shows.1)
    (end_shows c.args.from text s c.args.whole r c.place.result c.new.result.items [] whole e.0 e.1 (c.place.ensures ∙ at) (ap (map fault_of) c.new.ensures.items))) c.ended.ensures

pub returns-in-Marked : goal.returns-in-Marked
returns-in-Marked c =
    IfOk-weaker c.ended-in-Marked.result _ _ (λ r e text s i whole at shows few.
    mark_marked c.args.from text s i.col i.mark r (subst (ShowsMark text i.mark) c.in-Marked.is shows.1)
    (end_shows c.args.from text s c.args.whole r c.place-in-Marked.result c.new-in-Marked.result.items [] whole e.0 e.1 (c.place-in-Marked.ensures ∙ at) (ap (map fault_of) c.new-in-Marked.ensures.items))) c.ended-in-Marked.ensures
