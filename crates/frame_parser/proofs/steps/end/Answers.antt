use Rattle.std.proofs.Common.{[], map, sym, ◌∙◌, ap, subst}
use Rattle.std.proofs.lemmas.Result.{IfOk-weaker}
use Rattle.frame_steps.specs.View.{fault_of}
use Rattle.frame_parser.specs.Shown.{ShowsItem, ItemKeepsFew}
use Rattle.frame_parser.proofs.Ends.{whole_shows, end_shows, close_zero, close_none, close_some}
use Rattle.frame_parser.proofs.Known.{few_within, item_of}
use Rattle.frame_parser.proofs.Rows.{standing, place_shows}
use Rattle.frame_parser.proofs.steps.end.Goals as goal

pub close_up-requires : goal.close_up-requires
close_up-requires c =
    let r = c.requires.ready in
    record { standing = standing r.text r.parser.state r.count c.args.stack.now.rows r.shows.rows r.comes.frames r.few }

pub end_item-requires : goal.end_item-requires
end_item-requires c =
    let r = c.requires.ready in
    let (i, is, shows) = item_of r.text r.parser.item c.in-Some.item (subst (ShowsItem r.text r.parser.item) c.in-Some.is r.shows.item) in
    record { ready = (r.text, i, shows, few_within r.text r.count 1048576 i.mark (subst (ItemKeepsFew r.text r.count) is r.comes.item) r.few) }

pub returns-then-whole-eq0 : goal.returns-then-whole-eq0
returns-then-whole-eq0 c =
    IfOk-weaker c.ended.result _ _ (λ r e text p n shows comes few.
    let rows = c.args.stack.now.rows in
    let w = whole_shows c.args.from text p.state n rows c.in_ok-whole.whole shows.rows comes.frames few c.in_ok-whole.ensures.tree c.in_ok-whole.ensures.holes in
    close_zero c.args.from text p r (sym w.holes ∙ c.if-whole-eq0.true)
    (end_shows c.args.from text p.state c.in_ok-whole.whole r c.place.result c.new.result.items [] w e.0 e.1 (c.place.ensures ∙ place_shows text p.state rows shows.rows) (ap (map fault_of) c.new.ensures.items))) c.ended.ensures

pub returns-in-None : goal.returns-in-None
returns-in-None c =
    IfOk-weaker c.ended-in-None.result _ _ (λ r e text p n shows comes few.
    let rows = c.args.stack.now.rows in
    let w = whole_shows c.args.from text p.state n rows c.in_ok-whole.whole shows.rows comes.frames few c.in_ok-whole.ensures.tree c.in_ok-whole.ensures.holes in
    close_none c.args.from text p r (subst (ShowsItem text p.item) c.in-None.is shows.item)
    (end_shows c.args.from text p.state c.in_ok-whole.whole r c.place-in-None.result c.new-in-None.result.items [] w e.0 e.1 (c.place-in-None.ensures ∙ place_shows text p.state rows shows.rows) (ap (map fault_of) c.new-in-None.ensures.items)))
    c.ended-in-None.ensures

pub returns-in-Some : goal.returns-in-Some
returns-in-Some c =
    IfOk-weaker c.end_item.result _ _ (λ r ens text p n shows comes few.
    let rows = c.args.stack.now.rows in
    let w = whole_shows c.args.from text p.state n rows c.in_ok-whole.whole shows.rows comes.frames few c.in_ok-whole.ensures.tree c.in_ok-whole.ensures.holes in
    close_some c.args.from text p c.in-Some.item r (λ z. c.if-whole-eq0.false (w.holes ∙ z)) (subst (ShowsItem text p.item) c.in-Some.is shows.item)
    (λ i is h. ens text p.state i w (place_shows text p.state rows shows.rows) h (few_within text n 1048576 i.mark (subst (ItemKeepsFew text n) is comes.item) few))) c.end_item.ensures
