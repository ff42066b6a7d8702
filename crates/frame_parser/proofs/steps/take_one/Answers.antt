use Rattle.std.proofs.Common.{None, subst, arith}
use Rattle.std.proofs.lemmas.Result.{IfOk-weaker}
use Rattle.recovery_model.specs.Steps as rules
use Rattle.grammar_model.specs.Ocaml.{grammar}
use Rattle.recovery_model.specs.Recovery.{go_on}
use Rattle.syntax_tree.specs.View.{tok_of}
use Rattle.frame_parser.specs.Shown.{ShowsItem, ItemKeepsFew}
use Rattle.frame_parser.proofs.Known.{item_of, step_none, step_some, once}
use Rattle.frame_parser.proofs.Rows.{put_shows, standing}
use Rattle.frame_parser.proofs.steps.take_one.Goals as goal

pub put-requires : goal.put-requires
put-requires c =
    let r = c.requires.ready in
    let few = r.few in
    record { standing = standing r.text r.parser.state r.count c.args.stack.now.rows r.shows.rows r.comes.frames (omega arith) }

pub take_in_item-requires : goal.take_in_item-requires
take_in_item-requires c =
    let r = c.requires.ready in
    let few = r.few in
    let (i, is, shows) = item_of r.text r.parser.item c.in-Some.item (subst (ShowsItem r.text r.parser.item) c.in-Some.is r.shows.item) in
    record {
      ready = (
        r.text,
        r.parser.state,
        i,
        r.count,
        record { rows = r.shows.rows; reached = r.comes.frames; item = shows; keeps = subst (ItemKeepsFew r.text r.count) is r.comes.item; few = omega arith },
      );
    }

pub returns-in_ok-go_on-in-None : goal.returns-in_ok-go_on-in-None
returns-in_ok-go_on-in-None c text p n shows comes few =
    let t = tok_of c.args.token.now in
    let x = rules.step (grammar text) p.state.stack p.state.place t in
    let put = put_shows text p.state n c.args.stack.now.rows t c.in_ok-next.next shows.rows comes.frames (omega arith) c.in_ok-next.ensures in
    step_none text p t c.taken_once.result (subst (ShowsItem text p.item) c.in-None.is shows.item)
    (once text (go_on None t x) c.in_ok-go_on-in-None.field-0 c.taken_once.result c.taken_once.ensures.step c.taken_once.ensures.count (c.in_ok-go_on-in-None.ensures text x None put tt))

pub returns-in-Some : goal.returns-in-Some
returns-in-Some c =
    IfOk-weaker c.take_in_item.result _ _ (λ r ens text p n shows comes few.
    let t = tok_of c.args.token.now in
    let put = put_shows text p.state n c.args.stack.now.rows t c.in_ok-next.next shows.rows comes.frames (omega arith) c.in_ok-next.ensures in
    step_some text p t c.in-Some.item r (subst (ShowsItem text p.item) c.in-Some.is shows.item)
    (λ i is h. ens text p.state i n (record { rows = shows.rows; reached = comes.frames; item = h; keeps = subst (ItemKeepsFew text n) is comes.item; few = few }) put)) c.take_in_item.ensures
