use Rattle.std.proofs.Common.{suc, sym, ◌∙◌, arith}
use Rattle.std.proofs.lemmas.Result.{IfOk-weaker}
use Rattle.recovery_model.specs.Steps as rules
use Rattle.grammar_model.specs.Ocaml.{grammar}
use Rattle.recovery_model.specs.Items.{cut_step}
use Rattle.recovery_model.specs.Recovery.{with_token}
use Rattle.syntax_tree.specs.View.{tok_of}
use Rattle.frame_parser.proofs.Comes.{with_few}
use Rattle.frame_parser.proofs.Known.{few_within, item_cut, item_on, item_shows, once}
use Rattle.frame_parser.proofs.steps.take_in_item.Goals as goal

pub cut_step-requires : goal.cut_step-requires
cut_step-requires c =
    let (text, s, i, n, h) = c.requires.ready in
    record { ready = (n, record { text = text; state = s; shows = h.rows; reached = h.reached }, h.few) }

pub step_in_item-requires : goal.step_in_item-requires
step_in_item-requires c =
    let (text, s, i, n, h) = c.requires.ready in
    let t = tok_of c.args.token.now in
    let lt = h.few in
    record {
      ready = (
        text,
        with_token s t c.is_cut-cuts.result i.mark,
        c.in_ok-mark.ensures text s i.mark h.rows h.item.1,
        few_within text (suc n) 1048576 _ (with_few text n s t c.is_cut-cuts.result i.mark h.reached h.keeps) (omega arith),
      );
    }

pub returns-then-ends_item : goal.returns-then-ends_item
returns-then-ends_item c text s i n h put =
    let t = tok_of c.args.token.now in
    let x = rules.step (grammar text) s.stack s.place t in
    let r = c.taken_once.result in
    item_shows text s i c.args.item.now t x c.is_cut-cuts.result r h.item (c.is_cut-cuts.ensures text x put)
    (item_cut text s c.args.item.now.col t x c.is_cut-cuts.result i.mark r (sym (c.ends_item.ensures text i.mark h.item.1) ∙ c.if-ends_item.true)
    (once text (cut_step (grammar text) s t) c.in_ok-cut_step.field-0 r c.taken_once.ensures.step c.taken_once.ensures.count (c.in_ok-cut_step.ensures text s n h.rows h.reached h.few)))

pub returns : goal.returns
returns c =
    IfOk-weaker c.step_in_item.result _ _ (λ r ens text s i n h put.
    let t = tok_of c.args.token.now in
    let x = rules.step (grammar text) s.stack s.place t in
    let lt = h.few in
    item_shows text s i c.args.item.now t x c.is_cut-cuts.result r h.item (c.is_cut-cuts.ensures text x put)
    (item_on text s c.args.item.now.col t x c.is_cut-cuts.result i.mark r (sym (c.ends_item.ensures text i.mark h.item.1) ∙ c.if-ends_item.false)
    (ens text x (with_token s t c.is_cut-cuts.result i.mark) put (c.in_ok-mark.ensures text s i.mark h.rows h.item.1)
    (few_within text (suc n) 1048576 _ (with_few text n s t c.is_cut-cuts.result i.mark h.reached h.keeps) (omega arith))))) c.step_in_item.ensures
