use Rattle.std.proofs.Common.{[], ◌∷◌, ◌++◌, map, None, option_map, refl, ◌∙◌, ap, arith}
use Rattle.recovery_model.specs.Items.{state}
use Rattle.syntax_tree.specs.View.{tok_of}
use Rattle.frame_steps.specs.Told.{listed}
use Rattle.frame_steps.specs.View.{fault_of}
use Rattle.frame_parser.proofs.Rows.{ready_standing}
use Rattle.frame_parser.proofs.OneStep.{cut_shows, ended_standing}
use Rattle.frame_parser.proofs.cuts.cut_step.Goals as goal

pub close_item-requires : goal.close_item-requires
close_item-requires c = let (n, r, l) = c.requires.ready in record { standing = ready_standing n c.args.rows.now r (omega arith) }

pub put-requires : goal.put-requires
put-requires c = let (n, r, l) = c.requires.ready in record { standing = ended_standing r.text r.state n c.args.rows.now c.in_ok-ended.ended r.shows r.reached l c.in_ok-ended.ensures }

pub returns : goal.returns
returns c text s n shows reached few =
    cut_shows text s n (tok_of c.args.token.now) c.args.rows.now c.in_ok-ended.ended c.in_ok-next.next c.place.result c.end_fault.result _ shows reached few c.in_ok-ended.ensures c.in_ok-next.ensures c.place.ensures c.end_fault.ensures
    (c.in_ok-add_fault-2.ensures ∙ ap (λ xs. xs ++ listed (option_map fault_of c.in_ok-next.next.fault)) (c.in_ok-add_fault.ensures ∙ ap (λ xs. map fault_of xs ++ (fault_of c.end_fault.result ∷ [])) c.new-faults.ensures.items))
    refl (λ x put. c.item_behind-item.ensures text (state x.stack x.place) (tok_of c.args.token.now) None refl put.rows tt)
