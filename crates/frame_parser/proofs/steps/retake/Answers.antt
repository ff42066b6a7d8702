use Rattle.std.proofs.Common.{None, Some, sym, ◌∙◌, subst, arith}
use Rattle.std.proofs.lemmas.Result.{IfOk-weaker}
use Rattle.syntax_tree.specs.View.{tok_of}
use Rattle.frame_parser.specs.Shown.{ShowsItem}
use Rattle.frame_parser.proofs.Rows.{ready_standing, put_shows}
use Rattle.frame_parser.proofs.Retakes.{retake_cut, retake_on, retake_none}
use Rattle.frame_parser.proofs.steps.retake.Goals as goal

pub put-requires : goal.put-requires
put-requires c = let (n, r, l) = c.requires.ready in record { standing = ready_standing n c.args.stack.now.rows r (omega arith) }

pub returns-then-is_cut : goal.returns-then-is_cut
returns-then-is_cut c =
    IfOk-weaker c.cut_step.result _ _ (λ r ens text p n shows reached few.
    let t = tok_of c.args.token.now in
    let put = put_shows text p.state n c.args.stack.now.rows t c.in_ok-next.next shows.rows reached (omega arith) c.in_ok-next.ensures in
    retake_cut text p t c.in-Some.item r (subst (ShowsItem text p.item) c.in-Some.is shows.item) (sym (c.is_cut.ensures text _ put) ∙ c.if-is_cut.true) (ens text p.state n shows.rows reached few)) c.cut_step.ensures

pub returns-in-None : goal.returns-in-None
returns-in-None c =
    IfOk-weaker c.go_on.result _ _ (λ r ens text p n shows reached few.
    let t = tok_of c.args.token.now in
    let put = put_shows text p.state n c.args.stack.now.rows t c.in_ok-next.next shows.rows reached (omega arith) c.in_ok-next.ensures in
    retake_none text p t r (subst (ShowsItem text p.item) c.in-None.is shows.item) (ens text _ None put tt)) c.go_on.ensures

pub returns-in_ok-share_item-in-Some : goal.returns-in_ok-share_item-in-Some
returns-in_ok-share_item-in-Some c =
    IfOk-weaker c.go_on-in-Some.result _ _ (λ r ens text p n shows reached few.
    let t = tok_of c.args.token.now in
    let put = put_shows text p.state n c.args.stack.now.rows t c.in_ok-next.next shows.rows reached (omega arith) c.in_ok-next.ensures in
    retake_on text p t c.in-Some.item r (subst (ShowsItem text p.item) c.in-Some.is shows.item) (sym (c.is_cut.ensures text _ put) ∙ c.if-is_cut.false)
    (λ i h. ens text _ (Some i) put (c.in_ok-share_item-in-Some.ensures text i h))) c.go_on-in-Some.ensures
