use Rattle.std.proofs.Common.{◌≡◌, ◌++◌, ◌∙◌, ap, map, sym, subst, List, append-nil}
use Rattle.std.proofs.lemmas.List.{drop_all}
use Rattle.text_terms.specs.Bytes.{str_bytes}
use Rattle.query_model.specs.Outlines.{members_of}
use Rattle.service_model.specs.Structure.{shown_member, shown_members}
use Rattle.text_queries.specs.Outlines.{member_of}
use Rattle.text_queries.specs.declared.outlines.Outlined.{Outlined, out-Outlined}
use Rattle.json_lines.specs.Meets.{pair_of}
use Rattle.json_lines.proofs.Views.{made_is_said}
use Rattle.json_lines.specs.Means.{outline_of, outlined_of}
use Rattle.text_reading.proofs.Parsing.{member_shown, outline_shown}
use Rattle.text_reading.proofs.structure.+shown.Goals as goal

pub shown_member-returns : goal.shown_member-returns
shown_member-returns t c =
    let m = c.args.member.now in
    let inside = c.in_ok-shown_outline.ensures ∙ ap (λ (ms : List Outlined). shown_members c.args.store.now (members_of (map member_of ms))) c.deref.ensures.value in
    made_is_said c.in_ok-shown_outline.field-0 c.position.result c.position-2.result (out-Outlined m).kind c.in_ok-share.field-0
    ∙ member_shown c.args.store.now m (pair_of c.position.result) (pair_of c.position-2.result) (str_bytes c.in_ok-share.field-0) (outline_of (map outlined_of c.in_ok-shown_outline.field-0.items)) c.position.ensures c.position-2.ensures c.in_ok-share.ensures inside

pub shown_outline-returns : goal.shown_outline-returns
shown_outline-returns t c =
    let text = c.args.store.now in
    let members = c.args.members.now in
    let shown = map outlined_of c.loop-member.shown.items in
    let all = subst (λ (ms : List Outlined). shown ++ map (shown_member text) (map member_of ms) ≡ map (shown_member text) (map member_of members)) (drop_all c.loop-member.member-index members c.loop-member-test.false) c.loop-member.invariant in
    ap outline_of (sym (append-nil shown) ∙ all) ∙ outline_shown text (map member_of members)
