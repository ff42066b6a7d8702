use Rattle.std.proofs.Common.{rules, ◌≡◌, ℕ, true, List, length, map, subst}
use Rattle.std.proofs.lemmas.Result.{IfOk-weaker}
use Rattle.json_lines.specs.Means.{fault_of}
use Rattle.json_lines.specs.declared.reply.Listed.{Listed}
use Rattle.lsp_answers.specs.Puts.{action_of}
use Rattle.lsp_positions.specs.Texts.{columns_in}
use Rattle.lsp_queries.specs.Actions.{TermsNear, TermsPart}
use Rattle.lsp_queries.proofs.Near.{terms_by_faults}
use Rattle.lsp_queries.proofs.actions.terms_for.Goals as goal

pub returns-clause-are : goal.returns-clause-are
returns-clause-are g c =
    let by = columns_in c.args.by in
    let text = c.args.session.now.text in
    let asked : ℕ × ℕ = (c.args.asked.start, c.args.asked.end) in
    let here = c.args.here.items in
    let none : length here ≡ 0 = search rules in
    let (more, errors) = c.in_ok-faults.ensures.faults in
    IfOk-weaker c.terms_near.result (λ v. TermsNear by text asked (map fault_of c.deref.result.now) (map action_of v.items)) (λ v. TermsPart true (map action_of here) by text asked (map action_of v.items))
    (λ v near. terms_by_faults action_of here by text asked (map fault_of c.in_ok-faults.faults.items) more (map action_of v.items) none errors
    (subst (λ (l : List Listed). TermsNear by text asked (map fault_of l) (map action_of v.items)) c.deref.ensures.value near))
    c.terms_near.ensures.are
