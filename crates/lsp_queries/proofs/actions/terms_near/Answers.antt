use Rattle.std.proofs.Common.{rules, arith, ◌≡◌, ◌∙◌, ◌<◌, ◌+◌, ℕ, List, ◌∷◌, length, map, drop, ap, sym, subst}
use Rattle.std.proofs.lemmas.List.{drop_more}
use Rattle.json_lines.specs.Means.{fault_of}
use Rattle.json_lines.specs.Meets.{pair_of}
use Rattle.json_lines.specs.declared.reply.Listed.{Listed}
use Rattle.lsp_answers.specs.Puts.{action_of}
use Rattle.lsp_positions.specs.Texts.{columns_in}
use Rattle.lsp_queries.specs.Actions.{TermsAt, TermsNear}
use Rattle.lsp_queries.specs.Shown.{place_told}
use Rattle.lsp_queries.proofs.Near.{near_found}
use Rattle.lsp_queries.proofs.actions.terms_near.Goals as goal

pub returns-then-not-is_empty-clause-are : goal.returns-then-not-is_empty-clause-are
returns-then-not-is_empty-clause-are g c =
    let by = columns_in c.args.by in
    let text = c.args.session.now.text in
    let asked : ℕ × ℕ = (c.args.asked.start, c.args.asked.end) in
    let all = c.args.faults.now in
    let i = c.loop-fault.fault-index in
    let x = c.fault-item.result in
    let terms = c.in_ok-terms.terms.items in
    let lt : i < length all = let n = c.loop-fault-test.true in omega arith in
    let some : 0 < length terms = search rules in
    let cut : drop i all ≡ x ∷ drop (i + 1) all = drop_more all i x lt ∙ ap (λ y. y ∷ drop (i + 1) all) (sym c.fault-item.is) in
    let at = subst (λ b. TermsAt b by text (place_told text (pair_of x.start)) (map action_of terms)) c.is_missing_near-missing.ensures c.in_ok-terms.ensures.are in
    c.loop-fault.invariant.0 (map action_of terms) (subst (λ (l : List Listed). TermsNear by text asked (map fault_of l) (map action_of terms)) (sym cut) (near_found action_of by text asked (fault_of x) (map fault_of (drop (i + 1) all)) terms some at))
