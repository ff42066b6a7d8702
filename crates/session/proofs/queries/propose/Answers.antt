use Rattle.std.proofs.Common.{◌≡◌, ◌∙◌, ℕ, List, IfOk, ap, sym, subst, true, false}
use Rattle.query_model.specs.Prefixes.{is_name_prefix}
use Rattle.query_model.specs.TypedNodes.{innermost_at}
use Rattle.text_terms.specs.Bytes.{str_bytes}
use Rattle.service_model.specs.Replies as said
use Rattle.service_model.specs.Answers.{LocatedBy, UsedBy}
use Rattle.service_model.specs.Completions.{CompletedBy}
use Rattle.syntax_tree.specs.View.{trees_of}
use Rattle.syntax_tree.specs.declared.tree.Tree.{Tree}
use Rattle.json_lines.specs.Means.{said_of}
use Rattle.text_changes.specs.Changes.{IsSaidOf}
use Rattle.session.specs.Queries.{AnswersQuery, ProposesAt}
use Rattle.session.specs.Working.{tries_texts}
use Rattle.session.specs.declared.queries.Query.{Query}
use Rattle.session.proofs.Proposing.{alone_answers, alone_fits, alone_is, alone_placed}
use Rattle.session.proofs.queries.propose.Goals as goal

pub returns-in-Locate-clause-answers : goal.returns-in-Locate-clause-answers
returns-in-Locate-clause-answers g c =
    let text = c.args.store.now in
    let items = trees_of c.args.parsed.now.tree in
    subst (λ (q : Query). IfOk c.said.result (λ p. (s : said.Said) → IsSaidOf text p s → AnswersQuery q text c.args.offset items s)) (sym c.in-Locate.is)
    (alone_answers (LocatedBy text c.args.offset items) text c.located.result c.said.result c.said.ensures
    (subst (λ (t : Tree). IfOk c.located.result (λ r. LocatedBy text c.args.offset (trees_of t) (said_of r))) c.asked-asked.ensures.tree c.located.ensures))

pub returns-in-Occurrences-clause-answers : goal.returns-in-Occurrences-clause-answers
returns-in-Occurrences-clause-answers g c =
    let text = c.args.store.now in
    let items = trees_of c.args.parsed.now.tree in
    subst (λ (q : Query). IfOk c.said-in-Occurrences.result (λ p. (s : said.Said) → IsSaidOf text p s → AnswersQuery q text c.args.offset items s)) (sym c.in-Occurrences.is)
    (alone_answers (UsedBy text c.args.offset items) text c.used.result c.said-in-Occurrences.result c.said-in-Occurrences.ensures
    (subst (λ (t : Tree). IfOk c.used.result (λ r. UsedBy text c.args.offset (trees_of t) (said_of r))) c.asked-asked.ensures.tree c.used.ensures))

pub returns-in-Complete-clause-answers : goal.returns-in-Complete-clause-answers
returns-in-Complete-clause-answers g c =
    let text = c.args.store.now in
    let items = trees_of c.args.parsed.now.tree in
    let prefix = str_bytes c.in-Complete.prefix in
    subst (λ (q : Query). IfOk c.said-in-Complete.result (λ p. (s : said.Said) → IsSaidOf text p s → AnswersQuery q text c.args.offset items s)) (sym c.in-Complete.is)
    (alone_answers (CompletedBy (is_name_prefix prefix) prefix) text c.completed.result c.said-in-Complete.result c.said-in-Complete.ensures
    (subst (λ (t : List ℕ). IfOk c.completed.result (λ r. CompletedBy (is_name_prefix t) t (said_of r))) c.as_str.ensures c.completed.ensures))

pub returns-in-Cases-clause-answers : goal.returns-in-Cases-clause-answers
returns-in-Cases-clause-answers g c =
    let text = c.args.store.now in
    let items = trees_of c.args.parsed.now.tree in
    subst (λ (q : Query). IfOk c.cases.result (λ p. (s : said.Said) → IsSaidOf text p s → AnswersQuery q text c.args.offset items s)) (sym c.in-Cases.is) c.cases.ensures.answers

pub returns-in-Terms-clause-answers : goal.returns-in-Terms-clause-answers
returns-in-Terms-clause-answers g c =
    let text = c.args.store.now in
    let items = trees_of c.args.parsed.now.tree in
    subst (λ (q : Query). IfOk c.terms_in.result (λ p. (s : said.Said) → IsSaidOf text p s → AnswersQuery q text c.args.offset items s)) (sym c.in-Terms.is) c.terms_in.ensures.answers

pub returns-in-Locate-clause-fits : goal.returns-in-Locate-clause-fits
returns-in-Locate-clause-fits g c = alone_fits c.args.store.now c.located.result c.said.result c.said.ensures

pub returns-in-Occurrences-clause-fits : goal.returns-in-Occurrences-clause-fits
returns-in-Occurrences-clause-fits g c = alone_fits c.args.store.now c.used.result c.said-in-Occurrences.result c.said-in-Occurrences.ensures

pub returns-in-Complete-clause-fits : goal.returns-in-Complete-clause-fits
returns-in-Complete-clause-fits g c = alone_fits c.args.store.now c.completed.result c.said-in-Complete.result c.said-in-Complete.ensures

pub returns-in-Locate-clause-alone : goal.returns-in-Locate-clause-alone
returns-in-Locate-clause-alone g c = λ not. alone_is c.located.result c.said.result c.said.ensures

pub returns-in-Occurrences-clause-alone : goal.returns-in-Occurrences-clause-alone
returns-in-Occurrences-clause-alone g c = λ not. alone_is c.used.result c.said-in-Occurrences.result c.said-in-Occurrences.ensures

pub returns-in-Complete-clause-alone : goal.returns-in-Complete-clause-alone
returns-in-Complete-clause-alone g c = λ not. alone_is c.completed.result c.said-in-Complete.result c.said-in-Complete.ensures

pub returns-in-Cases-clause-alone : goal.returns-in-Cases-clause-alone
returns-in-Cases-clause-alone g c = λ not. let bad : true ≡ false = sym (ap tries_texts c.in-Cases.is) ∙ not in cc

pub returns-in-Terms-clause-alone : goal.returns-in-Terms-clause-alone
returns-in-Terms-clause-alone g c = λ not. let bad : true ≡ false = sym (ap tries_texts c.in-Terms.is) ∙ not in cc

pub returns-in-Locate-clause-placed : goal.returns-in-Locate-clause-placed
returns-in-Locate-clause-placed g c = subst (λ (q : Query). IfOk c.said.result (ProposesAt q (innermost_at c.args.offset (trees_of c.args.parsed.now.tree)))) (sym c.in-Locate.is) (alone_placed c.located.result c.said.result c.said.ensures)

pub returns-in-Occurrences-clause-placed : goal.returns-in-Occurrences-clause-placed
returns-in-Occurrences-clause-placed g c = subst (λ (q : Query). IfOk c.said-in-Occurrences.result (ProposesAt q (innermost_at c.args.offset (trees_of c.args.parsed.now.tree)))) (sym c.in-Occurrences.is) (alone_placed c.used.result c.said-in-Occurrences.result c.said-in-Occurrences.ensures)

pub returns-in-Complete-clause-placed : goal.returns-in-Complete-clause-placed
returns-in-Complete-clause-placed g c = subst (λ (q : Query). IfOk c.said-in-Complete.result (ProposesAt q (innermost_at c.args.offset (trees_of c.args.parsed.now.tree)))) (sym c.in-Complete.is) (alone_placed c.completed.result c.said-in-Complete.result c.said-in-Complete.ensures)

pub returns-in-Cases-clause-placed : goal.returns-in-Cases-clause-placed
returns-in-Cases-clause-placed g c = subst (λ (q : Query). IfOk c.cases.result (ProposesAt q (innermost_at c.args.offset (trees_of c.args.parsed.now.tree)))) (sym c.in-Cases.is) c.cases.ensures.placed

pub returns-in-Terms-clause-placed : goal.returns-in-Terms-clause-placed
returns-in-Terms-clause-placed g c = subst (λ (q : Query). IfOk c.terms_in.result (ProposesAt q (innermost_at c.args.offset (trees_of c.args.parsed.now.tree)))) (sym c.in-Terms.is) c.terms_in.ensures.placed
