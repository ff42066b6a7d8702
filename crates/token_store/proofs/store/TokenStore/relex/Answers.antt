use Rattle.std.proofs.Common.{◌≡◌, ◌-◌, ◌≤◌, ◌++◌, List, map, take, length, sym, ◌∙◌, ap, arith}
use Rattle.std.proofs.lemmas.List.{length-map}
use Rattle.syntax_tree.specs.declared.tree.Token.{Token}
use Rattle.ml_lexer.specs.Reached.{reach_of, reached_of}
use Rattle.ml_lexer.specs.Steady.{steady}
use Rattle.token_store.specs.Stored.{Stored}
use Rattle.token_store.proofs.Fronts.{lex_of, few_first, shorter}
use Rattle.token_store.proofs.Peaks.{peaks_cut}
use Rattle.token_store.proofs.store.TokenStore.relex.Goals as goal

pub returns-in-Ok-clause-tokens : goal.returns-in-Ok-clause-tokens
returns-in-Ok-clause-tokens g c = lex_of (c.args.left.now ++ c.args.right.now) (map reached_of c.read_on.new.tokens.items) c.in-Ok.ensures.all

pub returns-in-Ok-clause-work : goal.returns-in-Ok-clause-work
returns-in-Ok-clause-work g c =
    let text = c.args.left.now ++ c.args.right.now in
    let before = c.truncate.new.self.items in
    let now = c.read_on.new.tokens.items in
    let kept : map reached_of before ≡ steady reach_of c.args.from (map reached_of c.self.inside.tokens.items) = ap (map reached_of) c.truncate.ensures.items ∙ ap (λ (l : List Token). map reached_of (take c.steady_count-kept.result l)) (sym c.as_slice.ensures.value) ∙ c.steady_count-kept.ensures.steady ∙ ap (λ (l : List Token). steady reach_of c.args.from (map reached_of l)) c.as_slice.ensures.value in
    let fewer : length before ≤ length now = shorter before now c.read_on.ensures.kept in
    let many : length before ≡ length (steady reach_of c.args.from c.args.self.now.tokens) = sym (length-map before reached_of) ∙ ap length kept ∙ ap (λ (s : Stored). length (steady reach_of c.args.from s.tokens)) c.self.view_is in
    (length now - length before, c.read_on.ensures.counted, λ ts lex. omega (arith, few_first text (map reached_of now) ts c.read_on.ensures.front lex, length-map now reached_of, many, fewer))

pub returns-in-Err-clause-work : goal.returns-in-Err-clause-work
returns-in-Err-clause-work g c =
    let text = c.args.left.now ++ c.args.right.now in
    let before = c.truncate.new.self.items in
    let now = c.read_on.new.tokens.items in
    let kept : map reached_of before ≡ steady reach_of c.args.from (map reached_of c.self.inside.tokens.items) = ap (map reached_of) c.truncate.ensures.items ∙ ap (λ (l : List Token). map reached_of (take c.steady_count-kept.result l)) (sym c.as_slice.ensures.value) ∙ c.steady_count-kept.ensures.steady ∙ ap (λ (l : List Token). steady reach_of c.args.from (map reached_of l)) c.as_slice.ensures.value in
    let fewer : length before ≤ length now = shorter before now c.read_on.ensures.kept in
    let many : length before ≡ length (steady reach_of c.args.from c.args.self.now.tokens) = sym (length-map before reached_of) ∙ ap length kept ∙ ap (λ (s : Stored). length (steady reach_of c.args.from s.tokens)) c.self.view_is in
    (length now - length before, c.read_on.ensures.counted, λ ts lex. omega (arith, few_first text (map reached_of now) ts c.read_on.ensures.front lex, length-map now reached_of, many, fewer))

pub read_on-requires-clause-peaks : goal.read_on-requires-clause-peaks
read_on-requires-clause-peaks g c = peaks_cut c.steady_count-kept.result c.self.inside.tokens.items c.truncate.new.self.items c.self.inside.peaks.items c.truncate-2.new.self.items c.self.invariant c.truncate.ensures.items c.truncate-2.ensures.items

pub invariant_of-self-in-Err : goal.invariant_of-self-in-Err
invariant_of-self-in-Err g c =
    peaks_cut c.steady_count-kept.result c.read_on.new.tokens.items c.truncate-in-Err.new.self.items c.read_on.new.peaks.items c.truncate-in-Err-2.new.self.items c.read_on.ensures.peaks c.truncate-in-Err.ensures.items c.truncate-in-Err-2.ensures.items
