use Rattle.std.proofs.Common.{◌++◌, map, sym, ◌∙◌, subst, arith}
use Rattle.std.specs.Str.{IsCharBoundary}
use Rattle.std.proofs.lemmas.Str.{IsCharBoundary-start}
use Rattle.ml_lexer.specs.Reached.{reached_of}
use Rattle.ml_lexer.proofs.Columns.{column_start}
use Rattle.ml_lexer.proofs.Firsts.{first_col}
use Rattle.ml_lexer.proofs.Forward.{forward}
use Rattle.token_store.proofs.Fronts.{last_one, front_ends}
use Rattle.token_store.proofs.store.end_of_tokens.Goals as goal

pub returns-then-count-eq0-clause-inside : goal.returns-then-count-eq0-clause-inside
returns-then-count-eq0-clause-inside c = IsCharBoundary-start (c.args.left.now ++ c.args.right.now) c.requires.text

pub returns-then-count-eq0-clause-col : goal.returns-then-count-eq0-clause-col
returns-then-count-eq0-clause-col c = column_start (c.args.left.now ++ c.args.right.now)

pub end_of_token-requires-clause-order : goal.end_of_token-requires-clause-order
end_of_token-requires-clause-order c =
    let text = c.args.left.now ++ c.args.right.now in
    let last = last_one text c.args.tokens.now c.index-tokens-count.result c.if-count-eq0.false c.index-tokens-count.is c.requires.front in
    omega (arith, (forward text last.from _ last.inside last.first).1)

pub end_of_token-requires-clause-within : goal.end_of_token-requires-clause-within
end_of_token-requires-clause-within c =
    let text = c.args.left.now ++ c.args.right.now in
    let last = last_one text c.args.tokens.now c.index-tokens-count.result c.if-count-eq0.false c.index-tokens-count.is c.requires.front in
    (forward text last.from _ last.inside last.first).2

pub end_of_token-requires-clause-col : goal.end_of_token-requires-clause-col
end_of_token-requires-clause-col c =
    let text = c.args.left.now ++ c.args.right.now in
    let last = last_one text c.args.tokens.now c.index-tokens-count.result c.if-count-eq0.false c.index-tokens-count.is c.requires.front in
    first_col text last.from _ last.first

pub returns-clause-at : goal.returns-clause-at
returns-clause-at c =
    let text = c.args.left.now ++ c.args.right.now in
    let last = last_one text c.args.tokens.now c.index-tokens-count.result c.if-count-eq0.false c.index-tokens-count.is c.requires.front in
    c.end_of_token.ensures.at ∙ last.end

pub returns-clause-inside : goal.returns-clause-inside
returns-clause-inside c =
    let text = c.args.left.now ++ c.args.right.now in
    let last = last_one text c.args.tokens.now c.index-tokens-count.result c.if-count-eq0.false c.index-tokens-count.is c.requires.front in
    subst (λ n. IsCharBoundary text n) (sym (c.end_of_token.ensures.at ∙ last.end)) (front_ends text 0 (map reached_of c.args.tokens.now) c.requires.text (IsCharBoundary-start text c.requires.text) (omega arith) c.requires.front).1
