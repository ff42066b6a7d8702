use Rattle.std.proofs.Common.{rules, arith, ◌≡◌, ◌≤◌, ◌<◌, ◌++◌, ◌∷◌, [], ap, sym, subst, ◌∙◌, List, map, length, length-append, refl, Some, None, option_map, IfSome}
use Rattle.std.specs.Str.{IsCharBoundary}
use Rattle.std.proofs.lemmas.List.{map-append}
use Rattle.std.proofs.lemmas.Str.{IsCharBoundary-start}
use Rattle.token_model.specs.Kinds.{Tok, AllWithin}
use Rattle.token_model.specs.Tokens.{FirstToken, LexFrom}
use Rattle.syntax_tree.specs.View.{tok_of}
use Rattle.syntax_tree.specs.declared.tree.Token.{Token}
use Rattle.ml_lexer.proofs.Columns.{column_start}
use Rattle.ml_lexer.proofs.Firsts.{first_col, lex_more, lex_done, within_more}
use Rattle.ml_lexer.proofs.lexer.lex_all.Goals as goal

pub loop-tokens-init : goal.loop-tokens-init
loop-tokens-init g c =
    let text = c.args.left.now ++ c.args.right.now in (
      λ more rest. subst (λ (l : List Token). LexFrom text 0 (map tok_of l ++ more)) (sym c.new-tokens.ensures.items) rest,
      IsCharBoundary-start text c.requires.text,
      omega (arith, ap length c.new-tokens.ensures.items),
      subst (λ (l : List Token). AllWithin (length text) (map tok_of l)) (sym c.new-tokens.ensures.items) tt,
      column_start text,
      search rules,
      refl,
    )

pub loop-tokens-preserved : goal.loop-tokens-preserved
loop-tokens-preserved g c =
    let text = c.args.left.now ++ c.args.right.now in
    let inv = c.loop-tokens.invariant in
    let at = c.loop-tokens.at in
    let t = c.in-Some.token in
    let first : FirstToken text at (Some (tok_of t)) = subst (λ o. FirstToken text at (option_map tok_of o)) c.in-Some.is c.in_ok-token.ensures.token in
    let span = subst (λ o. IfSome o (λ x. (at < x.span.end) × (x.span.start ≤ x.span.end) × IsCharBoundary text x.span.end)) c.in-Some.is c.in_ok-token.ensures.span in
    let pushed : c.push.new.self.items ≡ c.loop-tokens.tokens.items ++ t ∷ [] = search rules in
    let listed : map tok_of c.loop-tokens.tokens.items ++ tok_of t ∷ [] ≡ map tok_of c.push.new.self.items = sym (ap (map tok_of) pushed ∙ map-append tok_of c.loop-tokens.tokens.items (t ∷ [])) in
    let one : length (t ∷ []) ≡ 1 = refl in (
      λ more rest. subst (λ (l : List Tok). LexFrom text 0 (l ++ more)) listed (lex_more text at (tok_of t) (map tok_of c.loop-tokens.tokens.items) first inv.0 more rest),
      span.2,
      omega (arith, inv.2, span.0, ap length pushed, length-append c.loop-tokens.tokens.items (t ∷ []), one),
      subst (λ (l : List Token). AllWithin (length text) (map tok_of l)) (sym pushed) (within_more (length text) c.loop-tokens.tokens.items t inv.3 (omega (arith, span.1, span.2.0)) span.2.0),
      c.column_behind-col.ensures,
      search rules,
      search rules,
    )

pub column_behind-col-requires-clause-col : goal.column_behind-col-requires-clause-col
column_behind-col-requires-clause-col g c =
    let text = c.args.left.now ++ c.args.right.now in
    let t = c.in-Some.token in
    let first : FirstToken text c.loop-tokens.at (Some (tok_of t)) = subst (λ o. FirstToken text c.loop-tokens.at (option_map tok_of o)) c.in-Some.is c.in_ok-token.ensures.token in
    first_col text c.loop-tokens.at (tok_of t) first

pub returns-clause-tokens : goal.returns-clause-tokens
returns-clause-tokens g c =
    let text = c.args.left.now ++ c.args.right.now in
    let at = c.loop-tokens.at in
    let none : FirstToken text at None = subst (λ o. FirstToken text at (option_map tok_of o)) c.in_default.is c.in_ok-token.ensures.token in
    lex_done text at (map tok_of c.loop-tokens.tokens.items) none c.loop-tokens.invariant.0
