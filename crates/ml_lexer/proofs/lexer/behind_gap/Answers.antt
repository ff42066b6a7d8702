use Rattle.std.proofs.Common.{rules, ◌≡◌, ◌<◌, ap, sym, subst, ◌∙◌, arith, List, ℕ, [], drop, length, length-drop, get_or, true, false}
use Rattle.std.proofs.lemmas.List.{drop_all}
use Rattle.token_model.specs.Bytes.{is_blank}
use Rattle.token_model.specs.Comments.{begins_comment, Closes}
use Rattle.token_model.specs.Tokens.{Gap, no_gap}
use Rattle.ml_lexer.specs.Places.{rest_of}
use Rattle.ml_lexer.proofs.Gaps.{gap_blank, gap_comment, unclosed_there}
use Rattle.ml_lexer.proofs.lexer.behind_gap.Goals as goal

pub loop-i-preserved-then-is_blank : goal.loop-i-preserved-then-is_blank
loop-i-preserved-then-is_blank c =
    let l = rest_of c.args.text in
    let i = c.loop-i.i in
    let there : i < length l = search rules in
    let is : is_blank (get_or (drop i l) 0 0) ≡ true = sym (c.if-is_blank.ensures ∙ ap is_blank (c.peek.ensures ∙ ap (λ (x : List ℕ). get_or x 0 0) c.ahead-here.ensures.rest)) in
    (omega arith, λ rest gap. c.loop-i.invariant.1 rest (gap_blank l i rest there is gap))

pub loop-i-preserved : goal.loop-i-preserved
loop-i-preserved c =
    let l = rest_of c.args.text in
    let i = c.loop-i.i in
    let here = c.ahead-here.ensures.rest in
    let begins : begins_comment (drop i l) ≡ true = sym (c.if-not-begins_comment.ensures.value ∙ ap begins_comment here) in
    let closes : Closes (drop 2 (drop i l)) (drop c.in-Some.size (drop i l)) = subst (λ (x : List ℕ). Closes (drop 2 x) (drop c.in-Some.size x)) here c.in-Some.ensures.closed in
    let within = c.in-Some.ensures.within in
    (omega (arith, within.1, ap length here, length-drop i l), λ rest gap. c.loop-i.invariant.1 rest (gap_comment l i c.in-Some.size rest begins closes gap))

pub returns-in-None : goal.returns-in-None
returns-in-None c =
    let l = rest_of c.args.text in
    let i = c.loop-i.i in
    let here = c.ahead-here.ensures.rest in
    let there : i < length l = search rules in
    let begins : begins_comment (drop i l) ≡ true = sym (c.if-not-begins_comment.ensures.value ∙ ap begins_comment here) in
    (there, c.loop-i.invariant.1 (drop i l) no_gap, unclosed_there (drop i l) begins (subst (λ (x : List ℕ). (rest : List ℕ) → Closes (drop 2 x) rest → ⊥) here c.in-None.ensures.unclosed), begins)

pub returns-then-not-begins_comment : goal.returns-then-not-begins_comment
returns-then-not-begins_comment c =
    let l = rest_of c.args.text in
    let i = c.loop-i.i in
    let here = c.ahead-here.ensures.rest in
    let there : i < length l = search rules in
    let is : is_blank (get_or (drop i l) 0 0) ≡ false = sym (c.if-is_blank.ensures ∙ ap is_blank (c.peek.ensures ∙ ap (λ (x : List ℕ). get_or x 0 0) here)) in
    let begins : begins_comment (drop i l) ≡ false = sym (c.if-not-begins_comment.ensures.value ∙ ap begins_comment here) in
    (there, c.loop-i.invariant.1 (drop i l) no_gap, is, begins)

pub returns : goal.returns
returns c =
    let l = rest_of c.args.text in
    let past : drop c.loop-i.i l ≡ [] = drop_all c.loop-i.i l (search rules) in
    c.loop-i.invariant.1 [] (subst (λ (x : List ℕ). Gap x []) (sym past) no_gap)
