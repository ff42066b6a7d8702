use Rattle.std.proofs.Common.{◌≡◌, ◌<◌, ◌+◌, ◌-◌, take, drop, length, sym, ◌∙◌, ap, Some, arith, ℕ}
use Rattle.ml_lexer.specs.Places.{rest_of}
use Rattle.token_model.specs.Spellings.{closing}
use Rattle.std.proofs.lemmas.List.{length-drop}
use Rattle.ml_lexer.proofs.Repeats.{word_here, word_later, length-id, length-closing, front_fits}
use Rattle.ml_lexer.proofs.strings.closing_end.Goals as goal

pub loop-i-preserved : goal.loop-i-preserved
loop-i-preserved c =
    let w = rest_of c.args.text in
    let word = closing (take (c.args.id_end - 1) (drop 1 w)) in
    c.loop-i.invariant ∙ word_later word w c.loop-i.i (omega arith) (sym c.closes_quoted.ensures ∙ c.if-closes_quoted.false)

pub returns-then-closes_quoted-clause-value : goal.returns-then-closes_quoted-clause-value
returns-then-closes_quoted-clause-value c =
    let w = rest_of c.args.text in
    let n = c.args.id_end in
    let id = take (n - 1) (drop 1 w) in
    let size : length (closing id) ≡ n + 1 = length-closing id n (length-id w n (omega arith) (omega arith)) in
    let there : c.loop-i.i < length w = omega arith in
    sym (c.loop-i.invariant ∙ word_here (closing id) w c.loop-i.i there (sym c.closes_quoted.ensures ∙ c.if-closes_quoted.true) ∙ ap (λ (k : ℕ). Some k) (omega (arith, size)))

pub returns-then-closes_quoted-clause-within : goal.returns-then-closes_quoted-clause-within
returns-then-closes_quoted-clause-within c =
    let w = rest_of c.args.text in
    let n = c.args.id_end in
    let id = take (n - 1) (drop 1 w) in
    let size : length (closing id) ≡ n + 1 = length-closing id n (length-id w n (omega arith) (omega arith)) in
    let fits = front_fits (closing id) (drop c.loop-i.i w) (sym c.closes_quoted.ensures ∙ c.if-closes_quoted.true) in
    (omega arith, omega (arith, fits, size, length-drop c.loop-i.i w))
