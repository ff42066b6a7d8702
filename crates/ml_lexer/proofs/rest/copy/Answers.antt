use Rattle.std.proofs.Common.{rules, ◌≡◌, ◌++◌, ◌∷◌, [], ◌∙◌, ap, get_or, List, ℕ, length, ◌<◌}
use Rattle.ml_lexer.specs.Places.{rest_of}
use Rattle.ml_lexer.proofs.Parts.{part_grows}
use Rattle.ml_lexer.proofs.rest.copy.Goals as goal

pub loop-i-preserved : goal.loop-i-preserved
loop-i-preserved c =
    let w = rest_of c.args.text in
    let pushed : c.push.new.self.items ≡ c.loop-i.bytes.items ++ c.peek.result ∷ [] = search rules in
    let byte : c.peek.result ≡ get_or w c.loop-i.i 0 = c.peek.ensures in
    let inside : c.loop-i.i < length w = search rules in
    pushed ∙ ap (λ b. c.loop-i.bytes.items ++ b ∷ []) byte ∙ ap (λ (l : List ℕ). l ++ get_or w c.loop-i.i 0 ∷ []) c.loop-i.invariant
    ∙ part_grows w c.args.from c.loop-i.i (search rules) inside
