use Rattle.std.proofs.Common.{rules, ◌≡◌, ◌+◌, ◌-◌, take, drop, get_or, true, false, eq-eqb, sym, ◌∙◌, ap}
use Rattle.std.specs.Prelude.{◌==◌, ◌&&◌}
use Rattle.ml_lexer.specs.Places.{rest_of}
use Rattle.ml_lexer.specs.Scans.{front_is}
use Rattle.ml_lexer.proofs.Repeats.{front_closing, length-id}
use Rattle.ml_lexer.proofs.strings.closes_quoted.Goals as goal

pub returns-then-same : goal.returns-then-same
returns-then-same c =
    let w = rest_of c.args.text in
    let at = c.args.at in
    let n = c.args.id_end in
    let id = take (n - 1) (drop 1 w) in
    let bar : (get_or w at 0 == 124) ≡ true = eq-eqb (get_or w at 0) 124 (sym c.peek.ensures ∙ c.if-peek-ne124.false) in
    let same : front_is id (drop (at + 1) w) ≡ true = sym c.is_repeated-same.ensures ∙ c.if-same.true in
    sym (front_closing id w at n (search rules) (length-id w n (search rules) (search rules)) ∙ ap (λ t. t && (front_is id (drop (at + 1) w) && get_or w (at + n) 0 == 125)) bar
    ∙ ap (λ t. t && get_or w (at + n) 0 == 125) same ∙ ap (λ k. k == 125) (sym c.peek-last.ensures))

pub returns-else-same : goal.returns-else-same
returns-else-same c =
    let w = rest_of c.args.text in
    let at = c.args.at in
    let n = c.args.id_end in
    let id = take (n - 1) (drop 1 w) in
    let bar : (get_or w at 0 == 124) ≡ true = eq-eqb (get_or w at 0) 124 (sym c.peek.ensures ∙ c.if-peek-ne124.false) in
    let other : front_is id (drop (at + 1) w) ≡ false = sym c.is_repeated-same.ensures ∙ c.if-same.false in
    c.if-same.false ∙ sym (front_closing id w at n (search rules) (length-id w n (search rules) (search rules)) ∙ ap (λ t. t && (front_is id (drop (at + 1) w) && get_or w (at + n) 0 == 125)) bar
    ∙ ap (λ t. t && get_or w (at + n) 0 == 125) other)
