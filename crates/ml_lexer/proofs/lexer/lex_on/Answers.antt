use Rattle.std.proofs.Common.{rules, drop, ◌≡◌, ◌≤◌, ◌<◌, ◌+◌, ◌++◌, ap, sym, subst, ◌∙◌, arith, List, ℕ, length, get_or, Some, true, false, length-drop}
use Rattle.std.specs.Str.{IsUtf8}
use Rattle.token_model.specs.Kinds.{Tok}
use Rattle.token_model.specs.Bytes.{is_blank}
use Rattle.token_model.specs.Comments.{begins_comment}
use Rattle.token_model.specs.Tokens.{FirstToken, IsUnclosed}
use Rattle.ml_lexer.specs.Founds.{found_of}
use Rattle.ml_lexer.specs.Places.{rest_of}
use Rattle.ml_lexer.specs.Reaches.{reach_at, IsStable, HasFew}
use Rattle.ml_lexer.specs.Scans.{Found}
use Rattle.syntax_tree.specs.View.{tok_of}
use Rattle.ml_lexer.proofs.Columns.{column_next, column_small}
use Rattle.ml_lexer.proofs.Few.{found_few, whole_few}
use Rattle.ml_lexer.proofs.Firsts.{first_at, none_found, here_text, found_name, end_at}
use Rattle.ml_lexer.proofs.Stable.{stable_at, whole_stable, reach_found, reach_unclosed}
use Rattle.ml_lexer.proofs.Standing.{StandsAt, found_stands, unclosed_stands}
use Rattle.ml_lexer.proofs.Steadies.{front_found, front_reach}
use Rattle.ml_lexer.proofs.lexer.lex_on.Goals as goal

pub token_at-requires-clause-text : goal.token_at-requires-clause-text
token_at-requires-clause-text g c =
    let text = c.args.left.now ++ c.args.right.now in
    let next = c.in-Comment.ensures in
    let here = rest_of c.ahead-here.result in
    let is = c.ahead-here.ensures.rest in
    let utf8 : IsUtf8 here = subst (λ (l : List ℕ). IsUtf8 l) (sym is) (here_text text c.args.from.at c.in-Comment.i c.requires.text c.requires.inside next.1) in
    let open_end : IsUnclosed here = subst (λ (l : List ℕ). IsUnclosed l) (sym is) next.2 in
    let stands : StandsAt here (found_of c.unclosed.result) = subst (λ (f : Found). StandsAt here f) (sym c.unclosed.ensures.value) (unclosed_stands here open_end) in
    found_name here (found_of c.unclosed.result) utf8 stands

pub token_at-requires-in-Token-clause-text : goal.token_at-requires-in-Token-clause-text
token_at-requires-in-Token-clause-text g c =
    let text = c.args.left.now ++ c.args.right.now in
    let next = c.in-Token.ensures in
    let here = rest_of c.ahead-here-in-Token.result in
    let is = c.ahead-here-in-Token.ensures.rest in
    let f = found_of c.in_ok-found-in-Token.found in
    let utf8 : IsUtf8 here = subst (λ (l : List ℕ). IsUtf8 l) (sym is) (here_text text c.args.from.at c.in-Token.i c.requires.text c.requires.inside next.1) in
    let some : 0 < length here = search rules in
    let no_blank : is_blank (get_or here 0 0) ≡ false = ap (λ (l : List ℕ). is_blank (get_or l 0 0)) is ∙ next.2 in
    let no_comment : begins_comment here ≡ false = ap begins_comment is ∙ next.3 in
    let stands : StandsAt here f = subst (λ (x : Found). StandsAt here x) (sym c.in_ok-found-in-Token.ensures.value) (found_stands here some no_blank no_comment) in
    found_name here f utf8 stands

pub returns-in-End-clause-token : goal.returns-in-End-clause-token
returns-in-End-clause-token g c = none_found (c.args.left.now ++ c.args.right.now) c.args.from.at c.in-End.ensures

pub returns-in_ok-token-in-Comment-clause-token : goal.returns-in_ok-token-in-Comment-clause-token
returns-in_ok-token-in-Comment-clause-token g c =
    let text = c.args.left.now ++ c.args.right.now in
    let next = c.in-Comment.ensures in
    let here = rest_of c.ahead-here.result in
    let is = c.ahead-here.ensures.rest in
    let f = found_of c.unclosed.result in
    let open_end : IsUnclosed here = subst (λ (l : List ℕ). IsUnclosed l) (sym is) next.2 in
    let stands : StandsAt here f = subst (λ (x : Found). StandsAt here x) (sym c.unclosed.ensures.value) (unclosed_stands here open_end) in
    subst (λ (t : Tok). FirstToken text c.args.from.at (Some t)) (sym c.in_ok-token-in-Comment.ensures.value)
    (first_at text here c.args.from.at c.in-Comment.i c.ahead-here.result.at c.column_ahead-col.result f (column_next text c.args.from.at c.in-Comment.i c.ahead-here.result.at c.args.from.col c.column_ahead-col.result c.requires.col c.column_ahead-col.ensures c.ahead-here.ensures.place) c.requires.inside.0 next.0 next.1 is c.ahead-here.ensures.place stands c.unclosed.ensures.fits.within)

pub returns-in_ok-token-in-Token-clause-token : goal.returns-in_ok-token-in-Token-clause-token
returns-in_ok-token-in-Token-clause-token g c =
    let text = c.args.left.now ++ c.args.right.now in
    let next = c.in-Token.ensures in
    let here = rest_of c.ahead-here-in-Token.result in
    let is = c.ahead-here-in-Token.ensures.rest in
    let f = found_of c.in_ok-found-in-Token.found in
    let some : 0 < length here = search rules in
    let no_blank : is_blank (get_or here 0 0) ≡ false = ap (λ (l : List ℕ). is_blank (get_or l 0 0)) is ∙ next.2 in
    let no_comment : begins_comment here ≡ false = ap begins_comment is ∙ next.3 in
    let stands : StandsAt here f = subst (λ (x : Found). StandsAt here x) (sym c.in_ok-found-in-Token.ensures.value) (found_stands here some no_blank no_comment) in
    subst (λ (t : Tok). FirstToken text c.args.from.at (Some t)) (sym c.in_ok-token-in-Token.ensures.value)
    (first_at text here c.args.from.at c.in-Token.i c.ahead-here-in-Token.result.at c.column_ahead-col-in-Token.result f (column_next text c.args.from.at c.in-Token.i c.ahead-here-in-Token.result.at c.args.from.col c.column_ahead-col-in-Token.result c.requires.col c.column_ahead-col-in-Token.ensures c.ahead-here-in-Token.ensures.place) c.requires.inside.0 next.0 next.1 is c.ahead-here-in-Token.ensures.place stands c.in_ok-found-in-Token.ensures.fits.within)

pub returns-in_ok-token-in-Token-clause-span : goal.returns-in_ok-token-in-Token-clause-span
returns-in_ok-token-in-Token-clause-span g c =
    let text = c.args.left.now ++ c.args.right.now in
    let next = c.in-Token.ensures in
    let here = rest_of c.ahead-here-in-Token.result in
    let is = c.ahead-here-in-Token.ensures.rest in
    let f = found_of c.in_ok-found-in-Token.found in
    let utf8 : IsUtf8 here = subst (λ (l : List ℕ). IsUtf8 l) (sym is) (here_text text c.args.from.at c.in-Token.i c.requires.text c.requires.inside next.1) in
    let some : 0 < length here = search rules in
    let no_blank : is_blank (get_or here 0 0) ≡ false = ap (λ (l : List ℕ). is_blank (get_or l 0 0)) is ∙ next.2 in
    let no_comment : begins_comment here ≡ false = ap begins_comment is ∙ next.3 in
    let stands : StandsAt here f = subst (λ (x : Found). StandsAt here x) (sym c.in_ok-found-in-Token.ensures.value) (found_stands here some no_blank no_comment) in
    let last : c.in_ok-token-in-Token.token.span.end ≡ c.args.from.at + c.in-Token.i + f.size = ap (λ (t : Tok). t.end) c.in_ok-token-in-Token.ensures.value ∙ ap (λ k. k + f.size) c.ahead-here-in-Token.ensures.place in
    let fits = c.in_ok-found-in-Token.ensures.fits in
    let first : c.in_ok-token-in-Token.token.span.start ≡ c.args.from.at + c.in-Token.i = ap (λ (t : Tok). t.start) c.in_ok-token-in-Token.ensures.value ∙ c.ahead-here-in-Token.ensures.place in
    let order : c.in_ok-token-in-Token.token.span.start ≤ c.in_ok-token-in-Token.token.span.end = omega (arith, first, last) in
    (omega (arith, last, fits.some), order, end_at text here c.args.from.at c.in-Token.i c.in_ok-token-in-Token.token.span.end f c.requires.inside.0 next.0 utf8 is stands fits.within last)

pub returns-in_ok-token-in-Comment-clause-reach : goal.returns-in_ok-token-in-Comment-clause-reach
returns-in_ok-token-in-Comment-clause-reach g c =
    let text = c.args.left.now ++ c.args.right.now in
    let here = rest_of c.ahead-here.result in
    let place = c.ahead-here.result.at in
    let is = c.ahead-here.ensures.rest in
    let comment : begins_comment here ≡ true = ap begins_comment is ∙ c.in-Comment.ensures.3 in
    let start : c.in_ok-token-in-Comment.token.span.start ≡ place = ap (λ (t : Tok). t.start) c.in_ok-token-in-Comment.ensures.value in
    c.in_ok-token-in-Comment.ensures.reach ∙ ap (λ k. place + k) c.unclosed.ensures.reach ∙ sym (reach_unclosed text here c.args.from.at c.in-Comment.i place is c.ahead-here.ensures.place comment) ∙ ap (reach_at text) (sym start)

pub returns-in_ok-token-in-Comment-clause-stable : goal.returns-in_ok-token-in-Comment-clause-stable
returns-in_ok-token-in-Comment-clause-stable g c =
    let text = c.args.left.now ++ c.args.right.now in
    let there = c.in-Comment.ensures.0 in
    let long : length text < c.in_ok-token-in-Comment.token.reach = omega (arith, c.in_ok-token-in-Comment.ensures.reach, c.unclosed.ensures.reach, c.ahead-here.ensures.place, ap length c.ahead-here.ensures.rest, length-drop c.in-Comment.i (drop c.args.from.at text), length-drop c.args.from.at text, there) in
    whole_stable text c.args.from.at (tok_of c.in_ok-token-in-Comment.token) c.in_ok-token-in-Comment.token.reach (returns-in_ok-token-in-Comment-clause-token g c) (returns-in_ok-token-in-Comment-clause-reach g c) long

pub returns-in_ok-token-in-Token-clause-reach : goal.returns-in_ok-token-in-Token-clause-reach
returns-in_ok-token-in-Token-clause-reach g c =
    let text = c.args.left.now ++ c.args.right.now in
    let here = rest_of c.ahead-here-in-Token.result in
    let place = c.ahead-here-in-Token.result.at in
    let is = c.ahead-here-in-Token.ensures.rest in
    let no_comment : begins_comment here ≡ false = ap begins_comment is ∙ c.in-Token.ensures.3 in
    let start : c.in_ok-token-in-Token.token.span.start ≡ place = ap (λ (t : Tok). t.start) c.in_ok-token-in-Token.ensures.value in
    let found : c.in_ok-found-in-Token.found.reach ≡ front_reach here = c.in_ok-found-in-Token.ensures.reach in
    c.in_ok-token-in-Token.ensures.reach ∙ ap (λ k. place + k) found ∙ sym (reach_found text here c.args.from.at c.in-Token.i place is c.ahead-here-in-Token.ensures.place no_comment) ∙ ap (reach_at text) (sym start)

pub returns-in_ok-token-in-Token-clause-stable : goal.returns-in_ok-token-in-Token-clause-stable
returns-in_ok-token-in-Token-clause-stable g c =
    let text = c.args.left.now ++ c.args.right.now in
    let next = c.in-Token.ensures in
    let here = rest_of c.ahead-here-in-Token.result in
    let place = c.ahead-here-in-Token.result.at in
    let is = c.ahead-here-in-Token.ensures.rest in
    let f = found_of c.in_ok-found-in-Token.found in
    let fits = c.in_ok-found-in-Token.ensures.fits in
    let no_blank : is_blank (get_or here 0 0) ≡ false = ap (λ (l : List ℕ). is_blank (get_or l 0 0)) is ∙ next.2 in
    let no_comment : begins_comment here ≡ false = ap begins_comment is ∙ next.3 in
    let value : f ≡ front_found here = c.in_ok-found-in-Token.ensures.value in
    let found : c.in_ok-found-in-Token.found.reach ≡ front_reach here = c.in_ok-found-in-Token.ensures.reach in
    let reached : f.size ≤ front_reach here = omega (arith, fits.reached, found) in
    let reach : c.in_ok-token-in-Token.token.reach ≡ place + front_reach here = c.in_ok-token-in-Token.ensures.reach ∙ ap (λ k. place + k) found in
    subst (λ (t : Tok). IsStable text c.args.from.at t c.in_ok-token-in-Token.token.reach) (sym c.in_ok-token-in-Token.ensures.value)
    (stable_at text here c.args.from.at c.in-Token.i place c.in_ok-token-in-Token.token.reach c.column_ahead-col-in-Token.result (column_next text c.args.from.at c.in-Token.i place c.args.from.col c.column_ahead-col-in-Token.result c.requires.col c.column_ahead-col-in-Token.ensures c.ahead-here-in-Token.ensures.place) next.0 next.1 is c.ahead-here-in-Token.ensures.place no_blank no_comment f value fits.some fits.within fits.name reached reach)

pub returns-in_ok-token-in-Comment-clause-few : goal.returns-in_ok-token-in-Comment-clause-few
returns-in_ok-token-in-Comment-clause-few g c =
    let text = c.args.left.now ++ c.args.right.now in
    let here = rest_of c.ahead-here.result in
    let place = c.ahead-here.result.at in
    let within = c.in-Comment.ensures.0 in
    let f = found_of c.unclosed.result in
    let size : f.size ≡ length here = ap (λ (x : Found). x.size) c.unclosed.ensures.value in
    let end : c.in_ok-token-in-Comment.token.span.end ≡ place + f.size = ap (λ (t : Tok). t.end) c.in_ok-token-in-Comment.ensures.value in
    let whole : place + length here ≡ length text = omega (arith, c.ahead-here.ensures.place, ap length c.ahead-here.ensures.rest, length-drop c.in-Comment.i (drop c.args.from.at text), length-drop c.args.from.at text, within) in
    whole_few text (tok_of c.in_ok-token-in-Comment.token) c.in_ok-token-in-Comment.token.reach (omega (arith, end, size, whole)) (omega (arith, c.in_ok-token-in-Comment.ensures.reach, c.unclosed.ensures.reach, whole))

pub returns-in_ok-token-in-Token-clause-few : goal.returns-in_ok-token-in-Token-clause-few
returns-in_ok-token-in-Token-clause-few g c =
    let text = c.args.left.now ++ c.args.right.now in
    let here = rest_of c.ahead-here-in-Token.result in
    let place = c.ahead-here-in-Token.result.at in
    let f = found_of c.in_ok-found-in-Token.found in
    let value : f ≡ front_found here = c.in_ok-found-in-Token.ensures.value in
    let found : c.in_ok-found-in-Token.found.reach ≡ front_reach here = c.in_ok-found-in-Token.ensures.reach in
    let reach : c.in_ok-token-in-Token.token.reach ≡ place + front_reach here = c.in_ok-token-in-Token.ensures.reach ∙ ap (λ k. place + k) found in
    subst (λ (t : Tok). HasFew text t c.in_ok-token-in-Token.token.reach) (sym c.in_ok-token-in-Token.ensures.value)
    (found_few text here c.args.from.at c.in-Token.i place c.in_ok-token-in-Token.token.reach c.column_ahead-col-in-Token.result f c.in-Token.ensures.0 c.ahead-here-in-Token.ensures.rest c.ahead-here-in-Token.ensures.place value c.in_ok-found-in-Token.ensures.fits.within reach)

pub column_ahead-col-requires-clause-few : goal.column_ahead-col-requires-clause-few
column_ahead-col-requires-clause-few g c = column_small (c.args.left.now ++ c.args.right.now) c.args.from.at c.args.from.col c.requires.col c.requires.inside.0

pub column_ahead-col-requires-in-Token-clause-few : goal.column_ahead-col-requires-in-Token-clause-few
column_ahead-col-requires-in-Token-clause-few g c = column_small (c.args.left.now ++ c.args.right.now) c.args.from.at c.args.from.col c.requires.col c.requires.inside.0
