use Rattle.std.proofs.Common.{◌≡◌, ◌+◌, ◌-◌, ◌≤◌, ◌<◌, ◌++◌, ◌∷◌, [], map, take, length, sym, ◌∙◌, ap, subst, arith, length-append, Some, None, option_map, IfSome}
use Rattle.std.specs.Str.{IsCharBoundary}
use Rattle.std.proofs.lemmas.List.{take-append-le}
use Rattle.token_model.specs.Tokens.{FirstToken, column}
use Rattle.syntax_tree.specs.View.{tok_of}
use Rattle.ml_lexer.specs.Places.{tallied}
use Rattle.ml_lexer.specs.Reached.{FirstReached, end_of, reached_of}
use Rattle.ml_lexer.specs.Reaches.{reach_at}
use Rattle.ml_lexer.proofs.Firsts.{first_col}
use Rattle.token_store.proofs.Fronts.{one_more, counted_more, front_all}
use Rattle.token_store.proofs.Peaks.{peaks_stay}
use Rattle.token_store.proofs.store.read_on.Goals as goal

pub end_of_token-from-requires-clause-col : goal.end_of_token-from-requires-clause-col
end_of_token-from-requires-clause-col g c =
    let text = c.args.left.now ++ c.args.right.now in
    first_col text c.loop-token.from.at (tok_of c.in-Some.token) (subst (λ o. FirstToken text c.loop-token.from.at (option_map tok_of o)) c.in-Some.is c.in_ok-token.ensures.token)

pub loop-token-preserved : goal.loop-token-preserved
loop-token-preserved g c =
    let text = c.args.left.now ++ c.args.right.now in
    let inv = c.loop-token.invariant in
    let at = c.loop-token.from.at in
    let t = c.in-Some.token in
    let before = c.loop-token.tokens.items in
    let now = c.reserve_one-in-Some.new.tokens.items in
    let start = c.args.tokens.now.items in
    let first : FirstToken text at (Some (tok_of t)) = subst (λ o. FirstToken text at (option_map tok_of o)) c.in-Some.is c.in_ok-token.ensures.token in
    let span = subst (λ o. IfSome o (λ x. (at < x.span.end) × (x.span.start ≤ x.span.end) × IsCharBoundary text x.span.end)) c.in-Some.is c.in_ok-token.ensures.span in
    let reach = subst (λ o. IfSome o (λ x. x.reach ≡ reach_at text x.span.start)) c.in-Some.is c.in_ok-token.ensures.reach in
    let is : now ≡ before ++ t ∷ [] = c.reserve_one-in-Some.ensures.tokens ∙ c.push_token.ensures.tokens in
    let more = one_more text before now at t inv.front inv.place first reach is in
    record {
      place = c.end_of_token-from.ensures.at ∙ more.end;
      inside = subst (λ n. IsCharBoundary text n) (sym c.end_of_token-from.ensures.at) span.2;
      col = c.end_of_token-from.ensures.col ∙ ap (column text) (sym c.end_of_token-from.ensures.at);
      front = more.front;
      kept = ap (take (length start)) is ∙ take-append-le (length start) before (t ∷ []) inv.longer ∙ inv.kept;
      longer = omega (arith, more.count, inv.longer);
      peaks = peaks_stay c.push_token.new.tokens.items now c.push_token.new.peaks.items c.reserve_one-in-Some.new.peaks.items c.push_token.ensures.peaks c.reserve_one-in-Some.ensures.tokens c.reserve_one-in-Some.ensures.peaks;
      room = omega (arith, c.in_ok-reserve_one-2.ensures.room);
      peak_room = c.in_ok-reserve_one-2.ensures.peak_room;
      counted = counted_more (length before - length start) (length now - length start) _ _ _ inv.counted (c.in_ok-token.ensures.counted ∙ ap (λ o. tallied o (g.C.Counts.tallies c.loop-token.counts)) c.in-Some.is) (omega (arith, more.count, inv.longer));
    }

pub returns-in_err-reserve_one-2-clause-front : goal.returns-in_err-reserve_one-2-clause-front
returns-in_err-reserve_one-2-clause-front g c =
    let text = c.args.left.now ++ c.args.right.now in
    let inv = c.loop-token.invariant in
    let at = c.loop-token.from.at in
    let t = c.in-Some.token in
    let first : FirstToken text at (Some (tok_of t)) = subst (λ o. FirstToken text at (option_map tok_of o)) c.in-Some.is c.in_ok-token.ensures.token in
    let reach = subst (λ o. IfSome o (λ x. x.reach ≡ reach_at text x.span.start)) c.in-Some.is c.in_ok-token.ensures.reach in
    (one_more text c.loop-token.tokens.items c.reserve_one-in-Some.new.tokens.items at t inv.front inv.place first reach (c.reserve_one-in-Some.ensures.tokens ∙ c.push_token.ensures.tokens)).front

pub returns-in_err-reserve_one-2-clause-counted : goal.returns-in_err-reserve_one-2-clause-counted
returns-in_err-reserve_one-2-clause-counted g c =
    let inv = c.loop-token.invariant in
    let before = c.loop-token.tokens.items in
    let now = c.reserve_one-in-Some.new.tokens.items in
    let start = c.args.tokens.now.items in
    let is : now ≡ before ++ c.in-Some.token ∷ [] = c.reserve_one-in-Some.ensures.tokens ∙ c.push_token.ensures.tokens in
    let more : length now ≡ length before + 1 = ap length is ∙ length-append before (c.in-Some.token ∷ []) in
    counted_more (length before - length start) (length now - length start) _ _ _ inv.counted (c.in_ok-token.ensures.counted ∙ ap (λ o. tallied o (g.C.Counts.tallies c.loop-token.counts)) c.in-Some.is) (omega (arith, more, inv.longer))

pub returns-clause-all : goal.returns-clause-all
returns-clause-all g c =
    let text = c.args.left.now ++ c.args.right.now in
    let inv = c.loop-token.invariant in
    let before = map reached_of c.loop-token.tokens.items in
    let none : FirstToken text c.loop-token.from.at None = subst (λ o. FirstToken text c.loop-token.from.at (option_map tok_of o)) c.in_default.is c.in_ok-token.ensures.token in
    front_all FirstReached end_of text 0 before inv.front (subst (λ n. FirstToken text n None) inv.place none)
