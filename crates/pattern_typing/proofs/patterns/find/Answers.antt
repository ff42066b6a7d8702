use Rattle.std.proofs.Common.{◌≡◌, ◌∙◌, ◌+◌, ◌<◌, [], length, drop, sym, ap, arith}
use Rattle.std.specs.Prelude.{true, false}
use Rattle.std.specs.Str.{bytes_eq}
use Rattle.std.proofs.lemmas.List.{drop_all}
use Rattle.syntax_tree.specs.View.{tok_of}
use Rattle.use_typing.proofs.Reading.{drop_read}
use Rattle.pattern_names.specs.PatternNames.{find_name}
use Rattle.pattern_rows.specs.Sides.{find_bind}
use Rattle.pattern_typing.specs.Matching.{binds_of, tokens_of}
use Rattle.pattern_typing.proofs.Carrying.{found_first, found_behind, named_first, named_behind}
use Rattle.pattern_typing.proofs.patterns.find.Goals as goal

pub loop-other-preserved : goal.loop-other-preserved
loop-other-preserved c =
    let all = c.args.names.now in
    let n = (tok_of c.args.name.now).name in
    let i = c.loop-other.other-index in
    let x = c.other-item.result in
    let lt : i < length all = let n = c.loop-other-test.true in omega arith in
    let cut = drop_read all i x lt c.other-item.is in
    let other : bytes_eq (tok_of x.token.now).name (tok_of c.args.name.now).name ≡ false = ap (bytes_eq (tok_of x.token.now).name) (sym c.as_str.ensures) ∙ sym c.is.ensures ∙ c.if-is.false in
    record {
      token = sym (named_behind n x (drop (i + 1) all) other) ∙ ap (λ bs. find_name n (tokens_of bs)) (sym cut) ∙ c.loop-other.invariant.token;
      found = sym (found_behind n x (drop (i + 1) all) other) ∙ ap (λ bs. find_bind n (binds_of bs)) (sym cut) ∙ c.loop-other.invariant.found;
    }

pub returns-then-is : goal.returns-then-is
returns-then-is c =
    let all = c.args.names.now in
    let n = (tok_of c.args.name.now).name in
    let i = c.loop-other.other-index in
    let x = c.other-item.result in
    let lt : i < length all = let n = c.loop-other-test.true in omega arith in
    let cut = drop_read all i x lt c.other-item.is in
    let same : bytes_eq (tok_of x.token.now).name (tok_of c.args.name.now).name ≡ true = ap (bytes_eq (tok_of x.token.now).name) (sym c.as_str.ensures) ∙ sym c.is.ensures ∙ c.if-is.true in
    record {
      token = sym (named_first n x (drop (i + 1) all) same) ∙ ap (λ bs. find_name n (tokens_of bs)) (sym cut) ∙ c.loop-other.invariant.token;
      found = sym (found_first n x (drop (i + 1) all) same) ∙ ap (λ bs. find_bind n (binds_of bs)) (sym cut) ∙ c.loop-other.invariant.found;
    }

pub returns : goal.returns
returns c =
    let all = c.args.names.now in
    let n = (tok_of c.args.name.now).name in
    let i = c.loop-other.other-index in
    let none : drop i all ≡ [] = drop_all i all (let n = c.loop-other-test.false in omega arith) in
    record {
      token = ap (λ bs. find_name n (tokens_of bs)) (sym none) ∙ c.loop-other.invariant.token;
      found = ap (λ bs. find_bind n (binds_of bs)) (sym none) ∙ c.loop-other.invariant.found;
    }
