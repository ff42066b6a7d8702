use Rattle.std.proofs.Common.{◌≡◌, ◌∙◌, ◌+◌, ◌<◌, [], length, drop, sym, ap, arith}
use Rattle.std.proofs.lemmas.List.{drop_all}
use Rattle.use_typing.proofs.Reading.{drop_read}
use Rattle.pattern_rows.specs.Sides.{first_apart_here}
use Rattle.pattern_typing.specs.Matching.{binds_of}
use Rattle.pattern_typing.proofs.Carrying.{apart_first, apart_behind}
use Rattle.pattern_typing.proofs.patterns.first_apart.Goals as goal

pub loop-name-preserved : goal.loop-name-preserved
loop-name-preserved c =
    let all = c.args.names.now in
    let others = c.args.others.now in
    let i = c.loop-name.name-index in
    let x = c.name-item.result in
    let lt : i < length all = let n = c.loop-name-test.true in omega arith in
    let cut = drop_read all i x lt c.name-item.is in
    sym (apart_behind x (drop (i + 1) all) others c.find.result c.find.ensures.found c.if-is_none.ensures) ∙ ap (λ bs. first_apart_here (binds_of bs) (binds_of others)) (sym cut) ∙ c.loop-name.invariant

pub returns-then-is_none : goal.returns-then-is_none
returns-then-is_none c =
    let all = c.args.names.now in
    let others = c.args.others.now in
    let i = c.loop-name.name-index in
    let x = c.name-item.result in
    let lt : i < length all = let n = c.loop-name-test.true in omega arith in
    let cut = drop_read all i x lt c.name-item.is in
    sym (apart_first x (drop (i + 1) all) others c.find.result c.find.ensures.found c.if-is_none.ensures) ∙ ap (λ bs. first_apart_here (binds_of bs) (binds_of others)) (sym cut) ∙ c.loop-name.invariant

pub returns : goal.returns
returns c =
    let all = c.args.names.now in
    let i = c.loop-name.name-index in
    let none : drop i all ≡ [] = drop_all i all (let n = c.loop-name-test.false in omega arith) in
    ap (λ bs. first_apart_here (binds_of bs) (binds_of c.args.others.now)) (sym none) ∙ c.loop-name.invariant
