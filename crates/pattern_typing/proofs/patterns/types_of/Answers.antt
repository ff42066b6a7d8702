use Rattle.std.proofs.Common.{◌≡◌, ◌++◌, ◌+◌, ◌<◌, [], length, drop, refl, ap, subst, arith}
use Rattle.std.proofs.lemmas.List.{drop_all}
use Rattle.type_terms.specs.declared.types.NodeRef.{NodeRef}
use Rattle.type_nodes.specs.Views.{numbers}
use Rattle.use_typing.proofs.Reading.{drop_read, map_push, list_done}
use Rattle.pattern_typing.specs.Matching.{nodes_of}
use Rattle.pattern_typing.proofs.patterns.types_of.Goals as goal

pub loop-one-preserved : goal.loop-one-preserved
loop-one-preserved c =
    let all = c.args.typed.now in
    let i = c.loop-one.one-index in
    let x = c.one-item.result in
    let lt : i < length all = let n = c.loop-one-test.true in omega arith in
    map_push (λ (n : NodeRef). n.0) c.loop-one.types.items c.push.new.list.items x.ty x.ty.0 (nodes_of (drop (i + 1) all)) (nodes_of all) c.in_ok-push.ensures.pushed refl
    (subst (λ ts. numbers c.loop-one.types.items ++ nodes_of ts ≡ nodes_of all) (drop_read all i x lt c.one-item.is) c.loop-one.invariant)

pub returns : goal.returns
returns c =
    let all = c.args.typed.now in
    let i = c.loop-one.one-index in
    let none : drop i all ≡ [] = drop_all i all (let n = c.loop-one-test.false in omega arith) in
    list_done (numbers c.loop-one.types.items) (nodes_of all) (nodes_of (drop i all)) (ap nodes_of none) c.loop-one.invariant
