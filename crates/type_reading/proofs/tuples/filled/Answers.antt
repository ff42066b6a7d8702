use Rattle.std.proofs.Common.{◌≡◌, ◌∙◌, ◌++◌, ◌+◌, ◌<◌, ◌-◌, true, false, [], ◌∷◌, length, drop, get_or, sym, ap, subst}
use Rattle.std.specs.Option.{IfSome}
use Rattle.std.proofs.lemmas.Bool.{lt-ltb}
use Rattle.type_nodes.specs.Views.{numbers}
use Rattle.typing_state.specs.Goes.{Goes, OnlyStore, Silent}
use Rattle.typing_state.proofs.Going.{goes_trans}
use Rattle.typing_state.proofs.Silence.{silent_trans}
use Rattle.type_reading.specs.Filling.{JoinsAll}
use Rattle.type_reading.proofs.Filling.{store_then, more_joined, part_there, all_joined, last_part}
use Rattle.type_reading.proofs.tuples.filled.Goals.{in-Some+in_ok-joined, in_default}
use Rattle.type_reading.proofs.tuples.filled.Goals as goal

pub loop-place-preserved : goal.loop-place-preserved
loop-place-preserved c =
    let i = c.loop-place.place in
    let parts = c.in_ok-parts.parts.items in
    let xs = c.args.types.now in
    let before = c.loop-place.invariant in
    elim c.match-get.branch [
      | in-Some+in_ok-joined w ↦
          let p = w.in-Some.parameter.now in
          let there : p ≡ get_or parts i p = subst (λ o. IfSome o (λ x. x.now ≡ get_or c.deref.result.now i x.now)) w.in-Some.is c.get.ensures.lookup.1 ∙ ap (λ l. get_or l i p) c.deref.ensures.value in
          record {
            goes = subst (Goes c.args.at.now) (sym w.at-is) (goes_trans c.args.at.now c.loop-place.at w.joined.new.at before.goes w.joined.ensures.goes);
            rest = subst (OnlyStore c.args.at.now) (sym w.at-is) (store_then before.rest w.joined.ensures.rest);
            silent = subst (Silent c.args.at.now) (sym w.at-is) (silent_trans c.args.at.now c.loop-place.at w.joined.new.at before.silent w.joined.ensures.silent);
            fills = λ ps body e many new rest. before.fills ps body e many new
                (more_joined c.loop-place.at w.joined.new.at parts xs i p _ ps body new c.loop-place-test.true there w.in_ok-joined.ensures.one e many
                (subst (λ at. JoinsAll at new (drop (i + 1) ps) (drop (i + 1) (numbers xs))) w.at-is rest));
          }
      | in_default w ↦ record {
        goes = subst (Goes c.args.at.now) (sym w.at-is) before.goes;
        rest = subst (OnlyStore c.args.at.now) (sym w.at-is) before.rest;
        silent = subst (Silent c.args.at.now) (sym w.at-is) before.silent;
        fills = λ ps body e many new rest. absurd (
            let lt = part_there parts xs i ps body c.loop-place-test.true e many in
            let no : false ≡ true = w.in_default.ensures.lookup.0 ∙ lt-ltb i (length c.deref.result.now) (subst (λ l. i < length l) (sym c.deref.ensures.value) lt) in
            cc);
      }
    ]

pub returns-in-Some-last-clause-rest : goal.returns-in-Some-last-clause-rest
returns-in-Some-last-clause-rest c = c.loop-place.invariant.rest

pub returns-in-Some-last-clause-fills : goal.returns-in-Some-last-clause-fills
returns-in-Some-last-clause-fills c = λ ps body inside reads many.
    let parts = c.in_ok-parts.parts.items in
    let x = c.in-Some-last.body.now in
    let e = c.in_ok-parts.ensures.parts (ps ++ body ∷ []) inside reads in
    let last : x ≡ get_or parts (length parts - 1) x =
    subst (λ o. IfSome o (λ z. z.now ≡ get_or c.deref-2.result.now (length c.deref-2.result.now - 1) z.now)) c.in-Some-last.is c.last.ensures.item.1 ∙ ap (λ l. get_or l (length l - 1) x) c.deref-2.ensures.value in
    (c.loop-place.invariant.fills ps body e many c.loop-place.at (all_joined c.loop-place.at c.args.types.now c.loop-place.place ps c.loop-place-test.false many), last_part parts ps body x e last)
