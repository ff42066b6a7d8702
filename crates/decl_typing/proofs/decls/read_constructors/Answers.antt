use Rattle.type_expressions.proofs.Untyped.{untyped_same, untyped_then, faults_untyped}
use Rattle.std.proofs.Common.{◌≡◌, ◌∙◌, [], rules, ◌+◌, ◌<◌, length, take, drop, Some, None, sym, ap, subst, arith, append-nil}
use Rattle.std.proofs.lemmas.List.{drop_all, take_all, nil_from_length}
use Rattle.std.proofs.lemmas.Bool.{eqb-true}
use Rattle.typing_state.proofs.Going.{goes_refl, goes_trans}
use Rattle.typing_steps.specs.States.{is_aloud, sight}
use Rattle.typing_rows.specs.Settled.{behind}
use Rattle.decl_typing.specs.Settling.{constructors_as, FirstConstructors, SettlesNames}
use Rattle.decl_typing.proofs.Made.{none_denoted, each_denoted, all_denoted}
use Rattle.decl_typing.proofs.Constructors.{none_read, each_constructor, all_constructors}
use Rattle.decl_typing.specs.Parts.{ReadsConstructor, ReadsConstructors, ReadsFirst}
use Rattle.decl_typing.proofs.decls.read_constructors.Goals.{in-Some+in_ok-push, in_default}
use Rattle.decl_typing.proofs.decls.read_constructors.Goals as goal

pub returns-else-is_empty-clause-goes : goal.returns-else-is_empty-clause-goes
returns-else-is_empty-clause-goes c = goes_trans c.args.at.now c.loop-part.at c.names_are_new.new.at c.loop-part.invariant.goes c.names_are_new.ensures.goes

pub returns-in_err-constructor-clause-goes : goal.returns-in_err-constructor-clause-goes
returns-in_err-constructor-clause-goes c = goes_trans c.args.at.now c.loop-part.at c.read_constructor.new.at c.loop-part.invariant.goes c.read_constructor.ensures.goes

pub returns-in_err-names_are_new-clause-goes : goal.returns-in_err-names_are_new-clause-goes
returns-in_err-names_are_new-clause-goes c = goes_trans c.args.at.now c.loop-part.at c.names_are_new.new.at c.loop-part.invariant.goes c.names_are_new.ensures.goes

pub returns-in_err-push-clause-goes : goal.returns-in_err-push-clause-goes
returns-in_err-push-clause-goes c = goes_trans c.args.at.now c.loop-part.at c.read_constructor.new.at c.loop-part.invariant.goes c.read_constructor.ensures.goes

pub returns-then-is_empty-clause-goes : goal.returns-then-is_empty-clause-goes
returns-then-is_empty-clause-goes c = goes_trans c.args.at.now c.loop-part.at c.names_are_new.new.at c.loop-part.invariant.goes c.names_are_new.ensures.goes

pub loop-part-init : goal.loop-part-init
loop-part-init c = record { goes = goes_refl c.args.at.now; untyped = untyped_same c.args.at.now; settles = λ names over all aloud B around. none_read (constructors_as c.args.at.now.item c.args.parts.now); means = λ names ps t over nodes. none_denoted c.args.at.now c.args.inner.now names ps c.args.parts.now t c.args.own.0 c.new-constructors.result.items c.new-constructors.ensures.items }

pub loop-part-preserved : goal.loop-part-preserved
loop-part-preserved c =
    let at = c.args.at.now in
    let ps = c.args.parts.now in
    let k = c.loop-part.part-index in
    let lt : k < length ps = let n = c.loop-part-test.true in omega arith in
    record {
      goes = goes_trans at c.loop-part.at c.read_constructor.new.at c.loop-part.invariant.goes c.read_constructor.ensures.goes;
      untyped = untyped_then c.loop-part.invariant.untyped c.in_ok-constructor.ensures.untyped;
      settles = λ names over. each_constructor at c.loop-part.at c.read_constructor.new.at c.args.inner.now names ps k c.part-item.result lt c.part-item.is (c.loop-part.invariant.settles names over) c.loop-part.invariant.goes (c.in_ok-constructor.ensures.settles names over);
      means = λ names qs t over nodes. elim c.match-constructor.branch [
        | in-Some+in_ok-push w ↦
            subst (ReadsFirst at c.read_constructor.new.at c.args.inner.now names qs ps (drop (k + 1) ps) (take (k + 1) ps) t c.args.own.0) (sym (ap (λ v. v.items) w.constructors-is ∙ w.in_ok-push.ensures.pushed))
            (each_denoted at c.loop-part.at c.read_constructor.new.at c.args.inner.now names qs ps k c.part-item.result t c.args.own.0 c.loop-part.constructors.items (Some w.in-Some.constructor) lt c.part-item.is (c.loop-part.invariant.means names qs t over nodes) c.loop-part.invariant.goes
            (subst (ReadsConstructor c.loop-part.at c.read_constructor.new.at c.args.inner.now names qs c.part-item.result t c.args.own.0) w.in-Some.is (c.in_ok-constructor.ensures.means names qs t over nodes)))
        | in_default w ↦
            subst (ReadsFirst at c.read_constructor.new.at c.args.inner.now names qs ps (drop (k + 1) ps) (take (k + 1) ps) t c.args.own.0) (append-nil c.loop-part.constructors.items ∙ sym (ap (λ v. v.items) w.constructors-is))
            (each_denoted at c.loop-part.at c.read_constructor.new.at c.args.inner.now names qs ps k c.part-item.result t c.args.own.0 c.loop-part.constructors.items None lt c.part-item.is (c.loop-part.invariant.means names qs t over nodes) c.loop-part.invariant.goes
            (subst (ReadsConstructor c.loop-part.at c.read_constructor.new.at c.args.inner.now names qs c.part-item.result t c.args.own.0) w.in_default.is (c.in_ok-constructor.ensures.means names qs t over nodes)))
      ];
    }

pub returns-then-is_empty-clause-settles : goal.returns-then-is_empty-clause-settles
returns-then-is_empty-clause-settles c = λ names over all aloud B around.
    let at = c.args.at.now in
    let ps = c.args.parts.now in
    let g = c.loop-part.invariant.goes in
    let none = drop_all c.loop-part.part-index ps c.loop-part-test.false in
    let x = subst (λ left. FirstConstructors B (constructors_as at.item ps) (constructors_as at.item left) (sight at) (sight c.loop-part.at)) none (c.loop-part.invariant.settles names over all aloud B around) in
    let y = subst (λ i. SettlesNames c.loop-part.at c.names_are_new.new.at (constructors_as i ps)) g.item c.in_ok-names_are_new.ensures.settles in
    all_constructors x (y (ap is_aloud g.telling ∙ aloud) (behind B x.judged x.fixes))

pub returns-else-is_empty-clause-settles : goal.returns-else-is_empty-clause-settles
returns-else-is_empty-clause-settles c = λ names over all aloud B around.
    let at = c.args.at.now in
    let ps = c.args.parts.now in
    let g = c.loop-part.invariant.goes in
    let none = drop_all c.loop-part.part-index ps c.loop-part-test.false in
    let x = subst (λ left. FirstConstructors B (constructors_as at.item ps) (constructors_as at.item left) (sight at) (sight c.loop-part.at)) none (c.loop-part.invariant.settles names over all aloud B around) in
    let y = subst (λ i. SettlesNames c.loop-part.at c.names_are_new.new.at (constructors_as i ps)) g.item c.in_ok-names_are_new.ensures.settles in
    all_constructors x (y (ap is_aloud g.telling ∙ aloud) (behind B x.judged x.fixes))

pub returns-else-is_empty-clause-means : goal.returns-else-is_empty-clause-means
returns-else-is_empty-clause-means c = λ names qs t over nodes.
    let at = c.args.at.now in
    let ps = c.args.parts.now in
    let k = c.loop-part.part-index in
    let mid = c.loop-part.at in
    let none = drop_all k ps c.loop-part-test.false in
    let all = take_all k ps c.loop-part-test.false in
    let first = subst (λ done. ReadsFirst at mid c.args.inner.now names qs ps [] done t c.args.own.0 c.loop-part.constructors.items) all
    (subst (λ left. ReadsFirst at mid c.args.inner.now names qs ps left (take k ps) t c.args.own.0 c.loop-part.constructors.items) none (c.loop-part.invariant.means names qs t over nodes)) in
    (all_denoted at mid c.names_are_new.new.at c.args.inner.now names qs ps t c.args.own.0 c.loop-part.constructors.items c.loop-part.invariant.goes c.names_are_new.ensures.rest c.names_are_new.ensures.goes c.in_ok-names_are_new.ensures.settles first)

pub returns-then-is_empty-clause-means : goal.returns-then-is_empty-clause-means
returns-then-is_empty-clause-means c = λ names qs t over nodes.
    let at = c.args.at.now in
    let ps = c.args.parts.now in
    let k = c.loop-part.part-index in
    let mid = c.loop-part.at in
    let none = drop_all k ps c.loop-part-test.false in
    let all = take_all k ps c.loop-part-test.false in
    let first = subst (λ done. ReadsFirst at mid c.args.inner.now names qs ps [] done t c.args.own.0 c.loop-part.constructors.items) all
    (subst (λ left. ReadsFirst at mid c.args.inner.now names qs ps left (take k ps) t c.args.own.0 c.loop-part.constructors.items) none (c.loop-part.invariant.means names qs t over nodes)) in
    let len : length c.loop-part.constructors.items ≡ c.loop-part.constructors.len = search rules in
    subst (ReadsConstructors at c.names_are_new.new.at c.args.inner.now names qs ps t c.args.own.0) (nil_from_length c.loop-part.constructors.items (len ∙ eqb-true c.loop-part.constructors.len 0 (sym c.is_empty.ensures ∙ c.if-is_empty.true))) (all_denoted at mid c.names_are_new.new.at c.args.inner.now names qs ps t c.args.own.0 c.loop-part.constructors.items c.loop-part.invariant.goes c.names_are_new.ensures.rest c.names_are_new.ensures.goes c.in_ok-names_are_new.ensures.settles first)

pub returns-then-is_empty-clause-untyped : goal.returns-then-is_empty-clause-untyped
returns-then-is_empty-clause-untyped c = untyped_then c.loop-part.invariant.untyped (faults_untyped c.loop-part.at c.names_are_new.new.at c.names_are_new.ensures.rest)

pub returns-else-is_empty-clause-untyped : goal.returns-else-is_empty-clause-untyped
returns-else-is_empty-clause-untyped c = untyped_then c.loop-part.invariant.untyped (faults_untyped c.loop-part.at c.names_are_new.new.at c.names_are_new.ensures.rest)
