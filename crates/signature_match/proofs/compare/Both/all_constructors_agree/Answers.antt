use Rattle.std.proofs.Common.{rules, arith, ◌≡◌, length, min, sym, subst}
use Rattle.std.specs.Slice.Iter.{iter_rest}
use Rattle.std.specs.Iterator.Adapters.{zip_first, zip_second}
use Rattle.std.proofs.lemmas.Slice.Zip.{zip_turn, zip_end}
use Rattle.typing_state.proofs.Going.{goes_trans, goes_refl}
use Rattle.signature_match.specs.Shapes.{ConstructorsFit}
use Rattle.signature_match.specs.Comparing.{ComparesConstructor, other_length}
use Rattle.signature_match.proofs.Zips.{zipped_at, zipped_more}
use Rattle.signature_match.proofs.Compared.{Begun, one_longer, agrees_more, differs_here, all_agree}
use Rattle.signature_match.proofs.compare.Both.all_constructors_agree.Goals as goal

pub returns-then-found-asked-clause-compared : goal.returns-then-found-asked-clause-compared
returns-then-found-asked-clause-compared c = other_length c.if-found-asked.true

pub returns-then-not-branch-clause-compared : goal.returns-then-not-branch-clause-compared
returns-then-not-branch-clause-compared c =
    let s = c.into_iter-one-iterator.result in
    let first : iter_rest (zip_first s) ≡ c.args.found.now = search rules in
    let second : iter_rest (zip_second s) ≡ c.args.asked.now = search rules in
    let turn = zip_turn c.args.found.now c.args.asked.now c.loop-one.yielded s c.loop-one.one-iterator c.next.new.self c.next.result first second c.loop-one.yielded_by _ c.in-Some.is c.next.ensures.steps in
    differs_here ComparesConstructor c.args.at.now.store.nodes c.loop-one.at.store.nodes c.constructors_agree.new.at.store.nodes c.args.found.now c.args.asked.now (length c.loop-one.yielded)
    c.in-Some.one.now c.in-Some.other.now c.in_ok-constructors_agree.field-0 c.if-not-branch.true turn.0 turn.1 turn.2 turn.3 c.in_ok-constructors_agree.ensures.compared c.loop-one.invariant.begun

pub loop-one-preserved : goal.loop-one-preserved
loop-one-preserved c =
    let found = c.args.found.now in
    let asked = c.args.asked.now in
    let start = c.args.at.now.store.nodes in
    let new = c.constructors_agree.new.at.store.nodes in
    let s = c.into_iter-one-iterator.result in
    let first : iter_rest (zip_first s) ≡ found = search rules in
    let second : iter_rest (zip_second s) ≡ asked = search rules in
    let turn = zip_turn found asked c.loop-one.yielded s c.loop-one.one-iterator c.next.new.self c.next.result first second c.loop-one.yielded_by _ c.in-Some.is c.next.ensures.steps in
    record {
      goes = goes_trans c.args.at.now c.loop-one.at c.constructors_agree.new.at c.loop-one.invariant.goes c.in_ok-constructors_agree.ensures.goes;
      fit = zipped_more ConstructorsFit found asked c.loop-one.yielded (c.in-Some.one, c.in-Some.other) c.in-Some.one.now c.in-Some.other.now turn.2 turn.3
          (c.in_ok-constructors_agree.ensures.fit c.if-not-branch.false) c.loop-one.invariant.fit;
      begun = subst (λ i. Begun ComparesConstructor start new found asked i) (sym (one_longer c.loop-one.yielded (c.in-Some.one, c.in-Some.other)))
          (agrees_more ComparesConstructor start c.loop-one.at.store.nodes new found asked (length c.loop-one.yielded)
          c.in-Some.one.now c.in-Some.other.now c.in_ok-constructors_agree.field-0 c.if-not-branch.false turn.0 turn.1 turn.2 turn.3 c.in_ok-constructors_agree.ensures.compared c.loop-one.invariant.begun);
    }

pub returns-clause-fit : goal.returns-clause-fit
returns-clause-fit c =
    let found = c.args.found.now in
    let asked = c.args.asked.now in
    let s = c.into_iter-one-iterator.result in
    let first : iter_rest (zip_first s) ≡ found = search rules in
    let second : iter_rest (zip_second s) ≡ asked = search rules in
    let long : length c.loop-one.yielded ≡ min (length found) (length asked) = zip_end found asked c.loop-one.yielded s c.loop-one.one-iterator c.next.new.self c.next.result first second c.loop-one.yielded_by c.in-None.is c.next.ensures.steps in
    let same : length found ≡ length asked = search rules in
    λ yes. zipped_at ConstructorsFit found asked same (λ k d e h. c.loop-one.invariant.fit k d e (omega arith))

pub returns-clause-compared : goal.returns-clause-compared
returns-clause-compared c =
    let found = c.args.found.now in
    let asked = c.args.asked.now in
    let s = c.into_iter-one-iterator.result in
    let first : iter_rest (zip_first s) ≡ found = search rules in
    let second : iter_rest (zip_second s) ≡ asked = search rules in
    let long : length c.loop-one.yielded ≡ min (length found) (length asked) = zip_end found asked c.loop-one.yielded s c.loop-one.one-iterator c.next.new.self c.next.result first second c.loop-one.yielded_by c.in-None.is c.next.ensures.steps in
    let same : length found ≡ length asked = search rules in
    all_agree ComparesConstructor c.args.at.now.store.nodes c.loop-one.at.store.nodes found asked (length c.loop-one.yielded) same long c.loop-one.invariant.begun

pub returns-clause-goes : goal.returns-clause-goes
returns-clause-goes c = c.loop-one.invariant.goes

pub returns-in_err-constructors_agree-clause-goes : goal.returns-in_err-constructors_agree-clause-goes
returns-in_err-constructors_agree-clause-goes c = goes_trans c.args.at.now c.loop-one.at c.constructors_agree.new.at c.loop-one.invariant.goes c.constructors_agree.ensures.goes

pub returns-then-found-asked-clause-goes : goal.returns-then-found-asked-clause-goes
returns-then-found-asked-clause-goes c = goes_refl c.args.at.now

pub returns-then-not-branch-clause-goes : goal.returns-then-not-branch-clause-goes
returns-then-not-branch-clause-goes c = goes_trans c.args.at.now c.loop-one.at c.constructors_agree.new.at c.loop-one.invariant.goes c.constructors_agree.ensures.goes
