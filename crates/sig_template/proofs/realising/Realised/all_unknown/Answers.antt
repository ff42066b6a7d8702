use Rattle.std.proofs.Common.{[], ◌∙◌}
use Rattle.typing_state.proofs.Going.{goes_trans}
use Rattle.type_reading.proofs.Extending.{extends_trans}
use Rattle.sig_template.proofs.Reals.{unknown_more}
use Rattle.sig_template.proofs.realising.Realised.all_unknown.Goals as goal

pub loop-origin-preserved : goal.loop-origin-preserved
loop-origin-preserved c = record {
  goes = goes_trans c.args.at.now c.loop-origin.at c.unknown.new.at c.loop-origin.invariant.goes c.in_ok-unknown.ensures.goes;
  extends = extends_trans c.args.at.now.store.nodes c.loop-origin.at.store.nodes c.unknown.new.at.store.nodes c.loop-origin.invariant.extends c.in_ok-unknown.ensures.extends;
  made = c.in_ok-unknown.ensures.made ∙ c.loop-origin.invariant.made;
  unknown = λ empty. unknown_more c.args.origins.now c.loop-origin.origin-index c.origin-item.result c.loop-origin.self.changes.real.items c.unknown.new.self.changes.real.items
      c.loop-origin-test.true c.origin-item.is (c.loop-origin.invariant.unknown empty) (c.in_ok-unknown.ensures.added []);
}

pub returns-in_err-unknown-clause-goes : goal.returns-in_err-unknown-clause-goes
returns-in_err-unknown-clause-goes c = goes_trans c.args.at.now c.loop-origin.at c.unknown.new.at c.loop-origin.invariant.goes c.unknown.ensures.goes

pub returns-clause-goes : goal.returns-clause-goes
returns-clause-goes c = c.loop-origin.invariant.goes
