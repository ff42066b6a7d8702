use Rattle.typing_state.proofs.Going.{goes_refl}
use Rattle.signature_match.proofs.compare.shapes_agree.Goals as goal

pub returns-in-Labels-Labels-clause-goes : goal.returns-in-Labels-Labels-clause-goes
returns-in-Labels-Labels-clause-goes c = c.labels_agree.ensures.goes

pub returns-in-Labels-Variant-clause-goes : goal.returns-in-Labels-Variant-clause-goes
returns-in-Labels-Variant-clause-goes c = goes_refl c.args.at.now

pub returns-in-Opaque-default-2-clause-goes : goal.returns-in-Opaque-default-2-clause-goes
returns-in-Opaque-default-2-clause-goes c = goes_refl c.args.at.now

pub returns-in-Opaque-default-clause-goes : goal.returns-in-Opaque-default-clause-goes
returns-in-Opaque-default-clause-goes c = goes_refl c.args.at.now

pub returns-in-Variant-Labels-clause-goes : goal.returns-in-Variant-Labels-clause-goes
returns-in-Variant-Labels-clause-goes c = goes_refl c.args.at.now

pub returns-in-Variant-Variant-clause-goes : goal.returns-in-Variant-Variant-clause-goes
returns-in-Variant-Variant-clause-goes c = c.all_constructors_agree.ensures.goes

pub returns-in_default-Opaque-clause-goes : goal.returns-in_default-Opaque-clause-goes
returns-in_default-Opaque-clause-goes c = goes_refl c.args.at.now
