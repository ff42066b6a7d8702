use Rattle.typing_state.proofs.Going.{goes_refl}
use Rattle.decl_typing.proofs.reexports.agree.Goals as goal

pub returns-in-Opaque-default : goal.returns-in-Opaque-default
returns-in-Opaque-default c = record { goes = goes_refl c.args.at.now }

pub returns-in_default : goal.returns-in_default
returns-in_default c = record { goes = goes_refl c.args.at.now }

pub returns-in_err-wanted-in-Labels-Labels : goal.returns-in_err-wanted-in-Labels-Labels
returns-in_err-wanted-in-Labels-Labels c = record { goes = goes_refl c.args.at.now }

pub returns-in_err-wanted-in-Variant-Constructors : goal.returns-in_err-wanted-in-Variant-Constructors
returns-in_err-wanted-in-Variant-Constructors c = record { goes = goes_refl c.args.at.now }

pub returns-in_ok-wanted-in-Labels-Labels : goal.returns-in_ok-wanted-in-Labels-Labels
returns-in_ok-wanted-in-Labels-Labels c = record { goes = c.labels_agree.ensures.goes }

pub returns-in_ok-wanted-in-Variant-Constructors : goal.returns-in_ok-wanted-in-Variant-Constructors
returns-in_ok-wanted-in-Variant-Constructors c = record { goes = c.constructors_agree.ensures.goes }
