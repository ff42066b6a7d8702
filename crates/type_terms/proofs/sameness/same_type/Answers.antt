use Rattle.type_terms.specs.Views.{type_of}
use Rattle.type_terms.proofs.Comparing.{told}
use Rattle.type_terms.proofs.sameness.same_type.Goals as goal

pub returns-clause-equal : goal.returns-clause-equal
returns-clause-equal c = told (type_of c.args.a.now) (type_of c.args.b.now) c.is_same.result c.is_same.ensures
