use Rattle.signature_match.proofs.matching.body_for.Goals as goal

pub returns-clause-goes : goal.returns-clause-goes
returns-clause-goes c = c.realised_in.ensures.goes
