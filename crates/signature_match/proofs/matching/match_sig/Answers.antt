use Rattle.signature_match.proofs.matching.match_sig.Goals as goal

pub returns-in_err-failed-clause-goes : goal.returns-in_err-failed-clause-goes
returns-in_err-failed-clause-goes c = c.matches.ensures.goes
