use Rattle.signature_match.proofs.compare.copied.Goals as goal

pub returns : goal.returns
returns c = record { goes = c.copy.ensures.goes }
