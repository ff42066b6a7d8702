use Rattle.signature_typing.proofs.clauses.behind_written.Goals as goal

pub returns-in-Some : goal.returns-in-Some
returns-in-Some c = record { goes = c.behind_clause.ensures.goes }

pub returns-in_err-note_plain-in-None : goal.returns-in_err-note_plain-in-None
returns-in_err-note_plain-in-None c = record { goes = c.note_plain.ensures.goes }

pub returns-in_ok-note_plain-in-None : goal.returns-in_ok-note_plain-in-None
returns-in_ok-note_plain-in-None c = record { goes = c.note_plain.ensures.goes }
