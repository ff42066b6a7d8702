use Rattle.token_store.specs.Stored.{toks_of}
use Rattle.text_reading.proofs.Parsing.{parsed_as}
use Rattle.text_reading.proofs.structure.tree_of.Goals as goal

pub returns-in-Some-clause-parsed : goal.returns-in-Some-clause-parsed
returns-in-Some-clause-parsed g c =
    let found = c.in-Some.ensures in
    parsed_as c.args.kept.now.text (toks_of c.args.kept.now.tokens) c.in-Some.parsed.now found.lexed found.tree found.faults
