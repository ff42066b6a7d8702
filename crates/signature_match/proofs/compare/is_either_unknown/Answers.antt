use Rattle.signature_match.proofs.Unknowns.{second_unknown}
use Rattle.signature_match.proofs.compare.is_either_unknown.Goals as goal

pub returns-else-branch : goal.returns-else-branch
returns-else-branch c = second_unknown c.args.at.now.store.nodes c.args.one.0 c.args.other.0 c.in_ok-has_unknown.field-0 c.has_unknown-else-branch.result c.if-branch.false c.in_ok-has_unknown.ensures c.has_unknown-else-branch.ensures
