use Rattle.syntax_tree.specs.View.{place_of}
use Rattle.match_warnings.specs.Warnings.{missed_at}
use Rattle.match_warnings.proofs.Warned.{none_at}
use Rattle.binding_steps.proofs.groups.warn_pattern.Goals as goal

pub returns-clause-places : goal.returns-clause-places
returns-clause-places c = c.report_pattern.ensures.places

pub returns-then-not-faultless-clause-places : goal.returns-then-not-faultless-clause-places
returns-then-not-faultless-clause-places c = none_at (missed_at (place_of c.args.pattern.span)) c.args.at.now
