use Rattle.match_warnings.proofs.Warned.{none_at}
use Rattle.match_warnings.specs.Warnings.{missed_at}
use Rattle.syntax_tree.specs.View.{place_of}
use Rattle.binding_steps.proofs.parameters.warn_parameter.Goals as goal

pub returns-clause-warns : goal.returns-clause-warns
returns-clause-warns c = c.report_pattern.ensures.warns

pub returns-clause-places : goal.returns-clause-places
returns-clause-places c = c.report_pattern.ensures.places

pub returns-then-len-faults_before-clause-places : goal.returns-then-len-faults_before-clause-places
returns-then-len-faults_before-clause-places c = none_at (missed_at (place_of c.args.parameter.span)) c.args.at.now
