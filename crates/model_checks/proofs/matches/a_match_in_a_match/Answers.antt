use Rattle.std.proofs.Common.{false, ◌||◌, codes, refl}
use Rattle.match_model.specs.Shown.{at_end, by_default}
use Rattle.type_model.proofs.Applying.{or_left, or_right}
use Rattle.match_model.specs.Values.{match_all}
use Rattle.model_checks.specs.Matches.{alone, row}
use Rattle.model_checks.proofs.matches.a_match_in_a_match.Goals as goal

pub returns-clause-missed : goal.returns-clause-missed
returns-clause-missed c = by_default refl at_end

pub returns-clause-unused : goal.returns-clause-unused
returns-clause-unused c = record {
  row = row (alone (codes "false"));
  stands = refl;
  each = λ vs typed h.
      or_right (match_all (row (alone (codes "true"))).patterns vs) (match_all (row (alone (codes "false"))).patterns vs || false)
      (or_left (match_all (row (alone (codes "false"))).patterns vs) false h);
}
