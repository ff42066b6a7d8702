use Rattle.std.proofs.Common.{[], List, map, sym, subst}
use Rattle.syntax_rows.specs.View.{text_of}
use Rattle.syntax_tree.specs.View.{node_view}
use Rattle.settled_laws.specs.Settled.{settled_in}
use Rattle.resume_parser.specs.declared.kept.Passed.{Passed}
use Rattle.resume_parser.specs.Kept.{Agree, ArePassed, HasParsed}
use Rattle.resume_parser.proofs.Fronts.{agree_none, no_faults_kept}
use Rattle.resume_parser.proofs.kept.KeptParse.new.Goals as goal

pub returns-clause-parsed : goal.returns-clause-parsed
unfolding HasParsed
returns-clause-parsed c = let text = text_of c.args.text in record {
  start = c.in_ok-start.ensures;
  passed = subst (λ (l : List Passed). ArePassed text [] [] l) (sym c.new.ensures.items) tt;
  items = subst (λ l. Agree (map (λ n. node_view n.value) l) (settled_in text [])) (sym c.new-2.ensures.items) (agree_none (settled_in text []));
  faults = no_faults_kept text c.new-3.result.items;
}
