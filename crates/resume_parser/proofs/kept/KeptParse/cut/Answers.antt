use Rattle.std.proofs.Common.{[], List, ◌∙◌, map, take, sym, ap, subst}
use Rattle.std.proofs.lemmas.List.{take-map}
use Rattle.tree_model.specs.Trees.{Tree}
use Rattle.settled_laws.specs.Settled.{settled_in, Begins}
use Rattle.syntax_tree.specs.View.{node_view, trees_of}
use Rattle.resume_parser.specs.declared.kept.Passed.{Passed}
use Rattle.resume_parser.specs.Kept.{ArePassed, HasParsed, text_in}
use Rattle.resume_parser.proofs.Fronts.{cut_faults, cut_items, settled_less}
use Rattle.resume_parser.proofs.Steps.{steps_first}
use Rattle.resume_parser.proofs.kept.KeptParse.cut.Goals as goal

pub returns-clause-parsed : goal.returns-clause-parsed
unfolding HasParsed
returns-clause-parsed c = λ ts old few.
    let k = c.args.self.now in
    let text = text_in k in
    let n = c.args.same in
    let first = steps_first text [] ts k.steps.items n old.passed in
    let here = subst (λ (l : List Passed). ArePassed text [] (take n ts) l) (sym (c.as_slice.ensures.value ∙ c.truncate.ensures.items)) first in
    let there = subst (λ (l : List Passed). ArePassed text [] (take n ts) l) (sym (c.as_slice-2.ensures.value ∙ c.truncate.ensures.items)) first in
    let many = c.settled-items.ensures text (take n ts) (c.stack_behind.ensures text (take n ts) old.start here) few in
    let m = c.settled-items.result in
    let s = settled_in text (take n ts) in
    record {
      start = old.start;
      passed = subst (λ (l : List Passed). ArePassed text [] (take n ts) l) (sym c.truncate.ensures.items) first;
      items = subst (λ (xs : List Tree). Begins xs s) (take-map (λ n. node_view n.value) m k.parsed.tree.items.items ∙ ap (map (λ n. node_view n.value)) (sym c.truncate-2.ensures.items))
          (cut_items (trees_of k.parsed.tree) s (settled_in text ts) m old.items (settled_less text ts n) many);
      faults = cut_faults text ts n c.faults_behind-faults.result k.parsed.faults.items c.truncate-3.new.self.items old.faults (c.faults_behind-faults.ensures text (take n ts) there) c.truncate-3.ensures.items;
    }
