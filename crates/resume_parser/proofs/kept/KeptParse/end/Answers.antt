use Rattle.std.proofs.Common.{◌≡◌, [], ◌++◌, List, drop, length, map, take, sym, subst, ◌∙◌, ap}
use Rattle.std.proofs.lemmas.List.{length-map, map-append}
use Rattle.tree_model.specs.Trees.{Tree}
use Rattle.grammar_model.specs.Named.{named, items_of}
use Rattle.grammar_model.specs.Ocaml.{row_name}
use Rattle.settled_laws.specs.Settled.{settled_in}
use Rattle.syntax_tree.specs.View.{node_view, trees_of}
use Rattle.frame_steps.specs.Told.{told}
use Rattle.frame_steps.specs.View.{fault_of}
use Rattle.frame_parser.specs.Run.{faults}
use Rattle.frame_parser.proofs.Lists.{recover_tree, told_all}
use Rattle.resume_parser.specs.declared.kept.Passed.{Passed}
use Rattle.resume_parser.specs.Kept.{Agree, ArePassed, HasParsed, text_in, trees_behind}
use Rattle.resume_parser.proofs.Fronts.{agree_begins, agree_turn, begins_on, begun_kept, faults_first, items_whole, kept_faults, settled_all}
use Rattle.resume_parser.proofs.Steps.{at_refusal}
use Rattle.resume_parser.proofs.kept.KeptParse.end.Goals as goal

pub close-requires : goal.close-requires
close-requires c =
    let text = text_in c.args.self.now in
    let (ts, old, few) = c.requires.few in
    let here = subst (λ (l : List Passed). ArePassed text [] ts l) (sym c.as_slice.ensures.value) old.passed in
    record { few = (text, ts, c.stack_behind-stack.ensures text ts old.start here, few) }

pub returns-clause-whole : goal.returns-clause-whole
unfolding HasParsed
returns-clause-whole c = λ ts old few.
    let k = c.args.self.now in
    let text = text_in k in
    let here = subst (λ (l : List Passed). ArePassed text [] ts l) (sym c.as_slice.ensures.value) old.passed in
    let stack = c.stack_behind-stack.ensures text ts old.start here in
    let s = settled_in text ts in
    let all = trees_behind text ts in
    let xs = trees_of k.parsed.tree in
    let len : c.len.result ≡ length xs = c.len.ensures ∙ k.parsed.tree.items.ok.0 ∙ sym (length-map k.parsed.tree.items.items (λ n. node_view n.value)) in
    let rest = c.in_ok-closed.ensures.tree text ts stack few ∙ ap (λ T. drop c.len.result (items_of (named row_name T))) (sym (recover_tree text ts)) ∙ ap (λ n. drop n all) len in
    let put = ap (map (λ n. node_view n.value)) c.in_ok-append.ensures.items ∙ map-append (λ n. node_view n.value) k.parsed.tree.items.items c.in_ok-closed.closed.tree.items.items in
    let tree = items_whole xs (trees_of c.in_ok-closed.closed.tree) all _ (begins_on xs s all old.items (settled_all text ts)) rest put in
    let more = ap (map fault_of) (c.in_ok-extend_from_slice.ensures.items ∙ ap (λ fs. k.parsed.faults.items ++ fs) c.deref.ensures.value) ∙ map-append fault_of k.parsed.faults.items c.in_ok-closed.closed.faults.items in
    record {
      parsed = record {
        start = old.start;
        passed = old.passed;
        items = subst (λ (ys : List Tree). Agree ys s) (sym tree) (agree_turn s all (agree_begins s all (settled_all text ts)));
        faults = faults_first (faults text ts) (map fault_of c.extend_from_slice.new.self.items) (map fault_of c.in_ok-closed.closed.faults.items) (more ∙ ap (λ fs. fs ++ map fault_of c.in_ok-closed.closed.faults.items) old.faults);
      };
      tree = tree;
      faults = told_all text ts k.parsed.faults.items c.extend_from_slice.new.self.items c.in_ok-closed.closed.faults.items old.faults (c.in_ok-closed.ensures.faults text ts stack few) more;
    }

pub returns-in_err-closed-clause-refused : goal.returns-in_err-closed-clause-refused
returns-in_err-closed-clause-refused c = at_refusal c.from_residual.result (λ ts old. begun_kept ts c.args.self.now old)

pub returns-in_err-extend_from_slice-clause-refused : goal.returns-in_err-extend_from_slice-clause-refused
unfolding HasParsed
returns-in_err-extend_from_slice-clause-refused c =
    let k = c.args.self.now in
    let text = text_in k in
    at_refusal c.from_residual-in_err-extend_from_slice.result (λ ts old. record {
      start = old.start;
      passed = old.passed;
      items = agree_begins (trees_of k.parsed.tree) (settled_in text ts) old.items;
      faults = subst (λ fs. take (length (faults text ts)) (map fault_of fs) ≡ map told (faults text ts)) (sym c.in_err-extend_from_slice.ensures.items) (begun_kept ts k old).faults;
    })

pub returns-in_err-append-clause-refused : goal.returns-in_err-append-clause-refused
unfolding HasParsed
returns-in_err-append-clause-refused c =
    let k = c.args.self.now in
    let text = text_in k in
    let more = c.in_ok-closed.closed.faults.items in
    at_refusal c.from_residual-in_err-append.result (λ ts old. record {
      start = old.start;
      passed = old.passed;
      items = subst (λ l. Agree (map (λ n. node_view n.value) l) (settled_in text ts)) (sym c.in_err-append.ensures.items) (agree_begins (trees_of k.parsed.tree) (settled_in text ts) old.items);
      faults = subst (λ fs. take (length (faults text ts)) (map fault_of fs) ≡ map told (faults text ts)) (sym (c.in_ok-extend_from_slice.ensures.items ∙ ap (λ fs. k.parsed.faults.items ++ fs) c.deref.ensures.value))
          (kept_faults text ts k.parsed.faults.items more old.faults);
    })
