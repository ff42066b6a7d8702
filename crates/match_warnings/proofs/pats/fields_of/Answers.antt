use Rattle.std.proofs.Common.{◌∙◌, ◌++◌, ◌+◌, List, [], map, drop, refl, sym, ap, arith, append-nil}
use Rattle.std.proofs.lemmas.List.{drop_all}
use Rattle.syntax_tree.specs.View.{node_view}
use Rattle.env_table.specs.Labels.{written_of}
use Rattle.row_parts.specs.Numbered.{Numbered, operand_view, first_in}
use Rattle.use_typing.specs.Labels.{label_path, label_paths}
use Rattle.match_warnings.specs.Patterns.{are_trees, field_view, fields_in, label_in, labels_of, own_pattern, with_field}
use Rattle.match_warnings.specs.declared.pats.Written.{Written}
use Rattle.match_warnings.proofs.Fields.{trees_more, no_tree, labels_more, fields_more, all_with}
use Rattle.match_warnings.proofs.Finding.{drop_item}
use Rattle.match_warnings.proofs.pats.fields_of.Goals as goal

pub loop-part-init : goal.loop-part-init
loop-part-init c = record {
  items = ap (map operand_view) c.deref-part-items.ensures.value ∙ c.in_ok-operands.ensures;
  trees = refl;
  paths = refl;
  fields = λ env. ap (λ (ws : List Written). map (field_view env) ws ++ fields_in env (map operand_view c.deref-part-items.result.now)) c.new-fields.ensures.items;
}

pub returns-in-None : goal.returns-in-None
returns-in-None c = λ env.
    let os = c.deref-part-items.result.now in
    let x = c.part-item.result in
    let i = c.loop-part.part-index in
    let so_far = c.loop-part.invariant in
    sym (ap are_trees so_far.items) ∙ sym so_far.trees ∙ ap (λ ls. are_trees (map operand_view ls)) (drop_item os i x c.loop-part-test.true c.part-item.is) ∙ no_tree x (map operand_view (drop (i + 1) os)) c.in-None.is

pub loop-part-preserved : goal.loop-part-preserved
loop-part-preserved c =
    let os = c.deref-part-items.result.now in
    let x = c.part-item.result in
    let i = c.loop-part.part-index in
    let nd = c.in-Some.inner in
    let t = node_view nd.now in
    let rest = map operand_view (drop (i + 1) os) in
    let next = ap (map operand_view) (drop_item os i x c.loop-part-test.true c.part-item.is) in
    let so_far = c.loop-part.invariant in
    record {
      items = so_far.items;
      trees = sym (ap are_trees next ∙ trees_more x nd rest c.in-Some.is) ∙ so_far.trees;
      paths = all_with (label_path (label_in t)) (map written_of c.loop-part.paths.items) (map written_of c.put_field.new.paths.items) (label_paths (labels_of (map operand_view (drop i os)))) (label_paths (labels_of rest)) _ so_far.paths
          (ap (λ (ns : List Numbered). label_paths (labels_of ns)) next ∙ ap label_paths (labels_more x nd rest c.in-Some.is)) c.in_ok-put_field-in-Some.ensures.paths;
      fields = λ env. all_with (with_field (label_in t).last (own_pattern env (first_in x.number t 3)) []) (map (field_view env) c.loop-part.fields.items) (map (field_view env) c.put_field.new.fields.items) (fields_in env (map operand_view (drop i os))) (fields_in env rest)
          (fields_in env (map operand_view os)) (so_far.fields env) (ap (fields_in env) next ∙ fields_more env x nd rest c.in-Some.is) (c.in_ok-put_field-in-Some.ensures.fields env);
    }

pub returns : goal.returns
returns c = λ env.
    let os = c.deref-part-items.result.now in
    let so_far = c.loop-part.invariant in
    let none = ap (map operand_view) (drop_all c.loop-part.part-index os (omega arith)) in
    let ps = map written_of c.loop-part.paths.items in
    let fs = map (field_view env) c.loop-part.fields.items in
    record {
      trees = sym (ap are_trees so_far.items) ∙ sym so_far.trees ∙ ap are_trees none;
      paths = sym (append-nil ps) ∙ sym (ap (λ (ns : List Numbered). ps ++ label_paths (labels_of ns)) none) ∙ so_far.paths ∙ ap (λ (ns : List Numbered). map written_of c.args.paths.now.items ++ label_paths (labels_of ns)) so_far.items;
      fields = sym (append-nil fs) ∙ sym (ap (λ (ns : List Numbered). fs ++ fields_in env ns) none) ∙ so_far.fields env ∙ ap (fields_in env) so_far.items;
    }
