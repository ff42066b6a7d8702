use Rattle.std.proofs.Common.{ap}
use Rattle.syntax_tree.specs.View.{node_view, tok_of}
use Rattle.row_parts.specs.Numbered.{first_in}
use Rattle.match_warnings.specs.Patterns.{label_in, own_pattern}
use Rattle.match_warnings.proofs.Fields.{field_put, label_missing, label_there, no_field_put, no_path_put, path_put}
use Rattle.match_warnings.proofs.Finding.{ok_from, ok_with}
use Rattle.match_warnings.proofs.pats.put_field.Goals as goal

pub returns-in-Some-clause-paths : goal.returns-in-Some-clause-paths
returns-in-Some-clause-paths c =
    ok_with c.push-in-Some.result
    (path_put c.args.paths.now.items c.push.new.list.items c.in_ok-path_of-in-Some.field-0 c.in_ok-label.label c.in-Some.last (label_in (node_view c.args.inner.now)) c.in_ok-label.ensures c.in-Some.is c.in_ok-push-in-Some.ensures.pushed
    c.in_ok-path_of-in-Some.ensures.modules c.in_ok-path_of-in-Some.ensures.last)

pub returns-in-Some-clause-fields : goal.returns-in-Some-clause-fields
returns-in-Some-clause-fields c =
    let w = label_in (node_view c.args.inner.now) in
    ok_from c.push-in-Some.result (λ pushed env. field_put env c.args.fields.now.items c.push-in-Some.new.list.items _ w.last (tok_of c.in-Some.last.now) (own_pattern env (first_in c.args.number (node_view c.args.inner.now) 3)) pushed
    (label_there c.in_ok-label.label c.in-Some.last w c.in_ok-label.ensures c.in-Some.is) c.in_ok-share-in-Some.ensures (ap (own_pattern env) c.first_operand.ensures)) c.push-in-Some.ensures.pushed

pub returns-clause-paths : goal.returns-clause-paths
returns-clause-paths c =
    let w = label_in (node_view c.args.inner.now) in
    no_path_put c.args.paths.now.items w (label_missing c.in_ok-label.label w c.in_ok-label.ensures c.in-None.is)

pub returns-clause-fields : goal.returns-clause-fields
returns-clause-fields c = λ env.
    let w = label_in (node_view c.args.inner.now) in
    no_field_put env c.args.fields.now.items w.last (own_pattern env (first_in c.args.number (node_view c.args.inner.now) 3)) (label_missing c.in_ok-label.label w c.in_ok-label.ensures c.in-None.is)
