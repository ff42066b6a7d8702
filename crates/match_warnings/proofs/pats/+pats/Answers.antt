use Rattle.std.proofs.Common.{◌∙◌, ◌++◌, ◌∷◌, ◌+◌, List, [], map, drop, sym, ap, subst, arith, codes, Vec, Global, Option, Some, None}
use Rattle.std.specs.Prelude.{option_map}
use Rattle.std.proofs.lemmas.List.{drop_all, map-append}
use Rattle.text_terms.specs.Bytes.{str_bytes}
use Rattle.env_table.specs.declared.entries.Declaration.{Declaration}
use Rattle.env_table.specs.declared.entries.Label.{Label}
use Rattle.env_table.specs.declared.entries.Path.{Path}
use Rattle.env_table.specs.Labels.{written_of}
use Rattle.record_steps.specs.Named.{labels_here}
use Rattle.use_typing.specs.Labels.{found_by, label_paths}
use Rattle.syntax_tree.specs.View.{node_view}
use Rattle.row_parts.specs.declared.slots.Operand.{Operand}
use Rattle.row_parts.specs.Numbered.{operand_view, operands_in, path_in, token_in}
use Rattle.pattern_matrix.specs.Lines.{Typed, any, lit}
use Rattle.pattern_matrix.specs.Views.{typed_of}
use Rattle.pattern_matrix.specs.declared.patterns.Pat.{Pat}
use Rattle.match_warnings.specs.declared.forms.Form.TheVariants as form
use Rattle.row_parts.specs.Folds.{operand_by}
use Rattle.match_warnings.specs.declared.pats.Written.{Written}
use Rattle.match_warnings.proofs.Fields.{record_unseen, record_seen}
use Rattle.match_warnings.specs.Patterns.{Finds, FindsFields, labels_of, record_found, whole_of, and_others, by_labels, constant_pattern, field_at, field_view, over_parts, patterns_in, patterns_of, pattern_of, record_of, seen_rule, then_over, gathered, tree_pattern, constructor_pattern}
use Rattle.match_warnings.proofs.Patterns.{form_pattern, none_pattern, pattern_is, patterns_seen, slot_seen, some_pattern}
use Rattle.match_warnings.proofs.Finding.{FindsFirst, drop_item, finds_all, finds_more, finds_none, finds_same, ok_finds_as, ok_finds_same}
use Rattle.match_warnings.proofs.pats.+pats.Goals as goal

pub by_labels-returns-in-None : goal.by_labels-returns-in-None
by_labels-returns-in-None t c =
    let env = c.args.env.now in
    let fs = map (field_view env) c.args.fields.now in
    let x = c.label-item.result in
    let i = c.loop-label.label-index in
    let q = field_at (str_bytes x.name) fs in
    let rest = by_labels (drop (i + 1) c.args.labels.now) fs in
    finds_none env c.args.seen.now.items c.loop-label.seen.items c.label_pat.new.seen.items (map typed_of c.loop-label.pats.items) q (by_labels (drop i c.args.labels.now) fs) rest (by_labels c.args.labels.now fs)
    (ap (λ (ls : List Label). by_labels ls fs) (drop_item c.args.labels.now i x c.loop-label-test.true c.label-item.is)) c.loop-label.invariant
    (subst (λ (o : Option Pat). Finds env c.loop-label.seen.items c.label_pat.new.seen.items (option_map typed_of o) q) c.in-None.is c.in_ok-pat.ensures)

pub by_labels-loop-label-preserved : goal.by_labels-loop-label-preserved
by_labels-loop-label-preserved t c =
    let env = c.args.env.now in
    let fs = map (field_view env) c.args.fields.now in
    let x = c.label-item.result in
    let i = c.loop-label.label-index in
    let q = field_at (str_bytes x.name) fs in
    let rest = by_labels (drop (i + 1) c.args.labels.now) fs in
    let ps = c.loop-label.pats.items in
    subst (λ (ts : List Typed). FindsFirst env c.args.seen.now.items c.label_pat.new.seen.items ts rest (by_labels c.args.labels.now fs)) (sym (ap (map typed_of) c.in_ok-push-in-Some.ensures.pushed ∙ map-append typed_of ps (c.in-Some.pat ∷ [])))
    (finds_more env c.args.seen.now.items c.loop-label.seen.items c.label_pat.new.seen.items (map typed_of ps) (typed_of c.in-Some.pat) q (by_labels (drop i c.args.labels.now) fs) rest (by_labels c.args.labels.now fs)
    (ap (λ (ls : List Label). by_labels ls fs) (drop_item c.args.labels.now i x c.loop-label-test.true c.label-item.is)) c.loop-label.invariant
    (subst (λ (o : Option Pat). Finds env c.loop-label.seen.items c.label_pat.new.seen.items (option_map typed_of o) q) c.in-Some.is c.in_ok-pat.ensures))

pub by_labels-returns : goal.by_labels-returns
by_labels-returns t c =
    let env = c.args.env.now in
    let fs = map (field_view env) c.args.fields.now in
    let i = c.loop-label.label-index in
    finds_all env c.args.seen.now.items c.loop-label.seen.items (map typed_of c.loop-label.pats.items) (by_labels (drop i c.args.labels.now) fs) (by_labels c.args.labels.now fs)
    (ap (λ (ls : List Label). by_labels ls fs) (drop_all i c.args.labels.now (omega arith))) c.loop-label.invariant

pub node_pat-returns-in-Name : goal.node_pat-returns-in-Name
node_pat-returns-in-Name t c =
    let n = node_view c.args.node.now in
    ok_finds_same c.name.result (option_map typed_of) c.args.env.now c.args.seen.now.items (option_map (λ x. any) (token_in n 0)) (tree_pattern c.args.env.now c.args.number n)
    (sym (form_pattern c.args.env.now c.args.number c.args.node.now form.Name (sym c.in-Name.is ∙ c.form_of.ensures))) c.name.ensures

pub node_pat-returns-in-Wildcard : goal.node_pat-returns-in-Wildcard
node_pat-returns-in-Wildcard t c =
    let n = node_view c.args.node.now in
    finds_same c.args.env.now c.args.seen.now.items (option_map typed_of c.anything.result) (tree_pattern c.args.env.now c.args.number n)
    (c.anything.ensures ∙ sym (form_pattern c.args.env.now c.args.number c.args.node.now form.Wildcard (sym c.in-Wildcard.is ∙ c.form_of.ensures)))

pub node_pat-returns-in-Constant : goal.node_pat-returns-in-Constant
node_pat-returns-in-Constant t c =
    let n = node_view c.args.node.now in
    ok_finds_same c.constant_in.result (option_map typed_of) c.args.env.now c.args.seen.now.items (option_map constant_pattern (token_in n 0)) (tree_pattern c.args.env.now c.args.number n)
    (sym (form_pattern c.args.env.now c.args.number c.args.node.now form.Constant (sym c.in-Constant.is ∙ c.form_of.ensures))) c.constant_in.ensures

pub node_pat-returns-in-Negative : goal.node_pat-returns-in-Negative
node_pat-returns-in-Negative t c =
    let n = node_view c.args.node.now in
    ok_finds_same c.negative.result (option_map typed_of) c.args.env.now c.args.seen.now.items (option_map (λ x. lit (codes "-" ++ x.name)) (token_in n 1)) (tree_pattern c.args.env.now c.args.number n)
    (sym (form_pattern c.args.env.now c.args.number c.args.node.now form.Negative (sym c.in-Negative.is ∙ c.form_of.ensures))) c.negative.ensures

pub node_pat-returns-in-Record : goal.node_pat-returns-in-Record
node_pat-returns-in-Record t c =
    let env = c.args.env.now in
    let n = node_view c.args.node.now in
    let os = operands_in c.args.number n 1 in
    ok_finds_as c.record.result (option_map typed_of) env c.args.seen.now.items c.record.new.seen.items _ (tree_pattern env c.args.number n)
    (ap (record_of env os) (sym (slot_seen env c.args.number n 1)) ∙ sym (form_pattern env c.args.number c.args.node.now form.Record (sym c.in-Record.is ∙ c.form_of.ensures))) c.record.ensures

pub node_pat-returns-in-Bare : goal.node_pat-returns-in-Bare
node_pat-returns-in-Bare t c =
    let env = c.args.env.now in
    let n = node_view c.args.node.now in
    ok_finds_as c.bare.result (option_map typed_of) env c.args.seen.now.items c.bare.new.seen.items (constructor_pattern env (path_in n 0 1) []) (tree_pattern env c.args.number n)
    (sym (form_pattern env c.args.number c.args.node.now form.Bare (sym c.in-Bare.is ∙ c.form_of.ensures))) c.bare.ensures

pub node_pat-returns-in-Over : goal.node_pat-returns-in-Over
node_pat-returns-in-Over t c =
    let env = c.args.env.now in
    let n = node_view c.args.node.now in
    let f = c.in-Over.form in
    ok_finds_as c.compound.result (option_map typed_of) env c.args.seen.now.items c.compound.new.seen.items (then_over (patterns_of env (patterns_in f c.args.number n)) (over_parts f env c.args.number n)) (tree_pattern env c.args.number n)
    (ap (λ ss. then_over (gathered ss) (over_parts f env c.args.number n)) (sym (patterns_seen env f c.args.number n)) ∙ sym (form_pattern env c.args.number c.args.node.now (form.Over f) (sym c.in-Over.is ∙ c.form_of.ensures))) c.compound.ensures

pub pat_of-returns-in-Some : goal.pat_of-returns-in-Some
pat_of-returns-in-Some t c =
    ok_finds_as c.node_pat.result (option_map typed_of) c.args.env.now c.args.seen.now.items c.node_pat.new.seen.items _ (pattern_of c.args.env.now (operand_view c.args.p))
    (sym (some_pattern c.args.env.now c.args.p c.in-Some.node c.in-Some.is)) c.node_pat.ensures

pub pat_of-returns-in-None : goal.pat_of-returns-in-None
pat_of-returns-in-None t c = finds_same c.args.env.now c.args.seen.now.items None (pattern_of c.args.env.now (operand_view c.args.p)) (sym (none_pattern c.args.env.now c.args.p c.in-None.is))

pub pats_of-returns-in-None : goal.pats_of-returns-in-None
pats_of-returns-in-None t c =
    let env = c.args.env.now in
    let os = c.args.parts.now in
    let x = c.part-item.result in
    let i = c.loop-part.part-index in
    let q = pattern_of env (operand_view x) in
    let rest = patterns_of env (map operand_view (drop (i + 1) os)) in
    finds_none env c.args.seen.now.items c.loop-part.seen.items c.pat_of.new.seen.items (map typed_of c.loop-part.pats.items) q (patterns_of env (map operand_view (drop i os))) rest (patterns_of env (map operand_view os))
    (ap (λ (ls : List Operand). patterns_of env (map operand_view ls)) (drop_item os i x c.loop-part-test.true c.part-item.is) ∙ ap (λ p. and_others p rest) (sym (pattern_is env (operand_view x)))) c.loop-part.invariant
    (subst (λ (o : Option Pat). Finds env c.loop-part.seen.items c.pat_of.new.seen.items (option_map typed_of o) q) c.in-None.is c.in_ok-pat.ensures)

pub pats_of-loop-part-preserved : goal.pats_of-loop-part-preserved
pats_of-loop-part-preserved t c =
    let env = c.args.env.now in
    let os = c.args.parts.now in
    let x = c.part-item.result in
    let i = c.loop-part.part-index in
    let q = pattern_of env (operand_view x) in
    let rest = patterns_of env (map operand_view (drop (i + 1) os)) in
    let ps = c.loop-part.pats.items in
    subst (λ (ts : List Typed). FindsFirst env c.args.seen.now.items c.pat_of.new.seen.items ts rest (patterns_of env (map operand_view os))) (sym (ap (map typed_of) c.in_ok-push-in-Some.ensures.pushed ∙ map-append typed_of ps (c.in-Some.pat ∷ [])))
    (finds_more env c.args.seen.now.items c.loop-part.seen.items c.pat_of.new.seen.items (map typed_of ps) (typed_of c.in-Some.pat) q (patterns_of env (map operand_view (drop i os))) rest (patterns_of env (map operand_view os))
    (ap (λ (ls : List Operand). patterns_of env (map operand_view ls)) (drop_item os i x c.loop-part-test.true c.part-item.is) ∙ ap (λ p. and_others p rest) (sym (pattern_is env (operand_view x)))) c.loop-part.invariant
    (subst (λ (o : Option Pat). Finds env c.loop-part.seen.items c.pat_of.new.seen.items (option_map typed_of o) q) c.in-Some.is c.in_ok-pat.ensures))

pub pats_of-returns : goal.pats_of-returns
pats_of-returns t c =
    let env = c.args.env.now in
    let i = c.loop-part.part-index in
    finds_all env c.args.seen.now.items c.loop-part.seen.items (map typed_of c.loop-part.pats.items) (patterns_of env (map operand_view (drop i c.args.parts.now))) (patterns_of env (map operand_view c.args.parts.now))
    (ap (λ (ls : List Operand). patterns_of env (map operand_view ls)) (drop_all i c.args.parts.now (omega arith))) c.loop-part.invariant

pub record-returns-in_default : goal.record-returns-in_default
record-returns-in_default t c =
    let env = c.args.env.now in
    let os = operands_in c.args.number (node_view c.args.node.now) 1 in
    finds_same env c.args.seen.now.items None (record_of env os (map (operand_by (seen_rule env)) os))
    (sym (record_unseen env os (subst (λ (o : Option (Vec Written Global)). FindsFields env os c.new-paths.result.items c.fields_of.new.paths.items (option_map (λ (v : Vec Written Global). v.items) o)) c.in_default.is (c.in_ok-fields.ensures env))))

pub record-returns-in-Some-record_of : goal.record-returns-in-Some-record_of
record-returns-in-Some-record_of t c =
    let env = c.args.env.now in
    let os = operands_in c.args.number (node_view c.args.node.now) 1 in
    let d = c.in-Some-record_of.declaration.now.value in
    let h = subst (λ (o : Option (Vec Written Global)). FindsFields env os c.new-paths.result.items c.fields_of.new.paths.items (option_map (λ (v : Vec Written Global). v.items) o)) c.in-Some.is (c.in_ok-fields.ensures env) in
    let fs = map (field_view env) c.in-Some.fields.items in
    let labels = c.labels_in.ensures ∙ ap (λ (q : Declaration). labels_here q.shape) c.deref-in-Some-record_of.ensures in
    ok_finds_as c.whole_pat.result (option_map typed_of) env c.args.seen.now.items c.whole_pat.new.seen.items _ (record_of env os (map (operand_by (seen_rule env)) os))
    (ap (λ (ls : List Label). option_map (whole_of ls) (by_labels ls (map (field_view env) c.deref-in-Some-record_of-2.result.now))) labels
    ∙ ap (λ (ws : List Written). option_map (whole_of (labels_here d.shape)) (by_labels (labels_here d.shape) (map (field_view env) ws))) c.deref-in-Some-record_of-2.ensures.value
    ∙ sym (record_seen env os c.fields_of.new.paths.items c.in-Some.fields.items (Some d) h.trees (h.paths ∙ ap (λ (xs : List Path). map written_of xs ++ label_paths (labels_of os)) c.new-paths.ensures.items) h.fields
    (c.in-Some-record_of.ensures ∙ ap (λ (xs : List Path). record_found (found_by env (map written_of xs))) c.deref.ensures.value)))
    c.whole_pat.ensures

pub record-returns : goal.record-returns
record-returns t c =
    let env = c.args.env.now in
    let os = operands_in c.args.number (node_view c.args.node.now) 1 in
    let h = subst (λ (o : Option (Vec Written Global)). FindsFields env os c.new-paths.result.items c.fields_of.new.paths.items (option_map (λ (v : Vec Written Global). v.items) o)) c.in-Some.is (c.in_ok-fields.ensures env) in
    finds_same env c.args.seen.now.items None (record_of env os (map (operand_by (seen_rule env)) os))
    (sym (record_seen env os c.fields_of.new.paths.items c.in-Some.fields.items None h.trees (h.paths ∙ ap (λ (xs : List Path). map written_of xs ++ label_paths (labels_of os)) c.new-paths.ensures.items) h.fields
    (c.in-None.ensures ∙ ap (λ (xs : List Path). record_found (found_by env (map written_of xs))) c.deref.ensures.value)))
