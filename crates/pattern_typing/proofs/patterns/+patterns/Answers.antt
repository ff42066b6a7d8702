use Rattle.std.proofs.Common.{◌≡◌, ◌∙◌, ◌++◌, ◌∷◌, ◌+◌, ◌<◌, ℕ, true, false, List, [], length, map, drop, refl, sym, ap, subst, arith}
use Rattle.std.specs.Prelude.{OnOk, IfOk, All, slice_get, Option, Some, None, option_map}
use Rattle.std.proofs.lemmas.List.{drop_all}
use Rattle.std.proofs.lemmas.Result.{IfOk-weaker}
use Rattle.tree_model.specs.Rows.{pname_row, pconst_row, pneg_row, pcon_row, pparen_row, plist_row, precord_row, papp_row, pcons_row, ptuple_row, por_row, pas_row}
use Rattle.syntax_tree.specs.Names.{row_of}
use Rattle.syntax_tree.specs.View.{node_view}
use Rattle.syntax_tree.specs.declared.tree.Node.{out-Node}
use Rattle.syntax_tree.specs.declared.rows.RowName.TheVariants as row_name
use Rattle.row_parts.specs.Numbered.{Numbered, all_operands, first_in, in_slots, operand_view, operands_in, path_view, token_in}
use Rattle.typing_state.proofs.Going.{goes_refl, goes_trans}
use Rattle.use_typing.specs.Paths.{path_at}
use Rattle.pattern_names.specs.PatternNames.{constructor_at, field_pattern_names, name_of, names_in, names_of, names_of_first, names_of_tree, parts_of_pattern, pattern_names, side_at}
use Rattle.pattern_typing.specs.Matching.{AsksFirst, Binds, binds_of, names_seen, nodes_of, parts_of_sides, side_of, side_view, tokens_of, typed_view}
use Rattle.pattern_typing.specs.declared.patterns.SideMatch.{SideMatch}
use Rattle.typing_model.specs.BuiltIns.{constant}
use Rattle.type_nodes.specs.Nodes as node
use Rattle.type_nodes.specs.Nodes.{IsNode}
use Rattle.type_nodes.specs.Changes.{Makes}
use Rattle.type_nodes.specs.Views.{numbers}
use Rattle.operand_laws.specs.Operands.{pattern_of, path_of}
use Rattle.operand_laws.proofs.Standing.{pattern_of_stands}
use Rattle.type_terms.specs.declared.types.NodeRef.{NodeRef}
use Rattle.typing_steps.specs.Typing.{path_as}
use Rattle.typing_steps.proofs.Rows.{var_any}
use Rattle.pattern_rows.specs.Applied.{MatchesWanted}
use Rattle.pattern_rows.specs.CarriedPatterns.{MatchesOperand, MatchesOperands, MatchesBeside}
use Rattle.pattern_rows.specs.Contracts.{EndsPatterns, list_asks, cons_asks, patterns_of}
use Rattle.pattern_rows.specs.Named.{NotesRow, BindsNameIf}
use Rattle.pattern_rows.specs.Sides.{Side, AsksLater}
use Rattle.pattern_rows.proofs.Applied.{wanted_matches, constructor_applied, nothing_applied, applied_matches}
use Rattle.pattern_rows.proofs.Matching.{operand_matches, nothing_matches, any_matches, constant_matches, minus_matches, tuple_matches, list_matches, cons_matches, as_matches, or_matches}
use Rattle.pattern_rows.proofs.Ordered.{in_order_none, in_order_all}
use Rattle.pattern_typing.proofs.Constructors.{head_constructor}
use Rattle.pattern_typing.proofs.Carrying.{on_ok, none_of, tree_row, any_row}
use Rattle.pattern_typing.proofs.Stepping.{paren_row, as_patterns, order_step, beside_none, beside_step, beside_done, sides_compared}
use Rattle.use_typing.specs.Uses.{GivenOrNew}
use Rattle.record_rows.specs.Fields.{FieldsInOrderFirst}
use Rattle.record_rows.specs.Operands.{IsCarriedField, MatchesRecord, fields_of}
use Rattle.record_rows.proofs.Fields as fields
use Rattle.record_rows.proofs.Nodes.{record_matches}
use Rattle.pattern_typing.specs.Records.{here_of}
use Rattle.pattern_typing.proofs.Recording as recording
use Rattle.pattern_typing.proofs.Recording.{as_fields, field_by, field_step, written_done, record_done}
use Rattle.pattern_typing.specs.declared.patterns.TypedPart.{TypedPart}
use Rattle.pattern_typing.proofs.Binding.{binds_both, binds_none}
use Rattle.use_typing.proofs.Reading.{drop_read, map_push, list_done}
use Rattle.pattern_typing.proofs.MatchedRows.{binds_more, binds_done, side_is, row_names, names_there, names_missing, field_names_missing, field_names_written, field_names_alone, on_any, other_bound, record_binds}
use Rattle.pattern_typing.proofs.OtherRows.{other_names}
use Rattle.pattern_typing.proofs.PatternLaws.{filled_binds, sides_come, slot_binds, slots_bind}
use Rattle.pattern_typing.proofs.patterns.+patterns.Goals as goal

pub in_order-loop-part-preserved : goal.in_order-loop-part-preserved
in_order-loop-part-preserved t c =
    let all = c.args.parts.now in
    let i = c.loop-part.part-index in
    let x = c.part-item.result in
    let lt : i < length all = let n = c.loop-part-test.true in omega arith in
    let cut = drop_read all i x lt c.part-item.is in
    record {
      goes = goes_trans c.args.at.now c.loop-part.at c.match_pattern.new.at c.loop-part.invariant.goes c.match_pattern.ensures.goes;
      names = binds_more c.loop-part.names.items c.match_pattern.new.names.items (pattern_names (operand_view x)) (names_in pattern_names (map operand_view (drop (i + 1) all))) (tokens_of c.args.names.now.items ++ names_in pattern_names (map operand_view all)) c.in_ok-ty.ensures.names
          (subst (λ os. tokens_of c.loop-part.names.items ++ names_in pattern_names (map operand_view os) ≡ tokens_of c.args.names.now.items ++ names_in pattern_names (map operand_view all)) cut c.loop-part.invariant.names);
      typed = map_push (λ (p : TypedPart). operand_view p.part) c.loop-part.typed.items c.push.new.list.items (record { part = x; ty = c.in_ok-ty.ty }) (operand_view x) (map operand_view (drop (i + 1) all)) (map operand_view all) c.in_ok-push.ensures.pushed refl
          (subst (λ os. typed_view c.loop-part.typed.items ++ map operand_view os ≡ map operand_view all) cut c.loop-part.invariant.typed);
      carries = order_step c.args.at.now c.loop-part.at c.match_pattern.new.at c.args.env.now all i x c.args.names.now.items c.loop-part.names.items c.match_pattern.new.names.items c.args.seen.now.items c.loop-part.seen.items c.match_pattern.new.seen.items c.loop-part.typed.items c.push.new.list.items c.in_ok-ty.ty lt c.part-item.is c.in_ok-push.ensures.pushed c.loop-part.invariant.goes c.loop-part.invariant.carries c.in_ok-ty.ensures.carries;
    }

pub in_order-returns : goal.in_order-returns
in_order-returns t c =
    let all = c.args.parts.now in
    let i = c.loop-part.part-index in
    let none : drop i all ≡ [] = drop_all i all (let n = c.loop-part-test.false in omega arith) in
    record {
      names = binds_done c.args.names.now.items c.loop-part.names.items (names_in pattern_names (map operand_view all)) (names_in pattern_names (map operand_view (drop i all))) (ap (λ os. names_in pattern_names (map operand_view os)) none) c.loop-part.invariant.names;
      typed = list_done (typed_view c.loop-part.typed.items) (map operand_view all) (map operand_view (drop i all)) (ap (map operand_view) none) c.loop-part.invariant.typed;
      goes = c.loop-part.invariant.goes;
      carries = λ carried. in_order_all c.args.at.now c.loop-part.at c.args.env.now (as_patterns c.args.at.now.item all) (as_patterns c.args.at.now.item (drop i all)) (binds_of c.args.names.now.items) (binds_of c.loop-part.names.items) (names_seen c.args.seen.now.items) (names_seen c.loop-part.seen.items) (nodes_of c.loop-part.typed.items) (ap (as_patterns c.args.at.now.item) none) (c.loop-part.invariant.carries carried);
    }

pub match_sides-loop-part-preserved : goal.match_sides-loop-part-preserved
match_sides-loop-part-preserved t c =
    let all = c.args.parts.now in
    let i = c.loop-part.part-index in
    let x = c.part-item.result in
    let lt : i < length all = let n = c.loop-part-test.true in omega arith in
    let cut = drop_read all i x lt c.part-item.is in
    record {
      goes = goes_trans c.args.at.now c.loop-part.at c.match_side.new.at c.loop-part.invariant.goes c.match_side.ensures.goes;
      sides = map_push side_view c.loop-part.sides.items c.push.new.list.items c.in_ok-side.side (side_at (operand_view x)) (map side_at (map operand_view (drop (i + 1) all))) (map side_at (map operand_view all)) c.in_ok-push.ensures.pushed c.in_ok-side.ensures.side
          (subst (λ os. map side_view c.loop-part.sides.items ++ map side_at (map operand_view os) ≡ map side_at (map operand_view all)) cut c.loop-part.invariant.sides);
      carries = beside_step c.args.at.now c.loop-part.at c.match_side.new.at c.args.env.now all i x c.args.seen.now.items c.loop-part.seen.items c.match_side.new.seen.items c.keep_apart.new.self.items c.loop-part.all.items c.keep_apart.new.others.items c.loop-part.sides.items c.push.new.list.items c.in_ok-side.side c.len-before.result lt c.part-item.is c.in_ok-push.ensures.pushed c.loop-part.invariant.goes
          c.len-before.ensures c.in_ok-keep_apart.ensures.kept c.in_ok-keep_apart.ensures.moved c.loop-part.invariant.carries c.in_ok-side.ensures.carries;
      parts = map_push (λ (s : SideMatch). operand_view s.part) c.loop-part.sides.items c.push.new.list.items c.in_ok-side.side (operand_view x) (map operand_view (drop (i + 1) all)) (map operand_view all) c.in_ok-push.ensures.pushed (ap operand_view c.in_ok-side.ensures.part)
          (subst (λ os. parts_of_sides c.loop-part.sides.items ++ map operand_view os ≡ map operand_view all) cut c.loop-part.invariant.parts);
    }

pub match_sides-returns : goal.match_sides-returns
match_sides-returns t c =
    let all = c.args.parts.now in
    let i = c.loop-part.part-index in
    let none : drop i all ≡ [] = drop_all i all (let n = c.loop-part-test.false in omega arith) in
    record {
      sides = list_done (map side_view c.loop-part.sides.items) (map side_at (map operand_view all)) (map side_at (map operand_view (drop i all))) (ap (λ os. map side_at (map operand_view os)) none) c.loop-part.invariant.sides;
      goes = c.loop-part.invariant.goes;
      carries = λ carried. beside_done c.args.at.now c.loop-part.at c.args.env.now (as_patterns c.args.at.now.item all) (as_patterns c.args.at.now.item (drop i all)) c.args.seen.now.items c.loop-part.seen.items c.loop-part.all.items c.append.new.self.items (map side_of c.loop-part.sides.items) (ap (as_patterns c.args.at.now.item) none) c.in_ok-append.ensures (c.loop-part.invariant.carries carried);
      parts = list_done (parts_of_sides c.loop-part.sides.items) (map operand_view all) (map operand_view (drop i all)) (ap (map operand_view) none) c.loop-part.invariant.parts;
    }

pub match_fields-loop-field-preserved : goal.match_fields-loop-field-preserved
match_fields-loop-field-preserved t c =
    let all = c.args.fields.now in
    let i = c.loop-field.field-index in
    let x = c.field-item.result in
    let lt : i < length all = let n = c.loop-field-test.true in omega arith in
    let cut = drop_read all i x lt c.field-item.is in
    record {
      goes = goes_trans c.args.at.now c.loop-field.at c.match_field.new.at c.loop-field.invariant.goes c.match_field.ensures.goes;
      names = binds_more c.loop-field.names.items c.match_field.new.names.items (field_pattern_names (operand_view x)) (names_in field_pattern_names (map operand_view (drop (i + 1) all))) (tokens_of c.args.names.now.items ++ names_in field_pattern_names (map operand_view all)) c.in_ok-match_field.ensures.names
          (subst (λ os. tokens_of c.loop-field.names.items ++ names_in field_pattern_names (map operand_view os) ≡ tokens_of c.args.names.now.items ++ names_in field_pattern_names (map operand_view all)) cut c.loop-field.invariant.names);
      found = c.in_ok-match_field.ensures.found ∙ c.loop-field.invariant.found;
      carries = field_step c.args.at.now c.loop-field.at c.match_field.new.at c.args.env.now c.args.found c.loop-field.begun.found all i x (binds_of c.args.names.now.items) (binds_of c.loop-field.names.items) (binds_of c.match_field.new.names.items) (names_seen c.args.seen.now.items) (names_seen c.loop-field.seen.items) (names_seen c.match_field.new.seen.items) (names_seen c.loop-field.begun.labels.items) (names_seen c.match_field.new.begun.labels.items)
          lt c.field-item.is c.loop-field.invariant.goes c.loop-field.invariant.found c.loop-field.invariant.carries c.in_ok-match_field.ensures.carries;
    }

pub match_fields-loop-field-init : goal.match_fields-loop-field-init
match_fields-loop-field-init t c =
    let all = c.args.fields.now in
    record {
      goes = goes_refl c.args.at.now;
      names = refl;
      found = refl;
      carries = λ carried. subst (λ ls. FieldsInOrderFirst c.args.at.now c.args.at.now c.args.env.now (here_of c.args.found) (as_fields c.args.at.now.item all) (as_fields c.args.at.now.item all) (binds_of c.args.names.now.items) (binds_of c.args.names.now.items) (names_seen c.args.seen.now.items) (names_seen ls) (names_seen c.args.seen.now.items)) (sym c.new.ensures.items)
          (fields.in_order_none c.args.at.now c.args.env.now (here_of c.args.found) (as_fields c.args.at.now.item all) (binds_of c.args.names.now.items) (names_seen c.args.seen.now.items));
    }

pub match_fields-returns : goal.match_fields-returns
match_fields-returns t c =
    let all = c.args.fields.now in
    let i = c.loop-field.field-index in
    let none : drop i all ≡ [] = drop_all i all (let n = c.loop-field-test.false in omega arith) in
    record {
      names = binds_done c.args.names.now.items c.loop-field.names.items (names_in field_pattern_names (map operand_view all)) (names_in field_pattern_names (map operand_view (drop i all))) (ap (λ os. names_in field_pattern_names (map operand_view os)) none) c.loop-field.invariant.names;
      goes = c.loop-field.invariant.goes;
      carries = λ carried. fields.in_order_all c.args.at.now c.loop-field.at c.args.env.now (here_of c.args.found) (as_fields c.args.at.now.item all) (as_fields c.args.at.now.item (drop i all)) (binds_of c.args.names.now.items) (binds_of c.loop-field.names.items) (names_seen c.args.seen.now.items) (names_seen c.loop-field.begun.labels.items) (names_seen c.loop-field.seen.items)
          (ap (as_fields c.args.at.now.item) none) (c.loop-field.invariant.carries carried);
    }

pub match_pattern-returns-in-Some : goal.match_pattern-returns-in-Some
match_pattern-returns-in-Some t c = record {
  names = subst (λ ts. OnOk c.match_node.result (Binds c.args.names.now.items c.match_node.new.names.items ts)) (sym (names_there c.args.p c.in-Some.node c.in-Some.is)) c.match_node.ensures.names;
  goes = c.match_node.ensures.goes;
  carries = IfOk-weaker c.match_node.result _ _ (λ m h. operand_matches c.args.at.now c.match_node.new.at c.args.env.now c.args.p c.in-Some.node (binds_of c.args.names.now.items) (binds_of c.match_node.new.names.items) (names_seen c.args.seen.now.items) (names_seen c.match_node.new.seen.items) m.0 c.in-Some.is h) c.match_node.ensures.carries;
}

pub match_pattern-returns-in-None : goal.match_pattern-returns-in-None
match_pattern-returns-in-None t c = record {
  names = on_any c.anything.result (Binds c.args.names.now.items c.args.names.now.items (pattern_names (operand_view c.args.p))) (subst (λ ts. Binds c.args.names.now.items c.args.names.now.items ts) (sym (names_missing c.args.p c.in-None.is)) (binds_none c.args.names.now.items));
  goes = c.anything.ensures.goes;
  carries = IfOk-weaker c.anything.result _ _ (λ m h. nothing_matches c.args.at.now c.anything.new.at c.args.env.now c.args.p m (binds_of c.args.names.now.items) (names_seen c.args.seen.now.items) c.in-None.is h) c.anything.ensures.carries;
}

pub match_node-returns-in-Papp : goal.match_node-returns-in-Papp
unfolding row_of
match_node-returns-in-Papp t c = record {
  names = row_names c.applied.result c.args.number c.args.node.now row_name.Papp papp_row c.args.names.now.items c.applied.new.names.items c.in-Papp.is refl c.applied.ensures.names;
  goes = c.applied.ensures.goes;
  carries = IfOk-weaker c.applied.result _ _ (λ m h. h (tree_row c.args.node.now row_name.Papp papp_row c.in-Papp.is refl)) c.applied.ensures.carries;
}

pub match_node-returns-in-Precord : goal.match_node-returns-in-Precord
unfolding row_of
match_node-returns-in-Precord t c = record {
  names = row_names c.«record».result c.args.number c.args.node.now row_name.Precord precord_row c.args.names.now.items c.«record».new.names.items c.in-Precord.is refl c.«record».ensures.names;
  goes = c.«record».ensures.goes;
  carries = IfOk-weaker c.«record».result _ _ (λ m h. h (tree_row c.args.node.now row_name.Precord precord_row c.in-Precord.is refl)) c.«record».ensures.carries;
}

pub match_node-returns-in-Por : goal.match_node-returns-in-Por
unfolding row_of
match_node-returns-in-Por t c = record {
  names = row_names c.alternatives.result c.args.number c.args.node.now row_name.Por por_row c.args.names.now.items c.alternatives.new.names.items c.in-Por.is refl c.alternatives.ensures.names;
  goes = c.alternatives.ensures.goes;
  carries = IfOk-weaker c.alternatives.result _ _ (λ m h. h (tree_row c.args.node.now row_name.Por por_row c.in-Por.is refl)) c.alternatives.ensures.carries;
}

pub match_node-returns-in-Pparen : goal.match_node-returns-in-Pparen
unfolding row_of
match_node-returns-in-Pparen t c = record {
  names = row_names c.parenthesised.result c.args.number c.args.node.now row_name.Pparen pparen_row c.args.names.now.items c.parenthesised.new.names.items c.in-Pparen.is refl c.parenthesised.ensures.names;
  goes = c.parenthesised.ensures.goes;
  carries = IfOk-weaker c.parenthesised.result _ _ (λ m h. h (tree_row c.args.node.now row_name.Pparen pparen_row c.in-Pparen.is refl)) c.parenthesised.ensures.carries;
}

pub match_node-returns-in-Plist : goal.match_node-returns-in-Plist
unfolding row_of
match_node-returns-in-Plist t c = record {
  names = row_names c.list.result c.args.number c.args.node.now row_name.Plist plist_row c.args.names.now.items c.list.new.names.items c.in-Plist.is refl c.list.ensures.names;
  goes = c.list.ensures.goes;
  carries = IfOk-weaker c.list.result _ _ (λ m h. h (tree_row c.args.node.now row_name.Plist plist_row c.in-Plist.is refl)) c.list.ensures.carries;
}

pub match_node-returns-in-Pcons : goal.match_node-returns-in-Pcons
unfolding row_of
match_node-returns-in-Pcons t c = record {
  names = row_names c.cons.result c.args.number c.args.node.now row_name.Pcons pcons_row c.args.names.now.items c.cons.new.names.items c.in-Pcons.is refl c.cons.ensures.names;
  goes = c.cons.ensures.goes;
  carries = IfOk-weaker c.cons.result _ _ (λ m h. h (tree_row c.args.node.now row_name.Pcons pcons_row c.in-Pcons.is refl)) c.cons.ensures.carries;
}

pub match_node-returns-in-Ptuple : goal.match_node-returns-in-Ptuple
unfolding row_of
match_node-returns-in-Ptuple t c = record {
  names = row_names c.tuple.result c.args.number c.args.node.now row_name.Ptuple ptuple_row c.args.names.now.items c.tuple.new.names.items c.in-Ptuple.is refl c.tuple.ensures.names;
  goes = c.tuple.ensures.goes;
  carries = IfOk-weaker c.tuple.result _ _ (λ m h. h (tree_row c.args.node.now row_name.Ptuple ptuple_row c.in-Ptuple.is refl)) c.tuple.ensures.carries;
}

pub match_node-returns-in-Pas : goal.match_node-returns-in-Pas
unfolding row_of
match_node-returns-in-Pas t c = record {
  names = row_names c.named.result c.args.number c.args.node.now row_name.Pas pas_row c.args.names.now.items c.named.new.names.items c.in-Pas.is refl c.named.ensures.names;
  goes = c.named.ensures.goes;
  carries = IfOk-weaker c.named.result _ _ (λ m h. h (tree_row c.args.node.now row_name.Pas pas_row c.in-Pas.is refl)) c.named.ensures.carries;
}

pub match_node-returns-in-Pname : goal.match_node-returns-in-Pname
unfolding row_of
match_node-returns-in-Pname t c = record {
  names = row_names c.name.result c.args.number c.args.node.now row_name.Pname pname_row c.args.names.now.items c.name.new.names.items c.in-Pname.is refl c.name.ensures.names;
  goes = c.name.ensures.goes;
  carries = IfOk-weaker c.name.result _ _ (λ m h. h (tree_row c.args.node.now row_name.Pname pname_row c.in-Pname.is refl)) c.name.ensures.carries;
}

pub match_node-returns-in-Pcon : goal.match_node-returns-in-Pcon
unfolding row_of
match_node-returns-in-Pcon t c = record {
  names = row_names c.constant_constructor.result c.args.number c.args.node.now row_name.Pcon pcon_row c.args.names.now.items c.args.names.now.items c.in-Pcon.is refl (on_any c.constant_constructor.result (Binds c.args.names.now.items c.args.names.now.items []) (binds_none c.args.names.now.items));
  goes = c.constant_constructor.ensures.goes;
  carries = IfOk-weaker c.constant_constructor.result _ _ (λ m h. h (binds_of c.args.names.now.items) (names_seen c.args.seen.now.items) (tree_row c.args.node.now row_name.Pcon pcon_row c.in-Pcon.is refl)) c.constant_constructor.ensures.carries;
}

pub match_node-returns-in-Pconst : goal.match_node-returns-in-Pconst
unfolding row_of
match_node-returns-in-Pconst t c = record {
  names = row_names c.number_row.result c.args.number c.args.node.now row_name.Pconst pconst_row c.args.names.now.items c.args.names.now.items c.in-Pconst.is refl (on_any c.number_row.result (Binds c.args.names.now.items c.args.names.now.items []) (binds_none c.args.names.now.items));
  goes = c.number_row.ensures.goes;
  carries = IfOk-weaker c.number_row.result _ _ (λ m h. constant_matches c.args.at.now c.number_row.new.at c.args.env.now c.args.number (node_view c.args.node.now) m (binds_of c.args.names.now.items) (names_seen c.args.seen.now.items)
      (subst (λ o. NotesRow c.args.at.now c.number_row.new.at c.args.env.now c.args.number (λ n. constant false n o) m) c.token.ensures h) (tree_row c.args.node.now row_name.Pconst pconst_row c.in-Pconst.is refl)) c.number_row.ensures.carries;
}

pub match_node-returns-in-Pneg : goal.match_node-returns-in-Pneg
unfolding row_of
match_node-returns-in-Pneg t c = record {
  names = row_names c.number_row-in-Pneg.result c.args.number c.args.node.now row_name.Pneg pneg_row c.args.names.now.items c.args.names.now.items c.in-Pneg.is refl (on_any c.number_row-in-Pneg.result (Binds c.args.names.now.items c.args.names.now.items []) (binds_none c.args.names.now.items));
  goes = c.number_row-in-Pneg.ensures.goes;
  carries = IfOk-weaker c.number_row-in-Pneg.result _ _ (λ m h. minus_matches c.args.at.now c.number_row-in-Pneg.new.at c.args.env.now c.args.number (node_view c.args.node.now) m (binds_of c.args.names.now.items) (names_seen c.args.seen.now.items)
      (subst (λ o. NotesRow c.args.at.now c.number_row-in-Pneg.new.at c.args.env.now c.args.number (λ n. constant true n o) m) c.token-in-Pneg.ensures h) (tree_row c.args.node.now row_name.Pneg pneg_row c.in-Pneg.is refl)) c.number_row-in-Pneg.ensures.carries;
}

pub match_node-returns-in_default : goal.match_node-returns-in_default
match_node-returns-in_default t c =
    let nd = c.args.node.now in
    let n = c.args.number in
    let parts = parts_of_pattern n (node_view nd) in
    record {
      names = on_any c.anything.result (Binds c.args.names.now.items c.args.names.now.items (names_of_tree n (node_view nd))) (subst (λ ts. Binds c.args.names.now.items c.args.names.now.items ts) (sym (other_bound n nd (other_names (out-Node nd).row n (node_view nd) parts c.in_default.not-Papp c.in_default.not-Precord c.in_default.not-Por c.in_default.not-Pparen c.in_default.not-Plist c.in_default.not-Pcons c.in_default.not-Ptuple c.in_default.not-Pas c.in_default.not-Pname c.in_default.not-Pcon c.in_default.not-Pconst c.in_default.not-Pneg))) (binds_none c.args.names.now.items));
      goes = c.anything.ensures.goes;
      carries = IfOk-weaker c.anything.result _ _ (λ m h place carried. any_matches c.args.at.now c.anything.new.at c.args.env.now n (node_view nd) m (binds_of c.args.names.now.items) (names_seen c.args.seen.now.items) h
          (any_row nd carried.rows c.in_default.not-Papp c.in_default.not-Pcon c.in_default.not-Por c.in_default.not-Pparen c.in_default.not-Plist c.in_default.not-Pcons c.in_default.not-Ptuple c.in_default.not-Pas c.in_default.not-Pname c.in_default.not-Pconst c.in_default.not-Pneg c.in_default.not-Precord) place carried) c.anything.ensures.carries;
    }

pub match_field-returns-in_default : goal.match_field-returns-in_default
match_field-returns-in_default t c = record {
  names = subst (λ ts. Binds c.args.names.now.items c.args.names.now.items ts) (sym (field_names_missing c.args.field c.in_default.is)) (binds_none c.args.names.now.items);
  goes = goes_refl c.args.at.now;
  carries = recording.field_missing c.args.at.now c.args.env.now c.args.begun.now.found c.args.field (binds_of c.args.names.now.items) (names_seen c.args.seen.now.items) (names_seen c.args.begun.now.labels.items) c.in_default.is;
  found = refl;
}

pub match_field-returns-in-Some-first_operand : goal.match_field-returns-in-Some-first_operand
match_field-returns-in-Some-first_operand t c =
    let first : first_in c.args.field.number (node_view c.in-Some.node.now) 3 ≡ Some (operand_view c.in-Some-first_operand.part) = sym c.first_operand.ensures ∙ ap (option_map operand_view) c.in-Some-first_operand.is in
    record {
      names = subst (λ ts. OnOk c.match_written.result (Binds c.args.names.now.items c.match_written.new.names.items ts)) (sym (field_names_written c.args.field c.in-Some.node (operand_view c.in-Some-first_operand.part) c.in-Some.is first)) c.match_written.ensures.names;
      goes = c.match_written.ensures.goes;
      carries = field_by c.match_written.result c.args.at.now c.match_written.new.at c.args.env.now c.args.begun.now.found c.args.field c.in-Some.node (Some (operand_view c.in-Some-first_operand.part)) (binds_of c.args.names.now.items) (binds_of c.match_written.new.names.items) (names_seen c.args.seen.now.items) (names_seen c.match_written.new.seen.items) (names_seen c.args.begun.now.labels.items) (names_seen c.match_written.new.begun.labels.items)
          c.in-Some.is first c.match_written.ensures.carries;
      found = c.match_written.ensures.found;
    }

pub match_field-returns-in-None : goal.match_field-returns-in-None
match_field-returns-in-None t c =
    let first : first_in c.args.field.number (node_view c.in-Some.node.now) 3 ≡ None = sym c.first_operand.ensures ∙ ap (option_map operand_view) c.in-None.is in
    record {
      names = subst (λ ts. OnOk c.pun.result (Binds c.args.names.now.items c.pun.new.names.items ts)) (sym (field_names_alone c.args.field c.in-Some.node c.in-Some.is first)) c.pun.ensures.names;
      goes = c.pun.ensures.goes;
      carries = field_by c.pun.result c.args.at.now c.pun.new.at c.args.env.now c.args.begun.now.found c.args.field c.in-Some.node None (binds_of c.args.names.now.items) (binds_of c.pun.new.names.items) (names_seen c.args.seen.now.items) (names_seen c.pun.new.seen.items) (names_seen c.args.begun.now.labels.items) (names_seen c.pun.new.begun.labels.items)
          c.in-Some.is first c.pun.ensures.carries;
      found = c.pun.ensures.found;
    }

pub in_brackets-returns : goal.in_brackets-returns
in_brackets-returns t c =
    let n = c.args.number in
    let tree = node_view c.args.node.now in
    let os = map operand_view c.deref.result.now in
    let same : map operand_view c.deref.result.now ≡ operands_in c.args.number (node_view c.args.node.now) 1 = ap (map operand_view) c.deref.ensures.value ∙ c.in_ok-parts.ensures in
    record {
      names = slot_binds c.in_order.result n tree 1 os c.args.names.now.items c.in_order.new.names.items same c.in_order.ensures.names;
      typed = subst (λ xs. IfOk c.in_order.result (λ ts. typed_view ts.items ≡ xs)) same c.in_order.ensures.typed;
      goes = c.in_order.ensures.goes;
      carries = subst (λ xs. IfOk c.in_order.result (λ ts. MatchesOperands c.args.at.now c.in_order.new.at c.args.env.now xs (binds_of c.args.names.now.items) (binds_of c.in_order.new.names.items) (names_seen c.args.seen.now.items) (names_seen c.in_order.new.seen.items) (nodes_of ts.items))) same c.in_order.ensures.carries;
    }

pub in_row-returns : goal.in_row-returns
in_row-returns t c =
    let n = c.args.number in
    let tree = node_view c.args.node.now in
    let os = map operand_view c.deref.result.now in
    let same : map operand_view c.deref.result.now ≡ all_operands c.args.number (node_view c.args.node.now) = ap (map operand_view) c.deref.ensures.value ∙ c.in_ok-parts.ensures in
    record {
      names = slots_bind c.in_order.result n tree os c.args.names.now.items c.in_order.new.names.items same c.in_order.ensures.names;
      typed = subst (λ xs. IfOk c.in_order.result (λ ts. typed_view ts.items ≡ xs)) same c.in_order.ensures.typed;
      goes = c.in_order.ensures.goes;
      carries = subst (λ xs. IfOk c.in_order.result (λ ts. MatchesOperands c.args.at.now c.in_order.new.at c.args.env.now xs (binds_of c.args.names.now.items) (binds_of c.in_order.new.names.items) (names_seen c.args.seen.now.items) (names_seen c.in_order.new.seen.items) (nodes_of ts.items))) same c.in_order.ensures.carries;
    }

pub sides_in-returns : goal.sides_in-returns
sides_in-returns t c =
    let n = c.args.number in
    let tree = node_view c.args.node.now in
    let os = map operand_view c.deref.result.now in
    let same : map operand_view c.deref.result.now ≡ all_operands c.args.number (node_view c.args.node.now) = ap (map operand_view) c.deref.ensures.value ∙ c.in_ok-parts.ensures in
    record {
      sides = subst (λ xs. IfOk c.match_sides.result (λ ss. map side_view ss.items ≡ xs)) (sides_come n tree os same) c.match_sides.ensures.sides;
      goes = c.match_sides.ensures.goes;
      carries = subst (λ xs. IfOk c.match_sides.result (λ ss. MatchesBeside c.args.at.now c.match_sides.new.at c.args.env.now xs (names_seen c.args.seen.now.items) (names_seen c.match_sides.new.seen.items) (map side_of ss.items))) same c.match_sides.ensures.carries;
      parts = subst (λ xs. IfOk c.match_sides.result (λ ss. parts_of_sides ss.items ≡ xs)) same c.match_sides.ensures.parts;
    }

pub parenthesised-returns : goal.parenthesised-returns
parenthesised-returns t c =
    let n = c.args.number in
    let tree = node_view c.args.node.now in
    record {
      names = c.in_ok-typed.ensures.names;
      goes = goes_trans c.args.at.now c.in_brackets.new.at c.note_type.new.self c.in_brackets.ensures.goes (goes_trans c.in_brackets.new.at c.annotated.new.at c.note_type.new.self c.annotated.ensures.goes c.note_type.ensures.goes);
      carries = paren_row c.args.at.now c.in_brackets.new.at c.annotated.new.at c.note_type.new.self c.args.env.now n tree (option_map operand_view c.first_operand.result) c.in_ok-ty.ty (binds_of c.args.names.now.items) (binds_of c.in_brackets.new.names.items) (names_seen c.args.seen.now.items) (names_seen c.in_brackets.new.seen.items) (nodes_of c.in_ok-typed.typed.items) (sym c.first_operand.ensures) c.in_ok-typed.ensures.carries c.in_brackets.ensures.goes
          (λ none o os is. subst (λ ts. (slice_get (nodes_of ts) 0 ≡ Some c.in_ok-ty.ty.0) × (c.annotated.new.at ≡ c.in_brackets.new.at)) c.deref.ensures.value (c.in_ok-ty.ensures.first (none_of operand_view c.first_operand.result none) o os (ap typed_view c.deref.ensures.value ∙ c.in_ok-typed.ensures.typed ∙ is)))
          (λ o os is. subst (λ ts. AsksFirst c.in_brackets.new.at c.annotated.new.at c.args.env.now (option_map operand_view c.first_operand.result) o.at (nodes_of ts) c.in_ok-ty.ty.0) c.deref.ensures.value (c.in_ok-ty.ensures.carries o os (ap typed_view c.deref.ensures.value ∙ c.in_ok-typed.ensures.typed ∙ is)))
          c.annotated.ensures.goes c.in_ok-note_type.ensures.noted c.note_type.ensures.rest;
    }

pub list-returns : goal.list-returns
list-returns t c =
    let n = c.args.number in
    let tree = node_view c.args.node.now in
    let same : typed_view c.deref.result.now ≡ operands_in c.args.number (node_view c.args.node.now) 1 = ap typed_view c.deref.ensures.value ∙ c.in_ok-typed.ensures.typed in
    record {
      names = c.in_ok-typed.ensures.names;
      goes = goes_trans c.args.at.now c.in_brackets.new.at c.note_type.new.self c.in_brackets.ensures.goes (goes_trans c.in_brackets.new.at c.list_of.new.at c.note_type.new.self c.list_of.ensures.goes c.note_type.ensures.goes);
      carries = list_matches c.args.at.now c.in_brackets.new.at c.list_of.new.at c.note_type.new.self c.args.env.now n tree c.in_ok-ty.ty (binds_of c.args.names.now.items) (binds_of c.in_brackets.new.names.items) (names_seen c.args.seen.now.items) (names_seen c.in_brackets.new.seen.items) (nodes_of c.in_ok-typed.typed.items) c.in_ok-typed.ensures.carries c.in_brackets.ensures.goes
          (subst (λ os. EndsPatterns c.in_brackets.new.at c.list_of.new.at c.args.env.now (list_asks (patterns_of c.in_brackets.new.at.item os)) (patterns_of c.in_brackets.new.at.item os) (nodes_of c.in_ok-typed.typed.items) c.in_ok-ty.ty.0) same
          (subst (λ ts. EndsPatterns c.in_brackets.new.at c.list_of.new.at c.args.env.now (list_asks (patterns_of c.in_brackets.new.at.item (typed_view c.deref.result.now))) (patterns_of c.in_brackets.new.at.item (typed_view c.deref.result.now)) (nodes_of ts) c.in_ok-ty.ty.0) c.deref.ensures.value c.in_ok-ty.ensures.carries))
          c.list_of.ensures.goes c.in_ok-note_type.ensures.noted c.note_type.ensures.rest;
    }

pub cons-returns : goal.cons-returns
cons-returns t c =
    let n = c.args.number in
    let tree = node_view c.args.node.now in
    let same : typed_view c.deref.result.now ≡ all_operands c.args.number (node_view c.args.node.now) = ap typed_view c.deref.ensures.value ∙ c.in_ok-typed.ensures.typed in
    record {
      names = c.in_ok-typed.ensures.names;
      goes = goes_trans c.args.at.now c.in_row.new.at c.note_type.new.self c.in_row.ensures.goes (goes_trans c.in_row.new.at c.cons_of.new.at c.note_type.new.self c.cons_of.ensures.goes c.note_type.ensures.goes);
      carries = cons_matches c.args.at.now c.in_row.new.at c.cons_of.new.at c.note_type.new.self c.args.env.now n tree c.in_ok-ty.ty (binds_of c.args.names.now.items) (binds_of c.in_row.new.names.items) (names_seen c.args.seen.now.items) (names_seen c.in_row.new.seen.items) (nodes_of c.in_ok-typed.typed.items) c.in_ok-typed.ensures.carries c.in_row.ensures.goes
          (λ o p is. subst (λ ts. EndsPatterns c.in_row.new.at c.cons_of.new.at c.args.env.now (cons_asks (pattern_of c.in_row.new.at.item o) (pattern_of c.in_row.new.at.item p)) (pattern_of c.in_row.new.at.item o ∷ pattern_of c.in_row.new.at.item p ∷ []) (nodes_of ts) c.in_ok-ty.ty.0) c.deref.ensures.value (c.in_ok-ty.ensures.carries o p (same ∙ is)))
          c.cons_of.ensures.goes c.in_ok-note_type.ensures.noted c.note_type.ensures.rest;
    }

pub tuple-returns : goal.tuple-returns
tuple-returns t c =
    let n = c.args.number in
    record {
      names = c.in_ok-typed.ensures.names;
      goes = goes_trans c.args.at.now c.in_row.new.at c.note_type.new.self c.in_row.ensures.goes (goes_trans c.in_row.new.at c.tuple.new.self c.note_type.new.self c.tuple.ensures.goes c.note_type.ensures.goes);
      carries = tuple_matches c.args.at.now c.in_row.new.at c.tuple.new.self c.note_type.new.self c.args.env.now n (node_view c.args.node.now) c.in_ok-ty.ty (binds_of c.args.names.now.items) (binds_of c.in_row.new.names.items) (names_seen c.args.seen.now.items) (names_seen c.in_row.new.seen.items) (nodes_of c.in_ok-typed.typed.items) c.in_ok-typed.ensures.carries c.in_row.ensures.goes
          (subst (λ ms. All (IsNode c.in_row.new.at.store.nodes) ms → Makes c.in_row.new.at.store c.tuple.new.self.store c.in_ok-ty.ty.0 (node.Tuple ms)) (ap numbers c.deref-2.ensures.value ∙ c.in_ok-types.ensures ∙ ap nodes_of c.deref.ensures.value) c.in_ok-ty.ensures.made)
          c.tuple.ensures.rest c.tuple.ensures.goes c.in_ok-note_type.ensures.noted c.note_type.ensures.rest;
    }

pub named-returns : goal.named-returns
named-returns t c =
    let n = c.args.number in
    let tree = node_view c.args.node.now in
    let ps = parts_of_pattern n tree in
    let names = subst (λ q. Binds c.in_row.new.names.items c.bind_if.new.names.items (name_of q)) c.token.ensures c.in_ok-bind_if.ensures.names in
    record {
      names = binds_both c.args.names.now.items c.in_row.new.names.items c.bind_if.new.names.items (names_of (in_slots ps)) (name_of (token_in tree 2)) c.in_ok-typed.ensures.names names;
      goes = goes_trans c.args.at.now c.in_row.new.at c.bind_if.new.at c.in_row.ensures.goes (goes_trans c.in_row.new.at c.first_type.new.at c.bind_if.new.at c.first_type.ensures.goes c.bind_if.ensures.goes);
      carries = as_matches c.args.at.now c.in_row.new.at c.first_type.new.at c.bind_if.new.at c.args.env.now n tree c.in_ok-ty.ty (binds_of c.args.names.now.items) (binds_of c.in_row.new.names.items) (binds_of c.bind_if.new.names.items) (names_seen c.args.seen.now.items) (names_seen c.in_row.new.seen.items) (names_seen c.bind_if.new.seen.items) (nodes_of c.in_ok-typed.typed.items) c.in_ok-typed.ensures.carries c.in_row.ensures.goes
          (λ o os is. subst (λ ts. (slice_get (nodes_of ts) 0 ≡ Some c.in_ok-ty.ty.0) × (c.first_type.new.at ≡ c.in_row.new.at)) c.deref.ensures.value (c.in_ok-ty.ensures.first o os (ap typed_view c.deref.ensures.value ∙ c.in_ok-typed.ensures.typed ∙ is)))
          (subst (λ q. BindsNameIf q c.first_type.new.at c.bind_if.new.at c.args.env.now c.args.number c.in_ok-ty.ty (binds_of c.in_row.new.names.items) (binds_of c.bind_if.new.names.items) (names_seen c.in_row.new.seen.items) (names_seen c.bind_if.new.seen.items)) c.token.ensures c.in_ok-bind_if.ensures.binds);
    }

pub applied-returns : goal.applied-returns
applied-returns t c =
    let n = c.args.number in
    let tree = node_view c.args.node.now in
    let head = operand_view c.operand_in-head.result in
    let argument = operand_view c.operand_in-argument.result in
    record {
      names = filled_binds n tree argument c.args.names.now.items c.construction.new.names.items c.operand_in-argument.ensures c.in_ok-ty.ensures.names;
      goes = goes_trans c.args.at.now c.construction.new.at c.note_type.new.self c.construction.ensures.goes c.note_type.ensures.goes;
      carries = applied_matches c.args.at.now c.construction.new.at c.note_type.new.self c.args.env.now n tree head argument c.in_ok-ty.ty (binds_of c.args.names.now.items) (binds_of c.construction.new.names.items) (names_seen c.args.seen.now.items) (names_seen c.construction.new.seen.items) c.operand_in-head.ensures c.operand_in-argument.ensures
          c.in_ok-ty.ensures.carries c.construction.ensures.goes c.in_ok-note_type.ensures.noted c.note_type.ensures.rest;
    }

pub construction-returns-in-Some : goal.construction-returns-in-Some
construction-returns-in-Some t c =
    let i = c.args.at.now.item in
    let head = operand_view c.args.head in
    let named : constructor_at head.part ≡ Some (path_view c.in-Some.path) = sym (ap (option_map path_view) (sym c.in-Some.is) ∙ c.in_ok-path.ensures) in
    record {
      names = c.with_argument.ensures.names;
      goes = c.with_argument.ensures.goes;
      carries = IfOk-weaker c.with_argument.result _ _ (λ m h carried. h carried (pattern_of i head) (pattern_of_stands i head).number (head_constructor i head ∙ ap (option_map path_of) named)) c.with_argument.ensures.carries;
    }

pub construction-returns-in_ok-match_pattern-in-None : goal.construction-returns-in_ok-match_pattern-in-None
construction-returns-in_ok-match_pattern-in-None t c =
    let i = c.args.at.now.item in
    let head = operand_view c.args.head in
    let argument = operand_view c.args.argument in
    let none : constructor_at head.part ≡ None = sym (ap (option_map path_view) (sym c.in-None.is) ∙ c.in_ok-path.ensures) in
    record {
      names = on_any c.var.result (Binds c.args.names.now.items c.match_pattern.new.names.items (pattern_names argument)) c.in_ok-match_pattern-in-None.ensures.names;
      goes = goes_trans c.args.at.now c.match_pattern.new.at c.var.new.self c.match_pattern.ensures.goes c.var.ensures.goes;
      carries = IfOk-weaker c.var.result _ _ (λ m made carried.
          nothing_applied c.args.at.now c.match_pattern.new.at c.var.new.self c.args.env.now (pattern_of i head) (pattern_of i argument) _ m.0 (binds_of c.args.names.now.items) (binds_of c.match_pattern.new.names.items) (names_seen c.args.seen.now.items) (names_seen c.match_pattern.new.seen.items)
          (head_constructor i head ∙ ap (option_map path_of) none) (c.in_ok-match_pattern-in-None.ensures.carries carried) c.match_pattern.ensures.goes (var_any c.match_pattern.new.at c.var.new.self made c.var.ensures.rest)) c.var.ensures.made;
    }

pub with_argument-returns : goal.with_argument-returns
with_argument-returns t c =
    let o = operand_view c.args.argument in
    let p = path_view c.args.path.now in
    let found = c.in_ok-found.found in
    let wanted : Option ℕ = option_map (λ (m : NodeRef). m.0) found.argument in
    record {
      names = c.in_ok-match_wanted.ensures.names;
      goes = goes_trans c.args.at.now c.constructor.new.at c.note.new.self c.constructor.ensures.goes (goes_trans c.constructor.new.at c.match_wanted.new.at c.note.new.self c.match_wanted.ensures.goes c.note.ensures.goes);
      carries = λ carried. constructor_applied c.args.at.now c.constructor.new.at c.match_wanted.new.at c.note.new.self c.args.env.now c.args.number (path_as p) (pattern_of c.args.at.now.item o) found.known found.built wanted (record { env = c.args.env.now; ty = Some found.built; names = found.names })
          (binds_of c.args.names.now.items) (binds_of c.match_wanted.new.names.items) (names_seen c.args.seen.now.items) (names_seen c.match_wanted.new.seen.items) refl refl c.in_ok-found.ensures.carries c.constructor.ensures.goes
          (subst (λ i. MatchesWanted c.constructor.new.at c.match_wanted.new.at c.args.env.now (pattern_of i o) (binds_of c.args.names.now.items) (binds_of c.match_wanted.new.names.items) (names_seen c.args.seen.now.items) (names_seen c.match_wanted.new.seen.items) wanted) c.constructor.ensures.goes.item
          (c.in_ok-match_wanted.ensures.carries carried))
          c.match_wanted.ensures.goes c.in_ok-note.ensures.noted c.note.ensures.rest;
    }

pub alternatives-returns-in_err-note_type-clause-goes : goal.alternatives-returns-in_err-note_type-clause-goes
alternatives-returns-in_err-note_type-clause-goes t c =
    goes_trans c.args.at.now c.sides_in.new.at c.note_type.new.self c.sides_in.ensures.goes (goes_trans c.sides_in.new.at c.compare_sides.new.at c.note_type.new.self c.compare_sides.ensures.goes (goes_trans c.compare_sides.new.at c.first_side.new.at c.note_type.new.self c.first_side.ensures.goes c.note_type.ensures.goes))

pub alternatives-returns : goal.alternatives-returns
alternatives-returns t c =
    let n = c.args.number in
    let tree = node_view c.args.node.now in
    record {
      names = subst (λ ss. Binds c.args.names.now.items c.first_side.new.names.items (names_of_first ss)) c.in_ok-sides.ensures.sides c.in_ok-first.ensures.names;
      goes = goes_trans c.args.at.now c.sides_in.new.at c.note_type.new.self c.sides_in.ensures.goes (goes_trans c.sides_in.new.at c.compare_sides.new.at c.note_type.new.self c.compare_sides.ensures.goes (goes_trans c.compare_sides.new.at c.first_side.new.at c.note_type.new.self c.first_side.ensures.goes c.note_type.ensures.goes));
      carries = or_matches c.args.at.now c.sides_in.new.at c.first_side.new.at c.note_type.new.self c.args.env.now n tree c.in_ok-first.first (binds_of c.args.names.now.items) (binds_of c.first_side.new.names.items) (names_seen c.args.seen.now.items) (names_seen c.sides_in.new.seen.items) (map side_of c.in_ok-sides.sides.items) c.in_ok-sides.ensures.carries c.sides_in.ensures.goes
          (sides_compared c.sides_in.new.at c.compare_sides.new.at c.first_side.new.at c.args.env.now (all_operands n tree) c.in_ok-sides.sides.items c.in_ok-first.first.0 c.args.names.now.items c.first_side.new.names.items c.in_ok-sides.ensures.parts
          (subst (λ ss. (i : ℕ) (x : Side) (xs : List Side) (o : Numbered) (os : List Numbered) → map side_of ss ≡ x ∷ xs → parts_of_sides ss ≡ o ∷ os → AsksLater c.sides_in.new.at c.compare_sides.new.at c.args.env.now x xs (patterns_of i os)) c.deref.ensures.value c.in_ok-compare_sides.ensures.carries)
          c.in_ok-first.ensures.first)
          (goes_trans c.sides_in.new.at c.compare_sides.new.at c.first_side.new.at c.compare_sides.ensures.goes c.first_side.ensures.goes) c.in_ok-note_type.ensures.noted c.note_type.ensures.rest;
    }

pub record-returns : goal.record-returns
record-returns t c =
    let n = c.args.number in
    let tree = node_view c.args.node.now in
    let os = map operand_view c.deref.result.now in
    let same : map operand_view c.deref.result.now ≡ operands_in c.args.number (node_view c.args.node.now) 1 = ap (map operand_view) c.deref.ensures.value ∙ c.in_ok-fields.ensures in
    record {
      names = record_binds n tree os c.args.names.now.items c.match_record.new.names.items same c.in_ok-ty.ensures.names;
      goes = goes_trans c.args.at.now c.match_record.new.at c.note_type.new.self c.match_record.ensures.goes c.note_type.ensures.goes;
      carries =
          let xs = binds_of c.args.names.now.items in
          let ys = binds_of c.match_record.new.names.items in
          let before = names_seen c.args.seen.now.items in
          let after = names_seen c.match_record.new.seen.items in
          record_matches c.args.at.now c.match_record.new.at c.note_type.new.self c.args.env.now n tree c.in_ok-ty.ty xs ys before after
          (subst (λ qs. All IsCarriedField qs → MatchesRecord c.args.at.now c.match_record.new.at c.args.env.now (fields_of c.args.at.now.item qs) xs ys before after c.in_ok-ty.ty.0) same c.in_ok-ty.ensures.carries) c.match_record.ensures.goes c.in_ok-note_type.ensures.noted c.note_type.ensures.rest;
    }

pub match_wanted-returns : goal.match_wanted-returns
match_wanted-returns t c = record {
  names = on_any c.equal_if.result (Binds c.args.names.now.items c.match_pattern.new.names.items (pattern_names (operand_view c.args.p))) c.in_ok-found.ensures.names;
  goes = goes_trans c.args.at.now c.match_pattern.new.at c.equal_if.new.at c.match_pattern.ensures.goes c.equal_if.ensures.goes;
  carries = on_ok c.equal_if.result _ _ (λ asked carried.
      wanted_matches c.args.at.now c.match_pattern.new.at c.equal_if.new.at c.args.env.now (operand_view c.args.p) (binds_of c.args.names.now.items) (binds_of c.match_pattern.new.names.items) (names_seen c.args.seen.now.items) (names_seen c.match_pattern.new.seen.items) c.in_ok-found.found.0 c.args.wanted
      (c.in_ok-found.ensures.carries carried) c.match_pattern.ensures.goes asked) c.equal_if.ensures.carries;
}

pub match_written-returns : goal.match_written-returns
match_written-returns t c =
    record {
      names = c.match_wanted.ensures.names;
      found = on_any c.match_wanted.result _ (ap here_of c.begin_field.ensures.found);
      carries = written_done c.match_wanted.result c.args.at.now c.begin_field.new.at c.note_label.new.at c.match_wanted.new.at c.args.env.now c.args.field.number c.args.begun.now.found (path_view c.in_ok-label.label) (path_at (operand_view c.args.field).part) (operand_view c.args.part) c.in_ok-wanted.wanted (binds_of c.args.names.now.items) (binds_of c.match_wanted.new.names.items) (names_seen c.args.seen.now.items) (names_seen c.match_wanted.new.seen.items) c.args.begun.now.labels.items c.begin_field.new.fields.labels.items
          c.in_ok-label.ensures c.in_ok-wanted.ensures.carries c.begin_field.ensures.goes c.in_ok-note_label.ensures.carries c.note_label.ensures.goes c.in_ok-wanted.ensures.seen c.match_wanted.ensures.carries;
      goes = goes_trans c.args.at.now c.begin_field.new.at c.match_wanted.new.at c.begin_field.ensures.goes (goes_trans c.begin_field.new.at c.note_label.new.at c.match_wanted.new.at c.note_label.ensures.goes c.match_wanted.ensures.goes);
    }

pub match_record-returns : goal.match_record-returns
match_record-returns t c =
    let os = map operand_view c.args.fields.now in
    let read = goes_trans c.note_missing.new.at c.record_of_fields.new.at c.type_or_var.new.at c.record_of_fields.ensures.goes c.type_or_var.ensures.goes in
    record {
      names = c.in_ok-match_fields.ensures.names;
      goes = goes_trans c.args.at.now c.note_missing.new.at c.match_fields.new.at c.note_missing.ensures.goes (goes_trans c.note_missing.new.at c.type_or_var.new.at c.match_fields.new.at read c.match_fields.ensures.goes);
      carries =
          let e = c.record_of_fields.new.at in
          let v = c.type_or_var.new.at in
          record_done c.args.at.now c.note_missing.new.at e v c.match_fields.new.at c.args.env.now os c.in_ok-found.found c.in_ok-ty.ty (binds_of c.args.names.now.items) (binds_of c.match_fields.new.names.items) (names_seen c.args.seen.now.items) (names_seen c.match_fields.new.seen.items)
          c.in_ok-note_missing.ensures.notes c.note_missing.ensures.goes c.in_ok-found.ensures.carries c.record_of_fields.ensures.goes (subst (λ o. GivenOrNew o e v c.in_ok-ty.ty) c.ty.ensures c.in_ok-ty.ensures.ty) (λ same. c.in_ok-ty.ensures.carries (c.ty.ensures ∙ same)) c.type_or_var.ensures.goes
          c.in_ok-match_fields.ensures.carries;
    }

pub match_record-returns-in_err-match_fields-clause-goes : goal.match_record-returns-in_err-match_fields-clause-goes
match_record-returns-in_err-match_fields-clause-goes t c =
    let read = goes_trans c.note_missing.new.at c.record_of_fields.new.at c.type_or_var.new.at c.record_of_fields.ensures.goes c.type_or_var.ensures.goes in
    goes_trans c.args.at.now c.note_missing.new.at c.match_fields.new.at c.note_missing.ensures.goes (goes_trans c.note_missing.new.at c.type_or_var.new.at c.match_fields.new.at read c.match_fields.ensures.goes)

pub match_side-returns-clause-side : goal.match_side-returns-clause-side
match_side-returns-clause-side t c =
    side_is (record { part = c.args.part; ty = c.in_ok-ty.ty; names = c.match_pattern.new.names }) (operand_view c.args.part) c.new-names.result.items c.new-names.ensures.items refl c.in_ok-ty.ensures.names

pub match_side-returns-clause-carries : goal.match_side-returns-clause-carries
match_side-returns-clause-carries t c =
    subst (λ bs. MatchesOperand c.args.at.now c.match_pattern.new.at c.args.env.now (operand_view c.args.part) (binds_of bs) (binds_of c.match_pattern.new.names.items) (names_seen c.args.seen.now.items) (names_seen c.match_pattern.new.seen.items) c.in_ok-ty.ty.0) c.new-names.ensures.items c.in_ok-ty.ensures.carries

pub in_order-loop-part-init : goal.in_order-loop-part-init
in_order-loop-part-init t c =
    let all = c.args.parts.now in
    record {
      goes = goes_refl c.args.at.now;
      names = refl;
      typed = ap (λ ts. typed_view ts ++ map operand_view all) c.new-typed.ensures.items;
      carries = λ carried. in_order_none c.args.at.now c.args.env.now (as_patterns c.args.at.now.item all) (binds_of c.args.names.now.items) (names_seen c.args.seen.now.items) (nodes_of c.new-typed.result.items) (ap nodes_of c.new-typed.ensures.items);
    }

pub match_sides-loop-part-init : goal.match_sides-loop-part-init
match_sides-loop-part-init t c =
    let all = c.args.parts.now in
    record {
      goes = goes_refl c.args.at.now;
      sides = ap (λ ss. map side_view ss ++ map side_at (map operand_view all)) c.new-sides.ensures.items;
      carries = λ carried. beside_none c.args.at.now c.args.env.now (as_patterns c.args.at.now.item all) c.args.seen.now.items c.new-all.result.items c.new-sides.result.items c.new-all.ensures.items c.new-sides.ensures.items;
      parts = ap (λ ss. parts_of_sides ss ++ map operand_view all) c.new-sides.ensures.items;
    }

pub alternatives-returns-in_err-compare_sides-clause-goes : goal.alternatives-returns-in_err-compare_sides-clause-goes
alternatives-returns-in_err-compare_sides-clause-goes t c = goes_trans c.args.at.now c.sides_in.new.at c.compare_sides.new.at c.sides_in.ensures.goes c.compare_sides.ensures.goes

pub alternatives-returns-in_err-first-clause-goes : goal.alternatives-returns-in_err-first-clause-goes
alternatives-returns-in_err-first-clause-goes t c = goes_trans c.args.at.now c.compare_sides.new.at c.first_side.new.at (goes_trans c.args.at.now c.sides_in.new.at c.compare_sides.new.at c.sides_in.ensures.goes c.compare_sides.ensures.goes) c.first_side.ensures.goes

pub alternatives-returns-in_err-sides-clause-goes : goal.alternatives-returns-in_err-sides-clause-goes
alternatives-returns-in_err-sides-clause-goes t c = c.sides_in.ensures.goes

pub applied-returns-in_err-note_type-clause-goes : goal.applied-returns-in_err-note_type-clause-goes
applied-returns-in_err-note_type-clause-goes t c = goes_trans c.args.at.now c.construction.new.at c.note_type.new.self c.construction.ensures.goes c.note_type.ensures.goes

pub applied-returns-in_err-ty-clause-goes : goal.applied-returns-in_err-ty-clause-goes
applied-returns-in_err-ty-clause-goes t c = c.construction.ensures.goes

pub cons-returns-in_err-note_type-clause-goes : goal.cons-returns-in_err-note_type-clause-goes
cons-returns-in_err-note_type-clause-goes t c = goes_trans c.args.at.now c.cons_of.new.at c.note_type.new.self (goes_trans c.args.at.now c.in_row.new.at c.cons_of.new.at c.in_row.ensures.goes c.cons_of.ensures.goes) c.note_type.ensures.goes

pub cons-returns-in_err-ty-clause-goes : goal.cons-returns-in_err-ty-clause-goes
cons-returns-in_err-ty-clause-goes t c = goes_trans c.args.at.now c.in_row.new.at c.cons_of.new.at c.in_row.ensures.goes c.cons_of.ensures.goes

pub cons-returns-in_err-typed-clause-goes : goal.cons-returns-in_err-typed-clause-goes
cons-returns-in_err-typed-clause-goes t c = c.in_row.ensures.goes

pub construction-returns-in_err-inside-in-None-clause-goes : goal.construction-returns-in_err-inside-in-None-clause-goes
construction-returns-in_err-inside-in-None-clause-goes t c = goes_refl c.args.at.now

pub construction-returns-in_err-match_pattern-in-None-clause-goes : goal.construction-returns-in_err-match_pattern-in-None-clause-goes
construction-returns-in_err-match_pattern-in-None-clause-goes t c = c.match_pattern.ensures.goes

pub construction-returns-in_err-path-clause-goes : goal.construction-returns-in_err-path-clause-goes
construction-returns-in_err-path-clause-goes t c = goes_refl c.args.at.now

pub in_brackets-returns-in_err-parts-clause-goes : goal.in_brackets-returns-in_err-parts-clause-goes
in_brackets-returns-in_err-parts-clause-goes t c = goes_refl c.args.at.now

pub in_order-returns-in_err-inside-clause-goes : goal.in_order-returns-in_err-inside-clause-goes
in_order-returns-in_err-inside-clause-goes t c = c.loop-part.invariant.goes

pub in_order-returns-in_err-push-clause-goes : goal.in_order-returns-in_err-push-clause-goes
in_order-returns-in_err-push-clause-goes t c = goes_trans c.args.at.now c.loop-part.at c.match_pattern.new.at c.loop-part.invariant.goes c.match_pattern.ensures.goes

pub in_order-returns-in_err-ty-clause-goes : goal.in_order-returns-in_err-ty-clause-goes
in_order-returns-in_err-ty-clause-goes t c = goes_trans c.args.at.now c.loop-part.at c.match_pattern.new.at c.loop-part.invariant.goes c.match_pattern.ensures.goes

pub in_row-returns-in_err-parts-clause-goes : goal.in_row-returns-in_err-parts-clause-goes
in_row-returns-in_err-parts-clause-goes t c = goes_refl c.args.at.now

pub list-returns-in_err-note_type-clause-goes : goal.list-returns-in_err-note_type-clause-goes
list-returns-in_err-note_type-clause-goes t c = goes_trans c.args.at.now c.list_of.new.at c.note_type.new.self (goes_trans c.args.at.now c.in_brackets.new.at c.list_of.new.at c.in_brackets.ensures.goes c.list_of.ensures.goes) c.note_type.ensures.goes

pub list-returns-in_err-ty-clause-goes : goal.list-returns-in_err-ty-clause-goes
list-returns-in_err-ty-clause-goes t c = goes_trans c.args.at.now c.in_brackets.new.at c.list_of.new.at c.in_brackets.ensures.goes c.list_of.ensures.goes

pub list-returns-in_err-typed-clause-goes : goal.list-returns-in_err-typed-clause-goes
list-returns-in_err-typed-clause-goes t c = c.in_brackets.ensures.goes

pub match_fields-returns-in_err-match_field-clause-goes : goal.match_fields-returns-in_err-match_field-clause-goes
match_fields-returns-in_err-match_field-clause-goes t c = goes_trans c.args.at.now c.loop-field.at c.match_field.new.at c.loop-field.invariant.goes c.match_field.ensures.goes

pub match_record-returns-in_err-found-clause-goes : goal.match_record-returns-in_err-found-clause-goes
match_record-returns-in_err-found-clause-goes t c = goes_trans c.args.at.now c.note_missing.new.at c.record_of_fields.new.at c.note_missing.ensures.goes c.record_of_fields.ensures.goes

pub match_record-returns-in_err-note_missing-clause-goes : goal.match_record-returns-in_err-note_missing-clause-goes
match_record-returns-in_err-note_missing-clause-goes t c = c.note_missing.ensures.goes

pub match_record-returns-in_err-ty-clause-goes : goal.match_record-returns-in_err-ty-clause-goes
match_record-returns-in_err-ty-clause-goes t c = goes_trans c.args.at.now c.record_of_fields.new.at c.type_or_var.new.at (goes_trans c.args.at.now c.note_missing.new.at c.record_of_fields.new.at c.note_missing.ensures.goes c.record_of_fields.ensures.goes) c.type_or_var.ensures.goes

pub match_side-returns-clause-goes : goal.match_side-returns-clause-goes
match_side-returns-clause-goes t c = c.match_pattern.ensures.goes

pub match_side-returns-in_err-ty-clause-goes : goal.match_side-returns-in_err-ty-clause-goes
match_side-returns-in_err-ty-clause-goes t c = c.match_pattern.ensures.goes

pub match_sides-returns-in_err-append-clause-goes : goal.match_sides-returns-in_err-append-clause-goes
match_sides-returns-in_err-append-clause-goes t c = c.loop-part.invariant.goes

pub match_sides-returns-in_err-inside-clause-goes : goal.match_sides-returns-in_err-inside-clause-goes
match_sides-returns-in_err-inside-clause-goes t c = c.loop-part.invariant.goes

pub match_sides-returns-in_err-keep_apart-clause-goes : goal.match_sides-returns-in_err-keep_apart-clause-goes
match_sides-returns-in_err-keep_apart-clause-goes t c = goes_trans c.args.at.now c.loop-part.at c.match_side.new.at c.loop-part.invariant.goes c.match_side.ensures.goes

pub match_sides-returns-in_err-push-clause-goes : goal.match_sides-returns-in_err-push-clause-goes
match_sides-returns-in_err-push-clause-goes t c = goes_trans c.args.at.now c.loop-part.at c.match_side.new.at c.loop-part.invariant.goes c.match_side.ensures.goes

pub match_sides-returns-in_err-side-clause-goes : goal.match_sides-returns-in_err-side-clause-goes
match_sides-returns-in_err-side-clause-goes t c = goes_trans c.args.at.now c.loop-part.at c.match_side.new.at c.loop-part.invariant.goes c.match_side.ensures.goes

pub match_wanted-returns-in_err-found-clause-goes : goal.match_wanted-returns-in_err-found-clause-goes
match_wanted-returns-in_err-found-clause-goes t c = c.match_pattern.ensures.goes

pub match_written-returns-in_err-inside-clause-goes : goal.match_written-returns-in_err-inside-clause-goes
match_written-returns-in_err-inside-clause-goes t c = goes_trans c.args.at.now c.begin_field.new.at c.note_label.new.at c.begin_field.ensures.goes c.note_label.ensures.goes

pub match_written-returns-in_err-label-clause-goes : goal.match_written-returns-in_err-label-clause-goes
match_written-returns-in_err-label-clause-goes t c = goes_refl c.args.at.now

pub match_written-returns-in_err-note_label-clause-goes : goal.match_written-returns-in_err-note_label-clause-goes
match_written-returns-in_err-note_label-clause-goes t c = goes_trans c.args.at.now c.begin_field.new.at c.note_label.new.at c.begin_field.ensures.goes c.note_label.ensures.goes

pub match_written-returns-in_err-wanted-clause-goes : goal.match_written-returns-in_err-wanted-clause-goes
match_written-returns-in_err-wanted-clause-goes t c = c.begin_field.ensures.goes

pub named-returns-in_err-bind_if-clause-goes : goal.named-returns-in_err-bind_if-clause-goes
named-returns-in_err-bind_if-clause-goes t c = goes_trans c.args.at.now c.first_type.new.at c.bind_if.new.at (goes_trans c.args.at.now c.in_row.new.at c.first_type.new.at c.in_row.ensures.goes c.first_type.ensures.goes) c.bind_if.ensures.goes

pub named-returns-in_err-ty-clause-goes : goal.named-returns-in_err-ty-clause-goes
named-returns-in_err-ty-clause-goes t c = goes_trans c.args.at.now c.in_row.new.at c.first_type.new.at c.in_row.ensures.goes c.first_type.ensures.goes

pub named-returns-in_err-typed-clause-goes : goal.named-returns-in_err-typed-clause-goes
named-returns-in_err-typed-clause-goes t c = c.in_row.ensures.goes

pub parenthesised-returns-in_err-note_type-clause-goes : goal.parenthesised-returns-in_err-note_type-clause-goes
parenthesised-returns-in_err-note_type-clause-goes t c = goes_trans c.args.at.now c.annotated.new.at c.note_type.new.self (goes_trans c.args.at.now c.in_brackets.new.at c.annotated.new.at c.in_brackets.ensures.goes c.annotated.ensures.goes) c.note_type.ensures.goes

pub parenthesised-returns-in_err-ty-clause-goes : goal.parenthesised-returns-in_err-ty-clause-goes
parenthesised-returns-in_err-ty-clause-goes t c = goes_trans c.args.at.now c.in_brackets.new.at c.annotated.new.at c.in_brackets.ensures.goes c.annotated.ensures.goes

pub parenthesised-returns-in_err-typed-clause-goes : goal.parenthesised-returns-in_err-typed-clause-goes
parenthesised-returns-in_err-typed-clause-goes t c = c.in_brackets.ensures.goes

pub record-returns-in_err-fields-clause-goes : goal.record-returns-in_err-fields-clause-goes
record-returns-in_err-fields-clause-goes t c = goes_refl c.args.at.now

pub record-returns-in_err-note_type-clause-goes : goal.record-returns-in_err-note_type-clause-goes
record-returns-in_err-note_type-clause-goes t c = goes_trans c.args.at.now c.match_record.new.at c.note_type.new.self c.match_record.ensures.goes c.note_type.ensures.goes

pub record-returns-in_err-ty-clause-goes : goal.record-returns-in_err-ty-clause-goes
record-returns-in_err-ty-clause-goes t c = c.match_record.ensures.goes

pub sides_in-returns-in_err-parts-clause-goes : goal.sides_in-returns-in_err-parts-clause-goes
sides_in-returns-in_err-parts-clause-goes t c = goes_refl c.args.at.now

pub tuple-returns-in_err-note_type-clause-goes : goal.tuple-returns-in_err-note_type-clause-goes
tuple-returns-in_err-note_type-clause-goes t c = goes_trans c.args.at.now c.tuple.new.self c.note_type.new.self (goes_trans c.args.at.now c.in_row.new.at c.tuple.new.self c.in_row.ensures.goes c.tuple.ensures.goes) c.note_type.ensures.goes

pub tuple-returns-in_err-ty-clause-goes : goal.tuple-returns-in_err-ty-clause-goes
tuple-returns-in_err-ty-clause-goes t c = goes_trans c.args.at.now c.in_row.new.at c.tuple.new.self c.in_row.ensures.goes c.tuple.ensures.goes

pub tuple-returns-in_err-typed-clause-goes : goal.tuple-returns-in_err-typed-clause-goes
tuple-returns-in_err-typed-clause-goes t c = c.in_row.ensures.goes

pub tuple-returns-in_err-types-clause-goes : goal.tuple-returns-in_err-types-clause-goes
tuple-returns-in_err-types-clause-goes t c = c.in_row.ensures.goes

pub with_argument-returns-in_err-found-clause-goes : goal.with_argument-returns-in_err-found-clause-goes
with_argument-returns-in_err-found-clause-goes t c = c.constructor.ensures.goes

pub with_argument-returns-in_err-inside-clause-goes : goal.with_argument-returns-in_err-inside-clause-goes
with_argument-returns-in_err-inside-clause-goes t c = c.constructor.ensures.goes

pub with_argument-returns-in_err-match_wanted-clause-goes : goal.with_argument-returns-in_err-match_wanted-clause-goes
with_argument-returns-in_err-match_wanted-clause-goes t c = goes_trans c.args.at.now c.constructor.new.at c.match_wanted.new.at c.constructor.ensures.goes c.match_wanted.ensures.goes

pub with_argument-returns-in_err-note-clause-goes : goal.with_argument-returns-in_err-note-clause-goes
with_argument-returns-in_err-note-clause-goes t c = goes_trans c.args.at.now c.match_wanted.new.at c.note.new.self (goes_trans c.args.at.now c.constructor.new.at c.match_wanted.new.at c.constructor.ensures.goes c.match_wanted.ensures.goes) c.note.ensures.goes
