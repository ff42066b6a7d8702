-- Each typed node of a text without modules is told with its type.
use Rattle.std.proofs.Common.{◌≡◌, ◌∙◌, inl, inr, ℕ, ◌+◌, ◌<◌, ◌≤◌, ◌==◌, Bool, true, false, ◌&&◌, ◌||◌, not, List, [], ◌∷◌, ◌++◌, Option, Some, None, refl, sym, ap, subst, arith, if◌then◌else◌}
use Rattle.std.specs.Prelude.{slice_get, nat_eq, nat_le}
use Rattle.std.specs.List.{list_any, list_all}
use Rattle.std.proofs.lemmas.Bool.{eqb-true, leb-true, and_parts}
use Rattle.token_model.specs.Kinds.{Tok}
use Rattle.tree_model.specs.Rows.{Row, program_row, let_row, type_row, exception_row, break_row, decl_row, head_row, alias_row, variant_row, record_row, con_row, label_row, tvar_row, tcon_row, tparen_row, tapp_row, ttuple_row, tarrow_row, qfield_row, binding_row, case_row, ffield_row, erecord_row}
use Rattle.tree_model.specs.Slots.{is_operand}
use Rattle.tree_model.specs.Trees.{Place, Tree, Forest, Part, node, no_parts, part, taken, inner, missing, part_size, part_yield}
use Rattle.tree_model.specs.Nodes.{id, holds}
use Rattle.query_model.specs.Outlines.{is_slot}
use Rattle.query_model.specs.TypedNodes.{Typed, typed_if, typed_in, typed_among, typed_part, typed_items, typed_at, is_typed_row, is_expression_slot, expression_slots, label_slot, last_name_slot, has_name_in, has_taken_in}
use Rattle.signature_model.specs.Entries.{Environment}
use Rattle.typing_model.specs.Demands.{Site, treated}
use Rattle.typing_model.specs.Contexts.{Context, Choice, under}
use Rattle.typing_model.specs.Parts.{Expression, Pattern, Item, Seen, seen_too, no_names, Child, in_slot, token_in, no_expression_at, place_of}
use Rattle.typing_model.specs.Bindings.{names_of_group}
use Rattle.typing_model.specs.Expressions.{expression_row, bindings_in, is_some}
use Rattle.typing_model.specs.Patterns.{pattern_row}
use Rattle.typing_model.specs.Items.{inside_item, names_made, items_ask}
use Rattle.typing_model.specs.Modules.{item_row}
use Rattle.typing_model.specs.Meanings.{binding_of, case_of, field_of, field_pattern_of, recorded_expression, recorded_pattern, recorded_item, node_child, leaf_child, children_of, child_of, tree_child, item_base, items_from}
use Rattle.typing_model.specs.Typings.{outermost, conditions_of}
use Rattle.typing_model.specs.First.{program_items}
use Rattle.typing_model.specs.Plain.{is_plain_row, has_no_modules, has_lets_alone}
use Rattle.typed_model.specs.Shown.{number_of, IsToldTyped}
use Rattle.typing_laws.proofs.Bools.{no_yes, and_cases}
use Rattle.typing_laws.proofs.Settled.{lets_plain}
use Rattle.operand_laws.specs.Formed.{row_of, may_repeat, next_slot, is_in, is_in_order}
use Rattle.operand_laws.proofs.Children.{slot_children}
use Rattle.operand_laws.proofs.Standing.{expression_row_stands}
use Rattle.scope_laws.proofs.Heard.{types_in, told_first, told_among, Tells, AlwaysTells, nothing, untold, left, skip, both, join, AreAt, at_told, Heards, no_one, one_and, MayBe, absent, there, AtMostOne}
use Rattle.scope_laws.proofs.HeardPatterns.{HeardPattern, no_head, HeardFieldPattern}
use Rattle.scope_laws.proofs.HeardPatterns as patterns
use Rattle.scope_laws.proofs.HeardExpressions.{IsUnread, HeardExpression, head_too}
use Rattle.scope_laws.proofs.HeardExpressions as expressions
use Rattle.scope_laws.proofs.HeardRecords.{HeardField, HeardCase, HeardBinding, bindings_heard}
use Rattle.scope_laws.proofs.HeardRows.{is_declared, HeardAs, HeardChild, covered, bindings_slot, Once, RecordApart, expression_row_heard, pattern_row_heard, type_row_heard, declared_row_heard, binding_row_heard, case_row_heard, field_row_heard, field_pattern_row_heard, constructor_row_heard}
use Rattle.scope_laws.proofs.Labels.{none_taken, path_row, unread}
use Rattle.scope_laws.specs.Sorts.{Sort, an_expression, a_pattern, a_constructor, a_type, a_binding, a_case, a_field, a_field_pattern, a_declaration, a_head, a_right_side, a_kind, a_declared_constructor, a_declared_label, no_sort, sort_in, is_kind_row, is_of, IsApart, IsSorted, AreSorted, IsPartSorted, AreItemsSorted}
use Rattle.scope_laws.proofs.ParsedSorts.{program_sorted}

-- the slot after one isn't lower
next_higher : (r : Row) (s : ℕ) → s ≤ next_slot r s
next_higher r s = by (may_repeat r s)
  where
    by : (b : Bool) → s ≤ (if b then s else s + 1)
    by true = omega arith
    by false = omega arith

-- no part is in a slot below all that may come
none_lower : (r : Row) (s low n : ℕ) (ps : Forest) → is_operand r s ≡ true → s < low → is_in_order r low ps ≡ true → in_slot s (children_of n r ps) ≡ []
none_lower r s low n no_parts takes lt h = refl
none_lower r s low n (part q p ps) takes lt h = by (q == s) refl (is_operand r q) refl h (λ m more. none_lower r s m (n + part_size r q p) ps takes more)
  where
    by : (b : Bool) → (q == s) ≡ b → (d : Bool) → is_operand r q ≡ d → (if d then nat_le low q && is_in_order r (next_slot r q) ps else is_in_order r low ps) ≡ true →
        ((m : ℕ) → s < m → is_in_order r m ps ≡ true → in_slot s (children_of (n + part_size r q p) r ps) ≡ []) → in_slot s (children_of n r (part q p ps)) ≡ []
    by true e false f h later = absurd (no_yes (sym f ∙ subst (λ k. is_operand r k ≡ true) (sym (eqb-true q s e)) takes))
    by true e true f h later = let both = and_parts (nat_le low q) (is_in_order r (next_slot r q) ps) h in let le : low ≤ q = leb-true low q both.0 in let same : q ≡ s = eqb-true q s e in absurd (omega arith)
    by false e true f h later =
        let both = and_parts (nat_le low q) (is_in_order r (next_slot r q) ps) h in
        let le : low ≤ q = leb-true low q both.0 in
        let next : q ≤ next_slot r q = next_higher r q in
        slot_children n q s p (children_of (n + part_size r q p) r ps) false e ∙ later (next_slot r q) (omega arith) both.1
    by false e false f h later = slot_children n q s p (children_of (n + part_size r q p) r ps) false e ∙ later low lt h

-- a slot for operands that doesn't repeat has at most one part
at_most_one : (r : Row) (s low n : ℕ) (ps : Forest) → is_operand r s ≡ true → may_repeat r s ≡ false → is_in_order r low ps ≡ true → AtMostOne (in_slot s (children_of n r ps))
at_most_one r s low n no_parts takes once h = tt
at_most_one r s low n (part q p ps) takes once h = by (q == s) refl (is_operand r q) refl h (λ m more. at_most_one r s m (n + part_size r q p) ps takes once more)
  where
    next : q ≡ s → next_slot r q ≡ s + 1
    next same = rw (same, once) refl

    by : (b : Bool) → (q == s) ≡ b → (d : Bool) → is_operand r q ≡ d → (if d then nat_le low q && is_in_order r (next_slot r q) ps else is_in_order r low ps) ≡ true →
        ((m : ℕ) → is_in_order r m ps ≡ true → AtMostOne (in_slot s (children_of (n + part_size r q p) r ps))) → AtMostOne (in_slot s (children_of n r (part q p ps)))
    by true e false f h later = absurd (no_yes (sym f ∙ subst (λ k. is_operand r k ≡ true) (sym (eqb-true q s e)) takes))
    by true e true f h later =
        let both = and_parts (nat_le low q) (is_in_order r (next_slot r q) ps) h in
        let behind : is_in_order r (s + 1) ps ≡ true = subst (λ m. is_in_order r m ps ≡ true) (next (eqb-true q s e)) both.1 in
        let none = none_lower r s (s + 1) (n + part_size r q p) ps takes (omega arith) behind in
        subst AtMostOne (sym (slot_children n q s p (children_of (n + part_size r q p) r ps) true e ∙ ap (λ xs. child_of n q p ∷ xs) none)) tt
    by false e true f h later =
        subst AtMostOne (sym (slot_children n q s p (children_of (n + part_size r q p) r ps) false e)) (later (next_slot r q) (and_parts (nat_le low q) (is_in_order r (next_slot r q) ps) h).1)
    by false e false f h later = subst AtMostOne (sym (slot_children n q s p (children_of (n + part_size r q p) r ps) false e)) (later low h)

-- a slot that no part is in
empty_in : (r : Row) (s n : ℕ) (ps : Forest) → is_in s ps ≡ false → in_slot s (children_of n r ps) ≡ []
empty_in r s n no_parts h = refl
empty_in r s n (part q p ps) h = by (q == s) refl h (empty_in r s (n + part_size r q p) ps)
  where
    by : (b : Bool) → (q == s) ≡ b → (if b then true else is_in s ps) ≡ false → (is_in s ps ≡ false → in_slot s (children_of (n + part_size r q p) r ps) ≡ []) → in_slot s (children_of n r (part q p ps)) ≡ []
    by true e h later = absurd (no_yes (sym h))
    by false e h later = slot_children n q s p (children_of (n + part_size r q p) r ps) false e ∙ later h

-- a record has the value of a first part or the word `with`, and not both; without the word its first part may be a label
record_apart : (r : Row) (n : ℕ) (ps : Forest) → IsApart r ps → RecordApart r (label_slot r (has_taken_in 4 ps)) (children_of n r ps)
unfolding label_slot
record_apart erecord_row n ps h = ((elim h [ inl i ↦ inl (empty_in erecord_row 3 n ps i) | inr i ↦ inr (empty_in erecord_row 4 n ps i) ]), λ e. rw (none_taken 4 erecord_row n ps e) refl)
record_apart _ n ps h = tt

-- whether a sort is that of expressions
abbrev is_an_expression : Sort → Bool
is_an_expression an_expression = true
is_an_expression _ = false

-- the slots of a row that take expressions are of this sort
slots_are : (r : Row) → list_all (λ s. is_an_expression (sort_in r s)) (expression_slots r) ≡ true
slots_are program_row = refl
slots_are _ = refl

-- what holds of each of some slots holds of one of them
one_of : (test : ℕ → Bool) (s : ℕ) (ss : List ℕ) → list_any (nat_eq s) ss ≡ true → list_all test ss ≡ true → test s ≡ true
one_of test s [] h all = absurd (no_yes h)
one_of test s (q ∷ ss) h all = by (nat_eq s q) refl h (and_parts (test q) (list_all test ss) all) (one_of test s ss)
  where
    by : (b : Bool) → nat_eq s q ≡ b → (b || list_any (nat_eq s) ss) ≡ true → (test q ≡ true) × (list_all test ss ≡ true) → (list_any (nat_eq s) ss ≡ true → list_all test ss ≡ true → test s ≡ true) → test s ≡ true
    by true e h all later = subst (λ q. test q ≡ true) (sym (eqb-true s q e)) all.0
    by false e h all later = later h all.1

-- which is the only one
only_expression : (k : Sort) → is_an_expression k ≡ true → an_expression ≡ k
only_expression an_expression h = refl
only_expression _ h = absurd (no_yes h)

-- so a slot that takes an expression is of this sort
slot_takes : (r : Row) (s : ℕ) → is_expression_slot r s ≡ true → an_expression ≡ sort_in r s
unfolding is_expression_slot
slot_takes r s h = only_expression (sort_in r s) (one_of (λ s. is_an_expression (sort_in r s)) s (expression_slots r) h (slots_are r))

-- a typed node of its own
own_at : (b : Bool) (o i n N : ℕ) (p : Place) → item_base i + n ≡ N → AreAt N (typed_if b o (id i n) p)
own_at b o i n N p e = by (b && holds o p)
  where
    by : (d : Bool) → AreAt N (if d then record { id = id i n; span = p } ∷ [] else [])
    by true = (e, tt)
    by false = tt

-- a row that is not typed has no node of its own
own_none : (a b : Bool) (o i n : ℕ) (p : Place) → a ≡ false → typed_if (a && b) o (id i n) p ≡ []
own_none a b o i n p e = rw (e) refl

-- a part that tells its own node first
expression_told : {ts : List Typed} (own : List Typed) (n : ℕ) (e : Expression) → AreAt n own → e.node ≡ n → HeardExpression ts e → HeardExpression (own ++ ts) (recorded_expression n e)
expression_told {ts} own n e at is s = record {
  types = λ c. both (at_told n at (told_first n c (e.typed c))) (skip (skip (s.types c)));
  negates = λ c. both (at_told n at (told_first n c (e.negated c))) (skip (skip (s.negates c)));
  forms = head_too own ts e.form e.node (subst (λ m. AreAt m own) (sym is) at) s.forms;
}

-- the same of a pattern
pattern_told : {ts : List Typed} (own : List Typed) (n : ℕ) (p : Pattern) → AreAt n own → HeardPattern ts p → HeardPattern (own ++ ts) (recorded_pattern n p)
pattern_told own n p at s = record { matches = λ c seen. both (at_told n at (told_first n c (p.matched c seen))) (skip (skip (s.matches c seen))) }

-- a type expression is not typed
untyped_type : (r : Row) → is_of a_type r ≡ true → is_typed_row r ≡ false
unfolding is_typed_row
untyped_type tvar_row is = refl
untyped_type tcon_row is = refl
untyped_type tparen_row is = refl
untyped_type tapp_row is = refl
untyped_type ttuple_row is = refl
untyped_type tarrow_row is = refl
untyped_type _ is = absurd (no_yes is)

-- nor is a binding
untyped_binding : (r : Row) → is_of a_binding r ≡ true → is_typed_row r ≡ false
unfolding is_typed_row
untyped_binding binding_row is = refl
untyped_binding _ is = absurd (no_yes is)

-- nor a case
untyped_case : (r : Row) → is_of a_case r ≡ true → is_typed_row r ≡ false
unfolding is_typed_row
untyped_case case_row is = refl
untyped_case _ is = absurd (no_yes is)

-- nor a field
untyped_field : (r : Row) → is_of a_field r ≡ true → is_typed_row r ≡ false
unfolding is_typed_row
untyped_field ffield_row is = refl
untyped_field _ is = absurd (no_yes is)

-- nor a field of a pattern
untyped_field_pattern : (r : Row) → is_of a_field_pattern r ≡ true → is_typed_row r ≡ false
unfolding is_typed_row
untyped_field_pattern qfield_row is = refl
untyped_field_pattern _ is = absurd (no_yes is)

-- nor an item
untyped_item : (r : Row) → is_plain_row r ≡ true → is_typed_row r ≡ false
unfolding is_typed_row
untyped_item let_row is = refl
untyped_item type_row is = refl
untyped_item exception_row is = refl
untyped_item break_row is = refl
untyped_item _ is = absurd (no_yes is)

-- nor a part of a declaration
untyped_declared : (r : Row) → is_declared r ≡ true → is_typed_row r ≡ false
unfolding is_typed_row
untyped_declared type_row is = refl
untyped_declared exception_row is = refl
untyped_declared decl_row is = refl
untyped_declared head_row is = refl
untyped_declared alias_row is = refl
untyped_declared variant_row is = refl
untyped_declared record_row is = refl
untyped_declared con_row is = refl
untyped_declared label_row is = refl
untyped_declared _ is = absurd (no_yes is)

-- the rows of parts of declarations are such rows
kind_declared : (r : Row) → is_kind_row r ≡ true → is_declared r ≡ true
kind_declared variant_row is = refl
kind_declared record_row is = refl
kind_declared _ is = absurd (no_yes is)

right_declared : (r : Row) → is_of a_right_side r ≡ true → is_declared r ≡ true
right_declared alias_row is = refl
right_declared variant_row is = refl
right_declared record_row is = refl
right_declared _ is = absurd (no_yes is)

declaration_declared : (r : Row) → is_of a_declaration r ≡ true → is_declared r ≡ true
declaration_declared decl_row is = refl
declaration_declared _ is = absurd (no_yes is)

head_declared : (r : Row) → is_of a_head r ≡ true → is_declared r ≡ true
head_declared head_row is = refl
head_declared _ is = absurd (no_yes is)

constructor_declared : (r : Row) → is_of a_declared_constructor r ≡ true → is_declared r ≡ true
constructor_declared con_row is = refl
constructor_declared _ is = absurd (no_yes is)

label_declared : (r : Row) → is_of a_declared_label r ≡ true → is_declared r ≡ true
label_declared label_row is = refl
label_declared _ is = absurd (no_yes is)

-- so a part of a declaration has no typed nodes
declared_heard : {label : Option ℕ} {ts : List Typed} {cs : List Child} (own : List Typed) (r : Row) → (is_typed_row r ≡ false → own ≡ []) → Heards (HeardChild r label) ts cs → is_declared r ≡ true → AlwaysTells (own ++ ts) []
declared_heard {ts = ts} own r none h is = subst (λ us. AlwaysTells (us ++ ts) []) (sym (none (untyped_declared r is))) (declared_row_heard r h is)

-- a node over its parts
node_heard : {label : Option ℕ} {ts : List Typed} {cs : List Child} (own : List Typed) (k : Sort) (r : Row) (slot : ℕ) (p : Part) (n : ℕ) (q : Place) → AreAt n own → (is_typed_row r ≡ false → own ≡ []) → (h : Heards (HeardChild r label) ts cs) → Once r cs → RecordApart r label cs → is_of k r ≡ true →
    HeardAs k (own ++ ts) (node_child slot p r n q cs)
node_heard {ts = ts} {cs = cs} own an_expression r slot p n q at none h once apart is = expression_told own n (expression_row r n q cs) at (expression_row_stands r n q cs).number (expression_row_heard r n q h once apart is)
node_heard {ts = ts} {cs = cs} own a_pattern r slot p n q at none h once apart is = pattern_told own n (pattern_row r n q cs) at (pattern_row_heard r n q h once is)
node_heard {ts = ts} {cs = cs} own a_constructor r slot p n q at none h once apart is = constructor_row_heard own r n q h at is
node_heard {ts = ts} {cs = cs} own a_type r slot p n q at none h once apart is = subst (λ us. AlwaysTells (us ++ ts) []) (sym (none (untyped_type r is))) (type_row_heard r h is)
node_heard {ts = ts} {cs = cs} own a_binding r slot p n q at none h once apart is = subst (λ us. MayBe HeardBinding (us ++ ts) (binding_of r n cs)) (sym (none (untyped_binding r is))) (binding_row_heard r n h once is)
node_heard {ts = ts} {cs = cs} own a_case r slot p n q at none h once apart is = subst (λ us. MayBe HeardCase (us ++ ts) (case_of r n cs)) (sym (none (untyped_case r is))) (case_row_heard r n h once is)
node_heard {ts = ts} {cs = cs} own a_field r slot p n q at none h once apart is = subst (λ us. MayBe HeardField (us ++ ts) (field_of r n cs)) (sym (none (untyped_field r is))) (field_row_heard r n h once is)
node_heard {ts = ts} {cs = cs} own a_field_pattern r slot p n q at none h once apart is = subst (λ us. MayBe HeardFieldPattern (us ++ ts) (field_pattern_of r n cs)) (sym (none (untyped_field_pattern r is))) (field_pattern_row_heard r n h once is)
node_heard own a_declaration r slot p n q at none h once apart is = declared_heard own r none h (declaration_declared r is)
node_heard own a_head r slot p n q at none h once apart is = declared_heard own r none h (head_declared r is)
node_heard own a_right_side r slot p n q at none h once apart is = declared_heard own r none h (right_declared r is)
node_heard own a_kind r slot p n q at none h once apart is = declared_heard own r none h (kind_declared r is)
node_heard own a_declared_constructor r slot p n q at none h once apart is = declared_heard own r none h (constructor_declared r is)
node_heard own a_declared_label r slot p n q at none h once apart is = declared_heard own r none h (label_declared r is)
node_heard own no_sort r slot p n q at none h once apart is = absurd (no_yes is)

-- a part that is none has no typed nodes
leaf_heard : (k : Sort) (slot : ℕ) (p : Part) (n : ℕ) (q : Place) → HeardAs k [] (leaf_child slot p n q)
leaf_heard an_expression slot p n q = expressions.no_nodes_in
leaf_heard a_pattern slot p n q = patterns.no_nodes_in
leaf_heard a_constructor slot p n q = no_head
leaf_heard a_type slot p n q = λ types. nothing
leaf_heard a_binding slot p n q = absent
leaf_heard a_case slot p n q = absent
leaf_heard a_field slot p n q = absent
leaf_heard a_field_pattern slot p n q = absent
leaf_heard a_declaration slot p n q = λ types. nothing
leaf_heard a_head slot p n q = λ types. nothing
leaf_heard a_right_side slot p n q = λ types. nothing
leaf_heard a_kind slot p n q = λ types. nothing
leaf_heard a_declared_constructor slot p n q = λ types. nothing
leaf_heard a_declared_label slot p n q = λ types. nothing
leaf_heard no_sort slot p n q = λ types. nothing

-- but for an expression that is missing
missing_heard : (r : Row) (slot o i n N : ℕ) (q : Place) → item_base i + n ≡ N → (b : Bool) → is_expression_slot r slot ≡ b → HeardAs (sort_in r slot) (typed_if b o (id i n) q) (leaf_child slot (missing q) N q)
missing_heard r slot o i n N q e false is = leaf_heard (sort_in r slot) slot (missing q) N q
missing_heard r slot o i n N q e true is =
    let own : List Typed = typed_if true o (id i n) q in
    let at : AreAt N own = own_at true o i n N q e in
    let lone : HeardExpression own (recorded_expression N (no_expression_at N q)) = record {
      types = λ c. at_told N at (told_first N c []);
      negates = λ c. at_told N at (told_first N c []);
      forms = tt;
    } in
    subst (λ k. HeardAs k own (leaf_child slot (missing q) N q)) (slot_takes r slot is) lone

mutual
  -- the parts of a row, the first of which has the number n in its item
  forest_heard : (r : Row) (o i n N : ℕ) (label : Option ℕ) (ps : Forest) → item_base i + n ≡ N → AreSorted r ps → Heards (HeardChild r label) (typed_among o i n r label ps) (children_of N r ps)
  forest_heard r o i n N label no_parts e h = no_one
  forest_heard r o i n N label (part s p ps) e h =
      one_and (part_heard r o i n N label s p e h.0) (forest_heard r o i (n + part_size r s p) (N + part_size r s p) label ps (omega (arith, e)) h.1)

  -- a part
  part_heard : (r : Row) (o i n N : ℕ) (label : Option ℕ) (s : ℕ) (p : Part) → item_base i + n ≡ N → IsPartSorted (sort_in r s) p → HeardChild r label (typed_part o i n r (is_slot label s) s p) (child_of N s p)
  part_heard r o i n N label s (taken t) e h = record { as_sort = leaf_heard (sort_in r s) s (taken t) N (place_of t); unread = tt }
  part_heard r o i n N label s (inner (node q x ps)) e h = record { as_sort = tree_heard (sort_in r s) o i n N (is_slot label s) s (node q x ps) e h.0 h.1; unread = tree_unread o i n N (is_slot label s) (node q x ps) e h.1 s }
  part_heard r o i n N label s (missing q) e h = record { as_sort = missing_heard r s o i n N q e (is_expression_slot r s) refl; unread = tt }

  -- a path that is a label
  tree_unread : (o i n N : ℕ) (b : Bool) (t : Tree) → item_base i + n ≡ N → IsSorted t → (s : ℕ) → IsUnread (typed_in o i n b t) (tree_child N s t).expression.form b
  tree_unread o i n N b (node r x ps) e h s =
      let (order, apart, parts) = h in
      unread (typed_among o i (n + 1) r (label_slot r (has_taken_in 4 ps)) ps) (is_typed_row r) (has_name_in (last_name_slot r) ps) b o (id i n) x.span (expression_row r N x.span (children_of (N + 1) r ps)).form
      (path_row r N x.span (N + 1) ps (forest_heard r o i (n + 1) (N + 1) (label_slot r (has_taken_in 4 ps)) ps (omega (arith, e)) parts))

  -- a node
  tree_heard : (k : Sort) (o i n N : ℕ) (b : Bool) (s : ℕ) (t : Tree) → item_base i + n ≡ N → is_of k (row_of t) ≡ true → IsSorted t → HeardAs k (typed_in o i n b t) (tree_child N s t)
  tree_heard k o i n N b s (node r x ps) e is h =
      let (order, apart, parts) = h in
      node_heard (typed_if (is_typed_row r && not (b && has_name_in (last_name_slot r) ps)) o (id i n) x.span) k r s (inner (node r x ps)) N x.span
      (own_at (is_typed_row r && not (b && has_name_in (last_name_slot r) ps)) o i n N x.span e) (own_none (is_typed_row r) (not (b && has_name_in (last_name_slot r) ps)) o i n x.span)
      (forest_heard r o i (n + 1) (N + 1) (label_slot r (has_taken_in 4 ps)) ps (omega (arith, e)) parts)
      (λ s takes once. at_most_one r s 0 (N + 1) ps takes once order) (record_apart r (N + 1) ps apart) is

-- an item tells typed nodes wherever it stands
record HeardItem (ts : List Typed) (m : Item) : Type 0 where
  pub asks : (c : Context) (seen : Seen) → Tells (types_in c) ts (m.asks c seen)

-- a `let` tells the typed nodes of its bindings, and a declaration has none
item_row_heard : {label : Option ℕ} {ts : List Typed} {cs : List Child} (r : Row) (n : ℕ) (q : Place) (ks : List Tok) (h : Heards (HeardChild r label) ts cs) → is_plain_row r ≡ true → MayBe HeardItem ts (recorded_item n (item_row r n q ks cs))
unfolding item_row
item_row_heard {ts = ts} {cs = cs} let_row n q ks h is = there (record {
  asks = λ c seen.
      let inside : Context = inside_item n ks c in
      covered let_row h _ ((skip {c = treated n c.env} (left (names_made n inside (names_of_group (bindings_in 2 cs))) (bindings_heard inside (is_some (token_in 1 cs)) (bindings_slot let_row h 2 refl)))).all, tt);
})
item_row_heard type_row n q ks h is = there (record { asks = λ c seen. untold (declared_row_heard type_row h refl) })
item_row_heard exception_row n q ks h is = there (record { asks = λ c seen. untold (declared_row_heard exception_row h refl) })
item_row_heard break_row n q ks h is = there (record { asks = λ c seen. covered break_row h _ tt })
item_row_heard _ n q ks h is = absurd (no_yes is)

-- items in order
items_heard : (o i : ℕ) (ts : List Tree) → has_no_modules ts ≡ true → AreItemsSorted ts → (c : Context) (seen : Seen) → Tells (types_in c) (typed_items o i ts) (items_ask c seen (items_from i ts))
items_heard o i [] none h c seen = nothing
items_heard o i (node r x ps ∷ ts) none h c seen =
    let (first, others) = and_cases (is_plain_row r) (has_no_modules ts) none in
    let (order, apart, parts) = h.0 in
    let e : item_base i + 1 ≡ item_base i + 1 = refl in
    let bare = own_none (is_typed_row r) (not (false && has_name_in (last_name_slot r) ps)) o i 0 x.span (untyped_item r first) in
    let heard = item_row_heard r (item_base i) x.span (part_yield (inner (node r x ps))) (forest_heard r o i 1 (item_base i + 1) (label_slot r (has_taken_in 4 ps)) ps e parts) first in
    by (typed_in o i 0 false (node r x ps)) (tree_child (item_base i) 0 (node r x ps)).item (subst (λ us. MayBe HeardItem (us ++ typed_among o i 1 r (label_slot r (has_taken_in 4 ps)) ps) (recorded_item (item_base i) (item_row r (item_base i) x.span (part_yield (inner (node r x ps))) (children_of (item_base i + 1) r ps)))) (sym bare) heard)
    (λ d s. items_heard o (i + 1) ts others h.1 (under d c) s)
  where
    by : (us : List Typed) (m : Option Item) → MayBe HeardItem us m → ((d : Environment) (s : Seen) → Tells (types_in c) (typed_items o (i + 1) ts) (items_ask (under d c) s (items_from (i + 1) ts))) →
        Tells (types_in c) (us ++ typed_items o (i + 1) ts) (items_ask c seen (elim m [ None ↦ items_from (i + 1) ts | Some y ↦ y ∷ items_from (i + 1) ts ]))
    by us None absent later = later c.env seen
    by us (Some m) (there s) later = join (s.asks c seen) (later (m.adds c ++ c.env) (seen_too seen (m.named c)))

-- Each typed node of a program without modules that the parser gives is treated in some environment, and is told there with the type that the choice gives it.
pub plain_nodes_are_typed : (env : Environment) (tokens : List Tok) (kept : Site → Bool) (ch : Choice) → has_no_modules (program_items tokens) ≡ true → (o k : ℕ) (t : Typed) → slice_get (typed_at o (program_items tokens)) k ≡ Some t →
    (E : Environment) × IsToldTyped (number_of t.id) E (ch.type_at (number_of t.id)) (conditions_of env (program_items tokens) kept ch)
plain_nodes_are_typed env tokens kept ch none o k t e =
    let items : List Tree = program_items tokens in
    let found = told_among ch.type_at (typed_at o items) (conditions_of env items kept ch) k t (items_heard o 1 items none (program_sorted tokens none) (outermost env kept ch) no_names).all e in
    (found.env, found.told)

-- and so is each of a program of `let` and `;;`.
pub typed_nodes_are_typed : (env : Environment) (tokens : List Tok) (kept : Site → Bool) (ch : Choice) → has_lets_alone (program_items tokens) ≡ true → (o k : ℕ) (t : Typed) → slice_get (typed_at o (program_items tokens)) k ≡ Some t →
    (E : Environment) × IsToldTyped (number_of t.id) E (ch.type_at (number_of t.id)) (conditions_of env (program_items tokens) kept ch)
typed_nodes_are_typed env tokens kept ch lets o k t e = plain_nodes_are_typed env tokens kept ch (lets_plain (program_items tokens) lets) o k t e
