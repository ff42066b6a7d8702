-- Each row tells the typed nodes of its parts, where these tell theirs.
use Rattle.std.proofs.Common.{◌≡◌, ◌⊎◌, inl, inr, ℕ, ◌==◌, Bool, true, false, List, [], ◌∷◌, ◌++◌, map, filter_map, Option, Some, None, refl, sym, ap, subst, if◌then◌else◌}
use Rattle.std.proofs.lemmas.Bool.{eqb-true, eq-eqb}
use Rattle.tree_model.specs.Trees.{Place, place}
use Rattle.tree_model.specs.Slots.{is_operand}
use Rattle.tree_model.specs.Rows.{Row, type_row, exception_row, decl_row, head_row, alias_row, variant_row, record_row, con_row, label_row, tvar_row, tcon_row, tparen_row, tapp_row, ttuple_row, tarrow_row, pname_row, pany_row, pconst_row, pneg_row, pcon_row, pparen_row, plist_row, precord_row, papp_row, pcons_row, ptuple_row, por_row, pas_row, qfield_row, binding_row, case_row, ffield_row, name_row, econ_row, epath_row, econst_row, hole_row, eparen_row, ebegin_row, elist_row, erecord_row, prefix_row, field_row, eapp_row, eassert_row, ewhile_row, efor_row, eneg_row, infix_row, econs_row, etuple_row, eset_row, eif_row, eseq_row, elet_row, ematch_row, etry_row, efun_row, efunction_row}
use Rattle.query_model.specs.Outlines.{is_slot}
use Rattle.query_model.specs.TypedNodes.{Typed}
use Rattle.type_model.specs.Types.{Typ}
use Rattle.typing_model.specs.Demands.{Condition}
use Rattle.typing_model.specs.Parts.{Form, a_path, Expression, Pattern, Child, in_slot, path_in, token_in, expressions_in, expression_in, patterns_in, pattern_in, types_in, first_of, token_of, no_expression_at, no_pattern_at}
use Rattle.typing_model.specs.Patterns.{pattern_row}
use Rattle.typing_model.specs.Expressions.{expression_row, cases_in, fields_in, bindings_in, is_some, update_expression, record_expression}
use Rattle.typing_model.specs.Meanings.{recorded_pattern, binding_of, case_of, field_of, field_pattern_of}
use Rattle.typing_laws.proofs.Bools.{no_yes}
use Rattle.operand_laws.specs.Formed.{may_repeat}
use Rattle.scope_laws.proofs.Heard.{Tells, AlwaysTells, nothing, both, front, back, none_told, untold, AreTold, AreAt, at_both, Heards, no_one, one_and, MayBe, absent, there, heards_as, heards_some, heards_both, AtMostOne}
use Rattle.scope_laws.proofs.HeardPatterns as patterns
use Rattle.scope_laws.proofs.HeardPatterns.{HeardPattern, pattern_into, over_heard, pparen_heard, pcons_heard, pas_heard, por_heard, HeardHead, no_head, a_head, papp_heard, HeardFieldPattern, field_pattern_heard, precord_heard}
use Rattle.scope_laws.proofs.HeardExpressions as expressions
use Rattle.scope_laws.proofs.HeardExpressions.{IsUnread, HeardExpression, eparen_heard, ebegin_heard, elist_heard, etuple_heard, eseq_heard, econs_heard, eapp_heard, infix_heard, prefix_heard, eneg_heard, efield_heard, eset_heard, eassert_heard, eif_heard, ewhile_heard, efor_heard}
use Rattle.scope_laws.proofs.HeardRecords.{HeardField, field_heard, erecord_heard, eupdate_heard, HeardCase, case_heard, ematch_heard, etry_heard, efunction_heard, efun_heard, HeardBinding, binding_heard, elet_heard}
use Rattle.scope_laws.specs.Sorts.{Sort, an_expression, a_pattern, a_constructor, a_type, a_binding, a_case, a_field, a_field_pattern, a_declaration, a_head, a_right_side, a_kind, a_declared_constructor, a_declared_label, no_sort, slots_of, sort_among, sort_in, is_of}

-- the rows of declarations of types and exceptions, and of their parts
abbrev pub is_declared : Row → Bool
is_declared type_row = true
is_declared exception_row = true
is_declared decl_row = true
is_declared head_row = true
is_declared alias_row = true
is_declared variant_row = true
is_declared record_row = true
is_declared con_row = true
is_declared label_row = true
is_declared _ = false

-- a part tells typed nodes where it is asked as what it is
abbrev pub HeardAs : Sort → List Typed → Child → Type 0
HeardAs an_expression ts x = HeardExpression ts x.expression
HeardAs a_pattern ts x = HeardPattern ts x.pattern
HeardAs a_constructor ts x = HeardHead ts x.pattern
HeardAs a_type ts x = AlwaysTells ts []
HeardAs a_binding ts x = MayBe HeardBinding ts x.binding
HeardAs a_case ts x = MayBe HeardCase ts x.case
HeardAs a_field ts x = MayBe HeardField ts x.field
HeardAs a_field_pattern ts x = MayBe HeardFieldPattern ts x.field_pattern
HeardAs a_declaration ts x = AlwaysTells ts []
HeardAs a_head ts x = AlwaysTells ts []
HeardAs a_right_side ts x = AlwaysTells ts []
HeardAs a_kind ts x = AlwaysTells ts []
HeardAs a_declared_constructor ts x = AlwaysTells ts []
HeardAs a_declared_label ts x = AlwaysTells ts []
HeardAs no_sort ts x = AlwaysTells ts []

-- a part of a row is what its slot takes, and in the slot of a label a path is read as one
pub record HeardChild (r : Row) (label : Option ℕ) (ts : List Typed) (x : Child) : Type 0 where
  pub as_sort : HeardAs (sort_in r x.slot) ts x
  pub unread : IsUnread ts x.expression.form (is_slot label x.slot)

-- the typed nodes of the parts in a slot
abbrev pub slot_nodes : {Q : List Typed → Child → Type 0} {ts : List Typed} {cs : List Child} (s : ℕ) → Heards Q ts cs → List Typed
slot_nodes s no_one = []
slot_nodes s (one_and {ts = ts} {x = x} q rest) = if x.slot == s then ts ++ slot_nodes s rest else slot_nodes s rest

-- the parts in a slot
in_slot_heard : (r : Row) {label : Option ℕ} {ts : List Typed} {cs : List Child} (s : ℕ) (h : Heards (HeardChild r label) ts cs) → Heards (HeardAs (sort_in r s)) (slot_nodes s h) (in_slot s cs)
in_slot_heard r s no_one = no_one
in_slot_heard r s (one_and {ts = ts} {x = x} {xs = cs} q rest) = by (x.slot == s) refl (in_slot_heard r s rest)
  where
    by : (b : Bool) → (x.slot == s) ≡ b → Heards (HeardAs (sort_in r s)) (slot_nodes s rest) (in_slot s cs) → Heards (HeardAs (sort_in r s)) (if b then ts ++ slot_nodes s rest else slot_nodes s rest) (if b then x ∷ in_slot s cs else in_slot s cs)
    by true e others = one_and (subst (λ k. HeardAs (sort_in r k) ts x) (eqb-true x.slot s e) q.as_sort) others
    by false e others = others

-- in the slot of a label
in_slot_unread : (r : Row) {label : Option ℕ} {ts : List Typed} {cs : List Child} (s : ℕ) (h : Heards (HeardChild r label) ts cs) → Heards (λ us (x : Child). IsUnread us x.expression.form (is_slot label s)) (slot_nodes s h) (in_slot s cs)
in_slot_unread r s no_one = no_one
in_slot_unread r {label = label} s (one_and {ts = ts} {x = x} {xs = cs} q rest) = by (x.slot == s) refl (in_slot_unread r s rest)
  where
    by : (b : Bool) → (x.slot == s) ≡ b → Heards (λ us (y : Child). IsUnread us y.expression.form (is_slot label s)) (slot_nodes s rest) (in_slot s cs) →
        Heards (λ us (y : Child). IsUnread us y.expression.form (is_slot label s)) (if b then ts ++ slot_nodes s rest else slot_nodes s rest) (if b then x ∷ in_slot s cs else in_slot s cs)
    by true e others = one_and (subst (λ k. IsUnread ts x.expression.form (is_slot label k)) (eqb-true x.slot s e) q.unread) others
    by false e others = others

-- each of some slots
abbrev pub AreIn : (ℕ → Type 0) → List (ℕ × Sort) → Type 0
AreIn P [] = Unit {0}
AreIn P (e ∷ es) = P e.0 × AreIn P es

-- a slot is one of those, or takes no operands
found_in : (P : ℕ → Type 0) (es : List (ℕ × Sort)) (s : ℕ) → AreIn P es → (sort_among s es ≡ no_sort) ⊎ P s
found_in P [] s h = inl refl
found_in P (e ∷ es) s h = by (s == e.0) refl (found_in P es s h.1)
  where
    by : (b : Bool) → (s == e.0) ≡ b → (sort_among s es ≡ no_sort) ⊎ P s → ((if b then e.1 else sort_among s es) ≡ no_sort) ⊎ P s
    by true i later = inr (subst P (sym (eqb-true s e.0 i)) h.0)
    by false i later = later

-- by what is told of each slot
cover : (r : Row) {label : Option ℕ} {ts : List Typed} {cs : List Child} {types : ℕ → Typ} (h : Heards (HeardChild r label) ts cs) (ds : List Condition) → ((s : ℕ) → (sort_in r s ≡ no_sort) ⊎ AreTold types ds (slot_nodes s h)) → Tells types ts ds
cover r no_one ds f = nothing
cover r {types = types} (one_and {ts = ts} {us = us} {x = x} q rest) ds f = both (own (f x.slot)) (cover r rest ds (λ s. elim (f s) [ inl e ↦ inl e | inr a ↦ inr (by s (x.slot == s) a) ]))
  where
    own : (sort_in r x.slot ≡ no_sort) ⊎ AreTold types ds (if x.slot == x.slot then ts ++ slot_nodes x.slot rest else slot_nodes x.slot rest) → Tells types ts ds
    own (inl e) = let none : HeardAs no_sort ts x = subst (λ k. HeardAs k ts x) e q.as_sort in untold none
    own (inr a) = front ts (slot_nodes x.slot rest) (record { all = subst (λ (b : Bool). AreTold types ds (if b then ts ++ slot_nodes x.slot rest else slot_nodes x.slot rest)) (eq-eqb x.slot x.slot refl) a })

    by : (s : ℕ) (b : Bool) → AreTold types ds (if b then ts ++ slot_nodes s rest else slot_nodes s rest) → AreTold types ds (slot_nodes s rest)
    by s true a = let h : Tells types (ts ++ slot_nodes s rest) ds = record { all = a } in (back ts (slot_nodes s rest) h).all
    by s false a = a

-- what tells the typed nodes in each slot of a row tells those of all its parts
pub covered : {label : Option ℕ} {ts : List Typed} {cs : List Child} {types : ℕ → Typ} (r : Row) (h : Heards (HeardChild r label) ts cs) (ds : List Condition) → AreIn (λ s. AreTold types ds (slot_nodes s h)) (slots_of r) → Tells types ts ds
covered {types = types} r h ds all = cover r h ds (λ s. found_in (λ s. AreTold types ds (slot_nodes s h)) (slots_of r) s all)

-- a slot without parts has no typed nodes
no_list : {X : Type 0} {Q : List Typed → X → Type 0} {ts : List Typed} → Heards Q ts [] → ts ≡ []
no_list no_one = refl

-- so it is in a row
empty_slot : {label : Option ℕ} {ts : List Typed} {cs : List Child} (r : Row) (s : ℕ) (h : Heards (HeardChild r label) ts cs) → in_slot s cs ≡ [] → slot_nodes s h ≡ []
empty_slot r s h e = no_list (subst (Heards (HeardAs (sort_in r s)) (slot_nodes s h)) e (in_slot_heard r s h))

-- the first of at most one
first_heard : {X : Type 0} {Q : List Typed → X → Type 0} {ts : List Typed} → ((us : List Typed) (x : X) → Q us x → Q (us ++ []) x) → (xs : List X) → AtMostOne xs → Heards Q ts xs → MayBe Q ts (first_of xs)
first_heard more [] once no_one = absent
first_heard more (x ∷ []) once (one_and {ts = us} q no_one) = there (more us x q)
first_heard more (x ∷ y ∷ ys) once h = absurd (once)

-- nothing more of an expression
expression_more : (us : List Typed) (e : Expression) → HeardExpression us e → HeardExpression (us ++ []) e
expression_more us e h = record { types = λ c. both (h.types c) nothing; negates = λ c. both (h.negates c) nothing; forms = expressions.head_more us e.form e.node h.forms }

-- of a pattern
pattern_more : (us : List Typed) (p : Pattern) → HeardPattern us p → HeardPattern (us ++ []) p
pattern_more us p h = record { matches = λ c seen. both (h.matches c seen) nothing }

-- of a head
head_more : (us : List Typed) (p : Pattern) → HeardHead us p → HeardHead (us ++ []) p
head_more us p no_head = no_head
head_more us p (a_head path e own) = a_head path e (at_both p.node us [] own tt)

-- of a path that is read as a label
unread_more : (us : List Typed) (f : Form) (b : Bool) → IsUnread us f b → IsUnread (us ++ []) f b
unread_more us (a_path p) true h = ap (λ vs. vs ++ []) h
unread_more us _ _ h = tt

-- at most one in other words
once_mapped : {X Y : Type 0} (f : X → Y) (xs : List X) → AtMostOne xs → AtMostOne (map f xs)
once_mapped f [] h = tt
once_mapped f (x ∷ []) h = tt
once_mapped f (x ∷ y ∷ ys) h = h

-- what stands in a slot of a row, by the slot's sort
module _ {label : Option ℕ} {ts : List Typed} {cs : List Child} (r : Row) (h : Heards (HeardChild r label) ts cs) (s : ℕ) where
  -- a sort whose parts have no typed nodes
  pub bare_slot : (k : Sort) → ((us : List Typed) (x : Child) → HeardAs k us x → AlwaysTells us []) → sort_in r s ≡ k → AlwaysTells (slot_nodes s h) []
  bare_slot k bare e = by (subst (λ k. Heards (HeardAs k) (slot_nodes s h) (in_slot s cs)) e (in_slot_heard r s h))
    where
      by : {us : List Typed} {xs : List Child} → Heards (HeardAs k) us xs → AlwaysTells us []
      by no_one = λ types. nothing
      by (one_and {ts = vs} {x = x} q rest) = λ types. both (bare vs x q types) (by rest types)

  pub type_slot : sort_in r s ≡ a_type → AlwaysTells (slot_nodes s h) []
  type_slot e = bare_slot a_type (λ us x q. q) e

  pub expressions_slot : sort_in r s ≡ an_expression → Heards HeardExpression (slot_nodes s h) (expressions_in s cs)
  expressions_slot e = heards_as (λ c. c.expression) (λ us x q. q) (subst (λ k. Heards (HeardAs k) (slot_nodes s h) (in_slot s cs)) e (in_slot_heard r s h))

  pub patterns_slot : sort_in r s ≡ a_pattern → Heards HeardPattern (slot_nodes s h) (patterns_in s cs)
  patterns_slot e = heards_as (λ c. c.pattern) (λ us x q. q) (subst (λ k. Heards (HeardAs k) (slot_nodes s h) (in_slot s cs)) e (in_slot_heard r s h))

  pub bindings_slot : sort_in r s ≡ a_binding → Heards HeardBinding (slot_nodes s h) (bindings_in s cs)
  bindings_slot e = heards_some (λ c. c.binding) (λ us x q. q) (subst (λ k. Heards (HeardAs k) (slot_nodes s h) (in_slot s cs)) e (in_slot_heard r s h))

  pub cases_slot : sort_in r s ≡ a_case → Heards HeardCase (slot_nodes s h) (cases_in s cs)
  cases_slot e = heards_some (λ c. c.case) (λ us x q. q) (subst (λ k. Heards (HeardAs k) (slot_nodes s h) (in_slot s cs)) e (in_slot_heard r s h))

  pub fields_slot : sort_in r s ≡ a_field → Heards HeardField (slot_nodes s h) (fields_in s cs)
  fields_slot e = heards_some (λ c. c.field) (λ us x q. q) (subst (λ k. Heards (HeardAs k) (slot_nodes s h) (in_slot s cs)) e (in_slot_heard r s h))

  pub field_patterns_slot : sort_in r s ≡ a_field_pattern → Heards HeardFieldPattern (slot_nodes s h) (filter_map (λ c. c.field_pattern) (in_slot s cs))
  field_patterns_slot e = heards_some (λ c. c.field_pattern) (λ us x q. q) (subst (λ k. Heards (HeardAs k) (slot_nodes s h) (in_slot s cs)) e (in_slot_heard r s h))

  -- the first of a slot that has at most one
  pub first_expression : sort_in r s ≡ an_expression → AtMostOne (in_slot s cs) → MayBe HeardExpression (slot_nodes s h) (first_of (expressions_in s cs))
  first_expression e once = first_heard expression_more (expressions_in s cs) (once_mapped (λ c. c.expression) (in_slot s cs) once) (expressions_slot e)

  pub the_expression : sort_in r s ≡ an_expression → AtMostOne (in_slot s cs) → HeardExpression (slot_nodes s h) (expression_in s cs)
  the_expression e once = by (slot_nodes s h) (first_of (expressions_in s cs)) (first_expression e once)
    where
      by : (us : List Typed) (o : Option Expression) → MayBe HeardExpression us o → HeardExpression us (elim o [ None ↦ no_expression_at 0 (place 0 0) | Some e ↦ e ])
      by us None absent = expressions.no_nodes_in
      by us (Some e) (there q) = q

  pub first_pattern : sort_in r s ≡ a_pattern → AtMostOne (in_slot s cs) → MayBe HeardPattern (slot_nodes s h) (first_of (patterns_in s cs))
  first_pattern e once = first_heard pattern_more (patterns_in s cs) (once_mapped (λ c. c.pattern) (in_slot s cs) once) (patterns_slot e)

  pub the_pattern : sort_in r s ≡ a_pattern → AtMostOne (in_slot s cs) → HeardPattern (slot_nodes s h) (pattern_in s cs)
  the_pattern e once = by (slot_nodes s h) (first_of (patterns_in s cs)) (first_pattern e once)
    where
      by : (us : List Typed) (o : Option Pattern) → MayBe HeardPattern us o → HeardPattern us (elim o [ None ↦ no_pattern_at 0 (place 0 0) | Some p ↦ p ])
      by us None absent = patterns.no_nodes_in
      by us (Some p) (there q) = q

  pub the_head : sort_in r s ≡ a_constructor → AtMostOne (in_slot s cs) → HeardHead (slot_nodes s h) (pattern_in s cs)
  the_head e once = by (slot_nodes s h) (first_of (patterns_in s cs)) (first_heard head_more (patterns_in s cs) (once_mapped (λ c. c.pattern) (in_slot s cs) once) heads)
    where
      heads : Heards HeardHead (slot_nodes s h) (patterns_in s cs)
      heads = heards_as (λ c. c.pattern) (λ us x q. q) (subst (λ k. Heards (HeardAs k) (slot_nodes s h) (in_slot s cs)) e (in_slot_heard r s h))

      by : (us : List Typed) (o : Option Pattern) → MayBe HeardHead us o → HeardHead us (elim o [ None ↦ no_pattern_at 0 (place 0 0) | Some p ↦ p ])
      by us None absent = no_head
      by us (Some p) (there q) = q

  -- a path in the slot of a label
  pub the_unread : AtMostOne (in_slot s cs) → IsUnread (slot_nodes s h) (expression_in s cs).form (is_slot label s)
  the_unread once = by (slot_nodes s h) (first_of (expressions_in s cs)) (first_heard (λ us e q. unread_more us e.form (is_slot label s) q) (expressions_in s cs) (once_mapped (λ c. c.expression) (in_slot s cs) once) paths)
    where
      paths : Heards (λ us (e : Expression). IsUnread us e.form (is_slot label s)) (slot_nodes s h) (expressions_in s cs)
      paths = heards_as (λ c. c.expression) (λ us x q. q) (in_slot_unread r s h)

      by : (us : List Typed) (o : Option Expression) → MayBe (λ vs (e : Expression). IsUnread vs e.form (is_slot label s)) us o → let e : Expression = elim o [ None ↦ no_expression_at 0 (place 0 0) | Some e ↦ e ] in IsUnread us e.form (is_slot label s)
      by us None absent = tt
      by us (Some e) (there q) = q

-- a slot for operands that doesn't repeat has at most one part
abbrev pub Once : Row → List Child → Type 0
Once r cs = (s : ℕ) → is_operand r s ≡ true → may_repeat r s ≡ false → AtMostOne (in_slot s cs)

-- a record has the value of a first part or the word `with`, and not both; without the word a path as its first part is read as a label
abbrev pub RecordApart : Row → Option ℕ → List Child → Type 0
RecordApart erecord_row label cs = ((in_slot 3 cs ≡ []) ⊎ (in_slot 4 cs ≡ [])) × (is_some (token_in 4 cs) ≡ false → is_slot label 1 ≡ true)
RecordApart _ label cs = Unit {0}

-- a row without operands
bare : {label : Option ℕ} {ts : List Typed} {cs : List Child} (r : Row) (h : Heards (HeardChild r label) ts cs) (e : Expression) → ((types : ℕ → Typ) → AreIn (λ s. AreTold types [] (slot_nodes s h)) (slots_of r)) → HeardExpression ts e
bare {ts = ts} r h e all = subst (λ us. HeardExpression us e) (sym (none_told ts (λ types. covered r h [] (all types)))) expressions.no_nodes_in

-- the same of a pattern
bare_pattern : {label : Option ℕ} {ts : List Typed} {cs : List Child} (r : Row) (h : Heards (HeardChild r label) ts cs) (p : Pattern) → ((types : ℕ → Typ) → AreIn (λ s. AreTold types [] (slot_nodes s h)) (slots_of r)) → HeardPattern ts p
bare_pattern {ts = ts} r h p all = subst (λ us. HeardPattern us p) (sym (none_told ts (λ types. covered r h [] (all types)))) patterns.no_nodes_in

-- two slots, and three
two : {types : ℕ → Typ} {ds : List Condition} (ts us : List Typed) → Tells types (ts ++ us) ds → AreTold types ds ts × (AreTold types ds us × Unit {0})
two ts us t = ((front ts us t).all, ((back ts us t).all, tt))

three : {types : ℕ → Typ} {ds : List Condition} (ts us vs : List Typed) → Tells types ((ts ++ us) ++ vs) ds → AreTold types ds ts × (AreTold types ds us × (AreTold types ds vs × Unit {0}))
three ts us vs t = let f = front (ts ++ us) vs t in ((front ts us f).all, ((back ts us f).all, ((back (ts ++ us) vs t).all, tt)))

-- the expressions of two slots
two_slots : {label : Option ℕ} {ts : List Typed} {cs : List Child} (r : Row) (h : Heards (HeardChild r label) ts cs) (a b : ℕ) → sort_in r a ≡ an_expression → sort_in r b ≡ an_expression →
    (us : List Typed) × ((types : ℕ → Typ) (ds : List Condition) → Tells types us ds → Tells types (slot_nodes a h ++ slot_nodes b h) ds) × Heards HeardExpression us (expressions_in a cs ++ expressions_in b cs)
two_slots r h a b e f = heards_both (expressions_slot r h a e) (expressions_slot r h b f)

-- an expression by its row
pub expression_row_heard : {label : Option ℕ} {ts : List Typed} {cs : List Child} (r : Row) (n : ℕ) (q : Place) (h : Heards (HeardChild r label) ts cs) → Once r cs → RecordApart r label cs → is_of an_expression r ≡ true → HeardExpression ts (expression_row r n q cs)
unfolding expression_row is_operand may_repeat
expression_row_heard name_row n q h once apart is = bare name_row h _ (λ types. tt)
expression_row_heard econ_row n q h once apart is = bare econ_row h _ (λ types. tt)
expression_row_heard epath_row n q h once apart is = bare epath_row h _ (λ types. tt)
expression_row_heard econst_row n q h once apart is = bare econst_row h _ (λ types. tt)
expression_row_heard hole_row n q h once apart is = bare hole_row h _ (λ types. tt)
expression_row_heard {cs = cs} eparen_row n q h once apart is =
    eparen_heard n q (expression_in 1 cs) (first_of (types_in 3 cs)) (λ types ds t. covered eparen_row h ds (t.all, ((untold {cs = ds} (type_slot eparen_row h 3 refl)).all, tt)))
    (the_expression eparen_row h 1 refl (once 1 refl refl))
expression_row_heard {cs = cs} ebegin_row n q h once apart is =
    ebegin_heard n q (first_of (expressions_in 1 cs)) (λ types ds t. covered ebegin_row h ds (t.all, tt))
    (first_expression ebegin_row h 1 refl (once 1 refl refl))
expression_row_heard {cs = cs} elist_row n q h once apart is =
    elist_heard n q (expressions_in 1 cs) (λ types ds t. covered elist_row h ds (t.all, tt))
    (expressions_slot elist_row h 1 refl)
expression_row_heard {ts = ts} {cs = cs} erecord_row n q h once apart is = by (is_some (token_in 4 cs)) refl
  where
    with_word : (xs : List Child) → xs ≡ [] → is_some (first_of (filter_map (λ (c : Child). token_of c.part) xs)) ≡ true → ⊥
    with_word [] e i = no_yes i
    with_word (x ∷ xs) e i = cc e

    third : (types : ℕ → Typ) (ds : List Condition) → is_some (token_in 4 cs) ≡ true → (in_slot 3 cs ≡ []) ⊎ (in_slot 4 cs ≡ []) → AreTold types ds (slot_nodes 3 h)
    third types ds e (inl none) = subst (AreTold types ds) (sym (empty_slot erecord_row 3 h none)) tt
    third types ds e (inr none) = absurd (with_word (in_slot 4 cs) none e)

    by : (b : Bool) → is_some (token_in 4 cs) ≡ b → HeardExpression ts (if b then update_expression n q (expression_in 1 cs) (fields_in 5 cs) else record_expression n q (expression_in 1 cs) (first_of (expressions_in 3 cs)) (fields_in 5 cs))
    by true e = eupdate_heard n q (expression_in 1 cs) (fields_in 5 cs) (λ types ds t. covered erecord_row h ds ((front (slot_nodes 1 h) (slot_nodes 5 h) t).all, (third types ds e apart.0, ((back (slot_nodes 1 h) (slot_nodes 5 h) t).all, tt))))
        (the_expression erecord_row h 1 refl (once 1 refl refl)) (fields_slot erecord_row h 5 refl)
    by false e = erecord_heard n q (expression_in 1 cs) (first_of (expressions_in 3 cs)) (fields_in 5 cs) (λ types ds t. covered erecord_row h ds (three (slot_nodes 1 h) (slot_nodes 3 h) (slot_nodes 5 h) t))
        (the_expression erecord_row h 1 refl (once 1 refl refl)) (subst (IsUnread (slot_nodes 1 h) (expression_in 1 cs).form) (apart.1 e) (the_unread erecord_row h 1 (once 1 refl refl))) (first_expression erecord_row h 3 refl (once 3 refl refl)) (fields_slot erecord_row h 5 refl)
expression_row_heard {cs = cs} prefix_row n q h once apart is =
    prefix_heard n q (token_in 0 cs) (expression_in 1 cs) (λ types ds t. covered prefix_row h ds (t.all, tt))
    (the_expression prefix_row h 1 refl (once 1 refl refl))
expression_row_heard {cs = cs} field_row n q h once apart is =
    efield_heard n q (expression_in 0 cs) (path_in 2 3 cs) (λ types ds t. covered field_row h ds (t.all, tt))
    (the_expression field_row h 0 refl (once 0 refl refl))
expression_row_heard {cs = cs} eapp_row n q h once apart is =
    eapp_heard n q (expression_in 0 cs) (expressions_in 1 cs) (λ types ds t. covered eapp_row h ds (two (slot_nodes 0 h) (slot_nodes 1 h) t))
    (the_expression eapp_row h 0 refl (once 0 refl refl)) (expressions_slot eapp_row h 1 refl)
expression_row_heard {cs = cs} eassert_row n q h once apart is =
    eassert_heard n q (expression_in 1 cs) (λ types ds t. covered eassert_row h ds (t.all, tt))
    (the_expression eassert_row h 1 refl (once 1 refl refl))
expression_row_heard {cs = cs} ewhile_row n q h once apart is =
    ewhile_heard n q (expression_in 1 cs) (expression_in 3 cs) (λ types ds t. covered ewhile_row h ds (two (slot_nodes 1 h) (slot_nodes 3 h) t))
    (the_expression ewhile_row h 1 refl (once 1 refl refl)) (the_expression ewhile_row h 3 refl (once 3 refl refl))
expression_row_heard {cs = cs} efor_row n q h once apart is =
    efor_heard n q (token_in 1 cs) (expression_in 3 cs) (expression_in 5 cs) (expression_in 7 cs) (λ types ds t. covered efor_row h ds (three (slot_nodes 3 h) (slot_nodes 5 h) (slot_nodes 7 h) t))
    (the_expression efor_row h 3 refl (once 3 refl refl)) (the_expression efor_row h 5 refl (once 5 refl refl)) (the_expression efor_row h 7 refl (once 7 refl refl))
expression_row_heard {cs = cs} eneg_row n q h once apart is =
    eneg_heard n q (token_in 0 cs) (expression_in 1 cs) (λ types ds t. covered eneg_row h ds (t.all, tt))
    (the_expression eneg_row h 1 refl (once 1 refl refl))
expression_row_heard {cs = cs} infix_row n q h once apart is =
    infix_heard n q (token_in 1 cs) (expression_in 0 cs) (expression_in 2 cs) (λ types ds t. covered infix_row h ds (two (slot_nodes 0 h) (slot_nodes 2 h) t))
    (the_expression infix_row h 0 refl (once 0 refl refl)) (the_expression infix_row h 2 refl (once 2 refl refl))
expression_row_heard {cs = cs} econs_row n q h once apart is =
    econs_heard n q (expression_in 0 cs) (expression_in 2 cs) (λ types ds t. covered econs_row h ds (two (slot_nodes 0 h) (slot_nodes 2 h) t))
    (the_expression econs_row h 0 refl (once 0 refl refl)) (the_expression econs_row h 2 refl (once 2 refl refl))
expression_row_heard {cs = cs} etuple_row n q h once apart is =
    let (us, into, es) = two_slots etuple_row h 0 2 refl refl in
    etuple_heard n q (expressions_in 0 cs ++ expressions_in 2 cs) (λ types ds t. covered etuple_row h ds (two (slot_nodes 0 h) (slot_nodes 2 h) (into types ds t))) es
expression_row_heard {cs = cs} eset_row n q h once apart is =
    eset_heard n q (expression_in 0 cs) (expression_in 2 cs) (λ types ds t. covered eset_row h ds (two (slot_nodes 0 h) (slot_nodes 2 h) t))
    (the_expression eset_row h 0 refl (once 0 refl refl)) (the_expression eset_row h 2 refl (once 2 refl refl))
expression_row_heard {cs = cs} eif_row n q h once apart is =
    eif_heard n q (expression_in 1 cs) (expression_in 3 cs) (first_of (expressions_in 5 cs)) (λ types ds t. covered eif_row h ds (three (slot_nodes 1 h) (slot_nodes 3 h) (slot_nodes 5 h) t))
    (the_expression eif_row h 1 refl (once 1 refl refl)) (the_expression eif_row h 3 refl (once 3 refl refl)) (first_expression eif_row h 5 refl (once 5 refl refl))
expression_row_heard {cs = cs} eseq_row n q h once apart is =
    let (us, into, es) = two_slots eseq_row h 0 2 refl refl in
    eseq_heard n q (expressions_in 0 cs ++ expressions_in 2 cs) (λ types ds t. covered eseq_row h ds (two (slot_nodes 0 h) (slot_nodes 2 h) (into types ds t))) es
expression_row_heard {cs = cs} elet_row n q h once apart is =
    elet_heard n q (is_some (token_in 1 cs)) (bindings_in 2 cs) (expression_in 5 cs) (λ types ds t. covered elet_row h ds (two (slot_nodes 2 h) (slot_nodes 5 h) t))
    (bindings_slot elet_row h 2 refl) (the_expression elet_row h 5 refl (once 5 refl refl))
expression_row_heard {cs = cs} ematch_row n q h once apart is =
    ematch_heard n q (expression_in 1 cs) (cases_in 4 cs) (λ types ds t. covered ematch_row h ds (two (slot_nodes 1 h) (slot_nodes 4 h) t))
    (the_expression ematch_row h 1 refl (once 1 refl refl)) (cases_slot ematch_row h 4 refl)
expression_row_heard {cs = cs} etry_row n q h once apart is =
    etry_heard n q (expression_in 1 cs) (cases_in 4 cs) (λ types ds t. covered etry_row h ds (two (slot_nodes 1 h) (slot_nodes 4 h) t))
    (the_expression etry_row h 1 refl (once 1 refl refl)) (cases_slot etry_row h 4 refl)
expression_row_heard {cs = cs} efun_row n q h once apart is =
    efun_heard n q (patterns_in 1 cs) (expression_in 3 cs) (λ types ds t. covered efun_row h ds (two (slot_nodes 1 h) (slot_nodes 3 h) t))
    (patterns_slot efun_row h 1 refl) (the_expression efun_row h 3 refl (once 3 refl refl))
expression_row_heard {cs = cs} efunction_row n q h once apart is =
    efunction_heard n q (cases_in 4 cs) (λ types ds t. covered efunction_row h ds (t.all, tt))
    (cases_slot efunction_row h 4 refl)
expression_row_heard _ n q h once apart is = absurd (no_yes is)

-- a pattern by its row
pub pattern_row_heard : {label : Option ℕ} {ts : List Typed} {cs : List Child} (r : Row) (n : ℕ) (q : Place) (h : Heards (HeardChild r label) ts cs) → Once r cs → is_of a_pattern r ≡ true → HeardPattern ts (pattern_row r n q cs)
unfolding pattern_row is_operand may_repeat
pattern_row_heard pname_row n q h once is = bare_pattern pname_row h _ (λ types. tt)
pattern_row_heard pany_row n q h once is = bare_pattern pany_row h _ (λ types. tt)
pattern_row_heard pconst_row n q h once is = bare_pattern pconst_row h _ (λ types. tt)
pattern_row_heard pneg_row n q h once is = bare_pattern pneg_row h _ (λ types. tt)
pattern_row_heard pcon_row n q h once is = bare_pattern pcon_row h _ (λ types. tt)
pattern_row_heard {cs = cs} pparen_row n q h once is = pattern_into (slot_nodes 1 h) (λ types ds t. covered pparen_row h ds (t.all, ((untold {cs = ds} (type_slot pparen_row h 3 refl)).all, tt))) (pparen_heard n q (pattern_in 1 cs) (first_of (types_in 3 cs)) (the_pattern pparen_row h 1 refl (once 1 refl refl)))
pattern_row_heard {cs = cs} plist_row n q h once is = pattern_into (slot_nodes 1 h) (λ types ds t. covered plist_row h ds (t.all, tt)) (over_heard n q (patterns_in 1 cs) _ (patterns_slot plist_row h 1 refl))
pattern_row_heard {cs = cs} precord_row n q h once is = pattern_into (slot_nodes 1 h) (λ types ds t. covered precord_row h ds (t.all, tt)) (precord_heard n q (filter_map (λ c. c.field_pattern) (in_slot 1 cs)) (field_patterns_slot precord_row h 1 refl))
pattern_row_heard {cs = cs} papp_row n q h once is = pattern_into (slot_nodes 0 h ++ slot_nodes 1 h) (λ types ds t. covered papp_row h ds (two (slot_nodes 0 h) (slot_nodes 1 h) t)) (papp_heard n q (pattern_in 0 cs) (pattern_in 1 cs) (the_head papp_row h 0 refl (once 0 refl refl)) (the_pattern papp_row h 1 refl (once 1 refl refl)))
pattern_row_heard {cs = cs} pcons_row n q h once is = pattern_into (slot_nodes 0 h ++ slot_nodes 2 h) (λ types ds t. covered pcons_row h ds (two (slot_nodes 0 h) (slot_nodes 2 h) t)) (pcons_heard n q (pattern_in 0 cs) (pattern_in 2 cs) _ (the_pattern pcons_row h 0 refl (once 0 refl refl)) (the_pattern pcons_row h 2 refl (once 2 refl refl)))
pattern_row_heard {cs = cs} ptuple_row n q h once is =
    let (us, into, ps) = heards_both (patterns_slot ptuple_row h 0 refl) (patterns_slot ptuple_row h 2 refl) in
    pattern_into us (λ types ds t. covered ptuple_row h ds (two (slot_nodes 0 h) (slot_nodes 2 h) (into types ds t))) (over_heard n q (patterns_in 0 cs ++ patterns_in 2 cs) _ ps)
pattern_row_heard {cs = cs} por_row n q h once is = pattern_into (slot_nodes 0 h ++ slot_nodes 2 h) (λ types ds t. covered por_row h ds (two (slot_nodes 0 h) (slot_nodes 2 h) t)) (por_heard n q (pattern_in 0 cs) (patterns_in 2 cs) (one_and (the_pattern por_row h 0 refl (once 0 refl refl)) (patterns_slot por_row h 2 refl)))
pattern_row_heard {cs = cs} pas_row n q h once is = pattern_into (slot_nodes 0 h) (λ types ds t. covered pas_row h ds (t.all, tt)) (pas_heard n q (pattern_in 0 cs) (token_in 2 cs) (the_pattern pas_row h 0 refl (once 0 refl refl)))
pattern_row_heard _ n q h once is = absurd (no_yes is)

-- a type expression has no typed nodes
pub type_row_heard : {label : Option ℕ} {ts : List Typed} {cs : List Child} (r : Row) (h : Heards (HeardChild r label) ts cs) → is_of a_type r ≡ true → AlwaysTells ts []
type_row_heard tvar_row h is = λ types. covered tvar_row h [] tt
type_row_heard tcon_row h is = λ types. covered tcon_row h [] tt
type_row_heard tparen_row h is = λ types. covered tparen_row h [] ((type_slot tparen_row h 1 refl types).all, tt)
type_row_heard tapp_row h is = λ types. covered tapp_row h [] ((type_slot tapp_row h 0 refl types).all, tt)
type_row_heard ttuple_row h is = λ types. covered ttuple_row h [] ((type_slot ttuple_row h 0 refl types).all, ((type_slot ttuple_row h 2 refl types).all, tt))
type_row_heard tarrow_row h is = λ types. covered tarrow_row h [] ((type_slot tarrow_row h 0 refl types).all, ((type_slot tarrow_row h 2 refl types).all, tt))
type_row_heard _ h is = absurd (no_yes is)

-- nor has any part of a declaration
pub declared_row_heard : {label : Option ℕ} {ts : List Typed} {cs : List Child} (r : Row) (h : Heards (HeardChild r label) ts cs) → is_declared r ≡ true → AlwaysTells ts []
declared_row_heard type_row h is = λ types. covered type_row h [] ((bare_slot type_row h 2 a_declaration (λ us x q. q) refl types).all, tt)
declared_row_heard exception_row h is = λ types. covered exception_row h [] ((bare_slot exception_row h 1 a_declared_constructor (λ us x q. q) refl types).all, tt)
declared_row_heard decl_row h is = λ types. covered decl_row h [] ((bare_slot decl_row h 0 a_head (λ us x q. q) refl types).all, ((bare_slot decl_row h 2 a_right_side (λ us x q. q) refl types).all, tt))
declared_row_heard head_row h is = λ types. covered head_row h [] tt
declared_row_heard alias_row h is = λ types. covered alias_row h [] ((type_slot alias_row h 0 refl types).all, ((bare_slot alias_row h 2 a_kind (λ us x q. q) refl types).all, tt))
declared_row_heard variant_row h is = λ types. covered variant_row h [] ((bare_slot variant_row h 1 a_declared_constructor (λ us x q. q) refl types).all, tt)
declared_row_heard record_row h is = λ types. covered record_row h [] ((bare_slot record_row h 1 a_declared_label (λ us x q. q) refl types).all, tt)
declared_row_heard con_row h is = λ types. covered con_row h [] ((type_slot con_row h 2 refl types).all, tt)
declared_row_heard label_row h is = λ types. covered label_row h [] ((type_slot label_row h 3 refl types).all, tt)
declared_row_heard _ h is = absurd (no_yes is)

-- a binding, a case and a field by their rows
pub binding_row_heard : {label : Option ℕ} {ts : List Typed} {cs : List Child} (r : Row) (n : ℕ) (h : Heards (HeardChild r label) ts cs) → Once r cs → is_of a_binding r ≡ true → MayBe HeardBinding ts (binding_of r n cs)
unfolding is_operand may_repeat
binding_row_heard {cs = cs} binding_row n h once is =
    let whole = binding_heard (record { node = n; pattern = pattern_in 0 cs; parameters = patterns_in 1 cs; annotation = first_of (types_in 3 cs); body = expression_in 5 cs })
    (the_pattern binding_row h 0 refl (once 0 refl refl)) (patterns_slot binding_row h 1 refl) (the_expression binding_row h 5 refl (once 5 refl refl)) in
    there (record {
      tells = λ ds c env seen f g.
          let t = whole.tells ds c env seen f g in
          let u = back (slot_nodes 0 h) (slot_nodes 1 h ++ slot_nodes 5 h) t in
          covered binding_row h ds ((front (slot_nodes 0 h) (slot_nodes 1 h ++ slot_nodes 5 h) t).all, ((front (slot_nodes 1 h) (slot_nodes 5 h) u).all, ((untold {cs = ds} (type_slot binding_row h 3 refl)).all, ((back (slot_nodes 1 h) (slot_nodes 5 h) u).all, tt))));
    })
binding_row_heard _ n h once is = absurd (no_yes is)

-- a case
pub case_row_heard : {label : Option ℕ} {ts : List Typed} {cs : List Child} (r : Row) (n : ℕ) (h : Heards (HeardChild r label) ts cs) → Once r cs → is_of a_case r ≡ true → MayBe HeardCase ts (case_of r n cs)
unfolding is_operand may_repeat
case_row_heard {cs = cs} case_row n h once is =
    let whole = case_heard (record { node = n; pattern = pattern_in 0 cs; guard = first_of (expressions_in 2 cs); body = expression_in 4 cs })
    (the_pattern case_row h 0 refl (once 0 refl refl)) (first_expression case_row h 2 refl (once 2 refl refl)) (the_expression case_row h 4 refl (once 4 refl refl)) in
    there (record { asks = λ c m j subject result. covered case_row h _ (three (slot_nodes 0 h) (slot_nodes 2 h) (slot_nodes 4 h) (whole.asks c m j subject result)) })
case_row_heard _ n h once is = absurd (no_yes is)

-- a field
pub field_row_heard : {label : Option ℕ} {ts : List Typed} {cs : List Child} (r : Row) (n : ℕ) (h : Heards (HeardChild r label) ts cs) → Once r cs → is_of a_field r ≡ true → MayBe HeardField ts (field_of r n cs)
unfolding is_operand may_repeat
field_row_heard {cs = cs} ffield_row n h once is =
    let whole = field_heard (record { node = n; label = path_in 0 1 cs; value = first_of (expressions_in 3 cs) }) (first_expression ffield_row h 3 refl (once 3 refl refl)) in
    there (record { asks = λ c found names t. covered ffield_row h _ ((whole.asks c found names t).all, tt) })
field_row_heard _ n h once is = absurd (no_yes is)

-- a field of a pattern
pub field_pattern_row_heard : {label : Option ℕ} {ts : List Typed} {cs : List Child} (r : Row) (n : ℕ) (h : Heards (HeardChild r label) ts cs) → Once r cs → is_of a_field_pattern r ≡ true → MayBe HeardFieldPattern ts (field_pattern_of r n cs)
unfolding is_operand may_repeat
field_pattern_row_heard {cs = cs} qfield_row n h once is =
    let whole = field_pattern_heard (record { node = n; label = path_in 0 1 cs; pattern = first_of (patterns_in 3 cs) }) (first_pattern qfield_row h 3 refl (once 3 refl refl)) in
    there (record { matches = λ c m found names seen t. covered qfield_row h _ ((whole.matches c m found names seen t).all, tt) })
field_pattern_row_heard _ n h once is = absurd (no_yes is)

-- the head of a constructor's pattern
pub constructor_row_heard : {label : Option ℕ} {ts : List Typed} {cs : List Child} (own : List Typed) (r : Row) (n : ℕ) (q : Place) (h : Heards (HeardChild r label) ts cs) → AreAt n own → is_of a_constructor r ≡ true → HeardHead (own ++ ts) (recorded_pattern n (pattern_row r n q cs))
unfolding pattern_row
constructor_row_heard {ts = ts} {cs = cs} own pcon_row n q h at is = a_head (path_in 0 1 cs) refl (at_both n own ts at (subst (AreAt n) (sym (none_told ts (λ types. covered pcon_row h [] tt))) tt))
constructor_row_heard own _ n q h at is = absurd (no_yes is)
