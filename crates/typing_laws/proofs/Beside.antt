-- Parts of a program beside another choice of types: what is non-expansive is the same, and names have renamed types.
use Rattle.std.proofs.Common.{◌≡◌, ℕ, ◌+◌, ◌==◌, Bool, true, false, not, ◌&&◌, List, [], ◌∷◌, ◌++◌, length, filter_map, Option, Some, None, option_map, refl, sym, ◌∙◌, ap, subst, if◌then◌else◌}
use Rattle.token_model.specs.Kinds.{Tok, Kind, upper}
use Rattle.tree_model.specs.Trees.{Place, place, Tree, Forest, Part, node, no_parts, part, taken, inner, missing, part_size}
use Rattle.tree_model.specs.Rows.{Row, binding_row, case_row, ffield_row, qfield_row, pname_row, pany_row, pconst_row, pneg_row, pcon_row, pparen_row, plist_row, precord_row, papp_row, pcons_row, ptuple_row, por_row, pas_row, name_row, econ_row, epath_row, econst_row, hole_row, eparen_row, ebegin_row, elist_row, erecord_row, prefix_row, field_row, eapp_row, eassert_row, ewhile_row, efor_row, eneg_row, infix_row, econs_row, etuple_row, eset_row, eif_row, eseq_row, elet_row, ematch_row, etry_row, efun_row, efunction_row}
use Rattle.type_model.specs.Types.{occurs}
use Rattle.type_model.specs.Substitutions.{apply}
use Rattle.typing_model.specs.Contexts.{Choice, Context, Bound}
use Rattle.typing_model.specs.Parts.{Written, Form, a_constructor, a_path, a_float, a_false, a_field, no_expression, other, Expression, Pattern, TypeExpression, Binding, Case, Field, FieldPattern, Child, in_slot, path_in, token_in, expressions_in, expression_in, patterns_in, pattern_in, types_in, first_of, no_expression_at, no_pattern_at, place_of}
use Rattle.signature_model.specs.Lookups.{Found, an_entry, a_hole, nothing}
use Rattle.signature_model.specs.Records.{record_of}
use Rattle.typing_model.specs.Names.{then_by, entry_of, label_in}
use Rattle.typing_model.specs.Records.{labels_in}
use Rattle.typing_model.specs.Records as records
use Rattle.typing_model.specs.Patterns.{bound_at, all_names, pname, papp, pparen, pas, punned, names_in_field, precord, pattern_row}
use Rattle.typing_model.specs.Bindings.{generalises}
use Rattle.typing_model.specs.Expressions.{all_values, path_expression, is_built_value, is_some, labels_of, first_field, all_field_values, none_mutable, is_constant_record, cases_are_values, all_generalise, cases_in, fields_in, bindings_in, update_expression, record_expression, parenthesised, begun, if_expression, expression_row}
use Rattle.typing_model.specs.Meanings.{binding_of, case_of, field_of, field_pattern_of, node_child, leaf_child, children_of, child_of, tree_child}
use Rattle.typing_laws.specs.Renaming.{renaming, at_node, AreRenamedChoices, IsOf}
use Rattle.typing_laws.proofs.Steady.{Each, no_one, one_and, each_append, IfThere, absent, there}
use Rattle.typing_laws.proofs.SteadyRows.{mapped, filtered, first_there}
use Rattle.typing_laws.proofs.Labelled.{EntriesAlike, constant_found, records_alike}

-- a name has a chosen type, and beside the other choice the renamed one
pub record RenamedName (choice other : Choice) (f : ℕ → ℕ) (b : Bound) : Type 0 where
  pub gives : (c d : Context) → c.chosen ≡ choice → d.chosen ≡ other → b.has_type d ≡ apply (renaming f) (b.has_type c)
  pub chosen : (c : Context) → c.chosen ≡ choice → IsOf choice (b.has_type c)

pub record RenamedNames (choice other : Choice) (f : ℕ → ℕ) (p : Pattern) : Type 0 where
  pub binds : Each (RenamedName choice other f) p.names

-- an expression is non-expansive in both of two environments in which the same records are found, or in neither
pub record SameValue (e : Expression) : Type 0 where
  pub values : (c d : Context) → EntriesAlike c.env d.env → e.is_value c ≡ e.is_value d

pub record BesideBinding (choice other : Choice) (f : ℕ → ℕ) (b : Binding) : Type 0 where
  pub pattern : RenamedNames choice other f b.pattern
  pub body : SameValue b.body

pub record SameCase (a : Case) : Type 0 where
  pub body : SameValue a.body

pub record SameField (a : Field) : Type 0 where
  pub value : IfThere SameValue a.value

pub record RenamedField (choice other : Choice) (f : ℕ → ℕ) (p : FieldPattern) : Type 0 where
  pub pattern : IfThere (RenamedNames choice other f) p.pattern

pub record BesideChild (choice other : Choice) (f : ℕ → ℕ) (x : Child) : Type 0 where
  pub expression : SameValue x.expression
  pub pattern : RenamedNames choice other f x.pattern
  pub binding : IfThere (BesideBinding choice other f) x.binding
  pub case : IfThere SameCase x.case
  pub field : IfThere SameField x.field
  pub field_pattern : IfThere (RenamedField choice other f) x.field_pattern

-- names of patterns
bound_at_renamed : {choice other : Choice} (r : AreRenamedChoices choice other) (n : ℕ) (t : Tok) → RenamedName choice other r.forth (bound_at n t)
bound_at_renamed r n t = record {
  gives = λ c d i j. ap (λ x. x.type_at n) j ∙ r.nodes n ∙ ap (λ x. apply (renaming r.forth) (x.type_at n)) (sym i);
  chosen = λ c i v o. at_node n (subst (λ x. occurs v (x.type_at n) ≡ true) i o);
}

all_renamed : {choice other : Choice} {f : ℕ → ℕ} (ps : List Pattern) → Each (RenamedNames choice other f) ps → Each (RenamedName choice other f) (all_names ps)
all_renamed [] no_one = no_one
all_renamed (p ∷ ps) (one_and s each) = each_append s.binds (all_renamed ps each)

punned_renamed : {choice other : Choice} (r : AreRenamedChoices choice other) (n : ℕ) (p : FieldPattern) → Each (RenamedName choice other r.forth) (punned n p)
punned_renamed {choice} {other} r n p = by p.pattern refl p.label.last refl
  where
    by : (o : Option Pattern) → p.pattern ≡ o → (l : Option Tok) → p.label.last ≡ l → Each (RenamedName choice other r.forth) (punned n p)
    by (Some q) e l g = rw (e, punned) no_one
    by None e None g = rw (e, g, punned) no_one
    by None e (Some t) g = rw (e, g, punned) (one_and (record {
      gives = λ c d i j. ap (λ x. x.type_at p.node) j ∙ r.nodes p.node ∙ ap (λ x. apply (renaming r.forth) (x.type_at p.node)) (sym i);
      chosen = λ c i v o. at_node p.node (subst (λ x. occurs v (x.type_at p.node) ≡ true) i o);
    }) no_one)

field_renamed : {choice other : Choice} (r : AreRenamedChoices choice other) (n : ℕ) (p : FieldPattern) → RenamedField choice other r.forth p → Each (RenamedName choice other r.forth) (names_in_field n p)
field_renamed {choice} {other} r n p s = by p.pattern refl s.pattern
  where
    by : (o : Option Pattern) → p.pattern ≡ o → IfThere (RenamedNames choice other r.forth) o → Each (RenamedName choice other r.forth) (names_in_field n p)
    by None e absent = rw (e, names_in_field) (punned_renamed r n p)
    by (Some q) e (there z) = rw (e, names_in_field) z.binds

-- parts of slots
slotted : {P : Child → Type 0} (s : ℕ) (cs : List Child) → Each P cs → Each P (in_slot s cs)
slotted s [] no_one = no_one
slotted {P} s (c ∷ cs) (one_and h each) = by (c.slot == s) (slotted s cs each)
  where
    by : (b : Bool) → Each P (in_slot s cs) → Each P (if b then c ∷ in_slot s cs else in_slot s cs)
    by true g = one_and h g
    by false g = g

patterns_renamed : {choice other : Choice} {f : ℕ → ℕ} (s : ℕ) (cs : List Child) → Each (BesideChild choice other f) cs → Each (RenamedNames choice other f) (patterns_in s cs)
patterns_renamed {choice} {other} {f} s cs each = mapped (RenamedNames choice other f) (λ c. c.pattern) (in_slot s cs) (λ c h. h.pattern) (slotted s cs each)

pattern_renamed : {choice other : Choice} {f : ℕ → ℕ} (s : ℕ) (cs : List Child) → Each (BesideChild choice other f) cs → RenamedNames choice other f (pattern_in s cs)
pattern_renamed {choice} {other} {f} s cs each = by (first_of (patterns_in s cs)) (first_there (patterns_in s cs) (patterns_renamed s cs each))
  where
    by : (o : Option Pattern) → IfThere (RenamedNames choice other f) o → RenamedNames choice other f (elim o [ None ↦ no_pattern_at 0 (place 0 0) | Some p ↦ p ])
    by None absent = record { binds = no_one }
    by (Some p) (there h) = h

expressions_same : {choice other : Choice} {f : ℕ → ℕ} (s : ℕ) (cs : List Child) → Each (BesideChild choice other f) cs → Each SameValue (expressions_in s cs)
expressions_same s cs each = mapped SameValue (λ c. c.expression) (in_slot s cs) (λ c h. h.expression) (slotted s cs each)

expression_same : {choice other : Choice} {f : ℕ → ℕ} (s : ℕ) (cs : List Child) → Each (BesideChild choice other f) cs → SameValue (expression_in s cs)
expression_same s cs each = by (first_of (expressions_in s cs)) (first_there (expressions_in s cs) (expressions_same s cs each))
  where
    by : (o : Option Expression) → IfThere SameValue o → SameValue (elim o [ None ↦ no_expression_at 0 (place 0 0) | Some e ↦ e ])
    by None absent = record { values = λ c d g. refl }
    by (Some e) (there h) = h

-- patterns by their rows
papp_renamed : {choice other : Choice} {f : ℕ → ℕ} (n : ℕ) (q : Place) (head p : Pattern) → RenamedNames choice other f p → RenamedNames choice other f (papp n q head p)
papp_renamed {choice} {other} {f} n q head p s = by head.constructor refl
  where
    by : (o : Option Written) → head.constructor ≡ o → RenamedNames choice other f (papp n q head p)
    by None e = rw (e, papp) (record { binds = all_renamed (p ∷ []) (one_and s no_one) })
    by (Some path) e = rw (e, papp) (record { binds = s.binds })

pname_renamed : {choice other : Choice} (r : AreRenamedChoices choice other) (n : ℕ) (q : Place) (t : Option Tok) → RenamedNames choice other r.forth (pname n q t)
pname_renamed r n q None = record { binds = no_one }
pname_renamed r n q (Some t) = record { binds = one_and (bound_at_renamed r n t) no_one }

pparen_renamed : {choice other : Choice} {f : ℕ → ℕ} (n : ℕ) (q : Place) (p : Pattern) (t : Option TypeExpression) → RenamedNames choice other f p → RenamedNames choice other f (pparen n q p t)
pparen_renamed n q p None s = record { binds = all_renamed (p ∷ []) (one_and s no_one) }
pparen_renamed n q p (Some t) s = record { binds = all_renamed (p ∷ []) (one_and s no_one) }

pas_renamed : {choice other : Choice} (r : AreRenamedChoices choice other) (n : ℕ) (q : Place) (p : Pattern) (t : Option Tok) → RenamedNames choice other r.forth p → RenamedNames choice other r.forth (pas n q p t)
pas_renamed r n q p None s = record { binds = all_renamed (p ∷ []) (one_and s no_one) }
pas_renamed r n q p (Some t) s = record { binds = each_append s.binds (one_and (bound_at_renamed r n t) no_one) }

abbrev fields_names : ℕ → List FieldPattern → List Bound
fields_names n [] = []
fields_names n (p ∷ ps) = names_in_field n p ++ fields_names n ps

precord_renamed : {choice other : Choice} (r : AreRenamedChoices choice other) (n : ℕ) (q : Place) (ps : List FieldPattern) → Each (RenamedField choice other r.forth) ps → RenamedNames choice other r.forth (precord n q ps)
precord_renamed {choice} {other} r n q ps each = record { binds = names ps each }
  where
    names : (ps : List FieldPattern) → Each (RenamedField choice other r.forth) ps → Each (RenamedName choice other r.forth) (fields_names n ps)
    names [] no_one = no_one
    names (p ∷ ps) (one_and s each) = each_append (field_renamed r n p s) (names ps each)

pattern_row_renamed : {choice other : Choice} (r : AreRenamedChoices choice other) (row : Row) (n : ℕ) (q : Place) (cs : List Child) → Each (BesideChild choice other r.forth) cs → RenamedNames choice other r.forth (pattern_row row n q cs)
unfolding pattern_row
pattern_row_renamed r pname_row n q cs h = pname_renamed r n q (token_in 0 cs)
pattern_row_renamed r pany_row n q cs h = record { binds = no_one }
pattern_row_renamed r pconst_row n q cs h = record { binds = no_one }
pattern_row_renamed r pneg_row n q cs h = record { binds = no_one }
pattern_row_renamed r pcon_row n q cs h = record { binds = no_one }
pattern_row_renamed r pparen_row n q cs h = pparen_renamed n q (pattern_in 1 cs) (first_of (types_in 3 cs)) (pattern_renamed 1 cs h)
pattern_row_renamed r plist_row n q cs h = record { binds = all_renamed (patterns_in 1 cs) (patterns_renamed 1 cs h) }
pattern_row_renamed {choice} {other} r precord_row n q cs h = precord_renamed r n q (filter_map (λ c. c.field_pattern) (in_slot 1 cs)) (filtered (RenamedField choice other r.forth) (λ c. c.field_pattern) (in_slot 1 cs) (λ c g. g.field_pattern) (slotted 1 cs h))
pattern_row_renamed r papp_row n q cs h = papp_renamed n q (pattern_in 0 cs) (pattern_in 1 cs) (pattern_renamed 1 cs h)
pattern_row_renamed r pcons_row n q cs h = record { binds = all_renamed (pattern_in 0 cs ∷ pattern_in 2 cs ∷ []) (one_and (pattern_renamed 0 cs h) (one_and (pattern_renamed 2 cs h) no_one)) }
pattern_row_renamed r ptuple_row n q cs h = record { binds = all_renamed (patterns_in 0 cs ++ patterns_in 2 cs) (each_append (patterns_renamed 0 cs h) (patterns_renamed 2 cs h)) }
pattern_row_renamed r por_row n q cs h = let s = pattern_renamed 0 cs h in record { binds = s.binds }
pattern_row_renamed r pas_row n q cs h = pas_renamed r n q (pattern_in 0 cs) (token_in 2 cs) (pattern_renamed 0 cs h)
pattern_row_renamed r _ n q cs h = record { binds = no_one }

-- what is non-expansive
and_same : (a b c d : Bool) → a ≡ c → b ≡ d → (a && b) ≡ (c && d)
and_same a b c d e f = cc

all_values_same : (c d : Context) → EntriesAlike c.env d.env → (es : List Expression) → Each SameValue es → all_values c es ≡ all_values d es
all_values_same c d g [] no_one = refl
all_values_same c d g (e ∷ es) (one_and s each) = and_same (e.is_value c) (all_values c es) (e.is_value d) (all_values d es) (s.values c d g) (all_values_same c d g es each)

path_same : (n : ℕ) (q : Place) (p : Written) → SameValue (path_expression n q p)
path_same n q p = by p.last refl
  where
    of_kind : (t : Tok) → p.last ≡ Some t → (s : Kind) → t.kind ≡ s → SameValue (path_expression n q p)
    of_kind t e upper f = rw (e, f, path_expression) (record { values = λ c d g. refl })
    of_kind t e _ f = rw (e, f, path_expression) (record { values = λ c d g. refl })

    by : (o : Option Tok) → p.last ≡ o → SameValue (path_expression n q p)
    by None e = rw (e, path_expression) (record { values = λ c d g. refl })
    by (Some t) e = of_kind t e t.kind refl

paren_same : (n : ℕ) (q : Place) (e : Expression) (t : Option TypeExpression) → SameValue e → SameValue (parenthesised n q e t)
paren_same n q e None s = record { values = s.values }
paren_same n q e (Some t) s = record { values = s.values }

begun_same : (n : ℕ) (q : Place) (e : Option Expression) → IfThere SameValue e → SameValue (begun n q e)
begun_same n q None absent = record { values = λ c d g. refl }
begun_same n q (Some e) (there s) = record { values = s.values }

built_same : (c d : Context) → EntriesAlike c.env d.env → (es : List Expression) (f : Form) → Each SameValue es → is_built_value c es f ≡ is_built_value d es f
built_same c d g es (a_constructor p) each = ap (λ b. (length es == 1) && b) (all_values_same c d g es each)
built_same c d g es (a_path p) each = refl
built_same c d g es a_float each = refl
built_same c d g es a_false each = refl
built_same c d g es (a_field p l) each = refl
built_same c d g es no_expression each = refl
built_same c d g es other each = refl

if_same : (n : ℕ) (q : Place) (e f : Expression) (h : Option Expression) → SameValue f → IfThere SameValue h → SameValue (if_expression n q e f h)
if_same n q e f None s absent = record { values = s.values }
if_same n q e f (Some h) s (there z) = record { values = λ c d g. and_same (f.is_value c) (h.is_value c) (f.is_value d) (h.is_value d) (s.values c d g) (z.values c d g) }

-- records
constant_is : (f : Found) → elim (then_by (entry_of f) (λ e. option_map (λ r. r.0) (label_in e.stands_for))) [ None ↦ true | Some d ↦ none_mutable (labels_in d.shape) ] ≡ constant_found f
constant_is (an_entry e) = refl
constant_is a_hole = refl
constant_is nothing = refl

abbrev value_in : Context → Option Expression → Bool
value_in c o = elim o [ None ↦ true | Some e ↦ e.is_value c ]

value_in_same : (c d : Context) → EntriesAlike c.env d.env → (o : Option Expression) → IfThere SameValue o → value_in c o ≡ value_in d o
value_in_same c d g None absent = refl
value_in_same c d g (Some e) (there s) = s.values c d g

field_values_same : (c d : Context) → EntriesAlike c.env d.env → (fs : List Field) → Each SameField fs → all_field_values c fs ≡ all_field_values d fs
field_values_same c d g [] no_one = refl
field_values_same c d g (x ∷ xs) (one_and s each) = and_same (value_in c x.value) (all_field_values c xs) (value_in d x.value) (all_field_values d xs) (value_in_same c d g x.value s.value) (field_values_same c d g xs each)

constant_same : (c d : Context) → EntriesAlike c.env d.env → (fs : List Field) → Each SameField fs → is_constant_record c fs ≡ is_constant_record d fs
constant_same c d g fs each =
    and_same _ (all_field_values c fs) _ (all_field_values d fs)
    (constant_is (record_of c.env (records.labels_of (labels_of fs))) ∙ records_alike c.env d.env (records.labels_of (labels_of fs)) g ∙ sym (constant_is (record_of d.env (records.labels_of (labels_of fs)))))
    (field_values_same c d g fs each)

first_same : (f : Form) (n : ℕ) (value : Option Expression) → IfThere SameValue value → Each SameField (first_field f n value)
first_same (a_path p) n value s = one_and (record { value = s }) no_one
first_same (a_constructor p) n value s = no_one
first_same a_float n value s = no_one
first_same a_false n value s = no_one
first_same (a_field p l) n value s = no_one
first_same no_expression n value s = no_one
first_same other n value s = no_one

record_same : (n : ℕ) (q : Place) (e : Expression) (value : Option Expression) (fs : List Field) → IfThere SameValue value → Each SameField fs → SameValue (record_expression n q e value fs)
record_same n q e value fs s each = record { values = λ c d g. constant_same c d g (first_field e.form e.node value ++ fs) (each_append (first_same e.form e.node value s) each) }

-- cases and bindings
cases_same : (c d : Context) → EntriesAlike c.env d.env → (xs : List Case) → Each SameCase xs → cases_are_values c xs ≡ cases_are_values d xs
cases_same c d g [] no_one = refl
cases_same c d g (x ∷ xs) (one_and s each) =
    and_same (not (is_some x.guard) && x.body.is_value c) (cases_are_values c xs) (not (is_some x.guard) && x.body.is_value d) (cases_are_values d xs) (ap (λ b. not (is_some x.guard) && b) (s.body.values c d g)) (cases_same c d g xs each)

pub generalises_same : {choice other : Choice} {f : ℕ → ℕ} (c d : Context) → EntriesAlike c.env d.env → (b : Binding) → BesideBinding choice other f b → generalises c b ≡ generalises d b
generalises_same c d g b s = by b.parameters refl
  where
    by : (ps : List Pattern) → b.parameters ≡ ps → generalises c b ≡ generalises d b
    by [] e = rw (e, generalises) (s.body.values c d g)
    by (p ∷ ps) e = rw (e, generalises) refl

all_generalise_same : {choice other : Choice} {f : ℕ → ℕ} (c d : Context) → EntriesAlike c.env d.env → (bs : List Binding) → Each (BesideBinding choice other f) bs → all_generalise c bs ≡ all_generalise d bs
all_generalise_same c d g [] no_one = refl
all_generalise_same c d g (b ∷ bs) (one_and s each) = and_same (generalises c b) (all_generalise c bs) (generalises d b) (all_generalise d bs) (generalises_same c d g b s) (all_generalise_same c d g bs each)

pub bindings_beside : {choice other : Choice} {f : ℕ → ℕ} (s : ℕ) (cs : List Child) → Each (BesideChild choice other f) cs → Each (BesideBinding choice other f) (bindings_in s cs)
bindings_beside {choice} {other} {f} s cs each = filtered (BesideBinding choice other f) (λ c. c.binding) (in_slot s cs) (λ c h. h.binding) (slotted s cs each)

cases_beside : {choice other : Choice} {f : ℕ → ℕ} (s : ℕ) (cs : List Child) → Each (BesideChild choice other f) cs → Each SameCase (cases_in s cs)
cases_beside s cs each = filtered SameCase (λ c. c.case) (in_slot s cs) (λ c h. h.case) (slotted s cs each)

fields_beside : {choice other : Choice} {f : ℕ → ℕ} (s : ℕ) (cs : List Child) → Each (BesideChild choice other f) cs → Each SameField (fields_in s cs)
fields_beside s cs each = filtered SameField (λ c. c.field) (in_slot s cs) (λ c h. h.field) (slotted s cs each)

expression_row_same : {choice other : Choice} {f : ℕ → ℕ} (row : Row) (n : ℕ) (q : Place) (cs : List Child) → Each (BesideChild choice other f) cs → SameValue (expression_row row n q cs)
unfolding expression_row
expression_row_same name_row n q cs h = record { values = λ c d g. refl }
expression_row_same econ_row n q cs h = record { values = λ c d g. refl }
expression_row_same epath_row n q cs h = path_same n q (path_in 0 1 cs)
expression_row_same econst_row n q cs h = record { values = λ c d g. refl }
expression_row_same hole_row n q cs h = record { values = λ c d g. refl }
expression_row_same eparen_row n q cs h = paren_same n q (expression_in 1 cs) (first_of (types_in 3 cs)) (expression_same 1 cs h)
expression_row_same ebegin_row n q cs h = begun_same n q (first_of (expressions_in 1 cs)) (first_there (expressions_in 1 cs) (expressions_same 1 cs h))
expression_row_same elist_row n q cs h = record { values = λ c d g. all_values_same c d g (expressions_in 1 cs) (expressions_same 1 cs h) }
expression_row_same erecord_row n q cs h = by (is_some (token_in 4 cs))
  where
    by : (b : Bool) → SameValue (if b then update_expression n q (expression_in 1 cs) (fields_in 5 cs) else record_expression n q (expression_in 1 cs) (first_of (expressions_in 3 cs)) (fields_in 5 cs))
    by true = let s = expression_same 1 cs h in record { values = λ c d g. and_same ((expression_in 1 cs).is_value c) (is_constant_record c (fields_in 5 cs)) ((expression_in 1 cs).is_value d) (is_constant_record d (fields_in 5 cs)) (s.values c d g) (constant_same c d g (fields_in 5 cs) (fields_beside 5 cs h)) }
    by false = record_same n q (expression_in 1 cs) (first_of (expressions_in 3 cs)) (fields_in 5 cs) (first_there (expressions_in 3 cs) (expressions_same 3 cs h)) (fields_beside 5 cs h)
expression_row_same prefix_row n q cs h = record { values = λ c d g. refl }
expression_row_same field_row n q cs h = let s = expression_same 0 cs h in record { values = s.values }
expression_row_same eapp_row n q cs h = record { values = λ c d g. built_same c d g (expressions_in 1 cs) (expression_in 0 cs).form (expressions_same 1 cs h) }
expression_row_same eassert_row n q cs h = record { values = λ c d g. refl }
expression_row_same ewhile_row n q cs h = record { values = λ c d g. refl }
expression_row_same efor_row n q cs h = record { values = λ c d g. refl }
expression_row_same eneg_row n q cs h = record { values = λ c d g. refl }
expression_row_same infix_row n q cs h = record { values = λ c d g. refl }
expression_row_same econs_row n q cs h = let s = expression_same 0 cs h in let z = expression_same 2 cs h in
    record { values = λ c d g. and_same ((expression_in 0 cs).is_value c) ((expression_in 2 cs).is_value c) ((expression_in 0 cs).is_value d) ((expression_in 2 cs).is_value d) (s.values c d g) (z.values c d g) }
expression_row_same etuple_row n q cs h = record { values = λ c d g. all_values_same c d g (expressions_in 0 cs ++ expressions_in 2 cs) (each_append (expressions_same 0 cs h) (expressions_same 2 cs h)) }
expression_row_same eset_row n q cs h = record { values = λ c d g. refl }
expression_row_same eif_row n q cs h = if_same n q (expression_in 1 cs) (expression_in 3 cs) (first_of (expressions_in 5 cs)) (expression_same 3 cs h) (first_there (expressions_in 5 cs) (expressions_same 5 cs h))
expression_row_same eseq_row n q cs h = record { values = λ c d g. refl }
expression_row_same {choice} {other} {f} elet_row n q cs h = let s = expression_same 5 cs h in
    record {
      values = λ c d g. and_same (all_generalise c (bindings_in 2 cs)) ((expression_in 5 cs).is_value c) (all_generalise d (bindings_in 2 cs)) ((expression_in 5 cs).is_value d)
          (all_generalise_same c d g (bindings_in 2 cs) (bindings_beside 2 cs h)) (s.values c d g);
    }
expression_row_same ematch_row n q cs h = let s = expression_same 1 cs h in
    record { values = λ c d g. and_same ((expression_in 1 cs).is_value c) (cases_are_values c (cases_in 4 cs)) ((expression_in 1 cs).is_value d) (cases_are_values d (cases_in 4 cs)) (s.values c d g) (cases_same c d g (cases_in 4 cs) (cases_beside 4 cs h)) }
expression_row_same etry_row n q cs h = record { values = λ c d g. refl }
expression_row_same efun_row n q cs h = record { values = λ c d g. refl }
expression_row_same efunction_row n q cs h = record { values = λ c d g. refl }
expression_row_same _ n q cs h = record { values = λ c d g. refl }

-- the parts that are no node of a sort of their own
binding_row_beside : {choice other : Choice} {f : ℕ → ℕ} (row : Row) (n : ℕ) (cs : List Child) → Each (BesideChild choice other f) cs → IfThere (BesideBinding choice other f) (binding_of row n cs)
binding_row_beside binding_row n cs h = there (record { pattern = pattern_renamed 0 cs h; body = expression_same 5 cs h })
binding_row_beside _ n cs h = absent

case_row_beside : {choice other : Choice} {f : ℕ → ℕ} (row : Row) (n : ℕ) (cs : List Child) → Each (BesideChild choice other f) cs → IfThere SameCase (case_of row n cs)
case_row_beside case_row n cs h = there (record { body = expression_same 4 cs h })
case_row_beside _ n cs h = absent

field_row_beside : {choice other : Choice} {f : ℕ → ℕ} (row : Row) (n : ℕ) (cs : List Child) → Each (BesideChild choice other f) cs → IfThere SameField (field_of row n cs)
field_row_beside ffield_row n cs h = there (record { value = first_there (expressions_in 3 cs) (expressions_same 3 cs h) })
field_row_beside _ n cs h = absent

field_pattern_beside : {choice other : Choice} {f : ℕ → ℕ} (row : Row) (n : ℕ) (cs : List Child) → Each (BesideChild choice other f) cs → IfThere (RenamedField choice other f) (field_pattern_of row n cs)
field_pattern_beside qfield_row n cs h = there (record { pattern = first_there (patterns_in 3 cs) (patterns_renamed 3 cs h) })
field_pattern_beside _ n cs h = absent

node_beside : {choice other : Choice} (r : AreRenamedChoices choice other) (slot : ℕ) (p : Part) (row : Row) (n : ℕ) (q : Place) (cs : List Child) → Each (BesideChild choice other r.forth) cs → BesideChild choice other r.forth (node_child slot p row n q cs)
node_beside r slot p row n q cs h =
    let s = expression_row_same row n q cs h in
    let z = pattern_row_renamed r row n q cs h in
    record {
      expression = record { values = s.values };
      pattern = record { binds = z.binds };
      binding = binding_row_beside row n cs h;
      case = case_row_beside row n cs h;
      field = field_row_beside row n cs h;
      field_pattern = field_pattern_beside row n cs h;
    }

leaf_beside : {choice other : Choice} (r : AreRenamedChoices choice other) (slot : ℕ) (p : Part) (n : ℕ) (q : Place) → BesideChild choice other r.forth (leaf_child slot p n q)
leaf_beside r slot p n q = record { expression = record { values = λ c d g. refl }; pattern = record { binds = no_one }; binding = absent; case = absent; field = absent; field_pattern = absent }

mutual
  pub children_beside : {choice other : Choice} (r : AreRenamedChoices choice other) (n : ℕ) (row : Row) (ps : Forest) → Each (BesideChild choice other r.forth) (children_of n row ps)
  children_beside r n row no_parts = no_one
  children_beside r n row (part slot p ps) = one_and (child_beside r n slot p) (children_beside r (n + part_size row slot p) row ps)

  pub child_beside : {choice other : Choice} (r : AreRenamedChoices choice other) (n : ℕ) (slot : ℕ) (p : Part) → BesideChild choice other r.forth (child_of n slot p)
  child_beside r n slot (taken t) = leaf_beside r slot (taken t) n (place_of t)
  child_beside r n slot (inner t) = tree_beside r n slot t
  child_beside r n slot (missing p) = leaf_beside r slot (missing p) n p

  pub tree_beside : {choice other : Choice} (r : AreRenamedChoices choice other) (n : ℕ) (slot : ℕ) (t : Tree) → BesideChild choice other r.forth (tree_child n slot t)
  tree_beside r n slot (node row x ps) = node_beside r slot (inner (node row x ps)) row n x.span (children_of (n + 1) row ps) (children_beside r (n + 1) row ps)
