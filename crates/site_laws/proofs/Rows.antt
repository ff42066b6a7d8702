-- What each row asks is asked once where its parts ask in ranges of their own.
use Rattle.std.proofs.Common.{◌≡◌, ◌∙◌, inl, inr, ◌⊎◌, ℕ, ◌+◌, ◌≤◌, ◌==◌, Bool, true, false, List, [], ◌∷◌, ◌++◌, map, filter_map, Option, Some, None, refl, sym, ap, arith, if◌then◌else◌}
use Rattle.std.specs.List.{cons_option}
use Rattle.std.proofs.lemmas.Bool.{eqb-true}
use Rattle.tree_model.specs.Trees.{Place, place}
use Rattle.tree_model.specs.Rows.{Row, alias_row, variant_row, record_row, con_row, label_row, decl_row, tvar_row, tcon_row, tparen_row, tapp_row, ttuple_row, tarrow_row, pname_row, pany_row, pconst_row, pneg_row, pcon_row, pparen_row, plist_row, precord_row, papp_row, pcons_row, ptuple_row, por_row, pas_row, name_row, econ_row, epath_row, econst_row, hole_row, eparen_row, ebegin_row, elist_row, erecord_row, prefix_row, field_row, eapp_row, eassert_row, ewhile_row, efor_row, eneg_row, infix_row, econs_row, etuple_row, eset_row, eif_row, eseq_row, elet_row, ematch_row, etry_row, efun_row, efunction_row}
use Rattle.typing_model.specs.Demands.{Site}
use Rattle.typing_model.specs.Parts.{Expression, Pattern, TypeExpression, Binding, ConstructorPart, RightSide, Child, in_slot, path_in, token_in, expressions_in, expression_in, patterns_in, pattern_in, types_in, type_in, first_of, no_expression_at, no_pattern_at, no_type_at}
use Rattle.typing_model.specs.Names.{then_by}
use Rattle.typing_model.specs.Patterns.{pattern_row}
use Rattle.typing_model.specs.TypeExpressions as types
use Rattle.typing_model.specs.Expressions.{expression_row, cases_in, fields_in, bindings_in, is_some, update_expression, record_expression}
use Rattle.typing_model.specs.Declarations.{last_token, tokens_of_slot, told_row, right_side_row}
use Rattle.typing_model.specs.Meanings.{constructor_of, label_of, declaration_of}
use Rattle.typing_laws.proofs.Bools.{no_yes}
use Rattle.typing_laws.proofs.Steady.{IfThere, absent, there}
use Rattle.site_laws.proofs.Sites.{Apart, Lies, both_in, At, Range, Others, none_within, IfHere, gone, here, Every, none_of, one_of, every_in, every_both}
use Rattle.site_laws.proofs.Types.{ApartType, type_in as type_in_set, no_type_apart, tvar_apart, tcon_apart, tapp_apart, tparen_apart, ttuple_apart, tarrow_apart}
use Rattle.site_laws.proofs.Patterns.{ApartPattern, ApartFieldPattern, pattern_in_set, no_pattern_apart, pname_apart, pconst_apart, pneg_apart, pcon_apart, papp_apart, pparen_apart, plist_apart, pcons_apart, ptuple_apart, pas_apart, por_apart, precord_apart}
use Rattle.site_laws.proofs.Expressions.{ApartExpression, expression_in_set, no_expression_apart, name_apart, econ_apart, path_apart, econst_apart, hole_apart, eparen_apart, ebegin_apart, elist_apart, econs_apart, etuple_apart, eapp_apart, infix_apart, prefix_apart, eneg_apart, field_apart, eset_apart, eassert_apart, eif_apart, eseq_apart, ewhile_apart, efor_apart}
use Rattle.site_laws.proofs.Records.{ApartField, ApartCase, erecord_apart, eupdate_apart, ematch_apart, etry_apart, efunction_apart, efun_apart}
use Rattle.site_laws.proofs.Declarations.{Ranged, no_part, and_part, ranged_lower, ConstructorIn, LabelIn, ApartTold, told_in_set, constructors_apart, labels_apart, ApartRight, right_in_set, another_apart, own_right, ApartDeclaration}
use Rattle.site_laws.proofs.Bindings.{ApartBinding, Bindings, no_binding, and_binding, elet_apart}

-- the argument of an exception makes its demands in a set, each once
pub record ApartException (P : Site → Type 0) (k : ConstructorPart) : Type 1 where
  pub argument : IfThere (ApartType P) k.argument

-- a part of a row, as each sort that stands in a `let`, a declaration of types or an exception, makes its demands in a range, each once
pub record ApartChild (lo hi : ℕ) (x : Child) : Type 1 where
  pub expression : ApartExpression (Range lo hi) x.expression
  pub pattern : ApartPattern (Range lo hi) x.pattern
  pub type_expression : ApartType (Range lo hi) x.type_expression
  pub binding : IfHere (ApartBinding (Range lo hi)) x.binding
  pub case : IfThere (ApartCase (Range lo hi)) x.case
  pub field : IfThere (ApartField (Range lo hi)) x.field
  pub field_pattern : IfThere (ApartFieldPattern (Range lo hi)) x.field_pattern
  pub constructor : IfHere (ConstructorIn lo hi) x.constructor
  pub label : IfHere (LabelIn lo hi) x.label
  pub told : IfHere (ApartTold (Range lo hi)) x.told
  pub right_side : IfHere (ApartRight (Range lo hi)) x.right_side
  pub declaration : IfHere (ApartDeclaration lo hi) x.declaration

-- the parts of a row, each in a range behind that of the part before
pub data Spread : ℕ → ℕ → List Child → Type 1 where
  ends : {lo : ℕ} → Spread lo lo []
  more : {lo mid hi : ℕ} {c : Child} {cs : List Child} → lo ≤ mid → ApartChild lo mid c → Spread mid hi cs → Spread lo hi (c ∷ cs)

pub spread_le : {lo hi : ℕ} {cs : List Child} → Spread lo hi cs → lo ≤ hi
spread_le ends = omega arith
spread_le (more le one rest) = let h = spread_le rest in omega (arith, le, h)

-- the demands of the parts of a slot
abbrev pub InSlot : (s : ℕ) {lo hi : ℕ} {cs : List Child} → Spread lo hi cs → Site → Type 0
InSlot s ends x = ⊥
InSlot s (more {lo = lo} {mid = mid} {c = c} le one rest) x = (((c.slot == s) ≡ true) × Range lo mid x) ⊎ InSlot s rest x

pub slot_range : (s : ℕ) {lo hi : ℕ} {cs : List Child} (h : Spread lo hi cs) (x : Site) → InSlot s h x → Range lo hi x
slot_range s ends x i = absurd (i)
slot_range s (more le one rest) x (inl (e, (f, g))) = (f, let k = spread_le rest in omega (arith, g, k))
slot_range s (more le one rest) x (inr i) = let (f, g) = slot_range s rest x i in (omega (arith, le, f), g)

pub slots_apart : (s t : ℕ) → (s == t) ≡ false → {lo hi : ℕ} {cs : List Child} (h : Spread lo hi cs) (x : Site) → InSlot s h x → InSlot t h x → ⊥
slots_apart s t ne ends x i j = i
slots_apart s t ne (more {c = c} le one rest) x (inl i) (inl j) =
    let same : s ≡ t = sym (eqb-true c.slot s i.0) ∙ eqb-true c.slot t j.0 in
    no_yes (sym ne ∙ ap (λ k. s == k) (sym same) ∙ itself s)
  where
    itself : (k : ℕ) → (k == k) ≡ true
    itself k = grind arith
slots_apart s t ne (more le one rest) x (inl (e, (f, g))) (inr j) = let (k, l) = slot_range t rest x j in omega (arith, g, k)
slots_apart s t ne (more le one rest) x (inr i) (inl (e, (f, g))) = let (k, l) = slot_range s rest x i in omega (arith, g, k)
slots_apart s t ne (more le one rest) x (inr i) (inr j) = slots_apart s t ne rest x i j

-- the parts of a slot, in order
every_slot : {X : Type 0} (Q : (Site → Type 0) → X → Type 0) (f : Child → X) → ((lo hi : ℕ) (c : Child) → ApartChild lo hi c → Q (Range lo hi) (f c)) → (s : ℕ) {lo hi : ℕ} {cs : List Child} (h : Spread lo hi cs) → Every Q (InSlot s h) (map f (in_slot s cs))
every_slot Q f get s ends = none_of
every_slot Q f get s (more {lo = lo} {mid = mid} {c = c} {cs = cs} le one rest) = by (every_slot Q f get s rest) (c.slot == s) refl
  where
    by : Every Q (InSlot s rest) (map f (in_slot s cs)) → (b : Bool) → (c.slot == s) ≡ b → Every Q (InSlot s (more le one rest)) (map f (if b then c ∷ in_slot s cs else in_slot s cs))
    by others true e = one_of (get lo mid c one) others (λ x i j. let (k, l) = slot_range s rest x j in let m = i.1 in omega (arith, m, k)) (λ x i. inl (e, i)) (λ x i. inr i)
    by others false e = every_in (λ x i. inr i) others

-- the same of those that may be parts of a sort
every_kind : {X : Type 0} (Q : (Site → Type 0) → X → Type 0) (f : Child → Option X) → ((lo hi : ℕ) (c : Child) → ApartChild lo hi c → IfThere (Q (Range lo hi)) (f c)) → (s : ℕ) {lo hi : ℕ} {cs : List Child} (h : Spread lo hi cs) → Every Q (InSlot s h) (filter_map f (in_slot s cs))
every_kind Q f get s ends = none_of
every_kind {X} Q f get s (more {lo = lo} {mid = mid} {c = c} {cs = cs} le one rest) = by (every_kind Q f get s rest) (c.slot == s) refl
  where
    kind : Every Q (InSlot s rest) (filter_map f (in_slot s cs)) → (c.slot == s) ≡ true → (o : Option X) → IfThere (Q (Range lo mid)) o → Every Q (InSlot s (more le one rest)) (cons_option o (filter_map f (in_slot s cs)))
    kind others e None absent = every_in (λ x i. inr i) others
    kind others e (Some y) (there q) = one_of q others (λ x i j. let (k, l) = slot_range s rest x j in let m = i.1 in omega (arith, m, k)) (λ x i. inl (e, i)) (λ x i. inr i)

    by : Every Q (InSlot s rest) (filter_map f (in_slot s cs)) → (b : Bool) → (c.slot == s) ≡ b → Every Q (InSlot s (more le one rest)) (filter_map f (if b then c ∷ in_slot s cs else in_slot s cs))
    by others true e = kind others e (f c) (get lo mid c one)
    by others false e = every_in (λ x i. inr i) others

-- bindings in a wider set
pub wider : {P R : Site → Type 0} {bs : List Binding} → Lies P R → Bindings P bs → Bindings R bs
wider g no_binding = no_binding
wider g (and_binding q others apart a b) = and_binding q others apart (λ x i. g x (a x i)) (λ x i. g x (b x i))

pub bindings_slot : (s : ℕ) {lo hi : ℕ} {cs : List Child} (h : Spread lo hi cs) → Bindings (InSlot s h) (bindings_in s cs)
bindings_slot s ends = no_binding
bindings_slot s (more {lo = lo} {mid = mid} {c = c} {cs = cs} le one rest) = by (bindings_slot s rest) (c.slot == s) refl
  where
    kind : Bindings (InSlot s rest) (bindings_in s cs) → (c.slot == s) ≡ true → (o : Option Binding) → IfHere (ApartBinding (Range lo mid)) o → Bindings (InSlot s (more le one rest)) (cons_option o (bindings_in s cs))
    kind others e None gone = wider (λ x i. inr i) others
    kind others e (Some y) (here q) = and_binding q others (λ x i j. let (k, l) = slot_range s rest x j in let m = i.1 in omega (arith, m, k)) (λ x i. inl (e, i)) (λ x i. inr i)

    by : Bindings (InSlot s rest) (bindings_in s cs) → (b : Bool) → (c.slot == s) ≡ b → Bindings (InSlot s (more le one rest)) (filter_map (λ x. x.binding) (if b then c ∷ in_slot s cs else in_slot s cs))
    by others true e = kind others e c.binding one.binding
    by others false e = wider (λ x i. inr i) others

-- the first part of a slot, where it is of a sort
first_kind : {X : Type 0} (Q : (Site → Type 0) → X → Type 1) (f : Child → Option X) → ((P R : Site → Type 0) (x : X) → Lies P R → Q P x → Q R x) → ((lo hi : ℕ) (c : Child) → ApartChild lo hi c → IfHere (Q (Range lo hi)) (f c)) →
    (s : ℕ) {lo hi : ℕ} {cs : List Child} (h : Spread lo hi cs) → IfHere (Q (InSlot s h)) (then_by (first_of (in_slot s cs)) f)
first_kind Q f wide get s ends = gone
first_kind {X} Q f wide get s (more {lo = lo} {mid = mid} {c = c} {cs = cs} le one rest) = by (first_kind Q f wide get s rest) (c.slot == s) refl
  where
    in_set : {P : Site → Type 0} {o : Option X} → Lies P (InSlot s (more le one rest)) → IfHere (Q P) o → IfHere (Q (InSlot s (more le one rest))) o
    in_set g gone = gone
    in_set {P} g (here {x = x} q) = here (wide P (InSlot s (more le one rest)) x g q)

    by : IfHere (Q (InSlot s rest)) (then_by (first_of (in_slot s cs)) f) → (b : Bool) → (c.slot == s) ≡ b → IfHere (Q (InSlot s (more le one rest))) (then_by (first_of (if b then c ∷ in_slot s cs else in_slot s cs)) f)
    by others true e = in_set (λ x i. inl (e, i)) (get lo mid c one)
    by others false e = in_set (λ x i. inr i) others

-- the parts of a slot that are of a sort, each in its range
ranged_slot : {X : Type 0} (Q : ℕ → ℕ → X → Type 1) (f : Child → Option X) → ((lo hi : ℕ) (c : Child) → ApartChild lo hi c → IfHere (Q lo hi) (f c)) → (s : ℕ) {lo hi : ℕ} {cs : List Child} → Spread lo hi cs → Ranged Q lo hi (filter_map f (in_slot s cs))
ranged_slot Q f get s ends = no_part (omega arith)
ranged_slot {X} Q f get s {hi = hi} (more {lo = lo} {mid = mid} {c = c} {cs = cs} le one rest) = by (ranged_slot Q f get s rest) (c.slot == s)
  where
    kind : Ranged Q mid hi (filter_map f (in_slot s cs)) → (o : Option X) → IfHere (Q lo mid) o → Ranged Q lo hi (cons_option o (filter_map f (in_slot s cs)))
    kind others None gone = ranged_lower le others
    kind others (Some y) (here q) = and_part (omega arith) le q others

    by : Ranged Q mid hi (filter_map f (in_slot s cs)) → (b : Bool) → Ranged Q lo hi (filter_map f (if b then c ∷ in_slot s cs else in_slot s cs))
    by others true = kind others (f c) (get lo mid c one)
    by others false = ranged_lower le others

-- the declarations of a slot
pub declarations_slot : (s : ℕ) {lo hi : ℕ} {cs : List Child} → Spread lo hi cs → Ranged ApartDeclaration lo hi (filter_map (λ c. c.declaration) (in_slot s cs))
declarations_slot s h = ranged_slot ApartDeclaration (λ c. c.declaration) (λ l m c k. k.declaration) s h

-- the constructor of an exception
pub first_exception : (s : ℕ) {lo hi : ℕ} {cs : List Child} (h : Spread lo hi cs) → IfHere (ApartException (InSlot s h)) (then_by (first_of (in_slot s cs)) (λ c. c.constructor))
first_exception s h = first_kind ApartException (λ c. c.constructor) (λ P R k g q. record { argument = argument_in g q.argument }) (λ lo hi c k. an_exception k.constructor) s h
  where
    argument_in : {P R : Site → Type 0} {o : Option TypeExpression} → Lies P R → IfThere (ApartType P) o → IfThere (ApartType R) o
    argument_in g absent = absent
    argument_in g (there q) = there (type_in_set g q)

    an_exception : {lo hi : ℕ} {o : Option ConstructorPart} → IfHere (ConstructorIn lo hi) o → IfHere (ApartException (Range lo hi)) o
    an_exception gone = gone
    an_exception (here q) = here (record { argument = argument_in (λ x i. let h = i.0 in (omega (arith, h), i.1)) q.argument })

-- the parts of a row at a node n, behind it
module _ (n : ℕ) {hi : ℕ} {cs : List Child} (h : Spread (n + 1) hi cs) where
  -- the demands of a slot are those of other nodes, in the row's range
  pub slot_others : (s : ℕ) → Lies (InSlot s h) (Others n)
  slot_others s x i e = let (k, l) = slot_range s h x i in omega (arith, k, e)

  pub slot_in : (s : ℕ) → Lies (InSlot s h) (Range n hi)
  slot_in s x i = let (k, l) = slot_range s h x i in (omega (arith, k), l)

  behind_node : Lies (Range (n + 1) hi) (Range n hi)
  behind_node x i = let k = i.0 in (omega (arith, k), i.1)

  pub node_in : Lies (At n) (Range n hi)
  node_in x e = let k = spread_le h in (omega (arith, e), omega (arith, e, k))

  pub expressions_slot : (s : ℕ) → Every ApartExpression (InSlot s h) (expressions_in s cs)
  expressions_slot s = every_slot ApartExpression (λ c. c.expression) (λ l m c k. k.expression) s h

  pub patterns_slot : (s : ℕ) → Every ApartPattern (InSlot s h) (patterns_in s cs)
  patterns_slot s = every_slot ApartPattern (λ c. c.pattern) (λ l m c k. k.pattern) s h

  pub types_slot : (s : ℕ) → Every ApartType (InSlot s h) (types_in s cs)
  types_slot s = every_slot ApartType (λ c. c.type_expression) (λ l m c k. k.type_expression) s h

  cases_slot : (s : ℕ) → Every ApartCase (InSlot s h) (cases_in s cs)
  cases_slot s = every_kind ApartCase (λ c. c.case) (λ l m c k. k.case) s h

  fields_slot : (s : ℕ) → Every ApartField (InSlot s h) (fields_in s cs)
  fields_slot s = every_kind ApartField (λ c. c.field) (λ l m c k. k.field) s h

  -- the first of a slot
  pub first_expression : (s : ℕ) → IfThere (ApartExpression (InSlot s h)) (first_of (expressions_in s cs))
  first_expression s = by (expressions_in s cs) (expressions_slot s)
    where
      by : (es : List Expression) → Every ApartExpression (InSlot s h) es → IfThere (ApartExpression (InSlot s h)) (first_of es)
      by [] none_of = absent
      by (e ∷ es) (one_of q rest apart a b) = there (expression_in_set a q)

  pub one_expression_slot : (s : ℕ) → ApartExpression (InSlot s h) (expression_in s cs)
  one_expression_slot s = by (first_of (expressions_in s cs)) (first_expression s)
    where
      by : (o : Option Expression) → IfThere (ApartExpression (InSlot s h)) o → ApartExpression (InSlot s h) (elim o [ None ↦ no_expression_at 0 (place 0 0) | Some e ↦ e ])
      by None absent = no_expression_apart 0 (place 0 0)
      by (Some e) (there q) = q

  pub first_pattern : (s : ℕ) → IfThere (ApartPattern (InSlot s h)) (first_of (patterns_in s cs))
  first_pattern s = by (patterns_in s cs) (patterns_slot s)
    where
      by : (ps : List Pattern) → Every ApartPattern (InSlot s h) ps → IfThere (ApartPattern (InSlot s h)) (first_of ps)
      by [] none_of = absent
      by (p ∷ ps) (one_of q rest apart a b) = there (pattern_in_set a q)

  pub one_pattern_slot : (s : ℕ) → ApartPattern (InSlot s h) (pattern_in s cs)
  one_pattern_slot s = by (first_of (patterns_in s cs)) (first_pattern s)
    where
      by : (o : Option Pattern) → IfThere (ApartPattern (InSlot s h)) o → ApartPattern (InSlot s h) (elim o [ None ↦ no_pattern_at 0 (place 0 0) | Some p ↦ p ])
      by None absent = no_pattern_apart 0 (place 0 0)
      by (Some p) (there q) = q

  pub first_type_slot : (s : ℕ) → IfThere (ApartType (InSlot s h)) (first_of (types_in s cs))
  first_type_slot s = by (types_in s cs) (types_slot s)
    where
      by : (ts : List TypeExpression) → Every ApartType (InSlot s h) ts → IfThere (ApartType (InSlot s h)) (first_of ts)
      by [] none_of = absent
      by (t ∷ ts) (one_of q rest apart a b) = there (type_in_set a q)

  one_type_slot : (s : ℕ) → ApartType (InSlot s h) (type_in s cs)
  one_type_slot s = by (first_of (types_in s cs)) (first_type_slot s)
    where
      by : (o : Option TypeExpression) → IfThere (ApartType (InSlot s h)) o → ApartType (InSlot s h) (elim o [ None ↦ no_type_at 0 (place 0 0) | Some t ↦ t ])
      by None absent = no_type_apart 0 (place 0 0)
      by (Some t) (there q) = q

  -- the parts of a declaration
  pub constructor_kind : (r : Row) → IfHere (ConstructorIn n hi) (constructor_of r n cs)
  constructor_kind con_row = here (record { node = refl; fits = spread_le h; argument = argument_in (first_type_slot 2) })
    where
      argument_in : {o : Option TypeExpression} → IfThere (ApartType (InSlot 2 h)) o → IfThere (ApartType (Range (n + 1) hi)) o
      argument_in absent = absent
      argument_in (there q) = there (type_in_set (slot_range 2 h) q)
  constructor_kind _ = gone

  pub label_kind : (r : Row) → IfHere (LabelIn n hi) (label_of r n cs)
  label_kind label_row = here (record { node = refl; fits = spread_le h; body = type_in_set (slot_range 3 h) (one_type_slot 3) })
  label_kind _ = gone

  pub told_kind : (r : Row) → IfHere (ApartTold (Range n hi)) (told_row r cs)
  told_kind variant_row = here (told_in_set behind_node (constructors_apart (ranged_slot ConstructorIn (λ c. c.constructor) (λ l m c k. k.constructor) 1 h)))
  told_kind record_row = here (told_in_set behind_node (labels_apart (ranged_slot LabelIn (λ c. c.label) (λ l m c k. k.label) 1 h)))
  told_kind _ = gone

  pub right_kind : (r : Row) → IfHere (ApartRight (Range n hi)) (right_side_row r n cs)
  right_kind alias_row = here (another_apart n (type_in 0 cs) (last_token (tokens_of_slot 0 cs)) (one_type_slot 0)
      (first_kind ApartTold (λ c. c.told) (λ P R t g q. told_in_set g q) (λ lo hi c k. k.told) 2 h) (slots_apart 0 2 refl h) (slot_others 0) (slot_others 2) (slot_in 0) (slot_in 2) node_in)
  right_kind variant_row = own_right (told_kind variant_row)
  right_kind record_row = own_right (told_kind record_row)
  right_kind _ = gone

  pub declaration_kind : (r : Row) → IfHere (ApartDeclaration n hi) (declaration_of r n cs)
  declaration_kind decl_row = here (record { node = refl; fits = spread_le h; right = right_in (first_kind ApartRight (λ c. c.right_side) (λ P R r g q. right_in_set g q) (λ lo hi c k. k.right_side) 2 h) })
    where
      right_in : {o : Option RightSide} → IfHere (ApartRight (InSlot 2 h)) o → IfHere (ApartRight (Range (n + 1) hi)) o
      right_in gone = gone
      right_in (here q) = here (right_in_set (slot_range 2 h) q)
  declaration_kind _ = gone

  split : (s t : ℕ) → (s == t) ≡ false → Apart (InSlot s h) (InSlot t h)
  split s t ne = slots_apart s t ne h

  -- an expression by its row
  pub expression_row_apart : (r : Row) (q : Place) → ApartExpression (Range n hi) (expression_row r n q cs)
  unfolding expression_row
  expression_row_apart name_row q = expression_in_set node_in (name_apart n q (path_in 9 0 cs))
  expression_row_apart econ_row q = expression_in_set node_in (econ_apart n q (path_in 9 0 cs))
  expression_row_apart epath_row q = expression_in_set node_in (path_apart n q (path_in 0 1 cs))
  expression_row_apart econst_row q = expression_in_set node_in (econst_apart n q (token_in 0 cs))
  expression_row_apart hole_row q = hole_apart n q
  expression_row_apart eparen_row q = expression_in_set (both_in (both_in (slot_in 1) (slot_in 3)) node_in)
      (eparen_apart n q (expression_in 1 cs) (first_of (types_in 3 cs)) (one_expression_slot 1) (first_type_slot 3) (split 1 3 refl) (slot_others 1) (slot_others 3))
  expression_row_apart ebegin_row q = expression_in_set (slot_in 1) (ebegin_apart n q (first_of (expressions_in 1 cs)) (first_expression 1))
  expression_row_apart elist_row q = expression_in_set (both_in (slot_in 1) node_in) (elist_apart n q (expressions_in 1 cs) (expressions_slot 1) (slot_others 1))
  expression_row_apart erecord_row q = by (is_some (token_in 4 cs))
    where
      by : (b : Bool) → ApartExpression (Range n hi) (if b then update_expression n q (expression_in 1 cs) (fields_in 5 cs) else record_expression n q (expression_in 1 cs) (first_of (expressions_in 3 cs)) (fields_in 5 cs))
      by true = expression_in_set (both_in (both_in (slot_in 1) (slot_in 5)) node_in) (eupdate_apart n q (expression_in 1 cs) (fields_in 5 cs) (one_expression_slot 1) (fields_slot 5) (split 1 5 refl) (slot_others 1) (slot_others 5))
      by false = expression_in_set (both_in (both_in (both_in (slot_in 1) (slot_in 3)) (slot_in 5)) node_in)
          (erecord_apart n q (expression_in 1 cs) (first_of (expressions_in 3 cs)) (fields_in 5 cs) (one_expression_slot 1) (first_expression 3) (fields_slot 5) (split 1 3 refl) (split 1 5 refl) (split 3 5 refl) (slot_others 1) (slot_others 3) (slot_others 5))
  expression_row_apart prefix_row q = expression_in_set (both_in (slot_in 1) node_in) (prefix_apart n q (token_in 0 cs) (expression_in 1 cs) (one_expression_slot 1) (slot_others 1))
  expression_row_apart field_row q = expression_in_set (both_in (slot_in 0) node_in) (field_apart n q (expression_in 0 cs) (path_in 2 3 cs) (one_expression_slot 0) (slot_others 0))
  expression_row_apart eapp_row q = expression_in_set (both_in (both_in (slot_in 0) (slot_in 1)) node_in) (eapp_apart n q (expression_in 0 cs) (expressions_in 1 cs) (one_expression_slot 0) (expressions_slot 1) (split 0 1 refl) (slot_others 0) (slot_others 1))
  expression_row_apart eassert_row q = expression_in_set (both_in (slot_in 1) node_in) (eassert_apart n q (expression_in 1 cs) (one_expression_slot 1) (slot_others 1))
  expression_row_apart ewhile_row q = expression_in_set (both_in (both_in (slot_in 1) (slot_in 3)) node_in) (ewhile_apart n q (expression_in 1 cs) (expression_in 3 cs) (one_expression_slot 1) (one_expression_slot 3) (split 1 3 refl) (slot_others 1) (slot_others 3))
  expression_row_apart efor_row q = expression_in_set (both_in (both_in (both_in (slot_in 3) (slot_in 5)) (slot_in 7)) node_in)
      (efor_apart n q (token_in 1 cs) (expression_in 3 cs) (expression_in 5 cs) (expression_in 7 cs) (one_expression_slot 3) (one_expression_slot 5) (one_expression_slot 7) (split 3 5 refl) (split 3 7 refl) (split 5 7 refl) (slot_others 3) (slot_others 5) (slot_others 7))
  expression_row_apart eneg_row q = expression_in_set (both_in (slot_in 1) node_in) (eneg_apart n q (token_in 0 cs) (expression_in 1 cs) (one_expression_slot 1) (slot_others 1))
  expression_row_apart infix_row q = expression_in_set (both_in (both_in (slot_in 0) (slot_in 2)) node_in) (infix_apart n q (token_in 1 cs) (expression_in 0 cs) (expression_in 2 cs) (one_expression_slot 0) (one_expression_slot 2) (split 0 2 refl) (slot_others 0) (slot_others 2))
  expression_row_apart econs_row q = expression_in_set (both_in (both_in (slot_in 0) (slot_in 2)) node_in) (econs_apart n q (expression_in 0 cs) (expression_in 2 cs) (one_expression_slot 0) (one_expression_slot 2) (split 0 2 refl) (slot_others 0) (slot_others 2))
  expression_row_apart etuple_row q = expression_in_set (both_in (slot_in 0) (slot_in 2)) (etuple_apart n q (expressions_in 0 cs ++ expressions_in 2 cs) (every_both (expressions_slot 0) (expressions_slot 2) (split 0 2 refl)))
  expression_row_apart eset_row q = expression_in_set (both_in (both_in (slot_in 0) (slot_in 2)) node_in) (eset_apart n q (expression_in 0 cs) (expression_in 2 cs) (one_expression_slot 0) (one_expression_slot 2) (split 0 2 refl) (slot_others 0) (slot_others 2))
  expression_row_apart eif_row q = expression_in_set (both_in (both_in (both_in (slot_in 1) (slot_in 3)) (slot_in 5)) node_in)
      (eif_apart n q (expression_in 1 cs) (expression_in 3 cs) (first_of (expressions_in 5 cs)) (one_expression_slot 1) (one_expression_slot 3) (first_expression 5) (split 1 3 refl) (split 1 5 refl) (split 3 5 refl) (slot_others 1) (slot_others 3) (slot_others 5))
  expression_row_apart eseq_row q = expression_in_set (both_in (slot_in 0) (slot_in 2)) (eseq_apart n q (expressions_in 0 cs ++ expressions_in 2 cs) (every_both (expressions_slot 0) (expressions_slot 2) (split 0 2 refl)))
  expression_row_apart elet_row q = expression_in_set (both_in (slot_in 2) (slot_in 5)) (elet_apart n q (is_some (token_in 1 cs)) (bindings_in 2 cs) (expression_in 5 cs) (bindings_slot 2 h) (one_expression_slot 5) (split 2 5 refl))
  expression_row_apart ematch_row q = expression_in_set (both_in (both_in (slot_in 1) (slot_in 4)) node_in) (ematch_apart n q (expression_in 1 cs) (cases_in 4 cs) (one_expression_slot 1) (cases_slot 4) (split 1 4 refl) (slot_others 1) (slot_others 4))
  expression_row_apart etry_row q = expression_in_set (both_in (both_in (slot_in 1) (slot_in 4)) node_in) (etry_apart n q (expression_in 1 cs) (cases_in 4 cs) (one_expression_slot 1) (cases_slot 4) (split 1 4 refl) (slot_others 1) (slot_others 4))
  expression_row_apart efun_row q = expression_in_set (both_in (slot_in 1) (slot_in 3)) (efun_apart n q (patterns_in 1 cs) (expression_in 3 cs) (patterns_slot 1) (one_expression_slot 3) (split 1 3 refl))
  expression_row_apart efunction_row q = expression_in_set (both_in (slot_in 4) node_in) (efunction_apart n q (cases_in 4 cs) (cases_slot 4) (slot_others 4))
  expression_row_apart _ q = no_expression_apart n q

  pub pattern_row_apart : (r : Row) (q : Place) → ApartPattern (Range n hi) (pattern_row r n q cs)
  unfolding pattern_row
  pattern_row_apart pname_row q = pattern_in_set node_in (pname_apart n q (token_in 0 cs))
  pattern_row_apart pany_row q = record { matches = λ c seen. none_within }
  pattern_row_apart pconst_row q = pattern_in_set node_in (pconst_apart n q (token_in 0 cs))
  pattern_row_apart pneg_row q = pattern_in_set node_in (pneg_apart n q (token_in 1 cs))
  pattern_row_apart pcon_row q = pattern_in_set node_in (pcon_apart n q (path_in 0 1 cs))
  pattern_row_apart pparen_row q = pattern_in_set (both_in (slot_in 1) (both_in (slot_in 3) node_in)) (pparen_apart n q (pattern_in 1 cs) (first_of (types_in 3 cs)) (one_pattern_slot 1) (first_type_slot 3) (split 1 3 refl) (slot_others 1) (slot_others 3))
  pattern_row_apart plist_row q = pattern_in_set (both_in (slot_in 1) node_in) (plist_apart n q (patterns_in 1 cs) (patterns_slot 1) (slot_others 1))
  pattern_row_apart precord_row q = pattern_in_set (both_in (slot_in 1) node_in) (precord_apart n q (filter_map (λ c. c.field_pattern) (in_slot 1 cs)) (every_kind ApartFieldPattern (λ c. c.field_pattern) (λ l m c k. k.field_pattern) 1 h) (slot_others 1))
  pattern_row_apart papp_row q = pattern_in_set (both_in (slot_in 1) node_in) (papp_apart n q (pattern_in 0 cs) (pattern_in 1 cs) (one_pattern_slot 1) (slot_others 1))
  pattern_row_apart pcons_row q = pattern_in_set (both_in (both_in (slot_in 0) (slot_in 2)) node_in) (pcons_apart n q (pattern_in 0 cs) (pattern_in 2 cs) (one_pattern_slot 0) (one_pattern_slot 2) (split 0 2 refl) (slot_others 0) (slot_others 2))
  pattern_row_apart ptuple_row q = pattern_in_set (both_in (both_in (slot_in 0) (slot_in 2)) node_in) (ptuple_apart n q (patterns_in 0 cs ++ patterns_in 2 cs) (every_both (patterns_slot 0) (patterns_slot 2) (split 0 2 refl)) (both_in (slot_others 0) (slot_others 2)))
  pattern_row_apart por_row q = pattern_in_set (both_in (both_in (slot_in 0) (slot_in 2)) node_in)
      (por_apart n q (pattern_in 0 cs) (patterns_in 2 cs) (one_of (one_pattern_slot 0) (patterns_slot 2) (split 0 2 refl) (λ x i. inl i) (λ x i. inr i)) (both_in (slot_others 0) (slot_others 2)))
  pattern_row_apart pas_row q = pattern_in_set (both_in (slot_in 0) node_in) (pas_apart n q (pattern_in 0 cs) (token_in 2 cs) (one_pattern_slot 0) (slot_others 0))
  pattern_row_apart _ q = no_pattern_apart n q

  pub type_row_apart : (r : Row) (q : Place) → ApartType (Range n hi) (types.type_row r n q cs)
  unfolding types.type_row
  type_row_apart tvar_row q = type_in_set node_in (tvar_apart n q (token_in 0 cs))
  type_row_apart tcon_row q = type_in_set node_in (tcon_apart n q (path_in 0 1 cs))
  type_row_apart tparen_row q = type_in_set (both_in (slot_in 1) node_in) (tparen_apart n q (types_in 1 cs) (types_slot 1) (slot_others 1))
  type_row_apart tapp_row q = type_in_set (both_in (slot_in 0) node_in) (tapp_apart n q (type_in 0 cs) (path_in 1 2 cs) (one_type_slot 0) (slot_others 0))
  type_row_apart ttuple_row q = type_in_set (both_in (slot_in 0) (slot_in 2)) (ttuple_apart n q (types_in 0 cs ++ types_in 2 cs) (every_both (types_slot 0) (types_slot 2) (split 0 2 refl)))
  type_row_apart tarrow_row q = type_in_set (both_in (slot_in 0) (slot_in 2)) (tarrow_apart n q (type_in 0 cs) (type_in 2 cs) (one_type_slot 0) (one_type_slot 2) (split 0 2 refl))
  type_row_apart _ q = no_type_apart n q
