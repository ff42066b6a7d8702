-- Each tree of the grammar is of the sort of its row, and made of rows whose conditions are carried.
use Rattle.std.proofs.Common.{◌≡◌, ◌∙◌, ◌==◌, ℕ, Bool, true, false, refl, sym, subst}
use Rattle.std.specs.Prelude.{nat_le}
use Rattle.std.proofs.lemmas.Bool.{eqb-true, and_parts}
use Rattle.tree_model.specs.Rows as names
use Rattle.tree_model.specs.Rows.{pname_row, pany_row, pconst_row, pneg_row, pcon_row, pparen_row, plist_row, precord_row, papp_row, pcons_row, ptuple_row, por_row, pas_row, qfield_row, binding_row, case_row, ffield_row, name_row, econ_row, epath_row, econst_row, hole_row, eparen_row, ebegin_row, elist_row, erecord_row, prefix_row, field_row, eapp_row, eassert_row, ewhile_row, efor_row, eneg_row, infix_row, econs_row, etuple_row, eset_row, eif_row, eseq_row, elet_row, ematch_row, etry_row, efun_row, efunction_row}
use Rattle.tree_model.specs.Trees as plain
use Rattle.tree_model.specs.Trees.{Extent}
use Rattle.row_parts.specs.Numbered.{tokens_from, first_of}
use Rattle.grammar_model.specs.Trees.{Tree, Forest, Part, node, no_parts, part, taken, inner, missing, row_of}
use Rattle.grammar_model.specs.Tables.{What, nothing, token, operand, Last, row}
use Rattle.grammar_model.specs.Rows.{Left, no_left, level, named as by_name, row_at, left_takes}
use Rattle.grammar_model.specs.Grammar.{last_in, left_last, StandsIn, BeginsWith, WellFormed, IsFilled, Follows, IsPartFormed}
use Rattle.grammar_model.specs.Named.{slot_of, named, named_parts, named_part}
use Rattle.grammar_model.specs.Ocaml.{rows, Text, grammar, row_name}
use Rattle.typing_rows.specs.CarriedPatternRows.{IsCarriedPatternRow}
use Rattle.typing_rows.specs.CarriedRows.{Sort, an_expression, a_pattern, a_type, a_field_pattern, a_field, a_case, a_binding, sort_in, is_sign, IsCarriedRow, IsFieldPatternRow, IsFieldRow, IsCaseRow, IsBindingRow, IsTreeOfSort, AreOfCarriedRows, IsOfSort}
use Rattle.parsed_rows.specs.Sorts.{sort_number}
use Rattle.parsed_rows.proofs.Tabled.{is_expression_row, is_pattern_row, is_field_pattern_row, is_field_row, is_case_row, is_binding_row, is_row_of, is_minus_row, is_inside, sort_fits, row_of_sort, spot_sort, left_sort}
use Rattle.parsed_rows.proofs.Signs.{signed}

-- a row of expressions is one whose conditions are carried
expression_carried : (r : names.Row) (x : Extent) (ps : plain.Forest) → is_expression_row r ≡ true → (is_minus_row r ≡ true → is_sign (first_of (tokens_from 0 ps)) ≡ true) → IsCarriedRow r (plain.node r x ps) ps
expression_carried name_row x ps h sign = tt
expression_carried econ_row x ps h sign = tt
expression_carried epath_row x ps h sign = tt
expression_carried econst_row x ps h sign = tt
expression_carried hole_row x ps h sign = tt
expression_carried eparen_row x ps h sign = tt
expression_carried ebegin_row x ps h sign = tt
expression_carried elist_row x ps h sign = tt
expression_carried erecord_row x ps h sign = tt
expression_carried prefix_row x ps h sign = tt
expression_carried field_row x ps h sign = tt
expression_carried eapp_row x ps h sign = tt
expression_carried eassert_row x ps h sign = tt
expression_carried ewhile_row x ps h sign = tt
expression_carried efor_row x ps h sign = tt
expression_carried eneg_row x ps h sign = sign refl
expression_carried infix_row x ps h sign = tt
expression_carried econs_row x ps h sign = tt
expression_carried etuple_row x ps h sign = tt
expression_carried eset_row x ps h sign = tt
expression_carried eif_row x ps h sign = tt
expression_carried eseq_row x ps h sign = tt
expression_carried elet_row x ps h sign = tt
expression_carried ematch_row x ps h sign = tt
expression_carried etry_row x ps h sign = tt
expression_carried efun_row x ps h sign = tt
expression_carried efunction_row x ps h sign = tt
expression_carried _ x ps h sign = absurd (cc)

-- so is a row of patterns
pattern_carried : (r : names.Row) (ps : plain.Forest) → is_pattern_row r ≡ true → IsCarriedPatternRow r ps
pattern_carried pname_row ps h = tt
pattern_carried pany_row ps h = tt
pattern_carried pconst_row ps h = tt
pattern_carried pneg_row ps h = tt
pattern_carried pcon_row ps h = tt
pattern_carried pparen_row ps h = tt
pattern_carried plist_row ps h = tt
pattern_carried precord_row ps h = tt
pattern_carried papp_row ps h = tt
pattern_carried pcons_row ps h = tt
pattern_carried ptuple_row ps h = tt
pattern_carried por_row ps h = tt
pattern_carried pas_row ps h = tt
pattern_carried _ ps h = absurd (cc)

-- the rows of fields, of cases and of bindings
field_pattern_named : (r : names.Row) → is_field_pattern_row r ≡ true → IsFieldPatternRow r
field_pattern_named qfield_row h = tt
field_pattern_named _ h = absurd (cc)

field_named : (r : names.Row) → is_field_row r ≡ true → IsFieldRow r
field_named ffield_row h = tt
field_named _ h = absurd (cc)

case_named : (r : names.Row) → is_case_row r ≡ true → IsCaseRow r
case_named case_row h = tt
case_named _ h = absurd (cc)

binding_named : (r : names.Row) → is_binding_row r ≡ true → IsBindingRow r
binding_named binding_row h = tt
binding_named _ h = absurd (cc)

-- a node with the name of a sort is of the sort, where its parts are of their slots' sorts
of_sort : (k : Sort) (r : names.Row) (x : Extent) (ps : plain.Forest) → is_row_of k r ≡ true → (is_minus_row r ≡ true → is_sign (first_of (tokens_from 0 ps)) ≡ true) → (is_inside (sort_number k) ≡ true → AreOfCarriedRows r ps) → IsTreeOfSort k (plain.node r x ps)
of_sort an_expression r x ps h sign parts = (expression_carried r x ps h sign, parts refl)
of_sort a_pattern r x ps h sign parts = (pattern_carried r ps h, parts refl)
of_sort a_type r x ps h sign parts = tt
of_sort a_field_pattern r x ps h sign parts = (field_pattern_named r h, parts refl)
of_sort a_field r x ps h sign parts = (field_named r h, parts refl)
of_sort a_case r x ps h sign parts = (case_named r h, parts refl)
of_sort a_binding r x ps h sign parts = (binding_named r h, parts refl)

-- a part whose node, if it is one, has a row of this sort
abbrev pub HasSort : Text → Sort → Part → Type 0
HasSort text k (taken t) = Unit {0}
HasSort text k (inner t) = (grammar text).sort (row_of t) ≡ sort_number k
HasSort text k (missing at) = Unit {0}

-- a part at a spot has the sort of the spot's slot
sort_at : (text : Text) (r : names.Row) (p : ℕ) (w : What) (c : Part) → sort_fits r p w ≡ true → StandsIn (grammar text) w c → HasSort text (sort_in r (slot_of p)) c
sort_at text r p nothing c fits h = absurd h
sort_at text r p (token ks) (taken t) fits h = tt
sort_at text r p (token ks) (inner t) fits h = absurd h
sort_at text r p (token ks) (missing at) fits h = tt
sort_at text r p (operand s n) (taken t) fits h = absurd h
sort_at text r p (operand s n) (inner t) fits h = h.0 ∙ eqb-true s (sort_number (sort_in r (slot_of p))) fits
sort_at text r p (operand s n) (missing at) fits h = tt

-- a left operand is of the row's own sort
taken_left : (l : Left) (s q : ℕ) → left_takes rows l s (row q) ≡ true → (row_at rows q).sort ≡ s
taken_left no_left s q h = absurd (cc)
taken_left (level n) s q h = eqb-true (row_at rows q).sort s (and_parts ((row_at rows q).sort == s) (nat_le n (row_at rows q).level) h).0
taken_left (by_name m) s q h = eqb-true (row_at rows q).sort s (and_parts ((row_at rows q).sort == s) ((row_at rows q).name == m) h).0

left_has : (text : Text) (r : ℕ) (k : Sort) (c : Part) → (grammar text).left_ok r (left_last c) ≡ true → ((grammar text).sort r == sort_number k) ≡ true → HasSort text k c
left_has text r k (taken t) h same = tt
left_has text r k (inner t) h same = taken_left (row_at rows r).left (row_at rows r).sort (row_of t) h ∙ eqb-true ((grammar text).sort r) (sort_number k) same
left_has text r k (missing at) h same = tt

-- so the first part of a row has the sort of its slot
first_sort : (text : Text) (r p : ℕ) (c : Part) (b : Bool) → (grammar text).has_left r ≡ b → is_inside ((grammar text).sort r) ≡ true → BeginsWith (grammar text) r b p c → HasSort text (sort_in (row_name r) (slot_of p)) c
first_sort text r p c true left inside h = subst (λ p. HasSort text (sort_in (row_name r) (slot_of p)) c) (sym h.0) (left_has text r (sort_in (row_name r) 0) c h.1 (left_sort text r inside left))
first_sort text r p c false left inside h = sort_at text (row_name r) p ((grammar text).what r p) c (spot_sort text r p inside) h.1

mutual
  -- a tree of the grammar whose row is of a sort is of this sort, and made of carried rows
  pub tree_of_sort : (text : Text) (k : Sort) (T : Tree) → WellFormed (grammar text) T → (grammar text).sort (row_of T) ≡ sort_number k → IsTreeOfSort k (named row_name T)
  tree_of_sort text k (node r f) h e =
      of_sort k (row_name r) _ (named_parts row_name f) (row_of_sort text k r e) (λ minus. signed text r f minus h) (λ inside. row_carried text r f (subst (λ s. is_inside s ≡ true) (sym e) inside) h)

  -- the parts of a row
  row_carried : (text : Text) (r : ℕ) (f : Forest) → is_inside ((grammar text).sort r) ≡ true → IsFilled (grammar text) r f → AreOfCarriedRows (row_name r) (named_parts row_name f)
  row_carried text r no_parts inside h = tt
  row_carried text r (part p c f) inside h =
      (part_of_sort text (sort_in (row_name r) (slot_of p)) c h.1 (first_sort text r p c ((grammar text).has_left r) refl inside h.0), parts_carried text r p (last_in ((grammar text).what r p) c) f inside h.2)

  -- the parts after a spot
  parts_carried : (text : Text) (r at : ℕ) (last : Last) (f : Forest) → is_inside ((grammar text).sort r) ≡ true → Follows (grammar text) r at last f → AreOfCarriedRows (row_name r) (named_parts row_name f)
  parts_carried text r at last no_parts inside h = tt
  parts_carried text r at last (part p c f) inside h =
      (part_of_sort text (sort_in (row_name r) (slot_of p)) c h.2 (sort_at text (row_name r) p ((grammar text).what r p) c (spot_sort text r p inside) h.1), parts_carried text r p (last_in ((grammar text).what r p) c) f inside h.3)

  -- a part
  pub part_of_sort : (text : Text) (k : Sort) (c : Part) → IsPartFormed (grammar text) c → HasSort text k c → IsOfSort k (named_part row_name c)
  part_of_sort text k (taken t) h e = tt
  part_of_sort text k (inner t) h e = tree_of_sort text k t h e
  part_of_sort text k (missing at) h e = tt
