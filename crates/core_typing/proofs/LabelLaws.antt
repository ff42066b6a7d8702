-- Which first parts of records are no labels, in the code and in the definitions.
use Rattle.std.proofs.Common.{◌≡◌, ℕ, Bool, true, false, List, Option, Some, None, refl, sym, subst, if◌then◌else◌}
use Rattle.token_model.specs.Kinds.{Tok, Kind, upper, lower, float, false_word}
use Rattle.tree_model.specs.Rows.{Row, name_row, econ_row, epath_row, econst_row, hole_row, eparen_row, ebegin_row, elist_row, erecord_row, prefix_row, field_row, eapp_row, eassert_row, ewhile_row, efor_row, eneg_row, infix_row, econs_row, etuple_row, eset_row, eif_row, eseq_row, elet_row, ematch_row, etry_row, efun_row, efunction_row}
use Rattle.tree_model.specs.Trees.{Place, Tree, Forest, Part, taken, inner, missing, node}
use Rattle.row_parts.specs.Numbered.{Numbered, Written, numbered, path_in}
use Rattle.typing_model.specs.Parts as parts
use Rattle.typing_model.specs.Parts.{Expression, Child, path_in as child_path, token_in as child_token, types_in, expressions_in}
use Rattle.typing_model.specs.Expressions.{expression_row, path_expression, name_form, literal_form, parenthesised, begun, if_expression, update_expression, record_expression, fields_in, is_some}
use Rattle.operand_laws.specs.Operands.{number_of, parts_of, path_of, expression_of}
use Rattle.operand_laws.proofs.Tokens.{path_stands}
use Rattle.typing_rows.specs.CarriedRows.{IsCarriedRow, IsOfCarriedRows}
use Rattle.record_rows.specs.RecordExpressions.{IsLoose, IsLooseAt}
use Rattle.value_forms.specs.Heads.{label_at, label_in, lower_path, if_lower}

name_loose : (q : List Tok) (start end col : ℕ) (name : List ℕ) (k : Kind) → let w : Written = record { qualifiers = q; last = Some (record { kind = k; start = start; end = end; col = col; name = name }) } in if_lower w k ≡ None → IsLoose (name_form (path_of w))
name_loose q start end col name lower e = absurd (cc)
name_loose q start end col name _ e = tt

-- a name that is no label
names_loose : (w : Written) → lower_path w ≡ None → IsLoose (name_form (path_of w))
names_loose w e = by w.last e
  where
    by : (o : Option Tok) → let x : Written = record { qualifiers = w.qualifiers; last = o } in lower_path x ≡ None → IsLoose (name_form (path_of x))
    by None e = tt
    by (Some t) e = name_loose w.qualifiers t.start t.end t.col t.name t.kind e

path_loose : (n : ℕ) (at : Place) (q : List Tok) (start end col : ℕ) (name : List ℕ) (k : Kind) →
    let w : Written = record { qualifiers = q; last = Some (record { kind = k; start = start; end = end; col = col; name = name }) } in if_lower w k ≡ None → IsLoose (path_expression n at (path_of w)).form
path_loose n at q start end col name upper e = tt
path_loose n at q start end col name lower e = absurd (cc)
path_loose n at q start end col name _ e = tt

-- a path that is none
paths_loose : (n : ℕ) (at : Place) (w : Written) → lower_path w ≡ None → IsLoose (path_expression n at (path_of w)).form
paths_loose n at w e = by w.last e
  where
    by : (o : Option Tok) → let x : Written = record { qualifiers = w.qualifiers; last = o } in lower_path x ≡ None → IsLoose (path_expression n at (path_of x)).form
    by None e = tt
    by (Some t) e = path_loose n at w.qualifiers t.start t.end t.col t.name t.kind e

literal_plain : (start end col : ℕ) (name : List ℕ) (k : Kind) → IsLoose (literal_form (Some (record { kind = k; start = start; end = end; col = col; name = name })))
literal_plain start end col name float = tt
literal_plain start end col name false_word = tt
literal_plain start end col name _ = tt

literal_loose : (o : Option Tok) → IsLoose (literal_form o)
literal_loose None = tt
literal_loose (Some t) = literal_plain t.start t.end t.col t.name t.kind

paren_loose : (n : ℕ) (at : Place) (e : Expression) (o : Option parts.TypeExpression) → IsLoose (parenthesised n at e o).form
paren_loose n at e None = tt
paren_loose n at e (Some t) = tt

begun_loose : (n : ℕ) (at : Place) (o : Option Expression) → IsLoose (begun n at o).form
begun_loose n at None = tt
begun_loose n at (Some e) = tt

if_loose : (n : ℕ) (at : Place) (e f : Expression) (o : Option Expression) → IsLoose (if_expression n at e f o).form
if_loose n at e f None = tt
if_loose n at e f (Some g) = tt

either_loose : (b : Bool) (x y : Expression) → IsLoose x.form → IsLoose y.form → IsLoose (if b then x else y).form
either_loose true x y p q = p
either_loose false x y p q = q

row_loose : (r : Row) (n : ℕ) (at : Place) (cs : List Child) (t : Tree) (ps : Forest) → IsCarriedRow r t ps → child_path 9 0 cs ≡ path_of (path_in t 9 0) → child_path 0 1 cs ≡ path_of (path_in t 0 1) → label_in r t ≡ None → IsLoose (expression_row r n at cs).form
unfolding expression_row
row_loose name_row n at cs t ps c own path e = subst (λ w. IsLoose (name_form w)) (sym own) (names_loose (path_in t 9 0) e)
row_loose epath_row n at cs t ps c own path e = subst (λ w. IsLoose (path_expression n at w).form) (sym path) (paths_loose n at (path_in t 0 1) e)
row_loose econst_row n at cs t ps c own path e = literal_loose (child_token 0 cs)
row_loose eparen_row n at cs t ps c own path e = paren_loose n at (parts.expression_in 1 cs) (parts.first_of (types_in 3 cs))
row_loose ebegin_row n at cs t ps c own path e = begun_loose n at (parts.first_of (expressions_in 1 cs))
row_loose erecord_row n at cs t ps c own path e =
    either_loose (is_some (child_token 4 cs)) (update_expression n at (parts.expression_in 1 cs) (fields_in 5 cs)) (record_expression n at (parts.expression_in 1 cs) (parts.first_of (expressions_in 3 cs)) (fields_in 5 cs)) tt tt
row_loose eif_row n at cs t ps c own path e = if_loose n at (parts.expression_in 1 cs) (parts.expression_in 3 cs) (parts.first_of (expressions_in 5 cs))
row_loose econ_row n at cs t ps c own path e = tt
row_loose hole_row n at cs t ps c own path e = tt
row_loose elist_row n at cs t ps c own path e = tt
row_loose prefix_row n at cs t ps c own path e = tt
row_loose field_row n at cs t ps c own path e = tt
row_loose eapp_row n at cs t ps c own path e = tt
row_loose eassert_row n at cs t ps c own path e = tt
row_loose ewhile_row n at cs t ps c own path e = tt
row_loose efor_row n at cs t ps c own path e = tt
row_loose eneg_row n at cs t ps c own path e = tt
row_loose infix_row n at cs t ps c own path e = tt
row_loose econs_row n at cs t ps c own path e = tt
row_loose etuple_row n at cs t ps c own path e = tt
row_loose eset_row n at cs t ps c own path e = tt
row_loose eseq_row n at cs t ps c own path e = tt
row_loose elet_row n at cs t ps c own path e = tt
row_loose ematch_row n at cs t ps c own path e = tt
row_loose etry_row n at cs t ps c own path e = tt
row_loose efun_row n at cs t ps c own path e = tt
row_loose efunction_row n at cs t ps c own path e = tt
row_loose _ n at cs t ps c own path e = absurd c

-- an operand that is no label is none in the definitions, and is missing there where it is missing
pub operand_loose : (i : ℕ) (o : Numbered) → label_at o.part ≡ None → IsOfCarriedRows o.part → IsLooseAt o.part (expression_of i o).form
operand_loose i o h c = by o.number o.at o.part h c
  where
    by : (n : ℕ) (at : Place) (p : Part) → label_at p ≡ None → IsOfCarriedRows p → IsLooseAt p (expression_of i (numbered n at p)).form
    by n at (taken t) h c = refl
    by n at (missing q) h c = refl
    by n at (inner (node r x ps)) h c = row_loose r (number_of i n) at (parts_of i n (node r x ps)) (node r x ps) ps c.0 (path_stands i n (node r x ps) 9 0) (path_stands i n (node r x ps) 0 1) h
