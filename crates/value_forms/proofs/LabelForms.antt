-- Which operands are labels as first parts of records, in the code and in the definitions.
use Rattle.std.proofs.Common.{◌≡◌, ◌∙◌, ℕ, Bool, true, false, List, Option, Some, None, sym, ap, subst, if◌then◌else◌}
use Rattle.token_model.specs.Kinds.{Tok, Kind, upper, lower, float, false_word}
use Rattle.tree_model.specs.Rows.{Row, name_row, epath_row, econst_row, eparen_row, ebegin_row, erecord_row, eif_row}
use Rattle.tree_model.specs.Trees.{Place, Tree, Part, taken, inner, missing, node}
use Rattle.row_parts.specs.Numbered.{Numbered, Written, numbered, path_in}
use Rattle.typing_model.specs.Parts as parts
use Rattle.typing_model.specs.Parts.{a_path, Expression, Child, path_in as child_path, token_in as child_token, types_in, expressions_in}
use Rattle.typing_model.specs.Expressions.{expression_row, path_expression, name_form, literal_form, parenthesised, begun, if_expression, update_expression, record_expression, fields_in, is_some}
use Rattle.operand_laws.specs.Operands.{number_of, parts_of, path_of, expression_of}
use Rattle.operand_laws.proofs.Tokens.{path_stands}
use Rattle.record_rows.specs.NonExpansive.{IsNoLabel}
use Rattle.value_forms.specs.Heads.{label_at, label_in, lower_path, if_lower}

the_same : (w p : Written) → Some w ≡ Some p → w ≡ p
the_same w p e = cc

-- a path to a lower-case name is one in the definitions, alone and in a row of paths
name_by : (q : List Tok) (start end col : ℕ) (name : List ℕ) (k : Kind) (p : Written) →
    let w : Written = record { qualifiers = q; last = Some (record { kind = k; start = start; end = end; col = col; name = name }) } in if_lower w k ≡ Some p → name_form (path_of w) ≡ a_path (path_of p)
name_by q start end col name lower p e =
    let w : Written = record { qualifiers = q; last = Some (record { kind = lower; start = start; end = end; col = col; name = name }) } in ap (λ x. a_path (path_of x)) (the_same w p e)
name_by q start end col name _ p e = absurd (cc)

name_is : (w p : Written) → lower_path w ≡ Some p → name_form (path_of w) ≡ a_path (path_of p)
name_is w p e = by w.last e
  where
    by : (o : Option Tok) → let x : Written = record { qualifiers = w.qualifiers; last = o } in lower_path x ≡ Some p → name_form (path_of x) ≡ a_path (path_of p)
    by None e = absurd (cc)
    by (Some t) e = name_by w.qualifiers t.start t.end t.col t.name t.kind p e

path_by : (n : ℕ) (at : Place) (q : List Tok) (start end col : ℕ) (name : List ℕ) (k : Kind) (p : Written) →
    let w : Written = record { qualifiers = q; last = Some (record { kind = k; start = start; end = end; col = col; name = name }) } in if_lower w k ≡ Some p → (path_expression n at (path_of w)).form ≡ a_path (path_of p)
path_by n at q start end col name lower p e =
    let w : Written = record { qualifiers = q; last = Some (record { kind = lower; start = start; end = end; col = col; name = name }) } in ap (λ x. a_path (path_of x)) (the_same w p e)
path_by n at q start end col name _ p e = absurd (cc)

path_is : (n : ℕ) (at : Place) (w p : Written) → lower_path w ≡ Some p → (path_expression n at (path_of w)).form ≡ a_path (path_of p)
path_is n at w p e = by w.last e
  where
    by : (o : Option Tok) → let x : Written = record { qualifiers = w.qualifiers; last = o } in lower_path x ≡ Some p → (path_expression n at (path_of x)).form ≡ a_path (path_of p)
    by None e = absurd (cc)
    by (Some t) e = path_by n at w.qualifiers t.start t.end t.col t.name t.kind p e

row_is : (r : Row) (n : ℕ) (at : Place) (cs : List Child) (t : Tree) (p : Written) → child_path 9 0 cs ≡ path_of (path_in t 9 0) → child_path 0 1 cs ≡ path_of (path_in t 0 1) → label_in r t ≡ Some p → (expression_row r n at cs).form ≡ a_path (path_of p)
unfolding expression_row
row_is name_row n at cs t p own path e = ap name_form own ∙ name_is (path_in t 9 0) p e
row_is epath_row n at cs t p own path e = ap (λ w. (path_expression n at w).form) path ∙ path_is n at (path_in t 0 1) p e
row_is _ n at cs t p own path e = absurd (cc)

-- an operand that is a label in the code is that one in the definitions
pub label_is : (i : ℕ) (o : Numbered) (p : Written) → label_at o.part ≡ Some p → (expression_of i o).form ≡ a_path (path_of p)
label_is i o p h = by o.number o.at o.part h
  where
    by : (n : ℕ) (at : Place) (q : Part) → label_at q ≡ Some p → (expression_of i (numbered n at q)).form ≡ a_path (path_of p)
    by n at (taken t) h = absurd (cc)
    by n at (missing x) h = absurd (cc)
    by n at (inner (node r x ps)) h = row_is r (number_of i n) at (parts_of i n (node r x ps)) (node r x ps) p (path_stands i n (node r x ps) 9 0) (path_stands i n (node r x ps) 0 1) h

-- other paths are none
name_other : (q : List Tok) (start end col : ℕ) (name : List ℕ) (k : Kind) →
    let w : Written = record { qualifiers = q; last = Some (record { kind = k; start = start; end = end; col = col; name = name }) } in if_lower w k ≡ None → IsNoLabel (name_form (path_of w))
name_other q start end col name lower e = absurd (cc)
name_other q start end col name _ e = tt

name_no : (w : Written) → lower_path w ≡ None → IsNoLabel (name_form (path_of w))
name_no w e = by w.last e
  where
    by : (o : Option Tok) → let x : Written = record { qualifiers = w.qualifiers; last = o } in lower_path x ≡ None → IsNoLabel (name_form (path_of x))
    by None e = tt
    by (Some t) e = name_other w.qualifiers t.start t.end t.col t.name t.kind e

path_other : (n : ℕ) (at : Place) (q : List Tok) (start end col : ℕ) (name : List ℕ) (k : Kind) →
    let w : Written = record { qualifiers = q; last = Some (record { kind = k; start = start; end = end; col = col; name = name }) } in if_lower w k ≡ None → IsNoLabel (path_expression n at (path_of w)).form
path_other n at q start end col name lower e = absurd (cc)
path_other n at q start end col name upper e = tt
path_other n at q start end col name _ e = tt

path_no : (n : ℕ) (at : Place) (w : Written) → lower_path w ≡ None → IsNoLabel (path_expression n at (path_of w)).form
path_no n at w e = by w.last e
  where
    by : (o : Option Tok) → let x : Written = record { qualifiers = w.qualifiers; last = o } in lower_path x ≡ None → IsNoLabel (path_expression n at (path_of x)).form
    by None e = tt
    by (Some t) e = path_other n at w.qualifiers t.start t.end t.col t.name t.kind e

-- nor is what is no path
literal_other : (start end col : ℕ) (name : List ℕ) (k : Kind) → IsNoLabel (literal_form (Some (record { kind = k; start = start; end = end; col = col; name = name })))
literal_other start end col name float = tt
literal_other start end col name false_word = tt
literal_other start end col name _ = tt

literal_no : (o : Option Tok) → IsNoLabel (literal_form o)
literal_no None = tt
literal_no (Some t) = literal_other t.start t.end t.col t.name t.kind

paren_no : (n : ℕ) (at : Place) (e : Expression) (o : Option parts.TypeExpression) → IsNoLabel (parenthesised n at e o).form
paren_no n at e None = tt
paren_no n at e (Some t) = tt

begun_no : (n : ℕ) (at : Place) (o : Option Expression) → IsNoLabel (begun n at o).form
begun_no n at None = tt
begun_no n at (Some e) = tt

if_no : (n : ℕ) (at : Place) (e f : Expression) (o : Option Expression) → IsNoLabel (if_expression n at e f o).form
if_no n at e f None = tt
if_no n at e f (Some g) = tt

either_no : (b : Bool) (x y : Expression) → IsNoLabel x.form → IsNoLabel y.form → IsNoLabel (if b then x else y).form
either_no true x y p q = p
either_no false x y p q = q

row_no : (r : Row) (n : ℕ) (at : Place) (cs : List Child) (t : Tree) → child_path 9 0 cs ≡ path_of (path_in t 9 0) → child_path 0 1 cs ≡ path_of (path_in t 0 1) → label_in r t ≡ None → IsNoLabel (expression_row r n at cs).form
unfolding expression_row
row_no name_row n at cs t own path e = subst (λ w. IsNoLabel (name_form w)) (sym own) (name_no (path_in t 9 0) e)
row_no epath_row n at cs t own path e = subst (λ w. IsNoLabel (path_expression n at w).form) (sym path) (path_no n at (path_in t 0 1) e)
row_no econst_row n at cs t own path e = literal_no (child_token 0 cs)
row_no eparen_row n at cs t own path e = paren_no n at (parts.expression_in 1 cs) (parts.first_of (types_in 3 cs))
row_no ebegin_row n at cs t own path e = begun_no n at (parts.first_of (expressions_in 1 cs))
row_no erecord_row n at cs t own path e =
    either_no (is_some (child_token 4 cs)) (update_expression n at (parts.expression_in 1 cs) (fields_in 5 cs)) (record_expression n at (parts.expression_in 1 cs) (parts.first_of (expressions_in 3 cs)) (fields_in 5 cs)) tt tt
row_no eif_row n at cs t own path e = if_no n at (parts.expression_in 1 cs) (parts.expression_in 3 cs) (parts.first_of (expressions_in 5 cs))
row_no _ n at cs t own path e = tt

-- an operand that is no label in the code is none in the definitions
pub label_none : (i : ℕ) (o : Numbered) → label_at o.part ≡ None → IsNoLabel (expression_of i o).form
label_none i o h = by o.number o.at o.part h
  where
    by : (n : ℕ) (at : Place) (p : Part) → label_at p ≡ None → IsNoLabel (expression_of i (numbered n at p)).form
    by n at (taken t) h = tt
    by n at (missing q) h = tt
    by n at (inner (node r x ps)) h = row_no r (number_of i n) at (parts_of i n (node r x ps)) (node r x ps) (path_stands i n (node r x ps) 9 0) (path_stands i n (node r x ps) 0 1) h
