-- The row of a sort, a left operand and a key has its name.
use Rattle.std.proofs.Common.{◌≡◌, ℕ, List, Some, None, refl, sym, ◌∙◌, ap, subst}
use Rattle.std.specs.Prelude.{slice_get}
use Rattle.grammar_model.specs.Rows.{Row, Left, row_at, or_else}
use Rattle.grammar_model.specs.Words.{row_names}
use Rattle.grammar_model.specs.Separate.{row_for}
use Rattle.grammar_model.specs.Ocaml.{rows, sizes, program_text, row_name}
use Rattle.grammar_laws.proofs.Promises.{row_for_is, is_row_for}
use Rattle.tree_model.specs.Rows.{program_row}
use Rattle.syntax_tree.specs.Names.{row_of}
use Rattle.syntax_tree.specs.declared.rows.RowName.{RowName}
use Rattle.syntax_tree.specs.declared.rows.RowName.TheVariants as name
use Rattle.syntax_rows.specs.Numbers.{name_number}
use Rattle.syntax_rows.specs.View.{IsNamedRow}

-- the number of a name is its place in the list of names
in_names : (n : RowName) → slice_get row_names (name_number n) ≡ Some (row_of n)
unfolding name_number row_of
in_names name.Program = refl
in_names name.Let = refl
in_names name.TypeRow = refl
in_names name.Exception = refl
in_names name.Module = refl
in_names name.Modtype = refl
in_names name.Open = refl
in_names name.Include = refl
in_names name.Break = refl
in_names name.Val = refl
in_names name.Gmodule = refl
in_names name.Decl = refl
in_names name.Head = refl
in_names name.Alias = refl
in_names name.Variant = refl
in_names name.Record = refl
in_names name.Con = refl
in_names name.LabelRow = refl
in_names name.WithRow = refl
in_names name.Tvar = refl
in_names name.Tcon = refl
in_names name.Tparen = refl
in_names name.Tapp = refl
in_names name.Ttuple = refl
in_names name.Tarrow = refl
in_names name.Pname = refl
in_names name.Pany = refl
in_names name.Pconst = refl
in_names name.Pneg = refl
in_names name.Pcon = refl
in_names name.Pparen = refl
in_names name.Plist = refl
in_names name.Precord = refl
in_names name.Papp = refl
in_names name.Pcons = refl
in_names name.Ptuple = refl
in_names name.Por = refl
in_names name.Pas = refl
in_names name.Qfield = refl
in_names name.Binding = refl
in_names name.Case = refl
in_names name.Ffield = refl
in_names name.Name = refl
in_names name.Econ = refl
in_names name.Epath = refl
in_names name.Econst = refl
in_names name.Hole = refl
in_names name.Eparen = refl
in_names name.Ebegin = refl
in_names name.Elist = refl
in_names name.Erecord = refl
in_names name.Prefix = refl
in_names name.Field = refl
in_names name.Eapp = refl
in_names name.Eassert = refl
in_names name.Ewhile = refl
in_names name.Efor = refl
in_names name.Eneg = refl
in_names name.Infix = refl
in_names name.Econs = refl
in_names name.Etuple = refl
in_names name.Eset = refl
in_names name.Eif = refl
in_names name.Eseq = refl
in_names name.Elet = refl
in_names name.Ematch = refl
in_names name.Etry = refl
in_names name.Efun = refl
in_names name.Efunction = refl
in_names name.Mpath = refl
in_names name.Mstruct = refl
in_names name.Mparen = refl
in_names name.Mapp = refl
in_names name.Mfunctor = refl
in_names name.Ypath = refl
in_names name.Ysig = refl
in_names name.Yparen = refl
in_names name.Ywith = refl
in_names name.Yfunctor = refl

-- a name that has the number of a row's name is the row's name
pub row_named : (n : RowName) (r : ℕ) → name_number n ≡ (row_at rows r).name → row_of n ≡ row_name r
row_named n r h = sym (ap (or_else program_row) (sym (ap (slice_get row_names) h) ∙ in_names n))

-- where no row is found there is none
pub none_named : (R : List Row) → R ≡ rows → (s : ℕ) (l : Left) (k j : ℕ) → k ≡ j → None ≡ row_for sizes R s l k → IsNamedRow None s l j
none_named R e s l k j f h r is =
    let a = is_row_for program_text s l j r is in
    let b : None ≡ row_for sizes rows s l j = subst (λ k. None ≡ row_for sizes rows s l k) f (subst (λ R. None ≡ row_for sizes R s l k) e h) in
    let c : None ≡ Some r = b ∙ a in cc

-- a row that is found, by its name
pub some_named : (R : List Row) → R ≡ rows → (s : ℕ) (l : Left) (k j : ℕ) → k ≡ j → (r : ℕ) (n : RowName) → Some r ≡ row_for sizes R s l k → name_number n ≡ (row_at R r).name → IsNamedRow (Some n) s l j
some_named R e s l k j f r n h g =
    let b : Some r ≡ row_for sizes rows s l j = subst (λ k. Some r ≡ row_for sizes rows s l k) f (subst (λ R. Some r ≡ row_for sizes R s l k) e h) in
    (r, row_for_is program_text s l j r (sym b), row_named n r (subst (λ R. name_number n ≡ (row_at R r).name) e g))
