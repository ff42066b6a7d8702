-- A row that is no pattern of its own binds nothing.
use Rattle.std.proofs.Common.{◌≡◌, ℕ, List, [], refl}
use Rattle.tree_model.specs.Trees.{Tree}
use Rattle.syntax_tree.specs.declared.rows.RowName.{RowName}
use Rattle.syntax_tree.specs.declared.rows.RowName.TheVariants as name
use Rattle.syntax_tree.specs.Names.{row_of}
use Rattle.pattern_names.specs.PatternNames.{PatternNames, names_of_row}

pub other_names : (r : RowName) (n : ℕ) (t : Tree) (ps : List (ℕ × PatternNames)) → (r ≡ name.Papp → ⊥) → (r ≡ name.Precord → ⊥) → (r ≡ name.Por → ⊥) → (r ≡ name.Pparen → ⊥) → (r ≡ name.Plist → ⊥) → (r ≡ name.Pcons → ⊥) → (r ≡ name.Ptuple → ⊥) → (r ≡ name.Pas → ⊥) → (r ≡ name.Pname → ⊥) → (r ≡ name.Pcon → ⊥) → (r ≡ name.Pconst → ⊥) → (r ≡ name.Pneg → ⊥) → names_of_row (row_of r) n t ps ≡ []
unfolding row_of
other_names name.Program n t ps o0 o1 o2 o3 o4 o5 o6 o7 o8 o9 o10 o11 = refl
other_names name.Let n t ps o0 o1 o2 o3 o4 o5 o6 o7 o8 o9 o10 o11 = refl
other_names name.TypeRow n t ps o0 o1 o2 o3 o4 o5 o6 o7 o8 o9 o10 o11 = refl
other_names name.Exception n t ps o0 o1 o2 o3 o4 o5 o6 o7 o8 o9 o10 o11 = refl
other_names name.Module n t ps o0 o1 o2 o3 o4 o5 o6 o7 o8 o9 o10 o11 = refl
other_names name.Modtype n t ps o0 o1 o2 o3 o4 o5 o6 o7 o8 o9 o10 o11 = refl
other_names name.Open n t ps o0 o1 o2 o3 o4 o5 o6 o7 o8 o9 o10 o11 = refl
other_names name.Include n t ps o0 o1 o2 o3 o4 o5 o6 o7 o8 o9 o10 o11 = refl
other_names name.Break n t ps o0 o1 o2 o3 o4 o5 o6 o7 o8 o9 o10 o11 = refl
other_names name.Val n t ps o0 o1 o2 o3 o4 o5 o6 o7 o8 o9 o10 o11 = refl
other_names name.Gmodule n t ps o0 o1 o2 o3 o4 o5 o6 o7 o8 o9 o10 o11 = refl
other_names name.Decl n t ps o0 o1 o2 o3 o4 o5 o6 o7 o8 o9 o10 o11 = refl
other_names name.Head n t ps o0 o1 o2 o3 o4 o5 o6 o7 o8 o9 o10 o11 = refl
other_names name.Alias n t ps o0 o1 o2 o3 o4 o5 o6 o7 o8 o9 o10 o11 = refl
other_names name.Variant n t ps o0 o1 o2 o3 o4 o5 o6 o7 o8 o9 o10 o11 = refl
other_names name.Record n t ps o0 o1 o2 o3 o4 o5 o6 o7 o8 o9 o10 o11 = refl
other_names name.Con n t ps o0 o1 o2 o3 o4 o5 o6 o7 o8 o9 o10 o11 = refl
other_names name.LabelRow n t ps o0 o1 o2 o3 o4 o5 o6 o7 o8 o9 o10 o11 = refl
other_names name.WithRow n t ps o0 o1 o2 o3 o4 o5 o6 o7 o8 o9 o10 o11 = refl
other_names name.Tvar n t ps o0 o1 o2 o3 o4 o5 o6 o7 o8 o9 o10 o11 = refl
other_names name.Tcon n t ps o0 o1 o2 o3 o4 o5 o6 o7 o8 o9 o10 o11 = refl
other_names name.Tparen n t ps o0 o1 o2 o3 o4 o5 o6 o7 o8 o9 o10 o11 = refl
other_names name.Tapp n t ps o0 o1 o2 o3 o4 o5 o6 o7 o8 o9 o10 o11 = refl
other_names name.Ttuple n t ps o0 o1 o2 o3 o4 o5 o6 o7 o8 o9 o10 o11 = refl
other_names name.Tarrow n t ps o0 o1 o2 o3 o4 o5 o6 o7 o8 o9 o10 o11 = refl
other_names name.Pname n t ps o0 o1 o2 o3 o4 o5 o6 o7 o8 o9 o10 o11 = absurd (o8 refl)
other_names name.Pany n t ps o0 o1 o2 o3 o4 o5 o6 o7 o8 o9 o10 o11 = refl
other_names name.Pconst n t ps o0 o1 o2 o3 o4 o5 o6 o7 o8 o9 o10 o11 = absurd (o10 refl)
other_names name.Pneg n t ps o0 o1 o2 o3 o4 o5 o6 o7 o8 o9 o10 o11 = absurd (o11 refl)
other_names name.Pcon n t ps o0 o1 o2 o3 o4 o5 o6 o7 o8 o9 o10 o11 = absurd (o9 refl)
other_names name.Pparen n t ps o0 o1 o2 o3 o4 o5 o6 o7 o8 o9 o10 o11 = absurd (o3 refl)
other_names name.Plist n t ps o0 o1 o2 o3 o4 o5 o6 o7 o8 o9 o10 o11 = absurd (o4 refl)
other_names name.Precord n t ps o0 o1 o2 o3 o4 o5 o6 o7 o8 o9 o10 o11 = absurd (o1 refl)
other_names name.Papp n t ps o0 o1 o2 o3 o4 o5 o6 o7 o8 o9 o10 o11 = absurd (o0 refl)
other_names name.Pcons n t ps o0 o1 o2 o3 o4 o5 o6 o7 o8 o9 o10 o11 = absurd (o5 refl)
other_names name.Ptuple n t ps o0 o1 o2 o3 o4 o5 o6 o7 o8 o9 o10 o11 = absurd (o6 refl)
other_names name.Por n t ps o0 o1 o2 o3 o4 o5 o6 o7 o8 o9 o10 o11 = absurd (o2 refl)
other_names name.Pas n t ps o0 o1 o2 o3 o4 o5 o6 o7 o8 o9 o10 o11 = absurd (o7 refl)
other_names name.Qfield n t ps o0 o1 o2 o3 o4 o5 o6 o7 o8 o9 o10 o11 = refl
other_names name.Binding n t ps o0 o1 o2 o3 o4 o5 o6 o7 o8 o9 o10 o11 = refl
other_names name.Case n t ps o0 o1 o2 o3 o4 o5 o6 o7 o8 o9 o10 o11 = refl
other_names name.Ffield n t ps o0 o1 o2 o3 o4 o5 o6 o7 o8 o9 o10 o11 = refl
other_names name.Name n t ps o0 o1 o2 o3 o4 o5 o6 o7 o8 o9 o10 o11 = refl
other_names name.Econ n t ps o0 o1 o2 o3 o4 o5 o6 o7 o8 o9 o10 o11 = refl
other_names name.Epath n t ps o0 o1 o2 o3 o4 o5 o6 o7 o8 o9 o10 o11 = refl
other_names name.Econst n t ps o0 o1 o2 o3 o4 o5 o6 o7 o8 o9 o10 o11 = refl
other_names name.Hole n t ps o0 o1 o2 o3 o4 o5 o6 o7 o8 o9 o10 o11 = refl
other_names name.Eparen n t ps o0 o1 o2 o3 o4 o5 o6 o7 o8 o9 o10 o11 = refl
other_names name.Ebegin n t ps o0 o1 o2 o3 o4 o5 o6 o7 o8 o9 o10 o11 = refl
other_names name.Elist n t ps o0 o1 o2 o3 o4 o5 o6 o7 o8 o9 o10 o11 = refl
other_names name.Erecord n t ps o0 o1 o2 o3 o4 o5 o6 o7 o8 o9 o10 o11 = refl
other_names name.Prefix n t ps o0 o1 o2 o3 o4 o5 o6 o7 o8 o9 o10 o11 = refl
other_names name.Field n t ps o0 o1 o2 o3 o4 o5 o6 o7 o8 o9 o10 o11 = refl
other_names name.Eapp n t ps o0 o1 o2 o3 o4 o5 o6 o7 o8 o9 o10 o11 = refl
other_names name.Eassert n t ps o0 o1 o2 o3 o4 o5 o6 o7 o8 o9 o10 o11 = refl
other_names name.Ewhile n t ps o0 o1 o2 o3 o4 o5 o6 o7 o8 o9 o10 o11 = refl
other_names name.Efor n t ps o0 o1 o2 o3 o4 o5 o6 o7 o8 o9 o10 o11 = refl
other_names name.Eneg n t ps o0 o1 o2 o3 o4 o5 o6 o7 o8 o9 o10 o11 = refl
other_names name.Infix n t ps o0 o1 o2 o3 o4 o5 o6 o7 o8 o9 o10 o11 = refl
other_names name.Econs n t ps o0 o1 o2 o3 o4 o5 o6 o7 o8 o9 o10 o11 = refl
other_names name.Etuple n t ps o0 o1 o2 o3 o4 o5 o6 o7 o8 o9 o10 o11 = refl
other_names name.Eset n t ps o0 o1 o2 o3 o4 o5 o6 o7 o8 o9 o10 o11 = refl
other_names name.Eif n t ps o0 o1 o2 o3 o4 o5 o6 o7 o8 o9 o10 o11 = refl
other_names name.Eseq n t ps o0 o1 o2 o3 o4 o5 o6 o7 o8 o9 o10 o11 = refl
other_names name.Elet n t ps o0 o1 o2 o3 o4 o5 o6 o7 o8 o9 o10 o11 = refl
other_names name.Ematch n t ps o0 o1 o2 o3 o4 o5 o6 o7 o8 o9 o10 o11 = refl
other_names name.Etry n t ps o0 o1 o2 o3 o4 o5 o6 o7 o8 o9 o10 o11 = refl
other_names name.Efun n t ps o0 o1 o2 o3 o4 o5 o6 o7 o8 o9 o10 o11 = refl
other_names name.Efunction n t ps o0 o1 o2 o3 o4 o5 o6 o7 o8 o9 o10 o11 = refl
other_names name.Mpath n t ps o0 o1 o2 o3 o4 o5 o6 o7 o8 o9 o10 o11 = refl
other_names name.Mstruct n t ps o0 o1 o2 o3 o4 o5 o6 o7 o8 o9 o10 o11 = refl
other_names name.Mparen n t ps o0 o1 o2 o3 o4 o5 o6 o7 o8 o9 o10 o11 = refl
other_names name.Mapp n t ps o0 o1 o2 o3 o4 o5 o6 o7 o8 o9 o10 o11 = refl
other_names name.Mfunctor n t ps o0 o1 o2 o3 o4 o5 o6 o7 o8 o9 o10 o11 = refl
other_names name.Ypath n t ps o0 o1 o2 o3 o4 o5 o6 o7 o8 o9 o10 o11 = refl
other_names name.Ysig n t ps o0 o1 o2 o3 o4 o5 o6 o7 o8 o9 o10 o11 = refl
other_names name.Yparen n t ps o0 o1 o2 o3 o4 o5 o6 o7 o8 o9 o10 o11 = refl
other_names name.Ywith n t ps o0 o1 o2 o3 o4 o5 o6 o7 o8 o9 o10 o11 = refl
other_names name.Yfunctor n t ps o0 o1 o2 o3 o4 o5 o6 o7 o8 o9 o10 o11 = refl
