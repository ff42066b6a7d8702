-- What the calls that type items do, in terms of the laws.
use Rattle.std.proofs.Common.{inl, inr, ◌⊎◌, ◌≡◌, ◌∙◌, suc, true, false, List, [], ◌∷◌, ◌++◌, length, refl, sym, ap}
use Rattle.std.specs.Prelude.{Result, Ok, Err, OnOk, OnErr, is_err}
use Rattle.std.specs.declared.rc.Rc.{Rc}
use Rattle.std.specs.declared.vec.Vec.{Vec}
use Rattle.std.specs.declared.alloc.Global.{Global}
use Rattle.tree_model.specs.Trees.{inner}
use Rattle.syntax_tree.specs.declared.rows.RowName.TheVariants as name
use Rattle.syntax_tree.specs.declared.tree.Node.{Node, out-Node}
use Rattle.syntax_tree.specs.View.{node_view}
use Rattle.row_parts.specs.Numbered.{node_with}
use Rattle.env_table.specs.declared.entries.Entry.{Entry}
use Rattle.type_terms.specs.declared.types.Origin.{Origin}
use Rattle.env_table.specs.declared.entries.Kind.TheVariants as kind
use Rattle.binding_rows.specs.ItemRows.{IsCarriedItemOperand}
use Rattle.module_steps.specs.declared.scenes.Scene.{Scene}
use Rattle.module_typing.specs.Items.{NamesNone}
use Rattle.module_typing.proofs.NodeRows.{row_there, only_let, only_break, only_exception, let_there, break_there, exception_there}
use Rattle.text_analysis.specs.Items.{views_of}
use Rattle.text_analysis.specs.Given.{NoneStands}

-- what names nothing, by the row of its node
pub names_nothing : (nd : Node) → ((out-Node nd).row ≡ name.Let) ⊎ (((out-Node nd).row ≡ name.Break) ⊎ ((out-Node nd).row ≡ name.Exception)) → NamesNone (inner (node_view nd))
names_nothing nd is = elim is [ inl e ↦ inl (let_there nd e) | inr other ↦ elim other [ inl e ↦ inr (inl (break_there nd e)) | inr e ↦ inr (inr (exception_there nd e)) ] ]

-- no other row is carried
pub not_carried : (nd : Node) → ((out-Node nd).row ≡ name.Let → ⊥) → ((out-Node nd).row ≡ name.Break → ⊥) → ((out-Node nd).row ≡ name.Exception → ⊥) → IsCarriedItemOperand (node_with 0 (node_view nd)) → ⊥
not_carried nd no_let no_break no_exception c = elim c [
  | inl item ↦ no_let (only_let (out-Node nd).row (sym (row_there nd) ∙ item.row))
  | inr other ↦ elim other [
    | inl break_is ↦ no_break (only_break (out-Node nd).row (sym (row_there nd) ∙ break_is))
    | inr thrown ↦ no_exception (only_exception (out-Node nd).row (sym (row_there nd) ∙ thrown.row))
  ]
]

-- other components leave the names as they are
pub none_stands : (s : Scene) (components : Vec (Rc Entry Global) Global) (makes : Vec Origin Global) → NoneStands s → NoneStands (record s { components = components; makes = makes })
none_stands s components makes none kind.TypeName n = none kind.TypeName n
none_stands s components makes none kind.Module n = none kind.Module n
none_stands s components makes none kind.ModuleType n = none kind.ModuleType n
none_stands s components makes none kind.Value n = refl
none_stands s components makes none kind.Constructor n = refl
none_stands s components makes none kind.Label n = refl

pub length_views : (ns : List (Rc Node Global)) → length (views_of ns) ≡ length ns
length_views [] = refl
length_views (n ∷ ns) = ap suc (length_views ns)

-- one tree more
pub views_more : (ns ms : List (Rc Node Global)) (n : Rc Node Global) (nd : Node) → ms ≡ ns ++ n ∷ [] → n.value ≡ nd → views_of ms ≡ views_of ns ++ node_view nd ∷ []
views_more ns ms n nd e is = ap views_of e ∙ go ns
  where
    go : (ns : List (Rc Node Global)) → views_of (ns ++ n ∷ []) ≡ views_of ns ++ node_view nd ∷ []
    go [] = ap (λ x. node_view x ∷ []) is
    go (m ∷ ms) = ap (λ ts. node_view m.value ∷ ts) (go ms)

-- what holds at an error, at one
pub at_err : {A F P : Type 0} (r : Result A F) → is_err r ≡ true → OnErr r P → P
at_err (Ok v) e h = absurd (cc)
at_err (Err x) e h = h

-- and what holds at a value
pub at_ok : {A F P : Type 0} (r : Result A F) → is_err r ≡ false → OnOk r P → P
at_ok (Ok v) e h = h
at_ok (Err x) e h = absurd (cc)

-- what a call gives where it succeeds, where it did
pub at_kept : {A F P : Type 0} {v : A} (r : Result A F) → r ≡ Ok v → OnOk r P → P
at_kept (Ok v) e h = h
at_kept (Err x) e h = absurd (cc)

-- nothing is given at an error
pub none_ok : {A F : Type 0} (P : Type 0) (r : Result A F) → is_err r ≡ true → OnOk r P
none_ok P (Ok v) e = absurd (cc)
none_ok P (Err x) e = tt
