-- Names are made names of the prelude one after the other.
use Rattle.std.proofs.Common.{◌≡◌, ◌∙◌, ℕ, ◌+◌, ◌<◌, ◌≤◌, List, [], ◌∷◌, ◌++◌, length, drop, refl, sym, ap, subst, append-nil, append_assoc}
use Rattle.std.specs.Prelude.{slice_index_or}
use Rattle.std.proofs.lemmas.List.{drop_more, drop_all, map-append}
use Rattle.std.specs.declared.rc.Rc.{Rc}
use Rattle.std.specs.declared.alloc.Global.{Global}
use Rattle.env_table.specs.declared.entries.Entry.{Entry}
use Rattle.prelude_places.specs.There.{EntryThere, AreThere, none_there, one_there, values_of}

-- what was made and what will be made of the names that are left are made of all
abbrev pub Onto : (all left : List Entry) → (made : List (Rc Entry Global)) → Type 0
Onto all left made = (es : List Entry) → AreThere left es → AreThere all (values_of made ++ es)

-- nothing is made yet
pub onto_none : (all : List Entry) → Onto all all []
onto_none all es there = there

-- one name more is made
pub onto_more : (all left : List Entry) (made : List (Rc Entry Global)) (x : Entry) (y : Rc Entry Global) (now : List (Rc Entry Global)) → now ≡ made ++ y ∷ [] → EntryThere x y.value → Onto all (x ∷ left) made → Onto all left now
onto_more all left made x y now is one onto es there = subst (AreThere all) (sym same) (onto (y.value ∷ es) (one_there one there))
  where
    same : values_of now ++ es ≡ values_of made ++ y.value ∷ es
    same = ap (λ ys. values_of ys ++ es) is ∙ ap (λ ys. ys ++ es) (map-append (λ (r : Rc Entry Global). r.value) made (y ∷ [])) ∙ append_assoc (values_of made) (y.value ∷ []) es

-- all are made
pub onto_all : (all : List Entry) (made : List (Rc Entry Global)) → Onto all [] made → AreThere all (values_of made)
onto_all all made onto = subst (AreThere all) (append-nil (values_of made)) (onto [] none_there)

-- the same of the names of a list from a place on
pub onto_next : (all : List Entry) (made : List (Rc Entry Global)) (old : List (Rc Entry Global)) (i : ℕ) (x y : Rc Entry Global) (now : List (Rc Entry Global)) → i < length old → x ≡ slice_index_or old i x → now ≡ made ++ y ∷ [] → EntryThere x.value y.value →
    Onto all (values_of (drop i old)) made → Onto all (values_of (drop (i + 1) old)) now
onto_next all made old i x y now lt here is one onto = onto_more all (values_of (drop (i + 1) old)) made x.value y now is one (subst (λ us. Onto all (values_of us) made) (drop_more old i x lt ∙ ap (λ u. u ∷ drop (i + 1) old) (sym here)) onto)

pub onto_end : (all : List Entry) (made : List (Rc Entry Global)) (old : List (Rc Entry Global)) (i : ℕ) → length old ≤ i → Onto all (values_of (drop i old)) made → AreThere all (values_of made)
onto_end all made old i past onto = onto_all all made (subst (λ us. Onto all (values_of us) made) (drop_all i old past) onto)
