-- The newest of each name, one entry more at a time.
use Rattle.std.proofs.Common.{◌≡◌, true, false, List, [], ◌∷◌, ◌++◌, reverse, refl, sym, ap, ◌∙◌}
use Rattle.std.proofs.lemmas.List.{reverse-append}
use Rattle.std.specs.declared.rc.Rc.{Rc}
use Rattle.std.specs.declared.alloc.Global.{Global}
use Rattle.env_table.specs.declared.entries.Entry.{Entry}
use Rattle.sig_template.specs.Structures.{entries_of, is_replaced, newest_alone}

entries_append : (xs ys : List (Rc Entry Global)) → entries_of (xs ++ ys) ≡ entries_of xs ++ entries_of ys
entries_append [] ys = refl
entries_append (x ∷ xs) ys = ap (λ es. x.value ∷ es) (entries_append xs ys)

pub entries_reversed : (xs : List (Rc Entry Global)) → entries_of (reverse xs) ≡ reverse (entries_of xs)
entries_reversed [] = refl
entries_reversed (x ∷ xs) =
    ap entries_of (reverse-append (x ∷ []) xs) ∙ entries_append (reverse xs) (x ∷ []) ∙ ap (λ es. es ++ x.value ∷ []) (entries_reversed xs) ∙ sym (reverse-append (x.value ∷ []) (entries_of xs))

-- an entry that is kept stands in front of those kept before it
pub newest_kept : (kept newer : List (Rc Entry Global)) (x e : Rc Entry Global) → x.value ≡ e.value → is_replaced e.value (entries_of newer) ≡ false →
    reverse (entries_of kept) ≡ newest_alone (entries_of newer) → reverse (entries_of (kept ++ x ∷ [])) ≡ newest_alone (entries_of (e ∷ newer))
newest_kept kept newer x e same h before =
    let now : reverse (entries_of (kept ++ x ∷ [])) ≡ x.value ∷ reverse (entries_of kept) = ap reverse (entries_append kept (x ∷ [])) ∙ reverse-append (entries_of kept) (x.value ∷ []) in
    let then : newest_alone (entries_of (e ∷ newer)) ≡ e.value ∷ newest_alone (entries_of newer) = rw h refl in
    now ∙ ap (λ y. y ∷ reverse (entries_of kept)) same ∙ ap (λ es. e.value ∷ es) before ∙ sym then

-- one that is replaced is left out
pub newest_dropped : (kept newer : List (Rc Entry Global)) (e : Rc Entry Global) → is_replaced e.value (entries_of newer) ≡ true →
    reverse (entries_of kept) ≡ newest_alone (entries_of newer) → reverse (entries_of kept) ≡ newest_alone (entries_of (e ∷ newer))
newest_dropped kept newer e h before =
    let then : newest_alone (entries_of (e ∷ newer)) ≡ newest_alone (entries_of newer) = rw h refl in
    before ∙ sym then
