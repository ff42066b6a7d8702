-- The first component that fails, from one component on.
use Rattle.std.proofs.Common.{◌≡◌, ℕ, ◌+◌, ◌<◌, ◌≤◌, List, ◌∷◌, map, length, get_or, drop, refl, sym, ap, ◌∙◌, subst, Option, Some, None, option_map, true, false}
use Rattle.std.proofs.lemmas.List.{drop_more, drop_all}
use Rattle.std.specs.declared.rc.Rc.{Rc}
use Rattle.std.specs.declared.alloc.Global.{Global}
use Rattle.type_nodes.specs.Nodes.{Node}
use Rattle.signature_model.specs.Failing.{Blame}
use Rattle.env_table.specs.declared.entries.Entry.{Entry}
use Rattle.env_table.specs.declared.entries.Sig.{Sig}
use Rattle.std.specs.Option.{is_some}
use Rattle.signature_match.specs.declared.causes.Mismatch.{Mismatch}
use Rattle.signature_match.specs.Blames.{blame_of}
use Rattle.signature_match.specs.Telling.{TellsFirst, TellsEntry, TellsOne, all_met, met, fails}

abbrev pub Next : ℕ → (old new : List Node) → Sig → List (Rc Entry Global) → ℕ → Option Blame → Type 0
Next k old new A rs i told = TellsFirst k old new A (map (λ r. r.value) (drop i rs)) told

split : (rs : List (Rc Entry Global)) (i : ℕ) (r : Rc Entry Global) → i < length rs → r ≡ get_or rs i r → map (λ (x : Rc Entry Global). x.value) (drop i rs) ≡ r.value ∷ map (λ x. x.value) (drop (i + 1) rs)
split rs i r h is = ap (map (λ (x : Rc Entry Global). x.value)) (drop_more rs i r h) ∙ ap (λ (x : Rc Entry Global). x.value ∷ map (λ x. x.value) (drop (i + 1) rs)) (sym is)

-- one that is met
met_next : (k : ℕ) (old mid new : List Node) (A : Sig) (rs : List (Rc Entry Global)) (i : ℕ) (r : Rc Entry Global) (told : Option Blame) → i < length rs → r ≡ get_or rs i r →
    TellsOne k old mid A r.value None → Next k mid new A rs (i + 1) told → Next k old new A rs i told
met_next k old mid new A rs i r told h is one rest = subst (λ es. TellsFirst k old new A es told) (sym (split rs i r h is)) (met mid one rest)

-- one that fails
fails_here : (k : ℕ) (old new : List Node) (A : Sig) (rs : List (Rc Entry Global)) (i : ℕ) (r : Rc Entry Global) (b : Blame) → i < length rs → r ≡ get_or rs i r →
    TellsEntry k old new A r.value (Some b) → Next k old new A rs i (Some b)
fails_here k old new A rs i r b h is (inner, e, one) =
    subst (λ es. TellsFirst k old new A es (Some b)) (sym (split rs i r h is)) (subst (λ x. TellsFirst k old new A (r.value ∷ map (λ x. x.value) (drop (i + 1) rs)) (Some x)) (sym e) (fails inner one))

-- what one component tells, where it fails
pub told_here : (k : ℕ) (old new : List Node) (A : Sig) (rs : List (Rc Entry Global)) (i : ℕ) (r : Rc Entry Global) (m : Option Mismatch) → i < length rs → r ≡ get_or rs i r → is_some m ≡ true →
    TellsEntry k old new A r.value (option_map blame_of m) → Next k old new A rs i (option_map blame_of m)
told_here k old new A rs i r None h is some told = cc
told_here k old new A rs i r (Some m) h is some told = fails_here k old new A rs i r (blame_of m) h is told

-- and where it is met
pub told_later : (k : ℕ) (old mid new : List Node) (A : Sig) (rs : List (Rc Entry Global)) (i : ℕ) (r : Rc Entry Global) (m : Option Mismatch) (told : Option Blame) → i < length rs → r ≡ get_or rs i r →
    is_some m ≡ false → TellsEntry k old mid A r.value (option_map blame_of m) → Next k mid new A rs (i + 1) told → Next k old new A rs i told
told_later k old mid new A rs i r None told h is none one rest = met_next k old mid new A rs i r told h is one rest
told_later k old mid new A rs i r (Some m) told h is none one rest = cc

-- no other is left
pub none_left : (k : ℕ) (nodes : List Node) (A : Sig) (rs : List (Rc Entry Global)) (i : ℕ) → length rs ≤ i → Next k nodes nodes A rs i None
none_left k nodes A rs i h = subst (λ xs. TellsFirst k nodes nodes A (map (λ (x : Rc Entry Global). x.value) xs) None) (sym (drop_all i rs h)) (all_met refl)
