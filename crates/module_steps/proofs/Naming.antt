-- The names that stand, and those that are told to stand twice.
use Rattle.std.proofs.Common.{◌≡◌, ◌∙◌, ℕ, ◌+◌, ◌<◌, ◌≤◌, Bool, true, List, [], ◌∷◌, ◌++◌, length, get_or, drop, refl, sym, ap, subst}
use Rattle.std.specs.Prelude.{◌&&◌, if◌then◌else◌, OnOk, Result, Ok, Err}
use Rattle.std.specs.Str.{bytes_eq}
use Rattle.std.proofs.lemmas.List.{drop_more, drop_all}
use Rattle.std.specs.declared.rc.Rc.{Rc}
use Rattle.std.specs.declared.alloc.Global.{Global}
use Rattle.text_terms.specs.Bytes.{str_bytes}
use Rattle.text_terms.specs.declared.Span.{Span}
use Rattle.signature_model.specs.Lookups.{same_kind}
use Rattle.env_table.specs.declared.entries.Kind.{Kind}
use Rattle.env_table.specs.declared.entries.Kind.TheVariants as kind
use Rattle.env_table.specs.declared.entries.Entry.{Entry}
use Rattle.env_table.specs.declared.faults.Fault.{Fault}
use Rattle.env_table.specs.Views.{kind_of}
use Rattle.typing_state.specs.declared.parts.Telling.{Telling}
use Rattle.module_steps.specs.declared.scenes.Scene.{Scene}
use Rattle.sig_template.specs.Structures.{entries_of}
use Rattle.module_steps.specs.Scenes.{stands_once, with_name, SameNames, told_again, repeated, with_names, ToldTwice}

-- scenes with the same three sets have the same names
pub same_sets : (old new : Scene) → new.types ≡ old.types → new.modules ≡ old.modules → new.module_types ≡ old.module_types → SameNames old new
same_sets old new a b c kind.TypeName n = cc
same_sets old new a b c kind.Module n = cc
same_sets old new a b c kind.ModuleType n = cc
same_sets old new a b c kind.Value n = refl
same_sets old new a b c kind.Constructor n = refl
same_sets old new a b c kind.Label n = refl

with_same : (f g : Kind → List ℕ → Bool) → ((k : Kind) (n : List ℕ) → g k n ≡ f k n) → (k : Kind) (n : List ℕ) (j : Kind) (m : List ℕ) → with_name g k n j m ≡ with_name f k n j m
with_same f g h k n j m = ap (λ (b : Bool). if stands_once k && same_kind (kind_of k) (kind_of j) && bytes_eq n m then true else b) (h j m)

pub with_names_same : (f g : Kind → List ℕ → Bool) (es : List Entry) → ((k : Kind) (n : List ℕ) → g k n ≡ f k n) → (k : Kind) (n : List ℕ) → with_names g es k n ≡ with_names f es k n
with_names_same f g [] h k n = h k n
with_names_same f g (e ∷ es) h k n = with_names_same (with_name f e.kind (str_bytes e.name)) (with_name g e.kind (str_bytes e.name)) es (with_same f g h e.kind (str_bytes e.name)) k n

pub repeated_same : (f g : Kind → List ℕ → Bool) (es : List Entry) → ((k : Kind) (n : List ℕ) → g k n ≡ f k n) → repeated g es ≡ repeated f es
repeated_same f g [] h = refl
repeated_same f g (e ∷ es) h =
    ap (λ b. told_again b (str_bytes e.name) ++ repeated (with_name g e.kind (str_bytes e.name)) es) (h e.kind (str_bytes e.name))
    ∙ ap (λ ns. told_again (f e.kind (str_bytes e.name)) (str_bytes e.name) ++ ns) (repeated_same (with_name f e.kind (str_bytes e.name)) (with_name g e.kind (str_bytes e.name)) es (with_same f g h e.kind (str_bytes e.name)))

-- names are told one list after the other
told_join : (t : Telling) (a b c : List Fault) (span : Span) (ns ms : List (List ℕ)) → ToldTwice t a b span ns → ToldTwice t b c span ms → ToldTwice t a c span (ns ++ ms)
told_join t a b c span [] ms p q = subst (λ x. ToldTwice t x c span ms) p q
told_join t a b c span (n ∷ ns) ms (mid, one, rest) q = (mid, one, told_join t mid b c span ns ms rest q)

same_after : (f g : Kind → List ℕ → Bool) (e : Entry) (k : Kind) (n : List ℕ) → k ≡ e.kind → n ≡ str_bytes e.name → ((j : Kind) (m : List ℕ) → g j m ≡ with_name f k n j m) → (j : Kind) (m : List ℕ) → g j m ≡ with_name f e.kind (str_bytes e.name) j m
same_after f g e k n ke ne h j m = h j m ∙ ap (λ x. with_name f x n j m) ke ∙ ap (λ x. with_name f e.kind x j m) ne

-- what an entry and those behind it tell
pub told_more : (t u : Telling) → u ≡ t → (f g : Kind → List ℕ → Bool) (e : Entry) (es : List Entry) (span : Span) (a b c : List Fault) (k : Kind) (n : List ℕ) → k ≡ e.kind → n ≡ str_bytes e.name
    → ((j : Kind) (m : List ℕ) → g j m ≡ with_name f k n j m) → ToldTwice u a b span (told_again (f k n) n) → ToldTwice t b c span (repeated g es) → ToldTwice t a c span (repeated f (e ∷ es))
told_more t u tu f g e es span a b c k n ke ne h one rest =
    let names = told_again (f e.kind (str_bytes e.name)) (str_bytes e.name) in
    told_join t a b c span names (repeated (with_name f e.kind (str_bytes e.name)) es)
    (subst (λ m. ToldTwice t a b span (told_again (f e.kind m) m)) ne (subst (λ j. ToldTwice t a b span (told_again (f j n) n)) ke (subst (λ v. ToldTwice v a b span (told_again (f k n) n)) tu one)))
    (subst (λ ns. ToldTwice t b c span ns) (repeated_same (with_name f e.kind (str_bytes e.name)) g es (same_after f g e k n ke ne h)) rest)

-- the names that stand behind an entry and the others
pub noted_more : (f g : Kind → List ℕ → Bool) (e : Entry) (es : List Entry) (k : Kind) (n : List ℕ) → k ≡ e.kind → n ≡ str_bytes e.name → ((j : Kind) (m : List ℕ) → g j m ≡ with_name f k n j m) → (j : Kind) (m : List ℕ) → with_names g es j m ≡ with_names f (e ∷ es) j m
noted_more f g e es k n ke ne h j m = with_names_same (with_name f e.kind (str_bytes e.name)) g es (same_after f g e k n ke ne h) j m

pub rest_of : (es : List (Rc Entry Global)) (i : ℕ) (r : Rc Entry Global) → i < length es → r ≡ get_or es i r → entries_of (drop i es) ≡ r.value ∷ entries_of (drop (i + 1) es)
rest_of es i r inside is = ap entries_of (drop_more es i r inside) ∙ ap (λ (x : Rc Entry Global). x.value ∷ entries_of (drop (i + 1) es)) (sym is)

pub none_left : (es : List (Rc Entry Global)) (i : ℕ) → length es ≤ i → entries_of (drop i es) ≡ []
none_left es i out = ap entries_of (drop_all i es out)

pub always : {A E : Type 0} {P : Type 0} (r : Result A E) → P → OnOk r P
always (Ok a) p = p
always (Err a) p = tt

pub on_ok : {A E : Type 0} {P Q : Type 0} (r : Result A E) → (P → Q) → OnOk r P → OnOk r Q
on_ok (Ok a) f p = f p
on_ok (Err a) f p = tt

pub values_more : (es : List (Rc Entry Global)) (e : Rc Entry Global) → entries_of (es ++ e ∷ []) ≡ entries_of es ++ e.value ∷ []
values_more [] e = refl
values_more (x ∷ es) e = ap (λ vs. x.value ∷ vs) (values_more es e)
