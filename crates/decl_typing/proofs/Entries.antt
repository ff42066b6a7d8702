-- The entries of constructors or labels, one after the other.
use Rattle.std.proofs.Common.{◌≡◌, ◌∙◌, ℕ, ◌+◌, ◌<◌, ◌≤◌, ◌^◌, List, [], ◌∷◌, ◌++◌, length, drop, Option, None, refl, sym, ap, subst, append-nil, append_assoc, arith}
use Rattle.std.specs.Prelude.{slice_index_or}
use Rattle.std.proofs.lemmas.List.{drop_more, drop_all, length-map, map-append}
use Rattle.std.specs.declared.rc.Rc.{Rc}
use Rattle.std.specs.declared.alloc.Global.{Global}
use denote.Ref.{Bor}
use Rattle.syntax_tree.specs.declared.tree.Token.{Token}
use Rattle.syntax_tree.specs.View.{tok_of}
use Rattle.env_table.specs.declared.entries.Declaration.{Declaration}
use Rattle.env_table.specs.declared.entries.Entry.{Entry}
use Rattle.decl_groups.specs.declared.groups.DeclarationPart.{DeclarationPart}
use Rattle.decl_typing.specs.Entering.{alone, entered}
use Rattle.decl_typing.specs.Owned.{told_in}
use Rattle.decl_typing.specs.Entries.{IsToldEntry, TypeEntryIf, AreTold, none_told, one_told, second_names, names_told_if, values_of, AddsTold, AddsEntries, EntersNames, no_parts, no_more, one_name}

-- the entries of the first names are made, and with those of the names that are left they are all
pub record FirstMade (x : Declaration) (ts : List (ℕ × Bor Token)) (k : ℕ) (before now : List (Rc Entry Global)) : Type 0 where
  pub made : List (Rc Entry Global)
  pub all : now ≡ before ++ made
  pub whole : (more : List Entry) → AreTold x k (second_names (drop k ts)) more → AreTold x 0 (second_names ts) (values_of made ++ more)

-- the same where the places are numbers of 32 bits
abbrev pub FirstTold : Declaration → List (ℕ × Bor Token) → ℕ → (before now : List (Rc Entry Global)) → Type 0
FirstTold x ts k before now = length (second_names ts) < 2 ^ 32 → FirstMade x ts k before now

-- none is made yet
pub first_none : (x : Declaration) (ts : List (ℕ × Bor Token)) (before : List (Rc Entry Global)) → FirstTold x ts 0 before before
first_none x ts before small = record { made = []; all = sym (append-nil before); whole = λ more told. told }

-- one more is made
pub first_more : (x : Declaration) (ts : List (ℕ × Bor Token)) (k : ℕ) (t : ℕ × Bor Token) (before now : List (Rc Entry Global)) (e : Rc Entry Global) → k < length ts → t ≡ slice_index_or ts k t → (k < 2 ^ 32 → IsToldEntry x k (tok_of t.1.now) e.value) → FirstTold x ts k before now →
    FirstTold x ts (k + 1) before (now ++ e ∷ [])
first_more x ts k t before now e lt here told first small =
    let f = first small in
    let many : length (second_names ts) ≡ length ts = length-map ts (λ (u : ℕ × Bor Token). tok_of u.1.now) in
    record {
      made = f.made ++ e ∷ [];
      all = ap (λ es. es ++ e ∷ []) f.all ∙ append_assoc before f.made (e ∷ []);
      whole = λ more rest. subst (AreTold x 0 (second_names ts)) (sym (ap (λ ys. ys ++ more) (map-append (λ (y : Rc Entry Global). y.value) f.made (e ∷ [])) ∙ append_assoc (values_of f.made) (e.value ∷ []) more))
          (f.whole (e.value ∷ more) (subst (λ us. AreTold x k (second_names us) (e.value ∷ more)) (sym (drop_more ts k t lt ∙ ap (λ u. u ∷ drop (k + 1) ts) (sym here))) (one_told (told (omega (arith, lt, small, many))) (subst (λ j. AreTold x j (second_names (drop (k + 1) ts)) more) (omega arith) rest))));
    }

-- all are made
pub first_all : (x : Declaration) (ts : List (ℕ × Bor Token)) (k : ℕ) (before now : List (Rc Entry Global)) → length ts ≤ k → FirstTold x ts k before now → AddsTold x (second_names ts) before now
first_all x ts k before now past first small =
    let f = first small in
    (f.made, f.all, subst (AreTold x 0 (second_names ts)) (append-nil (values_of f.made)) (f.whole [] (subst (λ us. AreTold x k (second_names us) []) (sym (drop_all k ts past)) none_told)))

-- none are added where nothing is told
pub none_added : (x : Declaration) (p : DeclarationPart) (before : List (Rc Entry Global)) → told_in p.right ≡ None → AddsTold x (names_told_if (told_in p.right)) before before
none_added x p before none small = ([], sym (append-nil before), subst (λ o. AreTold x 0 (names_told_if o) []) (sym none) none_told)

-- the entry of a type's name, and then those of what is told
pub entries_added : (x : Declaration) (p : DeclarationPart) (type : Option (Rc Entry Global)) (before after : List (Rc Entry Global)) → TypeEntryIf x p.name type → AddsTold x (names_told_if (told_in p.right)) (before ++ alone type) after → AddsEntries x p before after
entries_added x p type before after named adds small =
    let (told, all, are) = adds small in
    (alone type ++ told, all ∙ append_assoc before (alone type) told, record { type = type; told = told; named = named; are_told = are; all = refl })

-- one name more is entered
pub names_more : (ps : List DeclarationPart) (ds : List (Rc Declaration Global)) (k : ℕ) (p : DeclarationPart) (d : Rc Declaration Global) (e : Option (Rc Entry Global)) (env inner after : List Entry) → k < length ps → p ≡ slice_index_or ps k p → k < length ds → d ≡ slice_index_or ds k d → TypeEntryIf d.value p.name e → inner ≡ entered e env →
    EntersNames (drop (k + 1) ps) (drop (k + 1) ds) inner after → EntersNames (drop k ps) (drop k ds) env after
names_more ps ds k p d e env inner after lt here small there named is rest =
    subst (λ qs. EntersNames qs (drop k ds) env after) (sym (drop_more ps k p lt ∙ ap (λ q. q ∷ drop (k + 1) ps) (sym here)))
    (subst (λ ys. EntersNames (p ∷ drop (k + 1) ps) ys env after) (sym (drop_more ds k d small ∙ ap (λ y. y ∷ drop (k + 1) ds) (sym there))) (one_name e named (subst (λ es. EntersNames (drop (k + 1) ps) (drop (k + 1) ds) es after) is rest)))

-- none is left of the declarations, and of their parts
pub names_end : (ps : List DeclarationPart) (ds : List (Rc Declaration Global)) (k : ℕ) (env : List Entry) → length ps ≤ k → EntersNames (drop k ps) (drop k ds) env env
names_end ps ds k env past = subst (λ qs. EntersNames qs (drop k ds) env env) (sym (drop_all k ps past)) no_parts

pub names_short : (ps : List DeclarationPart) (ds : List (Rc Declaration Global)) (k : ℕ) (env : List Entry) → length ds ≤ k → EntersNames (drop k ps) (drop k ds) env env
names_short ps ds k env past = subst (λ ys. EntersNames (drop k ps) ys env env) (sym (drop_all k ds past)) no_more
