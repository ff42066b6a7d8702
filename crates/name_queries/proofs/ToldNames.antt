-- The first names of a map, one by one.
use Rattle.std.proofs.Common.{◌≤◌, length, min, arith, ◌≡◌, ℕ, List, [], ◌∷◌, ◌++◌, refl, ap, sym, ◌∙◌, subst, map, take, Bor, Global}
use Rattle.std.specs.List.{AllZip}
use Rattle.std.specs.declared.rc.Rc.{Rc}
use Rattle.std.proofs.lemmas.List.{length-take, map-append, take-map}
use Rattle.std.proofs.lemmas.Slice.Zip.{all_zipped_more, AllZip-long}
use Rattle.env_table.specs.declared.entries.Entry.{Entry}
use Rattle.name_queries.specs.NewestNames.{Kept, listed}

abbrev Shared : Type 0
Shared = Bor (Rc Entry Global)

-- the entry that is pointed to
abbrev pub lent : Bor Shared → Entry
lent v = v.now.now.value

-- one more is told
pub told_more : {A : Type 0} (P : Entry → A → Type 0) (yielded : List (Bor Shared)) (v : Bor Shared) (told new : List A) (one : A) → AllZip P (map lent yielded) told → P (lent v) one → new ≡ told ++ one ∷ []
    → AllZip P (map lent (yielded ++ v ∷ [])) new
told_more P yielded v told new one all here is =
    subst (AllZip P (map lent (yielded ++ v ∷ []))) (sym is)
    (subst (λ es. AllZip P es (told ++ one ∷ [])) (sym (map-append lent yielded (v ∷ []))) (all_zipped_more P (map lent yielded) told (lent v) one all here))

twice : (vs : List (Bor Shared)) → map lent vs ≡ map (λ w. w.now.value) (map (λ v. v.now) vs)
twice [] = refl
twice (v ∷ vs) = ap (λ es. lent v ∷ es) (twice vs)

values_listed : (ps : List Kept) → map (λ w. w.now.value) (map (λ p. p.1) ps) ≡ listed ps
values_listed [] = refl
values_listed (p ∷ ps) = ap (λ es. p.1.now.value ∷ es) (values_listed ps)

-- the first values of a map are the first of its entries
pub first_listed : (n : ℕ) (yielded : List (Bor Shared)) (ps : List Kept) → map (λ v. v.now) yielded ≡ take n (map (λ p. p.1) ps) → map lent yielded ≡ take n (listed ps)
first_listed n yielded ps h =
    twice yielded ∙ ap (map (λ w. w.now.value)) h ∙ sym (take-map (λ w. w.now.value) n (map (λ p. p.1) ps)) ∙ ap (take n) (values_listed ps)

-- so many are told at most
pub few_told : {A B : Type 0} (P : A → B → Type 0) (n : ℕ) (all : List A) (told : List B) → AllZip P (take n all) told → length told ≤ n
few_told P n all told h =
    let e : length told ≡ length (take n all) = AllZip-long P (take n all) told h in
    let l : length (take n all) ≡ min n (length all) = length-take n all in
    omega arith
