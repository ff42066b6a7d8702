-- The typed nodes of a plain text stand within it.
use Rattle.std.proofs.Common.{◌≡◌, ◌≤◌, ◌+◌, ℕ, List, [], ◌∷◌, true, false, Some, None, refl, sym, ap, subst}
use Rattle.std.specs.Prelude.{Option, option_map, option_and_then, if◌then◌else◌, Bool, cond, find}
use Rattle.token_model.specs.Kinds.{Tok, AllWithin}
use Rattle.tree_model.specs.Trees.{Tree}
use Rattle.plain_model.specs.Plain.{Plain, Seen, seen, is_item, item_tree, plain_trees, typed, typed_trees, type_of, plain_text, AllSeenWithin}

-- of the typed nodes of one item and those that follow
item_within : (n k : ℕ) (b d : Tok) (ty : Plain) (rest : Option (List Seen)) (ss : List Seen) → b.start ≤ n → b.end ≤ n → d.start ≤ n → d.end ≤ n
    → ((rs : List Seen) → rest ≡ Some rs → AllSeenWithin n rs) → option_map (λ rs. seen k 2 b ty ∷ seen k 3 d ty ∷ rs) rest ≡ Some ss → AllSeenWithin n ss
item_within n k b d ty None ss b0 b1 d0 d1 more is = cc
item_within n k b d ty (Some rs) ss b0 b1 d0 d1 more is =
    let same : seen k 2 b ty ∷ seen k 3 d ty ∷ rs ≡ ss = cc in
    subst (AllSeenWithin n) same (b0, b1, (d0, d1, more rs refl))

-- what is mapped to something was something
map_some : {A B : Type 0} (f : A → B) (o : Option A) (y : B) → option_map f o ≡ Some y → (x : A) × (o ≡ Some x) × (f x ≡ y)
map_some f None y is = cc
map_some f (Some x) y is = (x, refl, cc)

-- what leads on to something was something
then_some : {A B : Type 0} (f : A → Option B) (o : Option A) (y : B) → option_and_then f o ≡ Some y → (x : A) × (o ≡ Some x) × (f x ≡ Some y)
then_some f None y is = cc
then_some f (Some x) y is = (x, refl, is)

if_some : {A : Type 0} (t : Bool) (o : Option A) (y : A) → (if t then o else None) ≡ Some y → o ≡ Some y
if_some true o y is = is
if_some false o y is = cc

-- where the types of a list of trees are there, they are those of the trees
pub trees_within : (n k : ℕ) (env : List (List ℕ × Plain)) (ts : List Tok) (trees : List Tree) (ss : List Seen) → AllWithin n ts → plain_trees ts ≡ Some trees → typed env k trees ≡ Some ss → AllSeenWithin n ss
trees_within n k env [] trees ss all is types =
    let none : [] ≡ trees = cc in
    let empty : [] ≡ ss = let e = subst (λ (l : List Tree). typed env k l ≡ Some ss) (sym none) types in cc in
    subst (AllSeenWithin n) empty tt
trees_within n k env (a ∷ []) trees ss all is types = cc
trees_within n k env (a ∷ b ∷ []) trees ss all is types = cc
trees_within n k env (a ∷ b ∷ c ∷ []) trees ss all is types = cc
trees_within n k env (a ∷ b ∷ c ∷ d ∷ rest) trees ss all is types =
    let more = map_some (λ (ts : List Tree). item_tree a b c d ∷ ts) (plain_trees rest) trees (if_some (is_item a b c d) (option_map (λ (ts : List Tree). item_tree a b c d ∷ ts) (plain_trees rest)) trees is) in
    let here : typed env k (item_tree a b c d ∷ more.0) ≡ Some ss = subst (λ (l : List Tree). typed env k l ≡ Some ss) (sym more.2) types in
    let of = then_some (λ (ty : Plain). option_map (λ (rs : List Seen). seen k 2 b ty ∷ seen k 3 d ty ∷ rs) (typed ((b.name, ty) ∷ env) (k + 1) more.0)) (type_of env d) ss here in
    item_within n k b d of.0 (typed ((b.name, of.0) ∷ env) (k + 1) more.0) ss all.2.0 all.2.1 all.2.2.2.0 all.2.2.2.1
    (λ rs found. trees_within n (k + 1) ((b.name, of.0) ∷ env) rest more.0 rs all.2.2.2.2 more.1 found) of.2

-- the typed nodes of a plain text stand within it
pub seen_within : (n : ℕ) (ts : List Tok) (trees : List Tree) (ss : List Seen) → AllWithin n ts → plain_text ts ≡ Some (trees, ss) → AllSeenWithin n ss
unfolding typed_trees
seen_within n ts trees ss all is =
    let read = then_some (λ (trees : List Tree). option_map (λ (ss : List Seen). (trees, ss)) (typed_trees trees)) (plain_trees ts) (trees, ss) is in
    let types = map_some (λ (ss : List Seen). (read.0, ss)) (typed_trees read.0) (trees, ss) read.2 in
    let same : types.0 ≡ ss = ap (λ (p : List Tree × List Seen). p.1) types.2 in
    subst (AllSeenWithin n) same (trees_within n 1 [] ts read.0 types.0 all read.1 types.1)

-- and so does one that is found among them
pub found_within : (n : ℕ) (test : Seen → Bool) (ss : List Seen) (s : Seen) → find test ss ≡ Some s → AllSeenWithin n ss → (s.span.start ≤ n) × (s.span.end ≤ n)
found_within n test [] s is all = cc
found_within n test (t ∷ ss) s is all =
    elim (test t) as (λ b. cond b (Some t) (find test ss) ≡ Some s → (s.span.start ≤ n) × (s.span.end ≤ n)) [
      | true ↦ λ e. (let same : t ≡ s = cc in subst (λ (x : Seen). (x.span.start ≤ n) × (x.span.end ≤ n)) same (all.0, all.1))
      | false ↦ λ e. found_within n test ss s e all.2
    ] is
