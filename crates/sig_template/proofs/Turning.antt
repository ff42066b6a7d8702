-- Changes one after another.
use Rattle.std.proofs.Common.{◌≡◌, ℕ, ◌+◌, ◌<◌, ◌≤◌, List, [], ◌∷◌, ◌++◌, length, take, get_or, arith, sym, subst}
use Rattle.std.specs.Prelude.{All, Result, Ok, Err, IfOk, OnOk}
use Rattle.std.specs.List.{AllZip}
use Rattle.std.specs.declared.alloc.AllocError.{AllocError}
use Rattle.std.specs.declared.rc.Rc.{Rc}
use Rattle.std.specs.declared.alloc.Global.{Global}
use Rattle.std.proofs.lemmas.List.{take_all}
use Rattle.std.proofs.lemmas.List.Elements.{all_zip_more}
use Rattle.type_terms.specs.declared.types.NodeRef.{NodeRef}
use Rattle.type_nodes.specs.Nodes.{Node, IsNode}
use Rattle.signature_model.specs.Changes.{Change}
use Rattle.type_nodes.specs.Readings.{Types}
use Rattle.level_unify.specs.Copies.{Extends}
use Rattle.type_reading.specs.declared.copies.Copies.{Copies}
use Rattle.type_reading.specs.declared.changes.Changes.{Changes}
use Rattle.type_reading.specs.declared.copies.Copying.{Copying}
use Rattle.type_reading.specs.declared.copies.ForBound.TheVariants as bound
use Rattle.type_reading.specs.declared.copies.ForUnknown.TheVariants as unknown
use Rattle.type_reading.specs.Copying.{IsChanged, KeepsCopies, LeavesVariables, change_by}
use Rattle.type_reading.proofs.Extending.{extends_refl, extends_trans, reading_before, stands_after, unbound_after}
use Rattle.sig_template.specs.Turns.{Stays, Turns}

-- what was changed stays changed
pub changed_stays : (old new : List Node) (c : Types → Change) (n m : ℕ) → Extends old new → IsChanged old c n m → IsChanged new c n m
changed_stays old new c n m extends changed = record {
  inside = let l = extends.longer in let lt = changed.inside in omega arith;
  reads = λ V reads keeps. changed.reads V (reading_before old new V extends reads) (λ v stands free. keeps v (stands_after old new v n extends stands) (unbound_after old new v extends free));
}

-- a copy of a type
pub copy_turns : (c : Changes) (n m : ℕ) (old new : List Node) (x y : Copies) → Extends old new → (KeepsCopies old c x → IsNode old n → KeepsCopies new c y × IsChanged new (change_by c) n m) →
    Turns c (λ ns. IsNode ns n) (λ ns. IsChanged ns (change_by c) n m) old new x y
copy_turns c n m old new x y extends copy = record {
  extends = extends;
  done = λ keeps live.
      let lt = live.held in let l = live.extends.longer in
      let both : KeepsCopies new c y × IsChanged new (change_by c) n m = copy keeps (omega arith) in
      (both.0, λ later e. changed_stays new later (change_by c) n m e both.1);
}

-- nothing is done
pub turns_same : (c : Changes) (L P : List Node → Type 0) (old : List Node) (x : Copies) → ((ns : List Node) → P ns) → Turns c L P old old x x
turns_same c L P old x p = record { extends = extends_refl old; done = λ keeps live. (keeps, λ later e. p later) }

-- the same of a larger part
pub turns_as : (c : Changes) (L P L' P' : List Node → Type 0) (a b : List Node) (x y : Copies) → ((ns : List Node) → L' ns → L ns) → ((ns : List Node) → P ns → P' ns) →
    Turns c L P a b x y → Turns c L' P' a b x y
turns_as c L P L' P' a b x y live more p = record {
  extends = p.extends;
  done = λ keeps held.
      let once : KeepsCopies b c y × Stays P b = p.done keeps (record { earlier = held.earlier; extends = held.extends; held = live held.earlier held.held }) in
      (once.0, λ later e. more later (once.1 later e));
}

-- two parts one after the other
pub turns_then : (c : Changes) (L P M Q L' P' : List Node → Type 0) (a b d : List Node) (x y z : Copies) → ((ns : List Node) → L' ns → L ns) → ((ns : List Node) → L' ns → M ns) →
    ((ns : List Node) → P ns → Q ns → P' ns) → Turns c L P a b x y → Turns c M Q b d y z → Turns c L' P' a d x z
turns_then c L P M Q L' P' a b d x y z first second join p q = record {
  extends = extends_trans a b d p.extends q.extends;
  done = λ keeps held.
      let one : KeepsCopies b c y × Stays P b = p.done keeps (record { earlier = held.earlier; extends = held.extends; held = first held.earlier held.held }) in
      let two : KeepsCopies d c z × Stays Q d = q.done one.0 (record { earlier = held.earlier; extends = extends_trans held.earlier a b held.extends p.extends; held = second held.earlier held.held }) in
      (two.0, λ later e. join later (one.1 later (extends_trans b d later q.extends e)) (two.1 later e));
}

-- what a call gives that copies a type
pub called_turns : (r : Result NodeRef AllocError) (how : Copying) (n : ℕ) (old new : List Node) (x y : Copies) → how.bound ≡ bound.Itself → how.unknown ≡ unknown.Itself →
    IfOk r (λ m. LeavesVariables how → KeepsCopies old how.changes.now x → IsNode old n → KeepsCopies new how.changes.now y × IsChanged new (change_by how.changes.now) n m.0) →
    OnOk r (Extends old new) →
    IfOk r (λ m. Turns how.changes.now (λ ns. IsNode ns n) (λ ns. IsChanged ns (change_by how.changes.now) n m.0) old new x y)
called_turns (Ok m) how n old new x y b u copy extends = copy_turns how.changes.now n m.0 old new x y extends (copy (record { bound = b; unknown = u }))
called_turns (Err e) how n old new x y b u copy extends = tt

-- one part more of a list
pub turns_more : {A : Type 0} (c : Changes) (L : List Node → A → Type 0) (R : List Node → A → A → Type 0) (xs ys zs : List A) (i : ℕ) (x y : A) (a b d : List Node) (k l m : Copies) →
    i < length xs → x ≡ get_or xs i x → zs ≡ ys ++ y ∷ [] → Turns c (λ ns. All (L ns) xs) (λ ns. AllZip (R ns) (take i xs) ys) a b k l → Turns c (λ ns. L ns x) (λ ns. R ns x y) b d l m →
    Turns c (λ ns. All (L ns) xs) (λ ns. AllZip (R ns) (take (i + 1) xs) zs) a d k m
turns_more c L R xs ys zs i x y a b d k l m lt at is p q = turns_then c (λ ns. All (L ns) xs) (λ ns. AllZip (R ns) (take i xs) ys) (λ ns. L ns x) (λ ns. R ns x y)
    (λ ns. All (L ns) xs) (λ ns. AllZip (R ns) (take (i + 1) xs) zs) a b d k l m
    (λ ns all. all)
    (λ ns all. subst (L ns) (sym at) (all i x lt))
    (λ ns before now. subst (AllZip (R ns) (take (i + 1) xs)) (sym is) (all_zip_more (R ns) xs ys i x y lt at before now))
    p q

-- the whole list
pub turns_whole : {A : Type 0} (c : Changes) (L : List Node → A → Type 0) (R : List Node → A → A → Type 0) (xs ys : List A) (i : ℕ) (a b : List Node) (k l : Copies) →
    length xs ≤ i → Turns c (λ ns. All (L ns) xs) (λ ns. AllZip (R ns) (take i xs) ys) a b k l → Turns c (λ ns. All (L ns) xs) (λ ns. AllZip (R ns) xs ys) a b k l
turns_whole c L R xs ys i a b k l le p = subst (λ ts. Turns c (λ ns. All (L ns) xs) (λ ns. AllZip (R ns) ts ys) a b k l) (take_all i xs le) p

-- what a call gives that owns a part
pub owned_turns : {A : Type 0} (r : Result (Rc A Global) AllocError) (new : A) (c : Changes) (L : List Node → Type 0) (P : List Node → A → Type 0) (a b : List Node) (k l : Copies) →
    IfOk r (λ x. x.value ≡ new) → Turns c L (λ ns. P ns new) a b k l → IfOk r (λ x. Turns c L (λ ns. P ns x.value) a b k l)
owned_turns (Ok x) new c L P a b k l same turns = subst (λ y. Turns c L (λ ns. P ns y) a b k l) (sym same) turns
owned_turns (Err e) new c L P a b k l same turns = tt
