-- What calls answer that make copies.
use Rattle.std.proofs.Common.{◌≡◌, ◌≢◌, ℕ, zero, suc, Bool, true, false, List, [], ◌∷◌, map, Option, Some, None, option_map, refl, sym, ◌∙◌, ap, subst, arith}
use Rattle.std.specs.Prelude.{Result, Ok, Err, IfOk, OnOk, All, is_some, if◌then◌else◌}
use Rattle.std.specs.declared.alloc.AllocError.{AllocError}
use Rattle.type_model.specs.Types.{Path}
use Rattle.type_model.specs.Origins.{same_path}
use Rattle.type_terms.specs.declared.types.NodeRef.{NodeRef}
use Rattle.type_nodes.specs.Nodes.{Node, Arrow, Tuple, Con, IsNode, parts}
use Rattle.type_nodes.specs.Links.{reading, IsComposite}
use Rattle.type_nodes.specs.States.{State}
use Rattle.type_nodes.specs.Changes.{Makes}
use Rattle.type_nodes.specs.Readings.{Types}
use Rattle.type_nodes.proofs.Lists.{one_element}
use Rattle.signature_model.specs.Changes.{Change, among}
use Rattle.level_unify.specs.Copies.{Table, image, Extends}
use Rattle.type_reading.specs.declared.changes.Changes.{Changes}
use Rattle.type_reading.specs.declared.changes.Put.{Put}
use Rattle.type_reading.specs.declared.changes.Put.TheVariants as put
use Rattle.type_reading.specs.declared.changes.Real.{Real}
use Rattle.type_reading.specs.Copying.{paths_of, real_or, put_of, declared, IsDeclared, AreDeclared, IsDeclaredOver, real_at, change_by, IsChanged, AreCopied, Stands}
use Rattle.type_reading.specs.declared.copies.Task.{Task}
use Rattle.type_reading.proofs.Copied.{path_after, made_changed, real_changed}

pub on_ok : {A : Type 0} {X Y : Type 0} (r : Result A AllocError) → (X → Y) → OnOk r X → OnOk r Y
on_ok (Ok a) f h = f h
on_ok (Err e) f h = tt

pub on_both : {A : Type 0} {X Y Z : Type 0} (r : Result A AllocError) → (X → Y → Z) → OnOk r X → OnOk r Y → OnOk r Z
on_both (Ok a) f h k = f h k
on_both (Err e) f h k = tt

pub has_key : (o : Option NodeRef) → is_some o ≡ true → option_map (λ (m : NodeRef). m.0) o ≢ None
has_key None e = absurd (cc)
has_key (Some m) e = λ f. cc

-- the copies of nodes are nodes
copied_inside : (nodes : List Node) (c : Types → Change) (T : Table) (ms : List ℕ) → AreCopied nodes c T ms → All (IsNode nodes) (map (image nodes T) ms)
copied_inside nodes c T [] h k d lt = absurd (omega arith)
copied_inside nodes c T (m ∷ ms) h zero d lt = (h zero zero (omega arith)).1.inside
copied_inside nodes c T (m ∷ ms) h (suc k) d lt = copied_inside nodes c T ms (λ j e l. h (suc j) e (omega arith)) k d (omega arith)

pub copied_nodes : (nodes : List Node) (c : Types → Change) (T : Table) (ms : List ℕ) → AreCopied nodes c T ms → All (IsNode nodes) ms
copied_nodes nodes c T ms h k d lt = (h k d lt).0

-- an arrow over the copies of its parts
pub arrow_answer : (r : Result NodeRef AllocError) (old new : State) (T : Table) (n a b l s : ℕ) → (IsNode old.nodes a → l ≡ image old.nodes T a) → (IsNode old.nodes b → s ≡ image old.nodes T b) →
    IfOk r (λ m. IsNode old.nodes l → IsNode old.nodes s → Makes old new m.0 (Arrow l s)) →
    IfOk r (λ m. (c : Changes) → IsNode old.nodes n → reading old.nodes n ≡ Some (Arrow a b) → AreCopied old.nodes (change_by c) T (a ∷ b ∷ []) → IsChanged new.nodes (change_by c) n m.0)
arrow_answer (Ok m) old new T n a b l s left right makes = λ c lt at copied.
    let p = copied zero zero (omega arith) in
    let q = copied 1 zero (omega arith) in
    let e = left p.0 in
    let f = right q.0 in
    let l_in : IsNode old.nodes l = subst (IsNode old.nodes) (sym e) p.1.inside in
    let s_in : IsNode old.nodes s = subst (IsNode old.nodes) (sym f) q.1.inside in
    let same : Arrow l s ≡ Arrow (image old.nodes T a) (image old.nodes T b) = cc in
    made_changed old new c T n m.0 (Arrow a b) tt tt at copied (subst (Makes old new m.0) same (makes l_in s_in)) lt
arrow_answer (Err e) old new T n a b l s left right makes = tt

-- a tuple
pub tuple_answer : (r : Result NodeRef AllocError) (old new : State) (T : Table) (n : ℕ) (ms images : List ℕ) → (All (IsNode old.nodes) ms → images ≡ map (image old.nodes T) ms) →
    IfOk r (λ m. All (IsNode old.nodes) images → Makes old new m.0 (Tuple images)) →
    IfOk r (λ m. (c : Changes) → IsNode old.nodes n → reading old.nodes n ≡ Some (Tuple ms) → AreCopied old.nodes (change_by c) T ms → IsChanged new.nodes (change_by c) n m.0)
tuple_answer (Ok m) old new T n ms images are makes = λ c lt at copied.
    let e = are (copied_nodes old.nodes (change_by c) T ms copied) in
    let inside : All (IsNode old.nodes) images = subst (λ ks. All (IsNode old.nodes) ks) (sym e) (copied_inside old.nodes (change_by c) T ms copied) in
    made_changed old new c T n m.0 (Tuple ms) tt tt at copied (subst (λ ks. Makes old new m.0 (Tuple ks)) e (makes inside)) lt
tuple_answer (Err e) old new T n ms images are makes = tt

-- a constructor
pub con_answer : (r : Result NodeRef AllocError) (P : Type 0) (old new : State) (c : Changes) (T : Table) (n : ℕ) (path path' name name' ms images : List ℕ) → path' ≡ path_after c path → ((V : Types) → real_at V path c.real.items ≡ None) → name' ≡ name →
    (All (IsNode old.nodes) ms → images ≡ map (image old.nodes T) ms) → IfOk r (λ m. All (IsNode old.nodes) images → Makes old new m.0 (Con path' name' images)) →
    IfOk r (λ m. P → IsNode old.nodes n → reading old.nodes n ≡ Some (Con path name ms) → AreCopied old.nodes (change_by c) T ms → IsChanged new.nodes (change_by c) n m.0)
con_answer (Ok m) P old new c T n path path' name name' ms images moves none named are makes = λ reals lt at copied.
    let e = are (copied_nodes old.nodes (change_by c) T ms copied) in
    let inside : All (IsNode old.nodes) images = subst (λ ks. All (IsNode old.nodes) ks) (sym e) (copied_inside old.nodes (change_by c) T ms copied) in
    let same : Con path' name' images ≡ Con (path_after c path) name (map (image old.nodes T) ms) = cc in
    made_changed old new c T n m.0 (Con path name ms) tt none at copied (subst (Makes old new m.0) same (makes inside)) lt
con_answer (Err e) P old new c T n path path' name name' ms images moves none named are makes = tt

-- a declared type in the place of an origin
pub real_answer : (r : Result NodeRef AllocError) (old new : List Node) (c : Changes) (T : Table) (n root arity : ℕ) (path name ms images : List ℕ) → (AreDeclared old c.real.items → IsDeclared old root arity) →
    ((V : Types) → real_at V path c.real.items ≡ Some (declared arity (V root))) → (All (IsNode old) ms → images ≡ map (image old T) ms) →
    OnOk r (Extends old new) → IfOk r (λ m. IsDeclared old root arity → All (IsNode old) images → IsDeclaredOver new root arity images m.0) →
    IfOk r (λ m. AreDeclared old c.real.items → IsNode old n → reading old n ≡ Some (Con path name ms) → AreCopied old (change_by c) T ms → IsChanged new (change_by c) n m.0)
real_answer (Ok m) old new c T n root arity path name ms images known real are extends over = λ reals lt at copied.
    let e = are (copied_nodes old (change_by c) T ms copied) in
    let inside : All (IsNode old) images = subst (λ ks. All (IsNode old) ks) (sym e) (copied_inside old (change_by c) T ms copied) in
    real_changed old new c T n m.0 root arity path name ms extends at copied (subst (λ ks. IsDeclaredOver new root arity ks m.0) e (over (known reals) inside)) real lt
real_answer (Err e) old new c T n root arity path name ms images known real are extends over = tt

-- where the first type for an origin is told, it is that at each reading, and a declared one
abbrev pub IsReal : List Node → Path → List Real → (root arity : ℕ) → Type 0
IsReal nodes o rs root arity = ((V : Types) → real_at V o rs ≡ Some (declared arity (V root))) × (AreDeclared nodes rs → IsDeclared nodes root arity)

put_real : (nodes : List Node) (other : Put) (o : Path) (rs : List Real) (root : NodeRef) (arity : ℕ) → other ≢ put.Type root arity → put.Type root arity ≡ real_or other o rs → IsReal nodes o rs root.0 arity
put_real nodes other o [] root arity never e = absurd (never (sym e))
put_real nodes other o (r ∷ rs) root arity never e = go (λ f. put_real nodes other o rs root arity never f) (same_path o r.origin.path.items) refl
  where
    here : same_path o r.origin.path.items ≡ true → put.Type root arity ≡ put.Type r.root r.arity → IsReal nodes o (r ∷ rs) root.0 arity
    here same f =
        let g : r.root ≡ root = cc in
        let h : r.arity ≡ arity = cc in (
          λ V. ap (λ b. if b then Some (declared r.arity (V r.root.0)) else real_at V o rs) same ∙ ap (λ (k : NodeRef). Some (declared r.arity (V k.0))) g ∙ ap (λ a. Some (declared a (V root.0))) h,
          λ reals. subst (λ k. IsDeclared nodes k.0 arity) g (subst (IsDeclared nodes r.root.0) h (reals zero r (omega arith))),
        )

    there : same_path o r.origin.path.items ≡ false → IsReal nodes o rs root.0 arity → IsReal nodes o (r ∷ rs) root.0 arity
    there apart h = (λ V. ap (λ b. if b then Some (declared r.arity (V r.root.0)) else real_at V o rs) apart ∙ h.0 V, λ reals. h.1 (λ k d lt. reals (suc k) d (omega arith)))

    go : (put.Type root arity ≡ real_or other o rs → IsReal nodes o rs root.0 arity) → (b : Bool) → same_path o r.origin.path.items ≡ b → IsReal nodes o (r ∷ rs) root.0 arity
    go rest true same = here same (e ∙ ap (λ b. if b then put.Type r.root r.arity else real_or other o rs) same)
    go rest false apart = there apart (rest (e ∙ ap (λ b. if b then put.Type r.root r.arity else real_or other o rs) apart))

-- where another is told, no type is there
no_real : (other p : Put) (o : Path) (rs : List Real) → ((root : NodeRef) (arity : ℕ) → p ≢ put.Type root arity) → p ≡ real_or other o rs → (p ≡ other) × ((V : Types) → real_at V o rs ≡ None)
no_real other p o [] never e = (e, λ V. refl)
no_real other p o (r ∷ rs) never e = go (λ f. no_real other p o rs never f) (same_path o r.origin.path.items) refl
  where
    go : (p ≡ real_or other o rs → (p ≡ other) × ((V : Types) → real_at V o rs ≡ None)) → (b : Bool) → same_path o r.origin.path.items ≡ b → (p ≡ other) × ((V : Types) → real_at V o (r ∷ rs) ≡ None)
    go rest true same = absurd (never r.root r.arity (e ∙ ap (λ b. if b then put.Type r.root r.arity else real_or other o rs) same))
    go rest false apart = let h = rest (e ∙ ap (λ b. if b then put.Type r.root r.arity else real_or other o rs) apart) in (h.0, λ V. ap (λ b. if b then Some (declared r.arity (V r.root.0)) else real_at V o rs) apart ∙ h.1 V)

abbrev pub path_put : Changes → Path → Put
path_put c o = if among o (paths_of c.made.items) then put.Path c.number else put.Itself

pub put_type : (nodes : List Node) (c : Changes) (o : Path) (root : NodeRef) (arity : ℕ) → put.Type root arity ≡ put_of c o → IsReal nodes o c.real.items root.0 arity
put_type nodes c o root arity e = put_real nodes (path_put c o) o c.real.items root arity (never (among o (paths_of c.made.items))) e
  where
    never : (b : Bool) → (if b then put.Path c.number else put.Itself) ≢ put.Type root arity
    never true f = absurd (cc)
    never false f = absurd (cc)

pub put_path : (c : Changes) (o : Path) (k : ℕ) → put.Path k ≡ put_of c o → (k ∷ o ≡ path_after c o) × ((V : Types) → real_at V o c.real.items ≡ None)
put_path c o k e = let h = no_real (path_put c o) (put.Path k) o c.real.items (λ root arity f. absurd (cc)) e in (go (among o (paths_of c.made.items)) h.0, h.1)
  where
    go : (b : Bool) → put.Path k ≡ (if b then put.Path c.number else put.Itself) → k ∷ o ≡ (if b then c.number ∷ o else o)
    go true f = let g : k ≡ c.number = cc in ap (λ x. x ∷ o) g
    go false f = absurd (cc)

pub put_itself : (c : Changes) (o : Path) → put.Itself ≡ put_of c o → (o ≡ path_after c o) × ((V : Types) → real_at V o c.real.items ≡ None)
put_itself c o e = let h = no_real (path_put c o) put.Itself o c.real.items (λ root arity f. absurd (cc)) e in (go (among o (paths_of c.made.items)) h.0, h.1)
  where
    go : (b : Bool) → put.Itself ≡ (if b then put.Path c.number else put.Itself) → o ≡ (if b then c.number ∷ o else o)
    go true f = absurd (cc)
    go false f = refl

-- a change that is told for all is told for one
pub at_change : (r : Result NodeRef AllocError) (P : Type 0) (Q : Changes → NodeRef → Type 0) (c : Changes) → IfOk r (λ m. (c : Changes) → Q c m) → IfOk r (λ m. P → Q c m)
at_change (Ok m) P Q c h = λ known. h c
at_change (Err e) P Q c h = tt

-- a node that was seen is the one that is read
pub rebuilt_as : (r : Result NodeRef AllocError) (P : Type 0) (old new : List Node) (c : Types → Change) (T : Table) (n : ℕ) (s : Node) → (IsNode old n → reading old n ≡ Some s) →
    IfOk r (λ m. P → IsNode old n → reading old n ≡ Some s → AreCopied old c T (parts s) → IsChanged new c n m.0) →
    IfOk r (λ m. P → IsNode old n → (x : Node) → reading old n ≡ Some x → IsComposite x → AreCopied old c T (parts x) → IsChanged new c n m.0)
rebuilt_as (Ok m) P old new c T n s sees h = λ known lt x at is copied.
    let e : x ≡ s = one_element x s (reading old n) at (sees lt) in
    h known lt (sees lt) (subst (λ y. AreCopied old c T (parts y)) e copied)
rebuilt_as (Err e) P old new c T n s sees h = tt

-- where copying stands, with the table and the tasks of a call
pub moved_on : (nodes : List Node) (c : Changes) (T T' : Table) (aim : ℕ) (ts ts' : List Task) → T' ≡ T → ts' ≡ ts → Stands nodes c T ts aim → Stands nodes c T' ts' aim
moved_on nodes c T T' aim ts ts' e f s = subst (λ k. Stands nodes c T' k aim) (sym f) (subst (λ K. Stands nodes c K ts aim) (sym e) s)
