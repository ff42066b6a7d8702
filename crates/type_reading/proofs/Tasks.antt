-- What is still to be copied.
use Rattle.std.proofs.Common.{◌≡◌, ◌≢◌, ℕ, zero, suc, ◌<◌, inl, inr, List, [], ◌∷◌, ◌++◌, length, map, get_or, Option, Some, None, refl, sym, ◌∙◌, ap, subst, arith}
use Rattle.std.specs.Prelude.{slice_get, All}
use Rattle.type_terms.specs.declared.types.NodeRef.{NodeRef}
use Rattle.type_nodes.specs.Nodes.{Node, IsNode, IsSound, parts}
use Rattle.type_nodes.specs.Links.{root, reading, IsComposite}
use Rattle.type_nodes.specs.Views.{numbers}
use Rattle.type_nodes.proofs.Lists.{one_element, same_or_other}
use Rattle.type_nodes.proofs.Roots.{root_inside, root_settled, root_here}
use Rattle.level_unify.specs.Copies.{Table, Extends}
use Rattle.type_reading.specs.declared.changes.Changes.{Changes}
use Rattle.type_reading.specs.declared.copies.Task.{Task}
use Rattle.type_reading.specs.declared.copies.Task.TheVariants.{Enter, Leave}
use Rattle.type_reading.specs.Copying.{change_by, AreDeclared, IsChanged, AreChanged, AreCopied, SetsCopy, task_node, IsAhead, IsReady, AreReady, Stands}
use Rattle.type_reading.proofs.Extending.{extends_refl}
use Rattle.type_reading.proofs.Declaring.{are_declared_after}
use Rattle.type_reading.proofs.Copied.{changed_after, image_changed}

-- a task is at a node
ready_node : (nodes : List Node) (T : Table) (t : Task) (ts : List Task) → IsReady nodes T t ts → IsNode nodes (task_node t)
ready_node nodes T (Enter n) ts h = h
ready_node nodes T (Leave n) ts h = h.0

abbrev Grows : Table → Table → Type 0
Grows T T' = (r : ℕ) → T r ≢ None → T' r ≢ None

ahead_popped : (old new : List Node) (T T' : Table) (ts : List Task) (t : Task) (r : ℕ) → Extends old new → Grows T T' → T' (root old (task_node t)) ≢ None → AreReady old T (ts ++ t ∷ []) → IsAhead old T (ts ++ t ∷ []) r → IsAhead new T' ts r
ahead_popped old new T T' [] t r extends grows has ready (inl e) = subst (λ k. T' k ≢ None) e has
ahead_popped old new T T' [] t r extends grows has ready (inr h) = grows r h
ahead_popped old new T T' (s ∷ ts) t r extends grows has ready (inl e) = inl (extends.roots (task_node s) (ready_node old T s (ts ++ t ∷ []) ready.0) ∙ e)
ahead_popped old new T T' (s ∷ ts) t r extends grows has ready (inr h) = inr (ahead_popped old new T T' ts t r extends grows has ready.1 h)

ready_popped : (old new : List Node) (T T' : Table) (ts : List Task) (t : Task) → Extends old new → Grows T T' → T' (root old (task_node t)) ≢ None → AreReady old T (ts ++ t ∷ []) → AreReady new T' ts
ready_popped old new T T' [] t extends grows has ready = tt
ready_popped old new T T' (s ∷ ts) t extends grows has ready = (one s ready.0, ready_popped old new T T' ts t extends grows has ready.1)
  where
    still : (n : ℕ) → IsNode old n → IsNode new n
    still n lt = let l = extends.longer in omega arith

    one : (s : Task) → IsReady old T s (ts ++ t ∷ []) → IsReady new T' s ts
    one (Enter n) h = still n.0 h
    one (Leave n) h = (
      still n.0 h.0,
      extends.roots n.0 h.0 ∙ h.1,
      λ c at.
          let q = h.2 c (sym (extends.node n.0 h.0) ∙ at) in (
            q.0,
            λ k d lt.
                let p = q.1 k d lt in
                (still (get_or (parts c) k d) p.0, subst (IsAhead new T' ts) (sym (extends.roots (get_or (parts c) k d) p.0)) (ahead_popped old new T T' ts t (root old (get_or (parts c) k d)) extends grows has ready.1 p.1)),
          ),
    )

-- the last task is done
popped : (old new : List Node) (c : Changes) (T T' : Table) (ts : List Task) (t : Task) (aim : ℕ) → Extends old new → Grows T T' → T' (root old (task_node t)) ≢ None → AreDeclared new c.real.items → AreChanged new (change_by c) T' → Stands old c T (ts ++ t ∷ []) aim → Stands new c T' ts aim
popped old new c T T' ts t aim extends grows has reals kept s = record {
  reals = reals;
  kept = kept;
  ready = ready_popped old new T T' ts t extends grows has s.ready;
  ahead = subst (IsAhead new T' ts) (sym (extends.roots aim s.inside)) (ahead_popped old new T T' ts t (root old aim) extends grows has s.ready s.ahead);
  inside = let l = extends.longer in let lt = s.inside in omega arith;
}

-- a node is entered whose root has a copy
pub entered_again : (nodes : List Node) (c : Changes) (T : Table) (ts : List Task) (n : NodeRef) (aim : ℕ) → Extends nodes nodes → T (root nodes n.0) ≢ None → Stands nodes c T (ts ++ Enter n ∷ []) aim → Stands nodes c T ts aim
entered_again nodes c T ts n aim same has s = popped nodes nodes c T T ts (Enter n) aim same (λ r h. h) has s.reals s.kept s

some_none : {A : Type 0} (o : Option A) (x : A) → o ≡ Some x → o ≢ None
some_none o x e f = absurd (cc)

sets_grows : (T T' : Table) (n m : ℕ) → SetsCopy T T' n m → Grows T T'
sets_grows T T' n m sets r h = elim (same_or_other r n) [
  | inl same ↦ subst (λ k. T' k ≢ None) (sym same) (some_none (T' n) m sets.own)
  | inr other ↦ λ e. h (sym (sets.others r other) ∙ e)
]

sets_changed : (old new : List Node) (c : Changes) (T T' : Table) (n m : ℕ) → Extends old new → IsNode old n → SetsCopy T T' n m → IsChanged new (change_by c) n m → AreChanged old (change_by c) T → AreChanged new (change_by c) T'
sets_changed old new c T T' n m extends lt sets changed kept = record {
  each = λ k j e. elim (same_or_other k n) [
    | inl same ↦
        let f : m ≡ j = one_element m j (T' n) sets.own (ap T' (sym same) ∙ e) in
        let l = extends.longer in
        let here : IsNode new n = omega arith in
        subst (λ x. IsNode new x × IsChanged new (change_by c) x j) (sym same) (here, subst (IsChanged new (change_by c) n) f changed)
    | inr other ↦
        let h = kept.each k j (sym (sets.others k other) ∙ e) in
        let l = extends.longer in
        let lt' = h.0 in
        let here : IsNode new k = omega arith in
        (here, changed_after old new (change_by c) k j extends h.0 h.1)
  ];
}

-- the root of the last task's node gets a copy
pub stands_set : (old new : List Node) (c : Changes) (T T' : Table) (ts : List Task) (t : Task) (r m aim : ℕ) → Extends old new → r ≡ root old (task_node t) → IsNode old r → SetsCopy T T' r m → AreDeclared new c.real.items → IsChanged new (change_by c) r m → Stands old c T (ts ++ t ∷ []) aim → Stands new c T' ts aim
stands_set old new c T T' ts t r m aim extends is lt sets reals changed s =
    popped old new c T T' ts t aim extends (sets_grows T T' r m sets) (subst (λ k. T' k ≢ None) is (some_none (T' r) m sets.own)) reals (sets_changed old new c T T' r m extends lt sets changed s.kept) s

-- what a task is ready for, and what the last one needs
pub last_ready : (nodes : List Node) (T : Table) (ts : List Task) (t : Task) → AreReady nodes T (ts ++ t ∷ []) → IsReady nodes T t []
last_ready nodes T [] t h = h.0
last_ready nodes T (s ∷ ts) t h = last_ready nodes T ts t h.1

ahead_kept : (nodes : List Node) (T : Table) (es : List Task) (r : ℕ) → T r ≢ None → IsAhead nodes T es r
ahead_kept nodes T [] r h = h
ahead_kept nodes T (e ∷ es) r h = inr (ahead_kept nodes T es r h)

ahead_opened : (nodes : List Node) (T : Table) (ts es : List Task) (n r : NodeRef) (q : ℕ) → root nodes r.0 ≡ root nodes n.0 → IsAhead nodes T (ts ++ Enter n ∷ []) q → IsAhead nodes T (ts ++ Leave r ∷ es) q
ahead_opened nodes T [] es n r q end (inl e) = inl (end ∙ e)
ahead_opened nodes T [] es n r q end (inr h) = inr (ahead_kept nodes T es q h)
ahead_opened nodes T (s ∷ ts) es n r q end (inl e) = inl e
ahead_opened nodes T (s ∷ ts) es n r q end (inr h) = inr (ahead_opened nodes T ts es n r q end h)

ready_opened : (nodes : List Node) (T : Table) (ts es : List Task) (n r : NodeRef) → root nodes r.0 ≡ root nodes n.0 → IsReady nodes T (Leave r) es → AreReady nodes T es → AreReady nodes T (ts ++ Enter n ∷ []) → AreReady nodes T (ts ++ Leave r ∷ es)
ready_opened nodes T [] es n r end leave enters h = (leave, enters)
ready_opened nodes T (s ∷ ts) es n r end leave enters h = (one s h.0, ready_opened nodes T ts es n r end leave enters h.1)
  where
    one : (s : Task) → IsReady nodes T s (ts ++ Enter n ∷ []) → IsReady nodes T s (ts ++ Leave r ∷ es)
    one (Enter x) k = k
    one (Leave x) k = (k.0, k.1, λ c at. let q = k.2 c at in (q.0, λ i d lt. let p = q.1 i d lt in (p.0, ahead_opened nodes T ts es n r (root nodes (get_or (parts c) i d)) end p.1)))

enters_ready : (nodes : List Node) (T : Table) (ps : List NodeRef) → All (IsNode nodes) (numbers ps) → AreReady nodes T (map (λ p. Enter p) ps)
enters_ready nodes T [] h = tt
enters_ready nodes T (p ∷ ps) h = (h zero zero (omega arith), enters_ready nodes T ps (λ k d lt. h (suc k) d (omega arith)))

enters_ahead : (nodes : List Node) (T : Table) (ps : List NodeRef) → All (λ p. IsAhead nodes T (map (λ p. Enter p) ps) (root nodes p)) (numbers ps)
enters_ahead nodes T [] k d lt = absurd (omega arith)
enters_ahead nodes T (p ∷ ps) zero d lt = inl refl
enters_ahead nodes T (p ∷ ps) (suc k) d lt = inr (enters_ahead nodes T ps k d (omega arith))

-- a node is entered whose parts are copied first
pub stands_opened : (nodes : List Node) (c : Changes) (T : Table) (ts : List Task) (n r : NodeRef) (ps : List NodeRef) (x : Node) (aim : ℕ) → IsSound nodes → IsComposite x → r.0 ≡ root nodes n.0 → reading nodes r.0 ≡ Some x → parts x ≡ numbers ps →
    Stands nodes c T (ts ++ Enter n ∷ []) aim → Stands nodes c T (ts ++ Leave r ∷ map (λ p. Enter p) ps) aim
stands_opened nodes c T ts n r ps x aim sound composite is reads these s =
    let es = map (λ p. Enter p) ps in
    let n_in : IsNode nodes n.0 = last_ready nodes T ts (Enter n) s.ready in
    let r_in : IsNode nodes r.0 = subst (IsNode nodes) (sym is) (root_inside nodes sound n.0 n_in) in
    let end : root nodes r.0 ≡ r.0 = subst (λ k. root nodes k ≡ k) (sym is) (root_here nodes (root nodes n.0) (root_settled nodes sound n.0 n_in)) in
    let at : slice_get nodes r.0 ≡ Some x = ap (slice_get nodes) (sym end) ∙ reads in
    let inside : All (IsNode nodes) (numbers ps) = subst (λ ms. All (IsNode nodes) ms) these (λ k d lt. (sound.1.each r.0 x at k d lt).0) in
    let all : All (λ p. IsNode nodes p × IsAhead nodes T es (root nodes p)) (numbers ps) = λ k d lt. (inside k d lt, enters_ahead nodes T ps k d lt) in
    let whole : All (λ p. IsNode nodes p × IsAhead nodes T es (root nodes p)) (parts x) = subst (λ ms. All (λ p. IsNode nodes p × IsAhead nodes T es (root nodes p)) ms) (sym these) all in
    let leave : (y : Node) → slice_get nodes r.0 ≡ Some y → IsComposite y × All (λ p. IsNode nodes p × IsAhead nodes T es (root nodes p)) (parts y) =
    λ y at'. subst (λ z. IsComposite z × All (λ p. IsNode nodes p × IsAhead nodes T es (root nodes p)) (parts z)) (one_element x y (slice_get nodes r.0) at at') (composite, whole) in
    record {
      reals = s.reals;
      kept = s.kept;
      ready = ready_opened nodes T ts es n r (end ∙ is) (r_in, end, leave) (enters_ready nodes T ps inside) s.ready;
      ahead = ahead_opened nodes T ts es n r (root nodes aim) (end ∙ is) s.ahead;
      inside = s.inside;
    }

cell_at : (nodes : List Node) (n : ℕ) → n < length nodes → (c : Node) × (slice_get nodes n ≡ Some c)
cell_at [] n lt = absurd (omega arith)
cell_at (c ∷ nodes) zero lt = (c, refl)
cell_at (c ∷ nodes) (suc n) lt = cell_at nodes n (omega arith)

-- a node is left that was made over the copies of its parts
pub left : (old new : List Node) (c : Changes) (T T' : Table) (ts : List Task) (n : NodeRef) (m aim : ℕ) → IsSound old → Extends old new → SetsCopy T T' n.0 m →
    (AreDeclared old c.real.items → IsNode old n.0 → (x : Node) → reading old n.0 ≡ Some x → IsComposite x → AreCopied old (change_by c) T (parts x) → IsChanged new (change_by c) n.0 m) → Stands old c T (ts ++ Leave n ∷ []) aim → Stands new c T' ts aim
left old new c T T' ts n m aim sound extends sets rebuilt s =
    let (lt, end, ready) = last_ready old T ts (Leave n) s.ready in
    let (x, at) = cell_at old n.0 lt in
    let (composite, all) = ready x at in
    let copied : AreCopied old (change_by c) T (parts x) = λ k d l. let p = all k d l in (p.0, image_changed old (change_by c) T (get_or (parts x) k d) s.kept p.1) in
    let reads : reading old n.0 ≡ Some x = ap (slice_get old) end ∙ at in
    stands_set old new c T T' ts (Leave n) n.0 m aim extends (sym end) lt sets (are_declared_after old new c.real.items sound extends s.reals) (rebuilt s.reals lt x reads composite copied) s

-- a root is its own copy
pub entered_leaf : (nodes : List Node) (c : Changes) (T T' : Table) (ts : List Task) (n r : NodeRef) (aim : ℕ) → IsSound nodes → (IsNode nodes n.0 → r.0 ≡ root nodes n.0) → SetsCopy T T' r.0 r.0 →
    (IsNode nodes r.0 → root nodes r.0 ≡ r.0 → IsChanged nodes (change_by c) r.0 r.0) → Stands nodes c T (ts ++ Enter n ∷ []) aim → Stands nodes c T' ts aim
entered_leaf nodes c T T' ts n r aim sound root_is sets changed s =
    let n_in : IsNode nodes n.0 = last_ready nodes T ts (Enter n) s.ready in
    let is = root_is n_in in
    let r_in : IsNode nodes r.0 = subst (IsNode nodes) (sym is) (root_inside nodes sound n.0 n_in) in
    let end : root nodes r.0 ≡ r.0 = subst (λ k. root nodes k ≡ k) (sym is) (root_here nodes (root nodes n.0) (root_settled nodes sound n.0 n_in)) in
    stands_set nodes nodes c T T' ts (Enter n) r.0 r.0 aim (extends_refl nodes) is r_in sets s.reals (changed r_in end) s

-- its parts are entered first
pub entered_parts : (nodes : List Node) (c : Changes) (T : Table) (ts : List Task) (n r : NodeRef) (ps : List NodeRef) (x : Node) (aim : ℕ) → IsSound nodes → IsComposite x → (IsNode nodes n.0 → r.0 ≡ root nodes n.0) →
    (IsNode nodes r.0 → reading nodes r.0 ≡ Some x) → parts x ≡ numbers ps → Stands nodes c T (ts ++ Enter n ∷ []) aim → Stands nodes c T (ts ++ Leave r ∷ map (λ p. Enter p) ps) aim
entered_parts nodes c T ts n r ps x aim sound composite root_is reads these s =
    let n_in : IsNode nodes n.0 = last_ready nodes T ts (Enter n) s.ready in
    let is = root_is n_in in
    let r_in : IsNode nodes r.0 = subst (IsNode nodes) (sym is) (root_inside nodes sound n.0 n_in) in
    stands_opened nodes c T ts n r ps x aim sound composite is (reads r_in) these s

-- a node whose root has a copy
pub entered_known : (nodes : List Node) (c : Changes) (T : Table) (ts : List Task) (n r : NodeRef) (aim : ℕ) → (IsNode nodes n.0 → r.0 ≡ root nodes n.0) → T r.0 ≢ None → Stands nodes c T (ts ++ Enter n ∷ []) aim → Stands nodes c T ts aim
entered_known nodes c T ts n r aim root_is has s =
    let n_in : IsNode nodes n.0 = last_ready nodes T ts (Enter n) s.ready in
    entered_again nodes c T ts n aim (extends_refl nodes) (subst (λ k. T k ≢ None) (root_is n_in) has) s
