-- One item more is typed, and what is free in the types of its names is found.
use Rattle.std.proofs.Common.{◌≡◌, ◌∙◌, inl, inr, ℕ, zero, suc, ◌+◌, ◌<◌, Bool, List, [], ◌∷◌, ◌++◌, length, length-append, drop, reverse, refl, sym, ap, subst}
use Rattle.std.proofs.lemmas.List.{reverse-append}
use Rattle.std.specs.declared.rc.Rc.{Rc}
use Rattle.std.specs.declared.alloc.Global.{Global}
use Rattle.tree_model.specs.Trees.{Tree, inner}
use Rattle.signature_model.specs.Entries.{Environment}
use Rattle.typing_model.specs.Contexts.{Choice}
use Rattle.type_nodes.specs.Nodes.{Node}
use Rattle.row_parts.specs.Numbered.{node_with}
use Rattle.env_table.specs.declared.entries.Entry.{Entry}
use Rattle.typing_state.specs.declared.parts.Parts.{Parts}
use Rattle.typing_state.specs.Goes.{Goes}
use Rattle.typing_conditions.specs.Sights.{Sight, Letters}
use Rattle.typing_conditions.proofs.Own.{own_of}
use Rattle.typing_steps.specs.States.{is_aloud}
use Rattle.typing_steps.specs.Typing.{as_declared}
use Rattle.typing_rows.specs.Noted.{AreNoted}
use Rattle.binding_rows.specs.Outside.{Outside}
use Rattle.sig_template.specs.Structures.{entries_of}
use Rattle.module_steps.specs.declared.scenes.Scene.{Scene}
use Rattle.module_typing.specs.Items.{GivesItem, AddsValues, Grows}
use Rattle.prelude_checks.proofs.Prelude.{first_names, is_first}
use Rattle.weak_variables.specs.Free.{IsRoot, AreAllValues}
use Rattle.weak_variables.specs.Listed.{Finds, AreListedIn, IsListed}
use Rattle.weak_variables.proofs.Standing.{GoesOn}
use Rattle.weak_variables.proofs.Searching.{adds_as}
use Rattle.weak_variables.proofs.Names.{root_covered, root_cases, root_left, root_right, values_split}
use Rattle.weak_variables.proofs.Listing.{item_listed}
use Rattle.text_analysis.specs.Given.{Given, IsAs}
use Rattle.text_analysis.specs.Weak.{HasFree}
use Rattle.text_analysis.proofs.GivenLaws.{carried_split, added_split, done_alike}

-- ---- entries in the other order

turned : (e : Entry) (es : List Entry) → reverse (e ∷ es) ≡ reverse es ++ e ∷ []
turned e es = reverse-append (e ∷ []) es

root_turned : (es : List Entry) (n : ℕ) → IsRoot (reverse es) n → IsRoot es n
root_turned [] n r = r
root_turned (e ∷ es) n r = elim (root_cases (reverse es) (e ∷ []) n (subst (λ fs. IsRoot fs n) (turned e es) r)) [
  | inl later ↦ inr (root_turned es n later)
  | inr here ↦ elim here [ inl h ↦ inl h | inr none ↦ absurd none ]
]

root_back : (es : List Entry) (n : ℕ) → IsRoot es n → IsRoot (reverse es) n
root_back [] n r = r
root_back (e ∷ es) n (inl h) = subst (λ fs. IsRoot fs n) (sym (turned e es)) (root_right (reverse es) (e ∷ []) n (inl h))
root_back (e ∷ es) n (inr r) = subst (λ fs. IsRoot fs n) (sym (turned e es)) (root_left (reverse es) (e ∷ []) n (root_back es n r))

values_turned : (es : List Entry) → AreAllValues (reverse es) → AreAllValues es
values_turned [] are = tt
values_turned (e ∷ es) are = let r = values_split (reverse es) (e ∷ []) (subst AreAllValues (turned e es) are) in (r.1.0, values_turned es r.0)

-- a search of entries is one of them in the other order
finds_turned : (nodes : List Node) (es : List Entry) (a b : ℕ → Bool) (us vs : List ℕ) → Finds nodes (IsRoot es) a b us vs → Finds nodes (IsRoot (reverse es)) a b us vs
finds_turned nodes es a b us vs h = adds_as a b us vs (λ v p. let (n, r, f) = p in (n, root_back es n r, f)) (λ v p. let (n, r, f) = p in (n, root_turned es n r, f)) h

-- ---- the entries that an item adds

drop_entries : (k : ℕ) (es : List (Rc Entry Global)) → entries_of (drop k es) ≡ drop k (entries_of es)
drop_entries zero es = refl
drop_entries (suc k) [] = refl
drop_entries (suc k) (e ∷ es) = drop_entries k es

drop_front : (xs ys : List Entry) → drop (length xs) (xs ++ ys) ≡ ys
drop_front [] ys = refl
drop_front (x ∷ xs) ys = drop_front xs ys

length_entries : (es : List (Rc Entry Global)) → length (entries_of es) ≡ length es
length_entries [] = refl
length_entries (e ∷ es) = ap suc (length_entries es)

-- the components from the old end on are the new ones
pub added_entries : (old new : List (Rc Entry Global)) (es : List Entry) (place : ℕ) → place ≡ length old → entries_of new ≡ entries_of old ++ es → entries_of (drop place new) ≡ es
added_entries old new es place at grown =
    drop_entries place new ∙ ap (λ k. drop k (entries_of new)) (at ∙ sym (length_entries old)) ∙ ap (drop (length (entries_of old))) grown ∙ drop_front (entries_of old) es

-- ---- one item more

-- the roots of names among which the next item starts are nodes
root_inside : {a : Sight} {G : Letters} {env : List Entry} {E : Choice → Environment} (at : Outside as_declared a G env E) (n : ℕ) → IsRoot env n → n < length a.nodes
root_inside {a} {env = env} at n r =
    let (J, own) = own_of a.nodes at.sound in
    let (k, here) = root_covered at.roots env at.covered.0 at.covered.1 n r in
    (at.context J own).inside k n here

-- So what was found is known of the names after it.
pub item_free : {first a b d : Parts} {env : List Entry} {s s' : Scene} (items : List Tree) (t : Tree) (free : List (List ℕ)) (own : List ℕ) (place : ℕ) (before listed : ℕ → Bool) → Given first env items a s → HasFree first env items a.store.nodes s.env free → IsAs a b → b.telling ≡ a.telling → b.level ≡ a.level →
    GivesItem b d s s' (node_with 0 t) → Goes b d → (AddsValues (inner t) → Grows s s') → place ≡ length s.components.items → AreListedIn before free →
    (AreAllValues (entries_of (drop place s'.components.items)) → Finds d.store.nodes (IsRoot (entries_of (drop place s'.components.items))) before listed [] own) → HasFree first env (items ++ t ∷ []) d.store.nodes s'.env (free ++ own ∷ [])
item_free {first} {a} {b} {d} {env} {s} {s'} items t free own place before listed given has alike telling level gives goes grows here are finds = record {
  counted = length-append free (own ∷ []) ∙ ap (λ n. n + 1) has.counted ∙ sym (length-append items (t ∷ []));
  listed = λ opens carried keeps.
      let split = carried_split items t carried in
      let kept = added_split items t keeps in
      let at = opens.starts first_names is_first in
      let outside = at.starts.outside in
      let noted : AreNoted outside.older first = subst (λ U. AreNoted U first) (sym at.starts.older) at.noted in
      let g = done_alike {s' = s} outside.sound alike (ap is_aloud telling) level refl (λ k n. refl) (given [] (λ ch. first_names) split.0 opens.aloud outside at.constants noted) in
      let one = gives g.done.letters g.done.env g.names split.1 (g.done.carried.stays.aloud ∙ opens.aloud) g.done.outside g.done.constants g.done.noted g.standing in
      let grown = grows kept.1 in
      let here_too = added_entries s.components.items s'.components.items grown.entries place here grown.components in
      let on : GoesOn b.store.nodes d.store.nodes = record {
        sound = g.done.outside.sound;
        sound_too = one.done.outside.sound;
        longer = goes.types.nodes;
        loose = goes.types.types;
        bounds = one.done.carried.stays.bounds;
      } in
      item_listed b.store.nodes d.store.nodes on env s.env s'.env (reverse grown.entries) free own before listed
      (subst (λ ns. IsListed ns env s.env free) (sym alike.nodes) (has.listed opens split.0 kept.0)) grown.names
      (λ n r. root_inside one.done.outside n (subst (λ es. IsRoot es n) (sym grown.names) (root_left (reverse grown.entries) s.env n r))) are
      (λ values. finds_turned d.store.nodes grown.entries before listed [] own
      (subst (λ es. Finds d.store.nodes (IsRoot es) before listed [] own) here_too (finds (subst AreAllValues (sym here_too) (values_turned grown.entries values)))));
}
