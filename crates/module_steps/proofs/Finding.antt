-- Open variables that are found in types, entries and signatures.
use Rattle.std.proofs.Common.{rules, ◌≡◌, ℕ, zero, suc, ◌<◌, Bool, true, false, List, [], ◌∷◌, ◌++◌, length, Option, Some, None, ◌⊎◌, inl, inr, Result, Ok, Err, refl, sym, ap, subst, ◌∙◌, arith}
use Rattle.std.specs.Prelude.{◌&&◌, nat_lt, slice_get, slice_index_or, Contains, OnOk, IfNone}
use Rattle.std.specs.Option.{is_some}
use Rattle.std.specs.List.{filter}
use Rattle.std.specs.declared.rc.Rc.{Rc}
use Rattle.std.specs.declared.alloc.Global.{Global}
use Rattle.text_terms.specs.declared.Span.{Span}
use Rattle.type_terms.specs.declared.types.NodeRef.{NodeRef}
use Rattle.type_nodes.specs.Nodes.{Node, IsNode, IsSound}
use Rattle.type_nodes.specs.Links.{root, reading}
use Rattle.type_nodes.specs.Views.{numbers}
use Rattle.type_nodes.proofs.Roots.{root_settled, root_here}
use Rattle.level_unify.specs.Walks.{Reached}
use Rattle.env_table.specs.Views.{inside_sig, names_in}
use Rattle.env_table.specs.declared.entries.Components.{Components}
use Rattle.env_table.specs.declared.entries.Template.{Template}
use Rattle.env_table.specs.declared.entries.Entry.{Entry}
use Rattle.env_table.specs.declared.entries.What.{What, out-What}
use Rattle.env_table.specs.declared.entries.Sig.{Sig, out-Sig}
use Rattle.env_table.specs.declared.entries.Sig as sigs
use Rattle.env_table.specs.declared.entries.Sig.TheVariants as sig
use Rattle.env_table.specs.declared.entries.Sig.TheOpen.{Sig-F, What-F}
use Rattle.typing_state.specs.declared.parts.Parts.{Parts}
use Rattle.sig_template.specs.Ways.{sig_of}
use Rattle.module_steps.specs.Closing.{is_open, open_cell, HasValue, component, in_module, in_parameter, in_body, HasOpen, HasOpenValue, HasOpenWhat, HasOpenEntry, HasOpenAmong, Finds, ToldOpen, Closes}

-- ---- searches one after the other

-- where there is nothing, nothing is added
pub finds_none : {P : Type 0} (old : List NodeRef) → (P → ⊥) → Finds P old old
finds_none old never = record { none = λ e. (e, never); some = λ some e. absurd (some e) }

-- a search for the same in other words
pub finds_as : {P Q : Type 0} (old new : List NodeRef) → (P → Q) → (Q → P) → Finds P old new → Finds Q old new
finds_as old new f g h = record { none = λ e. ((h.none e).0, λ q. (h.none e).1 (g q)); some = λ some e. f (h.some some e) }

found_by : {P Q : Type 0} (old mid new : List NodeRef) → Finds P old mid → Finds Q mid new → (new ≡ [] → ⊥) → old ≡ [] → P ⊎ Q
found_by old [] new h k some e = inr (k.some some refl)
found_by old (n ∷ ns) new h k some e = inl (h.some (λ z. cc) e)

-- two searches
pub finds_both : {P Q : Type 0} (old mid new : List NodeRef) → Finds P old mid → Finds Q mid new → Finds (P ⊎ Q) old new
finds_both old mid new h k = record {
  none = λ e. let (m, no_q) = k.none e in let (o, no_p) = h.none m in (o, λ either. elim either [ inl p ↦ no_p p | inr q ↦ no_q q ]);
  some = found_by old mid new h k;
}

-- ---- types

-- a test over a list of one member more
tail_left : (p : ℕ → Bool) (x : ℕ) (ms : List ℕ) (b : Bool) → p x ≡ b → filter p (x ∷ ms) ≡ [] → filter p ms ≡ []
tail_left p x ms true is e = let kept : filter p (x ∷ ms) ≡ x ∷ filter p ms = rw is refl in cc
tail_left p x ms false is e = let kept : filter p (x ∷ ms) ≡ filter p ms = rw is refl in cc

-- what passes a test is left by it
passes : (p : ℕ → Bool) (ms : List ℕ) (k m : ℕ) → slice_get ms k ≡ Some m → p m ≡ true → filter p ms ≡ [] → ⊥
passes p [] k m here is e = cc
passes p (x ∷ ms) zero m here is e = let same : x ≡ m = cc in let kept : filter p (x ∷ ms) ≡ x ∷ filter p ms = rw (ap p same ∙ is) refl in cc
passes p (x ∷ ms) (suc k) m here is e = passes p ms k m here is (tail_left p x ms (p x) refl e)

-- a member of a list that passes a test
abbrev PassesAt : (ℕ → Bool) → List ℕ → Type 0
PassesAt p ms = (k : ℕ) × (m : ℕ) × (slice_get ms k ≡ Some m) × (p m ≡ true)

first_or_later : (p : ℕ → Bool) (x : ℕ) (ms : List ℕ) (b : Bool) → p x ≡ b → (filter p (x ∷ ms) ≡ [] → ⊥) → ((filter p ms ≡ [] → ⊥) → PassesAt p ms) → PassesAt p (x ∷ ms)
first_or_later p x ms true is some rest = (0, x, refl, is)
first_or_later p x ms false is some rest =
    let same : filter p (x ∷ ms) ≡ filter p ms = rw is refl in
    let (k, m, here, passing) = rest (λ e. some (same ∙ e)) in
    (suc k, m, here, passing)

-- where something is left, it passes
one_passes : (p : ℕ → Bool) (ms : List ℕ) → (filter p ms ≡ [] → ⊥) → PassesAt p ms
one_passes p [] some = absurd (some refl)
one_passes p (x ∷ ms) some = first_or_later p x ms (p x) refl some (one_passes p ms)

both_hold : (a b : Bool) → a && b ≡ true → (a ≡ true) × (b ≡ true)
both_hold true true e = (refl, refl)
both_hold true false e = cc
both_hold false b e = cc

hold_both : (a b : Bool) → a ≡ true → b ≡ true → a && b ≡ true
hold_both a b one other = rw (one, other) refl

inside_open : (nodes : List Node) (scope v : ℕ) → is_open nodes scope v ≡ true → IsNode nodes v
inside_open nodes scope v is = let here : nat_lt v (length nodes) ≡ true = (both_hold (nat_lt v (length nodes)) (open_cell scope (reading nodes v)) is).0 in search rules

-- what is open reads as its root does
open_root : (nodes : List Node) (scope v : ℕ) → IsSound nodes → root nodes v < length nodes → is_open nodes scope v ≡ true → is_open nodes scope (root nodes v) ≡ true
open_root nodes scope v sound end is =
    let own : root nodes (root nodes v) ≡ root nodes v = root_here nodes (root nodes v) (root_settled nodes sound v (inside_open nodes scope v is)) in
    let there : nat_lt (root nodes v) (length nodes) ≡ true = search rules in
    let cell : open_cell scope (reading nodes v) ≡ true = (both_hold (nat_lt v (length nodes)) (open_cell scope (reading nodes v)) is).1 in
    hold_both (nat_lt (root nodes v) (length nodes)) (open_cell scope (reading nodes (root nodes v))) there (ap (λ r. open_cell scope (slice_get nodes r)) own ∙ cell)

none_kept : (xs : List NodeRef) (ys : List NodeRef) (ms : List ℕ) → numbers ys ≡ numbers xs ++ ms → ys ≡ [] → (xs ≡ []) × (ms ≡ [])
none_kept [] ys ms e none = (refl, sym e ∙ ap numbers none)
none_kept (x ∷ xs) ys ms e none = absurd (let f : numbers [] ≡ x.0 ∷ (numbers xs ++ ms) = sym (ap numbers none) ∙ e in cc)

some_kept : (xs : List NodeRef) (ys : List NodeRef) (ms : List ℕ) → numbers ys ≡ numbers xs ++ ms → (ys ≡ [] → ⊥) → xs ≡ [] → ms ≡ [] → ⊥
some_kept xs [] ms e some none left = some refl
some_kept xs (y ∷ ys) ms e some none left = let f : y.0 ∷ numbers ys ≡ numbers xs ++ [] = e ∙ ap (λ zs. numbers xs ++ zs) left in let g : y.0 ∷ numbers ys ≡ [] = f ∙ ap (λ zs. numbers zs ++ []) none in cc

-- the open ones among all roots that stand in a node
pub finds_in_type : (nodes : List Node) (scope : ℕ) (n : NodeRef) (found : List ℕ) (old new : List NodeRef) → IsNode nodes n.0 → IsSound nodes → Reached nodes n.0 found →
    numbers new ≡ numbers old ++ filter (is_open nodes scope) found → Finds (HasOpen nodes scope n) old new
finds_in_type nodes scope n found old new inside sound r e = record {
  none = λ empty. let (before, left) = none_kept old new (filter (is_open nodes scope) found) e empty in (
    before,
    λ there.
        let (here, (v, stands, is)) = there in
        let (k, at) = r.listed v (stands.each r.set r.closed r.start) in
        passes (is_open nodes scope) found k (root nodes v) at (open_root nodes scope v sound (r.roots k (root nodes v) at).0 is) left,
  );
  some = λ some empty.
      let (k, m, at, is) = one_passes (is_open nodes scope) found (some_kept old new (filter (is_open nodes scope) found) e some empty) in
      let (m_inside, end, stands) = r.roots k m at in
      (inside, (m, stands, is));
}

-- the same as the search tells it
pub found_in_type : {A E : Type 0} (r : Result A E) (nodes : List Node) (scope : ℕ) (n : NodeRef) (found ms old new : List NodeRef) → ms ≡ found → IsNode nodes n.0 → IsSound nodes → Reached nodes n.0 (numbers found) →
    OnOk r (numbers new ≡ numbers old ++ filter (is_open nodes scope) (numbers ms)) → OnOk r (Finds (HasOpen nodes scope n) old new)
found_in_type (Ok a) nodes scope n found ms old new same inside sound reached e =
    finds_in_type nodes scope n (numbers found) old new inside sound reached (e ∙ ap (λ xs. numbers old ++ filter (is_open nodes scope) (numbers xs)) same)
found_in_type (Err a) nodes scope n found ms old new same inside sound reached e = tt

-- what is no node reads as nothing
pub not_read : {A : Type 0} (r : Option A) (P : Type 0) → is_some r ≡ false → IfNone r P → P
not_read None P is h = h
not_read (Some x) P is h = cc

-- ---- entries

among_none : (nodes : List Node) (scope : ℕ) (es : List Entry) → es ≡ [] → HasOpenAmong nodes scope es → ⊥
among_none nodes scope [] is (e, (k, lt, at), has) = absurd (omega arith)
among_none nodes scope (e ∷ es) is there = cc

in_front_or_behind : (nodes : List Node) (scope : ℕ) (e f : Entry) (es : List Entry) (k : ℕ) → k < length (e ∷ es) → slice_index_or (e ∷ es) k f ≡ f → HasOpenEntry nodes scope f →
    HasOpenEntry nodes scope e ⊎ HasOpenAmong nodes scope es
in_front_or_behind nodes scope e f es zero lt at has = inl (subst (HasOpenEntry nodes scope) (sym at) has)
in_front_or_behind nodes scope e f es (suc k) lt at has = inr (f, (k, omega arith, at), has)

-- an entry, and then the others
pub finds_among : (nodes : List Node) (scope : ℕ) (es rest : List Entry) (e : Entry) (old mid new : List NodeRef) → es ≡ e ∷ rest → Finds (HasOpenEntry nodes scope e) old mid →
    Finds (HasOpenAmong nodes scope rest) mid new → Finds (HasOpenAmong nodes scope es) old new
finds_among nodes scope es rest e old mid new is h k =
    subst (λ fs. Finds (HasOpenAmong nodes scope fs) old new) (sym is)
    (finds_as old new
    (λ either. elim either [ inl has ↦ (e, (0, omega arith, refl), has) | inr (f, (k, lt, at), has) ↦ (f, (suc k, omega arith, at), has) ])
    (λ (f, (k, lt, at), has). in_front_or_behind nodes scope e f rest k lt at has)
    (finds_both old mid new h k))

-- ---- signatures

from_what : (nodes : List Node) (scope : ℕ) (s : Sig) (e : Entry) (w : What-F Sig What Components Entry Template) → Contains (names_in (inside_sig s)) e → out-What e.what ≡ w → HasOpenWhat nodes scope w → HasOpenValue nodes scope s
from_what nodes scope s e (What-F.Scheme n) at is has = (n, component at is, has)
from_what nodes scope s e (What-F.Constructor d k) at is has = absurd has
from_what nodes scope s e (What-F.Exception c) at is has = absurd has
from_what nodes scope s e (What-F.Label d k) at is has = absurd has
from_what nodes scope s e (What-F.Type d) at is has = absurd has
from_what nodes scope s e (What-F.Module m) at is (n, value, has) = (n, in_module at is value, has)
from_what nodes scope s e (What-F.ModuleType t) at is has = absurd has

from_among : (nodes : List Node) (scope : ℕ) (s : Sig) → HasOpenAmong nodes scope (names_in (inside_sig s)) → HasOpenValue nodes scope s
from_among nodes scope s (e, at, has) = from_what nodes scope s e (out-What e.what) at refl has

-- the same in a side of a functor
abbrev InSide : {C E : Type 0} → List Node → ℕ → Sig-F Sig What C E Template → Type 0
InSide nodes scope (Sig-F.Structure c) = ⊥
InSide nodes scope (Sig-F.Functor p b) = HasOpenValue nodes scope (sig_of p.value) ⊎ HasOpenValue nodes scope (sig_of b.value)
InSide nodes scope Sig-F.Hole = ⊥

-- a value stands among the components, or in a side of a functor
splits : (nodes : List Node) (scope : ℕ) (s : Sig) (n : NodeRef) → HasValue s n → HasOpen nodes scope n → HasOpenAmong nodes scope (names_in (inside_sig s)) ⊎ InSide nodes scope (out-Sig s)
splits nodes scope s n (component {e = e} at is) has = inl (e, at, subst (HasOpenWhat nodes scope) (sym is) has)
splits nodes scope s n (in_module {e = e} at is value) has = inl (e, at, subst (HasOpenWhat nodes scope) (sym is) (n, value, has))
splits nodes scope s n (in_parameter is value) has = inr (subst (InSide nodes scope) (sym is) (inl (n, value, has)))
splits nodes scope s n (in_body is value) has = inr (subst (InSide nodes scope) (sym is) (inr (n, value, has)))

structure_opened : (c : Components) → out-Sig (sig.Structure c) ≡ Sig-F.Structure c
unfolding sigs.out-Sig denote.Hole.Carrier.out
structure_opened c = refl

functor_opened : (p b : Rc Template Global) → out-Sig (sig.Functor p b) ≡ Sig-F.Functor p b
unfolding sigs.out-Sig denote.Hole.Carrier.out
functor_opened p b = refl

functor_names : (p b : Rc Template Global) → names_in (inside_sig (sig.Functor p b)) ≡ []
unfolding sigs.out-Sig denote.Hole.Carrier.out
functor_names p b = refl

-- a structure: among its components
finds_structure : (nodes : List Node) (scope : ℕ) (s : Sig) (c : Components) (es : List Entry) (old new : List NodeRef) → s ≡ sig.Structure c → es ≡ names_in (inside_sig s) →
    Finds (HasOpenAmong nodes scope es) old new → Finds (HasOpenValue nodes scope s) old new
finds_structure nodes scope s c es old new is same h =
    finds_as old new (λ there. from_among nodes scope s (subst (HasOpenAmong nodes scope) same there))
    (λ (n, value, has). elim (splits nodes scope s n value has) [
      | inl among ↦ subst (HasOpenAmong nodes scope) (sym same) among
      | inr side ↦ absurd (subst (InSide nodes scope) (ap out-Sig is ∙ structure_opened c) side)
    ]) h

pub found_in_structure : {A E : Type 0} (r : Result A E) (nodes : List Node) (scope : ℕ) (s : Sig) (c : Components) (es : List Entry) (old new : List NodeRef) → s ≡ sig.Structure c → es ≡ names_in (inside_sig s) →
    OnOk r (Finds (HasOpenAmong nodes scope es) old new) → OnOk r (Finds (HasOpenValue nodes scope s) old new)
found_in_structure (Ok a) nodes scope s c es old new is same h = finds_structure nodes scope s c es old new is same h
found_in_structure (Err a) nodes scope s c es old new is same h = tt

-- a functor: its parameter, and then its body
finds_functor : (nodes : List Node) (scope : ℕ) (s : Sig) (p b : Rc Template Global) (x y : Sig) (old mid new : List NodeRef) → s ≡ sig.Functor p b → x ≡ sig_of p.value → y ≡ sig_of b.value →
    Finds (HasOpenValue nodes scope x) old mid → Finds (HasOpenValue nodes scope y) mid new → Finds (HasOpenValue nodes scope s) old new
finds_functor nodes scope s p b x y old mid new is same other h k =
    let opened : out-Sig s ≡ Sig-F.Functor p b = ap out-Sig is ∙ functor_opened p b in
    finds_as old new
    (λ either. elim either [
      | inl (n, value, has) ↦ (n, in_parameter opened (subst (λ z. HasValue z n) same value), has)
      | inr (n, value, has) ↦ (n, in_body opened (subst (λ z. HasValue z n) other value), has)
    ])
    (λ (n, value, has). elim (splits nodes scope s n value has) [
      | inl among ↦ absurd (among_none nodes scope (names_in (inside_sig s)) (ap (λ z. names_in (inside_sig z)) is ∙ functor_names p b) among)
      | inr side ↦ subst (λ z. HasOpenValue nodes scope z ⊎ HasOpenValue nodes scope y) (sym same)
          (subst (λ z. HasOpenValue nodes scope (sig_of p.value) ⊎ HasOpenValue nodes scope z) (sym other) (subst (InSide nodes scope) opened side))
    ])
    (finds_both old mid new h k)

pub found_in_functor : {A E : Type 0} (r : Result A E) (nodes : List Node) (scope : ℕ) (s : Sig) (p b : Rc Template Global) (x y : Sig) (old mid new : List NodeRef) → s ≡ sig.Functor p b → x ≡ sig_of p.value → y ≡ sig_of b.value →
    Finds (HasOpenValue nodes scope x) old mid → OnOk r (Finds (HasOpenValue nodes scope y) mid new) → OnOk r (Finds (HasOpenValue nodes scope s) old new)
found_in_functor (Ok a) nodes scope s p b x y old mid new is same other h k = finds_functor nodes scope s p b x y old mid new is same other h k
found_in_functor (Err a) nodes scope s p b x y old mid new is same other h k = tt

-- what is told of what was found
pub closes : {A E : Type 0} (r : Result A E) (free : List NodeRef) (body : Sig) (old new : Parts) (span : Span) (scope : ℕ) → Finds (HasOpenValue old.store.nodes scope body) [] free → OnOk r (ToldOpen free old new span) →
    OnOk r (Closes body old new span scope)
closes (Ok a) [] body old new span scope found told = inl ((found.none refl).1, told)
closes (Ok a) (n ∷ ns) body old new span scope found told = inr (found.some (λ e. cc) refl, told)
closes (Err a) free body old new span scope found told = tt
