-- Ways into signatures whose components are changed.
use Rattle.std.proofs.Common.{◌≡◌, ℕ, zero, suc, arith, List, [], ◌∷◌, Some, None, refl, sym, ap, subst}
use Rattle.std.specs.Prelude.{All, Option, slice_get}
use Rattle.std.specs.List.{AllZip}
use Rattle.type_nodes.specs.Nodes.{Node}
use Rattle.signature_model.specs.Changes.{Change}
use Rattle.type_nodes.specs.Readings.{Types}
use Rattle.env_table.specs.declared.entries.Entry.{Entry}
use Rattle.env_table.specs.declared.entries.Components.{Components, out-Components}
use Rattle.env_table.specs.declared.entries.What.{What}
use Rattle.env_table.specs.declared.entries.Sig.{Sig, out-Sig}
use Rattle.env_table.specs.declared.entries.Sig.TheOpen.{Sig-F}
use Rattle.env_table.specs.declared.entries.Sig as sigs
use Rattle.env_table.specs.declared.entries.Sig.TheVariants as sig
use Rattle.env_table.specs.declared.entries.Template.{Template}
use Rattle.std.specs.declared.rc.Rc.{Rc}
use Rattle.std.specs.declared.alloc.Global.{Global}
use Rattle.sig_template.specs.Structures.{entries_of}
use Rattle.sig_template.specs.Ways.{Step, Component, Parameter, Body, sub, within, next_opened, components_opened, components_of}
use Rattle.sig_template.specs.Changed.{IsChangedEntry, IsChangedOpened, IsChangedHere, IsChangedIn, IsChangedSig}
use Rattle.sig_template.specs.Live.{IsLiveEntry, AreLiveHere, AreLive}
use Rattle.sig_template.specs.Turns.{IsTurnedEntry, IsTurnedTemplate, IsLiveThrough, IsLiveTemplate}

here_none : (nodes : List Node) (c : Types → Change) (way : List Step) → IsChangedHere nodes c (sub way None) (sub way None)
here_none nodes c [] = tt
here_none nodes c (step ∷ way) = here_none nodes c way

pub changed_none : (nodes : List Node) (c : Types → Change) → IsChangedIn nodes c None None
changed_none nodes c = record { each = here_none nodes c }

-- the components, without the signatures in them
zip_here : (nodes : List Node) (c : Types → Change) (es fs : List Entry) → AllZip (IsTurnedEntry nodes c) es fs → AllZip (IsChangedEntry nodes c) es fs
zip_here nodes c [] [] z = tt
zip_here nodes c [] (f ∷ fs) z = absurd z
zip_here nodes c (e ∷ es) [] z = absurd z
zip_here nodes c (e ∷ es) (f ∷ fs) z = (z.0.entry, zip_here nodes c es fs z.1)

zip_within : (nodes : List Node) (c : Types → Change) (es fs : List Entry) (k : ℕ) (way : List Step) → AllZip (IsTurnedEntry nodes c) es fs →
    IsChangedHere nodes c (sub way (within (slice_get es k))) (sub way (within (slice_get fs k)))
zip_within nodes c [] [] k way z = here_none nodes c way
zip_within nodes c [] (f ∷ fs) k way z = absurd z
zip_within nodes c (e ∷ es) [] k way z = absurd z
zip_within nodes c (e ∷ es) (f ∷ fs) zero way z = z.0.within.each way
zip_within nodes c (e ∷ es) (f ∷ fs) (suc k) way z = zip_within nodes c es fs k way z.1

pub changed_hole : (nodes : List Node) (c : Types → Change) → IsChangedSig nodes c sig.Hole sig.Hole
unfolding sigs.out-Sig denote.Hole.Carrier.out
changed_hole nodes c = record { each = λ way. at way }
  where
    at : (way : List Step) → IsChangedHere nodes c (sub way (Some sig.Hole)) (sub way (Some sig.Hole))
    at [] = tt
    at (Component k ∷ way) = here_none nodes c way
    at (Parameter ∷ way) = here_none nodes c way
    at (Body ∷ way) = here_none nodes c way

-- components behind owners
pub zip_owned : (nodes : List Node) (c : Types → Change) (rs ss : List (Rc Entry Global)) → AllZip (λ (r : Rc Entry Global) (s : Rc Entry Global). IsTurnedEntry nodes c r.value s.value) rs ss →
    AllZip (IsTurnedEntry nodes c) (entries_of rs) (entries_of ss)
zip_owned nodes c [] [] z = tt
zip_owned nodes c [] (s ∷ ss) z = absurd z
zip_owned nodes c (r ∷ rs) [] z = absurd z
zip_owned nodes c (r ∷ rs) (s ∷ ss) z = (z.0, zip_owned nodes c rs ss z.1)

pub all_owned : (P : Entry → Type 0) (rs : List (Rc Entry Global)) → All P (entries_of rs) → All (λ (r : Rc Entry Global). P r.value) rs
all_owned P [] all = λ k d lt. absurd (omega arith)
all_owned P (r ∷ rs) all = both (all zero r.value (omega arith)) (all_owned P rs (λ k e lt. all (suc k) e (omega arith)))
  where
    both : P r.value → All (λ (x : Rc Entry Global). P x.value) rs → All (λ (x : Rc Entry Global). P x.value) (r ∷ rs)
    both here there zero d lt = here
    both here there (suc k) d lt = there k d (omega arith)

pub of_structure : (es : Components) → components_of (sig.Structure es) ≡ Some (out-Components es).entries.items
unfolding sigs.out-Sig denote.Hole.Carrier.out
of_structure es = refl

same_some : {A : Type 0} (x y : A) → Some x ≡ Some y → x ≡ y
same_some x y e = cc

-- structures that are opened
opened_structure : (nodes : List Node) (c : Types → Change) (s t : Sig-F Sig What Components Entry Template) (es fs : List (Rc Entry Global)) → components_opened s ≡ Some es → components_opened t ≡ Some fs →
    AllZip (IsTurnedEntry nodes c) (entries_of es) (entries_of fs) → IsChangedOpened nodes c s t
opened_structure nodes c (Sig-F.Structure d) (Sig-F.Structure f) es fs p q z =
    let e : (out-Components d).entries.items ≡ es = same_some (out-Components d).entries.items es p in
    let g : (out-Components f).entries.items ≡ fs = same_some (out-Components f).entries.items fs q in
    rw (e, g) (zip_here nodes c (entries_of es) (entries_of fs) z)
opened_structure nodes c (Sig-F.Structure d) (Sig-F.Functor x y) es fs p q z = absurd (cc)
opened_structure nodes c (Sig-F.Structure d) Sig-F.Hole es fs p q z = absurd (cc)
opened_structure nodes c (Sig-F.Functor x y) t es fs p q z = absurd (cc)
opened_structure nodes c Sig-F.Hole t es fs p q z = absurd (cc)

next_structure : (s : Sig-F Sig What Components Entry Template) (es : List (Rc Entry Global)) (k : ℕ) → components_opened s ≡ Some es → next_opened (Component k) s ≡ within (slice_get (entries_of es) k)
next_structure (Sig-F.Structure d) es k p = ap (λ (xs : List (Rc Entry Global)). within (slice_get (entries_of xs) k)) (same_some (out-Components d).entries.items es p)
next_structure (Sig-F.Functor x y) es k p = absurd (cc)
next_structure Sig-F.Hole es k p = absurd (cc)

no_parameter : (s : Sig-F Sig What Components Entry Template) (es : List (Rc Entry Global)) → components_opened s ≡ Some es → next_opened Parameter s ≡ None
no_parameter (Sig-F.Structure d) es p = refl
no_parameter (Sig-F.Functor x y) es p = absurd (cc)
no_parameter Sig-F.Hole es p = absurd (cc)

no_body : (s : Sig-F Sig What Components Entry Template) (es : List (Rc Entry Global)) → components_opened s ≡ Some es → next_opened Body s ≡ None
no_body (Sig-F.Structure d) es p = refl
no_body (Sig-F.Functor x y) es p = absurd (cc)
no_body Sig-F.Hole es p = absurd (cc)

pub changed_structure : (nodes : List Node) (c : Types → Change) (s t : Sig) (es fs : List (Rc Entry Global)) → components_of s ≡ Some es → components_of t ≡ Some fs →
    AllZip (λ (x : Rc Entry Global) (y : Rc Entry Global). IsTurnedEntry nodes c x.value y.value) es fs → IsChangedSig nodes c s t
changed_structure nodes c s t es fs p q owned = record { each = λ way. at way }
  where
    z : AllZip (IsTurnedEntry nodes c) (entries_of es) (entries_of fs)
    z = zip_owned nodes c es fs owned

    none : (a b : Option Sig) (way : List Step) → a ≡ None → b ≡ None → IsChangedHere nodes c (sub way a) (sub way b)
    none a b way e f = subst (λ y. IsChangedHere nodes c (sub way a) (sub way y)) (sym f) (subst (λ x. IsChangedHere nodes c (sub way x) (sub way None)) (sym e) (here_none nodes c way))

    some : (a b : Option Sig) (k : ℕ) (way : List Step) → a ≡ within (slice_get (entries_of es) k) → b ≡ within (slice_get (entries_of fs) k) → IsChangedHere nodes c (sub way a) (sub way b)
    some a b k way e f = subst (λ y. IsChangedHere nodes c (sub way a) (sub way y)) (sym f) (subst (λ x. IsChangedHere nodes c (sub way x) (sub way (within (slice_get (entries_of fs) k)))) (sym e) (zip_within nodes c (entries_of es) (entries_of fs) k way z))

    at : (way : List Step) → IsChangedHere nodes c (sub way (Some s)) (sub way (Some t))
    at [] = opened_structure nodes c (out-Sig s) (out-Sig t) es fs p q z
    at (Component k ∷ way) = some (next_opened (Component k) (out-Sig s)) (next_opened (Component k) (out-Sig t)) k way (next_structure (out-Sig s) es k p) (next_structure (out-Sig t) fs k q)
    at (Parameter ∷ way) = none (next_opened Parameter (out-Sig s)) (next_opened Parameter (out-Sig t)) way (no_parameter (out-Sig s) es p) (no_parameter (out-Sig t) fs q)
    at (Body ∷ way) = none (next_opened Body (out-Sig s)) (next_opened Body (out-Sig t)) way (no_body (out-Sig s) es p) (no_body (out-Sig t) fs q)

pub changed_functor : (nodes : List Node) (c : Types → Change) (p b q d : Rc Template Global) → IsTurnedTemplate nodes c p.value q.value → IsTurnedTemplate nodes c b.value d.value →
    IsChangedSig nodes c (sig.Functor p b) (sig.Functor q d)
unfolding sigs.out-Sig denote.Hole.Carrier.out
changed_functor nodes c p b q d parameter body = record { each = λ way. at way }
  where
    at : (way : List Step) → IsChangedHere nodes c (sub way (Some (sig.Functor p b))) (sub way (Some (sig.Functor q d)))
    at [] = λ V. (parameter.made V, body.made V)
    at (Component k ∷ way) = here_none nodes c way
    at (Parameter ∷ way) = parameter.sig.each way
    at (Body ∷ way) = body.sig.each way

live_within : (nodes : List Node) (es : List Entry) → All (IsLiveEntry nodes) es → ((k : ℕ) (way : List Step) → AreLiveHere nodes (sub way (within (slice_get es k)))) → All (IsLiveThrough nodes) es
live_within nodes [] all each = λ k d lt. absurd (omega arith)
live_within nodes (e ∷ es) all each = both (record { what = all zero e (omega arith); within = record { each = each zero } }) (live_within nodes es (λ j f l. all (suc j) f (omega arith)) (λ j way. each (suc j) way))
  where
    both : IsLiveThrough nodes e → All (IsLiveThrough nodes) es → All (IsLiveThrough nodes) (e ∷ es)
    both here there zero d lt = here
    both here there (suc k) d lt = there k d (omega arith)

pub live_structure : (nodes : List Node) (es : Components) (xs : List (Rc Entry Global)) → xs ≡ (out-Components es).entries.items → AreLive nodes (sig.Structure es) → All (λ (r : Rc Entry Global). IsLiveThrough nodes r.value) xs
unfolding sigs.out-Sig denote.Hole.Carrier.out
live_structure nodes es xs e live =
    subst (λ (ys : List (Rc Entry Global)). All (λ (r : Rc Entry Global). IsLiveThrough nodes r.value) ys) (sym e)
    (all_owned (IsLiveThrough nodes) (out-Components es).entries.items (live_within nodes (entries_of (out-Components es).entries.items) (live.each []) (λ k way. live.each (Component k ∷ way))))

pub live_parameter : (nodes : List Node) (p b : Rc Template Global) → AreLive nodes (sig.Functor p b) → IsLiveTemplate nodes p.value
unfolding sigs.out-Sig denote.Hole.Carrier.out
live_parameter nodes p b live = record { each = λ way. live.each (Parameter ∷ way) }

pub live_body : (nodes : List Node) (p b : Rc Template Global) → AreLive nodes (sig.Functor p b) → IsLiveTemplate nodes b.value
unfolding sigs.out-Sig denote.Hole.Carrier.out
live_body nodes p b live = record { each = λ way. live.each (Body ∷ way) }
