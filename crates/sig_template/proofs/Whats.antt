-- What names stand for, one sort after the other.
use Rattle.std.proofs.Common.{◌≡◌, ℕ, List, Some, refl, sym, ap, ◌∙◌, subst, map}
use Rattle.std.specs.Prelude.{All, Result, Ok, Err, IfOk}
use Rattle.std.specs.List.{AllZip}
use Rattle.std.specs.declared.alloc.AllocError.{AllocError}
use Rattle.std.specs.declared.rc.Rc.{Rc}
use Rattle.std.specs.declared.alloc.Global.{Global}
use Rattle.type_nodes.specs.Nodes.{Node, IsNode}
use Rattle.type_terms.specs.declared.types.NodeRef.{NodeRef}
use Rattle.type_terms.specs.declared.types.Origin.{Origin}
use Rattle.signature_model.specs.Changes.{Change}
use Rattle.type_nodes.specs.Readings.{Types}
use Rattle.type_reading.specs.declared.changes.Changes.{Changes}
use Rattle.env_table.specs.declared.entries.Constructor.{Constructor}
use Rattle.env_table.specs.declared.entries.Declaration.{Declaration}
use Rattle.env_table.specs.declared.entries.Sig.{Sig}
use Rattle.env_table.specs.declared.entries.Template.{Template, out-Template}
use Rattle.env_table.specs.declared.entries.What.{What}
use Rattle.env_table.specs.declared.entries.What as whats
use Rattle.env_table.specs.declared.entries.What.TheVariants as what
use Rattle.type_reading.specs.Copying.{IsChanged, change_by, paths_of}
use Rattle.sig_template.specs.Changed.{made_of, IsChangedConstructor, IsChangedDeclaration, IsChangedSig}
use Rattle.sig_template.specs.Live.{IsLiveConstructor, IsLiveDeclaration, AreLive}
use Rattle.sig_template.specs.Turns.{IsTurnedWhat, IsTurnedTemplate, IsLiveWithin, IsLiveTemplate}
use Rattle.type_reading.specs.declared.copies.Copies.{Copies}
use Rattle.env_table.specs.declared.entries.Entry.{Entry}
use Rattle.env_table.specs.declared.entries.Components.{Components, out-Components}
use Rattle.env_table.specs.declared.entries.Sig.TheVariants as sig
use Rattle.sig_template.specs.Ways.{components_of, sig_of}
use Rattle.sig_template.specs.Turns.{Turns, IsTurnedEntry, IsLiveThrough}
use Rattle.sig_template.proofs.Turning.{turns_as, turns_same, turns_then, owned_turns}
use Rattle.sig_template.proofs.Within.{changed_none, changed_hole, changed_structure, changed_functor, of_structure, live_structure, live_parameter, live_body}

pub live_scheme : (nodes : List Node) (n : NodeRef) → IsLiveWithin nodes (what.Scheme n) → IsNode nodes n.0
unfolding whats.out-What denote.Hole.Carrier.out
live_scheme nodes n live = live.what

pub turned_scheme : (nodes : List Node) (c : Types → Change) (n m : NodeRef) → IsChanged nodes c n.0 m.0 → IsTurnedWhat nodes c (what.Scheme n) (what.Scheme m)
unfolding whats.out-What denote.Hole.Carrier.out
turned_scheme nodes c n m is = record { what = is; within = changed_none nodes c }

pub live_constructor : (nodes : List Node) (d : Rc Declaration Global) (k : ℕ) → IsLiveWithin nodes (what.Constructor d k) → IsLiveDeclaration nodes d.value
unfolding whats.out-What denote.Hole.Carrier.out
live_constructor nodes d k live = live.what

pub turned_constructor : (nodes : List Node) (c : Types → Change) (d e : Rc Declaration Global) (k : ℕ) → IsTurnedWhat nodes c (what.Constructor d k) (what.Constructor e k)
unfolding whats.out-What denote.Hole.Carrier.out
turned_constructor nodes c d e k = record { what = refl; within = changed_none nodes c }

pub live_label : (nodes : List Node) (d : Rc Declaration Global) (k : ℕ) → IsLiveWithin nodes (what.Label d k) → IsLiveDeclaration nodes d.value
unfolding whats.out-What denote.Hole.Carrier.out
live_label nodes d k live = live.what

pub turned_label : (nodes : List Node) (c : Types → Change) (d e : Rc Declaration Global) (k : ℕ) → IsTurnedWhat nodes c (what.Label d k) (what.Label e k)
unfolding whats.out-What denote.Hole.Carrier.out
turned_label nodes c d e k = record { what = refl; within = changed_none nodes c }

pub live_exception : (nodes : List Node) (k : Rc Constructor Global) → IsLiveWithin nodes (what.Exception k) → IsLiveConstructor nodes k.value
unfolding whats.out-What denote.Hole.Carrier.out
live_exception nodes k live = live.what

pub turned_exception : (nodes : List Node) (c : Types → Change) (k j : Rc Constructor Global) → IsChangedConstructor nodes c k.value j.value → IsTurnedWhat nodes c (what.Exception k) (what.Exception j)
unfolding whats.out-What denote.Hole.Carrier.out
turned_exception nodes c k j is = record { what = is; within = changed_none nodes c }

pub live_type : (nodes : List Node) (d : Rc Declaration Global) → IsLiveWithin nodes (what.Type d) → IsLiveDeclaration nodes d.value
unfolding whats.out-What denote.Hole.Carrier.out
live_type nodes d live = live.what

pub turned_type : (nodes : List Node) (c : Types → Change) (d e : Rc Declaration Global) → IsChangedDeclaration nodes c d.value e.value → IsTurnedWhat nodes c (what.Type d) (what.Type e)
unfolding whats.out-What denote.Hole.Carrier.out
turned_type nodes c d e is = record { what = is; within = changed_none nodes c }

pub live_module : (nodes : List Node) (s : Rc Sig Global) → IsLiveWithin nodes (what.Module s) → AreLive nodes s.value
unfolding whats.out-What denote.Hole.Carrier.out
live_module nodes s live = live.within

pub turned_module : (nodes : List Node) (c : Types → Change) (s t : Rc Sig Global) → IsChangedSig nodes c s.value t.value → IsTurnedWhat nodes c (what.Module s) (what.Module t)
unfolding whats.out-What denote.Hole.Carrier.out
turned_module nodes c s t is = record { what = tt; within = is }

pub live_module_type : (nodes : List Node) (s : Rc Template Global) → IsLiveWithin nodes (what.ModuleType s) → IsLiveTemplate nodes s.value
unfolding whats.out-What denote.Hole.Carrier.out
live_module_type nodes s live = live.within

pub turned_module_type : (nodes : List Node) (c : Types → Change) (s t : Rc Template Global) → IsTurnedTemplate nodes c s.value t.value → IsTurnedWhat nodes c (what.ModuleType s) (what.ModuleType t)
unfolding whats.out-What denote.Hole.Carrier.out
turned_module_type nodes c s t is = record { what = is.made; within = is.sig }

pub what_scheme : (c : Changes) (old : What) (n m : NodeRef) (a b : List Node) (x y : Copies) → old ≡ what.Scheme n →
    Turns c (λ ns. IsNode ns n.0) (λ ns. IsChanged ns (change_by c) n.0 m.0) a b x y → Turns c (λ ns. IsLiveWithin ns old) (λ ns. IsTurnedWhat ns (change_by c) old (what.Scheme m)) a b x y
what_scheme c old n m a b x y is p = subst (λ w. Turns c (λ ns. IsLiveWithin ns w) (λ ns. IsTurnedWhat ns (change_by c) w (what.Scheme m)) a b x y) (sym is)
    (turns_as c (λ ns. IsNode ns n.0) (λ ns. IsChanged ns (change_by c) n.0 m.0) (λ ns. IsLiveWithin ns (what.Scheme n)) (λ ns. IsTurnedWhat ns (change_by c) (what.Scheme n) (what.Scheme m)) a b x y
    (λ ns. live_scheme ns n) (λ ns. turned_scheme ns (change_by c) n m) p)

pub what_constructor : (c : Changes) (old : What) (r s : Rc Declaration Global) (k : ℕ) (d : Declaration) (a b : List Node) (x y : Copies) → old ≡ what.Constructor r k → d ≡ r.value →
    Turns c (λ ns. IsLiveDeclaration ns d) (λ ns. Unit {0}) a b x y → Turns c (λ ns. IsLiveWithin ns old) (λ ns. IsTurnedWhat ns (change_by c) old (what.Constructor s k)) a b x y
what_constructor c old r s k d a b x y is same p = subst (λ w. Turns c (λ ns. IsLiveWithin ns w) (λ ns. IsTurnedWhat ns (change_by c) w (what.Constructor s k)) a b x y) (sym is)
    (turns_as c (λ ns. IsLiveDeclaration ns d) (λ ns. Unit {0}) (λ ns. IsLiveWithin ns (what.Constructor r k)) (λ ns. IsTurnedWhat ns (change_by c) (what.Constructor r k) (what.Constructor s k)) a b x y
    (λ ns live. subst (IsLiveDeclaration ns) (sym same) (live_constructor ns r k live)) (λ ns done. turned_constructor ns (change_by c) r s k) p)

pub what_label : (c : Changes) (old : What) (r s : Rc Declaration Global) (k : ℕ) (d : Declaration) (a b : List Node) (x y : Copies) → old ≡ what.Label r k → d ≡ r.value →
    Turns c (λ ns. IsLiveDeclaration ns d) (λ ns. Unit {0}) a b x y → Turns c (λ ns. IsLiveWithin ns old) (λ ns. IsTurnedWhat ns (change_by c) old (what.Label s k)) a b x y
what_label c old r s k d a b x y is same p = subst (λ w. Turns c (λ ns. IsLiveWithin ns w) (λ ns. IsTurnedWhat ns (change_by c) w (what.Label s k)) a b x y) (sym is)
    (turns_as c (λ ns. IsLiveDeclaration ns d) (λ ns. Unit {0}) (λ ns. IsLiveWithin ns (what.Label r k)) (λ ns. IsTurnedWhat ns (change_by c) (what.Label r k) (what.Label s k)) a b x y
    (λ ns live. subst (IsLiveDeclaration ns) (sym same) (live_label ns r k live)) (λ ns done. turned_label ns (change_by c) r s k) p)

pub what_exception : (c : Changes) (old : What) (r s : Rc Constructor Global) (d : Constructor) (a b : List Node) (x y : Copies) → old ≡ what.Exception r → d ≡ r.value →
    Turns c (λ ns. IsLiveConstructor ns d) (λ ns. IsChangedConstructor ns (change_by c) d s.value) a b x y → Turns c (λ ns. IsLiveWithin ns old) (λ ns. IsTurnedWhat ns (change_by c) old (what.Exception s)) a b x y
what_exception c old r s d a b x y is same p = subst (λ w. Turns c (λ ns. IsLiveWithin ns w) (λ ns. IsTurnedWhat ns (change_by c) w (what.Exception s)) a b x y) (sym is)
    (turns_as c (λ ns. IsLiveConstructor ns d) (λ ns. IsChangedConstructor ns (change_by c) d s.value) (λ ns. IsLiveWithin ns (what.Exception r)) (λ ns. IsTurnedWhat ns (change_by c) (what.Exception r) (what.Exception s)) a b x y
    (λ ns live. subst (IsLiveConstructor ns) (sym same) (live_exception ns r live)) (λ ns done. turned_exception ns (change_by c) r s (subst (λ z. IsChangedConstructor ns (change_by c) z s.value) same done)) p)

pub what_type : (c : Changes) (old : What) (r s : Rc Declaration Global) (d : Declaration) (a b : List Node) (x y : Copies) → old ≡ what.Type r → d ≡ r.value →
    Turns c (λ ns. IsLiveDeclaration ns d) (λ ns. IsChangedDeclaration ns (change_by c) d s.value) a b x y → Turns c (λ ns. IsLiveWithin ns old) (λ ns. IsTurnedWhat ns (change_by c) old (what.Type s)) a b x y
what_type c old r s d a b x y is same p = subst (λ w. Turns c (λ ns. IsLiveWithin ns w) (λ ns. IsTurnedWhat ns (change_by c) w (what.Type s)) a b x y) (sym is)
    (turns_as c (λ ns. IsLiveDeclaration ns d) (λ ns. IsChangedDeclaration ns (change_by c) d s.value) (λ ns. IsLiveWithin ns (what.Type r)) (λ ns. IsTurnedWhat ns (change_by c) (what.Type r) (what.Type s)) a b x y
    (λ ns live. subst (IsLiveDeclaration ns) (sym same) (live_type ns r live)) (λ ns done. turned_type ns (change_by c) r s (subst (λ z. IsChangedDeclaration ns (change_by c) z s.value) same done)) p)

pub what_module : (c : Changes) (old : What) (r s : Rc Sig Global) (d : Sig) (a b : List Node) (x y : Copies) → old ≡ what.Module r → d ≡ r.value →
    Turns c (λ ns. AreLive ns d) (λ ns. IsChangedSig ns (change_by c) d s.value) a b x y → Turns c (λ ns. IsLiveWithin ns old) (λ ns. IsTurnedWhat ns (change_by c) old (what.Module s)) a b x y
what_module c old r s d a b x y is same p = subst (λ w. Turns c (λ ns. IsLiveWithin ns w) (λ ns. IsTurnedWhat ns (change_by c) w (what.Module s)) a b x y) (sym is)
    (turns_as c (λ ns. AreLive ns d) (λ ns. IsChangedSig ns (change_by c) d s.value) (λ ns. IsLiveWithin ns (what.Module r)) (λ ns. IsTurnedWhat ns (change_by c) (what.Module r) (what.Module s)) a b x y
    (λ ns live. subst (AreLive ns) (sym same) (live_module ns r live)) (λ ns done. turned_module ns (change_by c) r s (subst (λ z. IsChangedSig ns (change_by c) z s.value) same done)) p)

pub what_module_type : (c : Changes) (old : What) (r s : Rc Template Global) (d : Template) (a b : List Node) (x y : Copies) → old ≡ what.ModuleType r → d ≡ r.value →
    Turns c (λ ns. IsLiveTemplate ns d) (λ ns. IsTurnedTemplate ns (change_by c) d s.value) a b x y → Turns c (λ ns. IsLiveWithin ns old) (λ ns. IsTurnedWhat ns (change_by c) old (what.ModuleType s)) a b x y
what_module_type c old r s d a b x y is same p = subst (λ w. Turns c (λ ns. IsLiveWithin ns w) (λ ns. IsTurnedWhat ns (change_by c) w (what.ModuleType s)) a b x y) (sym is)
    (turns_as c (λ ns. IsLiveTemplate ns d) (λ ns. IsTurnedTemplate ns (change_by c) d s.value) (λ ns. IsLiveWithin ns (what.ModuleType r)) (λ ns. IsTurnedWhat ns (change_by c) (what.ModuleType r) (what.ModuleType s)) a b x y
    (λ ns live. subst (IsLiveTemplate ns) (sym same) (live_module_type ns r live)) (λ ns done. turned_module_type ns (change_by c) r s (subst (λ z. IsTurnedTemplate ns (change_by c) z s.value) same done)) p)

pub template_both : (r : Result (Rc Template Global) AllocError) (c : Changes) (old new : Template) (d e : Sig) (os ms : List Origin) (a b : List Node) (x y : Copies) → IfOk r (λ t. t.value ≡ new) →
    os ≡ (out-Template old).made.items → paths_of ms ≡ made_of new → d ≡ sig_of old → sig_of new ≡ e → ((V : Types) → paths_of ms ≡ map (change_by c V).path (paths_of os)) →
    Turns c (λ ns. AreLive ns d) (λ ns. IsChangedSig ns (change_by c) d e) a b x y → IfOk r (λ t. Turns c (λ ns. IsLiveTemplate ns old) (λ ns. IsTurnedTemplate ns (change_by c) old t.value) a b x y)
template_both r c old new d e os ms a b x y made were are was is moved p = owned_turns r new c (λ ns. IsLiveTemplate ns old) (λ ns t. IsTurnedTemplate ns (change_by c) old t) a b x y made
    (turns_as c (λ ns. AreLive ns d) (λ ns. IsChangedSig ns (change_by c) d e) (λ ns. IsLiveTemplate ns old) (λ ns. IsTurnedTemplate ns (change_by c) old new) a b x y
    (λ ns live. subst (AreLive ns) (sym was) live)
    (λ ns done. record {
      made = λ V. sym are ∙ moved V ∙ ap (λ (xs : List Origin). map (change_by c V).path (paths_of xs)) were;
      sig = subst (IsChangedSig ns (change_by c) (sig_of old)) (sym is) (subst (λ z. IsChangedSig ns (change_by c) z e) was done);
    }) p)

pub sig_hole : (r : Result (Rc Sig Global) AllocError) (c : Changes) (old : Sig) (a : List Node) (x : Copies) → old ≡ sig.Hole → IfOk r (λ s. s.value ≡ sig.Hole) →
    IfOk r (λ s. Turns c (λ ns. AreLive ns old) (λ ns. IsChangedSig ns (change_by c) old s.value) a a x x)
sig_hole r c old a x is made = owned_turns r sig.Hole c (λ ns. AreLive ns old) (λ ns s. IsChangedSig ns (change_by c) old s) a a x x made
    (subst (λ o. Turns c (λ ns. AreLive ns o) (λ ns. IsChangedSig ns (change_by c) o sig.Hole) a a x x) (sym is) (turns_same c (λ ns. AreLive ns sig.Hole) (λ ns. IsChangedSig ns (change_by c) sig.Hole sig.Hole) a x (λ ns. changed_hole ns (change_by c))))

pub sig_structure : (r : Result (Rc Sig Global) AllocError) (c : Changes) (old : Sig) (es : Components) (xs ys : List (Rc Entry Global)) (a b : List Node) (x y : Copies) →
    old ≡ sig.Structure es → xs ≡ (out-Components es).entries.items → IfOk r (λ s. components_of s.value ≡ Some ys) →
    (Turns c (λ ns. All (λ (e : Rc Entry Global). IsLiveThrough ns e.value) xs) (λ ns. AllZip (λ (e : Rc Entry Global) (f : Rc Entry Global). IsTurnedEntry ns (change_by c) e.value f.value) xs ys) a b x y) →
    IfOk r (λ s. Turns c (λ ns. AreLive ns old) (λ ns. IsChangedSig ns (change_by c) old s.value) a b x y)
sig_structure (Ok s) c old es xs ys a b x y is same made p = subst (λ o. Turns c (λ ns. AreLive ns o) (λ ns. IsChangedSig ns (change_by c) o s.value) a b x y) (sym is)
    (turns_as c (λ ns. All (λ (e : Rc Entry Global). IsLiveThrough ns e.value) xs) (λ ns. AllZip (λ (e : Rc Entry Global) (f : Rc Entry Global). IsTurnedEntry ns (change_by c) e.value f.value) xs ys)
    (λ ns. AreLive ns (sig.Structure es)) (λ ns. IsChangedSig ns (change_by c) (sig.Structure es) s.value) a b x y
    (λ ns live. live_structure ns es xs same live) (λ ns z. changed_structure ns (change_by c) (sig.Structure es) s.value xs ys (of_structure es ∙ ap (λ zs. Some zs) (sym same)) made z) p)
sig_structure (Err e) c old es xs ys a b x y is same made p = tt

pub sig_functor : (r : Result (Rc Sig Global) AllocError) (c : Changes) (old : Sig) (p b q d : Rc Template Global) (t u : Template) (i j k : List Node) (x y z : Copies) →
    old ≡ sig.Functor p b → t ≡ p.value → u ≡ b.value → IfOk r (λ s. s.value ≡ sig.Functor q d) →
    (Turns c (λ ns. IsLiveTemplate ns t) (λ ns. IsTurnedTemplate ns (change_by c) t q.value) i j x y) → (Turns c (λ ns. IsLiveTemplate ns u) (λ ns. IsTurnedTemplate ns (change_by c) u d.value) j k y z) →
    IfOk r (λ s. Turns c (λ ns. AreLive ns old) (λ ns. IsChangedSig ns (change_by c) old s.value) i k x z)
sig_functor r c old p b q d t u i j k x y z is same other made first second = owned_turns r (sig.Functor q d) c (λ ns. AreLive ns old) (λ ns s. IsChangedSig ns (change_by c) old s) i k x z made
    (subst (λ o. Turns c (λ ns. AreLive ns o) (λ ns. IsChangedSig ns (change_by c) o (sig.Functor q d)) i k x z) (sym is)
    (turns_then c (λ ns. IsLiveTemplate ns t) (λ ns. IsTurnedTemplate ns (change_by c) t q.value) (λ ns. IsLiveTemplate ns u) (λ ns. IsTurnedTemplate ns (change_by c) u d.value)
    (λ ns. AreLive ns (sig.Functor p b)) (λ ns. IsChangedSig ns (change_by c) (sig.Functor p b) (sig.Functor q d)) i j k x y z
    (λ ns live. subst (IsLiveTemplate ns) (sym same) (live_parameter ns p b live)) (λ ns live. subst (IsLiveTemplate ns) (sym other) (live_body ns p b live))
    (λ ns one two. changed_functor ns (change_by c) p b q d (subst (λ w. IsTurnedTemplate ns (change_by c) w q.value) same one) (subst (λ w. IsTurnedTemplate ns (change_by c) w d.value) other two))
    first second))
