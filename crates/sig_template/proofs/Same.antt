-- A change of no path changes nothing.
use Rattle.std.proofs.Common.{◌≡◌, ℕ, zero, suc, List, [], ◌∷◌, ◌++◌, length, map, Some, None, refl, sym, ap, ◌∙◌, subst, arith}
use Rattle.std.specs.Prelude.{All, Option, option_map, IfSome}
use Rattle.std.specs.List.{AllZip}
use Rattle.type_model.specs.Types.{Path, Typ, Typs, Var, Arrow, Tuple, Con, Nil, Cons}
use Rattle.type_nodes.specs.Nodes.{Node, IsNode}
use Rattle.signature_model.specs.Changes.{Change, change, change_all, in_front, realised}
use Rattle.signature_model.specs.Templates.{only}
use Rattle.env_table.specs.declared.entries.Constructor.{Constructor}
use Rattle.env_table.specs.declared.entries.Label.{Label}
use Rattle.env_table.specs.declared.entries.Shape.{Shape}
use Rattle.env_table.specs.declared.entries.Shape.TheVariants as shape
use Rattle.env_table.specs.declared.entries.Declaration.{Declaration}
use Rattle.env_table.specs.declared.entries.What.{What, out-What}
use Rattle.env_table.specs.declared.entries.Entry.{Entry}
use Rattle.env_table.specs.declared.entries.Sig.{Sig, out-Sig}
use Rattle.env_table.specs.declared.entries.Sig.TheOpen.{Sig-F, What-F}
use Rattle.env_table.specs.declared.entries.Components.{Components, out-Components}
use Rattle.env_table.specs.declared.entries.Template.{Template}
use Rattle.type_terms.specs.declared.types.Origin.{Origin}
use Rattle.type_terms.specs.Views.{path_of}
use Rattle.type_nodes.specs.Readings.{Types}
use Rattle.type_reading.specs.declared.changes.Real.{Real}
use Rattle.type_reading.specs.Copying.{IsChanged, IsDeclared, AreDeclared, declared, real_at, paths_of}
use Rattle.sig_template.specs.Structures.{entries_of}
use Rattle.sig_template.specs.Ways.{sub}
use Rattle.sig_template.specs.Changed.{made_of, origin_after, IsChangedConstructor, IsChangedLabel, IsChangedShape, IsChangedDeclaration, IsChangedWhat, IsChangedEntry, IsChangedOpened, IsChangedHere, IsChangedSig}
use Rattle.sig_template.specs.Live.{IsLiveConstructor, IsLiveLabel, IsLiveShape, IsLiveDeclaration, IsLiveWhat, IsLiveEntry, AreLiveOpened, AreLiveHere, AreLive}

same_all : (ps : List Path) (u : ℕ) → map (in_front [] u).path ps ≡ ps
same_all [] u = refl
same_all (p ∷ ps) u = ap (λ qs. p ∷ qs) (same_all ps u)

mutual
  same_type : (u : ℕ) (t : Typ) → change (in_front [] u) t ≡ t
  same_type u (Var v) = refl
  same_type u (Arrow a b) = rw (same_type u a, same_type u b) refl
  same_type u (Tuple ts) = rw (same_types u ts) refl
  same_type u (Con o ts) = rw (same_types u ts) refl

  same_types : (u : ℕ) (ts : Typs) → change_all (in_front [] u) ts ≡ ts
  same_types u Nil = refl
  same_types u (Cons t ts) = rw (same_type u t, same_types u ts) refl

pub same_node : (nodes : List Node) (u n : ℕ) → IsNode nodes n → IsChanged nodes (λ _. in_front [] u) n n
same_node nodes u n live = record { inside = live; reads = λ V reads keeps. sym (same_type u (V n)) }

-- each item of a list, from what is known of each
zip_same : {A : Type 0} (P : A → Type 0) (R : A → A → Type 0) (xs : List A) → ((x : A) → P x → R x x) → All P xs → AllZip R xs xs
zip_same P R [] same all = tt
zip_same P R (x ∷ xs) same all = (same x (all zero x (omega arith)), zip_same P R xs same (λ k d lt. all (suc k) d (omega arith)))

constructor_same : (nodes : List Node) (u : ℕ) (k : Constructor) → IsLiveConstructor nodes k → IsChangedConstructor nodes (λ _. in_front [] u) k k
constructor_same nodes u k live = record { name = refl; has_argument = refl; root = same_node nodes u k.root.0 live }

label_same : (nodes : List Node) (u : ℕ) (l : Label) → IsLiveLabel nodes l → IsChangedLabel nodes (λ _. in_front [] u) l l
label_same nodes u l live = record { name = refl; is_mutable = refl; root = same_node nodes u l.root.0 live }

shape_same : (nodes : List Node) (u : ℕ) (s : Shape) → IsLiveShape nodes s → IsChangedShape nodes (λ _. in_front [] u) s s
shape_same nodes u shape.Opaque live = tt
shape_same nodes u (shape.Variant ks) live = zip_same (IsLiveConstructor nodes) (IsChangedConstructor nodes (λ _. in_front [] u)) ks.items (constructor_same nodes u) live
shape_same nodes u (shape.Labels ls) live = zip_same (IsLiveLabel nodes) (IsChangedLabel nodes (λ _. in_front [] u)) ls.items (label_same nodes u) live

origin_same : (o : Option Origin) (u : ℕ) → option_map path_of o ≡ origin_after (in_front [] u) (option_map path_of o)
origin_same None u = refl
origin_same (Some o) u = refl

declaration_same : (nodes : List Node) (u : ℕ) (d : Declaration) → IsLiveDeclaration nodes d → IsChangedDeclaration nodes (λ _. in_front [] u) d d
declaration_same nodes u d live = record { arity = refl; origin = λ V. origin_same d.origin u; root = same_node nodes u d.root.0 live.0; shape = shape_same nodes u d.shape live.1 }

what_same : (nodes : List Node) (u : ℕ) (w : What-F Sig What Components Entry Template) → IsLiveWhat nodes w → IsChangedWhat nodes (λ _. in_front [] u) w w
what_same nodes u (What-F.Scheme n) live = same_node nodes u n.0 live
what_same nodes u (What-F.Constructor d k) live = refl
what_same nodes u (What-F.Exception k) live = constructor_same nodes u k.value live
what_same nodes u (What-F.Label d k) live = refl
what_same nodes u (What-F.Type d) live = declaration_same nodes u d.value live
what_same nodes u (What-F.Module s) live = tt
what_same nodes u (What-F.ModuleType t) live = λ V. sym (same_all (made_of t.value) u)

entry_same : (nodes : List Node) (u : ℕ) (e : Entry) → IsLiveEntry nodes e → IsChangedEntry nodes (λ _. in_front [] u) e e
entry_same nodes u e live = record { name = refl; kind = refl; place = refl; what = what_same nodes u (out-What e.what) live }

opened_same : (nodes : List Node) (u : ℕ) (s : Sig-F Sig What Components Entry Template) → AreLiveOpened nodes s → IsChangedOpened nodes (λ _. in_front [] u) s s
opened_same nodes u (Sig-F.Structure c) live = zip_same (IsLiveEntry nodes) (IsChangedEntry nodes (λ _. in_front [] u)) (entries_of (out-Components c).entries.items) (entry_same nodes u) live
opened_same nodes u (Sig-F.Functor p b) live = λ V. (sym (same_all (made_of p.value) u), sym (same_all (made_of b.value) u))
opened_same nodes u Sig-F.Hole live = tt

here_same : (nodes : List Node) (u : ℕ) (s : Option Sig) → AreLiveHere nodes s → IsChangedHere nodes (λ _. in_front [] u) s s
here_same nodes u None live = tt
here_same nodes u (Some s) live = opened_same nodes u (out-Sig s) live

pub sig_same : (nodes : List Node) (u : ℕ) (s : Sig) → AreLive nodes s → IsChangedSig nodes (λ _. in_front [] u) s s
sig_same nodes u s live = record { each = λ way. here_same nodes u (sub way (Some s)) (live.each way) }

none_listed : (os : List Origin) → length os ≡ 0 → paths_of os ≡ []
none_listed [] e = refl
none_listed (o ∷ os) e = absurd (omega arith)

-- a signature in which nothing is made anew
pub shared_same : (nodes : List Node) (os : List Origin) (u : ℕ) (s t : Sig) → t ≡ s → length os ≡ 0 → AreLive nodes s → IsChangedSig nodes (λ _. in_front (paths_of os) u) s t
shared_same nodes os u s t e none live = subst (IsChangedSig nodes (λ _. in_front (paths_of os) u) s) (sym e) (subst (λ qs. IsChangedSig nodes (λ _. in_front qs u) s s) (sym (none_listed os none)) (sig_same nodes u s live))

-- a number in front of some origins, and types in the place of some
abbrev pub anew : List Path → ℕ → List Real → Types → Change
anew ps u rs V = record { path = (in_front ps u).path; real = λ o. real_at V o rs }

-- one that is changed with copies of the paths, and with no type in the place of an origin
pub copied_same : (old new : List Node) (ps qs : List Path) (u : ℕ) (rs : List Real) (s r t : Sig) → qs ≡ ps → r ≡ s → rs ≡ [] → (AreDeclared old rs → AreLive old r → IsChangedSig new (anew qs u rs) r t) →
    AreLive old s → IsChangedSig new (λ _. in_front ps u) s t
copied_same old new ps qs u rs s r t e same none is live =
    let now : IsChangedSig new (anew qs u []) r t = subst (λ xs. AreDeclared old xs → IsChangedSig new (anew qs u xs) r t) none (λ reals. is reals (subst (AreLive old) (sym same) live)) (λ k d lt. absurd (omega arith)) in
    subst (λ xs. IsChangedSig new (λ _. in_front xs u) s t) e (subst (λ x. IsChangedSig new (λ _. in_front qs u) x t) same now)

one_declared : (nodes : List Node) (r : Real) → IsDeclared nodes r.root.0 r.arity → AreDeclared nodes (r ∷ [])
one_declared nodes r is zero d lt = is
one_declared nodes r is (suc k) d lt = absurd (omega arith)

-- one that is changed with a type in the place of the origin that is named
pub real_same : (old new : List Node) (named : Option Path) (q : Path) (ps : List Path) (u : ℕ) (rs zs : List Real) (x : Real) (s r t : Sig) → Some q ≡ named → path_of x.origin ≡ q → ps ≡ [] → zs ≡ [] → rs ≡ zs ++ x ∷ [] → r ≡ s →
    (AreDeclared old rs → AreLive old r → IsChangedSig new (anew ps u rs) r t) →
    IfSome named (λ o. IsDeclared old x.root.0 x.arity → AreLive old s → IsChangedSig new (λ V. realised (only o (declared x.arity (V x.root.0)))) s t)
real_same old new named q ps u rs zs x s r t has origin none empty pushed same is =
    let one : rs ≡ x ∷ [] = pushed ∙ ap (λ (ys : List Real). ys ++ x ∷ []) empty in
    let first : AreDeclared old (x ∷ []) → AreLive old r → IsChangedSig new (anew ps u (x ∷ [])) r t = subst (λ (ys : List Real). AreDeclared old ys → AreLive old r → IsChangedSig new (anew ps u ys) r t) one is in
    let second : AreDeclared old (x ∷ []) → AreLive old r → IsChangedSig new (anew [] u (x ∷ [])) r t = subst (λ (qs : List Path). AreDeclared old (x ∷ []) → AreLive old r → IsChangedSig new (anew qs u (x ∷ [])) r t) none first in
    let third : AreDeclared old (x ∷ []) → AreLive old s → IsChangedSig new (anew [] u (x ∷ [])) s t = subst (λ (y : Sig). AreDeclared old (x ∷ []) → AreLive old y → IsChangedSig new (anew [] u (x ∷ [])) y t) same second in
    subst (λ (o : Option Path). IfSome o (λ p. IsDeclared old x.root.0 x.arity → AreLive old s → IsChangedSig new (λ V. realised (only p (declared x.arity (V x.root.0)))) s t)) has
    (λ reals live. subst (λ (p : Path). IsChangedSig new (λ V. realised (only p (declared x.arity (V x.root.0)))) s t) origin (third (one_declared old x reals) live))
