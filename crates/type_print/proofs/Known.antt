-- Origins that were named.
use Rattle.std.proofs.Common.{◌≡◌, inl, inr, ℕ, ◌+◌, ◌<◌, Bool, true, false, List, [], ◌∷◌, ◌++◌, length, drop, get_or, Some, refl, sym, ◌∙◌, ap, subst}
use Rattle.std.specs.Str.{bytes_eq}
use Rattle.std.proofs.lemmas.List.{drop_more}
use Rattle.std.proofs.lemmas.Slice.Eq.{bytes_eq-Decides}
use Rattle.text_terms.specs.Bytes.{str_bytes}
use Rattle.type_model.specs.Types.{Path}
use Rattle.signature_model.specs.Declarations.{Name}
use Rattle.type_nodes.specs.Nodes.{Node, Con}
use Rattle.type_nodes.specs.Links.{reading}
use Rattle.env_table.specs.declared.entries.Entry.{Entry}
use Rattle.type_print.specs.declared.printing.Known.{Known}
use Rattle.type_print.specs.Paths.{name_in}
use Rattle.type_print.specs.Texts.{KnownAre, AreKnown, IsFound, IsDeclared, IsLast, is_known}
use Rattle.type_print.proofs.Ranks.{tells}

-- of origins with one more, the first ones have their names, and the last one has
known_front : (f : Path → List ℕ) (ks : List Known) (k : Known) → KnownAre f (ks ++ k ∷ []) → KnownAre f ks × (str_bytes k.name ≡ f k.path.items)
known_front f [] k all = (tt, all.0)
known_front f (j ∷ ks) k all = let front = known_front f ks k all.1 in ((all.0, front.0), front.1)

pub known_here : (f : Path → List ℕ) (ks : List Known) (i : ℕ) (k : Known) → i < length ks → k ≡ get_or ks i k → KnownAre f (drop i ks) → str_bytes k.name ≡ f k.path.items
known_here f ks i k h is all = let e : drop i ks ≡ (get_or ks i k ∷ drop (i + 1) ks) = drop_more ks i k h in let here = rw (e, ← is) at all in here.0

pub known_later : (f : Path → List ℕ) (ks : List Known) (i : ℕ) (k : Known) → i < length ks → KnownAre f (drop i ks) → KnownAre f (drop (i + 1) ks)
known_later f ks i k h all = let e : drop i ks ≡ (get_or ks i k ∷ drop (i + 1) ks) = drop_more ks i k h in let here = rw e at all in here.1

-- two paths that aren't the same aren't in the other order
other_order : (p q : Path) → bytes_eq p q ≡ false → bytes_eq q p ≡ false
other_order p q h = elim (tells (bytes_eq q p)) [
  | inl same ↦ let bad : bytes_eq p q ≡ true = (bytes_eq-Decides p q).1 (sym ((bytes_eq-Decides q p).0 same)) in absurd (cc)
  | inr other ↦ other
]

-- an origin that isn't named is another than the first that is, and not among the others
not_known : (o : Path) (j : Known) (ks : List Known) → is_known o (j ∷ ks) ≡ false → (bytes_eq j.path.items o ≡ false) × (is_known o ks ≡ false)
not_known o j ks h = elim (tells (bytes_eq j.path.items o)) [
  | inl same ↦ let bad : true ≡ false = rw same at h in absurd (cc)
  | inr other ↦ (other, rw other at h)
]

-- nor is it named when another is
still_unknown : (o : Path) (ks : List Known) (k : Known) → is_known o ks ≡ false → bytes_eq k.path.items o ≡ false → is_known o (ks ++ k ∷ []) ≡ false
still_unknown o [] k none other = rw other refl
still_unknown o (j ∷ ks) k none other = let apart = not_known o j ks none in rw apart.0 (still_unknown o ks k apart.1 other)

-- an origin that none so far has is named later or never
pub known_skip : (o : Path) (ks : List Known) (i : ℕ) (k : Known) → i < length ks → k ≡ get_or ks i k → bytes_eq k.path.items o ≡ false → is_known o (drop i ks) ≡ is_known o (drop (i + 1) ks)
known_skip o ks i k h is other = let e : drop i ks ≡ (get_or ks i k ∷ drop (i + 1) ks) = drop_more ks i k h in rw (e, ← is, other) refl

-- origins that were named once are still when one more is
known_more : (nodes : List Node) (env : List Entry) (ks : List Known) (k : Known) → AreKnown nodes env ks → IsFound nodes env k → is_known k.path.items ks ≡ false → AreKnown nodes env (ks ++ k ∷ [])
known_more nodes env [] k all found none = (found, refl, tt)
known_more nodes env (j ∷ ks) k all found none =
    let apart = not_known k.path.items j ks none in
    (all.0, still_unknown j.path.items ks k all.1 (other_order j.path.items k.path.items apart.0), known_more nodes env ks k all.2 found apart.1)

-- when one more is named as the search names it, origins are still named once
pub named_last : (nodes : List Node) (env : List Entry) (o : Path) (name : Name) (said : List ℕ) (old new : List Known) → IsDeclared nodes o name → said ≡ name_in env o name → IsLast o said old new → is_known o old ≡ false → AreKnown nodes env old → AreKnown nodes env new
named_last nodes env o name said old new is found last none all =
    let k = last.one in
    let one : IsFound nodes env k = record {
      name = name;
      declares = subst (λ p. IsDeclared nodes p name) (sym last.path) is;
      found = last.spelled ∙ (found ∙ ap (λ (p : Path). name_in env p name) (sym last.path));
    } in
    subst (AreKnown nodes env) (sym last.last) (known_more nodes env old k all one (subst (λ p. is_known p old ≡ false) (sym last.path) none))

-- names that agree with all origins agree with those before the last one, and with that
pub last_front : (f : Path → List ℕ) (o : Path) (said : List ℕ) (old new : List Known) → IsLast o said old new → KnownAre f new → KnownAre f old × (said ≡ f o)
last_front f o said old new last all =
    let front = known_front f old last.one (subst (KnownAre f) last.last all) in
    (front.0, sym last.spelled ∙ (front.1 ∙ ap f last.path))

-- names of origins that agree with all nodes agree with those that were named
pub known_so : (nodes : List Node) (env : List Entry) (f : Path → List ℕ) → ((n : ℕ) (p : Path) (name ms : List ℕ) → reading nodes n ≡ Some (Con p name ms) → f p ≡ name_in env p name) → (ks : List Known) → AreKnown nodes env ks → KnownAre f ks
known_so nodes env f agrees [] all = tt
known_so nodes env f agrees (k ∷ ks) all =
    let is = all.0.declares in
    (all.0.found ∙ sym (agrees is.0 k.path.items all.0.name is.1 is.2), known_so nodes env f agrees ks all.2)

-- a name of an origin, by which a node declares it, at least where this is wanted
abbrev pub Choice : List Node → Bool → Path → Type 0
Choice nodes wanted o = (name : Name) × (wanted ≡ true → IsDeclared nodes o name)

-- the name by which the first one was found, if the origin is that, and else another
chosen : (nodes : List Node) (env : List Entry) (wanted : Bool) (o : Path) (k : Known) → IsFound nodes env k → (b : Bool) → (b ≡ true → k.path.items ≡ o) → Choice nodes wanted o → Choice nodes wanted o
chosen nodes env wanted o k found true same later = (found.name, λ i. subst (λ p. IsDeclared nodes p found.name) (same refl) found.declares)
chosen nodes env wanted o k found false same later = later

-- it is the first one's
chosen_here : (nodes : List Node) (env : List Entry) (wanted : Bool) (o : Path) (k : Known) (found : IsFound nodes env k) (b : Bool) (same : b ≡ true → k.path.items ≡ o) (later : Choice nodes wanted o) → b ≡ true → (chosen nodes env wanted o k found b same later).0 ≡ found.name
unfolding chosen
chosen_here nodes env wanted o k found true same later h = refl
chosen_here nodes env wanted o k found false same later h = absurd (cc)

-- it is the other
chosen_later : (nodes : List Node) (env : List Entry) (wanted : Bool) (o : Path) (k : Known) (found : IsFound nodes env k) (b : Bool) (same : b ≡ true → k.path.items ≡ o) (later : Choice nodes wanted o) → b ≡ false → (chosen nodes env wanted o k found b same later).0 ≡ later.0
unfolding chosen
chosen_later nodes env wanted o k found true same later h = absurd (cc)
chosen_later nodes env wanted o k found false same later h = refl

-- some name for each origin, of a node where it is wanted
any_choice : (nodes : List Node) (wanted : Bool) (o : Path) → (wanted ≡ true → (name : Name) × IsDeclared nodes o name) → Choice nodes wanted o
any_choice nodes true o each = let it = each refl in (it.0, λ i. it.1)
any_choice nodes false o each = ([], λ i. absurd (cc))

-- one name for each origin: that by which it was found if it was named, and else some
pub choice : (nodes : List Node) (env : List Entry) (wanted : Path → Bool) → ((o : Path) → wanted o ≡ true → (name : Name) × IsDeclared nodes o name) → (ks : List Known) → AreKnown nodes env ks → (o : Path) → Choice nodes (wanted o) o
choice nodes env wanted each [] all o = any_choice nodes (wanted o) o (each o)
choice nodes env wanted each (k ∷ ks) all o = chosen nodes env (wanted o) o k all.0 (bytes_eq k.path.items o) (bytes_eq-Decides k.path.items o).0 (choice nodes env wanted each ks all.2 o)

-- two ways to name origins that agree on all but one give the same names to origins that aren't that one
known_apart : (f g : Path → List ℕ) (p : Path) (ks : List Known) → is_known p ks ≡ false → ((o : Path) → bytes_eq p o ≡ false → g o ≡ f o) → KnownAre f ks → KnownAre g ks
known_apart f g p [] none same all = tt
known_apart f g p (k ∷ ks) none same all =
    let apart = not_known p k ks none in
    (all.0 ∙ sym (same k.path.items (other_order k.path.items p apart.0)), known_apart f g p ks apart.1 same all.1)

-- with these names the search names origins as they were named
pub choice_known : (nodes : List Node) (env : List Entry) (wanted : Path → Bool) (each : (o : Path) → wanted o ≡ true → (name : Name) × IsDeclared nodes o name) (ks : List Known) (all : AreKnown nodes env ks) →
    KnownAre (λ o. name_in env o (choice nodes env wanted each ks all o).0) ks
unfolding choice
choice_known nodes env wanted each [] all = tt
choice_known nodes env wanted each (k ∷ ks) all =
    let p = k.path.items in
    let later = choice nodes env wanted each ks all.2 in
    let here = chosen_here nodes env (wanted p) p k all.0 (bytes_eq p p) (bytes_eq-Decides p p).0 (later p) ((bytes_eq-Decides p p).1 refl) in (
      all.0.found ∙ ap (name_in env p) (sym here),
      known_apart (λ o. name_in env o (later o).0) (λ o. name_in env o (choice nodes env wanted each (k ∷ ks) all o).0) p ks all.1
          (λ o other. ap (name_in env o) (chosen_later nodes env (wanted o) o k all.0 (bytes_eq p o) (bytes_eq-Decides p o).0 (later o) other)) (choice_known nodes env wanted each ks all.2),
    )
