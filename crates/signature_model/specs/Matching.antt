-- Matching: what a wanted signature's origins are realised by, and when an actual signature meets it (OCaml manual, 11.10; Leroy 1994).
use Rattle.std.specs.Prelude.{◌≡◌, ℕ, suc, ◌+◌, ◌-◌, ◌^◌, ◌<◌, Bool, true, false, ◌&&◌, List, [], ◌∷◌, ◌++◌, Option, Some, None, if◌then◌else◌}
use Rattle.std.specs.Option.{option_or}
use Rattle.type_model.specs.Types.{Path, Typ, Typs, Var, Arrow, Tuple, Con, Nil, Cons, occurs}
use Rattle.type_model.specs.Substitutions.{Subst}
use Rattle.type_model.specs.Schemes.{Scheme, HasInstance}
use Rattle.type_model.specs.Origins.{same_path}
use Rattle.signature_model.specs.Declarations.{Name, Definition, Own, Is, Constructor, Label, Shape, Opaque, Variant, Labels, Declaration, type_of, unknown}
use Rattle.signature_model.specs.Signatures.{Signature, Hole, Structure, Functor, Components, Done, Component, Meaning, Value, TypeName, Exception, Module, ModuleType, Template, template, components_of}
use Rattle.signature_model.specs.Changes.{among, Change, change, change_scheme, change_signature, in_front, Realisation, realised}
use Rattle.signature_model.specs.Owners.{owner_among}
use Rattle.signature_model.specs.Components.{newest, as_value, as_type, as_exception, as_module, as_module_type}

-- whether a path is that of an unknown type
abbrev pub is_unknown : Path → Bool
is_unknown [] = false
is_unknown (k ∷ o) = same_path (k ∷ []) ((2 ^ 64 + 1) ∷ [])

-- a type as it is used: types in place of its variables and of the unknown ones in it
abbrev mutual
  pub used : Subst → (Path → Typ) → Typ → Typ
  used s f (Var v) = s v
  used s f (Arrow a b) = Arrow (used s f a) (used s f b)
  used s f (Tuple ts) = Tuple (all_used s f ts)
  used s f (Con o ts) = if is_unknown o then f o else Con o (all_used s f ts)

  -- each of several types as it is used
  pub all_used : Subst → (Path → Typ) → Typs → Typs
  all_used s f Nil = Nil
  all_used s f (Cons t ts) = Cons (used s f t) (all_used s f ts)

-- no unknown type stands in a type
abbrev mutual
  pub IsKnown : Typ → Type 0
  IsKnown (Var v) = Unit {0}
  IsKnown (Arrow a b) = IsKnown a × IsKnown b
  IsKnown (Tuple ts) = AreKnown ts
  IsKnown (Con o ts) = (is_unknown o ≡ false) × AreKnown ts

  -- no unknown type stands in any of several types
  pub AreKnown : Typs → Type 0
  AreKnown Nil = Unit {0}
  AreKnown (Cons t ts) = IsKnown t × AreKnown ts

-- types for the unknown ones
abbrev pub filling : (Path → Typ) → Change
filling f = realised (λ o. if is_unknown o then Some (f o) else None)

-- each unknown type becomes one of the origin o's own
abbrev pub renewed : Path → Typ → Typ
renewed o = change (record { path = λ p. if is_unknown p then p ++ o else p; real = λ p. None })

-- what an origin that the wanted signature makes becomes, where its component has this actual declaration
abbrev pub given : List Path → Path → Path → Option Declaration → Option Typ
given made o p None = None
given made o p (Some d) = if same_path p o && among p made then Some (renewed o (type_of d)) else None

-- the same by what the wanted component stands for: another type makes no origin
abbrev pub given_to : List Path → Path → Definition → Option Declaration → Option Typ
given_to made o (Own p) actual = given made o p actual
given_to made o (Is t) actual = None

-- the components of a module that may be absent
abbrev pub components_in : Option Signature → Components
components_in None = Done
components_in (Some s) = components_of s

-- whether a module that may be absent is one that isn't known
abbrev pub is_hole : Option Signature → Bool
is_hole None = false
is_hole (Some Hole) = true
is_hole (Some (Structure cs)) = false
is_hole (Some (Functor pm p bm b)) = false

-- the unknown type of an origin that these wanted components make
abbrev pub unknown_in : List Path → Path → Components → Option Typ
unknown_in made o W = elim (owner_among o W) [ None ↦ None | Some d ↦ if among o made then Some (unknown o) else None ]

-- the type of the newest actual component of the name of the first wanted type that makes an origin; where its module isn't known, an unknown type
abbrev mutual
  pub real_in_signature : List Path → Path → Option Signature → Signature → Option Typ
  real_in_signature made o A Hole = None
  real_in_signature made o A (Structure W) = if is_hole A then unknown_in made o W else real_in made o (components_in A) W
  real_in_signature made o A (Functor pm p bm b) = None

  -- the same where the wanted origin is made among components
  pub real_in : List Path → Path → Components → Components → Option Typ
  real_in made o A Done = None
  real_in made o A (Component n at m W) = option_or (real_by made o A n m) (real_in made o A W)

  -- the same where it is made by a component of this name
  pub real_by : List Path → Path → Components → Name → Meaning → Option Typ
  real_by made o A n (Value s) = None
  real_by made o A n (TypeName d) = given_to made o d.definition (newest as_type n A)
  real_by made o A n (Exception x) = None
  real_by made o A n (Module s) = real_in_signature made o (newest as_module n A) s
  real_by made o A n (ModuleType m s) = None

-- the realisation of a template by a signature: a hole gives unknown types
abbrev pub realisation : Signature → Template → Realisation
realisation Hole t o = if among o t.made then Some (unknown o) else None
realisation (Structure A) t o = real_in_signature t.made o (Some (Structure A)) t.signature
realisation (Functor pm p bm b) t o = None

-- a template's signature with its origins realised
abbrev pub realised_by : Signature → Template → Signature
realised_by A t = change_signature (realised (realisation A t)) t.signature

-- each instance of the wanted scheme is one of the actual scheme, for some choice of the unknown types in both
pub record Covers (actual wanted : Scheme) : Type 0 where
  pub actual_fill : Path → Typ
  pub wanted_fill : Path → Typ
  pub each : (x : Typ) → HasInstance (change_scheme (filling wanted_fill) wanted) x → HasInstance (change_scheme (filling actual_fill) actual) x

-- two types over so many parameters are one, for some choice of the unknown types, in which no parameter stands
pub record IsOne (arity : ℕ) (t u : Typ) : Type 0 where
  pub left : Path → Typ
  pub right : Path → Typ
  pub closed_left : (o : Path) (v : ℕ) → v < arity → occurs v (left o) ≡ false
  pub closed_right : (o : Path) (v : ℕ) → v < arity → occurs v (right o) ≡ false
  pub same : change (filling left) t ≡ change (filling right) u

-- arguments, which may be absent, are one
abbrev pub IsOneArgument : ℕ → Option Typ → Option Typ → Type 0
IsOneArgument arity None None = Unit {0}
IsOneArgument arity (Some t) (Some u) = IsOne arity t u
IsOneArgument arity None (Some u) = ⊥
IsOneArgument arity (Some t) None = ⊥

-- two constructors over so many parameters have one name and one argument
abbrev pub AreOneConstructor : ℕ → Constructor → Constructor → Type 0
AreOneConstructor arity k l = (k.name ≡ l.name) × IsOneArgument arity k.argument l.argument

-- two labels over so many parameters have one name and one type, and both are mutable or neither is
abbrev pub AreOneLabel : ℕ → Label → Label → Type 0
AreOneLabel arity k l = (k.name ≡ l.name) × (k.is_mutable ≡ l.is_mutable) × IsOne arity k.body l.body

-- two lists have members that agree one by one
abbrev pub Agree : {A : Type 0} → (A → A → Type 0) → List A → List A → Type 0
Agree P [] [] = Unit {0}
Agree P (x ∷ xs) (y ∷ ys) = P x y × Agree P xs ys
Agree P [] (y ∷ ys) = ⊥
Agree P (x ∷ xs) [] = ⊥

-- a wanted declaration that tells nothing of its values asks nothing
abbrev pub MeetsShape : ℕ → Shape → Shape → Type 0
MeetsShape arity actual Opaque = Unit {0}
MeetsShape arity (Variant ks) (Variant ls) = Agree (AreOneConstructor arity) ks ls
MeetsShape arity (Labels ks) (Labels ls) = Agree (AreOneLabel arity) ks ls
MeetsShape arity Opaque (Variant ls) = ⊥
MeetsShape arity Opaque (Labels ls) = ⊥
MeetsShape arity (Variant ks) (Labels ls) = ⊥
MeetsShape arity (Labels ks) (Variant ls) = ⊥

-- an actual declaration meets a wanted one whose origins are realised
pub record MeetsDeclaration (actual wanted : Declaration) : Type 0 where
  pub arity : actual.arity ≡ wanted.arity
  pub same : IsOne wanted.arity (type_of actual) (type_of wanted)
  pub shape : MeetsShape wanted.arity actual.shape wanted.shape

-- a number that no node has, for the origins of a wanted parameter that k functors stand round
abbrev pub new_number : ℕ → ℕ
new_number k = 2 ^ 63 - 2 ^ 32 + k

-- the wanted parameter with new origins of its own, and the wanted body for it
abbrev pub renewed_for : ℕ → List Path → Signature → Signature
renewed_for k made = change_signature (in_front made (new_number k))

-- a functor's body for an argument
abbrev pub body_for : Signature → Template → Signature → Signature
body_for A parameter B = change_signature (realised (realisation A parameter)) B

-- an actual signature meets a wanted one whose origins are realised; k functors stand round it
mutual
  pub data Meets : ℕ → Signature → Signature → Type 0 where
    from_hole : {k : ℕ} {W : Signature} → Meets k Hole W
    to_hole : {k : ℕ} {A : Signature} → Meets k A Hole
    structures : {k : ℕ} {A W : Components} → MeetsAll k A W → Meets k (Structure A) (Structure W)
    functors : {k : ℕ} {pm bm wm vm : List Path} {P B Q C : Signature} →
        Matches (suc k) (renewed_for k wm Q) pm P →
        Matches (suc k) (body_for (renewed_for k wm Q) (template pm P) B) vm (renewed_for k wm C) →
        Meets k (Functor pm P bm B) (Functor wm Q vm C)

  -- the same where the wanted signature makes origins, which are realised first
  pub data Matches : ℕ → Signature → List Path → Signature → Type 0 where
    matches : {k : ℕ} {A W : Signature} {made : List Path} → Meets k A (realised_by A (template made W)) → Matches k A made W

  -- each wanted component is met by the newest actual one of its kind and name
  pub data MeetsAll : ℕ → Components → Components → Type 0 where
    done : {k : ℕ} {A : Components} → MeetsAll k A Done
    value : {k : ℕ} {A W : Components} {n : Name} {at : _} {s : Scheme} (a : Scheme) →
        newest as_value n A ≡ Some a → Covers a s → MeetsAll k A W → MeetsAll k A (Component n at (Value s) W)
    type_name : {k : ℕ} {A W : Components} {n : Name} {at : _} {d : Declaration} (a : Declaration) →
        newest as_type n A ≡ Some a → MeetsDeclaration a d → MeetsAll k A W → MeetsAll k A (Component n at (TypeName d) W)
    exception : {k : ℕ} {A W : Components} {n : Name} {at : _} {x : Option Typ} (a : Option Typ) →
        newest as_exception n A ≡ Some a → IsOneArgument 0 a x → MeetsAll k A W → MeetsAll k A (Component n at (Exception x) W)
    «module» : {k : ℕ} {A W : Components} {n : Name} {at : _} {s : Signature} (a : Signature) →
        newest as_module n A ≡ Some a → Meets k a s → MeetsAll k A W → MeetsAll k A (Component n at (Module s) W)
    module_type : {k : ℕ} {A W : Components} {n : Name} {at : _} {made : List Path} {s : Signature} (a : Template) →
        newest as_module_type n A ≡ Some a → Matches k a.signature made s → Matches k s a.made a.signature → MeetsAll k A W → MeetsAll k A (Component n at (ModuleType made s) W)
