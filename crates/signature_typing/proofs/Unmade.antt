-- A signature that makes no origins stays the same where it is made anew.
use Rattle.std.proofs.Common.{◌≡◌, ℕ, List, [], ◌∷◌, map, Option, Some, None, option_map, refl, ap}
use Rattle.type_model.specs.Types.{Path, Typ, Typs, Var, Arrow, Tuple, Con, Nil, Cons}
use Rattle.type_model.specs.Schemes.{Scheme}
use Rattle.signature_model.specs.Declarations.{Definition, Own, Is, Constructor, Label, Shape, Opaque, Variant, Labels, Declaration}
use Rattle.signature_model.specs.Signatures.{Signature, Hole, Structure, Functor, Components, Done, Component, Meaning, Value, TypeName, Exception, Module, ModuleType, template}
use Rattle.signature_model.specs.Changes.{change, change_all, change_scheme, change_constructor, change_label, change_shape, change_definition, change_declaration, change_signature, change_components, change_meaning, in_front}
use Rattle.signature_model.specs.Templates.{made_at, origins_at}

mutual
  type_same : (u : ℕ) (t : Typ) → change (in_front [] u) t ≡ t
  type_same u (Var v) = refl
  type_same u (Arrow a b) = let x = type_same u a in let y = type_same u b in (λ i. Arrow (x i) (y i))
  type_same u (Tuple ts) = ap Tuple (types_same u ts)
  type_same u (Con o ts) = ap (Con o) (types_same u ts)

  types_same : (u : ℕ) (ts : Typs) → change_all (in_front [] u) ts ≡ ts
  types_same u Nil = refl
  types_same u (Cons t ts) = let x = type_same u t in let y = types_same u ts in (λ i. Cons (x i) (y i))

-- what changes no element changes no list
map_same : {A : Type 0} (f : A → A) → ((x : A) → f x ≡ x) → (xs : List A) → map f xs ≡ xs
map_same f each [] = refl
map_same f each (x ∷ xs) = let y = each x in let ys = map_same f each xs in (λ i. y i ∷ ys i)

option_same : (u : ℕ) (o : Option Typ) → option_map (change (in_front [] u)) o ≡ o
option_same u None = refl
option_same u (Some t) = ap Some (type_same u t)

scheme_same : (u : ℕ) (s : Scheme) → change_scheme (in_front [] u) s ≡ s
scheme_same u s = let x = type_same u s.body in (λ i. record s { body = x i })

constructor_same : (u : ℕ) (k : Constructor) → change_constructor (in_front [] u) k ≡ k
constructor_same u k = let x = option_same u k.argument in (λ i. record k { argument = x i })

label_same : (u : ℕ) (l : Label) → change_label (in_front [] u) l ≡ l
label_same u l = let x = type_same u l.body in (λ i. record l { body = x i })

shape_same : (u : ℕ) (z : Shape) → change_shape (in_front [] u) z ≡ z
shape_same u Opaque = refl
shape_same u (Variant ks) = ap Variant (map_same (change_constructor (in_front [] u)) (constructor_same u) ks)
shape_same u (Labels ls) = ap Labels (map_same (change_label (in_front [] u)) (label_same u) ls)

definition_same : (u : ℕ) (d : Definition) → change_definition (in_front [] u) d ≡ d
definition_same u (Own o) = refl
definition_same u (Is t) = ap Is (type_same u t)

declaration_same : (u : ℕ) (d : Declaration) → change_declaration (in_front [] u) d ≡ d
declaration_same u d = let x = definition_same u d.definition in let y = shape_same u d.shape in (λ i. record { arity = d.arity; definition = x i; shape = y i })

paths_same : (u : ℕ) (os : List Path) → map (in_front [] u).path os ≡ os
paths_same u os = map_same (in_front [] u).path (λ o. refl) os

mutual
  signature_same : (u : ℕ) (s : Signature) → change_signature (in_front [] u) s ≡ s
  signature_same u Hole = refl
  signature_same u (Structure cs) = ap Structure (components_same u cs)
  signature_same u (Functor pm p bm b) =
      let x = paths_same u pm in let y = signature_same u p in let z = paths_same u bm in let w = signature_same u b in (λ i. Functor (x i) (y i) (z i) (w i))

  components_same : (u : ℕ) (cs : Components) → change_components (in_front [] u) cs ≡ cs
  components_same u Done = refl
  components_same u (Component n at m cs) = let x = meaning_same u m in let y = components_same u cs in (λ i. Component n at (x i) (y i))

  meaning_same : (u : ℕ) (m : Meaning) → change_meaning (in_front [] u) m ≡ m
  meaning_same u (Value s) = ap Value (scheme_same u s)
  meaning_same u (TypeName d) = ap TypeName (declaration_same u d)
  meaning_same u (Exception o) = ap Exception (option_same u o)
  meaning_same u (Module s) = ap Module (signature_same u s)
  meaning_same u (ModuleType made s) = let x = paths_same u made in let y = signature_same u s in (λ i. ModuleType (x i) (y i))

-- So the signature of a template that makes nothing is itself, at each node, and nothing is made there.
pub made_nothing : (s : Signature) (u : ℕ) → made_at (template [] s) u ≡ s
made_nothing s u = signature_same u s

pub origins_nothing : (u : ℕ) → origins_at [] u ≡ []
origins_nothing u = refl
