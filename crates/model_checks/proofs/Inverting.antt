-- What a match of signatures gives back.
use Rattle.std.proofs.Common.{◌≡◌, ℕ, List, Option, Some, None, sym, ◌∙◌, subst, ap}
use Rattle.type_model.specs.Types.{Path}
use Rattle.type_model.specs.Schemes.{Scheme}
use Rattle.signature_model.specs.Declarations.{Name, Place, Declaration}
use Rattle.signature_model.specs.Signatures.{Signature, Structure, Components, Component, Value, TypeName, template}
use Rattle.signature_model.specs.Components.{newest, as_value}
use Rattle.signature_model.specs.Matching.{Matches, matches, Meets, structures, MeetsAll, value, type_name, Covers, realised_by}

-- the realised components of a structure that matches are met
pub matched : {k : ℕ} {A W : Signature} {made : List Path} → Matches k A made W → Meets k A (realised_by A (template made W))
matched (matches h) = h

pub structures_met : {k : ℕ} {A W : Components} → Meets k (Structure A) (Structure W) → MeetsAll k A W
structures_met (structures h) = h

-- behind a type, the others are met
pub behind_type : {k : ℕ} {A W : Components} {n : Name} {at : Place} {d : Declaration} → MeetsAll k A (Component n at (TypeName d) W) → MeetsAll k A W
behind_type (type_name a e m rest) = rest

abbrev or_else : Scheme → Option Scheme → Scheme
or_else d None = d
or_else d (Some a) = a

-- the newest value of the name covers a wanted one
pub value_met : {k : ℕ} {A W : Components} {n : Name} {at : Place} {s : Scheme} (a : Scheme) → newest as_value n A ≡ Some a → MeetsAll k A (Component n at (Value s) W) → Covers a s
value_met {s = s} a e (value b f c rest) = subst (λ x. Covers x s) (ap (or_else a) (sym f ∙ e)) c

-- behind a value, the others are met, and the value is found
pub behind_value : {k : ℕ} {A W : Components} {n : Name} {at : Place} {s : Scheme} → MeetsAll k A (Component n at (Value s) W) → MeetsAll k A W
behind_value (value a e c rest) = rest

pub value_found : {k : ℕ} {A W : Components} {n : Name} {at : Place} {s : Scheme} → MeetsAll k A (Component n at (Value s) W) → (a : Scheme) × (newest as_value n A ≡ Some a)
value_found (value a e c rest) = (a, e)
