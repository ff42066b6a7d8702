-- Patterns that are of a type, with the constructors that the type has, in a world without oddities.
use Rattle.std.specs.Prelude.{◌≡◌, List, [], ◌∷◌, length, map}
use Rattle.type_model.specs.Types.{Typ}
use Rattle.match_model.specs.Values.{Pattern, Patterns, of_constructor, of_literal, no_patterns, also_pattern}
use Rattle.match_model.specs.Values as model
use Rattle.match_model.specs.Forms.{Built, Form, closed_form, open_form, literals, no_form, World, form_of, constructors_of, IsOne}
use Rattle.pattern_matrix.specs.Lines.{Member, Typed, Typeds, any, con, lit, either, none, also}

-- a pattern as it matches values
abbrev mutual
  pub plain : Typed → Pattern
  plain any = model.any
  plain (con all n ps) = of_constructor n (plains ps)
  plain (lit n) = of_literal n
  plain (either ps) = model.either (plains ps)

  -- patterns as they match values, in order
  pub plains : Typeds → Patterns
  plains none = no_patterns
  plains (also p ps) = also_pattern (plain p) (plains ps)

-- a constructor of the world, with the number of its parts
abbrev pub member : Built → Member
member k = record { name = k.name; parts = length k.parts }

-- all constructors of a type, where patterns can have all of them
abbrev pub members : Form → List Member
members (closed_form ks) = map member ks
members (open_form ks) = []
members literals = []
members no_form = []

-- a pattern is of a type, and knows the constructors of its types
abbrev mutual
  pub IsTyped : World → Typ → Typed → Type 0
  IsTyped w t any = Unit {0}
  IsTyped w t (con all n ps) = (k : Built) × IsOne k (constructors_of (form_of w t)) × (n ≡ k.name) × (all ≡ members (form_of w t)) × AreTyped w k.parts ps
  IsTyped w t (lit n) = form_of w t ≡ literals
  IsTyped w t (either ps) = AreAllTyped w t ps

  -- one of each type
  pub AreTyped : World → List Typ → Typeds → Type 0
  AreTyped w [] none = Unit {0}
  AreTyped w [] (also p ps) = ⊥
  AreTyped w (t ∷ ts) none = ⊥
  AreTyped w (t ∷ ts) (also p ps) = IsTyped w t p × AreTyped w ts ps

  -- all of one type
  pub AreAllTyped : World → Typ → Typeds → Type 0
  AreAllTyped w t none = Unit {0}
  AreAllTyped w t (also p ps) = IsTyped w t p × AreAllTyped w t ps

-- a type's constructors have names of their own, and a type that is told by its constructors has at least one
pub record IsSound (w : World) : Type 0 where
  pub apart : (t : Typ) (k l : Built) → IsOne k (constructors_of (form_of w t)) → IsOne l (constructors_of (form_of w t)) → k.name ≡ l.name → k ≡ l
  pub inhabited : (t : Typ) → form_of w t ≡ closed_form [] → ⊥
