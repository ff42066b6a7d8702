-- The first hidden name in a list of outermost parts.
use Rattle.std.proofs.Common.{◌≡◌, Bool, true, false, List, [], ◌∷◌, ◌++◌, flat_map, Option, Some, None, is_some, refl, ap, ◌∙◌}
use Rattle.std.specs.Prelude.{if◌then◌else◌}
use Rattle.signature_model.specs.Declarations.{Name}
use Rattle.type_alternatives.specs.Alternatives.{Named, Outermost}
use Rattle.type_alternatives.specs.Templates.{first_hidden, named_in, hidden_among}

-- the first of two that is there
abbrev or_else : Option Name → Option Name → Option Name
or_else None r = r
or_else (Some n) r = Some n

-- a choice before another
if_or : (b : Bool) (f g : Option Name) (n : Name) → (if b then or_else f g else Some n) ≡ or_else (if b then f else Some n) g
if_or true f g n = refl
if_or false f g n = refl

-- the first hidden name of names and others
hidden_append : (ns ms : List Named) → first_hidden (ns ++ ms) ≡ or_else (first_hidden ns) (first_hidden ms)
hidden_append [] ms = refl
hidden_append (n ∷ ns) ms = ap (λ r. if is_some n.path then r else Some n.name) (hidden_append ns ms) ∙ if_or (is_some n.path) (first_hidden ns) (first_hidden ms) n.name

-- where the first part has a hidden name, it is that
pub hidden_here : (o : Outermost) (os : List Outermost) (n : Name) → first_hidden (named_in o) ≡ Some n → hidden_among (o ∷ os) ≡ Some n
hidden_here o os n h = hidden_append (named_in o) (flat_map named_in os) ∙ ap (λ r. or_else r (hidden_among os)) h

-- where it has none, it is that of the others
pub hidden_later : (o : Outermost) (os : List Outermost) → first_hidden (named_in o) ≡ None → hidden_among (o ∷ os) ≡ hidden_among os
hidden_later o os h = hidden_append (named_in o) (flat_map named_in os) ∙ ap (λ r. or_else r (hidden_among os)) h
