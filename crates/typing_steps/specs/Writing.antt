-- What a call does that writes a type variable for the first time in an item.
use Rattle.std.specs.Prelude.{◌≡◌, Some, None}
use Rattle.std.specs.Str.{bytes_eq}
use Rattle.std.specs.Map.{update}
use Rattle.std.specs.HashMap.{get_by_text}
use Rattle.signature_model.specs.Declarations.{Name}
use Rattle.type_terms.specs.declared.types.NodeRef.{NodeRef}
use Rattle.typing_state.specs.declared.parts.Parts.{Parts}

-- a type variable that wasn't written in the item has this node now; the other ones, and all but these and the store, are as before
pub record PutsVariable (old new : Parts) (x : Name) (n : NodeRef) : Type 0 where
  pub none : get_by_text old.written.variables x ≡ None
  pub now : (y : Name) → get_by_text new.written.variables y ≡ update bytes_eq (λ z. get_by_text old.written.variables z) x (Some n) y
  pub index : new.index ≡ old.index
  pub faults : new.faults ≡ old.faults
  pub item : new.item ≡ old.item
  pub level : new.level ≡ old.level
  pub telling : new.telling ≡ old.telling
  pub constants : new.constants ≡ old.constants
