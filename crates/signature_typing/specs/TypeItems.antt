-- What an item `type d` of one type of its own gives in a structure or signature (OCaml manual, 11.10).
use Rattle.std.specs.Prelude.{◌≡◌, ℕ, true, List, [], ◌∷◌, Some}
use Rattle.token_model.specs.Kinds.{Tok}
use Rattle.tree_model.specs.Trees.{Tree}
use Rattle.signature_model.specs.Entries.{Environment}
use Rattle.typing_model.specs.Contexts.{Choice}
use Rattle.typing_model.specs.Parts.{Seen, no_names, seen_too}
use Rattle.syntax_tree.specs.declared.Token.{Token}
use Rattle.row_parts.specs.Numbered.{with_token}
use Rattle.env_table.specs.declared.entries.Kind.TheVariants as kind
use Rattle.typing_state.specs.declared.parts.Parts.{Parts}
use Rattle.typing_conditions.specs.Sights.{Letters}
use Rattle.typing_steps.specs.Constants.{HasConstants}
use Rattle.typing_steps.specs.States.{is_aloud, sight}
use Rattle.typing_steps.specs.Typing.{as_declared}
use Rattle.typing_rows.specs.Noted.{AreNoted}
use Rattle.binding_rows.specs.Outside.{Outside}
use Rattle.decl_groups.specs.Written.{Declaration}
use Rattle.declared_items.specs.Adding.{ItemAdded}
use Rattle.declared_items.specs.Items.{recorded_type}
use Rattle.declared_items.specs.Written.{IsOwnTypeNode}
use Rattle.module_steps.specs.declared.scenes.Scene.{Scene}
use Rattle.module_steps.specs.Scenes.{AsksNew}
use Rattle.signature_typing.specs.Specifications.{HasSeen}

-- the names of declarations that are written, in order
abbrev pub names_written : List Declaration → List Tok
names_written [] = []
names_written (d ∷ ds) = with_token d.name (names_written ds)

-- Of each of some names of types it is asked in order that it is new.
pub data AsksEach : List Token → (old new : Scene) → (at at' : Parts) → Type 0 where
  none_asked : {s : Scene} {a : Parts} → AsksEach [] s s a a
  one_asked : {t : Token} {ts : List Token} {s r q : Scene} {a b c : Parts} → AsksNew (Some t) kind.TypeName s r a b → AsksEach ts r q b c → AsksEach (t ∷ ts) s q a c

-- One type of its own is an item that is done, which adds the same names whatever is chosen, and its own name stands after it.
pub record TypeGiven (E : Choice → Environment) (a d : Parts) (G : Letters) (seen : Seen) (n : ℕ) (t : Tree) (x : IsOwnTypeNode n t) (new : Scene) : Type 0 where
  pub added : ItemAdded E (recorded_type a.item n x.operand.number x.declaration) seen (record no_names { types = x.is.name.name ∷ [] }) a d G new.env
  pub standing : HasSeen new (seen_too seen (record no_names { types = x.is.name.name ∷ [] }))

-- What a call gives for such an item, where faults are reported.
abbrev pub GivesType : (a d : Parts) → (old new : Scene) → (n : ℕ) → Tree → Type 0
GivesType a d old new n t =
    (G : Letters) (E : Choice → Environment) (seen : Seen) (x : IsOwnTypeNode n t) → is_aloud a.telling ≡ true → (at : Outside as_declared (sight a) G old.env E) → HasConstants a → AreNoted at.older a → HasSeen old seen → TypeGiven E a d G seen n t x new
