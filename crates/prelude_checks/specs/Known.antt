-- What is known of the prelude's items by computation, and what its typing gives.
use Rattle.std.specs.Prelude.{◌≡◌, ℕ, true, List, [], None}
use Rattle.token_model.specs.Kinds.{Tok}
use Rattle.grammar_model.specs.Named.{named, items_of}
use Rattle.grammar_model.specs.Ocaml.{interface_text, grammar, row_name}
use Rattle.recovery_model.specs.Recovery.{recover}
use Rattle.signature_model.specs.Entries.{Environment}
use Rattle.typing_model.specs.BuiltIns.{built_in_names}
use Rattle.typing_model.specs.Contexts.{Choice, Context}
use Rattle.typing_model.specs.Demands.{AllHold}
use Rattle.typing_model.specs.First.{every_site, prelude_items, behind_prelude, IsFirst}
use Rattle.typing_model.specs.Items.{items_ask}
use Rattle.typing_model.specs.Parts.{no_names}
use Rattle.typing_model.specs.Typings.{outermost}
use Rattle.row_parts.specs.Numbered.{Numbered}
use Rattle.env_table.specs.declared.entries.Entry.{Entry}
use Rattle.typing_state.specs.declared.parts.Parts.{Parts}
use Rattle.typing_conditions.specs.Judging.{judgements}
use Rattle.typing_steps.specs.Constants.{HasConstants}
use Rattle.typing_steps.specs.States.{is_aloud, sight}
use Rattle.typing_rows.specs.Noted.{AreNoted}
use Rattle.first_laws.specs.Declaring.{StartsAmong}
use Rattle.signature_typing.specs.Specifications.{specifications_at, specified_from, AreCarriedSpecifications, AreKnownAt, AreSure}

-- the items of a prelude of these tokens, as operands
abbrev pub prelude_operands : List Tok → List Numbered
prelude_operands ts = specified_from 0 (items_of (named row_name (recover (grammar interface_text) ts).0))

-- the context of the first item of a prelude, in a typing that keeps all demands
abbrev pub prelude_context : Choice → Context
prelude_context ch = outermost built_in_names every_site ch

-- A typing of the prelude: its operands are its items, each is one that is carried, no unknown type stands in the types of its values, what it asks holds with every demand kept, and the first environment is what it leaves.
pub record IsPreludeTyped (ts : List Tok) (ch : Choice) : Type 0 where
  pub items : specifications_at 0 (prelude_operands ts) ≡ prelude_items ts
  pub carried : AreCarriedSpecifications (prelude_operands ts)
  pub known : AreKnownAt ch 0 (prelude_operands ts)
  pub holds : AllHold every_site (items_ask (prelude_context ch) no_names (prelude_items ts))
  pub sure : AreSure (judgements every_site (items_ask (prelude_context ch) no_names (prelude_items ts)))
  pub stands : (env : Environment) → IsFirst env → env ≡ behind_prelude ts ch

-- nothing has been typed yet: no type is recorded, nothing was reported, faults are reported, at the lowest level, in the item 0, and the built-in types have their nodes
pub record IsFresh (a : Parts) : Type 0 where
  pub level : a.level ≡ 0
  pub item : a.item ≡ 0
  pub aloud : is_aloud a.telling ≡ true
  pub untyped : (i p : ℕ) → (sight a).types i p ≡ None
  pub quiet : (sight a).reports ≡ []
  pub constants : HasConstants a

-- The next item starts among the names of the first environment, whatever is chosen, of which all that is to be known is, and no letter is open; no type is recorded, and nothing was reported.
pub record StartsFirst (b : Parts) (env : List Entry) (first : Environment) : Type 0 where
  pub older : List ℕ
  pub starts : StartsAmong (sight b) [] env (λ ch. first) older
  pub known : starts.outside.known ≡ true
  pub noted : AreNoted older b
  pub constants : HasConstants b
  pub untyped : (i p : ℕ) → (sight b).types i p ≡ None
  pub quiet : (sight b).reports ≡ []
