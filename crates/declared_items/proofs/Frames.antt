-- A declaration starts from a state between items: its frame, its first assignment, and what is known there.
use Rattle.std.proofs.Common.{◌≡◌, ◌∙◌, ℕ, zero, ◌<◌, true, false, List, [], ◌∷◌, length, refl, sym, ap}
use Rattle.std.specs.Prelude.{slice_get, Some}
use Rattle.type_model.specs.Types.{occurs}
use Rattle.signature_model.specs.Entries.{Environment}
use Rattle.typing_laws.proofs.Bools.{no_yes}
use Rattle.typing_model.specs.BuiltIns.{exn_type}
use Rattle.typing_model.specs.Contexts.{Choice}
use Rattle.type_nodes.specs.Readings.{Types}
use Rattle.env_table.specs.declared.entries.Entry.{Entry}
use Rattle.typing_state.specs.declared.parts.Parts.{Parts}
use Rattle.typing_conditions.specs.Locals.{IsOwn}
use Rattle.typing_conditions.specs.Sights.{Letters}
use Rattle.typing_conditions.specs.Frames.{Frame}
use Rattle.typing_conditions.proofs.Own.{own_of}
use Rattle.typing_steps.specs.Constants.{HasConstants}
use Rattle.typing_steps.specs.States.{sight}
use Rattle.typing_steps.specs.Typing.{as_declared}
use Rattle.typing_rows.specs.Settled.{Before, among}
use Rattle.typing_rows.proofs.Surrounding.{known_by}
use Rattle.declared_rows.specs.Assignments.{Assignment, Assigns, Denotes, IsDeclaring}
use Rattle.declared_rows.specs.Contracts.{KnowsTypes, Inside}
use Rattle.declared_rows.proofs.Starting.{declaring_frame, first_assigns, knows_types, declaring}
use Rattle.binding_rows.specs.Outside.{Outside}
use Rattle.decl_typing.specs.Denoting.{raised}

module _ (a : Parts) {G : Letters} {env : List Entry} {E : Choice → Environment} (at : Outside as_declared (sight a) G env E) (constants : HasConstants a) where
  -- the nodes' own types
  abbrev pub own_types : Types
  own_types = (own_of a.store.nodes at.sound).0

  pub own_at : IsOwn a.store.nodes own_types
  own_at = (own_of a.store.nodes at.sound).1

  -- the node of the type of exceptions
  abbrev pub exn_node : ℕ
  exn_node = a.constants.exn.0

  pub exn_inside : exn_node < length a.store.nodes
  exn_inside = constants.exn.inside

  pub exn_is : own_types exn_node ≡ exn_type
  exn_is = constants.exn.is own_types own_at.loose

  pub exn_closed : (v : ℕ) → occurs v (own_types exn_node) ≡ true → ⊥
  exn_closed v o = let e : false ≡ true = sym (ap (occurs v) exn_is) ∙ o in absurd (no_yes e)

  roots_inside : (k r : ℕ) → slice_get at.roots k ≡ Some r → r < length a.store.nodes
  roots_inside = (at.context own_types own_at).inside

  -- the frame of the declaration
  abbrev pub item_frame : Frame
  item_frame = declaring_frame (sight a) own_types at.roots exn_node

  pub frame_declares : IsDeclaring item_frame
  frame_declares = declaring (sight a) own_types own_at at.roots roots_inside exn_node exn_inside exn_closed

  -- its first assignment
  abbrev pub starts : Assignment
  starts = record { types = own_types; nodes = exn_node ∷ []; older = at.older }

  pub starts_assigned : Assigns item_frame 0 at.older (sight (raised a)) starts
  starts_assigned = first_assigns (sight a) own_types own_at at.roots roots_inside exn_node exn_inside exn_closed at.older (sight (raised a)) refl refl at.sound

  -- the names of before, by their types
  abbrev pub names_before : List (List ℕ) → Before
  names_before names = among env (known_by at.names own_types) names

  pub types_known : KnowsTypes item_frame (known_by at.names own_types) env
  types_known = knows_types (sight a) own_types own_at at.roots roots_inside exn_node exn_inside exn_closed at.names at.covered.1

  -- without parameters
  pub inside_none : Inside item_frame 0 at.older (raised a) starts (known_by at.names own_types) env []
  inside_none = record { assigns = starts_assigned; types = types_known; parameters = λ k p e. absurd (cc) }

  pub exn_denotes : Denotes starts exn_node exn_type
  exn_denotes = record { known = (zero, refl); is = exn_is }
