-- A value of a signature is an item that carries what it asks, where no unknown type stands in its type; and the next item starts among the names of before and its own.
use Rattle.std.proofs.Common.{◌≡◌, ◌∙◌, inl, inr, ℕ, List, [], ◌∷◌, ◌++◌, length, Some, None, refl, sym, ap, subst}
use Rattle.token_model.specs.Kinds.{Tok}
use Rattle.tree_model.specs.Trees.{Tree}
use Rattle.signature_model.specs.Declarations.{in_text}
use Rattle.signature_model.specs.Entries.{Environment, entry, a_value, entries_in}
use Rattle.signature_model.specs.Entries.{Entry as Named}
use Rattle.signature_model.specs.Matching.{IsKnown}
use Rattle.signature_model.specs.Signatures.{Value}
use Rattle.typing_model.specs.Contexts.{Choice, Context, parameters}
use Rattle.typing_model.specs.Modules.{all_bound, component_named, entry_named}
use Rattle.typing_model.specs.Parts.{TypeExpression, Seen, place_of}
use Rattle.env_table.specs.declared.entries.Entry.{Entry}
use Rattle.env_table.specs.Views.{kind_of}
use Rattle.row_parts.specs.Numbered.{token_in}
use Rattle.typing_state.specs.declared.parts.Parts.{Parts}
use Rattle.typing_state.specs.Goes.{Goes}
use Rattle.operand_laws.specs.Operands.{number_of}
use Rattle.type_expressions.specs.Untyped.{Untyped}
use Rattle.typing_conditions.specs.Sights.{Letters}
use Rattle.typing_steps.specs.Constants.{HasConstants}
use Rattle.typing_steps.specs.States.{is_aloud, sight, fixed_of}
use Rattle.typing_steps.specs.Typing.{as_declared}
use Rattle.typing_steps.proofs.Starting.{constants_kept}
use Rattle.typing_rows.specs.Noted.{AreNoted}
use Rattle.binding_rows.proofs.ItemKinds.{still_scoped}
use Rattle.typing_rows.proofs.Noted.{still_noted}
use Rattle.declared_rows.proofs.Continuing.{fits_declared}
use Rattle.binding_rows.specs.ItemRows.{AreDeclared}
use Rattle.binding_rows.specs.Outside.{Outside}
use Rattle.binding_rows.proofs.ItemOrders.{items_treated, treated_owned}
use Rattle.first_laws.specs.Declaring.{OnlyTypes, StartsAfter}
use Rattle.first_laws.proofs.Values.{outside_value}
use Rattle.first_laws.proofs.Whole.{one_denotes, whole_types}
use Rattle.first_laws.proofs.SettledItems.{stands_behind, fixed_met, items_settled, settled_owned}
use Rattle.declared_items.proofs.Frames.{own_types, own_at, exn_node, exn_inside, exn_closed, item_frame, frame_declares, starts, names_before, inside_none}
use Rattle.signature_typing.specs.Values.{variables_of, type_specified, ValueClosed, IsValue, SpecifiesOne, SpecifiesNamed, SpecifiesValue}
use Rattle.signature_typing.specs.ValueItems.{AllValues, recorded_value, ValueAdded, ValueDone, GivesValue}

-- The value is specified from a state between items, by the row t that has the number n in its item.
module _ (a b : Parts) {G : Letters} {env : List Entry} {E : Choice → Environment} (at : Outside as_declared (sight a) G env E) (constants : HasConstants a) (n : ℕ) (t : Tree) (name : Tok) (named : token_in t 1 ≡ Some name) (y : Entry) (r : ℕ) (is : IsValue y name r)
    (z : ValueClosed (names_before a at constants (variables_of t)) (λ c. (type_specified a.item n t).read c) (item_frame a at constants) (length (variables_of t)) a b (starts a at constants) (type_specified a.item n t).node r) (untyped : Untyped a b) (goes : Goes a b) where
  abbrev written : TypeExpression
  written = type_specified a.item n t

  -- its entry in the definitions
  abbrev named_entry : Named
  named_entry = entry name.name (in_text (place_of name)) (a_value (all_bound z.settled.type))

  on_types : OnlyTypes (sight a) (sight b)
  on_types = whole_types (sight b) at (own_types a at constants) (own_at a at constants) (exn_node a at constants) (exn_inside a at constants) (exn_closed a at constants) refl z.to.on (r ∷ []) (one_denotes z.to.on z.settled.type z.to.denotes) z.closes z.plain z.sound z.level
      (record { types = untyped.types; noted = still_noted goes; scopes = still_scoped goes })

  next_starts : IsKnown z.settled.type → StartsAfter at (sight b) G (y ∷ []) (named_entry ∷ []) z.numbers
  next_starts known = outside_value (sight b) at (own_types a at constants) (own_at a at constants) (exn_node a at constants) (exn_inside a at constants) (exn_closed a at constants) refl z.to.on z.settled.type known z.to.denotes z.closes z.plain z.sound z.level (record { types = untyped.types; noted = still_noted goes; scopes = still_scoped goes })
      y named_entry is.cell is.what is.root (sym is.name) (sym (ap kind_of is.kind)) is.placed refl

  -- the entry that it adds
  adds_one : (c : Context) → c.chosen.type_at written.node ≡ z.settled.type → entry_named (token_in t 1) (a_value (all_bound (c.chosen.type_at written.node))) ≡ named_entry ∷ []
  adds_one c e =
      ap (λ o. entry_named o (a_value (all_bound (c.chosen.type_at written.node)))) named
      ∙ ap (λ x. entry name.name (in_text (place_of name)) (a_value (all_bound x)) ∷ []) e

  -- the same of its components
  shows_one : (c : Context) → c.chosen.type_at written.node ≡ z.settled.type → entries_in (component_named (token_in t 1) (Value (all_bound (c.chosen.type_at written.node)))) ≡ named_entry ∷ []
  shows_one c e =
      ap (λ o. entries_in (component_named o (Value (all_bound (c.chosen.type_at written.node))))) named
      ∙ ap (λ x. entry name.name (in_text (place_of name)) (a_value (all_bound x)) ∷ []) e

  declared : (c : Context) → AreDeclared (component_named (token_in t 1) (Value (all_bound (c.chosen.type_at written.node))))
  declared c = subst (λ o. AreDeclared (component_named o (Value (all_bound (c.chosen.type_at written.node))))) (sym named) (λ v. refl)

  -- The value is added.
  value_added : (seen : Seen) → IsKnown z.settled.type → ValueAdded a at (recorded_value a.item n t) seen b (y ∷ env)
  unfolding items_treated items_settled
  value_added seen known =
      let N = number_of a.item n in
      let names = variables_of t in
      let carried = items_settled at on_types (own_types a at constants) (own_at a at constants) names z.settled.settled (λ c. written.read (record c { variables = parameters names })) (λ c. refl) z.settled.reports (ap is_aloud goes.telling) (ap fixed_of goes.constants)
      (λ V fits. fits_declared (frame_declares a at constants) z.to.on.assigns z.closes V fits) N in
      let fixed = fixed_met at on_types (own_types a at constants) (own_at a at constants) names z.settled.settled (λ c. written.read (record c { variables = parameters names })) (λ c. refl) in
      let next = next_starts known in
      record {
        done = record {
          letters = G;
          env = λ ch. named_entry ∷ E ch;
          carried = items_treated N carried;
          clear = λ k placed. absurd k;
          sees = λ k. absurd k;
          stops = λ k. absurd k;
          knows = λ k. absurd k;
          owners = treated_owned N carried (settled_owned at on_types (own_types a at constants) (own_at a at constants) names z.settled.settled (λ c. written.read (record c { variables = parameters names })) (λ c. refl) z.settled.reports (ap is_aloud goes.telling) (ap fixed_of goes.constants)
              (λ V fits. fits_declared (frame_declares a at constants) z.to.on.assigns z.closes V fits) N (recorded_value a.item n t) declared);
          outside = next.outside;
          noted = subst (λ U. AreNoted U b) (sym next.older) z.noted;
          adds = λ V c same loose agrees met.
              let one_more = adds_one c (z.settled.gives c.chosen (fixed V c same loose agrees (record { kept = met.kept; holds = met.holds.1 }))) in
              (λ i. one_more i ++ same i);
          named = λ V c same loose agrees met. refl;
          constants = constants_kept a b goes constants;
        };
        alike = record { added = named_entry ∷ []; names = λ ch. refl; letters = λ V ch given. given };
        entry = y;
        named = named_entry;
        scope = refl;
        grows = next.grows;
        shown = λ V c same loose agrees met. shows_one c (z.settled.gives c.chosen (fixed V c same loose agrees (record { kept = met.kept; holds = met.holds.1 })));
        values = λ c. subst (λ o. AllValues (component_named o (Value (all_bound (c.chosen.type_at written.node))))) (sym named) tt;
        makes = λ c. refl;
      }

  -- Its type is decided, and where it is known the item is done.
  pub value_done : (seen : Seen) → ValueDone a at (recorded_value a.item n t) written.node seen b (y ∷ env)
  value_done seen = record {
    type = z.settled.type;
    judged = z.settled.judged;
    decided = λ V c same loose agrees holds.
        let names = variables_of t in
        elim (z.settled.settled.complete (record c { variables = parameters names }) (stands_behind at on_types (own_types a at constants) (own_at a at constants) names z.settled.settled (λ c. written.read (record c { variables = parameters names })) (λ c. refl) V c same loose agrees) holds.1) [
          | inl settled ↦ inl (z.settled.gives c.chosen settled.1)
          | inr short ↦ inr short
        ];
    added = value_added seen;
  }

-- So a call that specifies a value gives its item.
pub value_carries : (a b : Parts) (env after : List Entry) (n : ℕ) (t : Tree) → SpecifiesValue a b env after n t → Untyped a b → Goes a b → GivesValue a b env after n t
value_carries a b env after n t specifies untyped goes = λ G E seen x aloud at constants noted.
    let one : SpecifiesOne a b env after n t x.name = subst (λ o. SpecifiesNamed o a b env after n t) x.named specifies in
    let z = one.closes x.formed aloud at.level (names_before a at constants (variables_of t)) (refl, refl) (item_frame a at constants) at.older (starts a at constants) (inside_none a at constants) noted in
    subst (ValueDone a at (recorded_value a.item n t) (type_specified a.item n t).node seen b) (sym one.scope) (value_done a b at constants n t x.name x.named one.entry one.root one.is z untyped goes seen)

-- Where no name is written there is no such item.
pub value_nameless : (a b : Parts) (env after : List Entry) (n : ℕ) (t : Tree) → token_in t 1 ≡ None → GivesValue a b env after n t
value_nameless a b env after n t none = λ G E seen x aloud at constants noted. absurd (let f : Some x.name ≡ None = sym x.named ∙ none in cc)
