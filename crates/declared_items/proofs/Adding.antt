-- What items add, one after the other.
use Rattle.std.proofs.Common.{◌∙◌, List, [], ◌∷◌, ◌++◌, refl, sym, ap, append_assoc}
use Rattle.signature_model.specs.Entries.{Environment}
use Rattle.typing_model.specs.Contexts.{Choice}
use Rattle.typing_model.specs.Parts.{Item, Seen, seen_too}
use Rattle.type_nodes.specs.Nodes.{IsSound}
use Rattle.env_table.specs.declared.entries.Entry.{Entry}
use Rattle.typing_state.specs.declared.parts.Parts.{Parts}
use Rattle.typing_conditions.specs.Sights.{Letters}
use Rattle.typing_steps.specs.Constants.{HasConstants}
use Rattle.typing_steps.specs.States.{sight}
use Rattle.typing_steps.specs.Typing.{as_declared}
use Rattle.typing_rows.specs.Noted.{AreNoted}
use Rattle.binding_rows.specs.Outside.{Outside, OnlyBetween}
use Rattle.binding_rows.proofs.ItemOrders.{done_none, done_one, done_then, done_between, one_outside, then_outside}
use Rattle.type_expressions.proofs.Untyped.{untyped_then}
use Rattle.declared_items.specs.Adding.{AddsAlike, AddedIf, ItemAdded, ItemsAdded}

-- nothing is added
pub adds_none : (E : Choice → Environment) (G : Letters) → AddsAlike E E G G
adds_none E G = record { added = []; names = λ ch. refl; letters = λ V ch given. given }

-- names after others
pub adds_then : {E F K : Choice → Environment} {G H L : Letters} → AddsAlike E F G H → AddsAlike F K H L → AddsAlike E K G L
adds_then {E} p q = record {
  added = q.added ++ p.added;
  names = λ ch. q.names ch ∙ ap (λ es. q.added ++ es) (p.names ch) ∙ sym (append_assoc q.added p.added (E ch));
  letters = λ V ch given. q.letters V ch (p.letters V ch given);
}

-- one item
pub items_added_one : {E : Choice → Environment} {m : Item} {seen names : Seen} {a b : Parts} {G : Letters} {after : List Entry} → ItemAdded E m seen names a b G after → ItemsAdded E (m ∷ []) seen (seen_too seen names) a b G after
items_added_one {E} {G = G} p = record { done = done_one p.done; alike = one_outside p.done (λ H F o. AddsAlike E F G H) p.alike; untyped = p.untyped }

never : ⊥ → ⊥
never k = k

-- items after others
pub items_added_then : {E : Choice → Environment} {ms ns : List Item} {seen names last : Seen} {a b c : Parts} {G : Letters} {mid after : List Entry} → IsSound a.store.nodes → (p : ItemsAdded E ms seen names a b G mid) → ItemsAdded p.done.env ns names last b c p.done.letters after → ItemsAdded E (ms ++ ns) seen last a c G after
items_added_then {E} {G = G} sound p q = record { done = done_then sound p.done q.done never never; alike = then_outside sound p.done q.done never never (λ H F o. AddsAlike E F G H) (adds_then p.alike q.alike); untyped = untyped_then p.untyped q.untyped }

-- no item, between others
pub items_added_none : {E : Choice → Environment} {a b : Parts} {G : Letters} {env : List Entry} (seen : Seen) → OnlyBetween (sight a) (sight b) → (at : Outside as_declared (sight a) G env E) → HasConstants b → AreNoted at.older b → ItemsAdded E [] seen seen a b G env
unfolding done_none
items_added_none {E} {G = G} seen only at constants noted = record { done = done_none seen only at constants noted (λ k. absurd k); alike = adds_none E G; untyped = record { types = only.types } }

-- an item that was done from a state that differs only as between items
pub item_added_between : {K : Type 0} {E : Choice → Environment} {m : Item} {seen names : Seen} {a b d : Parts} {G : Letters} {after : List Entry} → OnlyBetween (sight a) (sight b) → AddedIf K E m seen names b d G after → AddedIf K E m seen names a d G after
unfolding done_between
item_added_between {a = a} {b = b} only p = record { done = done_between only p.done; alike = p.alike; untyped = untyped_then {a = a} {b = b} (record { types = only.types }) p.untyped }

-- an item of which more is known
pub added_anyhow : {K : Type 0} {E : Choice → Environment} {m : Item} {seen names : Seen} {a b : Parts} {G : Letters} {after : List Entry} → AddedIf K E m seen names a b G after → ItemAdded E m seen names a b G after
added_anyhow p = record {
  done = record {
    letters = p.done.letters;
    env = p.done.env;
    carried = p.done.carried;
    owners = p.done.owners;
    clear = λ k. absurd k;
    sees = λ k. absurd k;
    stops = λ k. absurd k;
    outside = p.done.outside;
    knows = λ k. absurd k;
    noted = p.done.noted;
    adds = p.done.adds;
    named = p.done.named;
    constants = p.done.constants;
  };
  alike = p.alike;
  untyped = p.untyped;
}
