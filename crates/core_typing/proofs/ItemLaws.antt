-- What the call for an item's `let` does, from where its node is noted to where its names are in scope.
use Rattle.std.proofs.Common.{◌≡◌, ℕ, List, [], None, sym, subst}
use Rattle.std.specs.Prelude.{Result, Ok, Err, OnOk}
use Rattle.tree_model.specs.Trees.{Tree, yield_of}
use Rattle.env_table.specs.declared.entries.Entry.{Entry}
use Rattle.typing_state.specs.declared.parts.Written.{Written}
use Rattle.typing_state.specs.declared.parts.Parts.{Parts}
use Rattle.typing_state.specs.Goes.{Goes, OnlyIndex}
use Rattle.typing_state.specs.Notes.{NotedNameless}
use Rattle.typing_steps.proofs.Still.{plain_notes}
use Rattle.binding_rows.specs.ItemRows.{TypesItem, AreWrittenIn, GivesLet}
use Rattle.binding_rows.proofs.ItemRows.{let_given}
use Rattle.binding_rows.proofs.ItemTurns.{none_written}
-- for the crate that types items
pub use Rattle.binding_rows.proofs.ItemOrders.{done_none, done_then, weaker}
pub use Rattle.binding_rows.proofs.ItemKinds.{let_done, idle_given, plain_scope, noted_between}
pub use Rattle.typing_rows.proofs.Noted.{noted_on}

-- The node of an item is noted, the type variables that were written are forgotten, and its `let` is typed; then its names are in scope.
pub item_gives : {A E : Type 0} (r : Result A E) (a b c d : Parts) (w : Written) (env after then : List Entry) (n : ℕ) (t : Tree) → NotedNameless a b n env None → OnlyIndex a b → Goes a b → w.variables.entries ≡ [] → c ≡ record b { written = w } →
    TypesItem c d env after n t → AreWrittenIn (yield_of t) d.written → OnOk r (then ≡ after) → OnOk r (GivesLet a d env then n t)
item_gives (Ok x) a b c d w env after then n t noted rest goes empty same typed own brought =
    subst (λ es. GivesLet a d env es n t) (sym brought) (let_given a b c d w env after n t (plain_notes a b n env noted rest) goes same (none_written w empty) typed own (λ aloud. plain_scope a b n env aloud noted))
item_gives (Err x) a b c d w env after then n t noted rest goes empty same typed own brought = tt
