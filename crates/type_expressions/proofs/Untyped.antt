-- What is recorded for type expressions has no type, from one call to the next.
use Rattle.std.proofs.Common.{◌≡◌, ◌∙◌, ℕ, List, Option, None, refl}
use Rattle.std.specs.Prelude.{Result, Ok, Err, OnOk}
use Rattle.token_model.specs.Kinds.{Tok}
use Rattle.signature_model.specs.Lookups.{FoundAmong, an_entry, a_hole, nothing}
use Rattle.env_table.specs.declared.entries.Entry.{Entry}
use Rattle.env_table.specs.declared.seen.Seen.{Seen}
use Rattle.typing_state.specs.declared.parts.Parts.{Parts}
use Rattle.typing_state.specs.declared.messages.Word.{Word}
use Rattle.typing_state.specs.Bound.{BoundIs}
use Rattle.typing_state.specs.Goes.{OnlyStore, OnlyFaults, OnlyIndex}
use Rattle.typing_state.specs.Notes.{Noted, NotedNameless}
use Rattle.typing_steps.proofs.Seeing.{only_nodes, only_reports, same_state}
use Rattle.typing_steps.proofs.Still.{untyped_noted}
use Rattle.type_expressions.specs.Untyped.{Untyped}

-- nothing is done
pub untyped_same : (a : Parts) → Untyped a a
untyped_same a = record { types = λ i p. refl }

-- one call after another
pub untyped_then : {a b c : Parts} → Untyped a b → Untyped b c → Untyped a c
untyped_then x y = record { types = λ i p. y.types i p ∙ x.types i p }

-- what changes the store or the faults alone
pub store_untyped : (a b : Parts) → OnlyStore a b → Untyped a b
store_untyped a b rest = record { types = (only_nodes a b rest).types }

pub faults_untyped : (a b : Parts) → OnlyFaults a b → Untyped a b
faults_untyped a b rest = record { types = (only_reports a b rest).types }

-- a record without a type
pub noted_untyped : (a b : Parts) (number : ℕ) (seen : Seen) → seen.ty ≡ None → Noted a.telling a b number seen → OnlyIndex a b → Untyped a b
noted_untyped a b number seen none noted rest = record { types = (untyped_noted a b number seen none noted rest).types }

pub plain_untyped : (a b : Parts) (number : ℕ) (env : List Entry) → NotedNameless a b number env None → OnlyIndex a b → Untyped a b
plain_untyped a b number env (names, is, noted) rest = noted_untyped a b number (record { env = env; ty = None; names = names }) refl noted rest

-- the demand that a name is bound
pub bound_untyped : (f : FoundAmong Entry) (given : Option Entry) (a b : Parts) (lost : Option Tok) (last : Tok) (kind : Word) → BoundIs f given a b lost last kind → Untyped a b
bound_untyped (an_entry e) given a b lost last kind (is, same) = record { types = (same_state a b same).types }
bound_untyped a_hole given a b lost last kind (is, same) = record { types = (same_state a b same).types }
bound_untyped nothing given a b lost last kind (is, reports) = faults_untyped a b reports.rest

-- what holds anyhow holds of anything that is answered
pub ok_any : {X Y : Type 0} (r : Result X Y) (P : Type 0) → P → OnOk r P
ok_any (Ok x) P p = p
ok_any (Err e) P p = tt

-- a call, and then one that answers
pub ok_then : {X Y : Type 0} (r : Result X Y) (a b c : Parts) → Untyped a b → OnOk r (Untyped b c) → OnOk r (Untyped a c)
ok_then (Ok x) a b c first then = untyped_then first then
ok_then (Err e) a b c first then = tt
