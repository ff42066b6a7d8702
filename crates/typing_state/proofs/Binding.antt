-- What comes of the demand that a path finds something.
use Rattle.std.proofs.Common.{◌≡◌, List, ℕ}
use Rattle.std.specs.Prelude.{Option, Some, None, Result, Ok, Err, OnOk}
use Rattle.token_model.specs.Kinds.{Tok}
use Rattle.tree_model.specs.Trees.{Place}
use Rattle.text_terms.specs.declared.Span.{Span}
use Rattle.syntax_tree.specs.View.{place_of}
use Rattle.signature_model.specs.Lookups.{FoundAmong, an_entry, a_hole, nothing}
use Rattle.env_table.specs.declared.entries.Entry.{Entry}
use Rattle.env_table.specs.declared.entries.Kind.{Kind}
use Rattle.env_table.specs.declared.faults.FaultKind.TheVariants as fault
use Rattle.typing_state.specs.declared.messages.Word.{Word}
use Rattle.typing_state.specs.declared.parts.Parts.{Parts}
use Rattle.typing_state.specs.Goes.{faults_of, OnlyFaults, Told}
use Rattle.typing_state.specs.Messages.{unbound_text}
use Rattle.typing_state.specs.Bound.{TellsUnbound, BoundIs, BoundLastIs, found_at, lost_among, word_of}
use Rattle.typing_state.proofs.Going.{only_faults_same}

-- a fault that is told at a span is told at its place
pub tells_at : {A E : Type 0} (r : Result A E) (old new : Parts) (span : Span) (at : Place) (kind : Word) (name : List ℕ) → place_of span ≡ at →
    OnOk r (Told old.telling (faults_of old) (faults_of new) span fault.Bound (unbound_text kind name)) → OnOk r (TellsUnbound old new at kind name)
tells_at (Ok v) old new span at kind name e t = (span, e, t)
tells_at (Err x) old new span at kind name e t = t

-- whatever a path finds, all but the faults is as before
pub bound_rest : (f : FoundAmong Entry) (given : Option Entry) (old new : Parts) (lost : Option Tok) (last : Tok) (kind : Word) → BoundIs f given old new lost last kind → OnlyFaults old new
bound_rest (an_entry e) given old new lost last kind is = only_faults_same old new is.1
bound_rest a_hole given old new lost last kind is = only_faults_same old new is.1
bound_rest nothing given old new lost last kind is = is.1.rest

-- the same of a last name that may be missing
pub bound_last_rest : (last : Option Tok) (kind : Kind) (given : Option Entry) (old new : Parts) (env : List Entry) (qs : List Tok) → BoundLastIs last kind given old new env qs → OnlyFaults old new
bound_last_rest None kind given old new env qs is = only_faults_same old new is.1
bound_last_rest (Some last) kind given old new env qs is = bound_rest (found_at env qs kind last) given old new (lost_among env qs) last (word_of kind) is
