-- What comes of a row that types itself: a new variable for it, or a name that is bound to its type.
use Rattle.std.specs.Prelude.{◌≡◌, ℕ, List, [], ◌∷◌, Option, Some, None}
use Rattle.token_model.specs.Kinds.{Tok}
use Rattle.signature_model.specs.Declarations.{Name, in_text}
use Rattle.typing_model.specs.Parts.{place_of}
use Rattle.type_terms.specs.declared.types.NodeRef.{NodeRef}
use Rattle.env_table.specs.declared.entries.Entry.{Entry}
use Rattle.env_table.specs.declared.seen.Seen.{Seen}
use Rattle.typing_state.specs.declared.parts.Parts.{Parts}
use Rattle.typing_state.specs.Goes.{Goes, OnlyStore, OnlyIndex}
use Rattle.typing_state.specs.Notes.{Noted, NotedNameless}
use Rattle.typing_state.specs.Types.{MakesVar, any_scope}
use Rattle.typing_conditions.specs.Carrying.{Asks}
use Rattle.typing_conditions.specs.Surroundings.{IsEntry}
use Rattle.typing_steps.specs.Typing.{TypesRow}
use Rattle.pattern_rows.specs.Bounds.{Bind, Adds}
use Rattle.pattern_rows.specs.Contracts.{AsksFresh}

-- a new variable is recorded for a node
pub record NotesAny (a d : Parts) (env : List Entry) (number : ℕ) (ty : NodeRef) : Type 0 where
  pub between : Parts
  pub made : MakesVar a between ty.0 any_scope
  pub only : OnlyStore a between
  pub goes : Goes a between
  pub noted : NotedNameless between d number env (Some ty)
  pub rest : OnlyIndex between d

-- a row with these conditions, by the number of its node, is recorded with its type
pub record NotesRow (a d : Parts) (env : List Entry) (number : ℕ) (asks : ℕ → Asks) (ty : NodeRef) : Type 0 where
  pub between : Parts
  pub typed : (n : ℕ) → TypesRow a between env (asks n) n ty.0
  pub goes : Goes a between
  pub noted : NotedNameless between d number env (Some ty)
  pub rest : OnlyIndex between d

-- A name is bound to a type: it is asked to be new, its node is recorded with that type and the names in scope, and it stands behind the others.
pub record BindsName (a d : Parts) (env : List Entry) (number : ℕ) (t : Tok) (ty : NodeRef) (names names' : List Bind) (seen seen' : List Name) : Type 0 where
  pub between : Parts
  pub entry : Entry
  pub recorded : Seen
  pub fresh : AsksFresh a between t seen
  pub goes : Goes a between
  pub is_entry : IsEntry entry t.name (in_text (place_of t)) ty
  pub has_type : recorded.ty ≡ Some ty
  pub in_scope : recorded.env ≡ env
  pub noted : Noted between.telling between d number recorded
  pub rest : OnlyIndex between d
  pub adds : Adds names names' (record { token = t; node = ty; entry = entry } ∷ []) seen seen' (t.name ∷ [])

-- no name is bound, and the node is recorded with the type
pub record BindsNone (a d : Parts) (env : List Entry) (number : ℕ) (ty : NodeRef) (names names' : List Bind) (seen seen' : List Name) : Type 0 where
  pub adds : Adds names names' [] seen seen' []
  pub noted : NotedNameless a d number env (Some ty)
  pub rest : OnlyIndex a d

-- a name that may be missing
abbrev pub BindsNameIf : Option Tok → (a d : Parts) → List Entry → ℕ → NodeRef → (names names' : List Bind) (seen seen' : List Name) → Type 0
BindsNameIf None a d env number ty names names' seen seen' = BindsNone a d env number ty names names' seen seen'
BindsNameIf (Some t) a d env number ty names names' seen seen' = BindsName a d env number t ty names names' seen seen'
