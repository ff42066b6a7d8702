-- The variable of a `for`, an int, in the names of the code.
use Rattle.std.specs.Prelude.{◌≡◌, List, ◌∷◌, Option, Some, None}
use Rattle.token_model.specs.Kinds.{Tok}
use Rattle.signature_model.specs.Declarations.{in_text}
use Rattle.typing_model.specs.Parts.{place_of}
use Rattle.type_terms.specs.declared.types.NodeRef.{NodeRef}
use Rattle.env_table.specs.declared.entries.Entry.{Entry}
use Rattle.typing_conditions.specs.Surroundings.{IsEntry}

-- the names in the body of a loop: those around it, and its variable, whose type is this node; where the variable is missing there is none
abbrev pub IsLoopScope : (int : NodeRef) → Option Tok → (env inner : List Entry) → Type 0
IsLoopScope int None env inner = inner ≡ env
IsLoopScope int (Some t) env inner = (e : Entry) × (inner ≡ e ∷ env) × IsEntry e t.name (in_text (place_of t)) int
