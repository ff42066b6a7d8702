-- The state of the code's typing, as the definitions see it.
use Rattle.std.specs.Prelude.{ℕ, Bool, true, false, List, [], ◌∷◌, Option, Some, None, option_map, if◌then◌else◌}
use Rattle.std.specs.HashMap.{get_by_text}
use Rattle.text_terms.specs.Bytes.{str_bytes}
use Rattle.syntax_tree.specs.View.{place_of}
use Rattle.signature_model.specs.Declarations.{Name}
use Rattle.type_terms.specs.declared.types.NodeRef.{NodeRef}
use Rattle.typed_index.specs.Seen.{seen_at}
use Rattle.env_table.specs.declared.faults.Fault.{Fault}
use Rattle.env_table.specs.declared.faults.FaultKind.{FaultKind}
use Rattle.env_table.specs.declared.faults.FaultKind.TheVariants.{Missed, Unused}
use Rattle.env_table.specs.declared.seen.Seen.{Seen}
use Rattle.typing_state.specs.declared.built_ins.Constants.{Constants}
use Rattle.typing_state.specs.declared.parts.Telling.{Telling}
use Rattle.typing_state.specs.declared.parts.Telling.TheVariants.{Aloud, Quiet}
use Rattle.typing_state.specs.declared.parts.Written.{Written}
use Rattle.typing_state.specs.declared.parts.Parts.{Parts}
use Rattle.typing_state.specs.Goes.{faults_of}
use Rattle.typing_conditions.specs.Sights.{Report, Fixed, Sight}

-- the node of the type that is recorded, if one is
abbrev pub type_in : Option Seen → Option ℕ
type_in None = None
type_in (Some s) = option_map (λ (m : NodeRef). m.0) s.ty

-- whether anything is recorded
abbrev pub is_noted : Option Seen → Bool
is_noted None = false
is_noted (Some s) = true

-- whether a fault is a warning, which no demand makes
abbrev pub is_warning : FaultKind → Bool
is_warning Missed = true
is_warning Unused = true
is_warning _ = false

-- a fault as a report
abbrev pub report_of : Fault → Report
report_of f = record { at = place_of f.span; kind = f.kind; message = str_bytes f.message }

-- the reports of faults; warnings are none
abbrev pub reports_of : List Fault → List Report
reports_of [] = []
reports_of (f ∷ fs) = if is_warning f.kind then reports_of fs else report_of f ∷ reports_of fs

-- whether faults are reported
abbrev pub is_aloud : Telling → Bool
is_aloud Aloud = true
is_aloud Quiet = false

-- the node of a type variable that is written in the item, by its name
abbrev pub written_in : Written → Name → Option ℕ
written_in w x = option_map (λ (m : NodeRef). m.0) (get_by_text w.variables x)

-- the nodes of the built-in types
abbrev pub fixed_of : Constants → Fixed
fixed_of k = record { int = k.int.0; char = k.char.0; string = k.string.0; float = k.float.0; unit = k.unit.0; bool = k.bool.0; exn = k.exn.0 }

-- the state, as far as the definitions are concerned
abbrev pub sight : Parts → Sight
sight at = record {
  nodes = at.store.nodes;
  types = λ i p. type_in (seen_at at.index i p);
  noted = λ i p. is_noted (seen_at at.index i p);
  scopes = λ i p. option_map (λ (s : Seen). s.env) (seen_at at.index i p);
  written = written_in at.written;
  reports = reports_of (faults_of at);
  aloud = is_aloud at.telling;
  item = at.item;
  level = at.level;
  fixed = fixed_of at.constants;
}
