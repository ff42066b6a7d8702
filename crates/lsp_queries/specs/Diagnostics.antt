-- The diagnostics of a text.
use Rattle.std.specs.Prelude.{◌≡◌, ℕ, List, map, Bool, true, false, codes, Some}
use Rattle.std.specs.Str.{bytes_eq}
use Rattle.service_model.specs.Replies as said
use Rattle.service_model.specs.Structure.{ErrorsAre}
use Rattle.lsp_model.specs.Answers.{Diagnostic, Severity, an_error, a_warning}
use Rattle.lsp_model.specs.Positions.{Columns}
use Rattle.lsp_queries.specs.Shown.{range_shown, span_drawn}

-- how grave a fault is: warnings alone are no errors
abbrev pub severity_by : Bool → Severity
severity_by true = a_warning
severity_by false = an_error

-- a fault of the line protocol's page as a diagnostic
abbrev pub diagnostic_told : Columns → List ℕ → said.Fault → Diagnostic
diagnostic_told by text f = record {
  kind = Some f.kind;
  message = f.message;
  range = range_shown by text (span_drawn text f.start f.end);
  severity = severity_by (bytes_eq f.source (codes "warning"));
}

-- the diagnostics of a text: those of the page that `errors` may reply
abbrev pub DiagnosticsAre : Columns → List ℕ → List Diagnostic → Type 0
DiagnosticsAre by text ds = (fs : List said.Fault) × (more : Bool) × ErrorsAre text (said.faults fs more) × (ds ≡ map (diagnostic_told by text) fs)
