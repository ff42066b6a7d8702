use Rattle.std.proofs.Common.{◌≡◌, List, map, drop}
use Rattle.text_terms.specs.Bytes.{str_bytes}
use Rattle.env_table.specs.declared.entries.Entry.{Entry}
use Rattle.match_warnings.specs.Patterns.{field_at, field_view}
use Rattle.match_warnings.proofs.pats.field_of.Given as goal

abbrev pub invariant-loop-field : goal.invariant-loop-field
invariant-loop-field l = (env : List Entry) → field_at (str_bytes l.label.name) (map (field_view env) (drop l.field-index l.fields)) ≡ field_at (str_bytes l.label.name) (map (field_view env) l.fields)
