-- What a match knows before its cases.
use Rattle.std.specs.Prelude.{Option, Some, None}
use Rattle.tree_model.specs.Rows.{Row, etry_row}
use Rattle.type_terms.specs.declared.types.NodeRef.{NodeRef}

-- the type of what is matched, and of the bodies, where it is known: a `try` matches exceptions, and its bodies have the type of its part
abbrev pub sides_by : Row → (exn ty : NodeRef) → NodeRef × Option NodeRef
sides_by etry_row exn ty = (exn, Some ty)
sides_by _ exn ty = (ty, None)
