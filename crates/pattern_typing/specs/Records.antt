-- The record type of the code as the laws of records take it.
use Rattle.std.specs.Prelude.{Some, None}
use Rattle.record_rows.specs.Fields.{RecordHere}
use Rattle.use_typing.specs.declared.record_types.RecordType.{RecordType}
use Rattle.use_typing.specs.declared.record_types.RecordType.TheVariants as record_type

-- its declaration and the node of its type, where it is known
abbrev pub here_of : RecordType → RecordHere
here_of (record_type.Known d m) = Some (d.value, m.0)
here_of record_type.Open = None
