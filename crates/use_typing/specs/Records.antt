-- What the record type of labels and the beginning of a field carry, by whether the record type is known.
use Rattle.std.specs.Prelude.{◌≡◌, ℕ, List, Option, Some, None}
use Rattle.std.specs.declared.rc.Rc.{Rc}
use Rattle.std.specs.declared.alloc.Global.{Global}
use Rattle.token_model.specs.Kinds.{Tok}
use Rattle.signature_model.specs.Declarations.{Name}
use Rattle.signature_model.specs.Lookups.{FoundAmong, an_entry, a_hole, nothing}
use Rattle.typing_model.specs.Parts as parts
use Rattle.type_terms.specs.declared.types.NodeRef.{NodeRef}
use Rattle.env_table.specs.declared.entries.Declaration.{Declaration}
use Rattle.env_table.specs.declared.entries.Entry.{Entry}
use Rattle.typing_state.specs.declared.parts.Parts.{Parts}
use Rattle.record_steps.specs.Recording.{AsksOnce, label_written, GivesField, TakesRoot, TypesRecord, TypesNoRecord, TypesField}
use Rattle.use_typing.specs.declared.record_types.RecordType.{RecordType}
use Rattle.use_typing.specs.declared.record_types.RecordType.TheVariants as record_type
use Rattle.use_typing.specs.Labels.{declared_in}

-- the node of a record's type, where it is known
abbrev pub node_of : RecordType → Option NodeRef
node_of (record_type.Known d m) = Some m
node_of record_type.Open = None

-- an instance of the root of a label's declaration was taken; of what is no label nothing is known, and all is as before
abbrev pub TakesBehind : Option Declaration → (a b : Parts) → Option RecordType → Type 0
TakesBehind None a b r = (r ≡ Some record_type.Open) × (b ≡ a)
TakesBehind (Some d) a b r = (declared : Rc Declaration Global) × (m : NodeRef) × (r ≡ Some (record_type.Known declared m)) × (declared.value ≡ d) × TakesRoot d a b m.0

-- the same by what labels find; in a module that isn't known nothing is known, and where they find nothing there is no record type
abbrev pub TakesFound : FoundAmong Entry → (a b : Parts) → Option RecordType → Type 0
TakesFound (an_entry e) a b r = TakesBehind (declared_in e.what) a b r
TakesFound a_hole a b r = (r ≡ Some record_type.Open) × (b ≡ a)
TakesFound nothing a b r = (r ≡ None) × (b ≡ a)

-- what the record type of labels carries, where faults are reported
abbrev pub TypesRecordType : RecordType → (a b : Parts) → List Entry → List parts.Written → Type 0
TypesRecordType (record_type.Known d m) a b env ps = TypesRecord a b env ps d.value m.0
TypesRecordType record_type.Open a b env ps = TypesNoRecord a b env ps

-- a label of a known record type is new among those before it, or that is reported; of one that isn't known nothing is asked
abbrev pub AsksNew : RecordType → List Name → Option Tok → (a b : Parts) → Type 0
AsksNew (record_type.Known d m) seen last a b = AsksOnce seen last a b
AsksNew record_type.Open seen last a b = b ≡ a

-- the type of a field of a record type by its label
abbrev pub GivesFieldOf : RecordType → Option Tok → (a b : Parts) → Option ℕ → Type 0
GivesFieldOf (record_type.Known d m) last a b ty = GivesField (label_written d.value last) a b m.0 ty
GivesFieldOf record_type.Open last a b ty = (ty ≡ None) × (b ≡ a)

-- what the beginning of a field carries; where the record type isn't known, nothing is asked, and all is as before
abbrev pub BeginsField : RecordType → (a b : Parts) → List Name → parts.Written → Option ℕ → Type 0
BeginsField (record_type.Known d m) a b seen p ty = TypesField a b d.value m.0 seen p ty
BeginsField record_type.Open a b seen p ty = (ty ≡ None) × (b ≡ a)
