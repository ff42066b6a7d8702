-- Small environments.
use Rattle.std.specs.Prelude.{ℕ, false, [], ◌∷◌, codes}
use Rattle.type_model.specs.Types.{Typ, Var, Arrow, Con, Nil, Cons}
use Rattle.signature_model.specs.Declarations.{Name, Own, Opaque, Labels, Label, Declaration}
use Rattle.signature_model.specs.Signatures.{Hole, Structure, Done, Component, Value}
use Rattle.signature_model.specs.Entries.{Entry, entry, Environment, a_value, a_label, a_type, a_module}
use Rattle.signature_model.specs.Records.{Written}
use Rattle.typing_model.specs.BuiltIns.{int_type, string_type, unit_type, built_in_names}
use Rattle.typing_model.specs.Contexts.{monomorphic}
use Rattle.typing_model.specs.Modules.{all_bound}
use Rattle.model_checks.specs.Signatures.{somewhere}

-- a value of one type
abbrev pub one_value : Name → Typ → Entry
one_value n t = entry n somewhere (a_value (monomorphic t))

-- two values x, the newer one a string, a module that isn't known, and one with a value y
abbrev pub scope : Environment
scope =
    one_value (codes "x") string_type ∷ one_value (codes "x") int_type ∷ entry (codes "U") somewhere (a_module Hole) ∷
    entry (codes "M") somewhere (a_module (Structure (Component (codes "y") somewhere (Value (monomorphic int_type)) Done))) ∷ []

-- a label of the record type that is made at a number
abbrev pub label : Name → Label
label n = record { name = n; place = somewhere; is_mutable = false; body = int_type }

-- a record type that is made at a number
abbrev pub record_at : ℕ → Declaration
record_at k = record { arity = 0; definition = Own (k ∷ []); shape = Labels (label (codes "a") ∷ label (codes "b") ∷ []) }

-- { a; b } at 1, and behind it { a; b } at 2 whose b isn't in scope
abbrev pub records : Environment
records =
    entry (codes "a") somewhere (a_label (record_at 2) (label (codes "a"))) ∷
    entry (codes "b") somewhere (a_label (record_at 1) (label (codes "b"))) ∷ entry (codes "a") somewhere (a_label (record_at 1) (label (codes "a"))) ∷ []

-- a label without modules
abbrev pub written : Name → Written
written n = record { modules = []; name = n }

-- 'a ref, and ref : 'a -> 'a ref, in front of the built-in types
abbrev pub ref_type : Typ → Typ
ref_type t = Con (1 ∷ []) (Cons t Nil)

-- and ref : 'a -> 'a ref
abbrev pub with_ref : Environment
with_ref =
    entry (codes "ref") somewhere (a_value (all_bound (Arrow (Var 0) (ref_type (Var 0))))) ∷
    entry (codes "ref") somewhere (a_type (record { arity = 1; definition = Own (1 ∷ []); shape = Opaque })) ∷ built_in_names

-- the type t that is made at 7, and nothing else
abbrev pub only_entry : Entry
only_entry = entry (codes "t") somewhere (a_type (record { arity = 0; definition = Own (7 ∷ []); shape = Opaque }))

-- the scope with it alone
abbrev pub shown_scope : Environment
shown_scope = only_entry ∷ []

-- and ( := ) : 'a ref -> 'a -> unit
abbrev pub with_assignment : Environment
with_assignment = entry (codes ":=") somewhere (a_value (all_bound (Arrow (ref_type (Var 0)) (Arrow (Var 0) unit_type)))) ∷ with_ref

-- ( + ) : int -> int -> int, in front of the built-in types
abbrev pub with_plus : Environment
with_plus = entry (codes "+") somewhere (a_value (all_bound (Arrow int_type (Arrow int_type int_type)))) ∷ built_in_names
