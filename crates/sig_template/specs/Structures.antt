-- Structures: of the values of one name, and of the exceptions of one name, the newest alone (OCaml manual, 11.11 for what later definitions hide).
use Rattle.std.specs.Prelude.{◌≡◌, Bool, true, false, ◌&&◌, ◌||◌, List, [], ◌∷◌, map, if◌then◌else◌}
use Rattle.std.specs.declared.rc.Rc.{Rc}
use Rattle.std.specs.declared.alloc.Global.{Global}
use Rattle.std.specs.HashSet.{contains_text}
use Rattle.std.specs.Str.{bytes_eq}
use Rattle.text_terms.specs.Bytes.{str_bytes}
use Rattle.signature_model.specs.Declarations.{Name}
use Rattle.env_table.specs.declared.entries.What.{out-What}
use Rattle.env_table.specs.declared.entries.Entry.{Entry}
use Rattle.env_table.specs.declared.entries.Sig.{Sig}
use Rattle.env_table.specs.declared.entries.Sig.TheOpen.{What-F}
use Rattle.env_table.specs.declared.entries.Sig.TheVariants as sig
use Rattle.env_table.specs.declared.entries.Components.{Components, out-Components}
use Rattle.sig_template.specs.declared.structures.Met.{Met}

-- the entries behind owners
abbrev pub entries_of : List (Rc Entry Global) → List Entry
entries_of es = map (λ r. r.value) es

-- whether a name stands for a value
abbrev pub value_opened : {S W C E T : Type 0} → What-F S W C E T → Bool
value_opened (What-F.Scheme n) = true
value_opened (What-F.Constructor d k) = false
value_opened (What-F.Exception c) = false
value_opened (What-F.Label d k) = false
value_opened (What-F.Type d) = false
value_opened (What-F.Module s) = false
value_opened (What-F.ModuleType t) = false

-- whether a name stands for an exception
abbrev pub exception_opened : {S W C E T : Type 0} → What-F S W C E T → Bool
exception_opened (What-F.Scheme n) = false
exception_opened (What-F.Constructor d k) = false
exception_opened (What-F.Exception c) = true
exception_opened (What-F.Label d k) = false
exception_opened (What-F.Type d) = false
exception_opened (What-F.Module s) = false
exception_opened (What-F.ModuleType t) = false

-- whether an entry is a value
abbrev pub is_value : Entry → Bool
is_value e = value_opened (out-What e.what)

-- whether an entry is an exception
abbrev pub is_exception : Entry → Bool
is_exception e = exception_opened (out-What e.what)

-- whether one of some entries is of a sort and a name
abbrev pub any_named : (Entry → Bool) → Name → List Entry → Bool
any_named sort n [] = false
any_named sort n (e ∷ es) = (sort e && bytes_eq (str_bytes e.name) n) || any_named sort n es

-- whether an entry is a value or an exception, and one of newer ones is the same with its name
abbrev pub is_replaced : Entry → List Entry → Bool
is_replaced e newer = (is_value e && any_named is_value (str_bytes e.name) newer) || (is_exception e && any_named is_exception (str_bytes e.name) newer)

-- entries, the oldest first, without those that newer ones replace
abbrev pub newest_alone : List Entry → List Entry
newest_alone [] = []
newest_alone (e ∷ es) = if is_replaced e es then newest_alone es else e ∷ newest_alone es

-- the names that were met are those of some entries
pub record AreMet (met : Met) (es : List Entry) : Type 0 where
  pub values : (n : Name) → contains_text met.values n ≡ any_named is_value n es
  pub exceptions : (n : Name) → contains_text met.exceptions n ≡ any_named is_exception n es

-- a signature is a structure of these components, in order
abbrev pub IsStructureOf : Sig → List Entry → Type 0
IsStructureOf s es = (c : Components) × (s ≡ sig.Structure c) × (entries_of (out-Components c).entries.items ≡ es)
