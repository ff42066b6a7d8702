-- The messages of faults.
use Rattle.std.specs.Prelude.{ℕ, List, ◌++◌, codes}
use Rattle.std.specs.Fmt.{decimal}
use Rattle.typing_state.specs.declared.messages.Word.{Word}
use Rattle.typing_state.specs.declared.messages.Word.TheVariants as word

-- the kinds of names
abbrev pub word_text : Word → List ℕ
word_text word.Value = codes "value"
word_text word.Constructor = codes "constructor"
word_text word.Label = codes "label"
word_text word.Type = codes "type"
word_text word.TypeVariable = codes "type variable"
word_text word.Module = codes "module"
word_text word.ModuleType = codes "module type"

-- nothing of this kind is bound to the name
abbrev pub unbound_text : Word → (name : List ℕ) → List ℕ
unbound_text word name = codes "Unbound " ++ word_text word ++ codes " " ++ name

-- a name is given another number of arguments than it takes
abbrev pub arity_text : (name : List ℕ) → (taken given : ℕ) → List ℕ
arity_text name taken given = name ++ codes " takes " ++ decimal taken ++ codes " arguments but " ++ decimal given ++ codes " are given"

-- a name is defined twice where once is allowed
abbrev pub twice_text : (name : List ℕ) → List ℕ
twice_text name = name ++ codes " is defined twice"

-- one side of an or-pattern binds the name and the other doesn't
abbrev pub one_side_text : (name : List ℕ) → List ℕ
one_side_text name = name ++ codes " is bound on one side only"

-- a record lacks a field of its type
abbrev pub incomplete_text : (name : List ℕ) → List ℕ
incomplete_text name = codes "The field " ++ name ++ codes " is absent"

-- a field is set that isn't mutable
abbrev pub not_mutable_text : (name : List ℕ) → List ℕ
not_mutable_text name = codes "The field " ++ name ++ codes " is not mutable"

-- a definition leads back to itself
abbrev pub cyclic_text : (name : List ℕ) → List ℕ
cyclic_text name = codes "The definition of " ++ name ++ codes " contains itself"

-- a declaration isn't that of the type which it gives again
abbrev pub differs_text : (name : List ℕ) → List ℕ
differs_text name = codes "This definition differs from that of " ++ name

-- something else stands where the label of a field belongs
abbrev pub no_label_text : List ℕ
no_label_text = codes "A label is wanted here"

-- an integer literal is out of range
abbrev pub too_large_text : List ℕ
too_large_text = codes "This integer is too large"
