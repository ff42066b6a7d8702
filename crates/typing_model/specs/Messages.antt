-- What is reported where a demand on names isn't kept, in words.
use Rattle.std.specs.Prelude.{ℕ, List, ◌++◌, codes, decimal}
use Rattle.typing_model.specs.Demands.{Word, value_word, constructor_word, label_word, type_word, type_variable_word, module_word, module_type_word, Complaint, unbound, arity, no_label, not_mutable, incomplete, twice, one_side, too_large, cyclic, differs, no_functor, no_abstract_type}

-- the kinds of names
abbrev pub word_text : Word → List ℕ
word_text value_word = codes "value"
word_text constructor_word = codes "constructor"
word_text label_word = codes "label"
word_text type_word = codes "type"
word_text type_variable_word = codes "type variable"
word_text module_word = codes "module"
word_text module_type_word = codes "module type"

-- the message of a complaint
abbrev pub complaint_text : Complaint → List ℕ
complaint_text (unbound w x) = codes "Unbound " ++ word_text w ++ codes " " ++ x
complaint_text (arity x n m) = x ++ codes " takes " ++ decimal n ++ codes " arguments but " ++ decimal m ++ codes " are given"
complaint_text no_label = codes "A label is wanted here"
complaint_text (not_mutable x) = codes "The field " ++ x ++ codes " is not mutable"
complaint_text (incomplete x) = codes "The field " ++ x ++ codes " is absent"
complaint_text (twice x) = x ++ codes " is defined twice"
complaint_text (one_side x) = x ++ codes " is bound on one side only"
complaint_text too_large = codes "This integer is too large"
complaint_text (cyclic x) = codes "The definition of " ++ x ++ codes " contains itself"
complaint_text (differs x) = codes "This definition differs from that of " ++ x
complaint_text no_functor = codes "This module is not a functor"
complaint_text (no_abstract_type x n) = codes "The signature has no abstract type " ++ x ++ codes " with " ++ decimal n ++ codes " parameters"
