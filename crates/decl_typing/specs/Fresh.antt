-- The names of one declaration so far, and the demand that a further one is new.
use Rattle.std.specs.Prelude.{◌≡◌, ℕ, Bool, true, false, List}
use Rattle.std.specs.Str.{bytes_eq}
use Rattle.std.specs.HashSet.{HashSet, contains_by}
use denote.Ref.{Bor}
use Rattle.text_terms.specs.Bytes.{str_bytes}
use Rattle.signature_model.specs.Declarations.{Name}
use Rattle.syntax_tree.specs.declared.tree.Token.{Token}
use Rattle.env_table.specs.declared.faults.FaultKind.TheVariants as fault
use Rattle.typing_state.specs.declared.parts.Parts.{Parts}
use Rattle.typing_state.specs.Goes.{Told, faults_of}
use Rattle.typing_state.specs.Messages.{twice_text}

-- whether a name is in a set
abbrev pub has : {S : Type 0} → HashSet (Bor (List ℕ)) S → Name → Bool
has s n = contains_by (λ k. bytes_eq n k.now) s

-- a name that is there already is reported as defined twice; where it is new, nothing happens
abbrev pub AsksNew : (again : Bool) → Token → (old new : Parts) → Type 0
AsksNew true t old new = Told old.telling (faults_of old) (faults_of new) t.span fault.Unique (twice_text (str_bytes t.name))
AsksNew false t old new = new ≡ old
