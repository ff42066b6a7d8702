-- What the calls of record expressions carry, in the code's words: the record type, the labels that are written, and the value of a label's name.
use Rattle.std.specs.Prelude.{ℕ, List, [], Option, Some, None}
use denote.Ref.{Bor}
use Rattle.token_model.specs.Kinds.{Tok}
use Rattle.signature_model.specs.Declarations.{Name}
use Rattle.syntax_tree.specs.declared.tree.Token.{Token}
use Rattle.typing_model.specs.Parts.{place_of}
use Rattle.typing_model.specs.Expressions.{value_asks}
use Rattle.type_terms.specs.declared.types.NodeRef.{NodeRef}
use Rattle.env_table.specs.declared.entries.Entry.{Entry}
use Rattle.typing_state.specs.declared.parts.Parts.{Parts}
use Rattle.typing_state.specs.Bound.{names_of_tokens}
use Rattle.typing_state.specs.Goes.{Goes}
use Rattle.typing_steps.specs.Typing.{TypesOwn, AsksEqualIf}
use Rattle.use_typing.specs.declared.record_types.RecordType.{RecordType}
use Rattle.use_typing.specs.declared.record_types.RecordType.TheVariants as record_type
use Rattle.use_typing.specs.Labels.{toks_of}
use Rattle.record_rows.specs.Fields.{RecordHere}

-- the declaration of a record type and the node of its type, where it is known
abbrev pub here_of : RecordType → RecordHere
here_of (record_type.Known d m) = Some (d.value, m.0)
here_of record_type.Open = None

-- the names of labels that are written
abbrev pub names_written : List (Bor Token) → List Name
names_written ts = names_of_tokens (toks_of ts)

-- The value of a name is taken, for a demand of any number, and has the wanted type, where one is wanted.
pub record TakesName (a b : Parts) (env : List Entry) (t : Tok) (wanted : Option NodeRef) : Type 0 where
  pub used : Parts
  pub node : ℕ
  pub typed : (n k : ℕ) → TypesOwn a used env (λ c type. value_asks c n k (record { qualifiers = []; last = Some t }) type) node
  pub goes : Goes a used
  pub equal : AsksEqualIf used b env (place_of t) node wanted
