-- What a text is read as.
use Rattle.std.proofs.Common.{◌≡◌, ℕ, List, length, map, sym, ◌∙◌, ap, Result, Ok, Err, IfOk}
use Rattle.std.specs.Prelude.{option_map}
use Rattle.std.specs.declared.alloc.AllocError.{AllocError}
use Rattle.token_model.specs.Kinds.{Tok, AllWithin}
use Rattle.token_model.specs.Tokens.{Lex}
use Rattle.grammar_model.specs.Named.{named, items_of}
use Rattle.recovery_model.specs.Recovery.{recover}
use Rattle.grammar_model.specs.Ocaml.{grammar, program_text, row_name}
use Rattle.plain_model.specs.Plain.{plain_text}
use Rattle.service_model.specs.Structure.{items_in, faults_in}
use Rattle.service_model.specs.WellTyped.{is_well_typed}
use Rattle.syntax_tree.specs.View.{tok_of, trees_of}
use Rattle.syntax_tree.specs.declared.tree.Token.{Token}
use Rattle.frame_steps.specs.Told.{told}
use Rattle.frame_steps.specs.View as parser
use Rattle.text_queries.proofs.Told.{told_faults}
use Rattle.text_reading.specs.PlainTexts.{IsReadAs, plain_of}
use Rattle.text_reading.specs.Structures.{parsed_in}
use Rattle.text_reading.specs.declared.reading.ReadText.{ReadText}
use Rattle.text_reading.specs.declared.structure.ParsedText.{ParsedText}

-- the tokens of a text, with what they are read as
pub read_as : (text : List ℕ) (ts : List Tok) (r : ReadText) → Lex text ts → AllWithin (length text) ts
    → trees_of (parsed_in r.parsed).tree ≡ items_of (named row_name (recover (grammar program_text) ts).0)
    → map parser.fault_of (parsed_in r.parsed).faults.items ≡ map told (recover (grammar program_text) ts).1
    → option_map plain_of r.plain ≡ plain_text ts → r.is_well_typed ≡ is_well_typed ts → IsReadAs text r
unfolding items_in faults_in
read_as text ts r lexed within items faults plain well_typed = record {
  tokens = ts;
  lexed = lexed;
  within = within;
  items = items;
  faults = told_faults (parsed_in r.parsed).faults.items (recover (grammar program_text) ts).1 faults;
  plain = plain;
  well_typed = well_typed;
}

-- the same of tokens that are parsed already
pub read_parsed : (text : List ℕ) (ts : List Tok) (p : ParsedText) (r : Result ReadText AllocError) → Lex text ts → AllWithin (length text) ts
    → trees_of (parsed_in p).tree ≡ items_of (named row_name (recover (grammar program_text) ts).0)
    → map parser.fault_of (parsed_in p).faults.items ≡ map told (recover (grammar program_text) ts).1
    → IfOk r (λ x. x.parsed ≡ p) → IfOk r (λ x. option_map plain_of x.plain ≡ plain_text ts) → IfOk r (λ x. x.is_well_typed ≡ is_well_typed ts)
    → IfOk r (IsReadAs text)
read_parsed text ts p (Ok x) lexed within items faults same plain well_typed =
    read_as text ts x lexed within (ap (λ q. trees_of (parsed_in q).tree) same ∙ items) (ap (λ q. map parser.fault_of (parsed_in q).faults.items) same ∙ faults) plain well_typed
read_parsed text ts p (Err e) lexed within items faults same plain well_typed = tt

-- the same of what is kept of a text
pub read_kept : (text : List ℕ) (ts : List Tok) (tokens : List Token) (p : ParsedText) (r : Result ReadText AllocError) → map tok_of tokens ≡ ts → Lex text (map tok_of tokens) → AllWithin (length text) (map tok_of tokens)
    → trees_of (parsed_in p).tree ≡ items_of (named row_name (recover (grammar program_text) ts).0)
    → map parser.fault_of (parsed_in p).faults.items ≡ map told (recover (grammar program_text) ts).1
    → IfOk r (λ x. x.parsed ≡ p) → IfOk r (λ x. option_map plain_of x.plain ≡ plain_text (map tok_of tokens)) → IfOk r (λ x. x.is_well_typed ≡ is_well_typed (map tok_of tokens))
    → IfOk r (IsReadAs text)
read_kept text ts tokens p r are lexed within items faults same plain well_typed =
    read_parsed text (map tok_of tokens) p r lexed within (items ∙ ap (λ (l : List Tok). items_of (named row_name (recover (grammar program_text) l).0)) (sym are)) (faults ∙ ap (λ (l : List Tok). map told (recover (grammar program_text) l).1) (sym are)) same plain well_typed
