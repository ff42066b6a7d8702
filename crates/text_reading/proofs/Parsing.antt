-- What a text is parsed as, and how its outline is shown.
use Rattle.std.proofs.Common.{◌≡◌, ℕ, List, [], ◌∷◌, map, refl, ap, Result, Ok, Err, IfOk}
use Rattle.token_model.specs.Kinds.{Tok}
use Rattle.text_model.specs.Positions.{position_of}
use Rattle.text_terms.specs.Bytes.{str_bytes}
use Rattle.std.specs.declared.alloc.AllocError.{AllocError}
use Rattle.token_model.specs.Tokens.{Lex}
use Rattle.grammar_model.specs.Named.{named, items_of}
use Rattle.recovery_model.specs.Recovery.{recover}
use Rattle.grammar_model.specs.Ocaml.{grammar, program_text, row_name}
use Rattle.query_model.specs.Outlines.{Member, members_of}
use Rattle.service_model.specs.Replies as said
use Rattle.service_model.specs.Structure.{items_in, faults_in, shown_member, shown_members}
use Rattle.syntax_tree.specs.View.{tok_of, trees_of}
use Rattle.syntax_tree.specs.declared.tree.Token.{Token}
use Rattle.frame_steps.specs.Told.{told}
use Rattle.frame_steps.specs.View as parser
use Rattle.frame_parser.specs.declared.whole.Parsed.{Parsed}
use Rattle.text_queries.specs.Outlines.{member_of}
use Rattle.text_queries.specs.declared.outlines.Outlined.{Outlined, out-Outlined}
use Rattle.text_queries.proofs.Told.{told_faults}
use Rattle.text_queries.proofs.Views.{member_of_parts}
use Rattle.json_lines.specs.Means.{outline_kind_text, outline_of}
use Rattle.text_reading.specs.Structures.{IsParsedAs}

-- the tokens of a text, with what they are parsed as
pub parsed_as : (text : List ℕ) (ts : List Tok) (p : Parsed) → Lex text ts
    → trees_of p.tree ≡ items_of (named row_name (recover (grammar program_text) ts).0)
    → map parser.fault_of p.faults.items ≡ map told (recover (grammar program_text) ts).1
    → IsParsedAs text p
unfolding items_in faults_in
parsed_as text ts p lexed items faults = record {
  tokens = ts;
  lexed = lexed;
  items = items;
  faults = told_faults p.faults.items (recover (grammar program_text) ts).1 faults;
}

-- the same of what a parse answers
pub parsed : (text : List ℕ) (ts : List Token) (r : Result Parsed AllocError) → Lex text (map tok_of ts)
    → IfOk r (λ p. trees_of p.tree ≡ items_of (named row_name (recover (grammar program_text) (map tok_of ts)).0))
    → IfOk r (λ p. map parser.fault_of p.faults.items ≡ map told (recover (grammar program_text) (map tok_of ts)).1)
    → IfOk r (λ p. IsParsedAs text p)
parsed text ts (Ok p) lexed items faults = parsed_as text (map tok_of ts) p lexed items faults
parsed text ts (Err e) lexed items faults = tt

-- members that are shown one by one are shown together
pub outline_shown : (text : List ℕ) (ms : List Member) → outline_of (map (shown_member text) ms) ≡ shown_members text (members_of ms)
outline_shown text [] = refl
outline_shown text (m ∷ ms) = ap (said.next (shown_member text m)) (outline_shown text ms)

-- a member that is shown part by part
pub member_shown : (text : List ℕ) (m : Outlined) (start end : ℕ × ℕ) (name : List ℕ) (inside : said.Outline)
    → start ≡ position_of text (out-Outlined m).span.start → end ≡ position_of text (out-Outlined m).span.end → name ≡ str_bytes (out-Outlined m).name
    → inside ≡ shown_members text (members_of (map member_of (out-Outlined m).children.items))
    → said.outlined start end (outline_kind_text (out-Outlined m).kind) name inside ≡ shown_member text (member_of m)
member_shown text m start end name inside a b c d = rw (member_of_parts m) (rw (a, b, c, d) refl)
