use Rattle.std.proofs.Common.{◌≡◌, ◌∙◌, ap, map, subst, List, ℕ, length, IfOk}
use Rattle.std.specs.Prelude.{option_map}
use Rattle.token_model.specs.Kinds.{AllWithin}
use Rattle.token_model.specs.Tokens.{Lex}
use Rattle.grammar_model.specs.Named.{named, items_of}
use Rattle.grammar_model.specs.Ocaml.{grammar, program_text, row_name}
use Rattle.recovery_model.specs.Recovery.{recover}
use Rattle.plain_model.specs.Plain.{plain_text}
use Rattle.service_model.specs.WellTyped.{is_well_typed}
use Rattle.syntax_tree.specs.View.{tok_of}
use Rattle.syntax_tree.specs.declared.tree.Token.{Token}
use Rattle.frame_steps.specs.Told.{told}
use Rattle.text_reading.specs.PlainTexts.{plain_of}
use Rattle.text_reading.specs.declared.structure.ParsedText.TheVariants.{New}
use Rattle.text_reading.proofs.ReadAs.{read_parsed}
use Rattle.text_reading.proofs.reading.read_anew.Goals as goal

pub returns-clause-read : goal.returns-clause-read
returns-clause-read g c =
    let text = c.args.store.now in
    let ts = c.in_ok-tokens.tokens.items in
    let lexed = subst (λ (t : List ℕ). Lex t (map tok_of ts)) c.slices.ensures.text c.in_ok-tokens.ensures.tokens in
    let within = subst (λ (t : List ℕ). AllWithin (length t) (map tok_of ts)) c.slices.ensures.text c.in_ok-tokens.ensures.within in
    read_parsed text (map tok_of ts) (New c.in_ok-parsed.parsed) c.read_tokens.result lexed within
    (c.in_ok-parsed.ensures.tree ∙ ap (λ (l : List Token). items_of (named row_name (recover (grammar program_text) (map tok_of l)).0)) c.deref.ensures.value)
    (c.in_ok-parsed.ensures.faults ∙ ap (λ (l : List Token). map told (recover (grammar program_text) (map tok_of l)).1) c.deref.ensures.value)
    c.read_tokens.ensures.parsed
    (subst (λ (l : List Token). IfOk c.read_tokens.result (λ x. option_map plain_of x.plain ≡ plain_text (map tok_of l))) c.deref-2.ensures.value c.read_tokens.ensures.plain)
    (subst (λ (l : List Token). IfOk c.read_tokens.result (λ x. x.is_well_typed ≡ is_well_typed (map tok_of l))) c.deref-2.ensures.value c.read_tokens.ensures.well_typed)
