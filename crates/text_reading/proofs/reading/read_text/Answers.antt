use Rattle.std.proofs.Common.{List, ℕ, IfOk, arith, subst}
use Rattle.token_store.specs.Stored.{toks_of}
use Rattle.text_reading.specs.PlainTexts.{IsReadAs}
use Rattle.text_reading.specs.declared.structure.ParsedText.TheVariants.{Kept}
use Rattle.text_reading.proofs.ReadAs.{read_kept}
use Rattle.text_reading.proofs.reading.read_text.Goals as goal

pub read_tokens-requires : goal.read_tokens-requires
read_tokens-requires g c = record { few = omega (arith, c.in-Some-tokens.ensures.few) }

pub returns-in-Some-tokens-clause-read : goal.returns-in-Some-tokens-clause-read
returns-in-Some-tokens-clause-read g c =
    let kept = c.args.kept.now in
    let found = c.in-Some.ensures in
    let there = c.in-Some-tokens.ensures in
    read_kept kept.text (toks_of kept.tokens) c.in-Some-tokens.tokens.now (Kept c.in-Some.parsed) c.read_tokens.result there.kept there.lexed there.within found.tree found.faults c.read_tokens.ensures.parsed c.read_tokens.ensures.plain
    c.read_tokens.ensures.well_typed

pub returns-in-None-clause-read : goal.returns-in-None-clause-read
returns-in-None-clause-read g c = subst (λ (t : List ℕ). IfOk c.read_anew-in-None.result (IsReadAs t)) c.text-in-None.ensures c.read_anew-in-None.ensures.read

pub returns-in_default-clause-read : goal.returns-in_default-clause-read
returns-in_default-clause-read g c = subst (λ (t : List ℕ). IfOk c.read_anew.result (IsReadAs t)) c.text.ensures c.read_anew.ensures.read
