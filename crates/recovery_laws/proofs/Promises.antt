-- What holds of the parser's trees of a text, and of the trees in its grammar.
use Rattle.std.proofs.Common.{◌≡◌, ℕ, List, [], sym, ◌∙◌, ap, subst}
use Rattle.token_model.specs.Kinds.{Tok}
use Rattle.grammar_model.specs.Trees.{Tree, yield_of, holes_of}
use Rattle.grammar_model.specs.Grammar.{InGrammar}
use Rattle.recovery_model.specs.Steps as rules
use Rattle.recovery_model.specs.Steps.{Merged, left_out, added_in, IsRecovered}
use Rattle.grammar_model.specs.Ocaml.{rows, sizes, Text, root_of, grammar}
use Rattle.grammar_laws.proofs.Instance.{found, passes}
use Rattle.grammar_laws.proofs.Promises as of_rules
use Rattle.grammar_laws.proofs.Promises.{rows_tested}
use Rattle.recovery_model.specs.Recovery.{recover}
use Rattle.recovery_laws.proofs.Faultless as faultless
use Rattle.recovery_laws.proofs.Counted as counted
use Rattle.recovery_laws.proofs.Formed as formed

-- a text to which the rules for one token give no fault has their tree, and no fault
pub unchanged : (text : Text) (ts : List Tok) → (rules.recover (grammar text) ts).1 ≡ [] → recover (grammar text) ts ≡ rules.recover (grammar text) ts
unchanged text = faultless.unchanged (grammar text)

-- a text to which they give a fault has one
pub still_faulty : (text : Text) (ts : List Tok) → (recover (grammar text) ts).1 ≡ [] → (rules.recover (grammar text) ts).1 ≡ []
still_faulty text = faultless.still_faulty (grammar text)

-- tokens of a tree in the grammar are recovered as this tree, with no fault
pub recover_exact : (text : Text) (ts : List Tok) (T : Tree) → InGrammar (grammar text) ts T → recover (grammar text) ts ≡ (T, [])
recover_exact text ts T h = let e = of_rules.recover_exact text ts T h in unchanged text ts (ap (λ r. r.1) e) ∙ e

-- a tree that is recovered with no fault is in the grammar
pub recover_faultless : (text : Text) (ts : List Tok) → (recover (grammar text) ts).1 ≡ [] → InGrammar (grammar text) ts (recover (grammar text) ts).0
recover_faultless text ts h =
    let e = still_faulty text ts h in
    subst (λ r. InGrammar (grammar text) ts r.0) (sym (unchanged text ts e)) (of_rules.recover_faultless text ts e)

-- the tokens are those of the recovered tree and those left out, merged by place, and the faults count the missing parts
pub no_token_lost : (text : Text) (ts : List Tok) → Merged ts (yield_of (recover (grammar text) ts).0) (left_out (recover (grammar text) ts).1) × (holes_of (recover (grammar text) ts).0 ≡ added_in (recover (grammar text) ts).1)
no_token_lost text = counted.lossless (grammar text) (found (root_of text) sizes rows (rows_tested text))

-- a recovered tree is well formed apart from its missing parts, and at most 512 high
pub well_formed : (text : Text) (ts : List Tok) → IsRecovered (grammar text) (recover (grammar text) ts).0
well_formed text = formed.formed (grammar text) (found (root_of text) sizes rows (rows_tested text)) (passes (root_of text) sizes rows (rows_tested text))
