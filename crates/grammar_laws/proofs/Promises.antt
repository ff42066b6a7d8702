-- What holds of recovered trees and of the trees in the grammar of a text.
use Rattle.std.proofs.Common.{◌≡◌, ℕ, List, Some, [], refl}
use Rattle.token_model.specs.Kinds.{Tok}
use Rattle.grammar_model.specs.Trees.{Tree, yield_of, holes_of}
use Rattle.grammar_model.specs.Grammar.{InGrammar}
use Rattle.grammar_model.specs.Rows.{chain_of, grower_of}
use Rattle.recovery_model.specs.Steps.{recover, Merged, left_out, added_in, IsRecovered}
use Rattle.grammar_model.specs.Rows.{Left}
use Rattle.grammar_model.specs.Separate.{AreSeparate, IsRowFor, row_for}
use Rattle.recovery_model.specs.Tested.{Tested}
use Rattle.grammar_model.specs.Ocaml.{rows, sizes, Text, program_text, interface_text, root_of, grammar}
use Rattle.grammar_laws.proofs.Instance.{separate, found, ends, passes}
use Rattle.grammar_laws.proofs.Separated as separated
use Rattle.grammar_laws.proofs.Exact as exact
use Rattle.grammar_laws.proofs.Faultless as faultless
use Rattle.grammar_laws.proofs.Counted as counted
use Rattle.grammar_laws.proofs.Formed as formed

-- the rows of the language pass the tests
pub rows_tested : (text : Text) → Tested (root_of text) sizes rows
unfolding rows chain_of grower_of
rows_tested program_text = record { starts = refl; never_empty = refl; alone = refl; lefts = refl; spots = refl; chains = refl; growers = refl; whole = refl }
rows_tested interface_text = record { starts = refl; never_empty = refl; alone = refl; lefts = refl; spots = refl; chains = refl; growers = refl; whole = refl }

-- no sort has two rows of one key at one place
pub rows_are_separate : (text : Text) → AreSeparate (grammar text)
rows_are_separate text = separated.are_separate (grammar text) (separate (root_of text) sizes rows (rows_tested text))

-- the row that is found has the sort, the left operand and the key
pub row_for_is : (text : Text) (s : ℕ) (l : Left) (k r : ℕ) → row_for sizes rows s l k ≡ Some r → IsRowFor (grammar text) rows s l k r
row_for_is text = separated.row_for_is (root_of text) sizes rows (found (root_of text) sizes rows (rows_tested text))

-- the row of the sort, the left operand and the key is found
pub is_row_for : (text : Text) (s : ℕ) (l : Left) (k r : ℕ) → IsRowFor (grammar text) rows s l k r → row_for sizes rows s l k ≡ Some r
is_row_for text = separated.is_row_for (root_of text) sizes rows (separate (root_of text) sizes rows (rows_tested text))

-- at most one tree in the grammar has these tokens
pub one_tree : (text : Text) (ts : List Tok) (T U : Tree) → InGrammar (grammar text) ts T → InGrammar (grammar text) ts U → T ≡ U
one_tree text = exact.unique (grammar text) (separate (root_of text) sizes rows (rows_tested text))

-- tokens of a tree in the grammar are recovered as this tree, with no fault
pub recover_exact : (text : Text) (ts : List Tok) (T : Tree) → InGrammar (grammar text) ts T → recover (grammar text) ts ≡ (T, [])
recover_exact text = faultless.exact (grammar text) (separate (root_of text) sizes rows (rows_tested text))

-- a tree that is recovered with no fault is in the grammar
pub recover_faultless : (text : Text) (ts : List Tok) → (recover (grammar text) ts).1 ≡ [] → InGrammar (grammar text) ts (recover (grammar text) ts).0
recover_faultless text = faultless.faultless (grammar text) (found (root_of text) sizes rows (rows_tested text)) (ends (root_of text) sizes rows (rows_tested text))

-- the tokens are those of the recovered tree and those left out, merged by place, and the faults count the missing parts
pub no_token_lost : (text : Text) (ts : List Tok) → Merged ts (yield_of (recover (grammar text) ts).0) (left_out (recover (grammar text) ts).1) × (holes_of (recover (grammar text) ts).0 ≡ added_in (recover (grammar text) ts).1)
no_token_lost text = counted.lossless (grammar text) (found (root_of text) sizes rows (rows_tested text))

-- a recovered tree is well formed apart from its missing parts, and at most 512 high
pub well_formed : (text : Text) (ts : List Tok) → IsRecovered (grammar text) (recover (grammar text) ts).0
well_formed text = formed.formed (grammar text) (found (root_of text) sizes rows (rows_tested text)) (passes (root_of text) sizes rows (rows_tested text))
