-- What has been parsed: what is kept of a text's tokens, its tree and its faults.
use Rattle.std.specs.Prelude.{◌≡◌, ℕ, ◌+◌, ◌≤◌, List, [], ◌∷◌, ◌++◌, length, map, take}
use Rattle.token_model.specs.Kinds.{Tok}
use Rattle.tree_model.specs.Trees.{Tree}
use Rattle.grammar_model.specs.Named.{named, items_of}
use Rattle.grammar_model.specs.Ocaml.{Text, grammar, row_name}
use Rattle.recovery_model.specs.Recovery.{recover}
use Rattle.settled_laws.specs.Settled.{settled_in, Begins}
use Rattle.syntax_tree.specs.Tallies.{Tallies}
use Rattle.syntax_tree.specs.View.{trees_of}
use Rattle.syntax_rows.specs.View.{text_of}
use Rattle.frame_steps.specs.Told.{told}
use Rattle.frame_steps.specs.View.{fault_of}
use Rattle.frame_parser.specs.Behind.{Behind}
use Rattle.frame_parser.specs.Run.{all_shifts, faults, shifted_by}
use Rattle.resume_parser.specs.declared.kept.Passed.{Passed}
use Rattle.resume_parser.specs.declared.kept.KeptParse.{KeptParse}

-- what is kept of the tokens that follow others: the stack behind each, and how many faults came with the tokens up to it
abbrev pub ArePassed : Text → (before : List Tok) → List Tok → List Passed → Type 0
ArePassed text before [] [] = Unit {0}
ArePassed text before [] (s ∷ ss) = ⊥
ArePassed text before (t ∷ ts) [] = ⊥
ArePassed text before (t ∷ ts) (s ∷ ss) = Behind text (before ++ t ∷ []) s.stack × (s.faults ≡ length (faults text (before ++ t ∷ []))) × ArePassed text (before ++ t ∷ []) ts ss

-- the kind of text that is parsed
abbrev pub text_in : KeptParse → Text
text_in k = text_of k.text

-- two lists of items are equal as far as both go
abbrev pub Agree : List Tree → List Tree → Type 0
Agree xs ys = take (length ys) xs ≡ take (length xs) ys

-- what is kept of these tokens; the tree may be that of other tokens behind the items that are settled, and faults of others may follow theirs
pub record IsKept (ts : List Tok) (k : KeptParse) : Type 0 where
  pub start : Behind (text_in k) [] k.start
  pub passed : ArePassed (text_in k) [] ts k.steps.items
  pub items : Agree (trees_of k.parsed.tree) (settled_in (text_in k) ts)
  pub faults : take (length (faults (text_in k) ts)) (map fault_of k.parsed.faults.items) ≡ map told (faults (text_in k) ts)

-- these tokens have been parsed, and no others
unfoldable pub HasParsed : List Tok → KeptParse → Type 0
HasParsed ts k = IsKept ts k

-- these tokens have been parsed, the tree has settled items of theirs alone, and the faults are those that came with them
pub record IsBegun (ts : List Tok) (k : KeptParse) : Type 0 where
  pub start : Behind (text_in k) [] k.start
  pub passed : ArePassed (text_in k) [] ts k.steps.items
  pub items : Begins (trees_of k.parsed.tree) (settled_in (text_in k) ts)
  pub faults : map fault_of k.parsed.faults.items ≡ map told (faults (text_in k) ts)

-- the items of a text of these tokens
abbrev pub trees_behind : Text → List Tok → List Tree
trees_behind text ts = items_of (named row_name (recover (grammar text) ts).0)

-- these tokens have been parsed, and the tree and the faults that are kept are theirs
pub record IsWhole (ts : List Tok) (k : KeptParse) : Type 0 where
  pub parsed : HasParsed ts k
  pub tree : trees_of k.parsed.tree ≡ trees_behind (text_in k) ts
  pub faults : map fault_of k.parsed.faults.items ≡ map told (recover (grammar (text_in k)) ts).1

-- two texts have their first n items alike
pub record SharesFront (xs ys : List Tree) (n : ℕ) : Type 0 where
  pub left : n ≤ length xs
  pub right : n ≤ length ys
  pub same : take n xs ≡ take n ys

-- a counter behind the steps of all of a text's tokens but the first ones
pub record IsCounted (text : Text) (same : ℕ) (ts : List Tok) (before now : Tallies) : Type 0 where
  pub steps : ℕ
  pub others : all_shifts text ts ≡ all_shifts text (take same ts) + steps
  pub counted : now ≡ shifted_by steps before
