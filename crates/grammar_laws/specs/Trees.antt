-- Finished trees as they are seen: with the names of their rows.
use Rattle.std.specs.Prelude.{◌≡◌, ℕ, ◌+◌, List}
use Rattle.token_model.specs.Kinds.{Tok}
use Rattle.tree_model.specs.Trees as plain
use Rattle.grammar_model.specs.Trees.{Tree}
use Rattle.grammar_model.specs.Grammar.{InGrammar}
use Rattle.grammar_model.specs.Named.{named}
use Rattle.grammar_model.specs.Ocaml.{Text, grammar, row_name}

-- a tree is in the grammar of a text, with these tokens, where it is the named form of a tree over the table that is
pub record IsTreeOf (text : Text) (ts : List Tok) (T : plain.Tree) : Type 0 where
  pub tree : Tree
  pub inside : InGrammar (grammar text) ts tree
  pub named : T ≡ named row_name tree

-- the number of the missing parts of a tree
abbrev mutual
  pub holes_of : plain.Tree → ℕ
  holes_of (plain.node r x ps) = forest_holes ps

  pub forest_holes : plain.Forest → ℕ
  forest_holes plain.no_parts = 0
  forest_holes (plain.part slot p ps) = part_holes p + forest_holes ps

  pub part_holes : plain.Part → ℕ
  part_holes (plain.taken t) = 0
  part_holes (plain.inner t) = holes_of t
  part_holes (plain.missing p) = 1
