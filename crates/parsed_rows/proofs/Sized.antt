-- The named form of a tree tells its true sizes.
use Rattle.std.proofs.Common.{ℕ}
use Rattle.std.specs.Prelude.{All}
use Rattle.std.proofs.lemmas.List.Elements.{All-head, All-tail}
use Rattle.tree_model.specs.Rows.{Row}
use Rattle.tree_model.specs.Trees as plain
use Rattle.tree_model.specs.Trees.{IsSized, AreSized, IsPartSized, AreItemsSized}
use Rattle.tree_model.proofs.Extents.{node_over_sized}
use Rattle.grammar_model.specs.Trees.{Tree, Forest, Part, node, no_parts, part, taken, inner, missing}
use Rattle.grammar_model.specs.Named.{named, named_parts, named_part, forest_items, items_of}
use Rattle.parsed_rows.specs.Items.{IsSmall}

mutual
  -- each tree does
  pub tree_sized : (name : ℕ → Row) (T : Tree) → IsSized (named name T)
  tree_sized name (node r f) = node_over_sized (name r) (named_parts name f) (parts_sized name f)

  parts_sized : (name : ℕ → Row) (f : Forest) → AreSized (named_parts name f)
  parts_sized name no_parts = tt
  parts_sized name (part p c f) = (part_sized name c, parts_sized name f)

  part_sized : (name : ℕ → Row) (c : Part) → IsPartSized (named_part name c)
  part_sized name (taken t) = tt
  part_sized name (inner t) = tree_sized name t
  part_sized name (missing at) = tt

forest_sized : (ps : plain.Forest) → AreSized ps → All IsSmall (forest_items ps) → AreItemsSized (forest_items ps)
forest_sized plain.no_parts sized small = tt
forest_sized (plain.part s (plain.taken t) ps) sized small = forest_sized ps sized.1 small
forest_sized (plain.part s (plain.inner t) ps) sized small = (sized.0, All-head IsSmall t (forest_items ps) small, forest_sized ps sized.1 (All-tail IsSmall t (forest_items ps) small))
forest_sized (plain.part s (plain.missing at) ps) sized small = forest_sized ps sized.1 small

-- so do the items of a tree, where they are small
pub items_sized : (name : ℕ → Row) (T : Tree) → All IsSmall (items_of (named name T)) → AreItemsSized (items_of (named name T))
items_sized name (node r f) small = forest_sized (named_parts name f) (parts_sized name f) small
