use Rattle.std.proofs.Common.{length}
use Rattle.syntax_rows.specs.Numbers.{key_number, sort_number}
use Rattle.frame_steps.specs.View.{text_table}
use Rattle.frame_steps.proofs.deep.+chain_length.Given as goal

abbrev pub decreases-chain_length : goal.decreases-chain_length
decreases-chain_length l = length ((text_table l.text).chain (sort_number l.sort) (key_number l.key))
