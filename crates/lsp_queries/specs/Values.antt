-- Replies of the line protocol that have a value.
use Rattle.std.specs.Prelude.{Option, Some, None}
use Rattle.service_model.specs.Replies.{Said, no_node, not_a_name, unbound, nothing_to_split, hidden_constructor, would_fault, not_a_hole, refused, bad_position, bad_range, splits_char, text_too_long, no_memory}

-- a reply that has a value; None for a failure, an error, or want of memory
abbrev pub value_of : Said → Option Said
value_of no_node = None
value_of not_a_name = None
value_of (unbound name) = None
value_of nothing_to_split = None
value_of (hidden_constructor name) = None
value_of (would_fault at) = None
value_of not_a_hole = None
value_of (refused why) = None
value_of (bad_position key) = None
value_of bad_range = None
value_of (splits_char key) = None
value_of (text_too_long bytes) = None
value_of no_memory = None
value_of s = Some s
