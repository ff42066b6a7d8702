-- What a member of an outline has.
use Rattle.std.proofs.Common.{◌≡◌, map}
use Rattle.text_terms.specs.Bytes.{str_bytes}
use Rattle.query_model.specs.Outlines.{Member, member, members_of}
use Rattle.syntax_tree.specs.View.{place_of}
use Rattle.query_engine.specs.View.{kind_of}
use Rattle.text_queries.specs.Outlines.{member_of, outlined_step}
use Rattle.text_queries.specs.declared.outlines.Outlined.{Outlined, out-Outlined, fold_out-Outlined}

-- a member is its kind, its name, its place and the members inside
pub member_of_parts : (m : Outlined) → member_of m ≡ member (kind_of (out-Outlined m).kind) (str_bytes (out-Outlined m).name) (place_of (out-Outlined m).span) (members_of (map member_of (out-Outlined m).children.items))
member_of_parts m = fold_out-Outlined Member outlined_step m
