-- What a member of an outline is said as.
use Rattle.std.proofs.Common.{◌≡◌, map}
use Rattle.std.specs.declared.vec.Vec.{Vec}
use Rattle.std.specs.declared.alloc.Global.{Global}
use Rattle.text_terms.specs.Bytes.{str_bytes}
use Rattle.text_terms.specs.declared.Pos.{Pos}
use Rattle.text_terms.specs.declared.RcStr.{RcStr}
use Rattle.service_model.specs.Replies as said
use Rattle.query_engine.specs.declared.slots.OutlineKind.{OutlineKind}
use Rattle.json_lines.specs.Meets.{pair_of}
use Rattle.json_lines.specs.Means.{outline_kind_text, outline_of, outlined_of, outlined_step}
use Rattle.json_lines.specs.declared.reply.Outlined.{Outlined, roll-Outlined, fold-roll-Outlined}

-- a member that is made is said as its places, its kind, its name and the members inside
pub made_is_said : (children : Vec Outlined Global) (start end : Pos) (kind : OutlineKind) (name : RcStr) → outlined_of (roll-Outlined (record { children = children; start = start; end = end; kind = kind; name = name })) ≡ said.outlined (pair_of start) (pair_of end) (outline_kind_text kind) (str_bytes name) (outline_of (map outlined_of children.items))
made_is_said children start end kind name = fold-roll-Outlined said.Outlined outlined_step (record { children = children; start = start; end = end; kind = kind; name = name })
