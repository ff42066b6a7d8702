-- What the types, names and typed nodes of the code stand for.
use Rattle.std.specs.Prelude.{ℕ, List, map, reverse, Option, Some, None}
use Rattle.std.specs.declared.rc.Rc.{Rc}
use Rattle.std.specs.declared.alloc.Global.{Global}
use Rattle.token_model.specs.Kinds.{Tok}
use Rattle.tree_model.specs.Trees.{Tree, Part, taken, inner, missing}
use Rattle.plain_model.specs.Plain as plain
use Rattle.syntax_tree.specs.View.{id_of, node_view, place_of, tok_of}
use Rattle.syntax_tree.specs.declared.tree.Node.{Node}
use Rattle.plain_typing.specs.declared.terms.Plain.{Plain}
use Rattle.plain_typing.specs.declared.terms.Plain.TheVariants as code
use Rattle.plain_typing.specs.declared.terms.PlainSeen.{PlainSeen}
use Rattle.plain_typing.specs.declared.bound.Bound.{Bound}
use Rattle.plain_typing.specs.declared.scope.Typed.{Typed}

-- the type that is meant
abbrev pub plain_of : Plain → plain.Plain
plain_of code.Int = plain.int_type
plain_of code.Str = plain.str_type
plain_of code.Bool = plain.bool_type

-- a typed node: which it is, where it stands, its type
abbrev pub seen_of : PlainSeen → plain.Seen
seen_of s = record { id = id_of s.id; span = place_of s.span; ty = plain_of s.ty }

-- the name and the value of an item
abbrev pub bound_of : Bound → Tok × Tok
bound_of b = (tok_of b.name.now, tok_of b.value.now)

-- a name by its bytes, with its type
abbrev pub typed_of : Typed → List ℕ × plain.Plain
typed_of t = (t.name.now, plain_of t.ty)

-- the names with their types, the newest first
abbrev pub env_of : List Typed → List (List ℕ × plain.Plain)
env_of ts = reverse (map typed_of ts)

-- the token that a part is
abbrev pub taken_in : Part → Option Tok
taken_in (taken t) = Some t
taken_in (inner t) = None
taken_in (missing p) = None

-- the plain trees of shared nodes
abbrev pub views : List (Rc Node Global) → List Tree
views ns = map (λ n. node_view n.value) ns
