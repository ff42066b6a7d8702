use Rattle.std.proofs.Common.{◌≡◌, ◌++◌, map, drop}
use denote.Ref.{Bor}
use Rattle.syntax_tree.specs.View.{tok_of}
use Rattle.syntax_tree.specs.declared.Token.{Token}
use Rattle.decl_groups.specs.Written.{declaration_view}
use Rattle.signature_typing.specs.TypeItems.{names_written}
use Rattle.signature_typing.proofs.items.names_in.Given as goal

-- the names so far, with those of the declarations that are left, are all
abbrev pub invariant-loop-part : goal.invariant-loop-part
invariant-loop-part l = map (λ (t : Bor Token). tok_of t.now) l.names.items ++ names_written (map declaration_view (drop l.part-index l.parts)) ≡ names_written (map declaration_view l.parts)
