use Rattle.std.proofs.Common.{List, sym, subst}
use Rattle.type_terms.specs.declared.types.NodeRef.{NodeRef}
use Rattle.type_nodes.specs.Views.{numbers}
use Rattle.level_unify.specs.Copies.{table_of}
use Rattle.type_substitution.specs.Copying.{HaveCopies}
use Rattle.type_substitution.specs.Substituting.{IsSubstituted}
use Rattle.type_substitution.proofs.Copied.{image_substituted, from_after}
use Rattle.type_substitution.proofs.Made.{asked_copied}
use Rattle.type_substitution.proofs.substituted.Goals as goal

pub returns-clause-substituted : goal.returns-clause-substituted
returns-clause-substituted c =
    let old = c.args.store.now.nodes in
    let new = c.copy_all.new.store.nodes in
    let vs = numbers c.args.variables.now in
    let ts = numbers c.args.types.now in
    let T = table_of c.in_ok-copies.copies in
    let found = c.in_ok-found.found.items in
    let all = subst (λ (ns : List NodeRef). HaveCopies old T (numbers ns)) c.deref.ensures.value c.in_ok-copies.ensures.all in
    let has = asked_copied old new c.args.n.0 (numbers found) T c.in_ok-found.ensures.found c.copy_all.ensures.extends c.requires.node all in
    subst (IsSubstituted old new vs ts c.args.n.0) (sym c.image_of.ensures.image)
    (from_after old new vs ts c.args.n.0 _ c.copy_all.ensures.extends c.requires.variables (image_substituted new vs ts T c.args.n.0 c.in_ok-copies.ensures.copies has))
