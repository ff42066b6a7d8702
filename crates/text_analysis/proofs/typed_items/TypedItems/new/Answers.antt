use Rattle.std.proofs.Common.{[], true, sym, subst}
use Rattle.text_analysis.specs.Items.{views_of}
use Rattle.text_analysis.specs.Typed.{AreChained}
use Rattle.weak_variables.specs.Search.{lists_of}
use Rattle.text_analysis.proofs.ChainLaws.{chained_none}
use Rattle.text_analysis.proofs.typed_items.TypedItems.new.Goals as goal

pub returns-clause-typed : goal.returns-clause-typed
returns-clause-typed c = λ opens.
    let at = c.args.parts in
    subst (λ ns. AreChained at c.args.first (views_of ns) (lists_of c.new-4.result.items) c.new-2.result.items at c.new.result true) (sym c.new-3.ensures.items)
    (subst (λ vs. AreChained at c.args.first [] (lists_of vs) c.new-2.result.items at c.new.result true) (sym c.new-4.ensures.items)
    (subst (λ ps. AreChained at c.args.first [] [] ps at c.new.result true) (sym c.new-2.ensures.items)
    (chained_none at c.args.first c.new.result opens c.new.ensures.env c.new.ensures.names)))
