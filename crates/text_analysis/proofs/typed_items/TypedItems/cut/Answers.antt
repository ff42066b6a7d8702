use Rattle.std.proofs.Common.{◌≡◌, ◌∙◌, ◌+◌, ◌<◌, length, take, sym, ap, subst, arith}
use Rattle.text_analysis.specs.Items.{views_of}
use Rattle.text_analysis.specs.Points.{ArePoints}
use Rattle.text_analysis.specs.Weak.{AreFreeAt}
use Rattle.weak_variables.specs.Search.{lists_of}
use Rattle.text_analysis.proofs.Likeness.{views_take}
use Rattle.text_analysis.proofs.ChainLaws.{chained_cut}
use Rattle.text_analysis.proofs.typed_items.TypedItems.cut.Goals as goal

pub returns-clause-typed : goal.returns-clause-typed
returns-clause-typed c = λ first env are.
    let old = c.args.self.now in
    let place = c.args.place in
    let lt : place < length old.points.items = let n = c.if-place-len.false in let l = c.len.ensures in omega arith in
    let ps = c.truncate-2.new.self.items in
    let nss = lists_of old.free.items in
    let front = take place (views_of old.items.items) in
    c.find_names-2.ensures.typed first env (c.go_back_to_last.ensures.typed first env
    (subst (λ ts. ArePoints first env ts ps old.parts × (length ps ≡ length ts + 1) × AreFreeAt first env ts nss ps old.parts) (sym (ap views_of c.truncate.ensures.items ∙ views_take old.items.items place))
    (subst (λ qs. ArePoints first env front qs old.parts × (length qs ≡ length front + 1) × AreFreeAt first env front nss qs old.parts) (sym c.truncate-2.ensures.items) (chained_cut (views_of old.items.items) old.points.items place are lt))))
