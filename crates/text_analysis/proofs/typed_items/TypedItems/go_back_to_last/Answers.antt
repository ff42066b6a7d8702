use Rattle.std.proofs.Common.{◌≡◌, ◌∙◌, length, take, sym, subst, ap}
use Rattle.text_analysis.specs.Items.{views_of}
use Rattle.text_analysis.specs.Points.{ArePoints}
use Rattle.text_analysis.specs.Typed.{AreChained}
use Rattle.text_analysis.specs.Weak.{AreFreeAt}
use Rattle.weak_variables.specs.Search.{lists_of}
use Rattle.text_analysis.proofs.FreeLaws.{lists_take}
use Rattle.text_analysis.proofs.TypedLaws.{length_views}
use Rattle.text_analysis.proofs.ChainLaws.{chained_back}
use Rattle.text_analysis.proofs.typed_items.TypedItems.go_back_to_last.Goals as goal

pub returns-in-Some-clause-typed : goal.returns-in-Some-clause-typed
returns-in-Some-clause-typed c = λ first env is.
    let old = c.args.self.now in
    let e = c.in-Some.ensures.items in
    let b = c.go_back.ensures in
    let trees = views_of old.items.items in
    let nss = lists_of old.free.items in
    let new = c.go_back.new.self in
    let cut : lists_of new.free.items ≡ take (length trees) nss = ap lists_of b.free ∙ lists_take (length old.items.items) old.free.items ∙ ap (λ k. take k nss) (sym (length_views old.items.items)) in
    subst (λ ts. AreChained first env (views_of ts.items) (lists_of new.free.items) new.points.items new.parts new.scene new.is_plain) (sym b.items)
    (subst (λ ms. AreChained first env trees ms new.points.items new.parts new.scene new.is_plain) (sym cut)
    (subst (λ ps. AreChained first env trees (take (length trees) nss) ps.items new.parts new.scene new.is_plain) (sym b.points)
    (subst (λ t. AreChained first env trees (take (length trees) nss) c.pop.new.self.items new.parts new.scene t) (sym b.plain)
    (chained_back trees nss c.pop.new.self.items c.in-Some.point (subst (λ ps. ArePoints first env trees ps old.parts) e is.0) (ap length (sym e) ∙ is.1) (subst (λ ps. AreFreeAt first env trees nss ps old.parts) e is.2) b.parts b.scope b.none))))
