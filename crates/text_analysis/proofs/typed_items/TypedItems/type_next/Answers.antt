use Rattle.std.proofs.Common.{◌≡◌, ◌∙◌, ◌+◌, ◌++◌, ◌∷◌, [], length, sym, ap, subst, arith}
use Rattle.syntax_tree.specs.View.{node_view}
use Rattle.text_analysis.specs.Items.{views_of}
use Rattle.text_analysis.specs.Points.{EndsAt, ArePoints}
use Rattle.text_analysis.specs.Typed.{AreChained}
use Rattle.text_analysis.specs.Weak.{HasFree, AreFreeAt}
use Rattle.weak_variables.specs.Search.{lists_of}
use Rattle.text_analysis.proofs.FreeLaws.{found_go}
use Rattle.text_analysis.proofs.PointLaws.{points_go}
use Rattle.text_analysis.proofs.ChainLaws.{chained_begun, chained_more}
use Rattle.text_analysis.proofs.TypedLaws.{length_views, at_err, at_ok, none_ok}
use Rattle.text_analysis.proofs.typed_items.TypedItems.type_next.Goals as goal

pub returns-then-is_err-clause-typed : goal.returns-then-is_err-clause-typed
returns-then-is_err-clause-typed c = λ listed first env are.
    let old = c.args.self.now in
    let new = c.type_after-typed.new.self in
    let trees = views_of old.items.items in
    let number = c.in_ok-number.number in
    let here : number ≡ length old.items.items + 1 = let e = c.in_ok-number.ensures in let n = c.len.ensures in let listed = old.items.ok in omega arith in
    let next : number ≡ length trees + 1 = here ∙ ap (λ n. n + 1) (sym (length_views old.items.items)) in
    let points : old.points.items ++ c.in_ok-point.point ∷ [] ≡ new.points.items = sym c.in_ok-push.ensures.pushed ∙ ap (λ ps. ps.items) (sym c.type_after-typed.ensures.points) in
    let b = chained_begun c.in_ok-point.point number are c.in_ok-point.ensures next in
    let same : views_of new.items.items ≡ trees = ap views_of (at_err c.type_after-typed.result (sym c.is_err.ensures.value ∙ c.if-is_err.true) c.type_after-typed.ensures.failed) in
    c.go_back_to_last.ensures.typed first env
    (subst (λ ts. ArePoints first env ts new.points.items new.parts × (length new.points.items ≡ length ts + 1) × AreFreeAt first env ts (lists_of new.free.items) new.points.items new.parts) (sym same)
    (subst (λ ps. ArePoints first env trees ps new.parts × (length ps ≡ length trees + 1) × AreFreeAt first env trees (lists_of new.free.items) ps new.parts) points
    (points_go trees number b.0 c.type_after-typed.ensures.goes next, b.1, found_go old new trees number b c.type_after-typed.ensures.goes c.type_after-typed.ensures.free are.has_free.counted)))

pub returns-else-is_err-clause-typed : goal.returns-else-is_err-clause-typed
returns-else-is_err-clause-typed c = λ listed first env are.
    let old = c.args.self.now in
    let new = c.type_after-typed.new.self in
    let trees = views_of old.items.items in
    let tree = node_view c.args.item.now.value in
    let number = c.in_ok-number.number in
    let here : number ≡ length old.items.items + 1 = let e = c.in_ok-number.ensures in let n = c.len.ensures in let listed = old.items.ok in omega arith in
    let next : number ≡ length trees + 1 = here ∙ ap (λ n. n + 1) (sym (length_views old.items.items)) in
    let points : old.points.items ++ c.in_ok-point.point ∷ [] ≡ new.points.items = sym c.in_ok-push.ensures.pushed ∙ ap (λ ps. ps.items) (sym c.type_after-typed.ensures.points) in
    let b = chained_begun c.in_ok-point.point number are c.in_ok-point.ensures next in
    let ok = sym c.is_err.ensures.value ∙ c.if-is_err.false in
    let more : views_of new.items.items ≡ trees ++ tree ∷ [] = at_ok c.type_after-typed.result ok c.type_after-typed.ensures.done in
    let ends = at_ok c.type_after-typed.result ok c.type_after-typed.ensures.ends here listed first env (are.ends, are.has_free) in
    subst (λ ts. AreChained first env ts (lists_of new.free.items) new.points.items new.parts new.scene new.is_plain) (sym more)
    (subst (λ ps. AreChained first env (trees ++ tree ∷ []) (lists_of new.free.items) ps new.parts new.scene new.is_plain) points
    (chained_more trees tree (points_go trees number b.0 c.type_after-typed.ensures.goes next) b.1 (found_go old new trees number b c.type_after-typed.ensures.goes c.type_after-typed.ensures.free are.has_free.counted)
    (subst (λ ts. EndsAt first env ts new.parts new.scene new.is_plain) more ends.0) (subst (λ ts. HasFree first env ts new.parts.store.nodes new.scene.env (lists_of new.free.items)) more ends.1)))

pub returns-then-is_err-clause-listed : goal.returns-then-is_err-clause-listed
returns-then-is_err-clause-listed c = none_ok _ c.type_after-typed.result (sym c.is_err.ensures.value ∙ c.if-is_err.true)

pub returns-else-is_err-clause-listed : goal.returns-else-is_err-clause-listed
returns-else-is_err-clause-listed c = c.type_after-typed.ensures.listed
