use Rattle.std.proofs.Common.{◌∙◌, ◌∷◌, List, [], map, codes, sym, ap}
use Rattle.std.proofs.lemmas.List.{map-append}
use Rattle.pattern_matrix.specs.Lines.{Typed, con, listed}
use Rattle.pattern_matrix.specs.Views.{typed_of}
use Rattle.pattern_matrix.specs.declared.patterns.Pat.{Pat}
use Rattle.match_warnings.specs.Patterns.{list_members}
use Rattle.match_warnings.proofs.Patterns.{list_before, list_more, list_whole}
use Rattle.match_warnings.proofs.pats.list.Goals as goal

pub loop-last-init : goal.loop-last-init
loop-last-init c =
    let ps = map typed_of c.args.parts.items in
    ap (λ (w : Typed). list_before w ps) (c.in_ok-whole.ensures ∙ ap (λ (xs : List Pat). con list_members (codes "[]") (listed (map typed_of xs))) c.new.ensures.items) ∙ list_whole ps

pub loop-last-preserved : goal.loop-last-preserved
loop-last-preserved c =
    let left = c.pop.new.self.items in
    let last = c.in-Some.last in
    let w = typed_of c.loop-last.whole in
    ap (λ (x : Typed). list_before x (map typed_of left)) c.in_ok-whole-2.ensures ∙ sym (list_more w (typed_of last) (map typed_of left))
    ∙ ap (list_before w) (sym (ap (map typed_of) c.in-Some.ensures.items ∙ map-append typed_of left (last ∷ []))) ∙ c.loop-last.invariant
