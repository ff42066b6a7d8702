use Rattle.std.proofs.Common.{◌∙◌, take, sym, ap, subst}
use Rattle.analysis_api.specs.Typed.{SameFront}
use Rattle.text_analysis.specs.Items.{views_of}
use Rattle.text_analysis.proofs.Likeness.{views_take, at_any, cut_only}
use Rattle.text_analysis.proofs.KnownLaws.{known_kept}
use Rattle.text_analysis.proofs.kept.TyperAnalyser.refresh.Goals as goal

pub common_front-same-requires : goal.common_front-same-requires
common_front-same-requires g c =
    subst (λ ns. SameFront (views_of ns) (views_of c.deref-2.result.now) c.args.front) (sym c.deref.ensures.value)
    (subst (λ ns. SameFront (views_of c.args.self.now.typed.items.items) (views_of ns) c.args.front) (sym c.deref-2.ensures.value) c.requires.front)

pub returns-in_err-cut-clause-failed : goal.returns-in_err-cut-clause-failed
returns-in_err-cut-clause-failed g c =
    at_any c.from_residual.result (cut_only c.deref.result.now c.args.self.now.typed.items.items c.deref-2.result.now c.args.tree.now.items.items c.cut.new.self.items.items (g.C.Counts.tallies c.args.counts.now).typed c.common_front-same.result c.deref.ensures.value c.deref-2.ensures.value c.common_front-same.ensures c.cut.ensures.items)

pub go_on-requires-clause-front : goal.go_on-requires-clause-front
go_on-requires-clause-front g c =
    let n = c.common_front-same.result in
    ap views_of c.cut.ensures.items ∙ views_take c.args.self.now.typed.items.items n ∙ ap (λ ns. take n (views_of ns)) (sym c.deref.ensures.value)
    ∙ c.common_front-same.ensures.front.same ∙ ap (λ ns. take n (views_of ns)) (c.deref-2.ensures.value ∙ sym c.deref-3.ensures.value)

pub invariant_of-self : goal.invariant_of-self
invariant_of-self g c = record { known = known_kept c.args.self.now.typed c.cut.new.self c.args.self.now.known c.cut.ensures.typed }

pub invariant_of-self-in-Break-branch-2 : goal.invariant_of-self-in-Break-branch-2
invariant_of-self-in-Break-branch-2 g c = record { known = known_kept c.cut.new.self c.go_on.new.self (known_kept c.args.self.now.typed c.cut.new.self c.args.self.now.known c.cut.ensures.typed) c.go_on.ensures.chained }

pub invariant_of-self-in-Break-branch-3 : goal.invariant_of-self-in-Break-branch-3
invariant_of-self-in-Break-branch-3 g c = record { known = known_kept c.cut.new.self c.go_on.new.self (known_kept c.args.self.now.typed c.cut.new.self c.args.self.now.known c.cut.ensures.typed) c.go_on.ensures.chained }

pub invariant_of-self-2 : goal.invariant_of-self-2
invariant_of-self-2 g c = record { known = known_kept c.cut.new.self c.go_on.new.self (known_kept c.args.self.now.typed c.cut.new.self c.args.self.now.known c.cut.ensures.typed) c.go_on.ensures.chained }

pub returns-clause-settled : goal.returns-clause-settled
returns-clause-settled g c = c.in_ok-self.ensures
