use Rattle.std.proofs.Common.{◌≡◌, ◌∙◌, ◌+◌, ap, sym, subst, length, arith}
use Rattle.pattern_matrix.specs.Rows.{IsTold, AreUnused}
use Rattle.pattern_matrix.proofs.Telling.{none-yet, one-covered, one-useful}
use Rattle.pattern_matrix.proofs.Exactness.{those-unused}
use Rattle.pattern_matrix.proofs.rows.unused_rows.Goals as goal
use Rattle.pattern_matrix.proofs.rows.unused_rows.Goals.{then-branch+in_ok-put, else-branch}

pub loop-i-init : goal.loop-i-init
loop-i-init c = none-yet c.args.matrix.now.rows.items c.new-unused.result.items c.new-unused.ensures.items

pub loop-i-preserved : goal.loop-i-preserved
loop-i-preserved c =
    let rs = c.args.matrix.now.rows.items in
    let i = c.loop-i.i in
    let told = subst (λ xs. IsTold xs i c.in_ok-is_covered.field-0) c.deref-in-loop-i.ensures.value c.in_ok-is_covered.ensures in
    elim c.if-branch.branch [
      | then-branch+in_ok-put w ↦ one-covered rs i c.loop-i.unused.items c.if-branch.unused.items (subst (λ b. IsTold rs i b) w.if-branch.true told) c.loop-i.invariant
          (ap (λ v. v.items) w.unused-is ∙ w.in_ok-put.ensures)
      | else-branch w ↦ subst (λ v. AreUnused rs (i + 1) v.items) (sym w.unused-is) (one-useful rs i c.loop-i.unused.items (subst (λ b. IsTold rs i b) w.if-branch.false told) c.loop-i.invariant)
    ]

pub returns : goal.returns
returns c =
    let rs = c.args.matrix.now.rows.items in
    let all : c.loop-i.i ≡ length rs = omega arith in
    λ w ts s hs. those-unused rs w ts s hs (subst (λ n. AreUnused rs n c.loop-i.unused.items) all c.loop-i.invariant)
