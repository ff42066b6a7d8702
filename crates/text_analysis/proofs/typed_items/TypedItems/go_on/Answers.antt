use Rattle.std.proofs.Common.{◌≡◌, ◌∙◌, ◌+◌, ◌-◌, ◌++◌, ◌∷◌, [], suc, take, sym, ap, arith, rules}
use Rattle.syntax_tree.specs.Tallies.{counted}
use Rattle.analysis_api.specs.Typed.{more_typed}
use Rattle.text_analysis.specs.Items.{views_of}
use Rattle.text_analysis.proofs.Likeness.{taken_more, at_any}
use Rattle.text_analysis.proofs.typed_items.TypedItems.go_on.Goals as goal

pub loop-k-preserved : goal.loop-k-preserved
loop-k-preserved g c =
    let k = c.loop-k.k in
    let item = c.index-items-k.result in
    let (front, typed, lexed, shifted, grows, chained, listed) = c.loop-k.invariant in
    let done = c.in_ok-type_next.ensures.done in
    let more : k + 1 - c.args.place ≡ suc (k - c.args.place) = omega arith in
    let added = c.add_typed.ensures in (
      done ∙ ap (λ vs. vs ++ views_of (item ∷ [])) front ∙ taken_more c.args.items.now k item c.loop-k-test.true c.index-items-k.is,
      ap (λ t. t.typed) added ∙ ap counted typed ∙ sym (ap (λ n. more_typed n (g.C.Counts.tallies c.args.counts.now).typed) more),
      ap (λ t. t.lexed) added ∙ lexed,
      ap (λ t. t.shifted) added ∙ shifted,
      search rules,
      λ first env are. c.type_next.ensures.typed listed first env (chained first env are),
      c.in_ok-type_next.ensures.listed listed,
    )

pub returns-in_err-type_next-clause-failed : goal.returns-in_err-type_next-clause-failed
returns-in_err-type_next-clause-failed g c =
    let k = c.loop-k.k in
    let place = c.args.place in
    let (front, typed, lexed, shifted, grows, chained, listed) = c.loop-k.invariant in
    let within = c.loop-k-test.true in
    let whole : k ≡ place + (k - place) = let b = c.loop-k.auto.k in omega arith in
    at_any c.from_residual.result (
      k - place,
      omega arith,
      c.in_err-type_next.ensures.failed ∙ front ∙ ap (λ n. take n (views_of c.args.items.now)) whole,
      typed,
    )
