use Rattle.std.proofs.Common.{◌≡◌, ◌∙◌, false, ap, rules}
use Rattle.std.specs.Str.{bytes_eq}
use Rattle.type_terms.specs.Views.{path_of}
use Rattle.type_print.proofs.Known.{known_here, known_later, known_skip}
use Rattle.type_print.proofs.printing.known_name.Goals as goal

pub returns-then-eq-clause-some : goal.returns-then-eq-clause-some
returns-then-eq-clause-some c f all =
    let here = known_here f c.args.known.now c.loop-k.k-index c.k-item.result c.loop-k-test.true c.k-item.is (c.loop-k.invariant.0 f all) in
    let same : c.k-item.result.path.items ≡ path_of c.args.origin.now = search rules in
    here ∙ ap f same

pub loop-k-preserved : goal.loop-k-preserved
loop-k-preserved c =
    let other : bytes_eq c.k-item.result.path.items (path_of c.args.origin.now) ≡ false = search rules in (
      λ f all. known_later f c.args.known.now c.loop-k.k-index c.k-item.result c.loop-k-test.true (c.loop-k.invariant.0 f all),
      c.loop-k.invariant.1 ∙ known_skip (path_of c.args.origin.now) c.args.known.now c.loop-k.k-index c.k-item.result c.loop-k-test.true c.k-item.is other,
    )
