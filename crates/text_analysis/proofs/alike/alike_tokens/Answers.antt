use Rattle.std.proofs.Common.{◌∙◌, sym, ap}
use Rattle.std.proofs.lemmas.Slice.Eq.{bytes_eq-Decides}
use denote.Enum.Bare.{differs_false, differs_true}
use Rattle.text_terms.specs.Bytes.{str_bytes}
use Rattle.syntax_tree.specs.contracts.kinds.TokenKind.{the_type}
use Rattle.text_analysis.proofs.Likeness.{ends_differ, same_ends, tokens_alike}
use Rattle.text_analysis.proofs.OneName.{kinds_are_one}
use Rattle.text_analysis.proofs.alike.alike_tokens.Goals as goal
use Rattle.text_analysis.proofs.alike.alike_tokens.Goals.{then-ne-via-then-ne, then-ne-via-else-ne+then-ne-2, then-ne-via-else-ne+else-ne-2+then-left-right}

pub returns-then-ne-clause-all : goal.returns-then-ne-clause-all
returns-then-ne-clause-all c h =
    let a = c.args.left.now in
    let b = c.args.right.now in
    elim c.then-ne.branch [
      | then-ne-via-then-ne w ↦ absurd (differs_true the_type a.kind b.kind (sym w.if-ne.ensures) (kinds_are_one a.kind b.kind (ap (λ t. t.kind) h)))
      | then-ne-via-else-ne+then-ne-2 w ↦ absurd (ends_differ a.span.start b.span.start a.span.end b.span.end w.if-ne-2.ensures (ap (λ t. t.start) h) (ap (λ t. t.end) h))
      | then-ne-via-else-ne+else-ne-2+then-left-right w ↦ absurd (w.if-left-right.true (ap (λ t. t.col) h))
    ]

pub returns-clause-alike : goal.returns-clause-alike
returns-clause-alike c h =
    let a = c.args.left.now in
    let b = c.args.right.now in
    let (s, e) = same_ends a.span.start b.span.start a.span.end b.span.end c.if-ne-2.ensures in
    let n = (bytes_eq-Decides (str_bytes a.name) c.as_str.result.now).0 (sym c.is.ensures ∙ h) in
    tokens_alike a b (differs_false the_type tt a.kind b.kind (sym c.if-ne.ensures)) s e c.if-left-right.false (n ∙ c.as_str.ensures)
