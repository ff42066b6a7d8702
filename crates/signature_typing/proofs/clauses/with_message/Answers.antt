use Rattle.std.proofs.Common.{◌≡◌, ◌∙◌, ℕ, List, ◌++◌, append_assoc}
use Rattle.std.specs.Prelude.{codes}
use Rattle.std.specs.Fmt.{decimal}
use Rattle.std.proofs.lemmas.Result.{IfOk-weaker}
use Rattle.signature_typing.proofs.clauses.with_message.Goals as goal

-- the pieces of a message may be put together from either end
pieces : (a n w d e : List ℕ) → a ++ (n ++ (w ++ (d ++ e))) ≡ a ++ n ++ w ++ d ++ e
pieces a n w d e = simp append_assoc

pub returns : goal.returns
returns c = IfOk-weaker c.format.result _ _ (λ t is. is ∙ pieces (codes "The signature has no abstract type ") c.args.name.now (codes " with ") (decimal c.args.arity) (codes " parameters")) c.format.ensures.ok
