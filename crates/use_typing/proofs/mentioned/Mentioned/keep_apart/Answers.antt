use Rattle.std.proofs.Common.{◌∙◌, ◌++◌, drop, take, ap}
use Rattle.use_typing.proofs.Mentioning.{places_taken}
use Rattle.use_typing.proofs.mentioned.Mentioned.keep_apart.Goals as goal

pub invariant_of-self : goal.invariant_of-self
invariant_of-self c = places_taken c.self.inside.places c.self.inside.tokens.items c.truncate.new.self.items c.args.before c.truncate.ensures.items c.self.invariant

pub returns-clause-kept : goal.returns-clause-kept
returns-clause-kept c = c.truncate.ensures.items ∙ ap (λ v. take c.args.before v.items) c.self.view_is

pub returns-clause-moved : goal.returns-clause-moved
returns-clause-moved c = c.in_ok-push_all.ensures ∙ ap (λ xs. c.args.others.now.items ++ drop c.args.before xs) (c.deref.ensures.value ∙ ap (λ v. v.items) c.self.view_is)
