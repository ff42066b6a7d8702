use Rattle.std.proofs.Common.{◌∙◌, sym, ap}
use Rattle.std.specs.Option.{option_copied}
use Rattle.use_typing.specs.Labels.{is_named_in, toks_of}
use Rattle.std.specs.Prelude.{slice_get}
use Rattle.use_typing.specs.Mentions.{found_at, named_at}
use Rattle.use_typing.proofs.Mentioning.{named_by}
use Rattle.use_typing.proofs.mentioned.Mentioned.has.Goals as goal

pub returns-in-Some : goal.returns-in-Some
returns-in-Some c =
    let n = c.args.name.now in
    let ts = toks_of c.self.inside.tokens.items in
    let known = named_by n ts (option_copied c.get.result) (λ i e. c.get.ensures.value ∙ c.self.invariant n i e) in
    c.is_name_at.ensures ∙ ap (λ v. named_at n (slice_get (toks_of v) c.in-Some.place.now)) c.deref.ensures.value ∙ ap (λ r. found_at n ts (option_copied r)) (sym c.in-Some.is) ∙ known ∙ ap (λ v. is_named_in n (toks_of v.items)) c.self.view_is

pub returns-in-None : goal.returns-in-None
returns-in-None c =
    let n = c.args.name.now in
    let ts = toks_of c.self.inside.tokens.items in
    let known = named_by n ts (option_copied c.get.result) (λ i e. c.get.ensures.value ∙ c.self.invariant n i e) in
    ap (λ r. found_at n ts (option_copied r)) (sym c.in-None.is) ∙ known ∙ ap (λ v. is_named_in n (toks_of v.items)) c.self.view_is
