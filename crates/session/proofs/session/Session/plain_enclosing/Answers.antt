use Rattle.std.proofs.Common.{subst, List, ℕ, ap}
use Rattle.text_reading.specs.PlainTexts.{IsReadAs}
use Rattle.session.specs.Working.{Held}
use Rattle.session.proofs.Typing.{plain_within}
use Rattle.session.proofs.session.Session.plain_enclosing.Goals as goal

pub plain_types-requires-clause-within : goal.plain_types-requires-clause-within
plain_types-requires-clause-within g c =
    let read = subst (λ (t : List ℕ). IsReadAs t c.in_ok-read.read) (ap (λ (h : Held). h.text) c.self.view_is) c.in_ok-read.ensures.read in
    plain_within c.args.self.now.text c.in_ok-read.read c.in-Some.plain read c.in-Some.is
