use Rattle.std.proofs.Common.{◌∙◌, subst, sym, refl, List, ℕ, IfOk}
use Rattle.json_lines.specs.Means.{said_of}
use Rattle.text_changes.specs.Changes.{AreSaidOf, FitsText, IsSaidOf}
use Rattle.session.specs.Queries.{IsAnswered}
use Rattle.text_changes.specs.declared.changes.Proposal.{Proposal}
use Rattle.session.proofs.Proposing.{never_tried}
use Rattle.session.proofs.Typing.{said_then}
use Rattle.session.proofs.session.Session.ask_trying.Goals as goal

pub try_all-requires : goal.try_all-requires
try_all-requires g c =
    let fits = subst (FitsText c.args.self.now.text) c.in-Tried.is c.in_ok-reply.ensures.fits in
    record { text = fits.0 ∙ sym c.text.ensures; placed = fits.1 }

pub returns-in-Said-clause-said : goal.returns-in-Said-clause-said
returns-in-Said-clause-said g c = c.in_ok-reply.ensures.answers (said_of c.in-Said.reply) (subst (λ (p : Proposal). IsSaidOf c.args.self.now.text p (said_of c.in-Said.reply)) (sym c.in-Said.is) refl)

pub returns-in-Tried-clause-said : goal.returns-in-Tried-clause-said
returns-in-Tried-clause-said g c =
    let text = c.args.self.now.text in
    said_then (AreSaidOf text c.in-Tried.candidates) (IsAnswered c.args.query.now text c.args.offset) c.try_all.result
    (λ s told. c.in_ok-reply.ensures.answers s (subst (λ (p : Proposal). IsSaidOf text p s) (sym c.in-Tried.is) told))
    (subst (λ (t : List ℕ). IfOk c.try_all.result (λ r. AreSaidOf t c.in-Tried.candidates (said_of r))) c.text.ensures c.try_all.ensures.said)

pub returns-in-Tried-clause-idle : goal.returns-in-Tried-clause-idle
returns-in-Tried-clause-idle g c = λ changed known not. absurd (never_tried _ _ (c.in_ok-reply.ensures.alone not) c.in-Tried.is refl)
