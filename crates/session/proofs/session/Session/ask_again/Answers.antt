use Rattle.std.proofs.Common.{[], subst, sym, refl}
use Rattle.syntax_tree.specs.Tallies.{Tallies}
use Rattle.asked_node.specs.Trials.{AreReplaced}
use Rattle.json_lines.specs.Means.{said_of}
use Rattle.text_changes.specs.Changes.{changes_in, AreSaidOf, FitsText, IsSaidOf}
use Rattle.session.specs.Queries.{IsAnswered}
use Rattle.text_changes.specs.declared.changes.Proposal.{Proposal}
use Rattle.session.specs.Working.{TriesTexts}
use Rattle.session.proofs.Proposing.{tries_none}
use Rattle.session.proofs.Typing.{said_then}
use Rattle.session.proofs.Works.{texts_none}
use Rattle.session.proofs.session.Session.ask_again.Goals as goal

pub try_changes-requires : goal.try_changes-requires
try_changes-requires g c =
    let fits = subst (FitsText c.args.self.now.text) c.in-Tried.is c.in_ok-reply.ensures.fits in
    record { text = fits.0; placed = fits.1 }

pub returns-in-Said-clause-said : goal.returns-in-Said-clause-said
returns-in-Said-clause-said g c = c.in_ok-reply.ensures.answers (said_of c.in-Said.reply) (subst (λ (p : Proposal). IsSaidOf c.args.self.now.text p (said_of c.in-Said.reply)) (sym c.in-Said.is) refl)

pub returns-in-Tried-clause-said : goal.returns-in-Tried-clause-said
returns-in-Tried-clause-said g c =
    let text = c.args.self.now.text in
    said_then (AreSaidOf text c.in-Tried.candidates) (IsAnswered c.args.query.now text c.args.offset) c.try_changes.result
    (λ s told. c.in_ok-reply.ensures.answers s (subst (λ (p : Proposal). IsSaidOf text p s) (sym c.in-Tried.is) told)) c.try_changes.ensures.said

pub returns-in_err-reply-clause-tries : goal.returns-in_err-reply-clause-tries
returns-in_err-reply-clause-tries g c = λ changed known begun. (
  [],
  tries_none c.args.query.now c.args.self.now.text c.args.offset,
  texts_none g.A.Analyser.opens c.args.self.now c.args.self.now (g.C.Counts.tallies c.args.counts.now) (g.C.Counts.tallies c.propose.new.counts) refl (c.propose.ensures.idle changed known),
)

pub returns-in-Said-clause-tries : goal.returns-in-Said-clause-tries
returns-in-Said-clause-tries g c = λ changed known begun. (
  [],
  tries_none c.args.query.now c.args.self.now.text c.args.offset,
  texts_none g.A.Analyser.opens c.args.self.now c.args.self.now (g.C.Counts.tallies c.args.counts.now) (g.C.Counts.tallies c.propose.new.counts) refl (c.propose.ensures.idle changed known),
)

pub returns-in-Tried-clause-tries : goal.returns-in-Tried-clause-tries
returns-in-Tried-clause-tries g c = λ changed known begun.
    let text = c.args.self.now.text in
    let (texts, are, tries) = c.try_changes.ensures.tries in (
      texts,
      c.in_ok-reply.ensures.tries texts (subst (λ (p : Proposal). AreReplaced text (changes_in p) texts) (sym c.in-Tried.is) are),
      subst (λ (t : Tallies). TriesTexts g.A.Analyser.opens texts c.args.self.now c.try_changes.new.self t (g.C.Counts.tallies c.try_changes.new.counts)) (c.propose.ensures.idle changed known) (tries begun),
    )
