use Rattle.std.proofs.Common.{◌∙◌, inr, subst, sym, ap, List, ℕ, IfOk}
use Rattle.kept_text.specs.Keeping.{trees_in}
use Rattle.json_lines.specs.Means.{said_of}
use Rattle.asked_node.specs.Trials.{AreReplaced}
use Rattle.text_reading.specs.Types.{held, known, known_front}
use Rattle.text_reading.proofs.Fronts.{front_of_none}
use Rattle.text_reading.proofs.Knowing.{unknown}
use Rattle.text_changes.specs.Changes.{candidates_in, AreSaidOf}
use Rattle.session.specs.Working.{Held}
use Rattle.session.proofs.session.Session.try_changes.Goals as goal

pub try_all-reply-requires : goal.try_all-reply-requires
try_all-reply-requires g c = record { text = c.requires.text ∙ sym (ap (λ (h : Held). h.text) c.self.view_is) ∙ sym c.text-store.ensures; placed = c.requires.placed }

pub invariant_of-self : goal.invariant_of-self
invariant_of-self g c =
    let kept = c.self.inside.kept in
    let types = c.return_typer.result in
    record {
      of_text = unknown kept.text (known g.A.Analyser.items types) c.return_typer.ensures.unknown;
      of_tree = front_of_none (held g.A.Analyser.items types) (trees_in kept.tokens) (known_front types) c.return_typer.ensures.front;
    }

pub returns-clause-said : goal.returns-clause-said
returns-clause-said g c = subst (λ (t : List ℕ). IfOk c.try_all-reply.result (λ r. AreSaidOf t c.args.candidates (said_of r))) (c.text-store.ensures ∙ ap (λ (h : Held). h.text) c.self.view_is) c.try_all-reply.ensures.said

pub returns-clause-tries : goal.returns-clause-tries
returns-clause-tries g c =
    let (texts, are, tries) = c.try_all-reply.ensures.tries in (
      texts,
      subst (λ (t : List ℕ). AreReplaced t (candidates_in c.args.candidates) texts) (c.text-store.ensures ∙ ap (λ (h : Held). h.text) c.self.view_is) are,
      λ begun. record {
        first = c.borrow_typer.new.self;
        last = c.try_all-reply.new.tried;
        tries = tries;
        begun = c.borrow_typer.ensures.given.0 ∙ ap (λ (h : Held). h.begun) c.self.view_is;
        holds = c.borrow_typer.ensures.given.1 ∙ ap (λ (h : Held). h.holds) c.self.view_is;
        still_begun = c.return_typer.ensures.given.0;
        now_holds = c.return_typer.ensures.given.1;
        ready = inr begun;
      },
    )
