use Rattle.std.proofs.Common.{List, ℕ, ◌∙◌, ap, sym, subst}
use Rattle.std.specs.Prelude.{is_some}
use Rattle.token_model.specs.Tokens.{Lex}
use Rattle.text_reading.specs.Types.{has_begun, held, known}
use Rattle.text_reading.proofs.Knowing.{still_known}
use Rattle.session.specs.Working.{Held}
use Rattle.session.proofs.Works.{reads_again}
use Rattle.session.proofs.session.Session.read_again.Goals as goal

pub follow-requires : goal.follow-requires
follow-requires g c = record { front = c.self.invariant.of_tree }

pub invariant_of-self : goal.invariant_of-self
invariant_of-self g c =
    let was = c.self.inside in
    let types = c.follow.new.self in
    let items = g.A.Analyser.items in
    record { of_text = still_known was.kept.text c.follow.new.kept.text (known items was.types) (known items types) c.follow.ensures.text c.follow.ensures.known c.self.invariant.of_text; of_tree = c.follow.ensures.front }

pub returns-clause-reads : goal.returns-clause-reads
returns-clause-reads g c =
    let view = c.self.view_is in
    let types = c.follow.new.self in
    let items = g.A.Analyser.items in
    reads_again g.A.Analyser.opens c.args.self.now (record { text = c.follow.new.kept.text; changed = c.follow.new.kept.changed; begun = has_begun types; known = is_some (known items types); holds = held items types }) (g.C.Counts.tallies c.args.counts.now) (g.C.Counts.tallies c.follow.new.counts) (c.follow.ensures.begun ∙ ap (λ (h : Held). h.begun) view)
    (λ is. c.follow.ensures.idle (ap (λ (h : Held). h.changed) view ∙ is))
    (λ from ts is lex. c.follow.ensures.work from ts (ap (λ (h : Held). h.changed) view ∙ is) (subst (λ (l : List ℕ). Lex l ts) (sym (ap (λ (h : Held). h.text) view)) lex))
    (λ from place ts is le lex. c.follow.ensures.shifted from place ts (ap (λ (h : Held). h.changed) view ∙ is) le (subst (λ (l : List ℕ). Lex l ts) (sym (ap (λ (h : Held). h.text) view)) lex))
