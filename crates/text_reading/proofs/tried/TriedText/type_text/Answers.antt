use Rattle.std.proofs.Common.{List, ℕ, ◌∙◌, ap, refl, sym, subst, arith}
use Rattle.std.specs.Prelude.{is_none, is_some, ◌&&◌}
use Rattle.tree_model.specs.Trees.{Tree}
use Rattle.syntax_tree.specs.View.{trees_of}
use Rattle.analysis_api.specs.Typed.{SameFront}
use Rattle.token_store.specs.Stored.{toks_of}
use Rattle.kept_text.specs.Keeping.{trees_in}
use Rattle.text_reading.specs.Structures.{IsParsedAs}
use Rattle.text_reading.specs.Trials.{Tried}
use Rattle.text_reading.specs.Types.{has_begun, held, known, known_front}
use Rattle.text_reading.proofs.Knowing.{items_parsed}
use Rattle.text_reading.proofs.Parsing.{parsed_as}
use Rattle.text_reading.proofs.Spent.{bound_again, bound_none, ready_ok, tries_idle, tries_refreshed}
use Rattle.text_reading.proofs.Trying.{read_most}
use Rattle.text_reading.proofs.tried.TriedText.type_text.Goals as goal

pub follow-requires : goal.follow-requires
follow-requires g c =
    let tree = trees_in c.self.inside.kept.tokens in
    let before = c.self.inside.types in
    let types = c.outdate.new.self in
    record { front = subst (λ (n : ℕ). SameFront (held g.A.Analyser.items types) tree n) (sym c.outdate.ensures.front) (subst (λ (hs : List Tree). SameFront hs tree (known_front before)) (sym c.outdate.ensures.stays) c.self.invariant.shares) }

pub refresh-requires : goal.refresh-requires
refresh-requires g c =
    let types = c.follow.new.self in
    record { front = subst (λ (ts : List Tree). SameFront (held g.A.Analyser.items types) ts (known_front types)) (sym c.in-Some.ensures.tree) c.follow.ensures.front }

pub invariant_of-self-in-Some : goal.invariant_of-self-in-Some
invariant_of-self-in-Some g c =
    let tree = trees_in c.follow.new.kept.tokens in
    let types = c.refresh.new.self in
    record {
      are = bound_again c.refresh.result tree (trees_of c.in-Some.parsed.now.tree) (known g.A.Analyser.items types) c.in-Some.ensures.tree c.refresh.ensures.known c.refresh.ensures.unknown;
      shares = subst (λ (ts : List Tree). SameFront (held g.A.Analyser.items types) ts (known_front types)) c.in-Some.ensures.tree c.refresh.ensures.front;
    }

pub invariant_of-self : goal.invariant_of-self
invariant_of-self g c = record { are = bound_none (trees_in c.follow.new.kept.tokens) (known g.A.Analyser.items c.follow.new.self) (c.follow.ensures.known ∙ c.outdate.ensures.unknown); shares = c.follow.ensures.front }

pub returns-clause-ready : goal.returns-clause-ready
returns-clause-ready g c = ready_ok c.refresh.result c.follow.new.kept.changed (trees_of c.in-Some.parsed.now.tree) (known g.A.Analyser.items c.refresh.new.self) c.in_ok-follow.ensures.current c.refresh.ensures.known

pub returns-clause-tries : goal.returns-clause-tries
returns-clause-tries g c =
    let a = g.C.Counts.tallies c.args.counts.now in
    let b = g.C.Counts.tallies c.follow.new.counts in
    let kept = c.follow.new.kept in
    let tree = c.in-Some.parsed.now in
    let own = c.follow.ensures.text ∙ ap (λ (t : Tried). t.text) c.self.view_is ∙ c.in_ok-take.ensures.text in
    let are = items_parsed c.args.text.now tree (subst (λ (t : List ℕ). IsParsedAs t tree) own (parsed_as kept.text (toks_of kept.tokens) tree c.in-Some.ensures.lexed c.in-Some.ensures.tree c.in-Some.ensures.faults)) in
    let begun = c.follow.ensures.begun ∙ c.outdate.ensures.begun ∙ ap (λ (t : Tried). t.begun) c.self.view_is ∙ c.take.ensures.typer.0 in
    let holds = c.follow.ensures.stays ∙ c.outdate.ensures.stays ∙ ap (λ (t : Tried). t.holds) c.self.view_is ∙ c.take.ensures.typer.1 in
    let read = read_most c.args.text.now c.self.inside.kept.text c.self.inside.kept.changed a b (ap (λ (t : Tried). t.text) c.self.view_is ∙ c.in_ok-take.ensures.text) c.follow.ensures.idle c.follow.ensures.work c.follow.ensures.shifted in
    tries_refreshed g.A.Analyser.items c.refresh.result g.A.Analyser.opens c.args.text.now kept.text (is_none kept.changed && is_some (known g.A.Analyser.items c.refresh.new.self)) c.args.self.now c.follow.new.self c.refresh.new.self tree a b (g.C.Counts.tallies c.refresh.new.counts)
    are holds begun c.refresh.ensures.known c.refresh.ensures.typed c.refresh.ensures.failed c.follow.ensures.untyped read c.refresh.ensures.stays_begun c.refresh.ensures.lexed c.refresh.ensures.shifted

pub returns-in_err-take-clause-tries : goal.returns-in_err-take-clause-tries
returns-in_err-take-clause-tries g c =
    let a = g.C.Counts.tallies c.args.counts.now in
    tries_idle g.A.Analyser.opens c.args.text.now c.args.self.now c.take.new.self a a c.take.ensures.typer refl (λ ts lex. (omega arith, omega arith))

pub returns-in_err-follow-clause-tries : goal.returns-in_err-follow-clause-tries
returns-in_err-follow-clause-tries g c =
    let a = g.C.Counts.tallies c.args.counts.now in
    let b = g.C.Counts.tallies c.follow.new.counts in
    let kept = c.follow.new.kept in
    let types = c.follow.new.self in
    let begun = c.follow.ensures.begun ∙ c.outdate.ensures.begun ∙ ap (λ (t : Tried). t.begun) c.self.view_is ∙ c.take.ensures.typer.0 in
    let holds = c.follow.ensures.stays ∙ c.outdate.ensures.stays ∙ ap (λ (t : Tried). t.holds) c.self.view_is ∙ c.take.ensures.typer.1 in
    let read = read_most c.args.text.now c.self.inside.kept.text c.self.inside.kept.changed a b (ap (λ (t : Tried). t.text) c.self.view_is ∙ c.in_ok-take.ensures.text) c.follow.ensures.idle c.follow.ensures.work c.follow.ensures.shifted in
    let new : Tried = record { text = kept.text; begun = has_begun types; ready = is_none kept.changed && is_some (known g.A.Analyser.items types); holds = held g.A.Analyser.items types } in
    tries_idle g.A.Analyser.opens c.args.text.now c.args.self.now new a b (begun, holds) c.follow.ensures.untyped read
