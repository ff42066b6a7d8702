use Rattle.std.proofs.Common.{◌≡◌, ◌+◌, ◌≤◌, ◌∙◌, true, List, length, ap, refl, sym, subst, Bool}
use Rattle.std.specs.Prelude.{is_some}
use Rattle.tree_model.specs.Trees.{Tree}
use Rattle.syntax_tree.specs.View.{trees_of}
use Rattle.analysis_api.specs.Typed.{SameFront}
use Rattle.token_store.specs.Stored.{toks_of}
use Rattle.text_reading.specs.Trials.{TypesSome}
use Rattle.text_reading.specs.Types.{has_begun, held, known, known_front, opening}
use Rattle.text_reading.proofs.Knowing.{items_parsed, known_again}
use Rattle.text_reading.proofs.Parsing.{parsed_as}
use Rattle.text_reading.proofs.Spent.{typed_some}
use Rattle.session.specs.Working.{Held}
use Rattle.session.proofs.Carrying.{types_anew}
use Rattle.session.proofs.Works.{both_ok, opened, opened_in_vain}
use Rattle.session.proofs.session.Session.type_again.Goals as goal

pub refresh-requires : goal.refresh-requires
refresh-requires g c =
    let types = c.self.inside.types in
    record { front = subst (λ (ts : List Tree). SameFront (held g.A.Analyser.items types) ts (known_front types)) (sym c.in-Some.ensures.tree) c.self.invariant.of_tree }

pub invariant_of-self : goal.invariant_of-self
invariant_of-self g c =
    let kept = c.self.inside.kept in
    let there = c.in-Some.ensures in
    let parsed = parsed_as kept.text (toks_of kept.tokens) c.in-Some.parsed.now there.lexed there.tree there.faults in
    let types = c.refresh.new.self in
    record {
      of_text = known_again kept.text (trees_of c.in-Some.parsed.now.tree) (known g.A.Analyser.items types) c.refresh.result (items_parsed kept.text c.in-Some.parsed.now parsed) c.refresh.ensures.known c.refresh.ensures.unknown;
      of_tree = subst (λ (ts : List Tree). SameFront (held g.A.Analyser.items types) ts (known_front types)) there.tree c.refresh.ensures.front;
    }

pub returns-clause-takes : goal.returns-clause-takes
returns-clause-takes g c = λ ps lex.
    let was = ap (λ (h : Held). h.begun) c.self.view_is in
    let a = g.C.Counts.tallies c.args.counts.now in
    let b = g.C.Counts.tallies c.refresh.new.counts in
    both_ok _ _ c.refresh.result
    (opened c.refresh.result (length ps) c.args.self.now.begun (has_begun c.refresh.new.self) a.lexed b.lexed (subst (λ (x : Bool). b.lexed ≤ a.lexed + opening (length ps) x) was (c.refresh.ensures.lexed ps lex)) c.refresh.ensures.begun)
    (opened c.refresh.result (length ps) c.args.self.now.begun (has_begun c.refresh.new.self) a.shifted b.shifted (subst (λ (x : Bool). b.shifted ≤ a.shifted + opening (length ps) x) was (c.refresh.ensures.shifted ps lex)) c.refresh.ensures.begun)

pub returns-clause-fails : goal.returns-clause-fails
returns-clause-fails g c = λ ps lex.
    let was = ap (λ (h : Held). h.begun) c.self.view_is in
    let a = g.C.Counts.tallies c.args.counts.now in
    let b = g.C.Counts.tallies c.refresh.new.counts in
    let stays : c.args.self.now.begun ≡ true → has_begun c.refresh.new.self ≡ true = λ is. c.refresh.ensures.stays_begun (was ∙ is) in (
      opened_in_vain (length ps) c.args.self.now.begun (has_begun c.refresh.new.self) a.lexed b.lexed (subst (λ (x : Bool). b.lexed ≤ a.lexed + opening (length ps) x) was (c.refresh.ensures.lexed ps lex)) stays,
      opened_in_vain (length ps) c.args.self.now.begun (has_begun c.refresh.new.self) a.shifted b.shifted (subst (λ (x : Bool). b.shifted ≤ a.shifted + opening (length ps) x) was (c.refresh.ensures.shifted ps lex)) stays,
    )

pub returns-clause-types : goal.returns-clause-types
returns-clause-types g c =
    let kept = c.self.inside.kept in
    let there = c.in-Some.ensures in
    let parsed = parsed_as kept.text (toks_of kept.tokens) c.in-Some.parsed.now there.lexed there.tree there.faults in
    let now : Held = record { text = kept.text; changed = kept.changed; begun = has_begun c.refresh.new.self; known = is_some (known g.A.Analyser.items c.refresh.new.self); holds = held g.A.Analyser.items c.refresh.new.self } in
    types_anew g.A.Analyser.items c.refresh.result c.args.self.now now c.self.inside.types c.refresh.new.self kept.text c.in-Some.parsed.now (g.C.Counts.tallies c.args.counts.now) (g.C.Counts.tallies c.refresh.new.counts)
    (ap (λ (h : Held). h.text) c.self.view_is) (ap (λ (h : Held). h.holds) c.self.view_is) refl (items_parsed kept.text c.in-Some.parsed.now parsed)
    c.refresh.ensures.known c.refresh.ensures.typed

pub returns-clause-goes : goal.returns-clause-goes
returns-clause-goes g c =
    let kept = c.self.inside.kept in
    let there = c.in-Some.ensures in
    let before = c.self.inside.types in
    let after = c.refresh.new.self in
    let a = g.C.Counts.tallies c.args.counts.now in
    let b = g.C.Counts.tallies c.refresh.new.counts in
    let own = items_parsed kept.text c.in-Some.parsed.now (parsed_as kept.text (toks_of kept.tokens) c.in-Some.parsed.now there.lexed there.tree there.faults) in
    let some : TypesSome kept.text (held g.A.Analyser.items before) (held g.A.Analyser.items after) a.typed b.typed =
    typed_some g.A.Analyser.items c.refresh.result before after kept.text c.in-Some.parsed.now a b own c.refresh.ensures.known c.refresh.ensures.typed c.refresh.ensures.failed in
    subst (λ (h : Held). TypesSome h.text h.holds (held g.A.Analyser.items after) a.typed b.typed) c.self.view_is some

pub returns-clause-begun : goal.returns-clause-begun
returns-clause-begun g c = c.refresh.ensures.begun
