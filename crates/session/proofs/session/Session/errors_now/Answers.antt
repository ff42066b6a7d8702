use Rattle.std.proofs.Common.{◌∙◌, IfOk, subst, List, ℕ, ap, refl, sym, true, false}
use Rattle.std.specs.Prelude.{IfNone, IfSome, Option}
use Rattle.service_model.specs.Structure.{ErrorsAre}
use Rattle.syntax_tree.specs.Tallies.{Tallies}
use Rattle.json_lines.specs.Means.{said_of}
use Rattle.json_lines.specs.declared.reply.Reply.{Reply}
use Rattle.session.specs.Queries.{AreFaultsOf, MayBeIllTyped}
use Rattle.session.proofs.Typing.{errors_typed, said_then}
use Rattle.session.proofs.Carrying.{some_after, some_none, some_then}
use Rattle.session.proofs.Works.{on_ok, reads_idle, reads_more, reads_typed}
use Rattle.session.proofs.session.Session.errors_now.Goals as goal

-- ---- what is said

pub returns-in-Some-clause-said : goal.returns-in-Some-clause-said
returns-in-Some-clause-said g c = subst (λ (t : List ℕ). ErrorsAre t (said_of c.in-Some.reply)) c.read_again.ensures.rest.0 (subst (λ (o : Option Reply). IfSome o (λ r. ErrorsAre c.read_again.new.self.text (said_of r))) c.in-Some.is c.in_ok-reply.ensures.said)

pub returns-clause-said : goal.returns-clause-said
returns-clause-said g c =
    let text = c.type_again.new.self.text in
    subst (λ (t : List ℕ). IfOk c.typed_errors.result (λ r. ErrorsAre t (said_of r))) (c.type_again.ensures.rest.0 ∙ c.read_again.ensures.rest.0)
    (said_then (AreFaultsOf text) (ErrorsAre text) c.typed_errors.result (λ s. errors_typed text s (subst MayBeIllTyped (sym c.type_again.ensures.rest.0) (subst (λ (o : Option Reply). IfNone o (MayBeIllTyped c.read_again.new.self.text)) c.in_default.is c.in_ok-reply.ensures.other))) c.typed_errors.ensures.said)

-- ---- what is read

pub returns-in_err-read_again-clause-fails : goal.returns-in_err-read_again-clause-fails
returns-in_err-read_again-clause-fails g c = reads_more g.A.Analyser.opens true c.args.self.now c.read_again.new.self (g.C.Counts.tallies c.args.counts.now) (g.C.Counts.tallies c.read_again.new.counts) (c.read_again.ensures.reads)

pub returns-in_err-reply-clause-fails : goal.returns-in_err-reply-clause-fails
returns-in_err-reply-clause-fails g c = reads_more g.A.Analyser.opens true c.args.self.now c.read_again.new.self (g.C.Counts.tallies c.args.counts.now) (g.C.Counts.tallies c.plain_errors.new.counts) (reads_idle g.A.Analyser.opens false c.args.self.now c.read_again.new.self c.read_again.new.self (g.C.Counts.tallies c.args.counts.now) (g.C.Counts.tallies c.read_again.new.counts) (g.C.Counts.tallies c.plain_errors.new.counts) c.read_again.ensures.reads refl (c.plain_errors.ensures.idle c.in_ok-read_again.ensures.current))

pub returns-in-Some-clause-reads : goal.returns-in-Some-clause-reads
returns-in-Some-clause-reads g c = (reads_idle g.A.Analyser.opens false c.args.self.now c.read_again.new.self c.read_again.new.self (g.C.Counts.tallies c.args.counts.now) (g.C.Counts.tallies c.read_again.new.counts) (g.C.Counts.tallies c.plain_errors.new.counts) c.read_again.ensures.reads refl (c.plain_errors.ensures.idle c.in_ok-read_again.ensures.current))

pub returns-in-Some-clause-fails : goal.returns-in-Some-clause-fails
returns-in-Some-clause-fails g c = reads_more g.A.Analyser.opens true c.args.self.now c.read_again.new.self (g.C.Counts.tallies c.args.counts.now) (g.C.Counts.tallies c.plain_errors.new.counts) (reads_idle g.A.Analyser.opens false c.args.self.now c.read_again.new.self c.read_again.new.self (g.C.Counts.tallies c.args.counts.now) (g.C.Counts.tallies c.read_again.new.counts) (g.C.Counts.tallies c.plain_errors.new.counts) c.read_again.ensures.reads refl (c.plain_errors.ensures.idle c.in_ok-read_again.ensures.current))

pub returns-in_err-type_again-clause-fails : goal.returns-in_err-type_again-clause-fails
returns-in_err-type_again-clause-fails g c = reads_typed g.A.Analyser.opens true c.args.self.now c.read_again.new.self c.type_again.new.self (g.C.Counts.tallies c.args.counts.now) (g.C.Counts.tallies c.plain_errors.new.counts) (g.C.Counts.tallies c.type_again.new.counts) (reads_idle g.A.Analyser.opens false c.args.self.now c.read_again.new.self c.read_again.new.self (g.C.Counts.tallies c.args.counts.now) (g.C.Counts.tallies c.read_again.new.counts) (g.C.Counts.tallies c.plain_errors.new.counts) c.read_again.ensures.reads refl (c.plain_errors.ensures.idle c.in_ok-read_again.ensures.current)) c.type_again.ensures.fails

pub returns-clause-reads : goal.returns-clause-reads
returns-clause-reads g c = on_ok c.typed_errors.result (reads_idle g.A.Analyser.opens false c.args.self.now c.type_again.new.self c.type_again.new.self (g.C.Counts.tallies c.args.counts.now) (g.C.Counts.tallies c.type_again.new.counts) (g.C.Counts.tallies c.typed_errors.new.counts) (reads_typed g.A.Analyser.opens false c.args.self.now c.read_again.new.self c.type_again.new.self (g.C.Counts.tallies c.args.counts.now) (g.C.Counts.tallies c.plain_errors.new.counts) (g.C.Counts.tallies c.type_again.new.counts) (reads_idle g.A.Analyser.opens false c.args.self.now c.read_again.new.self c.read_again.new.self (g.C.Counts.tallies c.args.counts.now) (g.C.Counts.tallies c.read_again.new.counts) (g.C.Counts.tallies c.plain_errors.new.counts) c.read_again.ensures.reads refl (c.plain_errors.ensures.idle c.in_ok-read_again.ensures.current)) c.in_ok-type_again.ensures.takes) refl (c.typed_errors.ensures.idle c.type_again.ensures.rest.1 c.in_ok-type_again.ensures.known))

pub returns-clause-fails : goal.returns-clause-fails
returns-clause-fails g c = reads_more g.A.Analyser.opens true c.args.self.now c.type_again.new.self (g.C.Counts.tallies c.args.counts.now) (g.C.Counts.tallies c.typed_errors.new.counts) (reads_idle g.A.Analyser.opens false c.args.self.now c.type_again.new.self c.type_again.new.self (g.C.Counts.tallies c.args.counts.now) (g.C.Counts.tallies c.type_again.new.counts) (g.C.Counts.tallies c.typed_errors.new.counts) (reads_typed g.A.Analyser.opens false c.args.self.now c.read_again.new.self c.type_again.new.self (g.C.Counts.tallies c.args.counts.now) (g.C.Counts.tallies c.plain_errors.new.counts) (g.C.Counts.tallies c.type_again.new.counts) (reads_idle g.A.Analyser.opens false c.args.self.now c.read_again.new.self c.read_again.new.self (g.C.Counts.tallies c.args.counts.now) (g.C.Counts.tallies c.read_again.new.counts) (g.C.Counts.tallies c.plain_errors.new.counts) c.read_again.ensures.reads refl (c.plain_errors.ensures.idle c.in_ok-read_again.ensures.current)) c.in_ok-type_again.ensures.takes) refl (c.typed_errors.ensures.idle c.type_again.ensures.rest.1 c.in_ok-type_again.ensures.known))

-- ---- what is typed

-- ---- what is typed

pub returns-in_err-read_again-clause-goes : goal.returns-in_err-read_again-clause-goes
returns-in_err-read_again-clause-goes g c = some_none c.args.self.now c.read_again.new.self (g.C.Counts.tallies c.args.counts.now) (g.C.Counts.tallies c.read_again.new.counts) (g.C.Counts.tallies c.read_again.new.counts) c.read_again.ensures.rest.3 c.read_again.ensures.untyped refl

pub returns-in_err-reply-clause-goes : goal.returns-in_err-reply-clause-goes
returns-in_err-reply-clause-goes g c = some_none c.args.self.now c.read_again.new.self (g.C.Counts.tallies c.args.counts.now) (g.C.Counts.tallies c.read_again.new.counts) (g.C.Counts.tallies c.plain_errors.new.counts) c.read_again.ensures.rest.3 c.read_again.ensures.untyped (c.plain_errors.ensures.idle c.in_ok-read_again.ensures.current)

pub returns-in-Some-clause-goes : goal.returns-in-Some-clause-goes
returns-in-Some-clause-goes g c = some_none c.args.self.now c.read_again.new.self (g.C.Counts.tallies c.args.counts.now) (g.C.Counts.tallies c.read_again.new.counts) (g.C.Counts.tallies c.plain_errors.new.counts) c.read_again.ensures.rest.3 c.read_again.ensures.untyped (c.plain_errors.ensures.idle c.in_ok-read_again.ensures.current)

pub returns-in_err-type_again-clause-goes : goal.returns-in_err-type_again-clause-goes
returns-in_err-type_again-clause-goes g c = some_after c.args.self.now c.read_again.new.self c.type_again.new.self (g.C.Counts.tallies c.args.counts.now) (g.C.Counts.tallies c.plain_errors.new.counts) (g.C.Counts.tallies c.type_again.new.counts) c.read_again.ensures.rest.0 c.read_again.ensures.rest.3 (ap (λ (t : Tallies). t.typed) (c.plain_errors.ensures.idle c.in_ok-read_again.ensures.current) ∙ c.read_again.ensures.untyped) c.type_again.ensures.goes

pub returns-clause-goes : goal.returns-clause-goes
returns-clause-goes g c = some_then c.args.self.now c.type_again.new.self c.type_again.new.self (g.C.Counts.tallies c.args.counts.now) (g.C.Counts.tallies c.type_again.new.counts) (g.C.Counts.tallies c.typed_errors.new.counts)
    (some_after c.args.self.now c.read_again.new.self c.type_again.new.self (g.C.Counts.tallies c.args.counts.now) (g.C.Counts.tallies c.plain_errors.new.counts) (g.C.Counts.tallies c.type_again.new.counts) c.read_again.ensures.rest.0 c.read_again.ensures.rest.3 (ap (λ (t : Tallies). t.typed) (c.plain_errors.ensures.idle c.in_ok-read_again.ensures.current) ∙ c.read_again.ensures.untyped) c.type_again.ensures.goes)
    refl (ap (λ (t : Tallies). t.typed) (c.typed_errors.ensures.idle c.type_again.ensures.rest.1 c.in_ok-type_again.ensures.known))
