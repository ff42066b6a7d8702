use Rattle.std.proofs.Common.{List, ℕ, [], Some, subst, true, false}
use Rattle.session.specs.Working.{TriesBy}
use Rattle.session.proofs.Proposing.{tries_none}
use Rattle.session.proofs.Works.{on_ok, query_short, query_tries}
use Rattle.session.proofs.session.Session.ask_now.Goals as goal

pub returns-in_err-refresh-clause-fails : goal.returns-in_err-refresh-clause-fails
returns-in_err-refresh-clause-fails g c =
    ([], tries_none c.args.query.now c.args.self.now.text c.args.offset, query_short g.A.Analyser.opens c.args.self.now c.refresh.new.self (g.C.Counts.tallies c.args.counts.now) (g.C.Counts.tallies c.refresh.new.counts) c.refresh.ensures.fails c.refresh.ensures.goes)

pub returns-clause-spends : goal.returns-clause-spends
returns-clause-spends g c =
    let done = c.in_ok-refresh.ensures in
    let (texts, by, tries) = c.ask_again.ensures.tries done.current done.known done.begun in
    on_ok c.ask_again.result (
      texts,
      subst (λ (t : List ℕ). TriesBy c.args.query.now t (Some c.args.offset) texts) c.refresh.ensures.text by,
      query_tries g.A.Analyser.opens false texts c.args.self.now c.refresh.new.self c.ask_again.new.self (g.C.Counts.tallies c.args.counts.now) (g.C.Counts.tallies c.refresh.new.counts) (g.C.Counts.tallies c.ask_again.new.counts) done.reads c.refresh.ensures.goes tries,
    )

pub returns-clause-fails : goal.returns-clause-fails
returns-clause-fails g c =
    let done = c.in_ok-refresh.ensures in
    let (texts, by, tries) = c.ask_again.ensures.tries done.current done.known done.begun in (
      texts,
      subst (λ (t : List ℕ). TriesBy c.args.query.now t (Some c.args.offset) texts) c.refresh.ensures.text by,
      query_tries g.A.Analyser.opens true texts c.args.self.now c.refresh.new.self c.ask_again.new.self (g.C.Counts.tallies c.args.counts.now) (g.C.Counts.tallies c.refresh.new.counts) (g.C.Counts.tallies c.ask_again.new.counts) done.reads c.refresh.ensures.goes tries,
    )
