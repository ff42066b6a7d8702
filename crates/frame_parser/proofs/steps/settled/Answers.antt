use Rattle.std.proofs.Common.{length, subst, arith}
use Rattle.frame_parser.specs.Run.{run}
use Rattle.frame_parser.specs.Shown.{ShowsItem}
use Rattle.frame_parser.proofs.Comes.{run_comes}
use Rattle.frame_parser.proofs.Settles.{kept_held, kept_marked, kept_none, kept_sound, rows_many, settled_many}
use Rattle.frame_parser.proofs.steps.settled.Goals as goal

pub returns-in-None : goal.returns-in-None
returns-in-None c = λ text ts shows few.
    let p = run text ts in
    settled_many text ts c.count_items.result p.state.stack (kept_none text p (subst (ShowsItem text p.item) c.in-None.is shows.item))
    (rows_many text p.state (length ts) c.count_items.result c.args.stack.now.rows shows.rows (run_comes text ts).frames few c.count_items.ensures)

pub returns-in-Held : goal.returns-in-Held
returns-in-Held c = λ text ts shows few.
    let p = run text ts in
    let h = kept_held text p (length ts) c.in-Some.item c.in-Held.before c.in-Held.since c.in-Held.is (subst (ShowsItem text p.item) c.in-Some.is shows.item) (run_comes text ts).item in
    settled_many text ts c.count_items-in-Held.result h.state.stack h.is (rows_many text h.state h.count c.count_items-in-Held.result c.in-Held.before h.shows h.reached (omega (arith, h.few, few)) c.count_items-in-Held.ensures)

pub returns-in-Sound : goal.returns-in-Sound
returns-in-Sound c = λ text ts shows few.
    let p = run text ts in
    settled_many text ts c.count_items-in-Sound.result p.state.stack (kept_sound text p c.in-Some.item c.in-Sound.is (subst (ShowsItem text p.item) c.in-Some.is shows.item))
    (rows_many text p.state (length ts) c.count_items-in-Sound.result c.args.stack.now.rows shows.rows (run_comes text ts).frames few c.count_items-in-Sound.ensures)

pub returns-in-Marked : goal.returns-in-Marked
returns-in-Marked c = λ text ts shows few.
    let p = run text ts in
    settled_many text ts c.count_items-in-Marked.result p.state.stack (kept_marked text p c.in-Some.item c.in-Marked.is (subst (ShowsItem text p.item) c.in-Some.is shows.item))
    (rows_many text p.state (length ts) c.count_items-in-Marked.result c.args.stack.now.rows shows.rows (run_comes text ts).frames few c.count_items-in-Marked.ensures)
