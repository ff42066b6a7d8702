use Rattle.std.proofs.Common.{Some, refl, subst}
use Rattle.std.proofs.lemmas.Result.{IfOk-weaker}
use Rattle.recovery_model.specs.Items.{item}
use Rattle.recovery_model.specs.Recovery.{go_on}
use Rattle.syntax_tree.specs.View.{tok_of}
use Rattle.frame_parser.specs.Shown.{ShowsMark}
use Rattle.frame_parser.proofs.Known.{fault_none, fault_some, sound_none, sound_on, marked_on, held_back, held_ready, once}
use Rattle.frame_parser.proofs.steps.step_in_item.Goals as goal

pub go_back-requires : goal.go_back-requires
go_back-requires c =
    let (text, m, shows, few) = c.requires.ready in
    record { ready = held_ready text m c.in-Held.before c.in-Held.since (subst (ShowsMark text m) c.in-Held.is shows) few }

pub returns-in_ok-go_on-in-None : goal.returns-in_ok-go_on-in-None
returns-in_ok-go_on-in-None c text x m put shows few =
    let t = tok_of c.args.token.now in
    let i = Some (item c.args.col m) in
    sound_none text x t c.args.col m c.taken_once.result (fault_none text x c.args.next put c.in-None.is)
    (once text (go_on i t x) c.in_ok-go_on-in-None.field-0 c.taken_once.result c.taken_once.ensures.step c.taken_once.ensures.count (c.in_ok-go_on-in-None.ensures text x i put (refl, shows)))

pub returns-in-Held : goal.returns-in-Held
returns-in-Held c =
    IfOk-weaker c.go_back.result _ _ (λ r ens text x m put shows few.
    held_back text x (tok_of c.args.token.now) c.args.col m c.in-Held.before c.in-Held.since r (fault_some text x c.args.next _ put c.in-Some.is) (subst (ShowsMark text m) c.in-Held.is shows) few
    (λ q ts rows same k. let (n, reached, le) = k in ens text q ts n rows same reached le)) c.go_back.ensures

pub returns-in_ok-go_on-in-Sound : goal.returns-in_ok-go_on-in-Sound
returns-in_ok-go_on-in-Sound c text x m put shows few =
    let t = tok_of c.args.token.now in
    let i = Some (item c.args.col m) in
    let s = subst (ShowsMark text m) c.in-Sound.is shows in
    sound_on text x t c.args.col m c.taken_once-in-Sound.result (fault_some text x c.args.next _ put c.in-Some.is) s
    (once text (go_on i t x) c.in_ok-go_on-in-Sound.field-0 c.taken_once-in-Sound.result c.taken_once-in-Sound.ensures.step c.taken_once-in-Sound.ensures.count (c.in_ok-go_on-in-Sound.ensures text x i put (refl, s)))

pub returns-in_ok-go_on-in-Marked : goal.returns-in_ok-go_on-in-Marked
returns-in_ok-go_on-in-Marked c text x m put shows few =
    let t = tok_of c.args.token.now in
    let i = Some (item c.args.col m) in
    let s = subst (ShowsMark text m) c.in-Marked.is shows in
    marked_on text x t c.args.col m c.taken_once-in-Marked.result (fault_some text x c.args.next _ put c.in-Some.is) s
    (once text (go_on i t x) c.in_ok-go_on-in-Marked.field-0 c.taken_once-in-Marked.result c.taken_once-in-Marked.ensures.step c.taken_once-in-Marked.ensures.count (c.in_ok-go_on-in-Marked.ensures text x i put (refl, s)))
