use Rattle.std.proofs.Common.{◌+◌, ◌++◌, length, map, take, ◌∙◌, ap, subst}
use Rattle.grammar_model.specs.Ocaml.{grammar}
use Rattle.recovery_model.specs.Recovery.{retake_all}
use Rattle.syntax_tree.specs.View.{tok_of}
use Rattle.frame_steps.specs.View.{fault_of}
use Rattle.frame_parser.specs.Shown.{ShowsStep}
use Rattle.frame_parser.proofs.Comes.{all_reached}
use Rattle.frame_parser.proofs.Lists.{tokens_next, tokens_all}
use Rattle.frame_parser.proofs.Retakes.{more_few, retake_more, retake_ready}
use Rattle.frame_parser.proofs.steps.retake_all.Goals as goal

pub loop-token-init : goal.loop-token-init
loop-token-init c text p n shows reached few = (shows, ap (map fault_of) c.new-faults.ensures.items)

pub retake-requires : goal.retake-requires
retake-requires c =
    let (text, p, n, shows, reached, few) = c.requires.ready in
    let i = c.loop-token.token-index in
    let ts = map tok_of (take i c.args.tokens.now) in
    let now = c.loop-token.invariant text p n shows reached few in
    record { ready = (n + length ts, retake_ready text ts n p c.loop-token.stack reached now.0, more_few c.args.tokens.now i n c.loop-token-test.true few) }

pub loop-token-preserved : goal.loop-token-preserved
loop-token-preserved c text p n shows reached few =
    let i = c.loop-token.token-index in
    let ts = map tok_of (take i c.args.tokens.now) in
    let t = tok_of c.token-item.result in
    let now = c.loop-token.invariant text p n shows reached few in
    let step = c.in_ok-next.ensures text (retake_all (grammar text) ts p).parser (n + length ts) now.0 (all_reached text ts n p reached) (more_few c.args.tokens.now i n c.loop-token-test.true few) in
    retake_more text ts _ t p c.in_ok-next.next c.loop-token.faults.items c.add_faults.new.faults.items (tokens_next c.args.tokens.now i c.token-item.result c.loop-token-test.true c.token-item.is) now.1 step (c.in_ok-add_faults.ensures ∙ ap (λ xs. map fault_of c.loop-token.faults.items ++ map fault_of xs) c.deref.ensures.value)

pub returns : goal.returns
returns c text p n shows reached few =
    let now = c.loop-token.invariant text p n shows reached few in
    let all = tokens_all c.args.tokens.now c.loop-token.token-index c.loop-token-test.false in
    subst (λ ts. ShowsStep text (retake_all (grammar text) ts p) (record { stack = c.loop-token.stack; faults = c.loop-token.faults })) all (record { stack = now.0; faults = now.1 })
