use Rattle.std.proofs.Common.{◌≡◌, ◌<◌, ◌++◌, length, map, take, sym, ◌∙◌, ap, subst, arith}
use Rattle.std.proofs.lemmas.List.{length-map}
use Rattle.grammar_model.specs.Named.{named, items_of}
use Rattle.grammar_model.specs.Ocaml.{row_name}
use Rattle.syntax_tree.specs.View.{tok_of}
use Rattle.syntax_rows.specs.View.{text_of}
use Rattle.frame_steps.specs.Told.{told}
use Rattle.frame_steps.specs.View.{fault_of}
use Rattle.frame_parser.specs.Behind.{Behind}
use Rattle.frame_parser.specs.Run.{faults, all_shifts, next_shifts, shifted_by}
use Rattle.frame_parser.proofs.Lists.{grows_more, tokens_few, tokens_most, no_faults, no_shifts, counted_next, tokens_next, tokens_all, told_next, told_all, recover_tree}
use Rattle.frame_parser.proofs.Bounds.{twice_at_most}
use Rattle.frame_parser.proofs.whole.parse.Goals as goal

pub loop-token-init : goal.loop-token-init
loop-token-init g c = (c.begun-stack.ensures, ap (map fault_of) c.new-faults.ensures.items ∙ no_faults (text_of c.args.text), ap (λ n. shifted_by n (g.C.Counts.tallies c.args.counts.now)) (sym (no_shifts (text_of c.args.text))), record { lexed = omega arith; shifted = omega arith; typed = omega arith })

pub loop-token-preserved : goal.loop-token-preserved
loop-token-preserved g c =
    let (b, f, n, grows) = c.loop-token.invariant in
    let i = c.loop-token.token-index in
    let ts = map tok_of (take i c.args.tokens.now) in
    let t = tok_of c.token-item.result in
    let few : length ts < 1048576 = tokens_few c.args.tokens.now i c.loop-token-test.true c.requires.few in
    let next = tokens_next c.args.tokens.now i c.token-item.result c.loop-token-test.true c.token-item.is in (
      subst (λ ts. Behind (text_of c.args.text) ts c.in_ok-stepped.stepped.stack) (sym next) (c.in_ok-stepped.ensures.stack (text_of c.args.text) ts b few),
      subst (λ ts. map fault_of c.add_faults.new.faults.items ≡ map told (faults (text_of c.args.text) ts)) (sym next)
          (told_next (text_of c.args.text) ts t c.loop-token.faults.items c.add_faults.new.faults.items c.in_ok-stepped.stepped.faults.items f (c.in_ok-stepped.ensures.faults (text_of c.args.text) ts b few)
          (c.in_ok-add_faults.ensures ∙ ap (λ xs. map fault_of c.loop-token.faults.items ++ map fault_of xs) c.deref.ensures.value)),
      counted_next (text_of c.args.text) ts _ t (g.C.Counts.tallies c.args.counts.now) (g.C.Counts.tallies c.loop-token.counts) (g.C.Counts.tallies c.step.new.counts) next n (c.in_ok-stepped.ensures.counted (text_of c.args.text) ts b few),
      grows_more (g.C.Counts.tallies c.args.counts.now) (g.C.Counts.tallies c.loop-token.counts) (g.C.Counts.tallies c.step.new.counts) (next_shifts (text_of c.args.text) ts t) grows (c.in_ok-stepped.ensures.counted (text_of c.args.text) ts b few),
    )

pub returns-in_err-add_faults-clause-grows : goal.returns-in_err-add_faults-clause-grows
returns-in_err-add_faults-clause-grows g c =
    let (b, f, n, grows) = c.loop-token.invariant in
    let i = c.loop-token.token-index in
    let ts = map tok_of (take i c.args.tokens.now) in
    let few : length ts < 1048576 = tokens_few c.args.tokens.now i c.loop-token-test.true c.requires.few in
    grows_more (g.C.Counts.tallies c.args.counts.now) (g.C.Counts.tallies c.loop-token.counts) (g.C.Counts.tallies c.step.new.counts) (next_shifts (text_of c.args.text) ts (tok_of c.token-item.result)) grows
    (c.in_ok-stepped.ensures.counted (text_of c.args.text) ts b few)

pub returns-clause-tree : goal.returns-clause-tree
returns-clause-tree g c =
    let (b, f, n, grows) = c.loop-token.invariant in
    let ts = map tok_of c.args.tokens.now in
    let b' : Behind (text_of c.args.text) ts c.loop-token.stack = subst (λ ts. Behind (text_of c.args.text) ts c.loop-token.stack) (tokens_all c.args.tokens.now c.loop-token.token-index c.loop-token-test.false) b in
    c.in_ok-closed.ensures.tree (text_of c.args.text) ts b' (tokens_most c.args.tokens.now c.requires.few) ∙ ap (λ T. items_of (named row_name T)) (sym (recover_tree (text_of c.args.text) ts))

pub returns-clause-faults : goal.returns-clause-faults
returns-clause-faults g c =
    let (b, f, n, grows) = c.loop-token.invariant in
    let ts = map tok_of c.args.tokens.now in
    let all = tokens_all c.args.tokens.now c.loop-token.token-index c.loop-token-test.false in
    let b' : Behind (text_of c.args.text) ts c.loop-token.stack = subst (λ ts. Behind (text_of c.args.text) ts c.loop-token.stack) all b in
    let f' : map fault_of c.loop-token.faults.items ≡ map told (faults (text_of c.args.text) ts) = subst (λ ts. map fault_of c.loop-token.faults.items ≡ map told (faults (text_of c.args.text) ts)) all f in
    told_all (text_of c.args.text) ts c.loop-token.faults.items c.add_faults-2.new.faults.items c.in_ok-closed.closed.faults.items f' (c.in_ok-closed.ensures.faults (text_of c.args.text) ts b' (tokens_most c.args.tokens.now c.requires.few))
    (c.in_ok-add_faults-2.ensures ∙ ap (λ xs. map fault_of c.loop-token.faults.items ++ map fault_of xs) c.deref-2.ensures.value)

pub returns-clause-counted : goal.returns-clause-counted
returns-clause-counted g c =
    let (b, f, n, grows) = c.loop-token.invariant in
    subst (λ ts. g.C.Counts.tallies c.loop-token.counts ≡ shifted_by (all_shifts (text_of c.args.text) ts) (g.C.Counts.tallies c.args.counts.now)) (tokens_all c.args.tokens.now c.loop-token.token-index c.loop-token-test.false) n

pub returns-clause-twice : goal.returns-clause-twice
returns-clause-twice g c =
    let a = twice_at_most (text_of c.args.text) (map tok_of c.args.tokens.now) in
    let b = length-map c.args.tokens.now tok_of in omega arith
