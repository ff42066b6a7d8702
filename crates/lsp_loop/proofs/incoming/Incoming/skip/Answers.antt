use Rattle.std.proofs.Common.{arith, ◌≡◌, ◌∙◌, ◌+◌, ◌-◌, ◌<◌, ◌≤◌, length, drop, refl, inl}
use Rattle.std.proofs.lemmas.List.{length-drop}
use Rattle.lsp_loop.proofs.Taking.{skip_ends, skipped_some}
use Rattle.lsp_loop.proofs.incoming.Incoming.skip.Goals as goal

pub returns-then-self-count-clause-taken : goal.returns-then-self-count-clause-taken
returns-then-self-count-clause-taken g c = λ before taken rest so_far waits.
    let bytes = c.args.self.now.bytes.items in
    let kept = drop c.args.at bytes in
    let count = c.len.result - c.args.at in
    let left = c.args.self.now.skipped - count in
    let all : c.len.result ≡ length bytes = c.len.ensures ∙ c.args.self.now.bytes.ok.0 in
    let some : 0 < left = omega (arith, c.if-self-count.true) in
    let is : left + count ≡ c.args.self.now.skipped = omega (arith, c.if-self-count.true) in
    let same : count ≡ length kept = omega (arith, all, length-drop c.args.at bytes) in
    skipped_some before _ taken _ rest kept c.args.self.now.skipped left count c.requires.some some is same so_far waits

pub returns-in-Ok-clause-taken : goal.returns-in-Ok-clause-taken
returns-in-Ok-clause-taken g c = λ before taken rest so_far waits.
    let bytes = c.args.self.now.bytes.items in
    let kept = drop c.args.at bytes in
    let count = c.args.self.now.skipped in
    let all : c.len.result ≡ length bytes = c.len.ensures ∙ c.args.self.now.bytes.ok.0 in
    let within : count ≤ length kept = omega (arith, all, c.if-self-count.false, length-drop c.args.at bytes) in
    (drop count kept, c.in-Ok.ensures.heard before taken rest (drop count kept) so_far (skip_ends kept rest count c.requires.some within waits), inl (refl, refl))

pub returns-in-Err-clause-taken : goal.returns-in-Err-clause-taken
returns-in-Err-clause-taken g c = λ before taken rest so_far waits.
    let bytes = c.args.self.now.bytes.items in
    let kept = drop c.args.at bytes in
    let count = c.args.self.now.skipped in
    let all : c.len.result ≡ length bytes = c.len.ensures ∙ c.args.self.now.bytes.ok.0 in
    let within : count ≤ length kept = omega (arith, all, c.if-self-count.false, length-drop c.args.at bytes) in
    c.in-Err.ensures.heard before taken rest (drop count kept) so_far (skip_ends kept rest count c.requires.some within waits)
