use Rattle.std.proofs.Common.{rules, arith, ◌≡◌, ◌∙◌, ◌+◌, ◌≤◌, List, ℕ, length, drop, ap, sym, subst, refl}
use Rattle.lsp_loop.specs.Progress.{SoFar}
use Rattle.lsp_loop.specs.Waiting.{Waits}
use Rattle.lsp_loop.proofs.Taking.{front_kept, next_waits, none_kept}
use Rattle.lsp_loop.proofs.incoming.Incoming.take_messages.Goals as goal

pub loop-at-preserved : goal.loop-at-preserved
loop-at-preserved g c =
    let old = c.loop-at.self.bytes in
    let at = c.loop-at.at + c.in-Bytes.count in
    let skipped = c.take_next.new.self.skipped in
    let same = sym c.take_next.ensures.same in (
      λ before taken rest so_far waits.
          let now = c.loop-at.invariant.0 before taken rest so_far waits in
          let step = c.in-Bytes.ensures.taken before taken now.0 now.1 now.2 in
          subst (λ b. (x : List ℕ) × SoFar before (g.K.Sink.held c.take_next.new.sink) taken c.take_next.new.documents x × Waits skipped (drop at b.items) x) same
          (next_waits before _ taken _ old.items skipped c.loop-at.at c.in-Bytes.count step),
      subst (λ b. at ≤ length b.items) same (c.in-Bytes.ensures.within c.in-Bytes.count refl),
      omega (arith, c.loop-at.invariant.2, c.take_next.ensures.later),
      search rules,
    )

pub returns-in-Wants-clause-taken : goal.returns-in-Wants-clause-taken
returns-in-Wants-clause-taken g c = λ before taken rest so_far waits.
    let now = c.loop-at.invariant.0 before taken rest so_far waits in
    let step = c.in-Wants.ensures.taken before taken now.0 now.1 now.2 in
    front_kept before _ taken _ (drop c.loop-at.at c.loop-at.self.bytes.items) c.take_next.new.self.skipped c.let_go.new.self step c.let_go.ensures.same (c.let_go.ensures.bytes ∙ ap (λ b. drop c.loop-at.at b.items) c.take_next.ensures.same)

pub returns-in-Stops-clause-taken : goal.returns-in-Stops-clause-taken
returns-in-Stops-clause-taken g c = λ before taken rest so_far waits.
    let now = c.loop-at.invariant.0 before taken rest so_far waits in
    c.in-Stops.ensures.taken before taken now.0 now.1 now.2

pub returns-clause-taken : goal.returns-clause-taken
returns-clause-taken g c = λ before taken rest so_far waits.
    let now = c.loop-at.invariant.0 before taken rest so_far waits in
    let bytes = c.loop-at.self.bytes.items in
    let all : c.len.result ≡ length bytes = c.len.ensures ∙ c.loop-at.self.bytes.ok.0 in
    let past : length bytes ≤ c.loop-at.at = omega (arith, all, c.loop-at-test.false) in
    none_kept before _ taken _ now.0 bytes c.loop-at.self.skipped c.loop-at.at _ now.1 now.2 past refl c.clear.ensures.items
