use Rattle.std.proofs.Common.{◌≡◌, ◌∙◌, ◌+◌, ◌-◌, List, ℕ, length, take, drop, ap, sym, subst, inl}
use Rattle.lsp_model.specs.Frames.{frame}
use Rattle.lsp_loop.specs.Heard.{body, BeginsWith}
use Rattle.lsp_loop.specs.Outcomes.{TakenBy}
use Rattle.lsp_loop.specs.Waiting.{Waits}
use Rattle.lsp_loop.specs.declared.incoming.Taken.TheVariants.{Bytes}
use Rattle.lsp_loop.proofs.Taking.{bad_taken, over_taken, rest_is, whole_begins}
use Rattle.lsp_loop.proofs.incoming.Incoming.take_one.Goals as goal

pub returns-in-Ok-clause-taken : goal.returns-in-Ok-clause-taken
returns-in-Ok-clause-taken g c = λ before taken rest so_far waits.
    let all = c.deref.result.now in
    let kept = take (length all - c.args.at) (drop c.args.at all) in
    let same : kept ≡ drop c.args.at c.args.self.now.bytes.items = rest_is c.args.at all ∙ ap (drop c.args.at) c.deref.ensures.value in
    let head = c.in-Whole.head in
    let count = c.in-Whole.body in
    let after = drop (head + count) kept in
    let here = whole_begins kept rest c.args.self.now.skipped head count c.requires.none (subst (λ (l : List ℕ). Waits c.args.self.now.skipped l rest) (sym same) waits) c.in-Whole.ensures.within.1 (sym c.in-Whole.ensures.value) in
    let begins = subst (λ (l : List ℕ). BeginsWith rest (body (take count l)) after) (sym (rest_is head kept)) here in
    (after, c.in-Ok.ensures.heard before taken rest after so_far begins, inl (c.requires.none, ap (drop (head + count)) (sym same)))

pub returns-in-Err-clause-taken : goal.returns-in-Err-clause-taken
returns-in-Err-clause-taken g c = λ before taken rest so_far waits.
    let all = c.deref.result.now in
    let kept = take (length all - c.args.at) (drop c.args.at all) in
    let same : kept ≡ drop c.args.at c.args.self.now.bytes.items = rest_is c.args.at all ∙ ap (drop c.args.at) c.deref.ensures.value in
    let head = c.in-Whole.head in
    let count = c.in-Whole.body in
    let after = drop (head + count) kept in
    let here = whole_begins kept rest c.args.self.now.skipped head count c.requires.none (subst (λ (l : List ℕ). Waits c.args.self.now.skipped l rest) (sym same) waits) c.in-Whole.ensures.within.1 (sym c.in-Whole.ensures.value) in
    let begins = subst (λ (l : List ℕ). BeginsWith rest (body (take count l)) after) (sym (rest_is head kept)) here in
    c.in-Err.ensures.heard before taken rest after so_far begins

pub returns-in-Over-clause-taken : goal.returns-in-Over-clause-taken
returns-in-Over-clause-taken g c = λ before taken rest so_far waits.
    let all = c.deref.result.now in
    let kept = take (length all - c.args.at) (drop c.args.at all) in
    let same : kept ≡ drop c.args.at c.args.self.now.bytes.items = rest_is c.args.at all ∙ ap (drop c.args.at) c.deref.ensures.value in
    let head = c.in-Over.head in
    let count = c.in-Over.body in
    let within = c.in-Over.ensures.within in
    subst (λ (l : List ℕ). TakenBy (Bytes head) before (g.K.Sink.held c.args.sink.now) taken c.args.documents.now count l) same
    (over_taken before _ taken _ rest kept c.args.self.now.skipped head count c.requires.none within.1 within.2 (sym c.in-Over.ensures.value) so_far (subst (λ (l : List ℕ). Waits c.args.self.now.skipped l rest) (sym same) waits))

pub returns-in-More-clause-taken : goal.returns-in-More-clause-taken
returns-in-More-clause-taken g c = λ before taken rest so_far waits.
    let all = c.deref.result.now in
    let kept = take (length all - c.args.at) (drop c.args.at all) in
    let same : kept ≡ drop c.args.at c.args.self.now.bytes.items = rest_is c.args.at all ∙ ap (drop c.args.at) c.deref.ensures.value in
    (rest, so_far, waits, c.requires.none, ap frame (sym same) ∙ sym c.in-More.ensures.value)

pub returns-in-Bad-clause-taken : goal.returns-in-Bad-clause-taken
returns-in-Bad-clause-taken g c = λ before taken rest so_far waits.
    let all = c.deref.result.now in
    let kept = take (length all - c.args.at) (drop c.args.at all) in
    let same : kept ≡ drop c.args.at c.args.self.now.bytes.items = rest_is c.args.at all ∙ ap (drop c.args.at) c.deref.ensures.value in
    bad_taken before _ taken _ rest kept c.args.self.now.skipped c.requires.none (sym c.in-Bad.ensures.value) so_far (subst (λ (l : List ℕ). Waits c.args.self.now.skipped l rest) (sym same) waits)
