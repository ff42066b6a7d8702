use Rattle.std.proofs.Common.{rules, ◌≡◌, ◌++◌, List, ℕ, sym, subst}
use Rattle.lsp_loop.specs.Waiting.{Waits}
use Rattle.lsp_loop.proofs.Runs.{so_far_stays}
use Rattle.lsp_loop.proofs.Taking.{waits_stays}
use Rattle.lsp_loop.proofs.incoming.Incoming.take_chunk.Goals as goal

pub returns-then-is_err-clause-taken : goal.returns-then-is_err-clause-taken
returns-then-is_err-clause-taken g c = λ before taken rest so_far keeps. (c.args.documents.now, rest ++ c.args.chunk.now, so_far_stays before _ taken _ rest c.args.chunk.now so_far)

pub returns-clause-taken : goal.returns-clause-taken
returns-clause-taken g c = λ before taken rest so_far keeps.
    let chunk = c.args.chunk.now in
    let kept = c.args.self.now.bytes.items in
    let grown : c.extend_from_slice.new.self.items ≡ kept ++ chunk = search rules in
    c.take_messages.ensures.taken before (taken ++ chunk) (rest ++ chunk) (so_far_stays before _ taken _ rest chunk so_far)
    (subst (λ (l : List ℕ). Waits c.args.self.now.skipped l (rest ++ chunk)) (sym grown) (waits_stays c.args.self.now.skipped kept rest chunk keeps.waits))
