use Rattle.std.proofs.Common.{◌≡◌, true, false}
use Rattle.session_loop.specs.Words.{are_refused, texts}
use Rattle.session_loop.proofs.Parses.{accepted}
use Rattle.session_loop.proofs.service.serve.Goals as goal

pub returns-clause-accepted : goal.returns-clause-accepted
returns-clause-accepted g c = λ always bad.
    let taken : are_refused (texts c.args.words.now) ≡ false = accepted (texts c.args.words.now) always in
    let refused : are_refused (texts c.args.words.now) ≡ true = c.run_by-status.ensures.bad_words bad in
    cc
