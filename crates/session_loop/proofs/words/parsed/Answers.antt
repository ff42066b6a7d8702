use Rattle.std.proofs.Common.{rules, ◌≡◌, ◌∷◌, ◌∙◌, map}
use Rattle.std.specs.Str.Parse.{ParsesUnsigned, ExplainsUnsignedError, HasUnsignedDigitsIfOk}
use Rattle.session_loop.specs.Words.{program_name, texts}
use Rattle.session_loop.proofs.Parses.{items_read, not_taken, taken}
use Rattle.session_loop.proofs.words.parsed.Goals as goal

pub returns-in-Ok-clause-ok : goal.returns-in-Ok-clause-ok
returns-in-Ok-clause-ok c =
    let all : map (λ s. s.now) c.as_slice.result.now ≡ program_name ∷ texts c.args.words.now = search rules in (
      taken _ _ (texts c.args.words.now) c.in_ok-make_command.ensures all c.in-Ok.ensures.kinds,
      c.task_of.ensures ∙ items_read _ (λ bs r. ParsesUnsigned 32 10 bs r × ExplainsUnsignedError 10 bs r × HasUnsignedDigitsIfOk bs r) _ _ (texts c.args.words.now) c.in-Ok.matches c.get_one.result
          c.in_ok-make_command.ensures all c.in-Ok.ensures.matches (λ u x g. g.0) c.get_one.ensures.none c.get_one.ensures.value,
    )

pub returns-clause-err : goal.returns-clause-err
returns-clause-err c =
    let all : map (λ s. s.now) c.as_slice.result.now ≡ program_name ∷ texts c.args.words.now = search rules in
    not_taken _ _ (texts c.args.words.now) c.in-Err.error c.in_ok-make_command.ensures all c.in-Err.ensures.kinds
