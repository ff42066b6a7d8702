use Rattle.typing_state.proofs.Going.{goes_refl}
use Rattle.text_terms.specs.Bytes.{str_bytes}
use Rattle.typing_state.proofs.Differing.{differs_by}
use Rattle.typing_state.proofs.parts.Parts.differ.Goals as goal

pub returns-clause-told : goal.returns-clause-told
returns-clause-told c =
    differs_by c.tell_two.result c.args.self.now c.tell_two.new.self c.args.at c.args.found c.args.wanted c.args.kind c.args.env.now (str_bytes c.in_ok-found.found) (str_bytes c.in_ok-found.wanted)
    c.as_str-found.result.now c.as_str-wanted.result.now c.as_str-found.ensures c.as_str-wanted.ensures c.in_ok-found.ensures c.tell_two.ensures.told

pub returns-clause-goes : goal.returns-clause-goes
returns-clause-goes c = c.tell_two.ensures.goes

pub returns-in_err-found-clause-goes : goal.returns-in_err-found-clause-goes
returns-in_err-found-clause-goes c = goes_refl c.args.self.now
