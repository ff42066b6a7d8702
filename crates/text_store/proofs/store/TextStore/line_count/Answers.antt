use Rattle.std.proofs.Common.{ap, length, arith}
use Rattle.text_model.specs.Lines.{lines_of}
use Rattle.text_store.proofs.LineStarts.{HasStarts-length, HasStarts-lines}
use Rattle.text_store.proofs.store.TextStore.line_count.Goals as goal

pub overflow_cast-result : goal.overflow_cast-result
overflow_cast-result c = let n = HasStarts-length _ _ c.self.invariant.1 in omega arith

pub overflow_add-result : goal.overflow_add-result
overflow_add-result c = let n = HasStarts-length _ _ c.self.invariant.1 in omega arith

pub returns : goal.returns
returns c = let n = HasStarts-lines _ _ c.self.invariant.1 in let v = ap (λ t. length (lines_of t)) c.self.view_is in omega arith
