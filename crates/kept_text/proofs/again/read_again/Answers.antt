use Rattle.std.proofs.Common.{◌++◌, length, min, sym, ap, ◌∙◌, subst, arith}
use Rattle.std.proofs.lemmas.List.{length-map}
use Rattle.ml_lexer.specs.Reached.{Reached}
use Rattle.token_store.specs.Stored.{toks_of}
use Rattle.kept_text.specs.Keeping.{IsParsedUpTo}
use Rattle.kept_text.proofs.Keeps.{few_read, first_kept, first_less, left_front, read_known, read_left, steady_one}
use Rattle.kept_text.proofs.Fronts.{steady_few}
use Rattle.kept_text.proofs.again.read_again.Goals as goal

pub relex-answer-requires : goal.relex-answer-requires
relex-answer-requires g c = record {
  short = c.requires.short;
  text = c.requires.text;
  front = left_front (c.args.left.now ++ c.args.right.now) c.args.from c.args.tokens.now.tokens c.requires.left;
}

pub returns-clause-left : goal.returns-clause-left
returns-clause-left g c =
    read_left c.relex-answer.result (c.args.left.now ++ c.args.right.now) c.args.from c.args.tokens.now.tokens c.relex-answer.new.self.tokens c.requires.left c.relex-answer.ensures.all c.relex-answer.ensures.refused

pub returns-clause-same : goal.returns-clause-same
returns-clause-same g c = λ parse known.
    let text = c.args.left.now ++ c.args.right.now in
    let now = c.relex-answer.new.self.tokens in
    subst (λ n. IsParsedUpTo n (toks_of now) parse) (sym (c.min.ensures ∙ ap (min c.args.same.now) c.unchanged.ensures))
    (read_known c.relex-answer.result text c.args.from c.args.same.now c.relex-answer.new.self.unchanged c.args.tokens.now.tokens now parse (left_front text c.args.from c.args.tokens.now.tokens c.requires.left) c.relex-answer.ensures.all c.relex-answer.ensures.refused c.relex-answer.ensures.unchanged known)

pub returns-clause-work : goal.returns-clause-work
returns-clause-work g c =
    let (n, counted, few) = c.relex-answer.ensures.work in
    (n, counted, few_read (c.args.left.now ++ c.args.right.now) c.args.from n c.args.tokens.now.tokens c.requires.left few)

pub returns-clause-known : goal.returns-clause-known
returns-clause-known g c = λ known.
    let text = c.args.left.now ++ c.args.right.now in
    let left = read_left c.relex-answer.result text c.args.from c.args.tokens.now.tokens c.relex-answer.new.self.tokens c.requires.left c.relex-answer.ensures.all c.relex-answer.ensures.refused in
    omega (arith, known, c.min.ensures, c.unchanged.ensures, c.relex-answer.ensures.unchanged, ap length (steady_one text c.args.from c.args.tokens.now.tokens c.relex-answer.new.self.tokens c.requires.left left))

pub returns-clause-front : goal.returns-clause-front
returns-clause-front g c =
    let text = c.args.left.now ++ c.args.right.now in
    first_less c.min.result c.relex-answer.new.self.unchanged (toks_of c.args.tokens.now.tokens) (toks_of c.relex-answer.new.self.tokens) (omega (arith, c.min.ensures, c.unchanged.ensures))
    (first_kept c.relex-answer.result text c.args.from c.relex-answer.new.self.unchanged c.args.tokens.now.tokens c.relex-answer.new.self.tokens (left_front text c.args.from c.args.tokens.now.tokens c.requires.left) c.relex-answer.ensures.all c.relex-answer.ensures.refused c.relex-answer.ensures.unchanged)

pub returns-clause-within : goal.returns-clause-within
returns-clause-within g c =
    let old = c.args.tokens.now.tokens in
    omega (arith, c.min.ensures, c.unchanged.ensures, c.relex-answer.ensures.unchanged, steady_few c.args.from old, length-map old (λ (t : Reached). t.token))
