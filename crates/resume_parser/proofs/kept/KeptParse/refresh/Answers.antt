use Rattle.std.proofs.Common.{◌+◌, ◌<◌, List, length, map, take, refl, sym, subst, ◌∙◌, ap, arith}
use Rattle.std.proofs.lemmas.List.{length-take}
use Rattle.token_model.specs.Kinds.{Tok}
use Rattle.grammar_model.specs.Ocaml.{Text}
use Rattle.syntax_tree.specs.Tallies.{Tallies}
use Rattle.syntax_tree.specs.View.{tok_of}
use Rattle.frame_parser.specs.Run.{next_shifts, shifted_by}
use Rattle.frame_parser.proofs.Lists.{tokens_all, tokens_most, tokens_next, grows_more}
use Rattle.resume_parser.specs.Kept.{text_in, IsBegun, IsCounted}
use Rattle.resume_parser.proofs.Bounds.{counted_first}
use Rattle.resume_parser.proofs.Fronts.{begun_kept}
use Rattle.resume_parser.proofs.Steps.{at_refusal, first_many, counted_none, counted_on, lexed_stays, mapped_first, typed_stays}
use Rattle.resume_parser.proofs.kept.KeptParse.refresh.Goals as goal

pub loop-k-init : goal.loop-k-init
loop-k-init g c = let (old, parsed, le, same) = c.requires.kept in record {
  text = c.cut.ensures.text;
  least = omega arith;
  parsed = subst (λ (l : List Tok). IsBegun l c.cut.new.self) (same ∙ mapped_first c.args.tokens.now c.args.same)
      (c.cut.ensures.parsed old parsed (let a = length-take c.args.same old in let b = c.requires.few in let d = c.requires.within in omega arith));
  counted = counted_none (text_in c.args.self.now) c.args.tokens.now c.args.same (g.C.Counts.tallies c.args.counts.now) c.requires.within;
  unlexed = refl;
  untyped = refl;
  grows = record { lexed = omega arith; shifted = omega arith; typed = omega arith };
}

pub take-requires : goal.take-requires
take-requires g c =
    let k = c.loop-k.k in
    record { few = (map tok_of (take k c.args.tokens.now), c.loop-k.invariant.parsed, omega (arith, first_many c.args.tokens.now k (omega (arith, c.loop-k-test.true)), c.loop-k-test.true, c.requires.few)) }

pub loop-k-preserved : goal.loop-k-preserved
loop-k-preserved g c =
    let k = c.loop-k.k in
    let inv = c.loop-k.invariant in
    let ts = map tok_of (take k c.args.tokens.now) in
    let t = tok_of c.index-tokens-k.result in
    let many = first_many c.args.tokens.now k (omega (arith, c.loop-k-test.true)) in
    let few : length ts < 1048576 = omega (arith, many, c.loop-k-test.true, c.requires.few) in
    let next = tokens_next c.args.tokens.now k c.index-tokens-k.result c.loop-k-test.true c.index-tokens-k.is in
    let counted = c.in_ok-take.ensures.counted ts inv.parsed few ∙ ap (λ (x : Text). shifted_by (next_shifts x ts t) (g.C.Counts.tallies c.loop-k.counts)) inv.text in
    record {
      text = c.take.ensures.text ∙ inv.text;
      least = omega (arith, inv.least);
      parsed = subst (λ (l : List Tok). IsBegun l c.take.new.self) (sym next) (c.in_ok-take.ensures.parsed ts inv.parsed few);
      counted = counted_on (text_in c.args.self.now) c.args.same ts (map tok_of (take (k + 1) c.args.tokens.now)) t _ _ _ (omega (arith, many, inv.least)) next inv.counted counted;
      unlexed = ap (λ (a : Tallies). a.lexed) counted ∙ lexed_stays (next_shifts (text_in c.args.self.now) ts t) (g.C.Counts.tallies c.loop-k.counts) ∙ inv.unlexed;
      untyped = ap (λ (a : Tallies). a.typed) counted ∙ typed_stays (next_shifts (text_in c.args.self.now) ts t) (g.C.Counts.tallies c.loop-k.counts) ∙ inv.untyped;
      grows = grows_more (g.C.Counts.tallies c.args.counts.now) (g.C.Counts.tallies c.loop-k.counts) (g.C.Counts.tallies c.take.new.counts) (next_shifts (text_in c.args.self.now) ts t) inv.grows counted;
    }

pub returns-in_err-take-clause-refused : goal.returns-in_err-take-clause-refused
returns-in_err-take-clause-refused g c =
    let k = c.loop-k.k in
    let inv = c.loop-k.invariant in
    let ts = map tok_of (take k c.args.tokens.now) in
    at_refusal c.from_residual.result (
      k,
      inv.least,
      omega (arith, c.loop-k-test.true),
      begun_kept ts c.take.new.self (c.in_err-take.ensures.refused ts inv.parsed),
      subst (IsCounted (text_in c.args.self.now) c.args.same ts (g.C.Counts.tallies c.args.counts.now)) (sym c.in_err-take.ensures.uncounted) inv.counted,
    )

pub returns-in_err-take-clause-work : goal.returns-in_err-take-clause-work
returns-in_err-take-clause-work g c =
    let inv = c.loop-k.invariant in
    (inv.counted.steps, c.in_err-take.ensures.uncounted ∙ inv.counted.counted, counted_first (text_in c.args.self.now) c.args.same c.loop-k.k c.args.tokens.now _ _ inv.counted inv.least)

pub returns-clause-work : goal.returns-clause-work
returns-clause-work g c =
    let inv = c.loop-k.invariant in
    (inv.counted.steps, inv.counted.counted, counted_first (text_in c.args.self.now) c.args.same c.loop-k.k c.args.tokens.now _ _ inv.counted inv.least)

pub end-requires : goal.end-requires
end-requires g c =
    let tokens = c.args.tokens.now in
    let all = tokens_all tokens c.loop-k.k c.loop-k-test.false in
    record { few = (map tok_of tokens, subst (λ (l : List Tok). IsBegun l c.loop-k.self) all c.loop-k.invariant.parsed, tokens_most tokens c.requires.few) }

pub returns-clause-parsed : goal.returns-clause-parsed
returns-clause-parsed g c =
    let tokens = c.args.tokens.now in
    let all = tokens_all tokens c.loop-k.k c.loop-k-test.false in
    c.in_ok-end.ensures.whole (map tok_of tokens) (subst (λ (l : List Tok). IsBegun l c.loop-k.self) all c.loop-k.invariant.parsed) (tokens_most tokens c.requires.few)

pub returns-in_err-end-clause-refused : goal.returns-in_err-end-clause-refused
returns-in_err-end-clause-refused g c =
    let tokens = c.args.tokens.now in
    let inv = c.loop-k.invariant in
    let all = tokens_all tokens c.loop-k.k c.loop-k-test.false ∙ sym (tokens_all tokens (length tokens) (omega arith)) in
    at_refusal c.from_residual-in_err-end.result (
      length tokens,
      c.requires.within,
      omega arith,
      c.in_err-end.ensures.refused (map tok_of (take (length tokens) tokens)) (subst (λ (l : List Tok). IsBegun l c.loop-k.self) all inv.parsed),
      subst (λ (l : List Tok). IsCounted (text_in c.args.self.now) c.args.same l (g.C.Counts.tallies c.args.counts.now) (g.C.Counts.tallies c.loop-k.counts)) all inv.counted,
    )

pub returns-in_err-end-clause-work : goal.returns-in_err-end-clause-work
returns-in_err-end-clause-work g c =
    let inv = c.loop-k.invariant in
    (inv.counted.steps, inv.counted.counted, counted_first (text_in c.args.self.now) c.args.same c.loop-k.k c.args.tokens.now _ _ inv.counted inv.least)
