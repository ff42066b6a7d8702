use Rattle.std.proofs.Common.{false, List, ℕ, ◌++◌, length, refl, sym, ap, subst, arith}
use Rattle.std.specs.Prelude.{Option}
use Rattle.std.specs.Str.{IsUtf8}
use Rattle.token_model.specs.Kinds.{Tok}
use Rattle.std.proofs.lemmas.List.{length-map}
use Rattle.syntax_tree.specs.View.{tok_of}
use Rattle.ml_lexer.specs.Reached.{end_of, FirstReached}
use Rattle.ml_lexer.specs.Steady.{AllTokens}
use Rattle.token_store.specs.Stored.{toks_of}
use Rattle.resume_parser.specs.Kept.{SharesFront}
use Rattle.kept_text.specs.Keeping.{trees_in, AreLeft, AreTokens, IsKept, IsParsedUpTo, Kept}
use Rattle.kept_text.proofs.Keeps.{few_tokens, grows_lexed, grows_on, kept_read, kept_whole, known_at, parsed_shifts, read_shifts, read_untyped, toks_are, work_done}
use Rattle.kept_text.proofs.kept.KeptText.refresh.Goals as goal

pub read_again-requires : goal.read_again-requires
read_again-requires g c =
    let was = c.self.inside in
    let text = c.slices.ensures.text in
    let left = subst (λ (o : Option ℕ). AreTokens was.text o was.tokens.tokens) c.in-Some.is c.self.invariant.lexed in
    record {
      short = omega (arith, ap (λ (l : List ℕ). length l) text, c.slices.ensures.short);
      text = subst (λ (l : List ℕ). IsUtf8 l) (sym text) c.slices.ensures.utf8;
      left = subst (λ (l : List ℕ). AreLeft l c.in-Some.from was.tokens.tokens) (sym text) left;
    }

pub parse_again-requires : goal.parse_again-requires
parse_again-requires g c =
    let was = c.self.inside in
    let ts = c.read_again.new.tokens.tokens in
    let all = subst (λ (l : List ℕ). AllTokens FirstReached end_of l 0 ts) c.slices.ensures.text c.in_ok-read_again.ensures.all in
    record {
      few = few_tokens was.text c.tokens-tokens.result.now ts c.slices.ensures.short all c.tokens-tokens.ensures;
      parsed = subst (λ (l : List Tok). IsParsedUpTo c.read_again.new.same l was.parse) (sym (toks_are c.tokens-tokens.result.now ts c.tokens-tokens.ensures)) (c.read_again.ensures.same was.parse c.self.invariant.parsed);
    }

pub invariant_of-self : goal.invariant_of-self
invariant_of-self g c =
    let was = c.self.inside in
    let ts = c.read_again.new.tokens.tokens in
    let left = subst (λ (l : List ℕ). AreLeft l c.in-Some.from ts) c.slices.ensures.text c.read_again.ensures.left in
    subst (λ (o : Option ℕ). IsKept was.text ts was.parse o c.read_again.new.same false) (sym c.in-Some.is)
    (kept_read was.text ts was.parse c.in-Some.from c.read_again.new.same left (c.read_again.ensures.same was.parse c.self.invariant.parsed) (c.read_again.ensures.known (known_at was.changed c.in-Some.from was.tokens.tokens was.same c.in-Some.is c.self.invariant.known)))

pub invariant_of-self-in_err-parse_again : goal.invariant_of-self-in_err-parse_again
invariant_of-self-in_err-parse_again g c =
    let was = c.self.inside in
    let ts = c.read_again.new.tokens.tokens in
    let parse = c.parse_again.new.parse in
    let left = subst (λ (l : List ℕ). AreLeft l c.in-Some.from ts) c.slices.ensures.text c.read_again.ensures.left in
    let known = subst (λ (l : List Tok). IsParsedUpTo c.read_again.new.same l parse) (toks_are c.tokens-tokens.result.now ts c.tokens-tokens.ensures) c.parse_again.ensures.parsed in
    subst (λ (o : Option ℕ). IsKept was.text ts parse o c.read_again.new.same false) (sym c.in-Some.is) (kept_read was.text ts parse c.in-Some.from c.read_again.new.same left known (c.read_again.ensures.known (known_at was.changed c.in-Some.from was.tokens.tokens was.same c.in-Some.is c.self.invariant.known)))

pub invariant_of-self-2 : goal.invariant_of-self-2
invariant_of-self-2 g c =
    let was = c.self.inside in
    let ts = c.read_again.new.tokens.tokens in
    let all = subst (λ (l : List ℕ). AllTokens FirstReached end_of l 0 ts) c.slices.ensures.text c.in_ok-read_again.ensures.all in
    kept_whole was.text c.tokens-tokens.result.now ts c.parse_again.new.parse (length c.tokens-tokens.result.now) c.slices.ensures.short all c.tokens-tokens.ensures c.in_ok-parse_again.ensures.whole refl

pub returns-in_err-read_again-clause-grows : goal.returns-in_err-read_again-clause-grows
returns-in_err-read_again-clause-grows g c =
    grows_lexed (g.C.Counts.tallies c.args.counts.now) (g.C.Counts.tallies c.read_again.new.counts) c.read_again.ensures.work.0 c.read_again.ensures.work.1

pub returns-in_err-parse_again-clause-grows : goal.returns-in_err-parse_again-clause-grows
returns-in_err-parse_again-clause-grows g c =
    grows_on (g.C.Counts.tallies c.args.counts.now) (g.C.Counts.tallies c.read_again.new.counts) (g.C.Counts.tallies c.parse_again.new.counts)
    (grows_lexed (g.C.Counts.tallies c.args.counts.now) (g.C.Counts.tallies c.read_again.new.counts) c.read_again.ensures.work.0 c.read_again.ensures.work.1) c.parse_again.ensures.grows

pub returns-clause-grows : goal.returns-clause-grows
returns-clause-grows g c =
    grows_on (g.C.Counts.tallies c.args.counts.now) (g.C.Counts.tallies c.read_again.new.counts) (g.C.Counts.tallies c.parse_again.new.counts)
    (grows_lexed (g.C.Counts.tallies c.args.counts.now) (g.C.Counts.tallies c.read_again.new.counts) c.read_again.ensures.work.0 c.read_again.ensures.work.1) c.parse_again.ensures.grows

pub returns-in_err-read_again-clause-work : goal.returns-in_err-read_again-clause-work
returns-in_err-read_again-clause-work g c =
    let (n, counted, few) = c.read_again.ensures.work in
    work_done _ c.args.self.now (c.slices.result.0.now ++ c.slices.result.1.now) c.in-Some.from n (g.C.Counts.tallies c.args.counts.now) (g.C.Counts.tallies c.read_again.new.counts) (g.C.Counts.tallies c.read_again.new.counts) c.self.view_is c.in-Some.is c.slices.ensures.text counted few refl

pub returns-in_err-parse_again-clause-work : goal.returns-in_err-parse_again-clause-work
returns-in_err-parse_again-clause-work g c =
    let (n, counted, few) = c.read_again.ensures.work in
    work_done _ c.args.self.now (c.slices.result.0.now ++ c.slices.result.1.now) c.in-Some.from n (g.C.Counts.tallies c.args.counts.now) (g.C.Counts.tallies c.read_again.new.counts) (g.C.Counts.tallies c.parse_again.new.counts) c.self.view_is c.in-Some.is c.slices.ensures.text counted few c.parse_again.ensures.unlexed

pub returns-clause-work : goal.returns-clause-work
returns-clause-work g c =
    let (n, counted, few) = c.read_again.ensures.work in
    work_done _ c.args.self.now (c.slices.result.0.now ++ c.slices.result.1.now) c.in-Some.from n (g.C.Counts.tallies c.args.counts.now) (g.C.Counts.tallies c.read_again.new.counts) (g.C.Counts.tallies c.parse_again.new.counts) c.self.view_is c.in-Some.is c.slices.ensures.text counted few c.parse_again.ensures.unlexed

pub returns-in_err-read_again-clause-untyped : goal.returns-in_err-read_again-clause-untyped
returns-in_err-read_again-clause-untyped g c = let (n, counted, few) = c.read_again.ensures.work in read_untyped (g.C.Counts.tallies c.args.counts.now) (g.C.Counts.tallies c.read_again.new.counts) (g.C.Counts.tallies c.read_again.new.counts) n counted refl

pub returns-in_err-parse_again-clause-untyped : goal.returns-in_err-parse_again-clause-untyped
returns-in_err-parse_again-clause-untyped g c = let (n, counted, few) = c.read_again.ensures.work in read_untyped (g.C.Counts.tallies c.args.counts.now) (g.C.Counts.tallies c.read_again.new.counts) (g.C.Counts.tallies c.parse_again.new.counts) n counted c.parse_again.ensures.untyped

pub returns-clause-untyped : goal.returns-clause-untyped
returns-clause-untyped g c = let (n, counted, few) = c.read_again.ensures.work in read_untyped (g.C.Counts.tallies c.args.counts.now) (g.C.Counts.tallies c.read_again.new.counts) (g.C.Counts.tallies c.parse_again.new.counts) n counted c.parse_again.ensures.untyped

pub returns-in_err-read_again-clause-shifted : goal.returns-in_err-read_again-clause-shifted
returns-in_err-read_again-clause-shifted g c = let (n, counted, few) = c.read_again.ensures.work in read_shifts c.args.self.now (g.C.Counts.tallies c.args.counts.now) (g.C.Counts.tallies c.read_again.new.counts) n counted

pub returns-in_err-parse_again-clause-shifted : goal.returns-in_err-parse_again-clause-shifted
returns-in_err-parse_again-clause-shifted g c =
    let was = c.self.inside in
    let ts = c.read_again.new.tokens.tokens in
    let all = subst (λ (l : List ℕ). AllTokens FirstReached end_of l 0 ts) c.slices.ensures.text c.in_ok-read_again.ensures.all in
    let (n, counted, few) = c.read_again.ensures.work in
    parsed_shifts _ c.args.self.now was.text c.in-Some.from c.read_again.new.same n c.tokens-tokens.result.now ts (g.C.Counts.tallies c.args.counts.now) (g.C.Counts.tallies c.read_again.new.counts) (g.C.Counts.tallies c.parse_again.new.counts) c.self.view_is c.in-Some.is refl counted
    all c.tokens-tokens.ensures (c.read_again.ensures.known (known_at was.changed c.in-Some.from was.tokens.tokens was.same c.in-Some.is c.self.invariant.known)) c.parse_again.ensures.shifted

pub returns-clause-shifted : goal.returns-clause-shifted
returns-clause-shifted g c =
    let was = c.self.inside in
    let ts = c.read_again.new.tokens.tokens in
    let all = subst (λ (l : List ℕ). AllTokens FirstReached end_of l 0 ts) c.slices.ensures.text c.in_ok-read_again.ensures.all in
    let (n, counted, few) = c.read_again.ensures.work in
    parsed_shifts _ c.args.self.now was.text c.in-Some.from c.read_again.new.same n c.tokens-tokens.result.now ts (g.C.Counts.tallies c.args.counts.now) (g.C.Counts.tallies c.read_again.new.counts) (g.C.Counts.tallies c.parse_again.new.counts) c.self.view_is c.in-Some.is refl counted
    all c.tokens-tokens.ensures (c.read_again.ensures.known (known_at was.changed c.in-Some.from was.tokens.tokens was.same c.in-Some.is c.self.invariant.known)) c.parse_again.ensures.shifted

pub returns-clause-front : goal.returns-clause-front
returns-clause-front g c =
    let was = c.self.inside in
    let now = c.read_again.new.tokens.tokens in
    let tokens = c.tokens-tokens.result.now in
    let all = subst (λ (l : List ℕ). AllTokens FirstReached end_of l 0 now) c.slices.ensures.text c.in_ok-read_again.ensures.all in
    let few = few_tokens was.text tokens now c.slices.ensures.short all c.tokens-tokens.ensures in
    subst (λ (k : Kept). SharesFront (trees_in k.tokens) (trees_in now) c.front_of-front.result) c.self.view_is
    (c.front_of-front.ensures.front (toks_of was.tokens.tokens) (toks_of now) c.self.invariant.tree c.read_again.ensures.front c.read_again.ensures.within (omega (arith, few, ap length (toks_are tokens now c.tokens-tokens.ensures), length-map tokens tok_of)))
