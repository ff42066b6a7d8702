use Rattle.std.proofs.Common.{◌∙◌, refl, ap, arith}
use Rattle.typing_model.specs.PreludeText.{prelude_text}
use Rattle.text_analysis.proofs.Reading.{tree_read}
use Rattle.text_analysis.proofs.Counting.{few_tokens, grows_lexed, grows_read, lexed_within, read_untyped}
use Rattle.text_analysis.proofs.Shifting.{all_shifted, first_shifted, none_shifted}
use Rattle.text_analysis.proofs.whole.prelude_tree.Goals as goal

pub refresh-requires-clause-few : goal.refresh-requires-clause-few
refresh-requires-clause-few g c =
    few_tokens c.as_bytes-bytes.result.now c.tokens-2.result.now c.relex.new.self.tokens (omega (arith, c.if-bytes-gt1048576.false)) c.in_ok-relex.ensures.all c.tokens-2.ensures

pub returns-in_err-relex-clause-grows : goal.returns-in_err-relex-clause-grows
returns-in_err-relex-clause-grows g c =
    grows_lexed (g.C.Counts.tallies c.args.counts.now) (g.C.Counts.tallies c.relex.new.counts) c.relex.ensures.work.0 c.relex.ensures.work.1

pub returns-in_err-parse-clause-grows : goal.returns-in_err-parse-clause-grows
returns-in_err-parse-clause-grows g c =
    grows_lexed (g.C.Counts.tallies c.args.counts.now) (g.C.Counts.tallies c.relex.new.counts) c.relex.ensures.work.0 c.relex.ensures.work.1

pub returns-in_err-refresh-clause-grows : goal.returns-in_err-refresh-clause-grows
returns-in_err-refresh-clause-grows g c =
    grows_read (g.C.Counts.tallies c.args.counts.now) (g.C.Counts.tallies c.relex.new.counts) (g.C.Counts.tallies c.refresh.new.counts) c.relex.ensures.work.0 c.relex.ensures.work.1 c.refresh.ensures.grows

pub returns-clause-grows : goal.returns-clause-grows
returns-clause-grows g c =
    grows_read (g.C.Counts.tallies c.args.counts.now) (g.C.Counts.tallies c.relex.new.counts) (g.C.Counts.tallies c.refresh.new.counts) c.relex.ensures.work.0 c.relex.ensures.work.1 c.refresh.ensures.grows

pub returns-in_err-relex-clause-lexed : goal.returns-in_err-relex-clause-lexed
returns-in_err-relex-clause-lexed g c =
    let (n, counted, few) = c.relex.ensures.work in
    lexed_within prelude_text c.as_bytes-bytes.result.now (g.C.Counts.tallies c.args.counts.now) (g.C.Counts.tallies c.relex.new.counts) (g.C.Counts.tallies c.relex.new.counts) n _ (c.as_bytes-bytes.ensures.value ∙ c.text.ensures) counted few refl

pub returns-in_err-parse-clause-lexed : goal.returns-in_err-parse-clause-lexed
returns-in_err-parse-clause-lexed g c =
    let (n, counted, few) = c.relex.ensures.work in
    lexed_within prelude_text c.as_bytes-bytes.result.now (g.C.Counts.tallies c.args.counts.now) (g.C.Counts.tallies c.relex.new.counts) (g.C.Counts.tallies c.relex.new.counts) n _ (c.as_bytes-bytes.ensures.value ∙ c.text.ensures) counted few refl

pub returns-in_err-refresh-clause-lexed : goal.returns-in_err-refresh-clause-lexed
returns-in_err-refresh-clause-lexed g c =
    let (n, counted, few) = c.relex.ensures.work in
    lexed_within prelude_text c.as_bytes-bytes.result.now (g.C.Counts.tallies c.args.counts.now) (g.C.Counts.tallies c.relex.new.counts) (g.C.Counts.tallies c.refresh.new.counts) n _ (c.as_bytes-bytes.ensures.value ∙ c.text.ensures) counted few c.refresh.ensures.unlexed

pub returns-clause-lexed : goal.returns-clause-lexed
returns-clause-lexed g c =
    let (n, counted, few) = c.relex.ensures.work in
    lexed_within prelude_text c.as_bytes-bytes.result.now (g.C.Counts.tallies c.args.counts.now) (g.C.Counts.tallies c.relex.new.counts) (g.C.Counts.tallies c.refresh.new.counts) n _ (c.as_bytes-bytes.ensures.value ∙ c.text.ensures) counted few c.refresh.ensures.unlexed

pub returns-in_err-relex-clause-shifted : goal.returns-in_err-relex-clause-shifted
returns-in_err-relex-clause-shifted g c = none_shifted (g.C.Counts.tallies c.args.counts.now) (g.C.Counts.tallies c.relex.new.counts) c.relex.ensures.work.0 c.relex.ensures.work.1

pub returns-in_err-parse-clause-shifted : goal.returns-in_err-parse-clause-shifted
returns-in_err-parse-clause-shifted g c = none_shifted (g.C.Counts.tallies c.args.counts.now) (g.C.Counts.tallies c.relex.new.counts) c.relex.ensures.work.0 c.relex.ensures.work.1

pub returns-in_err-refresh-clause-shifted : goal.returns-in_err-refresh-clause-shifted
returns-in_err-refresh-clause-shifted g c =
    let (j, least, most, parsed, counted) = c.in_err-refresh.ensures.refused in
    first_shifted c.as_bytes-bytes.result.now c.tokens-2.result.now c.relex.new.self.tokens _ c.relex.ensures.work.0 j (g.C.Counts.tallies c.args.counts.now) (g.C.Counts.tallies c.relex.new.counts) (g.C.Counts.tallies c.refresh.new.counts)
    (c.as_bytes-bytes.ensures.value ∙ c.text.ensures) c.in_ok-relex.ensures.tokens c.tokens-2.ensures c.in_ok-parse.ensures.text c.relex.ensures.work.1 counted

pub returns-clause-shifted : goal.returns-clause-shifted
returns-clause-shifted g c =
    all_shifted c.as_bytes-bytes.result.now c.tokens-2.result.now c.relex.new.self.tokens _ c.relex.ensures.work.0 (g.C.Counts.tallies c.args.counts.now) (g.C.Counts.tallies c.relex.new.counts) (g.C.Counts.tallies c.refresh.new.counts)
    (c.as_bytes-bytes.ensures.value ∙ c.text.ensures) c.in_ok-relex.ensures.tokens c.tokens-2.ensures c.in_ok-parse.ensures.text c.relex.ensures.work.1 c.in_ok-refresh.ensures.counted

pub returns-in_err-relex-clause-untyped : goal.returns-in_err-relex-clause-untyped
returns-in_err-relex-clause-untyped g c = read_untyped (g.C.Counts.tallies c.args.counts.now) (g.C.Counts.tallies c.relex.new.counts) (g.C.Counts.tallies c.relex.new.counts) c.relex.ensures.work.0 c.relex.ensures.work.1 refl

pub returns-in_err-parse-clause-untyped : goal.returns-in_err-parse-clause-untyped
returns-in_err-parse-clause-untyped g c = read_untyped (g.C.Counts.tallies c.args.counts.now) (g.C.Counts.tallies c.relex.new.counts) (g.C.Counts.tallies c.relex.new.counts) c.relex.ensures.work.0 c.relex.ensures.work.1 refl

pub returns-in_err-refresh-clause-untyped : goal.returns-in_err-refresh-clause-untyped
returns-in_err-refresh-clause-untyped g c = read_untyped (g.C.Counts.tallies c.args.counts.now) (g.C.Counts.tallies c.relex.new.counts) (g.C.Counts.tallies c.refresh.new.counts) c.relex.ensures.work.0 c.relex.ensures.work.1 c.refresh.ensures.untyped

pub returns-clause-untyped : goal.returns-clause-untyped
returns-clause-untyped g c = read_untyped (g.C.Counts.tallies c.args.counts.now) (g.C.Counts.tallies c.relex.new.counts) (g.C.Counts.tallies c.refresh.new.counts) c.relex.ensures.work.0 c.relex.ensures.work.1 c.refresh.ensures.untyped

pub returns-clause-tree : goal.returns-clause-tree
returns-clause-tree g c = tree_read c.as_bytes-bytes.result.now c.tokens-2.result.now c.relex.new.self.tokens c.refresh.new.self c.into_parsed.result.tree (c.as_bytes-bytes.ensures.value ∙ c.text.ensures) c.in_ok-relex.ensures.tokens c.tokens-2.ensures
    (c.refresh.ensures.text ∙ c.in_ok-parse.ensures.text) c.in_ok-refresh.ensures.parsed (ap (λ p. p.tree) c.into_parsed.ensures)
