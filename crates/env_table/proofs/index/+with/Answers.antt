use Rattle.std.proofs.Common.{◌-◌, ◌/◌}
use Rattle.env_table.specs.declared.index.Fork.{out-Fork}
use Rattle.env_table.specs.Index.{bits_of}
use Rattle.env_table.proofs.Bits.{bits_none, bits_odd, bits_even}
use Rattle.env_table.proofs.Forks.{rolled_at, opened_at, adds_here, adds_odd, adds_even}
use Rattle.env_table.proofs.index.+with.Goals as goal

pub added-returns-in_ok-bucket : goal.added-returns-in_ok-bucket
added-returns-in_ok-bucket t c ks =
    let f = out-Fork c.args.fork in
    rw (bits_none c.args.bits c.args.hash c.if-bits-eq0.true, opened_at c.args.fork ks, rolled_at)
    (adds_here f.bucket c.in_ok-bucket.bucket f.even f.odd c.args.entry.value c.in_ok-bucket.ensures ks)

pub added-returns-in_ok-odd : goal.added-returns-in_ok-odd
added-returns-in_ok-odd t c ks =
    let f = out-Fork c.args.fork in
    rw (bits_odd c.args.bits c.args.hash c.if-bits-eq0.false c.if-hash-eq1.true, opened_at c.args.fork ks, rolled_at)
    (adds_odd f.bucket f.even f.odd c.in_ok-odd.odd c.args.entry.value (bits_of (c.args.bits - 1) (c.args.hash / 2)) c.in_ok-odd.ensures ks)

pub added-returns-in_ok-even : goal.added-returns-in_ok-even
added-returns-in_ok-even t c ks =
    let f = out-Fork c.args.fork in
    rw (bits_even c.args.bits c.args.hash c.if-bits-eq0.false c.if-hash-eq1.false, opened_at c.args.fork ks, rolled_at)
    (adds_even f.bucket f.even f.odd c.in_ok-even.even c.args.entry.value (bits_of (c.args.bits - 1) (c.args.hash / 2)) c.in_ok-even.ensures ks)
