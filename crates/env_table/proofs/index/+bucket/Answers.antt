use Rattle.env_table.proofs.Bits.{bits_none, bits_odd, bits_even}
use Rattle.env_table.proofs.Forks.{opened_at}
use Rattle.env_table.proofs.index.+bucket.Goals as goal

pub bucket_of-returns-then-bits-eq0 : goal.bucket_of-returns-then-bits-eq0
bucket_of-returns-then-bits-eq0 t c = rw (bits_none c.args.bits c.args.hash c.if-bits-eq0.true, opened_at) c.linked.ensures

pub bucket_of-returns-then-hash-eq1 : goal.bucket_of-returns-then-hash-eq1
bucket_of-returns-then-hash-eq1 t c = rw (bits_odd c.args.bits c.args.hash c.if-bits-eq0.false c.if-hash-eq1.true, opened_at) c.bucket.ensures

pub bucket_of-returns-else-hash-eq1 : goal.bucket_of-returns-else-hash-eq1
bucket_of-returns-else-hash-eq1 t c = rw (bits_even c.args.bits c.args.hash c.if-bits-eq0.false c.if-hash-eq1.false, opened_at) c.bucket-else-hash-eq1.ensures
