use Rattle.std.proofs.Common.{leb, leb-true, leb-false, rules}
use Rattle.std.proofs.lemmas.List.Sorted.{IsPartitionPoint-from_clause, IsPartitionedBy-leb}
use Rattle.text_store.proofs.places.starts_until.Goals as goal

pub returns : goal.returns
returns c =
    let parted = IsPartitionedBy-leb (λ t. t) _ c.args.place c.requires in
    let point = IsPartitionPoint-from_clause (λ t. leb t c.args.place) _ _ c.partition_point.ensures.partitioned parted (λ a r q k. search rules) in
    record {
      bound = c.partition_point.ensures.bound;
      parts = (λ k d low high. leb-true _ _ (point.0 k d low high), λ k d low high. leb-false _ _ (point.1 k d low high));
    }
