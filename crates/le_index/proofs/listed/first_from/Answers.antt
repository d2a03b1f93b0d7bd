use Rattle.std.proofs.Common.{rules, of_calls}
use Rattle.std.specs.Prelude.{nat_lt}
use Rattle.std.proofs.lemmas.Fn.{always_returns_same}
use Rattle.std.proofs.lemmas.List.Sorted.{IsPartitionedBy-ltb}
use Rattle.le_index.proofs.Listings.{rising-ordered}
use Rattle.le_index.proofs.listed.first_from.Goals as goal

pub returns : goal.returns
returns c = record {
  within = c.partition_point.ensures.bound;
  parted = λ rising.
      c.partition_point.ensures.partitioned (λ n. nat_lt n c.args.from)
      (always_returns_same _ _ _ (λ a r f k. search (rules, of_calls)))
      (IsPartitionedBy-ltb (λ n. n) c.args.numbers.now c.args.from (rising-ordered 0 c.args.numbers.now rising));
}
