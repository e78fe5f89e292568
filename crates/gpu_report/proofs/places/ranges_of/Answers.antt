use Rattle.std.proofs.Common.{rules, ltb, leb}
use Rattle.std.proofs.lemmas.List.Sorted.{IsPartitionPoint-from_clause, IsPartitionedBy-ltb, IsPartitionedBy-leb}
use Rattle.gpu_alloc_types.specs.declared.types.FreeRange.{FreeRange}
use Rattle.gpu_report.proofs.Runs.{rest_from, rest_rises, run_from, ranges_rise}
use Rattle.gpu_report.proofs.places.ranges_of.Goals as goal

pub returns : goal.returns
returns c =
    let n = λ (r : FreeRange). r.object in
    let o = c.args.object in
    let xs = c.args.free.now in
    let low = c.partition_point-first.result in
    let up = ranges_rise c.args.free.now c.requires in
    let first = IsPartitionPoint-from_clause (λ x. ltb (n x) o) xs low c.partition_point-first.ensures.partitioned (IsPartitionedBy-ltb n xs o up) (λ a r f' called. search rules) in
    let past = IsPartitionPoint-from_clause (λ x. leb (n x) o) (rest_from n o xs low) c.partition_point-count.result c.partition_point-count.ensures.partitioned
    (IsPartitionedBy-leb n (rest_from n o xs low) o (rest_rises n o xs low up)) (λ a r f' called. search rules) in
    run_from n o xs low c.partition_point-count.result c.partition_point-first.ensures.bound c.partition_point-count.ensures.bound first past
