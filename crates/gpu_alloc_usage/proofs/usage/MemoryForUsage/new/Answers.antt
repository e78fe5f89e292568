use Rattle.std.proofs.Common.{ℕ, List, ◌≡◌, ◌+◌, ◌<◌, ◌∙◌, ap, arith, length, map, get_or, set, [], inl, inr}
use Rattle.std.proofs.lemmas.Bool.{cases_eq}
use Rattle.std.proofs.lemmas.List.{get_or-set_same, get_or-set_other, map-set, length-map, length-set}
use Rattle.gpu_alloc_usage.specs.Ranking.{named, ranking}
use Rattle.gpu_alloc_usage.specs.Ranked.{ranked_types}
use Rattle.gpu_alloc_usage.proofs.Ranking.Candidates.{named-below}
use Rattle.gpu_alloc_usage.proofs.usage.MemoryForUsage.new.Goals as goal

-- with row n set as wanted, one row more is as wanted
one_row_more : (rows : List (List ℕ)) (n : ℕ) (row : List ℕ) (want : ℕ → List ℕ) → n < length rows → row ≡ want n → ((u : ℕ) → u < n → get_or rows u [] ≡ want u) → (u : ℕ) → u < n + 1 → get_or (set rows n row) u [] ≡ want u
one_row_more rows n row want inside is_wanted before u below =
    elim (cases_eq u n) [
      | inl same ↦ rw same (get_or-set_same rows n row [] inside ∙ is_wanted)
      | inr other ↦ get_or-set_other rows n u row [] other ∙ before u (omega arith)
    ]

pub loop-bits-preserved : goal.loop-bits-preserved
loop-bits-preserved c =
    let types = c.args.memory_types.now in
    let rows = c.loop-bits.usages in
    let bits = c.loop-bits.bits in
    let is_ranking = c.ranked.ensures ∙ ap (λ usage. ranking usage types) c.from_bits_retain-usage.ensures in
    let inside : bits < length (map ranked_types rows) = rw (length-map rows ranked_types, c.loop-bits.invariant.0) c.loop-bits-test.true in (
      length-set rows bits c.ranked.result ∙ c.loop-bits.invariant.0,
      λ u below. rw (map-set ranked_types rows bits c.ranked.result)
          (one_row_more (map ranked_types rows) bits (ranked_types c.ranked.result) (λ usage. ranking usage types) inside is_ranking c.loop-bits.invariant.1 u below),
    )

pub returns : goal.returns
returns c = record {
  rows = length-map c.loop-bits.usages ranked_types ∙ c.loop-bits.invariant.0;
  ranked = λ u. let below = named-below u in c.loop-bits.invariant.1 (named u) (omega arith);
}
