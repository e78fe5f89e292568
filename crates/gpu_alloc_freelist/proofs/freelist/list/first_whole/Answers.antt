use Rattle.std.proofs.Common.{◌≡◌, ◌+◌, ◌-◌, ◌<◌, ◌↔◌, ℕ, Bool, true, false, refl, subst, arith, length, get_or, List, IsTrue}
use Rattle.std.proofs.lemmas.List.{get_or_default}
use Rattle.gpu_alloc_base.specs.Accounts.{HeldChunks}
use Rattle.gpu_alloc_base.specs.declared.region.FreeListRegion.{FreeListRegion}
use Rattle.gpu_alloc_freelist.specs.Chunks.{IsWholeChunk}
use Rattle.gpu_alloc_freelist.specs.FreeListInside.{MayBeTaken}
use Rattle.gpu_alloc_freelist.proofs.freelist.list.first_whole.Goals as goal
use borrow.Author.Count.{below_more}
use mir.Val.{bool_byte}

-- whether a run is whole does not turn on what a read past the end gives
whole_at : (held : HeldChunks) (regions : List FreeListRegion) (i : ℕ) (d e : FreeListRegion) → i < length regions → IsWholeChunk held (get_or regions i d) → IsWholeChunk held (get_or regions i e)
whole_at held regions i d e within = subst (IsWholeChunk held) (get_or_default regions i d e within)

-- one more that may not be taken
none_yet : (held : HeldChunks) (regions : List FreeListRegion) (keep_last : Bool) (e : FreeListRegion) (found : Bool) (i : ℕ) → found ≡ false → IsTrue found ↔ IsWholeChunk held (get_or regions i e)
    → ((k : ℕ) (d : FreeListRegion) → k < i → MayBeTaken held regions keep_last d k → ⊥) → (k : ℕ) (d : FreeListRegion) → k < i + 1 → MayBeTaken held regions keep_last d k → ⊥
none_yet held regions keep_last e found i missed is before k d lt =
    below_more (λ (n : ℕ). MayBeTaken held regions keep_last d n → ⊥) i (λ n less. before n d less) (λ t. let yes = is.1 (whole_at held regions i d e t.within t.whole) in cc) k lt

-- an index that may be taken is one that was looked at
looked_at : (keep_last : Bool) (len kept end i : ℕ) → kept ≡ bool_byte keep_last → end ≡ len - kept → i < len → (keep_last ≡ true → i + 1 < len) → i < end
looked_at true len kept end i is to within not_last = let more = not_last refl in omega arith
looked_at false len kept end i is to within not_last = omega arith

pub returns-then-is_whole-clause-some : goal.returns-then-is_whole-clause-some
returns-then-is_whole-clause-some g c =
    let within : c.loop-index.index < length c.args.regions.now = omega arith in λ d. record {
      taken = record {
        within = within;
        whole = whole_at _ c.args.regions.now c.loop-index.index _ d within (c.is_whole.ensures.0 c.if-is_whole.true);
        not_last = λ kept. let one = rw kept at c.from-kept.ensures in omega arith;
      };
      earlier = λ j lt. c.loop-index.invariant j d lt;
    }

pub loop-index-preserved : goal.loop-index-preserved
loop-index-preserved g c = none_yet _ c.args.regions.now c.args.keep_last _ c.is_whole.result c.loop-index.index c.if-is_whole.false c.is_whole.ensures c.loop-index.invariant

pub returns-clause-none : goal.returns-clause-none
returns-clause-none g c = λ i d taken.
    let seen = looked_at c.args.keep_last _ _ _ i c.from-kept.ensures c.saturating_sub-index-end.ensures taken.within taken.not_last in c.loop-index.invariant i d (omega arith) taken
