-- For callers that serve one request after another.
use Rattle.std.proofs.Common.{◌≡◌, ℕ, ◌+◌, ◌<◌, ◌≤◌, arith, length-append, length-take, List, [], ◌∷◌, ◌++◌, get_or, length, take, refl, sym, ◌∙◌, ap, append_assoc, append-nil}
use Rattle.std.proofs.Math.Seq.{take-append_seam}
use Rattle.std.proofs.lemmas.List.{take_more}
use Rattle.gpu_alloc_block.specs.State.{Block}
use Rattle.gpu_alloc.specs.declared.request.Request.{Request}
use Rattle.gpu_alloc.specs.Served.{Serves, AllServe, ServesFirst}

one_more : (r : Request) (b : Block) (rs : List Request) (bs : List Block) → AllServe rs bs → Serves r b
    → AllServe (rs ++ r ∷ []) (bs ++ b ∷ [])
one_more r b [] [] all one = (one, tt)
one_more r b [] (c ∷ bs) all one = absurd all
one_more r b (s ∷ rs) [] all one = absurd all
one_more r b (s ∷ rs) (c ∷ bs) all one = (all.0, one_more r b rs bs all.1 one)

-- at first no block came
pub serves_none : (rs : List Request) (bs : List Block) → ServesFirst rs 0 bs bs
serves_none rs bs = record { more = []; grown = sym (append-nil bs); served = tt }

-- and then one more
pub serves_next : (rs : List Request) (i : ℕ) (d : Request) {old mid new : List Block} → i < length rs → ServesFirst rs i old mid
    → (b : Block) × (new ≡ mid ++ b ∷ []) × Serves (get_or rs i d) b → ServesFirst rs (i + 1) old new
serves_next rs i d {old} within so b = record {
  more = so.more ++ b.0 ∷ [];
  grown = b.1 ∙ ap (λ bs. bs ++ b.0 ∷ []) so.grown ∙ append_assoc old so.more (b.0 ∷ []);
  served = rw (take_more rs i d within) (one_more (get_or rs i d) b.0 (take i rs) so.more so.served b.2);
}

-- as many came as requests are served, and those of before are the first
all_serve : (rs : List Request) (bs : List Block) → AllServe rs bs → length bs ≡ length rs
all_serve [] [] all = refl
all_serve [] (c ∷ bs) all = absurd all
all_serve (s ∷ rs) [] all = absurd all
all_serve (s ∷ rs) (c ∷ bs) all = let e = all_serve rs bs all.1 in omega (arith, e)

pub serves_as_many : {rs : List Request} {i : ℕ} {old new : List Block} → ServesFirst rs i old new → i ≤ length rs → length new ≡ length old + i
serves_as_many {rs} {i} {old} so within =
    let e = ap length so.grown ∙ length-append old so.more in
    let n = all_serve (take i rs) so.more so.served ∙ length-take i rs in
    omega (arith, e, n, within)

pub first_ones : {rs : List Request} {i n : ℕ} {old mid : List Block} → ServesFirst rs i old mid → n ≡ length old → take n mid ≡ old
first_ones {n = n} {old = old} so is = ap (take n) so.grown ∙ ap (λ k. take k (old ++ so.more)) is ∙ take-append_seam old so.more
