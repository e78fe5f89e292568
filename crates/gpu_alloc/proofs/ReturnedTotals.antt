-- What a return leaves of the total: for each object that goes, one more may be held.
use Rattle.std.proofs.Common.{◌≡◌, ◌≢◌, inl, inr, ℕ, suc, ◌+◌, ◌<◌, Bool, true, List, [], ◌∷◌, length, get_or, Some, sym, ◌∙◌, ap, subst, arith}
use Rattle.std.proofs.lemmas.List.Elements.{Contains-get_or}
use Rattle.std.specs.FinMap as map
use Rattle.gpu_alloc_types.specs.Device.{Event}
use Rattle.gpu_alloc.specs.FreeListSharing.{IsListChunk}
use Rattle.gpu_alloc.specs.Release.{AreChunksReleased, AreFitChunksReleased, Frees, ListChunkMayGo, ReleasedWith, Releases, without_all, without_span}
use Rattle.gpu_alloc_block.specs.State.{Block, HeldObject, IsOwned, State, total}
use Rattle.gpu_alloc_block.specs.declared.block.Kind.{Kind}
use Rattle.gpu_alloc_block.specs.declared.block.Kind.TheVariants.{Dedicated, Imported, BuddyChunk, FreeListChunk, FitChunk}
use Rattle.gpu_alloc_base.proofs.Lists.{contains_head}
use Rattle.gpu_alloc_base.proofs.Names.{get_removed-other, len_removed}
use Rattle.gpu_alloc.proofs.Ledgers.{Held}

-- Objects that go, each held and none twice.

abbrev AreHeld : Held → List ℕ → Type 0
AreHeld held [] = Unit {0}
AreHeld held (object ∷ gone) = ((h : HeldObject) × (map.get held object ≡ Some h)) × AreHeld held gone

-- this one is none of them
abbrev IsOther : ℕ → List ℕ → Type 0
IsOther object [] = Unit {0}
IsOther object (other ∷ gone) = (other ≢ object) × IsOther object gone

abbrev AreOnce : List ℕ → Type 0
AreOnce [] = Unit {0}
AreOnce (object ∷ gone) = IsOther object gone × AreOnce gone

still_held : (held : Held) (object : ℕ) (gone : List ℕ) → IsOther object gone → AreHeld held gone → AreHeld (map.remove held object) gone
still_held held object [] other are = tt
still_held held object (name ∷ gone) other are = ((are.0.0, get_removed-other held object name other.0 ∙ are.0.1), still_held held object gone other.1 are.1)

count_gone : (held : Held) (gone : List ℕ) → AreHeld held gone → AreOnce gone → map.len (without_all held gone) + length gone ≡ map.len held
count_gone held [] are once = omega arith
count_gone held (object ∷ gone) are once =
    let later = count_gone (map.remove held object) gone (still_held held object gone once.0 are.1) once.1 in
    omega (arith, later, len_removed held object are.0.0 are.0.1)

-- Chunks of a free list.

-- objects that stand later are others
others_later : (object : ℕ) (gone : List ℕ) → ((j d : ℕ) → j < length gone → get_or gone j d ≢ object) → IsOther object gone
others_later object [] other = tt
others_later object (name ∷ gone) other = (other 0 0 (omega arith), others_later object gone (λ j d lt. other (suc j) d (omega (arith, lt))))

held_once : (held : Held) (gone : List ℕ) → ((i d : ℕ) → i < length gone → (h : HeldObject) × (map.get held (get_or gone i d) ≡ Some h)) → ((i j d : ℕ) → i < j → j < length gone → get_or gone j d ≢ get_or gone i d)
    → AreHeld held gone × AreOnce gone
held_once held [] is other = (tt, tt)
held_once held (object ∷ gone) is other =
    let rest = held_once held gone (λ i d lt. is (suc i) d (omega (arith, lt))) (λ i j d before within. other (suc i) (suc j) d (omega (arith, before)) (omega (arith, within))) in
    ((is 0 0 (omega arith), rest.0), (others_later object gone (λ j d lt. other 0 (suc j) d (omega arith) (omega (arith, lt))), rest.1))

chunks_once : (s : State) (t : ℕ) (keep_last : Bool) (gone : List ℕ) → AreChunksReleased s t keep_last gone → AreHeld s.held gone × AreOnce gone
chunks_once s t keep_last gone chunks =
    let may : (i d : ℕ) → i < length gone → (number : ℕ) × ListChunkMayGo s t keep_last number (get_or gone i d) = λ i d lt. (chunks.all (get_or gone i d)).0 (Contains-get_or gone i d lt) in
    held_once s.held gone (λ i d lt. let chunk = (may i d lt).1.chunk in (chunk.chunk, chunk.held)) (λ i j d before within same.
    let first = may i d (omega (arith, before, within)) in
    let less = chunks.rising i j d first.0 first.0 before within first.1.chunk (subst (IsListChunk s t first.0) (sym same) first.1.chunk) in
    omega (arith, less))

pub chunks_total : (s : State) (t : ℕ) (keep_last : Bool) (gone : List ℕ) (es : List Event) (new : State) → AreChunksReleased s t keep_last gone → Releases s gone es new → total new ≡ total s
chunks_total s t keep_last gone es new chunks lets = let once = chunks_once s t keep_last gone chunks in ap total lets.1 ∙ omega (arith, count_gone s.held gone once.0 once.1)

-- Fit chunks.

-- one at most
fits_once : (s : State) (t : ℕ) (gone : List ℕ) → AreFitChunksReleased s t gone → AreHeld s.held gone × AreOnce gone
fits_once s t [] fits = (tt, tt)
fits_once s t (object ∷ []) fits = let is = ((fits.all object).0 (contains_head object [])).chunk in (((is.chunk, is.held), tt), (tt, tt))
fits_once s t (object ∷ (other ∷ gone)) fits = absurd (omega (arith, fits.few))

pub fits_total : (s : State) (t : ℕ) (gone : List ℕ) (es : List Event) (new : State) → AreFitChunksReleased s t gone → Releases s gone es new → total new ≡ total s
fits_total s t gone es new fits lets = let once = fits_once s t gone fits in ap total lets.1 ∙ omega (arith, count_gone s.held gone once.0 once.1)

-- What is released with a block.

goes_once : (k : Kind) (s : State) (object : ℕ) (gone : List ℕ) → (h : HeldObject) × (map.get s.held object ≡ Some h) → ReleasedWith k s object gone → AreHeld s.held gone × AreOnce gone
goes_once Dedicated s object gone there goes = subst (λ names. AreHeld s.held names × AreOnce names) (sym goes) ((there, tt), (tt, tt))
goes_once Imported s object gone there goes = subst (λ names. AreHeld s.held names × AreOnce names) (sym goes) ((there, tt), (tt, tt))
goes_once BuddyChunk s object gone there (inl went) = subst (λ names. AreHeld s.held names × AreOnce names) (sym went.1) ((there, tt), (tt, tt))
goes_once BuddyChunk s object gone there (inr stays) = subst (λ names. AreHeld s.held names × AreOnce names) (sym stays.1) (tt, tt)
goes_once (FreeListChunk number) s object gone there goes = chunks_once s goes.0.memory_type true gone goes.2
goes_once FitChunk s object gone there (inl went) = subst (λ names. AreHeld s.held names × AreOnce names) (sym went.1) ((there, tt), (tt, tt))
goes_once FitChunk s object gone there (inr stays) = subst (λ names. AreHeld s.held names × AreOnce names) (sym stays.1) (tt, tt)

pub frees_total : (s : State) (b : Block) (es : List Event) (new : State) → IsOwned s b → Frees s b es new → total new ≡ total s
frees_total s b es new owned frees =
    let left : State = without_span s b in
    let once = goes_once b.kind left b.object frees.0 (owned.held.0, owned.held.1) frees.1 in
    ap total frees.2.1 ∙ omega (arith, count_gone s.held frees.0 once.0 once.1)
