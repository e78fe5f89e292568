-- What a released chunk leaves, whatever the store.
use Rattle.std.proofs.Common.{◌≡◌, ◌≢◌, inl, inr, ℕ, ◌+◌, ◌-◌, ◌^◌, ◌<◌, ◌≤◌, [], ◌∷◌, List, Option, Some, None, IfSome, refl, sym, ◌∙◌, ap, subst, arith}
use Rattle.std.proofs.lemmas.Bool.{cases_eq}
use Rattle.std.specs.FinMap as map
use Rattle.gpu_alloc_types.specs.Device.{Event, HeldWith, Object, put}
use Rattle.gpu_alloc_types.specs.Device.Event.{Deallocated}
use Rattle.gpu_alloc_types.specs.Objects.{put-other}
use Rattle.gpu_alloc_types.specs.Properties.{Properties}
use Rattle.gpu_alloc_base.specs.Accounts.{Account, IsCounted, account, chunks_and_remaining}
use Rattle.gpu_alloc_base.specs.Chunks.{Chunk, IsThere}
use Rattle.gpu_alloc_base.specs.declared.heap.Heap.{Heap}
use Rattle.gpu_alloc_base.proofs.Maps.{gone, kept_other}
use Rattle.gpu_alloc_base.proofs.Sums.{len_less, sum_by-remove}
use Rattle.gpu_alloc_shared.specs.Rule.{IsLawful, Rule}
use Rattle.gpu_alloc_shared.specs.Shared.{Agrees, ReleasesChunk, sees_chunks, without_chunk}

module _ {T A B : Type 0} (r : Rule T A B) (lawful : IsLawful r) where
  -- the device still holds the others
  module _ (t now : T) (key : ℕ) (held : Chunk) (sound : r.IsSound t) (is : map.get (r.chunks t) key ≡ Some held) where
    abbrev HasChunk : (ℕ → Option Object) → Chunk → Type 0
    HasChunk objects c = HeldWith objects c.object (IsThere (r.served t).memory_type (sees_chunks r t) c)

    pub agrees_without : {p now_p : Properties} {f g : ℕ → Option Object} → r.chunks now ≡ map.remove (r.chunks t) key → r.served now ≡ r.served t → now_p ≡ p → g ≡ put f held.object None
        → Agrees r t p f → Agrees r now now_p g
    agrees_without {f = f} chunks of_type same freed agrees =
        rw (chunks, of_type, same, freed) (record {
          known = agrees.known;
          same = agrees.same;
          holds = λ k. elim (cases_eq k key) [
            | inl at ↦ subst (λ o. IfSome o (HasChunk (put f held.object None))) (sym (ap (λ n. map.get (map.remove (r.chunks t) key) n) at ∙ gone (r.chunks t) key)) tt
            | inr other ↦ subst (λ o. IfSome o (HasChunk (put f held.object None))) (sym (kept_other (r.chunks t) key k other)) (each k other (map.get (r.chunks t) k) refl (agrees.holds k))
          ];
        })
      where
        each : (k : ℕ) → k ≢ key → (o : Option Chunk) → map.get (r.chunks t) k ≡ o → IfSome o (HasChunk f) → IfSome o (HasChunk (put f held.object None))
        each k other None at h = tt
        each k other (Some c) at h =
            let another : c.object ≢ held.object = λ same. other (lawful.own_object t sound k key c held at is same) in
            (h.0, put-other f held.object None c.object another ∙ h.1, h.2)

  -- the ledger counts it, and one more object may be held
  module _ (t : T) (key : ℕ) (held : Chunk) (is : map.get (r.chunks t) key ≡ Some held) (heap : Heap) (remaining : ℕ) (counted : IsCounted (r.chunks t) heap remaining) where
    pub is_counted : held.size ≤ heap.used
    is_counted = omega (arith, counted.ledger, sum_by-remove (λ e. e.1.size) (r.chunks t) key held is)

    pub one_more_fits : remaining + 1 < 2 ^ 32
    one_more_fits = omega (arith, counted.objects, len_less (r.chunks t) key held is)

  -- what the store tells of it, as contracts have it
  abbrev pub releases_so : (t now : T) (key : ℕ) (heap less : Heap) (remaining : ℕ) (held : Chunk) → map.get (r.chunks t) key ≡ Some held → now ≡ without_chunk r t key → less ≡ record heap { used = heap.used - held.size }
      → ReleasesChunk r (account t heap remaining) key (Deallocated held.object ∷ []) (account now less (remaining + 1))
  releases_so t now key heap less remaining held is now_is less_is = (held, is, (refl, λ i. account (now_is i) (less_is i) (remaining + 1)))

  -- The books without it.
  module _ (a : Account T) (key : ℕ) (es : List Event) (new : Account T) (goes : ReleasesChunk r a key es new) where
    chunks_are : r.chunks new.allocator ≡ map.remove (r.chunks a.allocator) key
    chunks_are = ap (λ (x : Account T). r.chunks x.allocator) goes.2.1 ∙ lawful.its_chunks a.allocator _ _

    pub releases_total : chunks_and_remaining (r.chunks new.allocator) new.remaining ≡ chunks_and_remaining (r.chunks a.allocator) a.remaining
    releases_total = rw chunks_are (omega (arith, len_less (r.chunks a.allocator) key goes.0 goes.1, ap (λ (x : Account T). x.remaining) goes.2.1))

    pub releases_counted : IsCounted (r.chunks a.allocator) a.heap a.remaining → IsCounted (r.chunks new.allocator) new.heap new.remaining
    releases_counted counted = record {
      ledger = rw chunks_are (omega (arith, counted.ledger, sum_by-remove (λ e. e.1.size) (r.chunks a.allocator) key goes.0 goes.1, ap (λ (x : Account T). x.heap.used) goes.2.1));
      objects = omega (arith, releases_total, counted.objects);
    }
