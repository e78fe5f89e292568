-- Which way a request is served, and what a free list serves.
use Rattle.std.proofs.Common.{◌≡◌, ◌≢◌, ℕ, ◌/◌, ◌<◌, ◌≤◌, Bool, true, false, ◌&&◌, cond, nat_le, nat_lt, Option, Some, None, refl, sym, ◌∙◌, arith}
use Rattle.std.proofs.lemmas.Bool.Decides.{nat_tests}
use Rattle.std.specs.Prelude.{min}
use Rattle.gpu_alloc_types.specs.Flags.{usage_bits, has_bit, has_all_bits}
use Rattle.gpu_alloc_types.specs.Properties.{heap_size}
use Rattle.gpu_alloc.specs.Allocation.{strategy, unhinted, is_small, fits_a_chunk, shares_by}
use Rattle.gpu_alloc.specs.FitSharing.{fits_first}
use Rattle.gpu_alloc_block.specs.declared.sharing.Sharing.{Sharing}
use Rattle.gpu_alloc_block.specs.declared.sharing.Sharing.TheVariants.{Buddy, Fit}
use Rattle.gpu_alloc_base.specs.Sizes.{preferred_threshold, transient_threshold}
use Rattle.gpu_alloc_block.specs.State.{State}
use Rattle.gpu_alloc.specs.declared.allocator.Strategy.{Strategy}
use Rattle.gpu_alloc.specs.declared.allocator.Strategy.TheVariants.{OwnObject, InBuddyChunk, InFreeList, InFitChunk}
use Rattle.gpu_alloc.specs.declared.request.Dedicated.{Dedicated}
use Rattle.gpu_alloc.specs.declared.request.Dedicated.TheVariants.{Required, Preferred}
use Rattle.gpu_alloc.specs.declared.request.Request.{Request}
use Rattle.gpu_alloc.proofs.Atoms.{one_bit-all}

module _ (s : State) (r : Request) (t bound : ℕ) (lasts : has_all_bits (usage_bits r.usage) 16 ≡ false) (is : bound ≡ min s.config.dedicated_threshold (heap_size s.properties t / 32)) where
  no_transient : has_bit (usage_bits r.usage) 16 ≡ false
  no_transient = sym (one_bit-all (usage_bits r.usage) 4) ∙ lasts

  -- below the threshold
  pub small_lasting : r.size < bound → shares_by s.sharing (fits_first s r t) ≡ unhinted s r t
  small_lasting below =
      let small : is_small s r s.config.dedicated_threshold t ≡ true = grind (arith, nat_tests, is) in
      rw (no_transient, small) refl

  -- from it on
  pub large_lasting : bound ≤ r.size → OwnObject ≡ unhinted s r t
  large_lasting above =
      let large : is_small s r s.config.dedicated_threshold t ≡ false = grind (arith, nat_tests, is) in
      rw (no_transient, large) refl

-- of a transient request
module _ (s : State) (r : Request) (t bound : ℕ) (brief : has_all_bits (usage_bits r.usage) 16 ≡ true) (is : bound ≡ min (transient_threshold s.config) (heap_size s.properties t / 32)) where
  is_transient : has_bit (usage_bits r.usage) 16 ≡ true
  is_transient = sym (one_bit-all (usage_bits r.usage) 4) ∙ brief

  -- below the threshold, by whether it fits a chunk
  pub small_fitting : r.size < bound → fits_a_chunk s r t ≡ true → InFreeList ≡ unhinted s r t
  small_fitting below fits =
      let small : is_small s r (transient_threshold s.config) t ≡ true = grind (arith, nat_tests, is) in
      rw (is_transient, small, fits) refl

  pub small_unfitting : r.size < bound → fits_a_chunk s r t ≡ false → OwnObject ≡ unhinted s r t
  small_unfitting below fits =
      let small : is_small s r (transient_threshold s.config) t ≡ true = grind (arith, nat_tests, is) in
      rw (is_transient, small, fits) refl

  -- from it on
  pub large_transient : bound ≤ r.size → OwnObject ≡ unhinted s r t
  large_transient above =
      let large : is_small s r (transient_threshold s.config) t ≡ false = grind (arith, nat_tests, is) in
      rw (is_transient, large) refl

-- A request that a free list serves fits a largest chunk.

no_list_shared : (sharing : Sharing) (fits : Bool) → InFreeList ≡ shares_by sharing fits → ⊥
no_list_shared Buddy fits is = cc
no_list_shared Fit true is = cc
no_list_shared Fit false is = cc

of_transient : (transient small fits small_lasting : Bool) (w : Strategy) → (InFreeList ≡ w → ⊥) → InFreeList ≡ cond transient (cond (small && fits) InFreeList OwnObject) (cond small_lasting w OwnObject) → fits ≡ true
of_transient true true true small_lasting w other is = refl
of_transient true true false small_lasting w other is = absurd (cc)
of_transient true false fits small_lasting w other is = absurd (cc)
of_transient false small fits true w other is = absurd (other is)
of_transient false small fits false w other is = absurd (cc)

of_unhinted : (s : State) (r : Request) (t : ℕ) → InFreeList ≡ unhinted s r t → fits_a_chunk s r t ≡ true
of_unhinted s r t is =
    of_transient (has_bit (usage_bits r.usage) 16) (is_small s r (transient_threshold s.config) t) (fits_a_chunk s r t) (is_small s r s.config.dedicated_threshold t) (shares_by s.sharing (fits_first s r t))
    (no_list_shared s.sharing (fits_first s r t)) is

not_preferred : (large : Bool) (w : Strategy) → InFreeList ≡ cond large OwnObject w → InFreeList ≡ w
not_preferred true w is = absurd (cc)
not_preferred false w is = is

pub fits_its_list : (s : State) (r : Request) (hint : Option Dedicated) (t : ℕ) → InFreeList ≡ strategy s r hint t → fits_a_chunk s r t ≡ true
fits_its_list s r (Some Required) t is = absurd (cc)
fits_its_list s r (Some Preferred) t is = of_unhinted s r t (not_preferred (nat_le (preferred_threshold s.config) r.size) (unhinted s r t) is)
fits_its_list s r None t is = of_unhinted s r t is

-- One that a buddy chunk or a fit chunk serves does so by choice.

of_lasting : (transient small fits small_lasting : Bool) (v w : Strategy) → v ≢ InFreeList → v ≢ OwnObject → v ≡ cond transient (cond (small && fits) InFreeList OwnObject) (cond small_lasting w OwnObject) → v ≡ w
of_lasting true true true small_lasting v w listed own is = absurd (listed is)
of_lasting true true false small_lasting v w listed own is = absurd (own is)
of_lasting true false fits small_lasting v w listed own is = absurd (own is)
of_lasting false small fits true v w listed own is = is
of_lasting false small fits false v w listed own is = absurd (own is)

preferred_out : (large : Bool) (v w : Strategy) → v ≢ OwnObject → v ≡ cond large OwnObject w → v ≡ w
preferred_out true v w own is = absurd (own is)
preferred_out false v w own is = is

module _ (s : State) (r : Request) (t : ℕ) (v : Strategy) (listed : v ≢ InFreeList) (own : v ≢ OwnObject) where
  shared_unhinted : v ≡ unhinted s r t → v ≡ shares_by s.sharing (fits_first s r t)
  shared_unhinted is =
      of_lasting (has_bit (usage_bits r.usage) 16) (is_small s r (transient_threshold s.config) t) (fits_a_chunk s r t) (is_small s r s.config.dedicated_threshold t) v (shares_by s.sharing (fits_first s r t)) listed own is

  shared_way : (hint : Option Dedicated) → v ≡ strategy s r hint t → v ≡ shares_by s.sharing (fits_first s r t)
  shared_way (Some Required) is = absurd (own is)
  shared_way (Some Preferred) is = shared_unhinted (preferred_out (nat_le (preferred_threshold s.config) r.size) v (unhinted s r t) own is)
  shared_way None is = shared_unhinted is

buddy_by : (sharing : Sharing) (fits : Bool) → InBuddyChunk ≡ shares_by sharing fits → sharing ≡ Buddy
buddy_by Buddy fits is = refl
buddy_by Fit true is = absurd (cc)
buddy_by Fit false is = absurd (cc)

fit_by : (sharing : Sharing) (fits : Bool) → InFitChunk ≡ shares_by sharing fits → (sharing ≡ Fit) × (fits ≡ true)
fit_by Buddy fits is = absurd (cc)
fit_by Fit true is = (refl, refl)
fit_by Fit false is = absurd (cc)

pub buddies_chosen : (s : State) (r : Request) (hint : Option Dedicated) (t : ℕ) → InBuddyChunk ≡ strategy s r hint t → s.sharing ≡ Buddy
buddies_chosen s r hint t is = buddy_by s.sharing (fits_first s r t) (shared_way s r t InBuddyChunk (λ same. cc) (λ same. cc) hint is)

pub fits_chosen : (s : State) (r : Request) (hint : Option Dedicated) (t : ℕ) → InFitChunk ≡ strategy s r hint t → (s.sharing ≡ Fit) × (fits_first s r t ≡ true)
fits_chosen s r hint t is = fit_by s.sharing (fits_first s r t) (shared_way s r t InFitChunk (λ same. cc) (λ same. cc) hint is)

-- A request that is served from a shared chunk is smaller than its heap.

below_heap : (size threshold heap : ℕ) → nat_lt size (min threshold (heap / 32)) ≡ true → size ≤ heap
below_heap size threshold heap small = grind (arith, nat_tests)

-- by whether it is transient, small against each threshold, and fits a largest chunk
small_one : (size heap : ℕ) (transient small fits small_lasting : Bool) (v w : Strategy) → w ≡ cond transient (cond (small && fits) InFreeList OwnObject) (cond small_lasting v OwnObject) → w ≢ OwnObject
    → (small ≡ true → size ≤ heap) → (small_lasting ≡ true → size ≤ heap) → size ≤ heap
small_one size heap true true fits small_lasting v w is shared brief lasting = brief refl
small_one size heap true false fits small_lasting v w is shared brief lasting = absurd (shared is)
small_one size heap false small fits true v w is shared brief lasting = lasting refl
small_one size heap false small fits false v w is shared brief lasting = absurd (shared is)

unhinted_below : (s : State) (r : Request) (t : ℕ) (w : Strategy) → w ≡ unhinted s r t → w ≢ OwnObject → r.size ≤ heap_size s.properties t
unhinted_below s r t w is shared =
    small_one r.size (heap_size s.properties t) (has_bit (usage_bits r.usage) 16) (is_small s r (transient_threshold s.config) t) (fits_a_chunk s r t) (is_small s r s.config.dedicated_threshold t) (shares_by s.sharing (fits_first s r t)) w is shared
    (below_heap r.size (transient_threshold s.config) (heap_size s.properties t)) (below_heap r.size s.config.dedicated_threshold (heap_size s.properties t))

hinted_below : (large : Bool) (s : State) (r : Request) (t : ℕ) (w : Strategy) → w ≡ cond large OwnObject (unhinted s r t) → w ≢ OwnObject → r.size ≤ heap_size s.properties t
hinted_below true s r t w is shared = absurd (shared is)
hinted_below false s r t w is shared = unhinted_below s r t w is shared

pub shared_below : (s : State) (r : Request) (hint : Option Dedicated) (t : ℕ) (w : Strategy) → w ≡ strategy s r hint t → w ≢ OwnObject → r.size ≤ heap_size s.properties t
shared_below s r (Some Required) t w is shared = absurd (shared is)
shared_below s r (Some Preferred) t w is shared = hinted_below (nat_le (preferred_threshold s.config) r.size) s r t w is shared
shared_below s r None t w is shared = unhinted_below s r t w is shared
