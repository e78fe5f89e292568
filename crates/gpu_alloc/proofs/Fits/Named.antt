-- Fit chunks in the whole allocator: where their allocators stand among the fields, and their requests by names.
use Rattle.std.proofs.Common.{◌≡◌, inl, inr, ℕ, zero, suc, ◌+◌, ◌-◌, ◌<◌, ◌≤◌, true, false, List, [], ◌∷◌, Contains, Some, IsSome, refl, sym, ◌∙◌, ap, subst, arith, Option, None}
use Rattle.std.specs.Prelude.{max}
use Rattle.std.proofs.lemmas.Bool.Decides.{nat_tests}
use Rattle.std.specs.FinMap as map
use Rattle.gpu_alloc_types.specs.Properties.{heap_size}
use Rattle.gpu_alloc_base.specs.Accounts.{account}
use Rattle.gpu_alloc_base.specs.Chunks.{Chunk, object_in}
use Rattle.gpu_alloc_base.specs.FreeRuns.{AreFree}
use Rattle.gpu_alloc_base.specs.NewChunk.{flags_of}
use Rattle.gpu_alloc_base.specs.Sizes.{doubled_chunk, up}
use Rattle.gpu_alloc_base.specs.Wanted.{wanted}
use Rattle.gpu_alloc_base.specs.declared.free_list_block.Slot.{Slot}
use Rattle.gpu_alloc_base.specs.declared.heap.Heap.{Heap}
use Rattle.gpu_alloc_base.specs.declared.region.FreeListRegion.{FreeListRegion}
use Rattle.gpu_alloc_base.proofs.ChunkSizes.{up_enough}
use Rattle.gpu_alloc_base.proofs.Lists.{contains_cases, contains_head, contains_none}
use Rattle.gpu_alloc_base.proofs.Maps.{found_value, one_value}
use Rattle.gpu_alloc_base.proofs.Slots.{slot_exact, slot_inserted, slot_total}
use Rattle.gpu_alloc_block.specs.State.{Block, HeldObject, Span, State, TypeState}
use Rattle.gpu_alloc_block.specs.declared.block.Kind.TheVariants.{FitChunk}
use Rattle.gpu_alloc_fit.specs.Fit.{FitState, case_of, chunk_size, fit_case}
use Rattle.gpu_alloc_fit.specs.FitRule.{fit_ask, fit_lawful, fit_rule}
use Rattle.gpu_alloc_runs.specs.Choice.{FirstLackRoom, IsChosenRun, IsWholeRun, class_of_run}
use Rattle.gpu_alloc_runs.specs.Space.{IsFitting, IsFreeIn, IsLiveFitSpan, IsSpare, IsWhollyFree, chunk_bytes, no_fit_space, size_of, without_slot}
use Rattle.gpu_alloc_shared.specs.Shared.{without_block}
use Rattle.gpu_alloc_shared.specs.declared.store.Ask.{Ask}
use Rattle.gpu_alloc.specs.BuddySharing.{object_front}
use Rattle.gpu_alloc.specs.Candidates.{IsFitBlock, candidate, fit_candidate}
use Rattle.gpu_alloc.specs.FitSharing.{HasFitPlace, IsFitChunk, counted_of, first_fit, fit_block, fit_chunk_of, fit_question, fits_first, grain_of, object_bytes, with_fit_chunk, with_next_fit}
use Rattle.gpu_alloc.specs.FreeBytes.{IsFreeByte}
use Rattle.gpu_alloc.specs.StoresFor.{HasFitSizes, IsFitFor, IsFitForType}
use Rattle.gpu_alloc.specs.Release.{AreFitChunksReleased, IsSpareFit, IsUnusedFit}
use Rattle.gpu_alloc.specs.Stores.{IsChosenFor, chosen_part, chosen_sizes}
use Rattle.gpu_alloc.specs.Whole.{part_side}
use Rattle.gpu_alloc.specs.declared.allocator.stores.Chosen.{Chosen}
use Rattle.gpu_alloc.specs.declared.allocator.stores.Chosen.TheVariants.{Buddy as InBuddies, Fit as InFits}
use Rattle.gpu_alloc.specs.declared.allocator.Strategy.TheVariants.{InFitChunk}
use Rattle.gpu_alloc.specs.declared.request.Request.{Request}
use Rattle.gpu_alloc.proofs.Fits.Small.{first_in_largest, sized_more}
use Rattle.gpu_alloc.proofs.Shared.Free.{IsCopy, range_to, room_from, room_to, run_from, run_to}
use Rattle.gpu_alloc.proofs.Shared.Stores.{AreAsked, IsLinked, IsNamed, IsPlain, IsRequest, Named, Serves, block_at, row, table_of, bytes_are, unused_is, unused_was}
use Rattle.gpu_alloc.proofs.Shared.Calls.{IsBlockOf, IsNextGone, ReleasesAtOnce}
use Rattle.gpu_alloc.proofs.Shared.Types.{changed}
use Rattle.gpu_alloc.proofs.Wholes.{one_fit}

abbrev pub fit_in : {M X : Type 0} → Chosen M X → Option FitState
fit_in (InBuddies b) = None
fit_in (InFits f) = Some f

chosen_is : {M X : Type 0} (c : Chosen M X) (x : FitState) → fit_in c ≡ Some x → c ≡ InFits x
chosen_is (InBuddies b) x is = absurd (cc)
chosen_is (InFits f) x is = (let it : f ≡ x = cc in ap InFits it)

abbrev pub fit_named : Named fit_rule
fit_named = record {
  kind = λ key. FitChunk;
  get = λ e. fit_in e.chosen;
  put = λ e f. record e { chosen = InFits f };
  side = 0;
  IsFor = IsFitFor;
  IsOf = λ c p i f. IsFitForType c p i (record f { space = no_fit_space; next_chunk = 0 }) × HasFitSizes c p i f;
  sizes = λ f type. record type { fit_chunk = f.next_chunk };
  Free = λ f. IsFreeIn f.space;
  IsSome = λ ask. 0 < ask.size;
  HasPlace = λ s i ask. HasFitPlace s i ask.size (ask.align_mask + 1);
  IsTaken = λ s i ask. IsFitBlock s i ask.size (ask.align_mask + 1);
  HasNumber = λ s i. Unit {0};
  size = λ s i ask. (fit_question s i ask.size).size;
  new_block = λ s i ask object. fit_block s i (object_front object ask.size);
  with_chunk = with_fit_chunk;
}

-- a memory type's next chunk is one of its sizes
next_changed : (types : List TypeState) (i size : ℕ) → with_next_fit types i size ≡ changed (λ type. record type { fit_chunk = size }) types i
unfolding with_next_fit
next_changed [] i size = refl
next_changed (type ∷ types) zero size = refl
next_changed (type ∷ types) (suc i) size = ap (λ ts. type ∷ ts) (next_changed types i size)

size_is : (s : State) (i : ℕ) (f : FitState) (ask : Ask) → Serves fit_named s i f → chunk_size f ask.size ≡ (fit_question s i ask.size).size
size_is s i f ask serves = λ k. chunk_size (record f { next_chunk = sym (serves.next fit_chunk_of f.next_chunk (λ type. refl)) k; final_chunk = serves.of.0.final_chunk k }) ask.size

pub fit_is_named : IsNamed fit_named
fit_is_named = record {
  lawful = fit_lawful;
  shared = λ key. refl;
  total = slot_total;
  exact = slot_exact;
  got = λ e f. refl;
  same = λ e f is k. record e { chosen = sym (chosen_is e.chosen f is) k };
  twice = λ e f new. refl;
  part_there = λ e f is. ap chosen_part (chosen_is e.chosen f is);
  part_set = λ e f new is. refl;
  side_small = omega arith;
  placed = λ key kind is. ap part_side is;
  each = λ c p sharing i e f are is. (subst (IsChosenFor c p sharing i) (chosen_is e.chosen f is) are.chosen).1;
  each_put = λ c p sharing i e f new are is of. record { chosen = ((subst (IsChosenFor c p sharing i) (chosen_is e.chosen f is) are.chosen).0, of); free_list = are.free_list };
  for_is = λ c p i f is. let t = is.for_type in ((record { memory_type = t.memory_type; props = t.props; atom = t.atom; final_chunk = t.final_chunk }, is.sized), is.sound);
  for_of = λ c p i f of sound. let t = of.0 in record { for_type = record { memory_type = t.memory_type; props = t.props; atom = t.atom; final_chunk = t.final_chunk }; sized = of.1; sound = sound };
  of_type = λ c p i f of. (of.0.memory_type, of.0.props);
  of_less = λ c p i f chunks live of fewer. (of.0, record { next = of.1.next; chunks = λ key c held. of.1.chunks key c (fewer key c held) });
  of_more = λ c p i f heap ask slot of sound begins now.
      let lies = now.space.inside slot ((slot_inserted f.space.live slot slot).1 (inl refl)) in
      (of.0, sized_more of.0.final_chunk of.1 sound slot ask.size (omega (arith, begins.exact, lies.inside, (now.chunks slot.chunk lies.chunk lies.held).1)));
  types_put = λ e f new type is k. record (chosen_sizes (sym (chosen_is e.chosen f is) k) (record type { list_chunk = e.free_list.next_chunk; number = e.free_list.space.latest })) { fit_chunk = new.next_chunk };
  sizes_kept = λ f chunks live. refl;
  grown = λ s i f heap ask slot serves begins.
      let size = size_is s i f ask serves in
      let types_now = next_changed s.types i _ ∙ (λ k. changed (λ type. record type { fit_chunk = doubled_chunk (sym serves.of.0.final_chunk k) (sym size k) }) s.types i) in
      λ k. record (with_fit_chunk s i slot.object (fit_question s i ask.size).size) { types = types_now k };
  one_span = one_fit;
  some = λ f sound slot live. (sound.space.inside slot live).nonempty;
  free_is = λ f key at free. record { held = free.held; is = free.is; inside = free.inside; unused = free.unused };
  free_was = λ f key at free. record { held = free.held; is = free.is; inside = free.inside; unused = free.unused };
  small = λ f sound key c held. (sound.space.sizes key c held).1;
}

-- A run that is chosen among the free runs is chosen among those of a copy.

module _ {F G : ℕ → ℕ → Type 0} {name : ℕ → ℕ} (copy : IsCopy F G name) (whole bytes : ℕ → ℕ) (sizes : (key at : ℕ) → F key at → bytes (name key) ≡ whole key) (size alignment : ℕ) where
  -- the run, its chunk under another name
  abbrev renamed : FreeListRegion → FreeListRegion
  renamed r = record { chunk = name r.chunk; start = r.start; end = r.end }

  first_lack : (class : ℕ) → FirstLackRoom F size alignment class → FirstLackRoom G size alignment class
  first_lack class lack = record {
    last = lack.last;
    up_to = lack.up_to;
    runs = record {
      run = λ i. renamed (lack.runs.run i);
      free = λ i less. let r = lack.runs.run i in run_to copy r.chunk r.start r.end (lack.runs.free i less);
      holds = λ i less. let no = lack.runs.holds i less in record { own = no.own; up_to = no.up_to; none = no.none };
      differ = λ i j less also is. lack.runs.differ i j less also (
          let run = lack.runs.free i less in
          let other = lack.runs.free j also in
          let chunk = copy.one _ _ _ _ (run.free (lack.runs.run i).start (omega arith) run.nonempty) (other.free (lack.runs.run j).start (omega arith) other.nonempty) (ap (λ (x : FreeListRegion). x.chunk) is) in
          λ k. record { chunk = chunk k; start = (is k).start; end = (is k).end });
    };
    first = λ x run from below.
        let w = run_from copy x.chunk x.start x.end run in
        let n = lack.first (record { chunk = w.0; start = x.start; end = x.end }) w.2 from below in
        (n.0, (n.1.0, ap renamed n.1.1 ∙ (λ k. record { chunk = w.1 k; start = x.start; end = x.end })));
  }

  chosen_renamed : (r : FreeListRegion) → IsChosenRun F whole size alignment r → IsChosenRun G bytes size alignment (renamed r)
  chosen_renamed r chosen = record {
    run = run_to copy r.chunk r.start r.end chosen.run;
    room = chosen.room;
    sure = λ q run. let w = run_from copy q.chunk q.start q.end run in chosen.sure (record { chunk = w.0; start = q.start; end = q.end }) w.2;
    lower = λ q run room less.
        let w = run_from copy q.chunk q.start q.end run in
        let l = chosen.lower (record { chunk = w.0; start = q.start; end = q.end }) w.2 room less in
        (l.0, first_lack (class_of_run q) l.1);
    last = λ all q run room class.
        let w = run_from copy q.chunk q.start q.end run in
        let before : IsWholeRun F whole r = record { starts = all.starts; ends = all.ends ∙ sizes r.chunk r.start (chosen.run.free r.start (omega arith) chosen.run.nonempty) } in
        (λ k. record { chunk = sym w.1 k; start = q.start; end = q.end }) ∙ ap renamed (chosen.last before (record { chunk = w.0; start = q.start; end = q.end }) w.2 room class);
  }

-- Requests.

module _ (s : State) (i : ℕ) (f : FitState) (serves : Serves fit_named s i f) where
  pub fit_bytes : IsCopy (IsFreeIn f.space) (IsFreeByte s i FitChunk) (λ key. object_in (map.get f.space.chunks key))
  fit_bytes = bytes_are fit_is_named s i f serves FitChunk (λ key. refl)

  -- a block in free bytes is one
  fit_taken : (ask : Ask) (slot : Slot) → IsFitting f.space ask.size (ask.align_mask + 1) slot → IsFitBlock s i ask.size (ask.align_mask + 1) (block_at fit_named s i slot)
  fit_taken ask slot fitting =
      let named = ap object_in fitting.held ∙ sym fitting.object in
      let chunks = serves.linked.chunks in
      let sizes : (key at : ℕ) → IsFreeIn f.space key at → object_bytes s (object_in (map.get f.space.chunks key)) ≡ chunk_bytes f.space key = λ key at free. ap (object_bytes s) (ap object_in free.is) ∙ ap counted_of (chunks key free.held free.is) ∙ sym (ap size_of free.is) in
      record {
        is = refl;
        fitting = record {
          exact = fitting.exact;
          aligned = fitting.aligned;
          chunk = subst (IsFitChunk s i) (sym fitting.object) (record { chunk = row fit_named f slot.chunk fitting.chunk; held = chunks slot.chunk fitting.chunk fitting.held; of_type = serves.of.0.memory_type; of_kind = refl });
          free = subst (λ o. AreFree (IsFreeByte s i FitChunk) o slot.offset (slot.offset + slot.size)) named (range_to fit_bytes slot.chunk slot.offset (slot.offset + slot.size) fitting.free);
          run = renamed fit_bytes (chunk_bytes f.space) (object_bytes s) sizes ask.size (ask.align_mask + 1) fitting.run;
          in_chunk = ap (λ key. object_in (map.get f.space.chunks key)) fitting.in_chunk ∙ named;
          start = fitting.start;
          chosen = chosen_renamed fit_bytes (chunk_bytes f.space) (object_bytes s) sizes ask.size (ask.align_mask + 1) fitting.run fitting.chosen;
        };
      }

  -- what fits a first chunk of the memory type fits a largest one
  pub fits_fit : (r : Request) → fits_first s r i ≡ true → up r.size f.atom ≤ f.final_chunk
  fits_fit r first =
      let le : up r.size f.atom ≤ first_fit s.config (heap_size s.properties i) (grain_of s i) = subst (λ atom. up r.size atom ≤ first_fit s.config (heap_size s.properties i) (grain_of s i)) (sym serves.of.0.atom) (grind (arith, nat_tests)) in
      omega (arith, le, first_in_largest s.config (heap_size s.properties i) (grain_of s i) (omega arith), serves.of.0.final_chunk)

  -- the request as each of both has it
  pub fit_request : (r : Request) (heap : Heap) (remaining flags : ℕ) → 0 < r.size → flags ≡ flags_of s.properties → IsRequest fit_named s i f heap remaining (case_of (account f heap remaining) (wanted r.size r.align_mask flags)) (candidate InFitChunk s r i)
  fit_request r heap remaining flags some is =
      let atom = serves.of.0.atom in
      let positive : 0 < f.atom = omega (arith, atom) in
      let aligned : max (r.align_mask + 1) f.atom ≡ max r.align_mask (f.atom - 1) + 1 = omega (arith, positive) in
      record {
        ask = fit_ask f r.size r.align_mask;
        flags = flags;
        some = omega (arith, some, up_enough r.size f.atom some positive);
        flags_are = is;
        to_store = ap (λ alignment. fit_case (account f heap remaining) (up r.size f.atom) alignment flags) aligned;
        by_name = (λ k. fit_candidate s (up r.size (sym atom k)) (max (r.align_mask + 1) (sym atom k)) i) ∙ ap (λ alignment. fit_candidate s (up r.size f.atom) alignment i) aligned;
      }

pub fit_asked : AreAsked fit_named
fit_asked = record {
  place = λ s i f ask serves. room_to (fit_bytes s i f serves) ask.size (ask.align_mask + 1);
  place_was = λ s i f ask serves. room_from (fit_bytes s i f serves) ask.size (ask.align_mask + 1);
  number = λ s i f serves has. has;
  number_was = λ s i f serves has. has;
  size = λ s i f heap ask serves. size_is s i f ask serves;
  taken = λ s i f ask slot serves. fit_taken s i f serves ask slot;
  begun = λ s i f heap ask slot serves begins k. fit_block s i (record { object = slot.object; offset = begins.start k; size = begins.exact k });
}

-- Chunks without a live block.

module _ (s : State) (f : FitState) (linked : IsLinked fit_named (table_of s) f) (plain : IsPlain fit_named f) where
  unused_fit : (key : ℕ) (c : Chunk) → map.get f.space.chunks key ≡ Some c → IsWhollyFree f.space key → IsUnusedFit s f.memory_type c.object
  unused_fit key c is free = record { chunk = record { chunk = row fit_named f key c; held = linked.chunks key c is; of_type = refl; of_kind = refl }; unused = unused_is s f linked plain key c is free.unused }

  free_fit : (object : ℕ) → IsUnusedFit s f.memory_type object → (key : ℕ) × (c : Chunk) × (map.get f.space.chunks key ≡ Some c) × (c.object ≡ object) × IsWhollyFree f.space key
  free_fit object unused =
      let of = unused.chunk in
      let there = linked.objects object of.chunk (record { key = 0; held = of.held; of_kind = of.of_kind; of_type = of.of_type }) in
      (there.0, _, there.1, refl, record { held = subst IsSome (sym there.1) refl; unused = unused_was s f linked plain there.0 _ there.1 unused.unused })

  -- a cleanup releases the one that is wholly free
  pub fits_released : (i : ℕ) → f.memory_type ≡ i → ((a b : ℕ) → IsWhollyFree f.space a → IsWhollyFree f.space b → a ≡ b) → (names : List ℕ) → IsNextGone fit_named f false names → AreFitChunksReleased s i names
  fits_released i typed one names gone = subst (λ t. AreFitChunksReleased s t names) typed (elim gone [
    | inl none ↦ subst (AreFitChunksReleased s f.memory_type) (sym none.0) (record { few = omega arith; all = λ object. ((λ has. absurd (contains_none object has)), (λ unused. let w = free_fit object unused in absurd (none.1 w.0 w.4))) })
    | inr next ↦
        let only : (object : ℕ) → IsUnusedFit s f.memory_type object → object ≡ next.2.object = λ object unused.
        let w = free_fit object unused in
        sym w.3 ∙ ap (λ (d : Chunk). d.object) (one_value _ w.1 next.2 w.2 (ap (map.get f.space.chunks) (one w.0 next.0 w.4 next.1) ∙ next.3)) in
        let is = unused_fit next.0 next.2 next.3 next.1 in
        subst (AreFitChunksReleased s f.memory_type) (sym next.4) (record {
          few = omega arith;
          all = λ object. (
            (λ has. elim (contains_cases next.2.object object [] has) [ inl same ↦ subst (IsUnusedFit s f.memory_type) (sym same) is | inr never ↦ absurd (contains_none object never) ]),
            (λ unused. subst (λ m. Contains (m ∷ []) object) (only object unused) (contains_head object [])),
          );
        })
  ])

-- what goes with a block: its chunk, where it is then spare
pub fit_at_once : (f : FitState) (slot : Slot) (s : State) (c : Chunk) → map.get f.space.chunks slot.chunk ≡ Some c → IsLinked fit_named (table_of s) (without_block fit_rule f slot) → IsPlain fit_named (without_block fit_rule f slot) → ReleasesAtOnce fit_named f slot s c
fit_at_once f slot s c is linked plain = record {
  goes = λ spare.
      let other = found_value _ spare.other_free.held in
      let went : IsSpareFit s c.object = record {
        unused = unused_is s (without_block fit_rule f slot) linked plain slot.chunk c is spare.free.unused;
        chunk = row fit_named f slot.chunk c;
        held = linked.chunks slot.chunk c is;
        other = other.0.object;
        differs = λ same. spare.differs (plain.own_object spare.other slot.chunk other.0 c other.1 is same);
        also = unused_fit s (without_block fit_rule f slot) linked plain spare.other other.0 other.1 spare.other_free;
      } in
      (spare.free.unused, inl (went, refl));
  stays = λ kept. inr (kept_one kept, refl);
}
  where
    kept_one : (IsSpare (without_slot f.space slot) slot.chunk → ⊥) → IsSpareFit s c.object → ⊥
    kept_one kept spare =
        let typed = ap (λ (h : HeldObject). h.memory_type) (one_value _ spare.chunk (row fit_named f slot.chunk c) spare.held (linked.chunks slot.chunk c is)) in
        let w = free_fit s (without_block fit_rule f slot) linked plain spare.other (subst (λ t. IsUnusedFit s t spare.other) typed spare.also) in
        kept (record {
          free = record { held = subst IsSome (sym is) refl; unused = unused_was s (without_block fit_rule f slot) linked plain slot.chunk c is spare.unused };
          other = w.0;
          differs = λ same. spare.differs (sym w.3 ∙ ap (λ (d : Chunk). d.object) (one_value _ w.1 c w.2 (ap (map.get f.space.chunks) same ∙ is)));
          other_free = w.4;
        })

-- a block of the whole allocator, as a live block of this span
pub span_there : (f : FitState) (block : Block) (slot : Slot) (object offset size : ℕ) → IsBlockOf fit_named f slot block → object ≡ block.object → offset ≡ block.offset → size ≡ block.size → IsLiveFitSpan f.space object offset size slot
span_there f block slot object offset size is named from long =
    record { live = is.live; of_object = sym (named ∙ ap (λ (x : Span). x.object) is.span); starts = sym (from ∙ ap (λ (x : Span). x.offset) is.span); of_size = sym (long ∙ ap (λ (x : Span). x.size) is.span) }

-- and the other way round
pub slot_is : (f : FitState) (block : Block) (slot : Slot) → block.kind ≡ FitChunk → IsLiveFitSpan f.space block.object block.offset block.size slot → IsBlockOf fit_named f slot block
slot_is f block slot kind is = record { live = is.live; span = λ k. record { object = sym is.of_object k; offset = sym is.starts k; size = sym is.of_size k }; kind = kind }
