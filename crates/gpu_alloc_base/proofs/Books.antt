-- What follows from an answer to a request, whatever kind of chunks it is about: nothing changes where it is refused, the totals,
-- what is counted, and agreement with the device.
use Rattle.std.proofs.Common.{◌≡◌, ◌≢◌, inl, inr, ℕ, ◌+◌, ◌-◌, ◌≤◌, Bool, IsTrue, List, Option, Some, None, Result, Ok, Err, refl, sym, ◌∙◌, ap, subst, arith}
use Rattle.std.specs.Prelude.{IfSome}
use Rattle.std.specs.FinMap as map
use Rattle.gpu_alloc_types.specs.Device.{Object, Event, HeldWith, put}
use Rattle.gpu_alloc_types.specs.Flags.{has_bit}
use Rattle.gpu_alloc_types.specs.Objects.{put-same, put-other}
use Rattle.gpu_alloc_types.specs.Properties.{Properties}
use Rattle.gpu_alloc_base.specs.Accounts.{Account, HeldChunks, chunk_bytes, chunks_and_remaining, IsCounted, Agrees, ObjectsAfter}
use Rattle.gpu_alloc_base.specs.Case.{Case, Answers, Asks}
use Rattle.gpu_alloc_base.specs.Chunks.{Chunk, IsThere, IsNew}
use Rattle.gpu_alloc_base.specs.NewChunk.{ChunkQuestion, AsksChunkTwice, HasOneChunkMore, IsReleased, LacksDeviceMemory, LacksHostMemory}
use Rattle.gpu_alloc_base.specs.NewObject.{HasOneMore, ObjectsGiven}
use Rattle.gpu_alloc_base.specs.declared.error.AllocationError.{AllocationError}
use Rattle.gpu_alloc_base.specs.declared.error.AllocationError.TheVariants.{OutOfDeviceMemory, OutOfHostMemory, NoCompatibleMemoryTypes, TooManyObjects}
use Rattle.gpu_alloc_base.proofs.Maps.{inserted_cases, one_value, own_inserted}
use Rattle.gpu_alloc_base.proofs.Outcomes.{if_some}
use Rattle.gpu_alloc_base.proofs.Sums.{sum_by-insert, len_more}

-- nothing changes where a request is refused
pub refused_keeps : {B S : Type 0} (c : Case B S) (es : List Event) (e : AllocationError) (new : S) → Answers c es (Err e) new → new ≡ c.before
refused_keeps c es OutOfDeviceMemory new refused = refused.0
refused_keeps c es OutOfHostMemory new refused = refused.0
refused_keeps c es NoCompatibleMemoryTypes new refused = absurd refused
refused_keeps c es TooManyObjects new refused = refused.0

-- what a question ends in that is refused, as the answer to a request for a block in the new chunk
pub refused_chunk : {B S : Type 0} (c : Case B S) (q : ChunkQuestion) (es : List Event) (e : AllocationError) → IsTrue c.two_handles → q ≡ c.question → Asks c → AsksChunkTwice q es (Err e) → Answers c es (Err e) c.before
refused_chunk c q es OutOfDeviceMemory two is asks lacks = (refl, inr (asks, subst (λ x. LacksDeviceMemory x es) is lacks))
refused_chunk c q es OutOfHostMemory two is asks (inl lacks) = (refl, inr (asks, inl (subst (λ x. LacksHostMemory x es) is lacks)))
refused_chunk c q es OutOfHostMemory two is asks (inr back) = (refl, inr (asks, inr (two, subst (λ x. IsReleased x es) is back)))
refused_chunk c q es NoCompatibleMemoryTypes two is asks lacks = absurd lacks
refused_chunk c q es TooManyObjects two is asks lacks = absurd lacks

-- How the books are kept.

-- the books are the same
pub record HasSameBooks {S : Type 0} (chunks : S → HeldChunks) (old new : Account S) : Type 0 where
  pub chunks_are : chunks new.allocator ≡ chunks old.allocator
  pub used : new.heap.used ≡ old.heap.used
  pub remaining : new.remaining ≡ old.remaining

-- one chunk more is entered
pub record IsEntered {S : Type 0} (chunks : S → HeldChunks) (key : ℕ) (chunk : Chunk) (old new : Account S) : Type 0 where
  pub was_free : map.get (chunks old.allocator) key ≡ None
  pub chunks_are : chunks new.allocator ≡ map.insert (chunks old.allocator) key chunk
  pub used : new.heap.used ≡ old.heap.used + chunk.size
  pub remaining : new.remaining ≡ old.remaining - 1

-- the chunk of a new object
abbrev pub new_chunk_of : {B S : Type 0} → Case B S → B → Chunk
new_chunk_of c b = record { object = c.object b; size = c.question.size }

-- a block in a place leaves the books, which have its chunk, and one in a new object adds that as a chunk
pub record KeepsBooks {B S : Type 0} (chunks : S → HeldChunks) (key : B → ℕ) (c : Case B (Account S)) : Type 0 where
  pub count : c.remaining ≡ c.before.remaining
  pub ledger : c.ledger ≡ c.before.heap.used
  pub limit : c.limit ≡ c.before.heap.limit
  pub place_held : (b : B) → c.IsInPlace b → (chunk : Chunk) × (map.get (chunks c.before.allocator) (key b) ≡ Some chunk)
  pub in_place : (b : B) → c.IsInPlace b → HasSameBooks chunks c.before (c.with_block b)
  pub in_new : (b : B) → c.IsInNewObject b → IsEntered chunks (key b) (new_chunk_of c b) c.before (c.with_object b)

-- Agreement with the device.

-- an object that was held is held still
still_held : {C : Type 0} {IsAs : C → Object → Type 0} {after : Option C} {object name : ℕ} {f g : ℕ → Option Object} {P : Object → Type 0} → HasOneMore IsAs after object f g → HeldWith f name P → HeldWith g name P
still_held {object = object} {name = name} {f = f} more held =
    let other : name ≢ object = λ same. let none : f name ≡ None = ap f same ∙ more.was_free in let both = held.1 in cc in
    (held.0, ap (λ h. h name) more.now ∙ put-other f object (Some more.made) name other ∙ held.1, held.2)

-- and the new one is
now_held : {memory_type : ℕ} {visible : Bool} {after : Option Chunk} {object : ℕ} {f g : ℕ → Option Object} (more : HasOneMore (IsNew memory_type visible) after object f g) → more.counted.object ≡ object
    → HeldWith g more.counted.object (IsThere memory_type visible more.counted)
now_held {visible = visible} {object = object} {f = f} more same =
    let is = more.is_as in (
      more.made,
      ap (λ h. h more.counted.object) more.now ∙ ap (put f object (Some more.made)) same ∙ put-same f object (Some more.made),
      record {
        of_type = is.of_type;
        of_size = is.of_size;
        mapped = λ seen. is.mapped ∙ rw seen (ap (λ n. Some (0, n)) (sym is.of_size));
      },
    )

module _ {B S : Type 0} {chunks : S → HeldChunks} {key : B → ℕ} {c : Case B (Account S)} (books : KeepsBooks chunks key c) where
  abbrev before : HeldChunks
  before = chunks c.before.allocator

  -- chunks and what remains are as many
  pub answers_total : (es : List Event) (answer : Result B AllocationError) (new : Account S) → Answers c es answer new
      → chunks_and_remaining (chunks new.allocator) new.remaining ≡ chunks_and_remaining before c.before.remaining
  answers_total es (Ok b) new (inl gives) =
      let same = books.in_place b gives.place in
      rw (gives.state, same.chunks_are, same.remaining) refl
  answers_total es (Ok b) new (inr gives) =
      let entered = books.in_new b gives.place in
      let more = len_more before (key b) (new_chunk_of c b) entered.was_free in
      rw (gives.state, entered.chunks_are) (omega (arith, more, entered.remaining, gives.asks.has.remains.objects, books.count))
  answers_total es (Err e) new refused = ap (λ (x : Account S). chunks_and_remaining (chunks x.allocator) x.remaining) (refused_keeps c es e new refused)

  -- the ledger counts each held chunk still
  answers_bytes : (es : List Event) (answer : Result B AllocationError) (new : Account S) → chunk_bytes before ≤ c.before.heap.used → Answers c es answer new → chunk_bytes (chunks new.allocator) ≤ new.heap.used
  answers_bytes es (Ok b) new counted (inl gives) =
      let same = books.in_place b gives.place in
      rw (gives.state, same.chunks_are, same.used) counted
  answers_bytes es (Ok b) new counted (inr gives) =
      let entered = books.in_new b gives.place in
      let more = sum_by-insert (λ e. e.1.size) before (key b) (new_chunk_of c b) entered.was_free in
      rw (gives.state, entered.chunks_are) (omega (arith, more, entered.used, counted))
  answers_bytes es (Err e) new counted refused = rw (refused_keeps c es e new refused) counted

  pub answers_counted : (es : List Event) (answer : Result B AllocationError) (new : Account S) → IsCounted before c.before.heap c.before.remaining → Answers c es answer new → IsCounted (chunks new.allocator) new.heap new.remaining
  answers_counted es answer new counted answers = record {
    ledger = answers_bytes es answer new counted.ledger answers;
    objects = omega (arith, answers_total es answer new answers, counted.objects);
  }

  module _ (memory_type props : ℕ) (p now : Properties) (f g : ℕ → Option Object) (agrees : Agrees memory_type props before p f) (same : now ≡ p) where
    -- the chunks that were held, and the new one
    agrees_entered : (b : B) (new : Account S) → IsEntered chunks (key b) (new_chunk_of c b) c.before new → HasOneMore (IsNew memory_type (has_bit props 2)) (map.get (chunks new.allocator) (key b)) (c.object b) f g
        → Agrees memory_type props (chunks new.allocator) now g
    agrees_entered b new entered more = record {
      known = rw same agrees.known;
      same = rw same agrees.same;
      holds = λ k. all_held k (map.get (chunks new.allocator) k) refl;
    }
      where
        is_new : more.counted ≡ new_chunk_of c b
        is_new = one_value _ more.counted (new_chunk_of c b) more.is_counted (ap (λ m. map.get m (key b)) entered.chunks_are ∙ own_inserted before (key b) (new_chunk_of c b))

        all_held : (k : ℕ) (found : Option Chunk) → map.get (chunks new.allocator) k ≡ found → IfSome found (λ chunk. HeldWith g chunk.object (IsThere memory_type (has_bit props 2) chunk))
        all_held k None e = tt
        all_held k (Some chunk) e = elim (inserted_cases before (key b) (new_chunk_of c b) k chunk (ap (λ m. map.get m k) (sym entered.chunks_are) ∙ e)) [
          | inl is ↦ subst (λ (x : Chunk). HeldWith g x.object (IsThere memory_type (has_bit props 2) x)) (is_new ∙ is.1) (now_held more (ap (λ (x : Chunk). x.object) is_new))
          | inr was ↦ still_held more (if_some (λ x. HeldWith f x.object (IsThere memory_type (has_bit props 2) x)) (map.get before k) chunk was (agrees.holds k))
        ]

    -- after every answer
    pub answers_agree : (es : List Event) (answer : Result B AllocationError) (new : Account S) → Answers c es answer new
        → ObjectsAfter key c.object memory_type props before answer (chunks new.allocator) f g → Agrees memory_type props (chunks new.allocator) now g
    answers_agree es (Ok b) new (inl gives) given =
        let held = books.place_held b gives.place in
        let kept : g ≡ f = rw (held.1) at given in
        rw (gives.state, (books.in_place b gives.place).chunks_are, same, kept) agrees
    answers_agree es (Ok b) new (inr gives) given =
        let entered = books.in_new b gives.place in
        agrees_entered b new (rw (gives.state) entered) (rw (entered.was_free) at given)
    answers_agree es (Err e) new refused given = rw (refused_keeps c es e new refused, same, given) agrees

-- the device held no object of a new chunk's name
pub made_new : {B : Type 0} (key object : B → ℕ) (memory_type props : ℕ) (before after : HeldChunks) (b : B) (f g : ℕ → Option Object) → ObjectsAfter key object memory_type props before (Ok b) after f g → map.get before (key b) ≡ None
    → HasOneMore (IsNew memory_type (has_bit props 2)) (map.get after (key b)) (object b) f g
made_new key object memory_type props before after b f g given none = rw none at given

-- what a new chunk is to the device's objects
module _ (memory_type props : ℕ) (before after : HeldChunks) (key : ℕ) (chunk : Chunk) (q : ChunkQuestion) (f g : ℕ → Option Object) where
  pub object_more : map.get before key ≡ None → map.get after key ≡ Some chunk → q.memory_type ≡ memory_type → q.mapped ≡ has_bit props 2 → q.size ≡ chunk.size → HasOneChunkMore q chunk.object f g
      → ObjectsGiven (IsNew memory_type (has_bit props 2)) (map.get before key) (map.get after key) chunk.object f g
  object_more none held of_type seen size more =
      let o : Object = more.1.0 in
      rw none (record {
        counted = chunk;
        is_counted = held;
        was_free = more.0;
        made = o;
        is_as = record {
          of_type = more.1.1.of_type ∙ of_type;
          of_size = more.1.1.of_size ∙ size;
          mapped = more.1.1.mapped ∙ rw (seen, size) refl;
        };
        now = more.1.2;
      })
