-- What follows from an answer to a request, whatever the store.
use Rattle.std.proofs.Common.{◌≡◌, inl, inr, ℕ, List, Option, Some, None, Result, Ok, Err, refl, sym, ◌∙◌, ap, subst, arith}
use Rattle.std.specs.FinMap as map
use Rattle.gpu_alloc_types.specs.Device.{Event, HeldWith, Object}
use Rattle.gpu_alloc_types.specs.Properties.{Properties}
use Rattle.gpu_alloc_base.specs.Accounts.{Account}
use Rattle.gpu_alloc_base.specs.Case.{Answers, RefusesQuestion}
use Rattle.gpu_alloc_base.specs.Chunks.{Chunk, IsThere}
use Rattle.gpu_alloc_base.specs.InHand.{Offers}
use Rattle.gpu_alloc_base.specs.NewChunk.{ChunkQuestion, HasOneChunkMore}
use Rattle.gpu_alloc_base.specs.declared.error.AllocationError.{AllocationError}
use Rattle.gpu_alloc_base.specs.declared.error.AllocationError.TheVariants.{OutOfDeviceMemory, OutOfHostMemory, NoCompatibleMemoryTypes, TooManyObjects}
use Rattle.gpu_alloc_base.proofs.Books.{KeepsBooks, answers_agree as chunks_agree, object_more, refused_keeps}
use Rattle.gpu_alloc_base.proofs.Maps.{own_inserted}
use Rattle.gpu_alloc_base.proofs.Outcomes.{if_some}
use Rattle.gpu_alloc_shared.specs.Rule.{IsLawful, IsUnheldIn, Rule}
use Rattle.gpu_alloc_shared.specs.Shared.{Agrees, HoldsNothing, LooksFirst, ObjectsAfter, ask_case, object_of, sees_chunks}

module _ {T A B : Type 0} (r : Rule T A B) where
  -- what the device does not hold is no chunk's object
  pub others : (t : T) (p : Properties) (objects : ℕ → Option Object) (object : ℕ) → Agrees r t p objects → objects object ≡ None → IsUnheldIn (r.chunks t) object
  others t p objects object agrees none key chunk is same =
      let there = if_some (λ c. HeldWith objects c.object (IsThere (r.served t).memory_type (sees_chunks r t) c)) (map.get (r.chunks t) key) chunk is (agrees.holds key) in
      let here : objects object ≡ Some there.0 = subst (λ n. objects n ≡ Some there.0) same there.1 in
      cc

  -- what holds nothing agrees with every device that offers its memory type
  pub nothing_agrees : (memory_type props : ℕ) (t : T) → HoldsNothing r memory_type props t → (p : Properties) (objects : ℕ → Option Object) → Offers p memory_type props → Agrees r t p objects
  nothing_agrees memory_type props t nothing p objects offers = rw (nothing.0, nothing.1) (nothing.2.agrees p offers objects)

  -- Where a place is looked for first.

  module _ (a : Account T) (ask : A) (flags : ℕ) (fits : r.Fits ask) where
    pub looks_first : (e : AllocationError) → RefusesQuestion (ask_case r a ask flags) (Some e) → LooksFirst r a ask
    looks_first TooManyObjects barred = (fits, inl barred)
    looks_first OutOfDeviceMemory over = (fits, inr over.1)
    looks_first OutOfHostMemory never = absurd never
    looks_first NoCompatibleMemoryTypes never = absurd never

    pub never_first : RefusesQuestion (ask_case r a ask flags) None → LooksFirst r a ask → ⊥
    never_first may (_, inl (inl none)) = omega (arith, may.0.objects, none)
    never_first may (_, inl (inr used)) = used may.0.number
    never_first may (_, inr over) = omega (arith, may.1, over)

module _ {T A B : Type 0} (r : Rule T A B) (lawful : IsLawful r) (a : Account T) (sound : r.IsSound a.allocator) (ask : A) (flags : ℕ) where
  pub keeps_books : KeepsBooks r.chunks r.key (ask_case r a ask flags)
  keeps_books = record {
    count = refl;
    ledger = refl;
    limit = refl;
    place_held = λ b taken. lawful.in_held a.allocator ask b taken;
    in_place = λ b taken. record { chunks_are = lawful.its_chunks a.allocator _ _; used = refl; remaining = refl };
    in_new = λ b begins. record {
      was_free = lawful.new_key a.allocator sound ask _ b begins;
      chunks_are = lawful.one_chunk a.allocator ask _ b begins;
      used = refl;
      remaining = refl;
    };
  }

  module _ (es : List Event) (answer : Result B AllocationError) (new : Account T) (told : Answers (ask_case r a ask flags) es answer new) where
    -- the memory type stays
    pub same_type : r.served new.allocator ≡ r.served a.allocator
    same_type = each answer told
      where
        each : (answer : Result B AllocationError) → Answers (ask_case r a ask flags) es answer new → r.served new.allocator ≡ r.served a.allocator
        each (Ok b) (inl gives) = ap (λ (x : Account T). r.served x.allocator) gives.state ∙ lawful.its_type a.allocator _ _
        each (Ok b) (inr gives) = ap (λ (x : Account T). r.served x.allocator) gives.state ∙ lawful.same_type a.allocator ask _ b
        each (Err e) refused = ap (λ (x : Account T). r.served x.allocator) (refused_keeps (ask_case r a ask flags) es e new refused)

    pub answers_agree : (p now : Properties) (f g : ℕ → Option Object) → Agrees r a.allocator p f → now ≡ p → ObjectsAfter r a.allocator answer new.allocator f g → Agrees r new.allocator now g
    answers_agree p now f g agrees same objects =
        rw same_type (chunks_agree keeps_books (r.served a.allocator).memory_type (r.served a.allocator).props p now f g agrees same es answer new told objects)

  -- a new chunk, as the device's objects show it
  pub made_objects : (t now : T) (b : B) (whole object : ℕ) (q : ChunkQuestion) (f g : ℕ → Option Object) → t ≡ a.allocator → r.Begins t ask whole b → now ≡ r.in_new_chunk t ask whole b → object_of r b ≡ object
      → q.memory_type ≡ (r.served a.allocator).memory_type → q.mapped ≡ sees_chunks r a.allocator → q.size ≡ whole → HasOneChunkMore q object f g → ObjectsAfter r a.allocator (Ok b) now f g
  made_objects t now b whole object q f g t_is begins now_is named of_type seen size more =
      let chunk : Chunk = record { object = object_of r b; size = whole } in
      let none : map.get (r.chunks a.allocator) (r.key b) ≡ None = subst (λ x. map.get (r.chunks x) (r.key b) ≡ None) t_is (lawful.new_key t (subst r.IsSound (sym t_is) sound) ask whole b begins) in
      let held : map.get (r.chunks now) (r.key b) ≡ Some chunk =
      ap (λ x. map.get (r.chunks x) (r.key b)) now_is ∙ ap (λ m. map.get m (r.key b)) (lawful.one_chunk t ask whole b begins) ∙ own_inserted (r.chunks t) (r.key b) chunk in
      object_more (r.served a.allocator).memory_type (r.served a.allocator).props (r.chunks a.allocator) (r.chunks now) (r.key b) chunk q f g none held of_type seen size (subst (λ n. HasOneChunkMore q n f g) (sym named) more)
