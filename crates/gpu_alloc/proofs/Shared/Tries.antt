-- A try of one memory type by its store, of any rule: the block that a grant gives, and what the store's answer comes to in the
-- allocator's fields and in its state.
use Rattle.std.proofs.Common.{◌≡◌, ℕ, ◌+◌, ◌<◌, ◌≤◌, ◌^◌, true, List, Some, Option, Result, Ok, Err, IsTrue, cond, sym, ap, subst, arith}
use Rattle.std.proofs.Math.ListN.{set}
use Rattle.std.specs.FinMap as map
use Rattle.gpu_alloc_types.specs.Device.{Asked, Event, Object}
use Rattle.gpu_alloc_types.specs.Flags.{has_bit}
use Rattle.gpu_alloc_types.specs.Properties.{Properties, atom_of, props_at}
use Rattle.gpu_alloc_base.specs.Accounts.{Account}
use Rattle.gpu_alloc_base.specs.Case.{Answers, Case}
use Rattle.gpu_alloc_base.specs.Chunks.{Chunk}
use Rattle.gpu_alloc_base.specs.declared.error.AllocationError.{AllocationError}
use Rattle.gpu_alloc_base.specs.declared.heap.Heap.{Heap}
use Rattle.gpu_alloc_block.specs.Agreement.{Agrees}
use Rattle.gpu_alloc_block.specs.State.{Block, State}
use Rattle.gpu_alloc_shared.specs.Rule.{Rule}
use Rattle.gpu_alloc_shared.specs.Shared.{ObjectsAfter}
use Rattle.gpu_alloc.specs.Allocation.{ObjectsTried, TriesBy, passing}
use Rattle.gpu_alloc.specs.Candidates.{candidate}
use Rattle.gpu_alloc.specs.Own.{OwnTable}
use Rattle.gpu_alloc.specs.Sound.{is_chosen}
use Rattle.gpu_alloc.specs.declared.allocator.Strategy.{Strategy}
use Rattle.gpu_alloc.specs.declared.allocator.stores.TypeStores.{TypeStores}
use Rattle.gpu_alloc.specs.declared.limits.Limits.{Limits}
use Rattle.gpu_alloc.specs.declared.request.Request.{Request}
use Rattle.gpu_alloc.proofs.HandedOn.{address_there}
use Rattle.gpu_alloc.proofs.Shared.Calls.{Handed, Keep, before, refused, served, state_with}
use Rattle.gpu_alloc.proofs.Shared.Stores.{AreAsked, IsNamed, IsRequest, Named, block_at, put}
use Rattle.gpu_alloc.proofs.Trials.{nothing_made, refused_tries}

-- a block that lies in its chunk ends at a 64-bit number
pub ends : {T A B : Type 0} {r : Rule T A B} {n : Named r} (named : IsNamed n) {x : T} {b k : B} → r.IsSound x → (c : Chunk) × (map.get (r.chunks x) (r.key b) ≡ Some c) × (((r.bytes b).object ≡ c.object) × ((r.bytes b).offset + (r.bytes b).size ≤ c.size)) → k ≡ b
    → (r.bytes k).offset + (r.bytes k).size < 2 ^ 64
ends {r = r} named {x} {b} {k} sound lies same = subst (λ q. (r.bytes q).offset + (r.bytes q).size < 2 ^ 64) (sym same) (omega (arith, named.small x sound (r.key b) lies.0 lies.1, lies.2.1))

module _ {T A B : Type 0} {r : Rule T A B} (n : Named r) (s : State) (i : ℕ) where
  -- a store's answer, as the whole allocator's
  abbrev pub answered : Result B AllocationError → Result (Option Block) AllocationError
  answered (Ok b) = Ok (Some (block_at n s i b))
  answered (Err e) = passing e

  -- what is made of these parts
  abbrev pub block_of_parts : ℕ → B → ℕ → ℕ → Block
  block_of_parts object b props atom = record (block_at n s i b) { object = object; props = props; atom = atom }

  -- is the block itself, where they are its own
  pub parts_are : {object props atom : ℕ} {k b : B} → object ≡ (r.bytes b).object → k ≡ b → props ≡ props_at s.properties i → atom ≡ atom_of s.properties i → block_of_parts object k props atom ≡ block_at n s i b
  parts_are named same of_type of_atom = λ q. block_of_parts (named q) (same q) (of_type q) (of_atom q)

module _ {T A B : Type 0} {r : Rule T A B} {n : Named r} {M X : Type 0} {l : Limits X} {heaps : List Heap} {ss : List (TypeStores M X)} {own : OwnTable} {remaining i j : ℕ} {e : TypeStores M X} {x : T} {heap : Heap} (h : Handed n l heaps ss own remaining i j e x heap) where
  -- the address flag is asked for where the device has it
  pub addressed : {flags : ℕ} {props : Properties} {objects : ℕ → Option Object} → Agrees (before h) props objects → flags ≡ cond l.buffer_device_address 1 0 → IsTrue (has_bit flags 1) → IsTrue props.buffer_device_address
  addressed agrees is = address_there _ _ _ is (ap (λ (p : Properties). p.buffer_device_address) agrees.properties)

  -- what a store's answer comes to
  pub record IsTried {D : Type 0} (step : D → Event → D → Type 0) (start finish : D) (w : Strategy) (request : Request) (answer : Result B AllocationError) (after : Account T) (old new : ℕ → Option Object) : Type 0 where
    pub kept : Keep l (set heaps j after.heap) (put n ss i e after.allocator) own after.remaining
    pub tries : Asked step start finish (λ es. TriesBy w (before h) request i es (answered n (before h) i answer) (state_with h after))
    pub objects : ObjectsTried (before h) (answered n (before h) i answer) (state_with h after) old new

  -- the same of an equal answer
  pub told_as : {D : Type 0} {step : D → Event → D → Type 0} {start finish : D} {w : Strategy} {request : Request} {answer same : Result B AllocationError} {after : Account T} {old new : ℕ → Option Object} → IsTried step start finish w request answer after old new → answer ≡ same → IsTried step start finish w request same after old new
  told_as {step = step} {start} {finish} {w} {request} {after = after} {old} {new} it is = subst (λ a. IsTried step start finish w request a after old new) is it

  module _ (named : IsNamed n) (asked : AreAsked n) {w : Strategy} {request : Request} {c : Case B (Account T)} (q : IsRequest n (before h) i x heap remaining c (candidate w (before h) request i)) (choice : (b : B) → is_chosen l.sharing (n.kind (r.key b)) ≡ true)
      {D : Type 0} {step : D → Event → D → Type 0} {start finish : D} {after : Account T} {props : Properties} {old new : ℕ → Option Object} (agrees : Agrees (before h) props old) (sound : r.IsSound after.allocator) where
    -- a grant gives its block, and a refusal leaves the fields as they were
    pub tried : (answer : Result B AllocationError) → Asked step start finish (λ es. Answers c es answer after) → ObjectsAfter r x answer after.allocator old new → IsTried step start finish w request answer after old new
    tried (Ok b) told objects =
        let is = served named h asked q told.0 after b props old new (choice b) agrees told.2 objects sound in
        record { kept = is.kept; tries = (told.0, told.1, is.gives); objects = is.objects_are }
    tried (Err error) told objects =
        let left = refused named h asked q told.0 after error told.2 in
        let answers = subst (Answers (candidate w (before h) request i) told.0 (Err error)) (sym left.0.1) left.1 in
        record { kept = left.0.0; tries = (told.0, told.1, refused_tries _ told.0 error _ answers); objects = nothing_made (before h) error _ old new objects }
