-- What several parts hold and have live, taken together, and how a store of chunks and blocks is such a part.
use Rattle.std.specs.Prelude.{◌≡◌, ℕ, zero, suc, List, [], ◌∷◌, ◌++◌, map, Some, IsTrue}
use Rattle.std.specs.FinMap as finite
use Rattle.std.specs.FinSet as set
use Rattle.std.specs.declared.cmp.Ordering.{Ordering}
use Rattle.std.specs.Ordering.{nat_cmp}
use Rattle.gpu_alloc_base.specs.Chunks.{Chunk}
use Rattle.gpu_alloc_block.specs.State.{HeldObject, Span, span_cmp}

abbrev pub Held : Type 0
Held = finite.FinMap nat_cmp HeldObject

abbrev pub Live : Type 0
Live = set.FinSet span_cmp

-- held objects by name, and the live spans in them
pub record Part : Type 0 where
  pub held : Held
  pub live : Live

-- both maps as one. Where both have a key, the first map's value counts
abbrev pub join : {K X : Type 0} {R : K → K → Ordering} → finite.FinMap R X → finite.FinMap R X → finite.FinMap R X
join m n = finite.from_entries (finite.entries m ++ finite.entries n)

-- what all parts hold
abbrev pub held_in_parts : List Part → Held
held_in_parts [] = finite.empty
held_in_parts (p ∷ ps) = join p.held (held_in_parts ps)

-- what is live in any part
abbrev pub live_in_parts : List Part → Live
live_in_parts [] = set.empty
live_in_parts (p ∷ ps) = set.union p.live (live_in_parts ps)

-- the element stands at the place
abbrev pub IsAt : {A : Type 0} → List A → ℕ → A → Type 0
IsAt [] i x = ⊥
IsAt (y ∷ ys) zero x = y ≡ x
IsAt (y ∷ ys) (suc i) x = IsAt ys i x

abbrev pub Holds : Part → ℕ → HeldObject → Type 0
Holds p object h = finite.get p.held object ≡ Some h

abbrev pub HasLive : Part → Span → Type 0
HasLive p span = IsTrue (set.contains p.live span)

-- Each object is held by one part, where its kind may be, and each live span lies in an object of its own part.
pub record ArePartsApart (IsPlace : ℕ → HeldObject → Type 0) (ps : List Part) : Type 0 where
  pub placed : (i : ℕ) (p : Part) (object : ℕ) (h : HeldObject) → IsAt ps i p → Holds p object h → IsPlace i h
  pub once : (i j : ℕ) (p q : Part) (object : ℕ) (h k : HeldObject) → IsAt ps i p → IsAt ps j q → Holds p object h
      → Holds q object k → i ≡ j
  pub inside : (i : ℕ) (p : Part) (span : Span) → IsAt ps i p → HasLive p span → (h : HeldObject) × Holds p span.object h

-- these parts are apart, and together hold and have live exactly this
pub record Makes (IsPlace : ℕ → HeldObject → Type 0) (ps : List Part) (held : Held) (live : Live) : Type 0 where
  pub apart : ArePartsApart IsPlace ps
  pub held_is : held_in_parts ps ≡ held
  pub live_is : live_in_parts ps ≡ live

-- no span of the object is live
abbrev pub IsUnusedInPart : Part → ℕ → Type 0
IsUnusedInPart p object = (span : Span) → HasLive p span → span.object ≡ object → ⊥

-- A store keeps its chunks by keys and its blocks as rows: as a part it has both by name.

abbrev pub Chunks : Type 0
Chunks = finite.FinMap nat_cmp Chunk

-- chunks by their objects' names, each as the held object that its key and the chunk make
abbrev pub by_name : (ℕ → Chunk → HeldObject) → Chunks → Held
by_name object_of chunks = finite.from_entries (map (λ e. (e.1.object, object_of e.0 e.1)) (finite.entries chunks))

-- rows by their spans
abbrev pub by_span : {T : Type 0} {R : T → T → Ordering} → (T → Span) → set.FinSet R → Live
by_span span_of rows = set.from_list (map span_of (set.items rows))

-- no two keys have one object
abbrev pub HaveOwnObjects : Chunks → Type 0
HaveOwnObjects chunks = (i k : ℕ) (a b : Chunk) → finite.get chunks i ≡ Some a → finite.get chunks k ≡ Some b → a.object ≡ b.object
    → i ≡ k
