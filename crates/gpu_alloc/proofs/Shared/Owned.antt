-- Whether a block is live in the whole allocator: where it is one of its memory type's store.
use Rattle.std.proofs.Common.{◌≡◌, ◌↔◌, ◌<◌, ℕ, false, List, length, get_or, MatchOption, Option, Some, None, is_some, IsTrue, refl, sym, ◌∙◌, ap, subst, arith}
use Rattle.std.specs.FinMap as map
use Rattle.std.specs.FinSet as set
use Rattle.gpu_alloc_base.specs.declared.heap.Heap.{Heap}
use Rattle.gpu_alloc_base.proofs.Maps.{one_value}
use Rattle.gpu_alloc_block.specs.State.{Block, HeldObject, IsOwned, Span, State, span_of}
use Rattle.gpu_alloc_shared.specs.Rule.{Rule}
use Rattle.gpu_alloc.specs.Own.{OwnTable}
use Rattle.gpu_alloc.specs.declared.allocator.stores.TypeStores.{TypeStores}
use Rattle.gpu_alloc.specs.declared.limits.Limits.{Limits}
use Rattle.gpu_alloc.proofs.Shared.Calls.{Has, IsBlockOf, Keep, known_type, serves, state_of, stood}
use Rattle.gpu_alloc.proofs.Shared.Stores.{IsNamed, Named, row}

-- a memory type's store, as a look-up finds it
pub has_found : {T A B : Type 0} {r : Rule T A B} (n : Named r) {M X : Type 0} (l : Limits X) {heaps : List Heap} {ss : List (TypeStores M X)} {own : OwnTable} {remaining i : ℕ} {e : TypeStores M X} {x : T} → Keep l heaps ss own remaining → i < length ss → e ≡ get_or ss i e → n.get e ≡ Some x → Has n l heaps ss own remaining i e x
has_found n l kept inside at is = record { kept = kept; known = omega (arith, inside, kept.shared.count); at = at; is = is }

-- what cannot be owned is not
pub never_owned : {P : Type 0} → (P → ⊥) → IsTrue false ↔ P
never_owned none = (λ no. absurd (cc), λ is. absurd (none is))

module _ {T A B : Type 0} {r : Rule T A B} {n : Named r} (named : IsNamed n) {M X : Type 0} {l : Limits X} {heaps : List Heap} {ss : List (TypeStores M X)} {own : OwnTable} {remaining i : ℕ} {e : TypeStores M X} {x : T} (has : Has n l heaps ss own remaining i e x) where
  abbrev t : State
  t = state_of l heaps ss own remaining

  pub block_of : {block : Block} → i ≡ block.memory_type → IsOwned t block → (key : ℕ) → block.kind ≡ n.kind key → (b : B) × IsBlockOf n x b block
  block_of {block} typed owned key kind =
      let both = (serves named has).linked in
      let stands = (stood named has).stands in
      let there = both.spans (span_of block) owned.held.0 owned.live (record { key = key; held = owned.held.1; of_kind = owned.held.3 ∙ kind; of_type = owned.held.2 ∙ sym typed ∙ sym stands.of_type }) in
      let lies = stands.plain.of_chunk there.0 there.1 in
      let found = ap (map.get t.held) (sym lies.1.1 ∙ ap (λ (z : Span). z.object) there.2) ∙ owned.held.1 in
      let same = one_value _ owned.held.0 (row n x (r.key there.0) lies.0) found (both.chunks (r.key there.0) lies.0 lies.1.0) in
      (there.0, record { live = there.1; span = sym there.2; kind = sym owned.held.3 ∙ ap (λ (o : HeldObject). o.kind) same })

  pub owned_of : {block : Block} → i ≡ block.memory_type → (b : B) → IsBlockOf n x b block → IsOwned t block
  owned_of typed b of =
      let both = (serves named has).linked in
      let stands = (stood named has).stands in
      let lies = stands.plain.of_chunk b of.live in
      record {
        live = subst (λ (s : Span). IsTrue (set.contains t.live s)) (sym of.span) (both.blocks b of.live);
        held = (row n x (r.key b) lies.0, ap (map.get t.held) (ap (λ (s : Span). s.object) of.span ∙ lies.1.1) ∙ both.chunks (r.key b) lies.0 lies.1.0, stands.of_type ∙ typed, sym of.kind);
      }

  -- so it is where the store finds one of its span
  pub found_owned : {block : Block} → i ≡ block.memory_type → {F : Type 0} {IsNone : Type 0} {IsFound : F → Type 0} (b_of : F → B) (o : Option F) (key : ℕ) → block.kind ≡ n.kind key → MatchOption o IsNone IsFound → ((b : B) → IsBlockOf n x b block → IsNone → ⊥) → ((f : F) → IsFound f → IsBlockOf n x (b_of f) block)
      → IsTrue (is_some o) ↔ IsOwned t block
  found_owned typed b_of None key kind none other found = (λ no. absurd (cc), λ owned. absurd (let there = block_of typed owned key kind in other there.0 there.1 none))
  found_owned typed b_of (Some f) key kind is other found = (λ yes. owned_of typed (b_of f) (found f is), λ owned. refl)

-- an owned block, by what its memory type's store is read as
pub block_in : {T A B : Type 0} {r : Rule T A B} {n : Named r} (named : IsNamed n) {M X : Type 0} (l : Limits X) {heaps : List Heap} {ss : List (TypeStores M X)} {own : OwnTable} {remaining i : ℕ} {e : TypeStores M X} {x : T} {block : Block} → Keep l heaps ss own remaining → IsOwned (state_of l heaps ss own remaining) block → i ≡ block.memory_type → e ≡ get_or ss i e → n.get e ≡ Some x
    → (key : ℕ) → block.kind ≡ n.kind key → (b : B) × IsBlockOf n x b block
block_in named l kept owned typed at is = block_of named {l = l} (record { kept = kept; known = known_type l kept owned typed; at = at; is = is }) typed owned
