-- What is sound stays so, as a block is given out and comes back, and as a chunk comes and goes.
use Rattle.std.proofs.Common.{◌≡◌, ◌≢◌, inl, inr, ℕ, ◌+◌, ◌^◌, ◌≤◌, Some, None, refl, sym, ◌∙◌, ap, subst}
use Rattle.std.proofs.lemmas.Bool.{cases_eq}
use Rattle.std.specs.FinMap as map
use Rattle.gpu_alloc_base.specs.Chunks.{Chunk}
use Rattle.gpu_alloc_base.specs.FreeSpace.{IsIn, IsMultipleOf, IsPowerUpTo}
use Rattle.gpu_alloc_base.specs.declared.buddy_block.Leaf.{Leaf}
use Rattle.gpu_alloc_base.proofs.Leaves.{leaf_removed, now_live, still_live, was_live}
use Rattle.gpu_alloc_base.proofs.Maps.{inserted_cases, inserted_kept, own_inserted, kept_key, kept_other}
use Rattle.gpu_alloc_pairs.specs.Space.{BuddySpace, IsFreeAt, IsLiveLeaf, IsSoundBuddySpace, IsUnusedChunk, IsUsedChunk, LiesInChunk, with_leaf, with_chunk, without_leaf, without_leaf_and_chunk}

-- A block more.

-- two live blocks that share a byte are one
apart_with : (s : BuddySpace) (leaf : Leaf) → ((x y : Leaf) → IsLiveLeaf s x → IsLiveLeaf s y → x.chunk ≡ y.chunk → (at : ℕ) → IsIn x.offset x.size at → IsIn y.offset y.size at → x ≡ y)
    → ((q : Leaf) → IsLiveLeaf s q → q.chunk ≡ leaf.chunk → (at : ℕ) → IsIn q.offset q.size at → IsIn leaf.offset leaf.size at → ⊥)
    → (x y : Leaf) → IsLiveLeaf (with_leaf s leaf) x → IsLiveLeaf (with_leaf s leaf) y → x.chunk ≡ y.chunk → (at : ℕ) → IsIn x.offset x.size at → IsIn y.offset y.size at → x ≡ y
apart_with s leaf apart free x y x_live y_live same at in_x in_y = elim (was_live s.live leaf x x_live) [
  | inl x_is ↦ elim (was_live s.live leaf y y_live) [
    | inl y_is ↦ x_is ∙ sym y_is
    | inr y_was ↦ absurd (free y y_was (sym same ∙ ap (λ (l : Leaf). l.chunk) x_is) at in_y (subst (λ (l : Leaf). IsIn l.offset l.size at) x_is in_x))
  ]
  | inr x_was ↦ elim (was_live s.live leaf y y_live) [
    | inl y_is ↦ absurd (free x x_was (same ∙ ap (λ (l : Leaf). l.chunk) y_is) at in_x (subst (λ (l : Leaf). IsIn l.offset l.size at) y_is in_y))
    | inr y_was ↦ apart x y x_was y_was same at in_x in_y
  ]
]

lies_with : (s : BuddySpace) (leaf q : Leaf) → LiesInChunk s q → LiesInChunk (with_leaf s leaf) q
lies_with s leaf q l = record { chunk = l.chunk; held = l.held; object = l.object; power = l.power; aligned = l.aligned; inside = l.inside }

-- in a chunk that is held
pub sound_with_leaf : (s : BuddySpace) (leaf : Leaf) → IsSoundBuddySpace s → LiesInChunk s leaf → ((at : ℕ) → IsIn leaf.offset leaf.size at → IsFreeAt s leaf.chunk at) → IsSoundBuddySpace (with_leaf s leaf)
sound_with_leaf s leaf sound lies free = record {
  one_object = sound.one_object;
  powers = sound.powers;
  used = λ k c held. let u = sound.used k c held in (u.0, (still_live s.live leaf u.0 u.1.0, u.1.1));
  inside = λ q live. elim (was_live s.live leaf q live) [ inl is ↦ subst (LiesInChunk (with_leaf s leaf)) (sym is) (lies_with s leaf leaf lies) | inr was ↦ lies_with s leaf q (sound.inside q was) ];
  apart = apart_with s leaf sound.apart (λ q live same at in_q in_leaf. (free at in_leaf).unused q live same in_q);
}

-- A chunk more.

-- no live block names a key that has no chunk
pub no_leaf_at : (s : BuddySpace) (key : ℕ) → IsSoundBuddySpace s → map.get s.chunks key ≡ None → (q : Leaf) → IsLiveLeaf s q → q.chunk ≡ key → ⊥
no_leaf_at s key sound none q live same =
    let l = sound.inside q live in
    let there : map.get s.chunks key ≡ Some l.chunk = subst (λ k. map.get s.chunks k ≡ Some l.chunk) same l.held in
    cc

-- with the first block of a new chunk
pub sound_with_chunk : (s : BuddySpace) (leaf : Leaf) (size : ℕ) → IsSoundBuddySpace s → IsPowerUpTo 63 size → map.get s.chunks leaf.chunk ≡ None
    → ((k : ℕ) (c : Chunk) → map.get s.chunks k ≡ Some c → c.object ≡ leaf.object → ⊥)
    → (power : (k : ℕ) × (leaf.size ≡ 2 ^ k)) → IsMultipleOf leaf.size leaf.offset → leaf.offset + leaf.size ≤ size → IsSoundBuddySpace (with_leaf (with_chunk s leaf size) leaf)
sound_with_chunk s leaf size sound power none other of_power aligned inside =
    let m = s.chunks in
    let v : Chunk = record { object = leaf.object; size = size } in
    let mid : BuddySpace = with_chunk s leaf size in
    record {
      one_object = λ k l c d is_c is_d same. elim (inserted_cases m leaf.chunk v k c is_c) [
        | inl new_c ↦ elim (inserted_cases m leaf.chunk v l d is_d) [
          | inl new_d ↦ new_c.0 ∙ sym new_d.0
          | inr old_d ↦ absurd (other l d old_d (sym same ∙ ap (λ (x : Chunk). x.object) (sym new_c.1)))
        ]
        | inr old_c ↦ elim (inserted_cases m leaf.chunk v l d is_d) [
          | inl new_d ↦ absurd (other k c old_c (same ∙ ap (λ (x : Chunk). x.object) (sym new_d.1)))
          | inr old_d ↦ sound.one_object k l c d old_c old_d same
        ]
      ];
      powers = λ k c is. elim (inserted_cases m leaf.chunk v k c is) [ inl new ↦ subst (λ (x : Chunk). IsPowerUpTo 63 x.size) new.1 power | inr old ↦ sound.powers k c old ];
      used = λ k c is. elim (inserted_cases m leaf.chunk v k c is) [
        | inl new ↦ (leaf, (now_live mid.live leaf, sym new.0))
        | inr old ↦ let u = sound.used k c old in (u.0, (still_live mid.live leaf u.0 u.1.0, u.1.1))
      ];
      inside = λ q live. elim (was_live mid.live leaf q live) [
        | inl is ↦ subst (LiesInChunk (with_leaf mid leaf)) (sym is) (record { chunk = v; held = own_inserted m leaf.chunk v; object = refl; power = of_power; aligned = aligned; inside = inside })
        | inr was ↦ let l = sound.inside q was in
            record { chunk = l.chunk; held = inserted_kept m leaf.chunk v q.chunk l.chunk none l.held; object = l.object; power = l.power; aligned = l.aligned; inside = l.inside }
      ];
      apart = apart_with mid leaf sound.apart (λ q live same at in_q in_leaf. no_leaf_at s leaf.chunk sound none q live same);
    }

-- A block less, and a chunk less.

module _ (s : BuddySpace) (leaf : Leaf) (sound : IsSoundBuddySpace s) where
  -- what is live still was live, and is another block
  pub was_another : (q : Leaf) → IsLiveLeaf (without_leaf s leaf) q → (q ≡ leaf → ⊥) × IsLiveLeaf s q
  was_another q t = (leaf_removed s.live leaf q).0 t

  -- another chunk is used as before
  still_used : (k : ℕ) (c : Chunk) → map.get s.chunks k ≡ Some c → k ≢ leaf.chunk → IsUsedChunk (without_leaf s leaf) k
  still_used k c at other =
      let u = sound.used k c at in
      (u.0, ((leaf_removed s.live leaf u.0).1 ((λ same. other (sym u.1.1 ∙ ap (λ (l : Leaf). l.chunk) same)), u.1.0), u.1.1))

  pub sound_left : IsUsedChunk (without_leaf s leaf) leaf.chunk → IsSoundBuddySpace (without_leaf s leaf)
  sound_left used = record {
    one_object = sound.one_object;
    powers = sound.powers;
    used = λ k c at. elim (cases_eq k leaf.chunk) [
      | inl same ↦ (used.0, (used.1.0, used.1.1 ∙ sym same))
      | inr other ↦ still_used k c at other
    ];
    inside = λ q t. let l = sound.inside q (was_another q t).1 in record { chunk = l.chunk; held = l.held; object = l.object; power = l.power; aligned = l.aligned; inside = l.inside };
    apart = λ x y t u. sound.apart x y (was_another x t).1 (was_another y u).1;
  }

  pub sound_without : IsUnusedChunk (without_leaf s leaf) leaf.chunk → IsSoundBuddySpace (without_leaf_and_chunk s leaf)
  sound_without unused = record {
    one_object = λ k l c d k_is l_is. sound.one_object k l c d (kept_key s.chunks leaf.chunk k c k_is).1 (kept_key s.chunks leaf.chunk l d l_is).1;
    powers = λ k c at. sound.powers k c (kept_key s.chunks leaf.chunk k c at).1;
    used = λ k c at. let h = kept_key s.chunks leaf.chunk k c at in still_used k c h.1 h.0;
    inside = λ q t. let l = sound.inside q (was_another q t).1 in
        record { chunk = l.chunk; held = kept_other s.chunks leaf.chunk q.chunk (unused q t) ∙ l.held; object = l.object; power = l.power; aligned = l.aligned; inside = l.inside };
    apart = λ x y t u. sound.apart x y (was_another x t).1 (was_another y u).1;
  }
