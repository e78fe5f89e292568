use Rattle.std.proofs.Common.{◌<◌, sym, ◌∙◌, ap, subst, arith}
use Rattle.std.proofs.lemmas.Nat.{pow_pos}
use Rattle.gpu_alloc_base.proofs.InHand.{grant_adds, grant_leaves}
use Rattle.gpu_alloc_base.proofs.Leaves.{leaf_exact, leaf_total}
use Rattle.gpu_alloc_buddy.specs.BuddyState.{bytes_of}
use Rattle.gpu_alloc_pairs.specs.Space.{BuddySpace}
use Rattle.gpu_alloc_pairs.specs.Store.{HasPairRooms, IsUnheld}
use Rattle.gpu_alloc_buddy.proofs.BuddyAnswers.{same_order}
use Rattle.gpu_alloc_buddy.proofs.BuddyChunks.{new_apart}
use Rattle.gpu_alloc_buddy.proofs.chunks.BuddyChunksStore.begin.Goals as goal

pub begin-leaf-requires-clause-room : goal.begin-leaf-requires-clause-room
begin-leaf-requires-clause-room g c =
    let room = rw (← c.self.view_is) at c.requires.room in
    let is = rw (← c.self.view_is) at c.chunk_order-chunk_order.ensures.is in
    subst (HasPairRooms c.self.inside.pairs c.args.order) (same_order room.0 c.chunk_order-chunk_order.result (sym room.1 ∙ is)) room.2

pub begin-leaf-requires-clause-new_object : goal.begin-leaf-requires-clause-new_object
begin-leaf-requires-clause-new_object g c = rw (← c.self.view_is) at c.requires.new_object

pub returns-clause-leaves : goal.returns-clause-leaves
returns-clause-leaves g c =
    rw (← c.self.view_is) (grant_leaves leaf_total leaf_exact bytes_of c.self.inside.pairs.space.live c.begin-leaf.result c.begin-leaf.new.self.space.live (ap (λ (s : BuddySpace). s.live) c.begin-leaf.ensures.space))

pub returns-clause-added : goal.returns-clause-added
returns-clause-added g c =
    let s = c.self.inside.pairs.space in
    let leaf = c.begin-leaf.result in
    let some : 0 < leaf.size = omega (arith, c.begin-leaf.ensures.begins.of_size, pow_pos c.args.order) in
    let unheld = subst (IsUnheld s) (sym c.begin-leaf.ensures.object) (rw (← c.self.view_is) at c.requires.new_object) in
    rw (← c.self.view_is, c.new.ensures)
    (grant_adds leaf_total leaf_exact bytes_of s.live leaf c.begin-leaf.new.self.space.live (ap (λ (x : BuddySpace). x.live) c.begin-leaf.ensures.space) some (λ other live. new_apart s c.self.invariant.space leaf other live unheld))

pub returns-clause-begun : goal.returns-clause-begun
returns-clause-begun g c = record {
  chunk_order = c.chunk_order-chunk_order.result;
  is = c.requires.size.1.1 ∙ c.chunk_order-chunk_order.ensures.is;
  longer = c.chunk_order-chunk_order.ensures.longer;
  short = omega (arith, c.chunk_order-chunk_order.ensures.bound);
  split = c.begin-leaf.ensures.counted;
}
