-- What may be asked of a sound simulated device has bytes there.
use Rattle.std.proofs.Common.{◌≡◌, ℕ, ◌+◌, ◌≤◌, cond, All, List, length, IsTrue, ap, sym, subst, ◌∙◌, arith}
use Rattle.std.specs.FinMap as map
use Rattle.std.specs.FinMap.{FinMap}
use Rattle.std.specs.Ordering.{nat_cmp}
use Rattle.gpu_alloc_types.specs.Device.{Object, Range, HeldWith, IsMappable, IsInMapped, AreFlushable}
use Rattle.gpu_alloc_types.specs.Properties.{Properties, is_host_visible}
use Rattle.gpu_alloc_base.proofs.Names.{here}
use Rattle.gpu_sim.specs.ObjectLaws.{alike, held_once_shown, whole_at}
use Rattle.gpu_sim.specs.Objects.{AreWhole, HasRange, IsWhole, shown}
use Rattle.gpu_sim.specs.Sim.{IsWritable, SimState, objects_of}

has_range : (p : Properties) (o : Object) → IsWhole p o → (offset size : ℕ) → offset + size ≤ length o.host_bytes → HasRange offset size o
has_range p o w offset size inside = record { host = inside; device = subst (λ n. offset + size ≤ n) (alike p o w) inside }

seen_bytes : (p : Properties) (o : Object) → IsWhole p o → IsTrue (is_host_visible p o.memory_type) → o.size ≡ length o.host_bytes
seen_bytes p o w visible = sym (w.well_formed.host ∙ ap (λ seen. cond seen o.size 0) visible)

module _ (p : Properties) (objects : FinMap nat_cmp Object) (whole : AreWhole p objects) where
  module _ (name offset size : ℕ) where
    pub writable_has : HeldWith (shown p objects) name (IsWritable p offset size) → HeldWith (map.get objects) name (HasRange offset size)
    writable_has held =
        let is = held_once_shown p objects name held.0 held.1 in
        let w = whole_at p objects name held.0 whole is in
        (held.0, is, has_range p held.0 w offset size (subst (λ n. offset + size ≤ n) (seen_bytes p held.0 w held.2.visible) held.2.inside))

    pub mappable_has : HeldWith (shown p objects) name (IsMappable p offset size) → HeldWith (map.get objects) name (HasRange offset size)
    mappable_has held = writable_has (held.0, held.1, record { visible = held.2.visible; inside = held.2.inside })

    pub mapped_has : HeldWith (shown p objects) name (IsInMapped offset size) → HeldWith (map.get objects) name (HasRange offset size)
    mapped_has held =
        let is = held_once_shown p objects name held.0 held.1 in
        let w = whole_at p objects name held.0 whole is in
        let m = held.2.inside in
        let bytes = here held.0.mapped (λ r. r.0 + r.1 ≤ length held.0.host_bytes) w.mapped_bytes m.0 m.1 in
        (held.0, is, has_range p held.0 w offset size (let end = m.3 in omega (arith, bytes, end)))

  flushable_have : (rs : List Range) → AreFlushable p (shown p objects) rs → All (λ r. HeldWith (map.get objects) r.object (HasRange r.offset r.size)) rs
  flushable_have rs each k d lt =
      let held = each k d lt in
      mapped_has _ _ _ (held.0, held.1, held.2.mapped)

-- the same of a device that is seen so
pub ready_to_copy : (inside now : SimState) (rs : List Range) → inside ≡ now → AreWhole inside.properties inside.objects → AreFlushable now.properties (objects_of now) rs → All (λ r. HeldWith (map.get inside.objects) r.object (HasRange r.offset r.size)) rs
ready_to_copy inside now rs is whole ready = flushable_have inside.properties inside.objects whole rs (subst (λ sim. AreFlushable sim.properties (objects_of sim) rs) (sym is) ready)
