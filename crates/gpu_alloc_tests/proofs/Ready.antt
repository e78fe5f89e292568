-- An object of 8 bytes that is mapped whole, as the tests have one, stays so.
use Rattle.std.proofs.Common.{◌≡◌, ℕ, Bool, true, false, List, [], ◌∷◌, Option, Some, None, IsTrue, Result, Ok, refl, ap, sym, subst, ◌∙◌, arith, inl, inr, ◌⊎◌, ◌≢◌}
use Rattle.gpu_alloc_types.specs.Device.{Object, Range, Changes, HeldWith, InTurn, IsFlushed, IsInvalidated, IsMappable, IsMappedOver, IsPut, IsUnmapped}
use Rattle.gpu_alloc_types.specs.Device.Event.{Allocated, Mapped, Unmapped, Flushed, Invalidated, BytesPut}
use Rattle.gpu_alloc_types.specs.Objects.{put-same, put-other}
use Rattle.gpu_alloc_types.specs.Properties.{Properties, is_host_visible}
use Rattle.gpu_alloc_types.specs.declared.types.OutOfMemory.{OutOfMemory}
use Rattle.gpu_alloc_base.proofs.Names.{one_or_two}
use Rattle.gpu_sim.specs.Objects.{put_by_device}
use Rattle.gpu_sim.specs.Sim.{SimState, SimStep, CommandWrites, objects_of}
use Rattle.gpu_sim.specs.SimLaws.{shown_command, step_is_row, step_keeps_properties}

-- so it is, but for what is mapped
abbrev pub IsWith : Option (ℕ × ℕ) → Properties → Object → Type 0
IsWith range p o = (o.mapped ≡ range) × (o.size ≡ 8) × IsTrue (is_host_visible p o.memory_type)

abbrev pub IsReady : Option (ℕ × ℕ) → SimState → ℕ → Type 0
IsReady range s name = HeldWith (objects_of s) name (IsWith range s.properties) × (s.properties.non_coherent_atom_size ≡ 1)

-- one object is changed, and this one stays as it was said to be
module _ (P : Object → Object → Type 0) (Q R : Object → Type 0) (turns : (o o' : Object) → P o o' → Q o → R o') (old new : ℕ → Option Object) (name : ℕ) where
  turned : Changes P old name new → HeldWith old name Q → HeldWith new name R
  turned c held =
      let same : held.0 ≡ c.0 = let a = held.1 in let b = c.1 in cc in
      (c.2.0, ap (λ objects. objects name) c.2.2 ∙ put-same old name (Some c.2.0), turns c.0 c.2.0 c.2.1 (subst Q same held.2))

module _ (P : Object → Object → Type 0) (Q : Object → Type 0) (keeps : (o o' : Object) → P o o' → Q o → Q o') (old new : ℕ → Option Object) (changed name : ℕ) where
  kept : Changes P old changed new → HeldWith old name Q → HeldWith new name Q
  kept c held = by (one_or_two name changed)
    where
      by : (name ≡ changed) ⊎ (name ≢ changed) → HeldWith new name Q
      by (inl same) = subst (λ n. HeldWith new n Q) (sym same) (turned P Q Q keeps old new changed c (subst (λ n. HeldWith old n Q) same held))
      by (inr other) = (held.0, ap (λ objects. objects name) c.2.2 ∙ put-other old changed (Some c.2.0) name other ∙ held.1, held.2)

kept_in_turn : (P : Range → Object → Object → Type 0) (Q : Object → Type 0) → ((r : Range) (o o' : Object) → P r o o' → Q o → Q o') → (name : ℕ) (rs : List Range) (old new : ℕ → Option Object) → InTurn P rs old new → HeldWith old name Q → HeldWith new name Q
kept_in_turn P Q keeps name [] old new t held = subst (λ objects. HeldWith objects name Q) (sym t) held
kept_in_turn P Q keeps name (r ∷ rs) old new t held = kept_in_turn P Q keeps name rs t.0 new t.2 (kept (P r) Q (keeps r) old t.0 r.object name t.1 held)

-- what a device offers stays
ready_at : (range : Option (ℕ × ℕ)) (old new : SimState) (name : ℕ) → new.properties ≡ old.properties → HeldWith (objects_of new) name (IsWith range old.properties) → old.properties.non_coherent_atom_size ≡ 1 → IsReady range new name
ready_at range old new name same held atom = subst (λ p. HeldWith (objects_of new) name (IsWith range p) × (p.non_coherent_atom_size ≡ 1)) (sym same) (held, atom)

module _ (old new : SimState) (name : ℕ) where
  pub after_put : (offset : ℕ) (bytes : List ℕ) → SimStep old (BytesPut name offset bytes) new → IsReady (Some (0, 8)) old name → IsReady (Some (0, 8)) new name
  after_put offset bytes s ready =
      let e = BytesPut name offset bytes in
      ready_at (Some (0, 8)) old new name (step_keeps_properties old e new s)
      (kept (IsPut old.properties offset bytes) (IsWith (Some (0, 8)) old.properties) (λ o o' is whole. subst (IsWith (Some (0, 8)) old.properties) (sym is.4) whole) (objects_of old) (objects_of new) name name (step_is_row old e new s) ready.0)
      ready.1

  pub after_flush : (rs : List Range) (answer : Result (Unit {0}) OutOfMemory) → SimStep old (Flushed rs answer) new → IsReady (Some (0, 8)) old name → IsReady (Some (0, 8)) new name
  after_flush rs answer s ready =
      let e = Flushed rs answer in
      ready_at (Some (0, 8)) old new name (step_keeps_properties old e new s)
      (kept_in_turn (IsFlushed answer) (IsWith (Some (0, 8)) old.properties) (λ r o o' is whole. subst (IsWith (Some (0, 8)) old.properties) (sym is.2) whole) name rs (objects_of old) (objects_of new) (step_is_row old e new s) ready.0)
      ready.1

  pub after_invalidate : (rs : List Range) (answer : Result (Unit {0}) OutOfMemory) → SimStep old (Invalidated rs answer) new → IsReady (Some (0, 8)) old name → IsReady (Some (0, 8)) new name
  after_invalidate rs answer s ready =
      let e = Invalidated rs answer in
      ready_at (Some (0, 8)) old new name (step_keeps_properties old e new s)
      (kept_in_turn (IsInvalidated answer) (IsWith (Some (0, 8)) old.properties) (λ r o o' is whole. subst (IsWith (Some (0, 8)) old.properties) (sym is.2) whole) name rs (objects_of old) (objects_of new) (step_is_row old e new s) ready.0)
      ready.1

  pub after_write : (offset : ℕ) (bytes : List ℕ) (answer : Bool) → (answer ≡ true → CommandWrites old name offset bytes new) → (answer ≡ false → new ≡ old) → IsReady (Some (0, 8)) old name → IsReady (Some (0, 8)) new name
  after_write offset bytes true written refused ready =
      ready_at (Some (0, 8)) old new name (ap (λ s. s.properties) (written refl).1.2)
      (kept (λ o o'. o' ≡ put_by_device old.properties offset bytes o) (IsWith (Some (0, 8)) old.properties) (λ o o' is whole. subst (IsWith (Some (0, 8)) old.properties) (sym is) whole) (objects_of old) (objects_of new) name name (shown_command old name offset bytes new (written refl)) ready.0)
      ready.1
  after_write offset bytes false written refused ready = subst (λ s. IsReady (Some (0, 8)) s name) (sym (refused refl)) ready

  pub after_unmap : SimStep old (Unmapped name) new → IsReady (Some (0, 8)) old name → IsReady None new name
  after_unmap s ready =
      ready_at None old new name (step_keeps_properties old (Unmapped name) new s)
      (turned IsUnmapped (IsWith (Some (0, 8)) old.properties) (IsWith None old.properties) (λ o o' is whole. subst (IsWith None old.properties) (sym is) (refl, whole.1, whole.2)) (objects_of old) (objects_of new) name (step_is_row old (Unmapped name) new s) ready.0)
      ready.1

  pub after_map : (x : Unit {0}) → SimStep old (Mapped (record { object = name; offset = 0; size = 8 }) (Ok x)) new → IsReady None old name → IsReady (Some (0, 8)) new name
  after_map x s ready =
      let e = Mapped (record { object = name; offset = 0; size = 8 }) (Ok x) in
      ready_at (Some (0, 8)) old new name (step_keeps_properties old e new s)
      (turned (IsMappedOver (record { object = name; offset = 0; size = 8 })) (IsWith None old.properties) (IsWith (Some (0, 8)) old.properties) (λ o o' is whole. subst (IsWith (Some (0, 8)) old.properties) (sym is) (refl, whole.1, whole.2)) (objects_of old) (objects_of new) name (step_is_row old e new s) ready.0)
      ready.1

  -- a new object of a memory type that the host sees
  pub after_allocate : (flags : ℕ) → SimStep old (Allocated 8 0 flags (Ok name)) new → IsTrue (is_host_visible old.properties 0) → old.properties.non_coherent_atom_size ≡ 1 → IsReady None new name
  after_allocate flags s visible atom =
      let e = Allocated 8 0 flags (Ok name) in
      let row = step_is_row old e new s in
      ready_at None old new name (step_keeps_properties old e new s)
      (row.1.0, ap (λ objects. objects name) row.1.2 ∙ put-same (objects_of old) name (Some row.1.0), (row.1.1.unmapped, row.1.1.of_size, subst (λ t. IsTrue (is_host_visible old.properties t)) (sym row.1.1.of_type) visible))
      atom

-- it may be mapped whole
pub mappable : (s : SimState) (name : ℕ) → IsReady None s name → HeldWith (objects_of s) name (IsMappable s.properties 0 8)
mappable s name ready =
    let o = ready.0 in
    (o.0, o.1, record { visible = o.2.2; unmapped = o.2.0; nonempty = omega arith; inside = let long = o.2.1 in omega arith })
