use Rattle.std.proofs.Common.{◌≡◌, ◌+◌, false, [], ◌∷◌, None, Ok, Err, refl, sym, ◌∙◌, ap, subst, inl, inr}
use Rattle.gpu_alloc_types.specs.Device.Event.{Allocated, Deallocated}
use Rattle.gpu_alloc_types.specs.Flags.{allocation_bits}
use Rattle.gpu_alloc.specs.Importing.{Imports, imported_block}
use Rattle.gpu_alloc.specs.NewChunk.{flags_of}
use Rattle.gpu_alloc.specs.State.{Block}
use Rattle.gpu_alloc_base.proofs.Names.{get_put, get_put-other}
use Rattle.gpu_session.specs.Does.{object_asked}
use Rattle.gpu_session.specs.Faults.{fault_of_import, is_bad_end}
use Rattle.gpu_session.specs.Offer.{IsOffer}
use Rattle.gpu_session.proofs.Conditions.{in_use, new_name}
use Rattle.gpu_session.proofs.Grants.{grant_is_kept}
use Rattle.gpu_session.proofs.Imports.{faultless, import_agrees, importable_is_held, part_may_be_imported, undone}
use Rattle.gpu_session.proofs.Moves.{agreed_is_kept}
use Rattle.gpu_session.proofs.Names.{named, unnamed}
use Rattle.gpu_session.proofs.Others.{another_name, its_object, new_leaves, untouched}
use Rattle.gpu_session.proofs.session.Session.import.Goals as goal

pub returns-then-contains_key-clause-step : goal.returns-then-contains_key-clause-step
returns-then-contains_key-clause-step g c =
    let there = named _ c.args.name (sym c.contains_key.ensures ∙ c.if-contains_key.true) in
    rw (← c.self.view_is) ([], refl, (refl, inl (in_use _ there.0 _ there.1, refl)))

pub import_fault-fault-requires : goal.import_fault-fault-requires
import_fault-fault-requires g c = subst (λ p. IsOffer p c.self.inside.offer) c.self.invariant.sound.agrees.properties c.self.invariant.offer

pub returns-in-Some-clause-step : goal.returns-in-Some-clause-step
returns-in-Some-clause-step g c =
    let free = unnamed _ c.args.name (sym c.contains_key.ensures ∙ c.if-contains_key.false) in
    let good = sym c.import_fault-fault.ensures ∙ c.in-Some.is in
    rw (← c.self.view_is) ([], refl, (refl, inl (new_name _ _ free ∙ good, refl)))

pub returns-then-is_err-clause-step : goal.returns-then-is_err-clause-step
returns-then-is_err-clause-step g c =
    let free = unnamed _ c.args.name (sym c.contains_key.ensures ∙ c.if-contains_key.false) in
    let good : fault_of_import c.self.inside.allocator c.args.memory_type c.args.object_size c.args.offset c.args.size ≡ None = sym c.in_default.ensures in
    let able = new_name _ _ free ∙ good in
    rw (← c.self.view_is, c.reserve.ensures.entries) ([], refl, (refl, inr (refl, able, refl, inl refl)))

pub returns-in-Err-clause-step : goal.returns-in-Err-clause-step
returns-in-Err-clause-step g c =
    let free = unnamed _ c.args.name (sym c.contains_key.ensures ∙ c.if-contains_key.false) in
    let good : fault_of_import c.self.inside.allocator c.args.memory_type c.args.object_size c.args.offset c.args.size ≡ None = sym c.in_default.ensures in
    let able = new_name _ _ free ∙ good in
    let flags = c.flags-flags.ensures _ c.self.invariant.offer ∙ ap flags_of c.self.invariant.sound.agrees.properties in
    let asked = rw (c.in-Err.is, flags) at c.allocate_memory-answer.ensures in
    rw (← c.self.view_is, c.reserve.ensures.entries) (
      object_asked (c.self.inside.allocator).properties c.args.memory_type c.args.object_size (Err c.in-Err.e) ∷ [],
      (c.allocate_memory-answer.new.self, asked, refl),
      (able, ((c.in-Err.e, c.from.ensures, refl), refl)),
    )

pub invariant_of-self-in-Ok-import_memory : goal.invariant_of-self-in-Ok-import_memory
invariant_of-self-in-Ok-import_memory g c =
    let free = unnamed _ c.args.name (sym c.contains_key.ensures ∙ c.if-contains_key.false) in
    let good : fault_of_import c.self.inside.allocator c.args.memory_type c.args.object_size c.args.offset c.args.size ≡ None = sym c.in_default.ensures in
    let able = new_name _ _ free ∙ good in
    let put = rw c.reserve.ensures.entries at c.keep.ensures.kept in
    let name = g.M.MemoryObject.object c.in-Ok.memory in
    let made = c.made_objects_may_be_imported.ensures in
    let whole = (rw c.in-Ok.is at made.whole) c.self.inside.device c.args.object_size c.args.memory_type (allocation_bits c.flags-flags.result) (rw c.in-Ok.is at c.allocate_memory-answer.ensures) in
    let agreed = made.allocator c.self.inside.device c.args.object_size c.args.memory_type (allocation_bits c.flags-flags.result) c.allocate_memory-answer.ensures c.self.invariant.sound.agrees in
    let can = faultless c.self.inside.allocator c.args.memory_type c.args.object_size c.args.offset c.args.size good in
    let part = part_may_be_imported (g.D.MemoryDevice.properties c.allocate_memory-answer.new.self) (g.D.MemoryDevice.objects c.allocate_memory-answer.new.self) name c.args.memory_type c.args.object_size c.args.offset c.args.size whole can.within
    (subst (λ q. is_bad_end q c.args.memory_type c.args.object_size (c.args.offset + c.args.size) ≡ false) (sym agreed.properties) can.finish) in
    let done = c.in-Ok-import_memory.ensures in
    let agree = import_agrees c.self.inside.allocator c.import_memory.new.self c.in-Ok-import_memory.block name c.args.memory_type c.args.offset c.args.size (g.D.MemoryDevice.properties c.allocate_memory-answer.new.self) (g.D.MemoryDevice.objects c.allocate_memory-answer.new.self) done.agrees agreed part in
    rw put (grant_is_kept c.self.invariant (record {
      free = free;
      adds = done.added;
      leaves = done.leaves;
      owned = done.imported.owned;
      ready = agree.1;
      keeps = λ b owned. made.blocks c.self.inside.device c.args.object_size c.args.memory_type (allocation_bits c.flags-flags.result) b c.allocate_memory-answer.ensures;
      sound = done.sound;
      agrees = agree.0;
    }))

pub deallocate_memory-requires : goal.deallocate_memory-requires
deallocate_memory-requires g c =
    let name = g.M.MemoryObject.object c.in-Ok.memory in
    let made = c.made_objects_may_be_imported.ensures in
    let whole = (rw c.in-Ok.is at made.whole) c.self.inside.device c.args.object_size c.args.memory_type (allocation_bits c.flags-flags.result) (rw c.in-Ok.is at c.allocate_memory-answer.ensures) in
    let handed : g.M.MemoryObject.object c.in-Err-import_memory.memory ≡ name = ap (λ m. g.M.MemoryObject.object m) c.in-Err-import_memory.ensures.handed_back in
    rw handed (importable_is_held _ _ name c.args.memory_type 0 c.args.object_size whole)

pub invariant_of-self-in-Err-import_memory : goal.invariant_of-self-in-Err-import_memory
invariant_of-self-in-Err-import_memory g c =
    let name = g.M.MemoryObject.object c.in-Ok.memory in
    let made = c.made_objects_may_be_imported.ensures in
    let whole = (rw c.in-Ok.is at made.whole) c.self.inside.device c.args.object_size c.args.memory_type (allocation_bits c.flags-flags.result) (rw c.in-Ok.is at c.allocate_memory-answer.ensures) in
    let handed : g.M.MemoryObject.object c.in-Err-import_memory.memory ≡ name = ap (λ m. g.M.MemoryObject.object m) c.in-Err-import_memory.ensures.handed_back in
    let unheld = (rw c.in-Ok.is at made.unheld) c.self.inside.device c.args.object_size c.args.memory_type (allocation_bits c.flags-flags.result) (rw c.in-Ok.is at c.allocate_memory-answer.ensures) c.self.invariant.sound.agrees in
    let refused = c.in-Err-import_memory.ensures.refused in
    let others = rw refused at c.objects_of_others_may_go.ensures in
    let gone = rw handed at c.deallocate_memory.ensures in
    rw (refused, c.reserve.ensures.entries)
    (agreed_is_kept (agreed_is_kept c.self.invariant (record {
      allocator = λ agrees. made.allocator c.self.inside.device c.args.object_size c.args.memory_type (allocation_bits c.flags-flags.result) c.allocate_memory-answer.ensures agrees;
      blocks = λ b owned. made.blocks c.self.inside.device c.args.object_size c.args.memory_type (allocation_bits c.flags-flags.result) b c.allocate_memory-answer.ensures;
    })) (record {
      allocator = λ agrees. others.allocator c.allocate_memory-answer.new.self name gone unheld agrees;
      blocks = λ b owned. others.blocks c.allocate_memory-answer.new.self name b gone unheld owned;
    }))

pub returns-in-Ok-import_memory-clause-step : goal.returns-in-Ok-import_memory-clause-step
returns-in-Ok-import_memory-clause-step g c =
    let free = unnamed _ c.args.name (sym c.contains_key.ensures ∙ c.if-contains_key.false) in
    let good : fault_of_import c.self.inside.allocator c.args.memory_type c.args.object_size c.args.offset c.args.size ≡ None = sym c.in_default.ensures in
    let able = new_name _ _ free ∙ good in
    let put = rw c.reserve.ensures.entries at c.keep.ensures.kept in
    let flags = c.flags-flags.ensures _ c.self.invariant.offer ∙ ap flags_of c.self.invariant.sound.agrees.properties in
    let name = g.M.MemoryObject.object c.in-Ok.memory in
    let done = c.in-Ok-import_memory.ensures in
    let b = c.in-Ok-import_memory.block in
    let name_is : b.object ≡ name = ap (λ (x : Block). x.object) done.imported.block in
    let asked = rw (c.in-Ok.is, flags, ← name_is) at c.allocate_memory-answer.ensures in
    rw (← c.self.view_is, c.keep.ensures.told, put) (
      object_asked (c.self.inside.allocator).properties c.args.memory_type c.args.object_size (Ok b.object) ∷ [],
      (c.allocate_memory-answer.new.self, asked, refl),
      (able, (b, (refl, refl, refl, refl), (refl, subst (λ n. Imports c.self.inside.allocator n c.args.memory_type c.args.offset c.args.size c.import_memory.new.self b) (sym name_is) done.imported), refl)),
    )

pub returns-in-Ok-import_memory-clause-keeps : goal.returns-in-Ok-import_memory-clause-keeps
returns-in-Ok-import_memory-clause-keeps g c =
    let put = rw c.reserve.ensures.entries at c.keep.ensures.kept in
    let name = g.M.MemoryObject.object c.in-Ok.memory in
    let done = c.in-Ok-import_memory.ensures in
    let b = c.in-Ok-import_memory.block in
    let name_is : b.object ≡ name = ap (λ (x : Block). x.object) done.imported.block in
    rw (← c.self.view_is, c.keep.ensures.told, put) (record {
      given = record { properties = done.leaves.properties; config = done.leaves.config; sharing = done.leaves.sharing };
      granted = (b, get_put _ c.args.name b, ((refl, refl, refl, refl), done.imported.block ∙ ap (λ n. imported_block c.self.inside.allocator n c.args.memory_type c.args.offset c.args.size) (sym name_is)));
      refused = tt;
      balance = done.total;
      others = λ n x another there.
          let object = its_object c.self.invariant.sound n x there in
          let made = g.met.D.MemoryDevice.row c.self.inside.device (Allocated c.args.object_size c.args.memory_type (allocation_bits c.flags-flags.result) (Ok name)) c.allocate_memory-answer.new.self (rw c.in-Ok.is at c.allocate_memory-answer.ensures) in (
            get_put-other _ c.args.name b n (another_name c.args.name n another) ∙ there,
            new_leaves (g.D.MemoryDevice.objects c.self.inside.device) (g.D.MemoryDevice.objects c.allocate_memory-answer.new.self) name made.1.0 x object.0 made.0 made.1.2 object.1,
          );
      bytes = tt;
    })

pub returns-in-Err-import_memory-clause-step : goal.returns-in-Err-import_memory-clause-step
returns-in-Err-import_memory-clause-step g c =
    let free = unnamed _ c.args.name (sym c.contains_key.ensures ∙ c.if-contains_key.false) in
    let good : fault_of_import c.self.inside.allocator c.args.memory_type c.args.object_size c.args.offset c.args.size ≡ None = sym c.in_default.ensures in
    let able = new_name _ _ free ∙ good in
    let flags = c.flags-flags.ensures _ c.self.invariant.offer ∙ ap flags_of c.self.invariant.sound.agrees.properties in
    let name = g.M.MemoryObject.object c.in-Ok.memory in
    let handed : g.M.MemoryObject.object c.in-Err-import_memory.memory ≡ name = ap (λ m. g.M.MemoryObject.object m) c.in-Err-import_memory.ensures.handed_back in
    let asked = rw (c.in-Ok.is, flags) at c.allocate_memory-answer.ensures in
    let gone = rw handed at c.deallocate_memory.ensures in
    rw (← c.self.view_is, c.in-Err-import_memory.ensures.refused, c.reserve.ensures.entries) (
      object_asked (c.self.inside.allocator).properties c.args.memory_type c.args.object_size (Ok name) ∷ Deallocated name ∷ [],
      (c.allocate_memory-answer.new.self, asked, (c.deallocate_memory.new.self, gone, refl)),
      (refl, inr (refl, able, refl, inr (name, refl))),
    )

pub returns-in-Err-import_memory-clause-keeps : goal.returns-in-Err-import_memory-clause-keeps
returns-in-Err-import_memory-clause-keeps g c =
    let name = g.M.MemoryObject.object c.in-Ok.memory in
    let handed : g.M.MemoryObject.object c.in-Err-import_memory.memory ≡ name = ap (λ m. g.M.MemoryObject.object m) c.in-Err-import_memory.ensures.handed_back in
    let asked = rw c.in-Ok.is at c.allocate_memory-answer.ensures in
    let gone = rw handed at c.deallocate_memory.ensures in
    rw (← c.self.view_is, c.in-Err-import_memory.ensures.refused, c.reserve.ensures.entries) (record {
      given = record { properties = refl; config = refl; sharing = refl };
      granted = tt;
      others = λ n x another there. (
        there,
        untouched (g.D.MemoryDevice.objects c.self.inside.device) (g.D.MemoryDevice.objects c.deallocate_memory.new.self) x (undone g.D.MemoryDevice.properties g.D.MemoryDevice.objects g.D.MemoryDevice.step g.met.D.MemoryDevice.row c.self.inside.device c.allocate_memory-answer.new.self c.deallocate_memory.new.self _ _ _ name asked gone),
      );
      bytes = tt;
      refused = (refl, undone g.D.MemoryDevice.properties g.D.MemoryDevice.objects g.D.MemoryDevice.step g.met.D.MemoryDevice.row c.self.inside.device c.allocate_memory-answer.new.self c.deallocate_memory.new.self _ _ _ name asked gone);
      balance = refl;
    })
