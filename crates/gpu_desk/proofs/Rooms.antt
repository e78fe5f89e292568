-- A desk that has other room for keys, and whose device is in another run.
use Rattle.std.proofs.Common.{◌≡◌, ℕ, List, length, Option, sym, ◌∙◌, ap, subst}
use Rattle.gpu_alloc_types.specs.Device.{Object}
use Rattle.gpu_alloc_types.specs.Properties.{Properties}
use Rattle.gpu_alloc.specs.State.{Block, State}
use Rattle.gpu_answers.specs.Device.{objects_of}
use Rattle.gpu_answers.specs.DeviceState.{DeviceState}
use Rattle.gpu_session.specs.Books.{Books}
use Rattle.gpu_session.specs.Sound.{IsSessionKept}
use Rattle.gpu_session.specs.declared.offer.Offer.{Offer}
use Rattle.gpu_slots.specs.SlotMap.{SlotState}
use Rattle.gpu_desk.specs.Desk.{IsDesk}
use Rattle.gpu_desk.specs.Pages.{ArePaged}
use Rattle.gpu_desk.specs.declared.wish.Tag.{Tag}

-- what a desk keeps it keeps then
pub room_is_kept : {A : Type 0} (o : Offer A) (s : State) (old new : SlotState Block) (device now : DeviceState) (tags more : List Tag) (g : ℕ)
    → IsDesk o (record { allocator = s; blocks = old; device = device; tags = tags; granularity = g }) → new ≡ record old { room = new.room } → more ≡ tags
    → IsSessionKept now.properties (objects_of now) (record { allocator = s; blocks = old.live }) o
    → IsDesk o (record { allocator = s; blocks = new; device = now; tags = more; granularity = g })
room_is_kept o s old new device now tags more g desk same same_tags kept =
    let lives : new.live ≡ old.live = ap (λ (x : SlotState Block). x.live) same in
    let places : length new.generations ≡ length old.generations = ap (λ (x : SlotState Block). length x.generations) same in
    record {
      kept = subst (λ m. IsSessionKept now.properties (objects_of now) (record { allocator = s; blocks = m }) o) (sym lives) kept;
      tagged = ap length same_tags ∙ desk.tagged ∙ sym places;
      page = desk.page;
      paged = subst (λ m. ArePaged m more g) (sym lives) (subst (λ ts. ArePaged old.live ts g) (sym same_tags) desk.paged);
    }

-- what was kept is kept of a device that offers and shows the same
pub same_is_kept : {A : Type 0} {s : Books} {o : Offer A} (p q : Properties) (f g : ℕ → Option Object) → q ≡ p → g ≡ f → IsSessionKept p f s o → IsSessionKept q g s o
same_is_kept {s = s} {o = o} p q f g offers shows kept =
    subst (λ h. IsSessionKept q h s o) (sym shows) (subst (λ r. IsSessionKept r f s o) (sym offers) kept)
