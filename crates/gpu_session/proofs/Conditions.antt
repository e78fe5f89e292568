-- The conditions of commands.
use Rattle.std.proofs.Common.{◌≡◌, ◌↔◌, ℕ, ◌+◌, ◌<◌, ◌≤◌, ◌^◌, ◌==◌, arith, Bool, true, false, not, ◌&&◌, nat_le, nat_lt, length, Option, Some, None, refl, sym, ◌∙◌, ap}
use Rattle.std.proofs.lemmas.Bool.Decides.{nat_tests}
use Rattle.std.specs.Int.{is_power_of_two}
use Rattle.gpu_alloc_types.specs.Flags.{usage_bits, has_bit}
use Rattle.gpu_alloc_types.specs.Properties.{Properties}
use Rattle.gpu_alloc_types.specs.Device.{Object}
use Rattle.gpu_alloc.specs.Request.{IsAskable}
use Rattle.gpu_alloc.specs.State.{Block}
use Rattle.gpu_alloc.specs.Types.Mapping.{Mapping}
use Rattle.gpu_alloc.specs.declared.request.Request.{Request}
use Rattle.gpu_session.specs.Books.{Books}
use Rattle.gpu_session.specs.Faults.{where_true, is_alignment, fault_of_block, fault_of_mapping, fault_of_new_name, fault_of_range, fault_of_request, fault_of_type}
use Rattle.gpu_session.specs.Sound.{IsSessionKept}
use Rattle.gpu_session.specs.declared.command.Fault.{Fault}
use Rattle.gpu_session.specs.declared.command.Fault.TheVariants.{NameInUse, BadSize, BadAlignment, BadRange, BadType, NoDeviceAddress, UnknownName}
use Rattle.gpu_session.specs.declared.offer.Offer.{Offer}

-- A name for a new block.

pub in_use : (o : Option Block) (b : Block) (rest : Option Fault) → o ≡ Some b → fault_of_new_name o rest ≡ Some NameInUse
in_use o b rest there = ap (λ x. fault_of_new_name x rest) there

pub new_name : (o : Option Block) (rest : Option Fault) → o ≡ None → fault_of_new_name o rest ≡ rest
new_name o rest none = ap (λ x. fault_of_new_name x rest) none

-- a request that was tested by what the session keeps of the device's properties
pub tested_request : {A : Type 0} {p : Properties} {objects : ℕ → Option Object} {s : Books} {o : Offer A} → IsSessionKept p objects s o
    → (r : Request) (fault : Option Fault) → fault_of_request o.buffer_device_address r ≡ fault → fault_of_request (s.allocator.properties).buffer_device_address r ≡ fault
tested_request k r fault is = ap (λ a. fault_of_request a r) (sym (k.offer.feature ∙ ap (λ (q : Properties). q.buffer_device_address) k.sound.agrees.properties)) ∙ is

-- A name of a block.

pub no_block : (o : Option Block) (more : Block → Option Fault) → o ≡ None → fault_of_block o more ≡ Some UnknownName
no_block o more none = ap (λ x. fault_of_block x more) none

pub of_block : (o : Option Block) (b : Block) (more : Block → Option Fault) (fault : Option Fault) → o ≡ Some b → more b ≡ fault → fault_of_block o more ≡ fault
of_block o b more fault there is = ap (λ x. fault_of_block x more) there ∙ is

-- Ranges.

pub bad_range : (offset len size : ℕ) → nat_lt size (offset + len) ≡ true → fault_of_range offset len size None ≡ Some BadRange
bad_range offset len size past = ap (λ t. where_true t BadRange None) past

pub good_range : (offset len size : ℕ) → nat_lt size (offset + len) ≡ false → fault_of_range offset len size None ≡ None
good_range offset len size inside = ap (λ t. where_true t BadRange None) inside

pub inside : (n limit : ℕ) → nat_lt limit n ≡ false → n ≤ limit
inside n limit e = grind (arith, nat_tests)

-- a memory type that is there
pub known_type : (p : Properties) (t : ℕ) → nat_lt t (length p.memory_types) ≡ true → fault_of_type p t None ≡ None
known_type p t known = ap (λ x. where_true x BadType None) (let x : nat_le (length p.memory_types) t ≡ false = grind (arith, nat_tests) in x)

pub some_bytes_then : (size : ℕ) (rest : Option Fault) → (size ≡ 0 → ⊥) → where_true (size == 0) BadSize rest ≡ rest
some_bytes_then size rest some = ap (λ t. where_true t BadSize rest) (let t : (size == 0) ≡ false = grind (arith, nat_tests) in t)

pub in_mapping : (o : Option Mapping) (m : Mapping) (offset len : ℕ) (fault : Option Fault) → o ≡ Some m → fault_of_range offset len m.len None ≡ fault → fault_of_mapping o offset len ≡ fault
in_mapping o m offset len fault is then = ap (λ x. fault_of_mapping x offset len) is ∙ then

-- A request has no fault exactly where an allocator can be asked for it.

-- a fault that is passed over
pub passed : (test : Bool) (fault : Fault) (next : Option Fault) → where_true test fault next ≡ None → (test ≡ false) × (next ≡ None)
passed true fault next none = absurd (cc)
passed false fault next none = (refl, none)

some_bytes : (n : ℕ) → (n == 0) ≡ false → 0 < n
some_bytes n e = grind (arith, nat_tests)

not_empty : (n : ℕ) → 0 < n → (n == 0) ≡ false
not_empty n some = grind (arith, nat_tests)

is_mask : (power : Bool) (n limit : ℕ) → not (power && nat_le n limit) ≡ false → (power ≡ true) × (n ≤ limit)
is_mask true n limit e = (refl, grind (arith, nat_tests))
is_mask false n limit e = absurd (let n : true ≡ false = e in cc)

of_mask : (power : Bool) (n limit : ℕ) → power ≡ true → n ≤ limit → not (power && nat_le n limit) ≡ false
of_mask power n limit is low = let below : nat_le n limit ≡ true = grind (arith, nat_tests) in rw (is, below) refl

offered : (wanted address : Bool) → (wanted && not address) ≡ false → wanted ≡ true → address ≡ true
offered true true e is = refl
offered true false e is = absurd (let n : true ≡ false = e in cc)
offered false address e is = absurd (cc)

of_offered : (wanted address : Bool) → (wanted ≡ true → address ≡ true) → (wanted && not address) ≡ false
of_offered true address offers = rw (offers refl) refl
of_offered false address offers = refl

module _ (address : Bool) (r : Request) where
  pub askable : fault_of_request address r ≡ None → IsAskable address r
  askable e =
      let size = passed (r.size == 0) BadSize _ e in
      let alignment = passed (not (is_alignment (r.align_mask + 1))) BadAlignment _ size.1 in
      let usage = passed (has_bit (usage_bits r.usage) 32 && not address) NoDeviceAddress None alignment.1 in
      let mask = is_mask (is_power_of_two (r.align_mask + 1)) (r.align_mask + 1) (2 ^ 63) alignment.0 in
      record {
        nonempty = some_bytes r.size size.0;
        alignment = record { power = mask.0; bound = mask.1 };
        device_address = offered (has_bit (usage_bits r.usage) 32) address usage.0;
      }

  faultless : IsAskable address r → fault_of_request address r ≡ None
  faultless a = rw (
    not_empty r.size a.nonempty,
    of_mask (is_power_of_two (r.align_mask + 1)) (r.align_mask + 1) (2 ^ 63) a.alignment.power a.alignment.bound,
    of_offered (has_bit (usage_bits r.usage) 32) address a.device_address,
  ) refl

  pub faultless_is_askable : (fault_of_request address r ≡ None) ↔ IsAskable address r
  faultless_is_askable = (askable, faultless)

-- the range that a command names lies in its block, where it has no fault
pub range_inside : (o : Option Block) (b : Block) (offset len : ℕ) → o ≡ Some b → fault_of_block o (λ c. fault_of_range offset len c.size None) ≡ None → offset + len ≤ b.size
range_inside o b offset len at none =
    let good : where_true (nat_lt b.size (offset + len)) BadRange None ≡ None = sym (of_block o b (λ c. fault_of_range offset len c.size None) _ at refl) ∙ none in
    inside (offset + len) b.size (passed (nat_lt b.size (offset + len)) BadRange None good).0
