-- What a session keeps of its device's offer.
use Rattle.std.specs.Prelude.{◌≡◌, ◌<◌, ◌^◌, length}
use Rattle.gpu_alloc_types.specs.Properties.{Properties}
use Rattle.gpu_session.specs.declared.offer.Offer.{Offer}

-- these are what the device offers, with fewer than 2^32 heaps
pub record IsOffer {A : Type 0} (p : Properties) (o : Offer A) : Type 0 where
  pub types : o.memory_types.items ≡ p.memory_types
  pub heaps : o.heaps ≡ length p.memory_heaps
  pub few_heaps : length p.memory_heaps < 2 ^ 32
  pub atom : o.non_coherent_atom_size ≡ p.non_coherent_atom_size
  pub feature : o.buffer_device_address ≡ p.buffer_device_address
