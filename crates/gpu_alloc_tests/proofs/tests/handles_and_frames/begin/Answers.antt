use Rattle.std.proofs.Common.{◌≡◌, Bool, true, false, [], ◌∷◌}
use Rattle.std.specs.List.{All}
use Rattle.std.proofs.lemmas.List.Elements.{All-cons, All-nil}
use Rattle.gpu_alloc.specs.Request.{IsAskable}
use Rattle.gpu_alloc.specs.declared.request.Request.{Request}
use Rattle.gpu_alloc_tests.proofs.tests.handles_and_frames.begin.Goals as goal

-- a request that is valid without the device's feature is valid with it
askable : (address : Bool) (r : Request) → IsAskable false r → IsAskable address r
askable address r is = record { nonempty = is.nonempty; alignment = is.alignment; device_address = λ has. absurd (let never : false ≡ true = is.device_address has in cc) }

both : (address : Bool) (r s : Request) → IsAskable false r → IsAskable false s → All (IsAskable address) (r ∷ s ∷ [])
both address r s first second = All-cons (IsAskable address) r (s ∷ []) (askable address r first) (All-cons (IsAskable address) s [] (askable address s second) (All-nil (IsAskable address)))

pub begin_flight-requires : goal.begin_flight-requires
begin_flight-requires g c = record { askable = both _ c.request.result c.request-2.result c.request.ensures c.request-2.ensures }
