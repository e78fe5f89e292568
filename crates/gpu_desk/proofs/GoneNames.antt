-- What a run makes of the names of objects that were given back.
use Rattle.std.proofs.Common.{◌≡◌, ℕ, Bool, true, false, cond, List, [], ◌∷◌, ◌++◌, length, take, map, Result, Ok, Err, inl, inr, refl, sym, ◌∙◌, ap, subst}
use Rattle.std.proofs.Math.Seq.{take-append_seam}
use Rattle.gpu_alloc_types.specs.Device.{Chain, Event, Range}
use Rattle.gpu_alloc_types.specs.Device.Event.{Allocated, Deallocated, Mapped, Unmapped, Flushed, Invalidated, BytesPut, BytesGot}
use Rattle.gpu_alloc_types.specs.declared.types.DeviceMapError.{DeviceMapError}
use Rattle.gpu_alloc.specs.Mapped.{IsMapRefused}
use Rattle.gpu_alloc.specs.State.{Block}
use Rattle.gpu_alloc.specs.Types.MapError.{MapError}
use Rattle.gpu_answers.specs.Device.{IsStep, Names}
use Rattle.gpu_answers.specs.DeviceState.{DeviceState}
use Rattle.gpu_answers.specs.Held.{HeldState}

nil_after : (xs : List ℕ) → xs ++ [] ≡ xs
nil_after [] = refl
nil_after (x ∷ xs) = ap (λ rest. x ∷ rest) (nil_after xs)

joined : (xs ys zs : List ℕ) → (xs ++ ys) ++ zs ≡ xs ++ (ys ++ zs)
joined [] ys zs = refl
joined (x ∷ xs) ys zs = ap (λ rest. x ∷ rest) (joined xs ys zs)

-- a call adds a name after the earlier ones, or none
step_adds : (old : HeldState) (e : Event) (new : HeldState) → Names old e new → (more : List ℕ) × (new.gone ≡ old.gone ++ more)
step_adds old (Allocated size t flags (Ok name)) new n = ([], n.2 ∙ sym (nil_after old.gone))
step_adds old (Allocated size t flags (Err e)) new n = ([], n.1 ∙ sym (nil_after old.gone))
step_adds old (Deallocated name) new n = (name ∷ [], n.1)
step_adds old (Mapped r answer) new n = ([], n.1 ∙ sym (nil_after old.gone))
step_adds old (Unmapped name) new n = ([], n.1 ∙ sym (nil_after old.gone))
step_adds old (Flushed rs answer) new n = ([], n.1 ∙ sym (nil_after old.gone))
step_adds old (Invalidated rs answer) new n = ([], n.1 ∙ sym (nil_after old.gone))
step_adds old (BytesPut name offset bytes) new n = ([], n.1 ∙ sym (nil_after old.gone))
step_adds old (BytesGot name offset bytes) new n = ([], n.1 ∙ sym (nil_after old.gone))

-- and a run adds some
run_adds : (old : DeviceState) (es : List Event) (new : DeviceState) → Chain IsStep old es new
    → (more : List ℕ) × (new.held.gone ≡ old.held.gone ++ more)
run_adds old [] new same = ([], ap (λ (s : DeviceState). s.held.gone) same ∙ sym (nil_after old.held.gone))
run_adds old (e ∷ es) new run =
    let first = step_adds old.held e (run.0).held (run.1).names in
    let rest = run_adds run.0 es new run.2 in
    (first.0 ++ rest.0, rest.1 ∙ ap (λ xs. xs ++ rest.0) first.1 ∙ joined old.held.gone first.0 rest.0)

-- So the earlier names are still the first ones, all of them.
pub names_of_before : (old : DeviceState) (es : List Event) (new : DeviceState) → Chain IsStep old es new
    → take (length old.held.gone) new.held.gone ≡ old.held.gone
names_of_before old es new run =
    let adds = run_adds old es new run in
    ap (take (length old.held.gone)) adds.1 ∙ take-append_seam old.held.gone adds.0

-- where nothing but returns is asked, their names are added in their order
pub returns_add : (old : DeviceState) (gone : List ℕ) (new : DeviceState) → Chain IsStep old (map Deallocated gone) new
    → new.held.gone ≡ old.held.gone ++ gone
returns_add old [] new same = ap (λ (s : DeviceState). s.held.gone) same ∙ sym (nil_after old.held.gone)
returns_add old (name ∷ gone) new run =
    returns_add run.0 gone new run.2 ∙ ap (λ xs. xs ++ gone) (run.1).names.1 ∙ joined old.held.gone (name ∷ []) gone

-- no return is asked by one question to map, or by none
pub mapping_adds_none : (old : DeviceState) (shared : Bool) (r : Range) (answer : Result (Unit {0}) DeviceMapError) (new : DeviceState)
    → Chain IsStep old (cond shared [] (Mapped r answer ∷ [])) new → new.held.gone ≡ old.held.gone
mapping_adds_none old true r answer new run = ap (λ (s : DeviceState). s.held.gone) run
mapping_adds_none old false r answer new run = ap (λ (s : DeviceState). s.held.gone) run.2 ∙ (run.1).names.1

-- nor where a mapping is refused
pub refused_adds_none : (old : DeviceState) (b : Block) (r : Range) (e : MapError) (es : List Event) (new : DeviceState)
    → IsMapRefused b r e es → Chain IsStep old es new → new.held.gone ≡ old.held.gone
refused_adds_none old b r e es new (inl itself) run = ap (λ (s : DeviceState). s.held.gone) (subst (λ xs. Chain IsStep old xs new) itself.1 run)
refused_adds_none old b r e es new (inr device) run =
    mapping_adds_none old false r (Err device.cause) new (subst (λ xs. Chain IsStep old xs new) device.asked run)
