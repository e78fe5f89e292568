use Rattle.std.proofs.Common.{ℕ, List, Option, subst}
use Rattle.gpu_alloc_types.specs.Device.{Event, Chain}
use Rattle.gpu_alloc_types.specs.declared.usage_flags.UsageFlags.{UsageFlags}
use Rattle.gpu_alloc.specs.Allocation.{TriesCandidate}
use Rattle.gpu_alloc.specs.declared.allocator.Ask.{Ask}
use Rattle.gpu_alloc.specs.declared.request.Dedicated.{Dedicated}
use Rattle.gpu_alloc.proofs.allocator.GpuAllocator.try_asked.Given.{Over}
use Rattle.gpu_alloc.proofs.allocator.GpuAllocator.try_asked.Goals.{in-None, in-Some}
use Rattle.gpu_alloc.proofs.allocator.GpuAllocator.try_asked.Goals as goal

-- the type was tried for what it was asked
abbrev TriedFor : (g : Over) → goal.After-try_type g → Ask → Type 0
TriedFor g c asked =
    (es : List Event) × Chain g.D.ObjectDevice.step c.args.device.now es c.try_type.new.device
    × TriesCandidate c.args.self.now asked.request asked.hint c.args.memory_type es c.try_type.result c.try_type.new.self

-- the fields of what is asked, put together
abbrev asked_in : ℕ × ℕ × UsageFlags × ℕ × Option Dedicated → Ask
asked_in f = record { request = record { size = f.0; align_mask = f.1; usage = f.2; memory_types = f.3 }; hint = f.4 }

pub returns-clause-tries : goal.returns-clause-tries
returns-clause-tries g c =
    let tried : TriedFor g c (asked_in c.match-paged.size) = c.try_type.ensures.tries in
    elim c.match-paged.branch [
      | in-None w ↦ rw w.in-None.is (subst (λ f. TriedFor g c (asked_in f)) w.size-is tried)
      | in-Some w ↦ rw w.in-Some.is (subst (TriedFor g c) w.ask_in_pages-asked.ensures (subst (λ f. TriedFor g c (asked_in f)) w.size-is tried))
    ]
