-- What holds of a desk that is left alone.
use Rattle.std.proofs.Common.{refl}
use Rattle.gpu_answers.proofs.Naming.{names_stay}
use Rattle.gpu_desk.specs.Calls.{IsAsBefore, KeepsDesk}
use Rattle.gpu_desk.specs.Desk.{DeskState}
use Rattle.gpu_desk.proofs.Losing.{same_device}

pub IsAsBefore-same : (s : DeskState) → IsAsBefore s s
IsAsBefore-same s = record { allocator = refl; live = refl; keys = refl; objects = refl; names = refl; tags = refl; page = refl }

pub Keeps-same : (s : DeskState) → KeepsDesk s s
Keeps-same s = record { given = record { properties = refl; config = refl; sharing = refl }; limits = refl; total = refl; gone = λ key gone. gone; names = names_stay s.device.held; lost = same_device s s refl; tags = λ key was is. refl; page = refl }

pub ruleset same = (IsAsBefore-same, Keeps-same)
