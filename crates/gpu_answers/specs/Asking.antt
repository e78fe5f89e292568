-- A run of calls, and the answers to its questions.
use Rattle.std.specs.Prelude.{◌≡◌, ◌≢◌, ◌⊎◌, ℕ, ◌==◌, cond, List, [], ◌∷◌, Option, Some, None}
use Rattle.gpu_alloc_types.specs.declared.types.DeviceMapError.{DeviceMapError}
use Rattle.gpu_alloc_types.specs.declared.types.DeviceMapError.TheVariants as DeviceMap
use Rattle.gpu_alloc_types.specs.declared.types.OutOfMemory.{OutOfMemory}
use Rattle.gpu_alloc_types.specs.declared.types.OutOfMemory.TheVariants as Memory
use Rattle.gpu_answers.specs.declared.question.Question.{Question}
use Rattle.gpu_answers.specs.declared.question.Question.TheVariants.{MapMade, Map}
use Rattle.gpu_answers.specs.declared.question.Answer.{Answer}
use Rattle.gpu_answers.specs.declared.question.Answer.TheVariants.{Granted, OutOfDeviceMemory, OutOfHostMemory}
use Rattle.gpu_answers.specs.declared.question.Answer.TheVariants.{MapFailed}
use Rattle.gpu_answers.specs.declared.question.Answered.{Answered}
use Rattle.gpu_answers.specs.declared.run.Stop.{Stop}
use Rattle.gpu_answers.specs.declared.run.Stop.TheVariants.{Open, Strayed}

-- The given answers that are not used yet, why no more of them are used if that is so, and the name of the object that
-- the run made last.
pub record RunState : Type 0 where
  pub left : List Answered
  pub stop : Option Stop
  pub made : Option ℕ

-- a run in which nothing was asked
abbrev pub begun : List Answered → RunState
begun answers = record { left = answers; stop = None; made = None }

-- The next answer counts if it is to this question. Otherwise neither this question nor any after it has an answer.
abbrev pub IsNextAnswer : Option Stop → List Answered → RunState → Question → Option Answer → RunState → Type 0
IsNextAnswer (Some stop) left old question told new = (told ≡ None) × (new ≡ old)
IsNextAnswer None [] old question told new = (told ≡ None) × (new ≡ record old { stop = Some (Open question) })
IsNextAnswer None (next ∷ rest) old question told new =
    ((next.question ≡ question) × (told ≡ Some next.answer) × (new ≡ record old { left = rest }))
    ⊎ ((next.question ≢ question) × (told ≡ None) × (new ≡ record old { stop = Some Strayed }))

-- the question is asked in a run, and has this answer or none
abbrev pub AsksInRun : RunState → Question → Option Answer → RunState → Type 0
AsksInRun old question told new = IsNextAnswer old.stop old.left old question told new

-- the question that is open, if that is why the run has no more answers
abbrev pub open_in : Option Stop → Option Question
open_in None = None
open_in (Some (Open question)) = Some question
open_in (Some Strayed) = None

-- the question to map a range: it does not name the object that the run made last
abbrev pub map_question : Option ℕ → (object offset size : ℕ) → Question
map_question None object offset size = Map object offset size
map_question (Some made) object offset size = cond (made == object) (MapMade offset size) (Map object offset size)

-- why an allocation that was not granted is refused
abbrev pub allocation_refusal : Option Answer → OutOfMemory
allocation_refusal None = Memory.OutOfHostMemory
allocation_refusal (Some Granted) = Memory.OutOfHostMemory
allocation_refusal (Some OutOfDeviceMemory) = Memory.OutOfDeviceMemory
allocation_refusal (Some OutOfHostMemory) = Memory.OutOfHostMemory
allocation_refusal (Some MapFailed) = Memory.OutOfHostMemory

-- why a mapping that was not granted is refused
abbrev pub map_refusal : Option Answer → DeviceMapError
map_refusal None = DeviceMap.OutOfHostMemory
map_refusal (Some Granted) = DeviceMap.OutOfHostMemory
map_refusal (Some OutOfDeviceMemory) = DeviceMap.OutOfDeviceMemory
map_refusal (Some OutOfHostMemory) = DeviceMap.OutOfHostMemory
map_refusal (Some MapFailed) = DeviceMap.MapFailed
