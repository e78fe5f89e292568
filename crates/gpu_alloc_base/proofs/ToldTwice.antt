-- A request that is described twice, by an allocator's own chunks and by what a larger one holds: what the first
-- refuses, the second does.
use Rattle.std.proofs.Common.{◌≡◌, inl, inr, ◌<◌, List, Err, refl, ap, subst, arith, IsTrue}
use Rattle.gpu_alloc_types.specs.Device.{Event}
use Rattle.gpu_alloc_base.specs.Case.{Case, MayAsk, HasQuestion, Asks, IsWithinBudget, IsOverBudget, IsOpen, IsShut, IsPassedUnasked, IsPassed, LacksHost, Answers}
use Rattle.gpu_alloc_base.specs.NewChunk.{ChunkQuestion, LacksDeviceMemory, LacksHostMemory, IsReleased}
use Rattle.gpu_alloc_base.specs.declared.error.AllocationError.{AllocationError}
use Rattle.gpu_alloc_base.specs.declared.error.AllocationError.TheVariants.{OutOfDeviceMemory, OutOfHostMemory, NoCompatibleMemoryTypes, TooManyObjects}

-- both say the same of room, of what remains, of the question and of the budget
pub record IsToldAs {B S B' S' : Type 0} (c : Case B S) (d : Case B' S') : Type 0 where
  pub fits : c.Fits → d.Fits
  pub fitted : d.Fits → c.Fits
  pub place : c.HasPlace → d.HasPlace
  pub placed : d.HasPlace → c.HasPlace
  pub number : c.HasNumber → d.HasNumber
  pub numbered : d.HasNumber → c.HasNumber
  pub remaining : c.remaining ≡ d.remaining
  pub question : c.question ≡ d.question
  pub ledger : c.ledger ≡ d.ledger
  pub limit : c.limit ≡ d.limit
  pub handles : c.two_handles ≡ d.two_handles

module _ {B S B' S' : Type 0} {c : Case B S} {d : Case B' S'} (told : IsToldAs c d) where
  may_ask : MayAsk c → MayAsk d
  may_ask may = record { objects = subst (λ n. 0 < n) told.remaining may.objects; number = told.number may.number }

  question_is : HasQuestion c → HasQuestion d
  question_is has = record { fits = told.fits has.fits; no_place = λ place. has.no_place (told.placed place); remains = may_ask has.remains }

  asked_size : c.question.size ≡ d.question.size
  asked_size = ap (λ (q : ChunkQuestion). q.size) told.question

  within_is : IsWithinBudget c → IsWithinBudget d
  within_is within = omega (arith, within, asked_size, told.ledger, told.limit)

  over_is : IsOverBudget c → IsOverBudget d
  over_is over = omega (arith, over, asked_size, told.ledger, told.limit)

  pub asks_is : Asks c → Asks d
  asks_is asks = record { has = question_is asks.has; within = within_is asks.within }

  open_is : IsOpen c → IsOpen d
  open_is is = record { fits = told.fits is.fits; ways = elim (is.ways) [ inl place ↦ inl (told.place place) | inr may ↦ inr (may_ask may.0, within_is may.1) ] }

  shut_is : IsShut c → IsShut d
  shut_is is = record {
    fits = told.fits is.fits;
    no_place = λ place. is.no_place (told.placed place);
    barred = elim (is.barred) [ inl spent ↦ inl (subst (λ n. n ≡ 0) told.remaining spent) | inr none ↦ inr (λ has. none (told.numbered has)) ];
  }

  unasked_is : IsPassedUnasked c → IsPassedUnasked d
  unasked_is (inl unfit) = inl (λ fits. unfit (told.fitted fits))
  unasked_is (inr (has, over)) = inr (question_is has, over_is over)

  pub passed_is : (es : List Event) → IsPassed c es → IsPassed d es
  passed_is es (inl (unasked, none)) = inl (unasked_is unasked, none)
  passed_is es (inr (asks, lacks)) = inr (asks_is asks, subst (λ q. LacksDeviceMemory q es) told.question lacks)

  lacks_is : (es : List Event) → LacksHost c es → LacksHost d es
  lacks_is es (inl (none, is)) = inl (none, open_is is)
  lacks_is es (inr (asks, inl lacks)) = inr (asks_is asks, inl (subst (λ q. LacksHostMemory q es) told.question lacks))
  lacks_is es (inr (asks, inr back)) = inr (asks_is asks, inr (subst IsTrue told.handles back.0, subst (λ q. IsReleased q es) told.question back.1))

  -- by a call
  pub refused_is : (es : List Event) (e : AllocationError) (new : S) → Answers c es (Err e) new → Answers d es (Err e) d.before
  refused_is es OutOfDeviceMemory new answers = (refl, passed_is es answers.1)
  refused_is es OutOfHostMemory new answers = (refl, lacks_is es answers.1)
  refused_is es TooManyObjects new answers = (refl, answers.1, shut_is answers.2)
  refused_is es NoCompatibleMemoryTypes new answers = absurd answers
