-- How contracts see the values of blocks.
use Rattle.std.specs.Prelude.{◌≡◌, ℕ, ◌==◌, cond, Option, refl}
use Rattle.std.specs.Coded.{Coded, code_by, coded×, coded_ℕ, coded_option}
use Rattle.gpu_alloc_block.specs.State.{Span, Block, span_of}
use Rattle.gpu_alloc_block.specs.declared.block.Kind.{Kind}
use Rattle.gpu_alloc_block.specs.declared.block.Kind.TheVariants.{Dedicated, Imported, BuddyChunk, FreeListChunk, FitChunk}
use Rattle.gpu_alloc_block.specs.declared.block.Mapping.{Mapping}
use Rattle.gpu_alloc_block.specs.declared.sharing.Sharing.{Sharing}
use Rattle.gpu_alloc_block.specs.declared.sharing.Sharing.TheVariants.{Buddy, Fit}

-- a kind as a number and the number of its chunk
abbrev pub kind_numbers : Kind → ℕ × ℕ
kind_numbers Dedicated = (0, 0)
kind_numbers Imported = (1, 0)
kind_numbers BuddyChunk = (2, 0)
kind_numbers (FreeListChunk number) = (3, number)
kind_numbers FitChunk = (4, 0)

abbrev pub numbers_kind : ℕ × ℕ → Kind
numbers_kind p =
    cond (p.0 == 0) Dedicated
    (cond (p.0 == 1) Imported (cond (p.0 == 2) BuddyChunk (cond (p.0 == 3) (FreeListChunk p.1) FitChunk)))

pub numbers_kind-kind_numbers : (k : Kind) → numbers_kind (kind_numbers k) ≡ k
numbers_kind-kind_numbers Dedicated = refl
numbers_kind-kind_numbers Imported = refl
numbers_kind-kind_numbers BuddyChunk = refl
numbers_kind-kind_numbers (FreeListChunk number) = refl
numbers_kind-kind_numbers FitChunk = refl

abbrev pub kind_code : Coded Kind
kind_code = code_by (ℕ × ℕ) (coded× coded_ℕ coded_ℕ) kind_numbers numbers_kind numbers_kind-kind_numbers

-- a choice as a number
abbrev pub sharing_number : Sharing → ℕ
sharing_number Buddy = 0
sharing_number Fit = 1

abbrev pub number_sharing : ℕ → Sharing
number_sharing n = cond (n == 0) Buddy Fit

pub number_sharing-sharing_number : (c : Sharing) → number_sharing (sharing_number c) ≡ c
number_sharing-sharing_number Buddy = refl
number_sharing-sharing_number Fit = refl

abbrev pub sharing_code : Coded Sharing
sharing_code = code_by ℕ coded_ℕ sharing_number number_sharing number_sharing-sharing_number

abbrev pub span_code : Coded Span
span_code =
    code_by (ℕ × (ℕ × ℕ)) (coded× coded_ℕ (coded× coded_ℕ coded_ℕ))
    (λ s. (s.object, (s.offset, s.size)))
    (λ c. record { object = c.0; offset = c.1.0; size = c.1.1 }) (λ _. refl)

abbrev pub mapping_code : Coded Mapping
mapping_code =
    code_by (ℕ × ℕ) (coded× coded_ℕ coded_ℕ) (λ m. (m.start, m.len)) (λ c. record {
      start = c.0;
      len = c.1;
    }) (λ _. refl)

abbrev pub block_code : Coded Block
block_code =
    code_by (Span × ((ℕ × (ℕ × ℕ)) × (Kind × Option Mapping)))
    (coded× span_code (coded× (coded× coded_ℕ (coded× coded_ℕ coded_ℕ)) (coded× kind_code (coded_option mapping_code))))
    (λ b. (span_of b, ((b.memory_type, (b.props, b.atom)), (b.kind, b.mapping))))
    (λ c. record {
      object = c.0.object;
      offset = c.0.offset;
      size = c.0.size;
      memory_type = c.1.0.0;
      props = c.1.0.1.0;
      atom = c.1.0.1.1;
      kind = c.1.1.0;
      mapping = c.1.1.1;
    })
    (λ _. refl)
