-- How a byte call ends that is refused.
use Rattle.std.proofs.Common.{◌≡◌, inl, inr, ℕ, ◌<◌, ◌≤◌, ◌==◌, zero, suc, true, false, cond, List, [], ◌++◌, length, take, ◌∙◌, Option, None, Result, Err, refl, sym, ap, subst, arith}
use Rattle.std.proofs.Math.Seq.{take-append_seam}
use Rattle.std.proofs.lemmas.Bool.Decides.{nat_tests}
use Rattle.std.specs.Result.{IsOk}
use Rattle.gpu_alloc_types.specs.Device.{Event, Object}
use Rattle.gpu_alloc.specs.Bytes.{EndsRead, EndsWrite, flush_fails, invalidate_fails, where_some}
use Rattle.gpu_alloc.specs.Mapped.{refusal}
use Rattle.gpu_alloc.specs.Ranges.{rounded_range}
use Rattle.gpu_alloc.specs.State.{Block}
use Rattle.gpu_alloc.specs.Types.MapError.{MapError}
use Rattle.gpu_session.specs.Does.{EndsEarly}

-- where no bytes at all are moved for an able block the call succeeds, so there are some where it fails
some_bytes : {T : Type 0} (answer : Result T MapError) (e : MapError) (P : Type 0) (len : ℕ) → (P → len ≡ 0 → IsOk answer) → answer ≡ Err e → P → 0 < len
some_bytes answer e P zero empty failed able = let ok : IsOk answer = empty able refl in let err = subst (λ x. IsOk x) failed ok in absurd (cc)
some_bytes answer e P (suc len) empty failed able = omega arith

module _ {T : Type 0} (answer : Result T MapError) (b : Block) (e : MapError) (f g : ℕ → Option Object) (es : List Event) (failed : answer ≡ Err e) where
  pub ends_write : (offset : ℕ) (bytes : List ℕ) → (refusal b ≡ None → length bytes ≡ 0 → IsOk answer) → EndsWrite b offset bytes e f g es
      → EndsEarly b (rounded_range b offset (length bytes)) (length bytes) (flush_fails b offset bytes) e es
  ends_write offset bytes empty ends =
      (some_bytes answer e (refusal b ≡ None) (length bytes) empty failed, elim ends [ inl refused ↦ inl refused.0 | inr refused ↦ inr refused.0 ])

  pub ends_read : (offset len : ℕ) → (refusal b ≡ None → len ≡ 0 → IsOk answer) → EndsRead b offset len e f g es
      → EndsEarly b (rounded_range b offset len) len (invalidate_fails (rounded_range b offset len)) e es
  ends_read offset len empty ends =
      (some_bytes answer e (refusal b ≡ None) len empty failed, elim ends [ inl refused ↦ inl refused.0 | inr refused ↦ inr refused.0 ])

-- what is seen of a vector whose every byte was lent
pub taken_whole : (n : ℕ) (xs rest ys : List ℕ) → ys ≡ take n (xs ++ rest) → length xs ≡ n → ys ≡ xs
taken_whole n xs rest ys is many = is ∙ ap (λ k. take k (xs ++ rest)) (sym many) ∙ take-append_seam xs rest

-- Bytes are moved where there are some.

pub some_moved : (len : ℕ) (es : List Event) → 0 < len → es ≡ where_some len es
some_moved len es some = ap (λ t. cond t [] es) (let t : false ≡ (len == 0) = grind (arith, nat_tests) in t)

pub none_moved : (len : ℕ) (es : List Event) → len ≤ 0 → [] ≡ where_some len es
none_moved len es none = ap (λ t. cond t [] es) (let t : true ≡ (len == 0) = grind (arith, nat_tests) in t)
