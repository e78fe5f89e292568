-- Blocks in hand under keys of the caller's own.
use Rattle.std.proofs.Common.{◌≡◌, ◌≢◌, ℕ, true, false, List, [], Option, Some, None, cond, nat_eq, slice_get, sym, ◌∙◌, ap, arith}
use Rattle.std.proofs.lemmas.Bool.Decides.{nat_tests}
use Rattle.std.proofs.lemmas.Map.Entries.{lookup_from_place}
use Rattle.std.specs.Cmp.{nat_eq_equiv}
use Rattle.std.specs.List.{IsDistinct}
use Rattle.std.specs.Map.{keys_of}
use Rattle.gpu_alloc_base.proofs.Names.{lookup_last}
use Rattle.gpu_alloc_types.specs.Device.{Object}
use Rattle.gpu_alloc_types.specs.Properties.{Properties}
use Rattle.gpu_alloc_block.specs.Keyed.{under, IsSetUnder, ComeAndGoUnderKeys}
use Rattle.gpu_alloc_block.specs.Kept.{AreKept, ChangesKey}
use Rattle.gpu_alloc_block.specs.State.{State, Block}

same_key : (key : ℕ) → nat_eq key key ≡ true
same_key key = grind (arith, nat_tests)

other_key : (key other : ℕ) → other ≢ key → nat_eq key other ≡ false
other_key key other ne = grind (arith, nat_tests)

changes_at : (entries new : List (ℕ × Block)) (key : ℕ) (slot : Option Block) → IsSetUnder entries key slot new → ChangesKey (under entries) (under new) key slot
changes_at entries new key slot set = record {
  changed = set key ∙ ap (λ t. cond t slot (under entries key)) (same_key key);
  others = λ other ne. set other ∙ ap (λ t. cond t slot (under entries other)) (other_key key other ne);
}

same_kept : (s : State) (p : Properties) (objects : ℕ → Option Object) (at new : ℕ → Option Block) → AreKept s p objects at → ((key : ℕ) → new key ≡ at key) → AreKept s p objects new
same_kept s p objects at new kept same = record {
  owned = λ key b is. kept.owned key b (sym (same key) ∙ is);
  ready = λ key b is. kept.ready key b (sym (same key) ∙ is);
  two = λ j key b c first second ne. kept.two j key b c (sym (same j) ∙ first) (sym (same key) ∙ second) ne;
}

none_kept : (s : State) (p : Properties) (objects : ℕ → Option Object) → AreKept s p objects (under [])
none_kept s p objects = record { owned = λ key b is. absurd (cc); ready = λ key b is. absurd (cc); two = λ j key b c first second ne. absurd (cc) }

found_at : (entries : List (ℕ × Block)) (i key : ℕ) (b : Block) → IsDistinct nat_eq (keys_of entries) → slice_get entries i ≡ Some (key, b) → under entries key ≡ Some b
found_at entries i key b distinct at = lookup_from_place nat_eq_equiv entries i key b distinct at

pub under_keys : ComeAndGoUnderKeys
under_keys = record {
  comes = λ s after p q old new entries more key b kept adds none set. adds.kept (under entries) (under more) key kept none (changes_at entries more key (Some b) set);
  goes = λ s after p q old new entries fewer key b kept removes there set. removes.kept (under entries) (under fewer) key kept there (changes_at entries fewer key None set);
  changes = λ s p q old new entries changed key b now kept keeps there set. keeps.kept s (under entries) (under changed) key kept there (changes_at entries changed key (Some now) set);
  same = same_kept;
  none = none_kept;
  at_place = found_at;
  at_end = λ entries fewer key b is none. ap (λ xs. under xs key) is ∙ lookup_last fewer key b none;
}
