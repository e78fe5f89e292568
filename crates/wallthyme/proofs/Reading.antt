-- What is lost where names are read: just these names.
use Rattle.std.proofs.Common.{◌≡◌, ◌<◌, ◌+◌, ℕ, List, [], ◌∷◌, ◌++◌, length, reverse, slice_set, take, inl, inr, sym, ◌∙◌, ap, subst}
use Rattle.std.proofs.lemmas.List.{append_assoc, reverse-append, take_more_set}
use Rattle.std.proofs.lemmas.List.Elements.{Contains-append_cases, Contains-append_left, Contains-append_right}
use Rattle.std.specs.List.{Contains}
use Rattle.gpu_desk.specs.Calls.{OnlyReads}
use Rattle.gpu_desk.specs.Desk.{DeskState, objects}
use Rattle.gpu_desk.specs.Names.{LosesBut}
use Rattle.gpu_desk.proofs.Losing.{same_stays}
use Rattle.wallthyme.specs.Objects.{Reads}

from_reverse : (xs : List ℕ) (q : ℕ) → Contains (reverse xs) q → Contains xs q
from_reverse [] q has = has
from_reverse (x ∷ xs) q has = elim (Contains-append_cases (reverse xs) (x ∷ []) q (subst (λ ys. Contains ys q) (reverse-append (x ∷ []) xs) has)) [
  | inl rest ↦ Contains-append_right (x ∷ []) xs q (from_reverse xs q rest)
  | inr one ↦ Contains-append_left (x ∷ []) xs q one
]

pub reads_lose : (old : DeskState) (names : List ℕ) (new : DeskState) → Reads old names new → LosesBut names old new
reads_lose old names new reads = record {
  held = λ q some. inl (same_stays (objects old) (objects new) reads.only.objects q some);
  waits = λ q has. elim (Contains-append_cases new.device.held.gone (reverse names) q (subst (λ xs. Contains xs q) reads.read has)) [
    | inl still ↦ inl still
    | inr read ↦ inr (from_reverse names q read)
  ];
}

-- one more name, as it is written after the earlier ones
pub reads_next : (old : DeskState) (xs : List ℕ) (count name : ℕ) (mid new : DeskState) → count < length xs → Reads old (take count xs) mid
    → mid.device.held.gone ≡ new.device.held.gone ++ name ∷ [] → OnlyReads mid new → Reads old (take (count + 1) (slice_set xs count name)) new
reads_next old xs count name mid new below reads one only = subst (λ names. Reads old names new) (sym (take_more_set xs count name below)) (record {
  read = reads.read ∙ ap (λ ys. ys ++ reverse (take count xs)) one ∙ append_assoc new.device.held.gone (name ∷ []) (reverse (take count xs))
      ∙ ap (λ ys. new.device.held.gone ++ ys) (sym (reverse-append (take count xs) (name ∷ [])));
  only = record {
    allocator = only.allocator ∙ reads.only.allocator;
    blocks = only.blocks ∙ reads.only.blocks;
    objects = only.objects ∙ reads.only.objects;
    tags = only.tags ∙ reads.only.tags;
    page = only.page ∙ reads.only.page;
  };
})
