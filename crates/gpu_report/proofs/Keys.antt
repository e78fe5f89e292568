-- A desk's live blocks, as a walk over them lists them.
use Rattle.std.proofs.Common.{◌≡◌, ◌≢◌, inl, inr, ℕ, ◌+◌, ◌-◌, ◌^◌, ◌<◌, List, [], ◌∷◌, ◌++◌, ◌==◌, false, cond, Option, Some, refl, sym, ap, subst, ◌∙◌, arith}
use Rattle.std.proofs.lemmas.Bool.Decides.{nat_tests}
use Rattle.std.proofs.lemmas.List.Elements.{Contains-append_left, Contains-append_right}
use Rattle.std.specs.List.{Contains}
use Rattle.std.specs.Option.{IsSome}
use Rattle.std.specs.FinMap as map
use Rattle.gpu_alloc.specs.State.{Block}
use Rattle.gpu_alloc_base.proofs.Lists.{contains_cases, contains_none, contains_head, contains_later}
use Rattle.gpu_alloc_base.proofs.ListViews.{contains_name}
use Rattle.gpu_slots.specs.SlotMap.{place_of}
use Rattle.gpu_desk.specs.Desk.{DeskState, IsSoundDesk, tag_of}
use Rattle.gpu_desk.specs.Calls.{Told}
use Rattle.gpu_desk.specs.declared.answers.Grant.{Grant}
use Rattle.gpu_desk.specs.Walk.{behind, IsNext, IsLast}
use Rattle.gpu_report.specs.DeskReport.{IsKeyed, AreKeyed}
use Rattle.gpu_report.specs.Live.{live_block_span, LacksSpan}
use Rattle.gpu_report.specs.declared.live.LiveBlock.{LiveBlock}

-- a block as it is listed
abbrev pub listed : DeskState → ℕ → Block → LiveBlock
listed s key x = record { name = key; object = x.object; offset = x.offset; size = x.size; asked = (tag_of s key).asked }

-- each that is listed is a live one
abbrev pub AreLive : DeskState → List LiveBlock → Type 0
AreLive s blocks = (b : LiveBlock) → Contains blocks b → IsKeyed s b

-- each live one before a place is listed
abbrev pub Lists : DeskState → ℕ → List LiveBlock → Type 0
Lists s place blocks =
    (key : ℕ) (x : Block) → map.get s.blocks.live key ≡ Some x → place_of key < place → Contains blocks (listed s key x)

in_append : (xs ys : List LiveBlock) (b : LiveBlock) (P : LiveBlock → Type 0) → ((c : LiveBlock) → Contains xs c → P c)
    → ((c : LiveBlock) → Contains ys c → P c) → Contains (xs ++ ys) b → P b
in_append [] ys b P left right has = right b has
in_append (x ∷ xs) ys b P left right has = elim (contains_cases x b (xs ++ ys) has) [
  | inl is ↦ subst P (sym is) (left x (contains_head x xs))
  | inr later ↦ in_append xs ys b P (λ c there. left c (contains_later x c xs there)) right later
]

some : {T : Type 0} (o : Option T) (x : T) → o ≡ Some x → IsSome o
some o x is = subst IsSome (sym is) refl

module _ (s : DeskState) (blocks : List LiveBlock) (after key : ℕ) (x : Block) (at : map.get s.blocks.live key ≡ Some x) where
  pub live_more : AreLive s blocks → AreLive s (blocks ++ listed s key x ∷ [])
  live_more live b = in_append blocks (listed s key x ∷ []) b (IsKeyed s) live (λ c has. elim (contains_cases (listed s key x) c [] has) [
    | inl is ↦ subst (IsKeyed s) (sym is) (record { lies = (x, at, refl); asked = refl })
    | inr none ↦ absurd (contains_none c none)
  ])

  pub lists_more : IsNext s after key → Lists s (behind after) blocks → Lists s (place_of key + 1) (blocks ++ listed s key x ∷ [])
  lists_more next lists other y there before = elim (next.others other (some _ y there)) [
    | inl same ↦
        let value : y ≡ x = let one = subst (λ k. map.get s.blocks.live k ≡ Some y) same there in cc in
        Contains-append_right blocks (listed s key x ∷ []) (listed s other y)
        (subst (λ b. Contains (listed s key x ∷ []) b) (sym ((λ i. listed s (same i) (value i)))) (contains_head (listed s key x) []))
    | inr (inl less) ↦ Contains-append_left blocks (listed s key x ∷ []) (listed s other y) (lists other y there less)
    | inr (inr more) ↦ absurd (omega (arith, more, before))
  ]

is_other : (key : ℕ) → key ≢ 0 → (key == 0) ≡ false
is_other key some_key = grind (arith, nat_tests)

behind_key : (key : ℕ) → key ≢ 0 → behind key ≡ place_of key + 1
behind_key key some_key = ap (λ b. cond b 0 (place_of key + 1)) (is_other key some_key)

-- the block of a grant, as it is listed
abbrev pub granted : Grant → LiveBlock
granted g = record { name = g.key; object = g.object; offset = g.offset; size = g.size; asked = g.asked }

-- What is listed with one more of the walk.
pub record Walked (s : DeskState) (place : ℕ) (blocks : List LiveBlock) : Type 0 where
  pub live : AreLive s blocks
  pub lists : Lists s place blocks

module _ (s : DeskState) (blocks new : List LiveBlock) (after : ℕ) (g : Grant) (told : Told s g.key g) (next : IsNext s after g.key)
    (live : AreLive s blocks) (lists : Lists s (behind after) blocks) (is : new ≡ blocks ++ granted g ∷ []) where
  abbrev x : Block
  x = told.2.0

  at : map.get s.blocks.live g.key ≡ Some x
  at = told.2.1

  same : granted g ≡ listed s g.key x
  same i = let tells = told.2.2 in record { name = g.key; object = tells.object i; offset = tells.offset i; size = tells.size i; asked = told.3.asked i }

  all : blocks ++ listed s g.key x ∷ [] ≡ new
  all = sym (is ∙ ap (λ b. blocks ++ b ∷ []) same)

  pub walked : Walked s (behind g.key) new
  walked = record {
    live = subst (AreLive s) all (live_more s blocks after g.key x at live);
    lists = subst (λ n. Lists s n new) (sym (behind_key g.key next.never_zero)) (subst (Lists s (place_of g.key + 1)) all (lists_more s blocks after g.key x at next lists));
  }

pub comes_nearer : (s : DeskState) (after key : ℕ) → IsNext s after key → 2 ^ 32 - behind key < 2 ^ 32 - behind after
comes_nearer s after key next = let behind_is = behind_key key next.never_zero in let from = next.from in omega (arith, behind_is, from)

-- where none is left, all are listed
pub all_keyed : (s : DeskState) (blocks : List LiveBlock) (after : ℕ) → AreLive s blocks → IsLast s after → Lists s (behind after) blocks → AreKeyed s blocks
all_keyed s blocks after live last lists b = (
  live b,
  λ keyed.
      let x = keyed.lies.0 in
      let has = lists b.name x keyed.lies.1 (last b.name (some _ x keyed.lies.1)) in
      let span = keyed.lies.2 in
      let asked : (tag_of s b.name).asked ≡ b.asked = sym keyed.asked in
      subst (Contains blocks) (λ i. record { name = b.name; object = (span i).object; offset = (span i).offset; size = (span i).size; asked = asked i }) has,
)

-- and each live span is one's
pub none_lacks : (s : DeskState) (blocks : List LiveBlock) → AreKeyed s blocks → IsSoundDesk s → LacksSpan s.allocator blocks → ⊥
none_lacks s blocks keyed sound lacks =
    let found = sound.memory.named lacks.span lacks.live in
    let b : LiveBlock = record { name = found.0; object = lacks.span.object; offset = lacks.span.offset; size = lacks.span.size; asked = (tag_of s found.0).asked } in
    lacks.lacks (contains_name live_block_span blocks b ((keyed b).1 (record { lies = found.1; asked = refl })))
