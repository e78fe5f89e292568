-- Free tiles in the lists of their classes: what a change of links does, and how one filing is another.
use Rattle.std.proofs.Common.{◌≡◌, ◌≢◌, ◌==◌, inl, inr, ℕ, ◌-◌, true, false, cond, List, [], Option, Some, None, IsSome, refl, sym, ◌∙◌, ap, subst}
use Rattle.std.specs.Prelude.{slice_index_or}
use Rattle.std.proofs.lemmas.Bool.{cases_eq}
use Rattle.slab.specs.Slab.{Slab, ContainsKey, Updates, get}
use Rattle.gpu_alloc_runs.specs.Classes.{AreFiled, AreMarked, IsIn, SetsFirst, class_of_bytes, filed_but, first_in}
use Rattle.gpu_alloc_runs.specs.Filed.{AreFreeFiled, AreFreeFiledBut, IsIndexed, KeepsLasts, KeepsLists, Refiles, SetsDown, SetsUp, class_at, down_in, down_of, filed_in, up_in, up_of}
use Rattle.gpu_alloc_runs.specs.Links.{KeepsNodes}
use Rattle.gpu_alloc_runs.specs.Tiles.{tile_in}
use Rattle.gpu_alloc_runs.specs.declared.classes.Classes.{Classes}
use Rattle.gpu_alloc_runs.specs.declared.tile.Node.{Node}
use Rattle.gpu_alloc_runs.specs.declared.tile.TheConstants.{NONE}
use Rattle.gpu_alloc_runs.specs.declared.tile.Tile.{Tile}
use Rattle.gpu_alloc_runs.proofs.Filing.{below_none, but_other, but_same, filed_end, filed_front, filed_later, filed_second, first_is, not_in, over_down, over_in, same_list}
use Rattle.gpu_alloc_runs.proofs.Nodes.{has_tile, tile_of, tile_of_node}

-- a key that is there has a node
pub node_there : (nodes : Slab Node) (k : ℕ) → ContainsKey nodes k → (n : Node) × (get nodes k ≡ Some n)
node_there nodes k there = cases (get nodes k) refl
  where
    cases : (o : Option Node) → get nodes k ≡ o → (n : Node) × (get nodes k ≡ Some n)
    cases None e = absurd (let some : IsSome (get nodes k) = there in cc)
    cases (Some n) e = (n, e)

-- and stays there
pub stays_there : (old new : Slab Node) → ((k : ℕ) → tile_in new k ≡ tile_in old k) → (k : ℕ) → ContainsKey old k → ContainsKey new k
stays_there old new same k there = let n = node_there old k there in has_tile new k n.0.tile (same k ∙ tile_of_node old k n.0 n.1)

-- it is not the key that no tile has
pub keyed_there : (nodes : Slab Node) (k : ℕ) → (ContainsKey nodes NONE → ⊥) → ContainsKey nodes k → k ≢ NONE
keyed_there nodes k vacant there same = vacant (subst (ContainsKey nodes) same there)

-- it has none still
pub still_vacant : (old new : Slab Node) → ((k : ℕ) → tile_in new k ≡ tile_in old k) → (ContainsKey old NONE → ⊥) → ContainsKey new NONE → ⊥
still_vacant old new same vacant there = vacant (stays_there new old (λ k. sym (same k)) NONE there)

-- a filing by equal classes
pub same_filing : (filed filed' : ℕ → Option ℕ) (nodes : Slab Node) (classes : Classes) → ((k : ℕ) → filed' k ≡ filed k) → IsIndexed filed nodes classes → IsIndexed filed' nodes classes
same_filing filed filed' nodes classes same = subst (λ (f : ℕ → Option ℕ). IsIndexed f nodes classes) (λ i k. sym (same k) i)

-- the last class of a key counts
pub but_twice : (filed : ℕ → Option ℕ) (x : ℕ) (one two : Option ℕ) (k : ℕ) → filed_but (filed_but filed x one) x two k ≡ filed_but filed x two k
but_twice filed x one two k = elim (cases_eq k x) [
  | inl same ↦ but_same (filed_but filed x one) x k two same ∙ sym (but_same filed x k two same)
  | inr other ↦ but_other (filed_but filed x one) x k two other ∙ but_other filed x k one other ∙ sym (but_other filed x k two other)
]

-- a key with its own class
pub but_own : (filed : ℕ → Option ℕ) (x : ℕ) (class : Option ℕ) → filed x ≡ class → (k : ℕ) → filed_but filed x class k ≡ filed k
but_own filed x class is k = elim (cases_eq k x) [
  | inl same ↦ but_same filed x k class same ∙ sym is ∙ ap filed (sym same)
  | inr other ↦ but_other filed x k class other
]

-- Tiles change, and their links do not.

-- the lists stay where the tiles that are filed keep their links
lists_stay : (filed : ℕ → Option ℕ) (n0 n1 : Slab Node) (classes : Classes) → IsIndexed filed n0 classes → (ContainsKey n1 NONE → ⊥) → ((k c : ℕ) → filed k ≡ Some c → ContainsKey n1 k) → ((k c : ℕ) → filed k ≡ Some c → (up_in n1 k ≡ up_in n0 k) × (down_in n1 k ≡ down_in n0 k))
    → IsIndexed filed n1 classes
lists_stay filed n0 n1 classes indexed vacant there same = record {
  vacant = vacant;
  there = there;
  lists = λ c.
      let l = indexed.lists c in
      (l.0, same_list filed filed (first_in classes c) (first_in classes c) (up_in n0) (down_in n0) (up_in n1) (down_in n1) c l.0 l.1 refl (λ k is. same k c ((l.1.exact k).0 is)) (λ k. (λ on. on, λ on. on)));
  marked = indexed.marked;
}

pub kept_lists : (filed : ℕ → Option ℕ) (n0 n1 : Slab Node) (classes : Classes) → KeepsLists n0 n1 → IsIndexed filed n0 classes → IsIndexed filed n1 classes
kept_lists filed n0 n1 classes keeps indexed =
    lists_stay filed n0 n1 classes indexed (λ there. indexed.vacant (keeps.was NONE there)) (λ k c on. keeps.there k (indexed.there k c on)) (λ k c on. (keeps.up k, keeps.down k))

-- another node is written under a key that is not filed
module _ (filed : ℕ → Option ℕ) (n0 n1 : Slab Node) (classes : Classes) (x : ℕ) (o : Option Node) (u : Updates n0 n1 x o) (off : filed x ≡ None) (indexed : IsIndexed filed n0 classes) where
  else_key : (k c : ℕ) → filed k ≡ Some c → k ≢ x
  else_key k c on same = let e : None ≡ Some c = sym off ∙ ap filed (sym same) ∙ on in cc

  unfiled_written : (ContainsKey n1 NONE → ⊥) → IsIndexed filed n1 classes
  unfiled_written vacant =
      lists_stay filed n0 n1 classes indexed vacant (λ k c on. subst IsSome (sym (u.others k (else_key k c on))) (indexed.there k c on))
      (λ k c on. let same = u.others k (else_key k c on) in (ap up_of same, ap down_of same))

  pub unfiled_comes : x ≢ NONE → IsIndexed filed n1 classes
  unfiled_comes keyed = unfiled_written (λ there. indexed.vacant (subst IsSome (u.others NONE (λ e. keyed (sym e))) there))

  pub unfiled_goes : o ≡ None → IsIndexed filed n1 classes
  unfiled_goes none = unfiled_written (λ there. elim (cases_eq NONE x) [
    | inl here ↦ let some : IsSome (get n1 NONE) = there in let e : get n1 NONE ≡ None = ap (get n1) here ∙ u.changed ∙ none in absurd (cc)
    | inr ne ↦ indexed.vacant (subst IsSome (u.others NONE ne) there)
  ])

-- only the class of one key differs
pub filed_differs : (filed filed' : ℕ → Option ℕ) (x : ℕ) (class : Option ℕ) → filed' x ≡ class → ((k : ℕ) → k ≢ x → filed' k ≡ filed k) → (k : ℕ) → filed' k ≡ filed_but filed x class k
filed_differs filed filed' x class here others k = elim (cases_eq k x) [
  | inl same ↦ ap filed' same ∙ here ∙ sym (but_same filed x k class same)
  | inr other ↦ others k other ∙ sym (but_other filed x k class other)
]

-- a free tile has its class, and a live one none
pub free_class : (T : ℕ → Option Tile) (k : ℕ) (a : Tile) → T k ≡ Some a → a.free ≡ true → class_at (T k) ≡ Some (class_of_bytes (a.end - a.start))
free_class T k a at free = ap class_at at ∙ ap (λ b. cond b (Some (class_of_bytes (a.end - a.start))) None) free

pub live_class : (T : ℕ → Option Tile) (k : ℕ) (a : Tile) → T k ≡ Some a → a.free ≡ false → class_at (T k) ≡ None
live_class T k a at live = ap class_at at ∙ ap (λ b. cond b (Some (class_of_bytes (a.end - a.start))) None) live

-- One change after another.

pub refiles_none : (nodes : Slab Node) (classes : Classes) (key : ℕ) (was class : Option ℕ) → was ≡ class → Refiles nodes classes nodes classes key was class
refiles_none nodes classes key was class same filed indexed on = same_filing filed (filed_but filed key class) nodes classes (but_own filed key class (on ∙ same)) indexed

pub refiles_then : (n0 n1 n2 : Slab Node) (c0 c1 c2 : Classes) (key : ℕ) (was mid class : Option ℕ) → Refiles n0 c0 n1 c1 key was mid → Refiles n1 c1 n2 c2 key mid class → Refiles n0 c0 n2 c2 key was class
refiles_then n0 n1 n2 c0 c1 c2 key was mid class first last filed indexed on =
    same_filing (filed_but (filed_but filed key mid) key class) (filed_but filed key class) n2 c2 (λ k. sym (but_twice filed key mid class k))
    (last (filed_but filed key mid) (first filed indexed on) (but_same filed key key mid refl))

pub lasts_then : (n0 n1 n2 : Slab Node) (c0 c1 : Classes) (key : ℕ) (was mid : Option ℕ) → Refiles n0 c0 n1 c1 key was mid → KeepsLasts n0 c0 n1 key was → KeepsLasts n1 c1 n2 key mid → KeepsLasts n0 c0 n2 key was
lasts_then n0 n1 n2 c0 c1 key was mid refiles first last filed indexed on k ne none =
    last (filed_but filed key mid) (refiles filed indexed on) (but_same filed key key mid refl) k ne (first filed indexed on k ne none)

-- A tile comes into the list of a class: `last` is the one above the first one, or itself.

module _ (n0 n1 : Slab Node) (classes new : Classes) (key class first last : ℕ) (is : first ≡ first_in classes class) (there : ContainsKey n0 key) (keeps : KeepsNodes n0 n1)
    (last_there : ContainsKey n0 first → last ≡ up_in n0 first) (last_none : (ContainsKey n0 first → ⊥) → last ≡ key)
    (up_first : ContainsKey n0 first → first ≢ key → up_in n1 first ≡ key) (up_key : up_in n1 key ≡ last) (up_other : (k : ℕ) → k ≢ key → k ≢ first → up_in n1 k ≡ up_in n0 k) (marked : AreMarked new) where
  module _ (filed : ℕ → Option ℕ) (indexed : IsIndexed filed n0 classes) (off : filed key ≡ None) where
    keyed_more : key ≢ NONE
    keyed_more = keyed_there n0 key indexed.vacant there

    first_there : IsIn (indexed.lists class).0 (first_in classes class) → ContainsKey n0 first
    first_there has = subst (ContainsKey n0) (sym is) (indexed.there (first_in classes class) class (((indexed.lists class).1.exact (first_in classes class)).0 has))

    not_key : IsIn (indexed.lists class).0 (first_in classes class) → first ≢ key
    not_key has e = not_in filed (first_in classes) (up_in n0) (down_in n0) indexed.lists key class off (subst (IsIn (indexed.lists class).0) (sym is ∙ e) has)

    up_written : IsIn (indexed.lists class).0 (first_in classes class) → up_in n1 (first_in classes class) ≡ key
    up_written has = ap (up_in n1) (sym is) ∙ up_first (first_there has) (not_key has)

    more_indexed : AreFiled (filed_but filed key (Some class)) (first_in new) (up_in n1) (down_in n1) → IsIndexed (filed_but filed key (Some class)) n1 new
    more_indexed lists = record {
      vacant = still_vacant n0 n1 keeps.tiles indexed.vacant;
      there = λ k c on. stays_there n0 n1 keeps.tiles k (elim (cases_eq k key) [
        | inl same ↦ subst (ContainsKey n0) (sym same) there
        | inr other ↦ indexed.there k c (sym (but_other filed key k (Some class) other) ∙ on)
      ]);
      lists = lists;
      marked = marked;
    }

  pub refiles_front : down_in n1 key ≡ first → ((ContainsKey n0 NONE → ⊥) → (k : ℕ) → k ≢ key → down_in n1 k ≡ down_in n0 k) → SetsFirst classes new class key → Refiles n0 classes n1 new key None (Some class)
  refiles_front next down_other sets filed indexed off =
      more_indexed filed indexed off
      (filed_front filed (first_in classes) (up_in n0) (down_in n0) indexed.lists (first_in new) (up_in n1) (down_in n1) key class (keyed_more filed indexed off) sets.others off (λ k ne not. up_other k ne (λ e. not (e ∙ is))) (up_written filed indexed off)
      sets.written (next ∙ is) (down_other indexed.vacant) (λ has. up_key ∙ last_there (first_there filed indexed off has) ∙ ap (up_in n0) is)
      (λ none. up_key ∙ last_none (λ some. indexed.vacant (subst (ContainsKey n0) (is ∙ none) some))))

  pub refiles_end : first ≢ NONE → down_in n1 key ≡ NONE → (ContainsKey n0 last → last ≢ key → down_in n1 last ≡ key) → ((k : ℕ) → k ≢ key → k ≢ last → down_in n1 k ≡ down_in n0 k) → new ≡ classes → Refiles n0 classes n1 new key None (Some class)
  refiles_end some end' down_last down_other same filed indexed off =
      let has : IsIn (indexed.lists class).0 (first_in classes class) = (elim (first_is filed (first_in classes) (up_in n0) (down_in n0) indexed.lists class) [
        | inl none ↦ absurd (some (is ∙ none))
        | inr has ↦ has
      ]) in
      let last_is : last ≡ up_in n0 (first_in classes class) = last_there (first_there filed indexed off has) ∙ ap (up_in n0) is in
      more_indexed filed indexed off
      (filed_end filed (first_in classes) (up_in n0) (down_in n0) indexed.lists (first_in new) (up_in n1) (down_in n1) key class (keyed_more filed indexed off) (λ c ne. ap (λ q. first_in q c) same) off (λ k ne not. up_other k ne (λ e. not (e ∙ is))) (up_written filed indexed off)
      (ap (λ q. first_in q class) same) (λ none. some (is ∙ none)) (up_key ∙ last_is) end'
      (λ there_last.
      let in_list = subst (IsIn (indexed.lists class).0) (sym last_is) there_last in
      ap (down_in n1) (sym last_is) ∙ down_last (indexed.there last class (((indexed.lists class).1.exact last).0 in_list)) (λ e. not_in filed (first_in classes) (up_in n0) (down_in n0) indexed.lists key class off (subst (IsIn (indexed.lists class).0) e in_list)))
      (λ k ne other. down_other k ne (λ e. other (e ∙ last_is))))

-- A tile is taken out of its list.

module _ (n0 n1 : Slab Node) (classes : Classes) (key class first below : ℕ) (n : Node) (at : get n0 key ≡ Some n) (is : first ≡ first_in classes class) (below_is : below ≡ cond (n.down == NONE) first n.down) (there : ContainsKey n0 key)
    (keeps_0 : KeepsNodes n0 n1) (up : SetsUp n0 n1 below n.up) (filed : ℕ → Option ℕ) (indexed : IsIndexed filed n0 classes) (on : filed key ≡ Some class) where
  up_is : up_in n0 key ≡ n.up
  up_is = ap up_of at

  down_is : down_in n0 key ≡ n.down
  down_is = ap down_of at

  keyed : key ≢ NONE
  keyed = keyed_there n0 key indexed.vacant there

  -- what is in a list has a node
  in_there : (k : ℕ) → IsIn (indexed.lists class).0 k → ContainsKey n0 k
  in_there k has = indexed.there k class (((indexed.lists class).1.exact k).0 has)

  below_as : below ≡ cond (down_in n0 key == NONE) (first_in classes class) (down_in n0 key)
  below_as = below_is ∙ (λ i. cond (sym down_is i == NONE) (is i) (sym down_is i))

  written : IsIn (indexed.lists class).0 below → up_in n1 below ≡ up_in n0 key
  written has = up.written (in_there below has) ∙ sym up_is

  less_indexed : (n2 : Slab Node) (new : Classes) → ((k : ℕ) → tile_in n2 k ≡ tile_in n0 k) → AreMarked new → AreFiled (filed_but filed key None) (first_in new) (up_in n2) (down_in n2) → IsIndexed (filed_but filed key None) n2 new
  less_indexed n2 new tiles marked lists = record {
    vacant = still_vacant n0 n2 tiles indexed.vacant;
    there = λ k c on_c. stays_there n0 n2 tiles k (elim (cases_eq k key) [
      | inl same ↦ absurd (let e : None ≡ Some c = sym (but_same filed key k None same) ∙ on_c in cc)
      | inr other ↦ indexed.there k c (sym (but_other filed key k None other) ∙ on_c)
    ]);
    lists = lists;
    marked = marked;
  }

  -- It is the first one.
  pub less_first : first ≡ key → (new : Classes) → SetsFirst classes new class n.down → AreMarked new → IsIndexed (filed_but filed key None) n1 new
  less_first same new sets marked =
      less_indexed n1 new keeps_0.tiles marked
      (filed_second filed (first_in classes) (up_in n0) (down_in n0) indexed.lists (first_in new) (up_in n1) (down_in n1) key class keyed sets.others on below below_as written up.others (sym same ∙ is) (sets.written ∙ sym down_is) up.down)

  -- It is not.
  module _ (n2 : Slab Node) (later : first ≢ key) (keeps_1 : KeepsNodes n1 n2) (down : SetsDown n1 n2 n.up n.down) where
    not_first : key ≢ first_in classes class
    not_first e = later (is ∙ sym e)

    down_other : (k : ℕ) → k ≢ up_in n0 key → down_in n2 k ≡ down_in n0 k
    down_other k ne = down.others k (λ e. ne (e ∙ sym up_is)) ∙ up.down k

    over : down_in n2 (up_in n0 key) ≡ down_in n0 key
    over =
        let above = over_in filed (first_in classes) (up_in n0) (down_in n0) indexed.lists (first_in classes) (up_in n2) (down_in n2) key class keyed (λ c ne. refl) on below below_as (λ has. down.up below ∙ written has) (λ k ne. down.up k ∙ up.others k ne) not_first refl in
        ap (down_in n2) up_is ∙ down.written (stays_there n0 n1 keeps_0.tiles n.up (subst (ContainsKey n0) up_is (in_there (up_in n0 key) above))) ∙ sym down_is

    pub less_later : IsIndexed (filed_but filed key None) n2 classes
    less_later =
        less_indexed n2 classes (λ k. keeps_1.tiles k ∙ keeps_0.tiles k) indexed.marked
        (filed_later filed (first_in classes) (up_in n0) (down_in n0) indexed.lists (first_in classes) (up_in n2) (down_in n2) key class keyed (λ c ne. refl) on below below_as (λ has. down.up below ∙ written has) (λ k ne. down.up k ∙ up.others k ne) not_first refl over down_other)

    -- the one that loses the key below it is no last one
    pub less_lasts : (k : ℕ) → down_in n0 k ≡ NONE → down_in n2 k ≡ NONE
    less_lasts k none =
        down_other k (λ e. keyed (sym (over_down filed (first_in classes) (up_in n0) (down_in n0) indexed.lists (first_in classes) (up_in n2) (down_in n2) key class keyed (λ c ne. refl) on below below_as (λ has. down.up below ∙ written has) (λ k ne. down.up k ∙ up.others k ne) not_first refl)
        ∙ ap (down_in n0) (sym e) ∙ none))
        ∙ none

-- A tile that is free gets the list of its class.

pub refiled_free : (n0 n1 : Slab Node) (classes new : Classes) (key class : ℕ) (was : Option ℕ) (a : Tile) → KeepsNodes n0 n1 → tile_in n0 key ≡ Some a → a.free ≡ true → class ≡ class_of_bytes (a.end - a.start) → AreFreeFiledBut n0 classes key was
    → Refiles n0 classes n1 new key was (Some class) → AreFreeFiled n1 new
refiled_free n0 n1 classes new key class was a keeps at free is filed refiles =
    same_filing (filed_but (filed_but (filed_in n0) key was) key (Some class)) (filed_in n1) n1 new
    (λ k. filed_differs (filed_in n0) (filed_in n1) key (Some class) (free_class (tile_in n1) key a (keeps.tiles key ∙ at) free ∙ ap (λ c. Some c) (sym is)) (λ j ne. ap class_at (keeps.tiles j)) k ∙ sym (but_twice (filed_in n0) key was (Some class) k))
    (refiles (filed_but (filed_in n0) key was) filed (but_same (filed_in n0) key key was refl))

-- A free tile is taken out of its list.

pub free_but : (nodes : Slab Node) (classes : Classes) (key class : ℕ) (a : Tile) → tile_in nodes key ≡ Some a → a.free ≡ true → class ≡ class_of_bytes (a.end - a.start) → AreFreeFiled nodes classes → AreFreeFiledBut nodes classes key (Some class)
free_but nodes classes key class a at free is =
    same_filing (filed_in nodes) (filed_but (filed_in nodes) key (Some class)) nodes classes (but_own (filed_in nodes) key (Some class) (free_class (tile_in nodes) key a at free ∙ ap (λ c. Some c) (sym is)))

pub left_free : (n0 n1 : Slab Node) (classes new : Classes) (key : ℕ) (was : Option ℕ) → KeepsNodes n0 n1 → AreFreeFiledBut n0 classes key was → Refiles n0 classes n1 new key was None → AreFreeFiledBut n1 new key None
left_free n0 n1 classes new key was keeps filed refiles =
    same_filing (filed_but (filed_but (filed_in n0) key was) key None) (filed_but (filed_in n1) key None) n1 new
    (λ k. (λ i. cond (k == key) None (class_at (keeps.tiles k i))) ∙ sym (but_twice (filed_in n0) key was None k))
    (refiles (filed_but (filed_in n0) key was) filed (but_same (filed_in n0) key key was refl))

-- the filing of one slab, but for one key, is that of another
pub but_as : (filed : ℕ → Option ℕ) (nodes : Slab Node) (classes : Classes) (x : ℕ) (class : Option ℕ) → filed x ≡ class → ((k : ℕ) → k ≢ x → filed_in nodes k ≡ filed k) → IsIndexed filed nodes classes → AreFreeFiledBut nodes classes x class
but_as filed nodes classes x class here others indexed =
    same_filing filed (filed_but (filed_in nodes) x class) nodes classes (λ k. elim (cases_eq k x) [
      | inl same ↦ but_same (filed_in nodes) x k class same ∙ sym here ∙ ap filed (sym same)
      | inr other ↦ but_other (filed_in nodes) x k class other ∙ others k other
    ]) indexed

-- Room changes, and nothing else.
pub same_slots : (n0 n1 : Slab Node) (classes : Classes) → n1.slots ≡ n0.slots → AreFreeFiled n0 classes → AreFreeFiled n1 classes
same_slots n0 n1 classes same filed =
    let at : (k : ℕ) → get n1 k ≡ get n0 k = (λ k. ap (λ (xs : List (Option Node)). slice_index_or xs k None) same) in
    same_filing (filed_in n0) (filed_in n1) n1 classes (λ k. ap (λ o. class_at (tile_of o)) (at k))
    (kept_lists (filed_in n0) n0 n1 classes (record {
      there = λ k. subst (λ (o : Option Node). IsSome o) (sym (at k));
      was = λ k. subst (λ (o : Option Node). IsSome o) (at k);
      up = λ k. ap up_of (at k);
      down = λ k. ap down_of (at k);
    }) filed)

-- a free tile comes that is in no list yet
pub free_comes : (n0 n1 : Slab Node) (classes : Classes) (x : ℕ) (n : Node) → get n0 x ≡ None → Updates n0 n1 x (Some n) → x ≢ NONE → AreFreeFiled n0 classes → AreFreeFiledBut n1 classes x None
free_comes n0 n1 classes x n vacant comes keyed filed =
    let off : filed_in n0 x ≡ None = ap (λ o. class_at (tile_of o)) vacant in
    but_as (filed_in n0) n1 classes x None off (λ k ne. ap (λ o. class_at (tile_of o)) (comes.others k ne)) (unfiled_comes (filed_in n0) n0 n1 classes x (Some n) comes off filed keyed)

-- and one is removed
pub free_goes : (n0 n1 : Slab Node) (classes : Classes) (x : ℕ) → Updates n0 n1 x None → AreFreeFiledBut n0 classes x None → AreFreeFiled n1 classes
free_goes n0 n1 classes x goes filed =
    same_filing (filed_but (filed_in n0) x None) (filed_in n1) n1 classes
    (filed_differs (filed_in n0) (filed_in n1) x None (ap (λ o. class_at (tile_of o)) goes.changed) (λ k ne. ap (λ o. class_at (tile_of o)) (goes.others k ne)))
    (unfiled_goes (filed_but (filed_in n0) x None) n0 n1 classes x None goes (but_same (filed_in n0) x x None refl) filed refl)

-- No tile, and no list.
pub none_are_filed : (nodes : Slab Node) (classes : Classes) → nodes.slots ≡ [] → AreMarked classes → ((class : ℕ) → first_in classes class ≡ NONE) → AreFreeFiled nodes classes
none_are_filed nodes classes empty marked none =
    let at : (k : ℕ) → get nodes k ≡ None = (λ k. ap (λ (xs : List (Option Node)). slice_index_or xs k None) empty) in
    let off : (k : ℕ) → filed_in nodes k ≡ None = (λ k. ap (λ o. class_at (tile_of o)) (at k)) in
    record {
      vacant = λ there. (let e : false ≡ true = subst (λ (o : Option Node). IsSome o) (at NONE) there in cc);
      there = λ k class on. absurd (let e : None ≡ Some class = sym (off k) ∙ on in cc);
      lists = λ class. (
        [],
        record {
          chain = below_none (first_in classes class) (down_in nodes) ∙ none class;
          once = tt;
          keyed = λ is. is;
          exact = λ k. ((λ is. absurd is), (λ on. absurd (let e : None ≡ Some class = sym (off k) ∙ on in cc)));
          last = λ k is. absurd is;
        },
      );
      marked = marked;
    }
