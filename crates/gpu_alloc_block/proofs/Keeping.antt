-- What a call of a block keeps of the agreements of allocators and of blocks.
use Rattle.std.proofs.Common.{◌≡◌, ◌≢◌, inl, inr, ℕ, Bool, true, false, Option, Some, None, IfSome, IsSome, List, [], ◌∷◌, ◌++◌, refl, sym, ◌∙◌, ap, subst}
use Rattle.std.specs.FinMap as map
use Rattle.gpu_alloc_base.proofs.Names.{one_or_two}
use Rattle.gpu_alloc_types.specs.Flags.{has_bit}
use Rattle.gpu_alloc_types.specs.Properties.{Properties}
use Rattle.gpu_alloc_types.specs.Device.{Object, Changes, HeldWith}
use Rattle.gpu_alloc_types.specs.Objects.{put-same, put-other}
use Rattle.gpu_alloc_block.proofs.Changes.{some_same, changed_there}
use Rattle.gpu_alloc_block.specs.Agreement.{IsMappedWhole, IsInside, IsCountedFor, IsHeldThere, Agrees, IsOfBlock, IsBeneath, IsHeldFor, BlockAgrees, KeepsAgreement}
use Rattle.gpu_alloc_block.specs.Bytes.{HasOnlyOtherBytes}
use Rattle.gpu_alloc_block.specs.InHand.{AreTwo, IsBeside, AreOwned, IsSameBlock}
use Rattle.gpu_alloc_block.specs.Ranges.{own_mapping}
use Rattle.gpu_alloc_block.specs.State.{HeldObject, State, Span, Block, IsOwned, is_shared}
use Rattle.gpu_alloc_block.specs.declared.block.Kind.{Kind}
use Rattle.gpu_alloc_block.specs.declared.block.Kind.TheVariants.{Dedicated, Imported, BuddyChunk, FreeListChunk, FitChunk}
use Rattle.gpu_alloc_block.specs.declared.block.Mapping.{Mapping}

-- the object beneath a block has its type and its size, and where it is shared what was mapped of it
pub record HasSameShape (b : Block) (o new : Object) : Type 0 where
  pub same_type : new.memory_type ≡ o.memory_type
  pub same_size : new.size ≡ o.size
  pub same_mapping : is_shared b.kind ≡ true → new.mapped ≡ o.mapped

-- of an option, what is known of its value
pub if_some_told : {X : Type 0} (x : Option X) (P Q : X → Type 0) → ((value : X) → x ≡ Some value → P value → Q value) → IfSome x P → IfSome x Q
if_some_told None P Q told known = tt
if_some_told (Some value) P Q told known = told value refl known

none_some : {X : Type 0} (x : Option X) (value : X) → x ≡ None → x ≡ Some value → ⊥
none_some x value none is = cc

-- An object that is the same but for its bytes, and for what is mapped of it where it is not shared.

mapped_whole : (p : Properties) (o new : Object) → new.memory_type ≡ o.memory_type → new.size ≡ o.size → new.mapped ≡ o.mapped → IsMappedWhole p o → IsMappedWhole p new
mapped_whole p o new of_type of_size mapping whole visible = mapping ∙ whole (rw of_type at visible) ∙ ap (λ size. Some (0, size)) (sym of_size)

inside_same : (p : Properties) (span : Span) (o new : Object) → new.memory_type ≡ o.memory_type → new.size ≡ o.size → IsInside p span o → IsInside p span new
inside_same p span o new of_type of_size is = record { within = rw of_size is.within; finish = λ non_coherent. rw of_size (is.finish (rw of_type at non_coherent)) }

module _ (s : State) (name counted : ℕ) (o new : Object) (of_type : new.memory_type ≡ o.memory_type) (of_size : new.size ≡ o.size) where
  pub counted_same : (kind : Kind) → (is_shared kind ≡ true → new.mapped ≡ o.mapped) → IsCountedFor kind s name counted o → IsCountedFor kind s name counted new
  counted_same Dedicated mapping is = of_size ∙ is
  counted_same Imported mapping is = λ span live of_object. inside_same s.properties span o new of_type of_size (is span live of_object)
  counted_same BuddyChunk mapping is = (of_size ∙ is.0, mapped_whole s.properties o new of_type of_size (mapping refl) is.1)
  counted_same (FreeListChunk number) mapping is = (of_size ∙ is.0, mapped_whole s.properties o new of_type of_size (mapping refl) is.1)
  counted_same FitChunk mapping is = (of_size ∙ is.0, mapped_whole s.properties o new of_type of_size (mapping refl) is.1)

pub beneath_same : (p : Properties) (c : Block) (o new : Object) → new.memory_type ≡ o.memory_type → new.size ≡ o.size → new.mapped ≡ o.mapped → IsBeneath p c o → IsBeneath p c new
beneath_same p c o new of_type of_size mapping is = record {
  of_type = of_type ∙ is.of_type;
  inside = rw of_size is.inside;
  whole = λ dedicated. rw of_size (is.whole dedicated);
  shared = λ shared. mapped_whole p o new of_type of_size mapping (is.shared shared);
  own = λ own. mapping ∙ is.own own;
  atoms = is.atoms;
  finish = rw of_size is.finish;
}

-- A block's object is changed so, and no other.
module _ (b : Block) (p : Properties) (f g : ℕ → Option Object) (c : Changes (HasSameShape b) f b.object g) where
  elsewhere : (name : ℕ) → name ≢ b.object → g name ≡ f name
  elsewhere name other = ap (λ objects. objects name) c.2.2 ∙ put-other f b.object (Some c.2.0) name other

  there : g b.object ≡ Some c.2.0
  there = ap (λ objects. objects b.object) c.2.2 ∙ put-same f b.object (Some c.2.0)

  -- what is known of an object under a name is known of the one that is there now
  held_still : (name : ℕ) (P : Object → Type 0) → ((o new : Object) → name ≡ b.object → HasSameShape b o new → P o → P new) → HeldWith f name P → HeldWith g name P
  held_still name P kept held = elim (one_or_two name b.object) [
    | inr other ↦ (held.0, elsewhere name other ∙ held.1, held.2)
    | inl same ↦
        let before : held.0 ≡ c.0 = some_same held.0 c.0 (sym held.1 ∙ ap f same ∙ c.1) in
        (c.2.0, ap g same ∙ there, kept c.0 c.2.0 same c.2.1 (subst P before held.2))
  ]

  agrees_still : (s : State) → ((h : HeldObject) (o new : Object) → map.get s.held b.object ≡ Some h → HasSameShape b o new → IsHeldThere s b.object h o → IsHeldThere s b.object h new) → Agrees s p f → Agrees s p g
  agrees_still s kept agrees = record {
    properties = agrees.properties;
    holds = λ name.
        if_some_told (map.get s.held name) (λ h. HeldWith f name (IsHeldThere s name h)) (λ h. HeldWith g name (IsHeldThere s name h))
        (λ h is held. held_still name (IsHeldThere s name h) (λ o new same shape known.
        subst (λ n. IsHeldThere s n h new) (sym same) (kept h o new (ap (map.get s.held) (sym same) ∙ is) shape (subst (λ n. IsHeldThere s n h o) same known))) held)
        (agrees.holds name);
  }

  there_still : (s : State) (h : HeldObject) (o new : Object) → (is_shared h.kind ≡ true → new.mapped ≡ o.mapped) → HasSameShape b o new → IsHeldThere s b.object h o → IsHeldThere s b.object h new
  there_still s h o new mapping shape is = record {
    of_type = shape.same_type ∙ is.of_type;
    of_size = counted_same s b.object h.counted o new shape.same_type shape.same_size h.kind mapping is.of_size;
  }

  block_still : (d : Block) → ((o new : Object) → d.object ≡ b.object → HasSameShape b o new → IsBeneath p d o → IsBeneath p d new) → IsHeldFor d p f → IsHeldFor d p g
  block_still d kept agrees = record {
    props = agrees.props;
    atom = agrees.atom;
    mapping = agrees.mapping;
    visible = agrees.visible;
    there = held_still d.object (IsBeneath p d) kept agrees.there;
  }

  shared_still : (d : Block) → is_shared b.kind ≡ true → IsHeldFor d p f → IsHeldFor d p g
  shared_still d shared = block_still d (λ o new same shape is. beneath_same p d o new shape.same_type shape.same_size (shape.same_mapping shared) is)

  another_still : (d : Block) → d.object ≢ b.object → IsHeldFor d p f → IsHeldFor d p g
  another_still d other = block_still d (λ o new same shape is. absurd (other same))

  two_still : (d : Block) (shared : Bool) → is_shared b.kind ≡ shared → (is_shared b.kind ≡ false → b.object ≢ d.object) → IsHeldFor d p f → IsHeldFor d p g
  two_still d true is own = shared_still d is
  two_still d false is own = another_still d (λ same. own is (sym same))

  owner_still : (s : State) → IsOwned s b → Agrees s p f → Agrees s p g
  owner_still s owned = agrees_still s (λ h o new is shape known.
      let kind : h.kind ≡ b.kind = ap (λ x. x.kind) (some_same h owned.held.0 (sym is ∙ owned.held.1)) ∙ owned.held.3 in
      there_still s h o new (λ shared. shape.same_mapping (rw kind at shared)) shape known)

  -- what such a change keeps
  pub keeps : (q : Properties) → q ≡ p → KeepsAgreement b p f q g
  unfolding BlockAgrees
  keeps q same = rw same (record {
    owner = owner_still;
    stranger = λ s none. agrees_still s (λ h o new is shape known. absurd (none_some (map.get s.held b.object) h none is));
    others = another_still;
    two = λ d two. two_still d (is_shared b.kind) refl two.objects.first;
    two_back = λ d two. two_still d (is_shared b.kind) refl (λ own same. two.objects.second own (sym same));
    shared_owner = λ s shared. agrees_still s (λ h o new is shape known. there_still s h o new (λ _. shape.same_mapping shared) shape known);
    shared_others = λ d shared. shared_still d shared;
  })

-- An object with other bytes alone.

pub same_shape : (b : Block) (o new : Object) → HasOnlyOtherBytes o new → HasSameShape b o new
same_shape b o new only = record { same_type = only.same_type; same_size = only.same_size; same_mapping = λ _. only.same_mapping }

-- other bytes of its object keep a block's own agreement
pub agrees_moved : (b : Block) (p q : Properties) (f g : ℕ → Option Object) → q ≡ p → Changes HasOnlyOtherBytes f b.object g → IsHeldFor b p f → IsHeldFor b q g
agrees_moved b p q f g same c agrees =
    rw same (record {
      props = agrees.props;
      atom = agrees.atom;
      mapping = agrees.mapping;
      visible = agrees.visible;
      there =
          let before : agrees.there.0 ≡ c.0 = some_same agrees.there.0 c.0 (sym agrees.there.1 ∙ c.1) in
          (c.2.0, changed_there f b.object HasOnlyOtherBytes g c, beneath_same p b c.0 c.2.0 c.2.1.same_type c.2.1.same_size c.2.1.same_mapping (subst (IsBeneath p b) before agrees.there.2));
    })

-- Another mapping of the block, or none.

pub record IsRemapped (b : Block) (m : Option Mapping) (o new : Object) : Type 0 where
  pub shape : HasSameShape b o new
  pub own : is_shared b.kind ≡ false → new.mapped ≡ own_mapping (record b { mapping = m })

beneath_remapped : (p : Properties) (b : Block) (m : Option Mapping) (o new : Object) → IsRemapped b m o new → IsBeneath p b o → IsBeneath p (record b { mapping = m }) new
beneath_remapped p b m o new re is = record {
  of_type = re.shape.same_type ∙ is.of_type;
  inside = rw (re.shape.same_size) is.inside;
  whole = λ dedicated. rw (re.shape.same_size) (is.whole dedicated);
  shared = λ shared. mapped_whole p o new re.shape.same_type re.shape.same_size (re.shape.same_mapping shared) (is.shared shared);
  own = re.own;
  atoms = is.atoms;
  finish = rw (re.shape.same_size) is.finish;
}

pub agrees_remapped : (b : Block) (m : Option Mapping) (p q : Properties) (f g : ℕ → Option Object) → q ≡ p → IfSome m (IsOfBlock b) → (IsSome m → has_bit b.props 2 ≡ true) → Changes (IsRemapped b m) f b.object g → IsHeldFor b p f → IsHeldFor (record b { mapping = m }) q g
agrees_remapped b m p q f g same inside visible c agrees =
    let before : agrees.there.0 ≡ c.0 = some_same agrees.there.0 c.0 (sym agrees.there.1 ∙ c.1) in
    rw same (record {
      props = agrees.props;
      atom = agrees.atom;
      mapping = inside_same_block m inside;
      visible = visible;
      there = (c.2.0, changed_there f b.object (IsRemapped b m) g c, beneath_remapped p b m c.0 c.2.0 c.2.1 (subst (IsBeneath p b) before agrees.there.2));
    })
  where
    inside_same_block : (mapping : Option Mapping) → IfSome mapping (IsOfBlock b) → IfSome mapping (IsOfBlock (record b { mapping = m }))
    inside_same_block None known = tt
    inside_same_block (Some x) known = record { nonempty = known.nonempty; from = known.from; to = known.to }

-- The block itself.

beside_remapped : (b new d : Block) → ((c : Block) → AreTwo c b → AreTwo c new) → (cs ds : List Block) → IsBeside d (cs ++ b ∷ ds) → IsBeside d (cs ++ new ∷ ds)
beside_remapped b new d two [] ds beside = (two d beside.0, beside.1)
beside_remapped b new d two (c ∷ cs) ds beside = (beside.0, beside_remapped b new d two cs ds beside.1)

beside_another : (b new : Block) → ((c : Block) → AreTwo b c → AreTwo new c) → (ds : List Block) → IsBeside b ds → IsBeside new ds
beside_another b new two [] beside = tt
beside_another b new two (d ∷ ds) beside = (two d beside.0, beside_another b new two ds beside.1)

owned_remapped : (s : State) (b new : Block) → (IsOwned s b → IsOwned s new) → ((c : Block) → AreTwo b c → AreTwo new c) → ((c : Block) → AreTwo c b → AreTwo c new) → (cs ds : List Block) → AreOwned s (cs ++ b ∷ ds) → AreOwned s (cs ++ new ∷ ds)
owned_remapped s b new owned first second [] ds all = (owned all.0, beside_another b new first ds all.1, all.2)
owned_remapped s b new owned first second (c ∷ cs) ds all = (all.0, beside_remapped b new c second cs ds all.1, owned_remapped s b new owned first second cs ds all.2)

-- the block with another mapping, or none, is the same block
pub same_block : (b : Block) (m : Option Mapping) → IsSameBlock b (record b { mapping = m })
same_block b m = record {
  same = refl;
  owned = owned;
  two = two;
  two_back = two_back;
  all = λ s cs ds. owned_remapped s b (record b { mapping = m }) (owned s) two two_back cs ds;
}
  where
    owned : (s : State) → IsOwned s b → IsOwned s (record b { mapping = m })
    owned s is = record { live = is.live; held = is.held }

    two : (c : Block) → AreTwo b c → AreTwo (record b { mapping = m }) c
    two c is = record { apart = is.apart; differ = is.differ; objects = record { first = is.objects.first; second = is.objects.second } }

    two_back : (c : Block) → AreTwo c b → AreTwo c (record b { mapping = m })
    two_back c is = record { apart = is.apart; differ = is.differ; objects = record { first = is.objects.first; second = is.objects.second } }
