-- How contracts see these values.
use Rattle.std.specs.Prelude.{◌≡◌, ℕ, Bool, true, false, Option, refl}
use Rattle.std.specs.Prelude.{List}
use Rattle.std.specs.Coded.{Coded, code_by, coded×, coded_ℕ, coded_bool, coded_list, coded_option}
use Rattle.std.specs.FinMap as map
use Rattle.std.specs.FinSet as set
use Rattle.gpu_alloc_base.specs.Accounts.{HeldChunks}
use Rattle.gpu_alloc_base.specs.Codes.{chunk_code, leaf_code}
use Rattle.gpu_alloc_base.specs.Leaves.{leaf_cmp}
use Rattle.gpu_alloc_base.specs.declared.piece.Piece.{Piece}
use Rattle.gpu_alloc_pairs.specs.Space.{BuddySpace}
use Rattle.gpu_alloc_pairs.specs.Store.{BuddyStore}
use Rattle.gpu_alloc_pairs.specs.Entry.{Entry}
use Rattle.gpu_alloc_pairs.specs.declared.pair.Parent.{Parent}
use Rattle.gpu_alloc_pairs.specs.declared.pair.Side.{Side}
use Rattle.gpu_alloc_pairs.specs.declared.pair.Side.TheVariants.{Left, Right}
use Rattle.gpu_alloc_pairs.specs.declared.pair.Use.{Use}
use Rattle.gpu_alloc_pairs.specs.declared.pair.Use.TheVariants.{Free, Taken, Divided}

abbrev pub is_left : Side → Bool
is_left Left = true
is_left Right = false

abbrev pub side_of : Bool → Side
side_of true = Left
side_of false = Right

pub side_back : (side : Side) → side_of (is_left side) ≡ side
side_back Left = refl
side_back Right = refl

abbrev pub side_code : Coded Side
side_code = code_by Bool coded_bool is_left side_of side_back

-- a use by two bits: whether the half is free, and whether it is divided
abbrev pub use_bits : Use → Bool × Bool
use_bits Free = (true, false)
use_bits Taken = (false, false)
use_bits Divided = (false, true)

abbrev pub use_by : Bool → Bool → Use
use_by true divided = Free
use_by false false = Taken
use_by false true = Divided

pub use_back : (now : Use) → use_by (use_bits now).0 (use_bits now).1 ≡ now
use_back Free = refl
use_back Taken = refl
use_back Divided = refl

abbrev pub use_code : Coded Use
use_code = code_by (Bool × Bool) (coded× coded_bool coded_bool) use_bits (λ b. use_by b.0 b.1) use_back

abbrev pub parent_code : Coded Parent
parent_code =
    code_by (ℕ × Side) (coded× coded_ℕ side_code) (λ p. (p.key, p.side)) (λ p. record { key = p.0; side = p.1 })
    (λ _. refl)

abbrev pub entry_code : Coded Entry
entry_code =
    code_by (ℕ × (ℕ × (Option Parent × (Use × Use))))
    (coded× coded_ℕ (coded× coded_ℕ (coded× (coded_option parent_code) (coded× use_code use_code))))
    (λ e. (e.chunk, (e.offset, (e.parent, (e.left, e.right)))))
    (λ p. record { chunk = p.0; offset = p.1.0; parent = p.1.1.0; left = p.1.1.1.0; right = p.1.1.1.1 })
    (λ _. refl)

abbrev pub buddy_space_code : Coded BuddySpace
buddy_space_code =
    code_by (HeldChunks × set.FinSet leaf_cmp) (coded× (map.code coded_ℕ chunk_code) (set.code leaf_code))
    (λ s. (s.chunks, s.live)) (λ c. record { chunks = c.0; live = c.1 }) (λ _. refl)

abbrev pub piece_code : Coded Piece
piece_code =
    code_by (ℕ × (ℕ × ℕ)) (coded× coded_ℕ (coded× coded_ℕ coded_ℕ)) (λ p. (p.chunk, (p.start, p.order)))
    (λ c. record { chunk = c.0; start = c.1.0; order = c.1.1 }) (λ _. refl)

abbrev pub buddy_store_code : Coded BuddyStore
buddy_store_code =
    code_by (BuddySpace × (List Piece × (List ℕ × ℕ)))
    (coded× buddy_space_code (coded× (coded_list piece_code) (coded× (coded_list coded_ℕ) coded_ℕ)))
    (λ s. (s.space, (s.free, (s.rooms, s.chunk_room))))
    (λ c. record { space = c.0; free = c.1.0; rooms = c.1.1.0; chunk_room = c.1.1.1 })
    (λ _. refl)
