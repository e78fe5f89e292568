-- Blocks that a caller has in hand.
use Rattle.std.specs.Prelude.{◌≡◌, ◌≢◌, false, List, [], ◌∷◌, ◌++◌}
use Rattle.gpu_alloc_block.specs.State.{State, Block, span_of, AreSpansApart, IsOwned, is_shared}

-- two blocks are of two objects if one of them has its own
pub record ShareNoObject (b c : Block) : Type 0 where
  pub first : is_shared b.kind ≡ false → b.object ≢ c.object
  pub second : is_shared c.kind ≡ false → b.object ≢ c.object

-- two blocks that share no byte, and so have two spans
pub record AreTwo (b c : Block) : Type 0 where
  pub apart : AreSpansApart (span_of b) (span_of c)
  pub differ : span_of b ≢ span_of c
  pub objects : ShareNoObject b c

-- the block is different from each of these
abbrev pub IsBeside : Block → List Block → Type 0
IsBeside b [] = Unit {0}
IsBeside b (c ∷ cs) = AreTwo b c × IsBeside b cs

-- all of these are live here, and no two share a byte
abbrev pub AreOwned : State → List Block → Type 0
AreOwned s [] = Unit {0}
AreOwned s (b ∷ bs) = IsOwned s b × IsBeside b bs × AreOwned s bs

-- the block, mapped otherwise or not: it is owned where it was, and differs from each block that it differed from
pub record IsSameBlock (b new : Block) : Type 0 where
  pub same : new ≡ record b { mapping = new.mapping }
  pub owned : (s : State) → IsOwned s b → IsOwned s new
  pub two : (c : Block) → AreTwo b c → AreTwo new c
  pub two_back : (c : Block) → AreTwo c b → AreTwo c new
  pub all : (s : State) (cs ds : List Block) → AreOwned s (cs ++ b ∷ ds) → AreOwned s (cs ++ new ∷ ds)
