-- The halves of the first lengths, one length after another.
use Rattle.std.proofs.Common.{◌≡◌, ℕ, ◌+◌, ◌<◌, List, [], ◌∷◌, ◌++◌, append_assoc, length, map, take, get_or, refl, sym, ◌∙◌, ap, arith}
use Rattle.std.proofs.lemmas.List.{append-nil, length-take-le, map-append, take_more}
use Rattle.slab.specs.Slab.{Slab}
use Rattle.gpu_alloc_base.specs.declared.piece.Piece.{Piece}
use Rattle.gpu_alloc_pairs.specs.Entry.{Entry}
use Rattle.gpu_alloc_pairs.specs.Halves.{HalfAt, free_pieces, halves_from, halves_of_length}
use Rattle.gpu_alloc_pairs.specs.declared.pair.Use.{Use}
use Rattle.gpu_alloc_pairs.specs.declared.pair.Use.TheVariants.{Free}

-- the halves of one length more come last
halves_more : (now : Use) (order : ℕ) (lengths : List (Slab Entry)) (pairs : Slab Entry)
    → halves_from now order (lengths ++ pairs ∷ []) ≡ halves_from now order lengths ++ halves_of_length now (order + length lengths) pairs
unfolding halves_from
halves_more now order [] pairs =
    let same : order ≡ order + 0 = omega arith in
    append-nil (halves_of_length now order pairs) ∙ ap (λ n. halves_of_length now n pairs) same
halves_more now order (first ∷ rest) pairs =
    let same : order + 1 + length rest ≡ order + length (first ∷ rest) = omega arith in
    ap (λ l. halves_of_length now order first ++ l) (halves_more now (order + 1) rest pairs ∙ ap (λ n. halves_from now (order + 1) rest ++ halves_of_length now n pairs) same)
    ∙ sym (append_assoc (halves_of_length now order first) (halves_from now (order + 1) rest) (halves_of_length now (order + length (first ∷ rest)) pairs))

-- of no length there are none
pub no_length : free_pieces [] ≡ []
unfolding halves_from
no_length = refl

-- before the first length nothing is made
pub none_made : {Y : Type 0} (now : Use) (make : HalfAt → Y) (front : List Y) → front ≡ front ++ map make (halves_from now 0 [])
unfolding halves_from
none_made now make front = sym (append-nil front)

-- what is made of the halves of one length more comes last
pub more_made : {Y : Type 0} (now : Use) (make : HalfAt → Y) (lengths : List (Slab Entry)) (n : ℕ) (d pairs : Slab Entry) (front old new : List Y) → n < length lengths
    → get_or lengths n d ≡ pairs → old ≡ front ++ map make (halves_from now 0 (take n lengths)) → new ≡ old ++ map make (halves_of_length now n pairs)
    → new ≡ front ++ map make (halves_from now 0 (take (n + 1) lengths))
more_made now make lengths n d pairs front old new lt is so_far pushed =
    let before = map make (halves_from now 0 (take n lengths)) in
    let count : 0 + length (take n lengths) ≡ n = omega (arith, length-take-le n lengths (omega arith)) in
    pushed ∙ ap (λ l. l ++ map make (halves_of_length now n pairs)) so_far
    ∙ append_assoc front before (map make (halves_of_length now n pairs))
    ∙ ap (λ l. front ++ l) (sym (map-append make (halves_from now 0 (take n lengths)) (halves_of_length now n pairs)))
    ∙ ap (λ k. front ++ map make (halves_from now 0 (take n lengths) ++ halves_of_length now k pairs)) (sym count)
    ∙ ap (λ l. front ++ map make l) (sym (halves_more now 0 (take n lengths) pairs))
    ∙ ap (λ x. front ++ map make (halves_from now 0 (take n lengths ++ x ∷ []))) (sym is)
    ∙ ap (λ l. front ++ map make (halves_from now 0 l)) (sym (take_more lengths n d lt))

-- the free pieces of one length more are listed
pub one_length : (lengths : List (Slab Entry)) (n : ℕ) (d pairs : Slab Entry) (old new : List Piece) → n < length lengths → get_or lengths n d ≡ pairs
    → old ≡ free_pieces (take n lengths) → new ≡ old ++ map (λ (h : HalfAt). h.piece) (halves_of_length Free n pairs) → new ≡ free_pieces (take (n + 1) lengths)
one_length lengths n d pairs old new lt is so_far pushed = more_made Free (λ h. h.piece) lengths n d pairs [] old new lt is so_far pushed
