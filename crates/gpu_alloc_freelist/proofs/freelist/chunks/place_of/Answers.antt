use Rattle.std.proofs.Common.{rules}
use Rattle.std.proofs.lemmas.List.Sorted.{answers_always}
use Rattle.gpu_alloc_freelist.proofs.FiledRows.{number_of, key_of}
use Rattle.gpu_alloc_freelist.proofs.NumberSearch.{no_number, found_number}
use Rattle.gpu_alloc_freelist.proofs.freelist.chunks.place_of.Goals as goal

-- the closure gives an entry's number

pub unreachable-requires : goal.unreachable-requires
unreachable-requires c =
    let missed = c.in-Err.ensures.position number_of (answers_always _ _ _ (λ f a r q called. search rules)) in
    no_number number_of key_of c.args.numbers.now c.requires.rising c.args.number _ missed c.requires.listed

pub returns-clause-number : goal.returns-clause-number
returns-clause-number c =
    let equal = c.in-Ok.ensures.position number_of (answers_always _ _ _ (λ f a r q called. search rules)) in
    found_number number_of key_of c.args.numbers.now c.requires.rising c.args.number c.in-Ok.place c.in-Ok.ensures.bound equal
