use Rattle.std.proofs.Common.{◌≡◌, refl, sym, Err, ◌∙◌, ap, subst}
use Rattle.gpu_alloc_types.specs.Flags.{allocation_bits, has_bit, host_visible}
use Rattle.gpu_alloc_base.specs.Accounts.{account}
use Rattle.gpu_alloc_base.specs.Case.{Answers}
use Rattle.gpu_alloc_base.specs.NewChunk.{ChunkQuestion, chunk_question}
use Rattle.gpu_alloc_base.proofs.Books.{refused_chunk}
use Rattle.gpu_alloc_shared.specs.Shared.{ask_case, question}
use Rattle.gpu_alloc_shared.proofs.Grants.{made_objects}
use Rattle.gpu_alloc_shared.proofs.serving.take_chunk.Goals as goal

pub returns-clause-objects : goal.returns-clause-objects
returns-clause-objects g c =
    let a = account (g.S.Store.state c.args.store.now) c.args.heap.now c.args.allocations_remains.now in
    made_objects g.S.Store.rule g.met.S.Store.lawful a c.keeps_sound.ensures c.args.ask (allocation_bits c.args.flags) _ _ c.begin-block.result c.chunk_size-whole.result _
    (chunk_question c.chunk_size-whole.result c.memory_type.result (allocation_bits c.args.flags) c.intersects-visible.result) _ _
    c.reserve.ensures.kept c.begin-block.ensures.begins c.begin-block.ensures.state c.begin-block.ensures.object
    (c.memory_type.ensures ∙ ap (λ t. (g.S.Store.rule.served t).memory_type) c.reserve.ensures.kept)
    (c.intersects-visible.ensures ∙ ap (λ n. has_bit n host_visible) (c.props.ensures ∙ ap (λ t. (g.S.Store.rule.served t).props) c.reserve.ensures.kept)) refl c.in-Ok.ensures.objects

pub returns-in-Err-clause-answers : goal.returns-in-Err-clause-answers
returns-in-Err-clause-answers g c =
    let r = g.S.Store.rule in
    let t = g.S.Store.state c.args.store.now in
    let flags = allocation_bits c.args.flags in
    let case = ask_case r (account t c.args.heap.now c.args.allocations_remains.now) c.args.ask flags in
    let q : ChunkQuestion = chunk_question c.chunk_size-whole.result c.memory_type.result flags c.intersects-visible.result in
    let of_type = c.memory_type.ensures ∙ ap (λ x. (r.served x).memory_type) c.reserve.ensures.kept in
    let seen = c.intersects-visible.ensures ∙ ap (λ n. has_bit n host_visible) (c.props.ensures ∙ ap (λ x. (r.served x).props) c.reserve.ensures.kept) in
    let size = c.chunk_size-whole.ensures.is ∙ ap (λ x. r.chunk_size x c.args.heap.now c.args.ask) c.reserve.ensures.kept in
    let is : q ≡ question r t c.args.heap.now c.args.ask flags = λ i. record { size = size i; memory_type = of_type i; flags = flags; mapped = seen i } in
    let told = c.in-Err.ensures.asks in (
      told.0,
      told.1,
      subst (λ x. Answers case told.0 (Err c.in-Err.refusal) (account x c.args.heap.now c.args.allocations_remains.now)) (sym c.reserve.ensures.kept) (refused_chunk case q told.0 c.in-Err.refusal refl is c.requires.asks told.2),
    )
