use Rattle.std.proofs.Common.{Some, None, sym, ◌∙◌}
use Rattle.gpu_alloc.specs.Request.{in_pages}
use Rattle.gpu_desk.proofs.Served.{bytes_served, exact_then, pages_served}
use Rattle.gpu_desk.proofs.OpenQuestions.{alone_then, bytes_then, by_bytes, by_pages, own_by_bytes, own_by_pages}
use Rattle.gpu_desk.proofs.desk.granting.allocate.Goals as goal

pub returns-then-goes_by_pages-clause-decided : goal.returns-then-goes_by_pages-clause-decided
returns-then-goes_by_pages-clause-decided c =
    let done = c.alloc_optimal.ensures.decided in
    (done.0, done.1, by_pages c.args.allocator.now c.args.granularity c.args.request c.args.wish done.0 c.alloc_optimal.result c.alloc_optimal.new.self (sym c.goes_by_pages.ensures ∙ c.if-goes_by_pages.true) done.2)

pub returns-then-goes_by_pages-clause-alone : goal.returns-then-goes_by_pages-clause-alone
returns-then-goes_by_pages-clause-alone c =
    alone_then c.args.allocator.now c.args.granularity c.args.request c.args.wish (in_pages c.args.granularity c.args.request) c.args.wish.dedicated c.alloc_optimal.result
    (λ t. own_by_pages c.args.allocator.now c.args.granularity c.args.request c.args.wish t (sym c.goes_by_pages.ensures ∙ c.if-goes_by_pages.true)) c.alloc_optimal.ensures.alone

pub returns-in-None-clause-decided : goal.returns-in-None-clause-decided
returns-in-None-clause-decided c =
    let done = c.alloc.ensures.decided in
    (done.0, done.1, by_bytes c.args.allocator.now c.args.granularity c.args.request c.args.wish None done.0 c.alloc.result c.alloc.new.self (sym c.goes_by_pages.ensures ∙ c.if-goes_by_pages.false) c.in-None.is done.2)

pub returns-in-None-clause-alone : goal.returns-in-None-clause-alone
returns-in-None-clause-alone c =
    alone_then c.args.allocator.now c.args.granularity c.args.request c.args.wish c.args.request None c.alloc.result
    (λ t. own_by_bytes c.args.allocator.now c.args.granularity c.args.request c.args.wish None t (sym c.goes_by_pages.ensures ∙ c.if-goes_by_pages.false) c.in-None.is) c.alloc.ensures.alone

pub returns-in-Some-clause-decided : goal.returns-in-Some-clause-decided
returns-in-Some-clause-decided c =
    let done = c.alloc_with_dedicated.ensures.decided in
    (done.0, done.1, by_bytes c.args.allocator.now c.args.granularity c.args.request c.args.wish (Some c.in-Some.dedicated) done.0 c.alloc_with_dedicated.result c.alloc_with_dedicated.new.self (sym c.goes_by_pages.ensures ∙ c.if-goes_by_pages.false) c.in-Some.is done.2)

pub returns-in-Some-clause-alone : goal.returns-in-Some-clause-alone
returns-in-Some-clause-alone c =
    alone_then c.args.allocator.now c.args.granularity c.args.request c.args.wish c.args.request (Some c.in-Some.dedicated) c.alloc_with_dedicated.result
    (λ t. own_by_bytes c.args.allocator.now c.args.granularity c.args.request c.args.wish (Some c.in-Some.dedicated) t (sym c.goes_by_pages.ensures ∙ c.if-goes_by_pages.false) c.in-Some.is) c.alloc_with_dedicated.ensures.alone

pub returns-in-None-clause-pages : goal.returns-in-None-clause-pages
returns-in-None-clause-pages c =
    bytes_then c.args.allocator.now c.args.granularity c.args.request c.args.wish c.alloc.result c.alloc.new.self (sym c.goes_by_pages.ensures ∙ c.if-goes_by_pages.false) c.alloc.ensures.granted

pub returns-in-Some-clause-pages : goal.returns-in-Some-clause-pages
returns-in-Some-clause-pages c =
    bytes_then c.args.allocator.now c.args.granularity c.args.request c.args.wish c.alloc_with_dedicated.result c.alloc_with_dedicated.new.self (sym c.goes_by_pages.ensures ∙ c.if-goes_by_pages.false) c.alloc_with_dedicated.ensures.granted

pub returns-then-goes_by_pages-clause-exact : goal.returns-then-goes_by_pages-clause-exact
returns-then-goes_by_pages-clause-exact c =
    exact_then c.args.allocator.now (in_pages c.args.granularity c.args.request) _ c.alloc_optimal.result
    (pages_served c.args.granularity c.args.request c.args.wish (sym c.goes_by_pages.ensures ∙ c.if-goes_by_pages.true)) c.alloc_optimal.ensures.exact

pub returns-in-None-clause-exact : goal.returns-in-None-clause-exact
returns-in-None-clause-exact c =
    exact_then c.args.allocator.now c.args.request _ c.alloc.result
    (bytes_served c.args.granularity c.args.request c.args.wish (sym c.goes_by_pages.ensures ∙ c.if-goes_by_pages.false)) c.alloc.ensures.exact

pub returns-in-Some-clause-exact : goal.returns-in-Some-clause-exact
returns-in-Some-clause-exact c =
    exact_then c.args.allocator.now c.args.request _ c.alloc_with_dedicated.result
    (bytes_served c.args.granularity c.args.request c.args.wish (sym c.goes_by_pages.ensures ∙ c.if-goes_by_pages.false)) c.alloc_with_dedicated.ensures.exact
