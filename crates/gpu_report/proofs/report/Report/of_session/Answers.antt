use Rattle.std.proofs.Common.{◌≡◌, ◌∙◌, map, ap}
use Rattle.gpu_report.specs.Session.{block_of}
use Rattle.gpu_report.proofs.Sessions.{rows_named, rows_whole, none_lacks}
use Rattle.gpu_report.proofs.report.Report.of_session.Goals as goal

pub unreachable-requires : goal.unreachable-requires
unreachable-requires g c =
    let all : c.deref-2.result.now ≡ map block_of c.in_ok-rows.rows.items = c.deref-2.ensures.value ∙ c.in_ok-blocks.ensures ∙ ap (map block_of) c.deref.ensures.value in
    let lacks = rw c.in-None.is at c.in_ok-report.ensures.missing in
    absurd (none_lacks c.args.session.now.books c.in_ok-rows.rows.items c.in_ok-rows.ensures.exact _ _ c.in_ok-rows.ensures.sound (rw (c.allocator.ensures, all) at lacks))

pub returns : goal.returns
returns g c =
    let all : c.deref-2.result.now ≡ map block_of c.in_ok-rows.rows.items = c.deref-2.ensures.value ∙ c.in_ok-blocks.ensures ∙ ap (map block_of) c.deref.ensures.value in
    let report = rw c.in-Some.is at c.in_ok-report.ensures.report in
    record {
      report = record {
        blocks = map block_of c.in_ok-rows.rows.items;
        named = rows_named c.args.session.now.books c.in_ok-rows.rows.items c.in_ok-rows.ensures.exact;
        asked = rows_whole c.args.session.now.books c.in_ok-rows.rows.items c.in_ok-rows.ensures.exact;
        report = rw (c.allocator.ensures, all) at report;
      };
    }
