use Rattle.std.proofs.Common.{◌≡◌, ◌∙◌, length, sym, ap}
use Rattle.gpu_alloc_types.specs.Properties.{properties_of}
use Rattle.gpu_answers.specs.Device.{all_shown}
use Rattle.gpu_session.proofs.Openings.{opening_is_kept}
use Rattle.gpu_desk.proofs.Paged.{empty_paged}
use Rattle.gpu_desk.proofs.desk.Desk.over.Goals as goal

pub invariant_of-result : goal.invariant_of-result
invariant_of-result c =
    let offers : c.in_ok-device.device.properties ≡ properties_of c.args.props = c.in_ok-device.ensures.offers ∙ c.again.ensures in
    let sound = rw c.in-Ok.ensures.opened at c.in-Ok.ensures.sound in
    rw (c.in-Ok.ensures.opened, c.new-2.ensures.live, offers)
    (record {
      kept = opening_is_kept c.args.sharing c.args.config (properties_of c.args.props) (all_shown (properties_of c.args.props) c.in_ok-device.device.held.objects) c.in_ok-offer.offer c.in_ok-offer.ensures sound;
      tagged = ap length c.new-3.ensures.items ∙ sym (ap length c.new-2.ensures.generations);
      page = c.requires.page;
      paged = empty_paged _ c.args.page;
    })
