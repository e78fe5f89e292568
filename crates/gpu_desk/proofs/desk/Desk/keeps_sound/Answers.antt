use Rattle.gpu_desk.proofs.Paged.{share_no_page}
use Rattle.gpu_desk.proofs.desk.Desk.keeps_sound.Goals as goal

pub returns : goal.returns
returns c =
    rw (← c.self.view_is) (record {
      memory = c.self.invariant.kept.sound;
      names = c.keeps_names.ensures;
      pages = share_no_page c.self.inside.granularity c.self.invariant.page c.self.inside.blocks.live c.self.inside.tags.items c.self.invariant.paged c.self.invariant.kept.sound.apart;
    })
