use Rattle.std.proofs.Common.{◌∙◌, sym}
use Rattle.gpu_clients.proofs.staging.StagingPool.upload.Goals as goal

pub returns-in-Ok-clause-stored : goal.returns-in-Ok-clause-stored
returns-in-Ok-clause-stored g c =
    let made = c.in_ok-handle.ensures.made in
    let held = c.in-Ok.ensures.stored in
    let same = c.in-Ok.ensures.buffers in
    rw c.handle.view_is (held.0, held.1, (record { changed = held.1; others = λ other ne. same other ∙ made.2.0.others other ne }, held.2))

pub returns-in-Ok-clause-placed : goal.returns-in-Ok-clause-placed
returns-in-Ok-clause-placed g c =
    let placed = c.in_ok-handle.ensures.placed in
    rw c.handle.view_is (placed.0, c.in-Ok.ensures.buffers _ ∙ placed.1, placed.2)

pub returns-in-Ok-clause-keeps : goal.returns-in-Ok-clause-keeps
returns-in-Ok-clause-keeps g c =
    let make = c.in_ok-handle.ensures in
    let made = c.make.ensures.keeps in
    let filled = c.fill.ensures.keeps in
    record {
      bytes = λ key b _ before after.
          let between = sym (c.in-Ok.ensures.buffers key) ∙ after in
          c.bytes_stay.ensures.twice b _ _ _ (made.bytes key b tt before between) (filled.bytes key b (make.another key b before) between after);
      beside = λ name. filled.beside name ∙ made.beside name;
      properties = filled.properties ∙ made.properties;
    }

pub returns-in-Err-clause-keeps : goal.returns-in-Err-clause-keeps
returns-in-Err-clause-keeps g c =
    let make = c.in_ok-handle.ensures in
    let made = c.make.ensures.keeps in
    let filled = c.fill.ensures.keeps in
    record {
      bytes = λ key b _ before after.
          let another = make.another key b before in
          let between = sym (c.in-Err.ensures.gone.others key another) ∙ after in
          c.bytes_stay.ensures.twice b _ _ _ (made.bytes key b tt before between) (filled.bytes key b another between after);
      beside = λ name. filled.beside name ∙ made.beside name;
      properties = filled.properties ∙ made.properties;
    }
