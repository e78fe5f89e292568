use Rattle.std.proofs.Common.{◌<◌, length, ◌∙◌, arith}
use Rattle.std.proofs.lemmas.List.{length-set}
use Rattle.std.specs.FinMap as map
use Rattle.std.specs.Option.{IsSome}
use Rattle.gpu_desk.proofs.Paged.{retagged, user_set}
use Rattle.gpu_desk.proofs.desk.Desk.set_user.Goals as goal

pub invariant_of-self : goal.invariant_of-self
invariant_of-self c =
    let some : IsSome (map.get c.self.inside.blocks.live c.args.key) = rw (← c.get.ensures) (grind arith) in
    let place = c.keeps_places.ensures.within c.args.key some in
    let within : c.place_of.result < length c.self.inside.tags.items = omega (arith, place, c.place_of.ensures, c.self.invariant.tagged) in
    record {
      kept = c.self.invariant.kept;
      tagged = length-set c.self.inside.tags.items c.place_of.result _ ∙ c.self.invariant.tagged;
      page = c.self.invariant.page;
      paged = retagged c.self.inside.blocks.live c.self.inside.tags.items c.self.inside.granularity c.self.invariant.paged _
          (λ key is. user_set c.self.inside.tags.items c.place_of.result c.index_mut-tag.result.now c.args.user within c.index_mut-tag.ensures.value key);
    }
